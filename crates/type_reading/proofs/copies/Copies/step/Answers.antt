use Rattle.type_reading.proofs.copies.Copies.step.Goals as goal

pub returns-in-Enter-clause-goes : goal.returns-in-Enter-clause-goes
returns-in-Enter-clause-goes c = c.enter.ensures.goes

pub returns-in-Leave-clause-goes : goal.returns-in-Leave-clause-goes
returns-in-Leave-clause-goes c = c.leave.ensures.goes
