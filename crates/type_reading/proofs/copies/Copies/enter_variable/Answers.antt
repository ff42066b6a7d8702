use Rattle.type_reading.proofs.copies.Copies.enter_variable.Goals as goal

pub returns-clause-goes : goal.returns-clause-goes
returns-clause-goes c = c.variable.ensures.goes

pub returns-in_err-copy-clause-goes : goal.returns-in_err-copy-clause-goes
returns-in_err-copy-clause-goes c = c.variable.ensures.goes
