use Rattle.use_typing.proofs.uses.built.Goals as goal

pub returns-clause-goes : goal.returns-clause-goes
returns-clause-goes c = c.instance.ensures.goes

pub returns-in_default-clause-goes : goal.returns-in_default-clause-goes
returns-in_default-clause-goes c = c.instance.ensures.goes

pub returns-in_err-instance-clause-goes : goal.returns-in_err-instance-clause-goes
returns-in_err-instance-clause-goes c = c.instance.ensures.goes
