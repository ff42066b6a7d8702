use Rattle.use_typing.proofs.uses.instance_of.Goals as goal

pub returns-in-Scheme-clause-goes : goal.returns-in-Scheme-clause-goes
returns-in-Scheme-clause-goes c = c.instance.ensures.goes

pub returns-in_default-clause-goes : goal.returns-in_default-clause-goes
returns-in_default-clause-goes c = c.var.ensures.goes
