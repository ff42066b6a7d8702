use Rattle.use_typing.proofs.uses.built_by_unknown.Goals as goal

pub returns-clause-goes : goal.returns-clause-goes
returns-clause-goes c = c.var.ensures.goes

pub returns-in_err-var-clause-goes : goal.returns-in_err-var-clause-goes
returns-in_err-var-clause-goes c = c.var.ensures.goes
