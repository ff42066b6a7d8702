use Rattle.core_typing.proofs.exprs.type_expr.Goals as goal

pub returns-clause-carries : goal.returns-clause-carries
returns-clause-carries c = c.type_under.ensures.carries
