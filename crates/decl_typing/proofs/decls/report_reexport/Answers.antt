use Rattle.std.proofs.Common.{subst}
use Rattle.decl_typing.specs.Owned.{IsOwnRight}
use Rattle.type_expressions.proofs.Untyped.{untyped_same, faults_untyped, ok_any}
use Rattle.typing_state.proofs.Going.{goes_refl}
use Rattle.decl_typing.proofs.decls.report_reexport.Goals as goal

pub returns-in-Some-last_token-clause-goes : goal.returns-in-Some-last_token-clause-goes
returns-in-Some-last_token-clause-goes c = c.differs_from.ensures.goes

pub returns-in_default-clause-goes : goal.returns-in_default-clause-goes
returns-in_default-clause-goes c = goes_refl c.args.at.now

pub returns-in_default-last_token-clause-goes : goal.returns-in_default-last_token-clause-goes
returns-in_default-last_token-clause-goes c = goes_refl c.args.at.now

pub returns-in_default-node-clause-goes : goal.returns-in_default-node-clause-goes
returns-in_default-node-clause-goes c = goes_refl c.args.at.now

pub returns-then-renamed-clause-goes : goal.returns-then-renamed-clause-goes
returns-then-renamed-clause-goes c = goes_refl c.args.at.now

pub returns-in-Some-last_token-clause-untyped : goal.returns-in-Some-last_token-clause-untyped
returns-in-Some-last_token-clause-untyped c = ok_any c.differs_from.result _ (faults_untyped c.args.at.now c.differs_from.new.self c.differs_from.ensures.rest)

pub returns-in_default-clause-untyped : goal.returns-in_default-clause-untyped
returns-in_default-clause-untyped c = untyped_same c.args.at.now

pub returns-in_default-last_token-clause-untyped : goal.returns-in_default-last_token-clause-untyped
returns-in_default-last_token-clause-untyped c = untyped_same c.args.at.now

pub returns-in_default-node-clause-untyped : goal.returns-in_default-node-clause-untyped
returns-in_default-node-clause-untyped c = untyped_same c.args.at.now

pub returns-then-renamed-clause-untyped : goal.returns-then-renamed-clause-untyped
returns-then-renamed-clause-untyped c = untyped_same c.args.at.now

pub returns-in-Some-last_token-clause-own : goal.returns-in-Some-last_token-clause-own
returns-in-Some-last_token-clause-own c = λ own. absurd (subst IsOwnRight c.in-Reexport.is own)
