use Rattle.typing_state.proofs.Going.{goes_refl}
use Rattle.std.proofs.Common.{subst}
use Rattle.decl_typing.specs.Owned.{IsOwnRight}
use Rattle.decl_typing.proofs.reexports.with_reexport.Goals as goal

pub returns-else-branch-2-clause-goes : goal.returns-else-branch-2-clause-goes
returns-else-branch-2-clause-goes c = c.tells_the_same.ensures.goes

pub returns-in_default-clause-goes : goal.returns-in_default-clause-goes
returns-in_default-clause-goes c = goes_refl c.args.at.now

pub returns-in_err-assumed-clause-goes : goal.returns-in_err-assumed-clause-goes
returns-in_err-assumed-clause-goes c = goes_refl c.args.at.now

pub returns-in_err-leads_to_itself-clause-goes : goal.returns-in_err-leads_to_itself-clause-goes
returns-in_err-leads_to_itself-clause-goes c = goes_refl c.args.at.now

pub returns-in_err-tells_the_same-clause-goes : goal.returns-in_err-tells_the_same-clause-goes
returns-in_err-tells_the_same-clause-goes c = c.tells_the_same.ensures.goes

pub returns-then-branch-clause-goes : goal.returns-then-branch-clause-goes
returns-then-branch-clause-goes c = goes_refl c.args.at.now

pub returns-then-branch-2-clause-goes : goal.returns-then-branch-2-clause-goes
returns-then-branch-2-clause-goes c = c.tells_the_same.ensures.goes

pub returns-else-branch-2-clause-own : goal.returns-else-branch-2-clause-own
returns-else-branch-2-clause-own c = λ own. absurd (subst IsOwnRight c.in-Reexport.is own)

pub returns-then-branch-2-clause-own : goal.returns-then-branch-2-clause-own
returns-then-branch-2-clause-own c = λ own. absurd (subst IsOwnRight c.in-Reexport.is own)

pub returns-in_err-tells_the_same-clause-own : goal.returns-in_err-tells_the_same-clause-own
returns-in_err-tells_the_same-clause-own c = λ own. absurd (subst IsOwnRight c.in-Reexport.is own)
