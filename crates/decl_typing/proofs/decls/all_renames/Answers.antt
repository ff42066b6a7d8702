use Rattle.std.proofs.Common.{sym, ap, subst}
use Rattle.std.proofs.lemmas.Result.{IfOk-weaker}
use Rattle.decl_groups.specs.Marks.{AreUnset}
use Rattle.typing_state.proofs.Going.{goes_refl}
use Rattle.decl_typing.proofs.decls.all_renames.Goals as goal

pub returns-clause-goes : goal.returns-clause-goes
returns-clause-goes c = c.with_reexports.ensures.goes

pub returns-in_err-renames-clause-goes : goal.returns-in_err-renames-clause-goes
returns-in_err-renames-clause-goes c = goes_refl c.args.at.now

pub returns-clause-unset : goal.returns-clause-unset
returns-clause-unset c = IfOk-weaker c.with_reexports.result _ _ (λ rs same own. subst AreUnset (sym (ap (λ v. v.items) (same own))) (c.in_ok-renames.ensures.own own)) c.with_reexports.ensures.same
