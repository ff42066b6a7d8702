use Rattle.std.proofs.Common.{sym, subst}
use Rattle.decl_groups.specs.Marks.{AreUnset}
use Rattle.std.proofs.lemmas.Result.{on_ok_weaker, IfOk-weaker}
use Rattle.decl_typing.specs.Entries.{QuietlyEntered}
use Rattle.typing_state.specs.Goes.{Goes}
use Rattle.type_expressions.specs.Untyped.{Untyped}
use Rattle.type_expressions.proofs.Untyped.{untyped_then}
use Rattle.typing_state.proofs.Going.{goes_trans, goes_refl}
use Rattle.decl_typing.proofs.decls.declared_behind.Goals as goal

pub returns-clause-goes : goal.returns-clause-goes
returns-clause-goes c = goes_trans c.args.at.now c.group_env_quietly.new.at c.added.new.at (goes_trans c.args.at.now c.all_renames.new.at c.group_env_quietly.new.at c.all_renames.ensures.goes c.group_env_quietly.ensures.goes) c.added.ensures.goes

pub returns-in_err-inner-clause-goes : goal.returns-in_err-inner-clause-goes
returns-in_err-inner-clause-goes c = goes_trans c.args.at.now c.all_renames.new.at c.group_env_quietly.new.at c.all_renames.ensures.goes c.group_env_quietly.ensures.goes

pub returns-in_err-mentions-clause-goes : goal.returns-in_err-mentions-clause-goes
returns-in_err-mentions-clause-goes c = goes_refl c.args.at.now

pub returns-in_err-renames-clause-goes : goal.returns-in_err-renames-clause-goes
returns-in_err-renames-clause-goes c = c.all_renames.ensures.goes

pub returns-clause-untyped : goal.returns-clause-untyped
returns-clause-untyped c = on_ok_weaker c.added.result (λ x own. untyped_then (subst (λ a. Untyped a c.group_env_quietly.new.at) (c.all_renames.ensures.own own) c.in_ok-inner.ensures.untyped) x) c.added.ensures.untyped

pub returns-clause-own : goal.returns-clause-own
returns-clause-own c = IfOk-weaker c.added.result _ _ (λ d adds own.
    let same = c.all_renames.ensures.own own in
    record {
      begun = c.group_env_quietly.new.at;
      inner = c.in_ok-inner.inner;
      group = subst (λ a. QuietlyEntered a c.group_env_quietly.new.at c.args.parts.now c.args.env.now c.in_ok-inner.inner) same (c.in_ok-inner.ensures.own own);
      untyped = subst (λ a. Untyped a c.group_env_quietly.new.at) same c.in_ok-inner.ensures.untyped;
      goes = subst (λ a. Goes a c.group_env_quietly.new.at) same c.group_env_quietly.ensures.goes;
      adds = adds own (subst AreUnset (sym c.deref-2.ensures.value) (c.in_ok-renames.ensures.unset own));
    }) c.added.ensures.own
