use Rattle.std.proofs.Common.{◌≡◌, ◌∙◌, [], ◌∷◌, ◌++◌, map, reverse, sym, ap, subst}
use Rattle.decl_typing.specs.Entries.{values_of}
use Rattle.operand_laws.specs.Operands.{number_of}
use Rattle.decl_groups.specs.declared.groups.DeclarationPart.{DeclarationPart}
use Rattle.decl_typing.specs.Groups.{DeclaresEach}
use Rattle.type_expressions.proofs.Untyped.{untyped_then}
use Rattle.typing_state.proofs.Going.{goes_trans}
use Rattle.decl_typing.proofs.decls.added.Goals as goal

pub returns-clause-goes : goal.returns-clause-goes
returns-clause-goes c = goes_trans c.args.at.now c.declare_all.new.at c.report_cycles.new.at c.declare_all.ensures.goes c.report_cycles.ensures.goes

pub returns-in_err-entries-clause-goes : goal.returns-in_err-entries-clause-goes
returns-in_err-entries-clause-goes c = c.declare_all.ensures.goes

pub returns-in_err-makes-clause-goes : goal.returns-in_err-makes-clause-goes
returns-in_err-makes-clause-goes c = goes_trans c.args.at.now c.declare_all.new.at c.report_cycles.new.at c.declare_all.ensures.goes c.report_cycles.ensures.goes

pub returns-in_err-report_cycles-clause-goes : goal.returns-in_err-report_cycles-clause-goes
returns-in_err-report_cycles-clause-goes c = goes_trans c.args.at.now c.declare_all.new.at c.report_cycles.new.at c.declare_all.ensures.goes c.report_cycles.ensures.goes

pub returns-in_err-with_entries-clause-goes : goal.returns-in_err-with_entries-clause-goes
returns-in_err-with_entries-clause-goes c = goes_trans c.args.at.now c.declare_all.new.at c.report_cycles.new.at c.declare_all.ensures.goes c.report_cycles.ensures.goes

pub returns-clause-untyped : goal.returns-clause-untyped
returns-clause-untyped c = untyped_then c.in_ok-entries.ensures.untyped c.in_ok-report_cycles.ensures.untyped

pub returns-clause-own : goal.returns-clause-own
returns-clause-own c = λ own unset.
    let same = c.report_cycles.ensures.own own in
    record {
      each = subst (λ e. DeclaresEach c.args.inner.now c.args.at.now e c.args.parts.now [] c.in_ok-entries.entries.items) (sym same) (c.in_ok-entries.ensures.own own unset);
      behind = c.in_ok-with_entries.ensures ∙ ap (λ es. reverse (values_of es) ++ c.args.env.now) c.deref.ensures.value;
      makes = subst (λ i. map (λ o. o.path.items) c.in_ok-makes.makes.items ≡ map (λ (p : DeclarationPart). number_of i p.number ∷ []) c.args.parts.now) (c.report_cycles.ensures.goes.item ∙ c.declare_all.ensures.goes.item) (c.in_ok-makes.ensures unset);
    }
