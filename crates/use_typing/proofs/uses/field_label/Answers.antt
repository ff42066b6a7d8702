use Rattle.typing_state.proofs.Going.{goes_trans}
use Rattle.std.proofs.Common.{◌∙◌, option_map, ap, subst, ℕ, Ok}
use Rattle.row_parts.specs.Numbered.{path_view}
use Rattle.env_table.specs.declared.entries.Kind.TheVariants as kind
use Rattle.typing_conditions.specs.Declared.{label_in}
use Rattle.use_typing.specs.Uses.{UsesLabelIf}
use Rattle.use_typing.proofs.Telling.{behind, bound_last_tells, label_used}
use Rattle.use_typing.proofs.Constructions.{label_carried}
use Rattle.use_typing.proofs.uses.field_label.Goals as goal

pub returns-clause-tells : goal.returns-clause-tells
returns-clause-tells c =
    let p = path_view c.args.path.now in
    bound_last_tells p.last kind.Label (option_map (λ r. r.value) c.in_ok-entry.entry) c.args.at.now c.bound_last.new.self c.used_label.new.at c.args.env.now p.qualifiers c.in_ok-entry.ensures.verdict c.used_label.ensures.silent

pub returns-clause-carries : goal.returns-clause-carries
returns-clause-carries c =
    let p = path_view c.args.path.now in
    let given = option_map (λ r. r.value) c.in_ok-entry.entry in
    let same = c.label_behind.ensures ∙ ap (λ o. behind label_in (option_map (λ r. r.value) o)) c.as_ref-2.ensures.value in
    label_carried c.args.at.now c.bound_last.new.self c.used_label.new.at c.args.env.now c.in_ok-used.used given p.qualifiers p.last c.in_ok-entry.ensures.verdict
    (subst (λ o. UsesLabelIf o c.bound_last.new.self c.used_label.new.at c.in_ok-used.used) same c.in_ok-used.ensures.label) (λ e. c.used_label.ensures.none (same ∙ e)) c.used_label.ensures.rest

pub returns-clause-goes : goal.returns-clause-goes
returns-clause-goes c = goes_trans c.args.at.now c.bound_last.new.self c.used_label.new.at c.bound_last.ensures.goes c.used_label.ensures.goes

pub returns-in_err-entry-clause-goes : goal.returns-in_err-entry-clause-goes
returns-in_err-entry-clause-goes c = c.bound_last.ensures.goes

pub returns-in_err-names-clause-goes : goal.returns-in_err-names-clause-goes
returns-in_err-names-clause-goes c = c.bound_last.ensures.goes

pub returns-in_err-used-clause-goes : goal.returns-in_err-used-clause-goes
returns-in_err-used-clause-goes c = goes_trans c.args.at.now c.bound_last.new.self c.used_label.new.at c.bound_last.ensures.goes c.used_label.ensures.goes

pub returns-clause-label : goal.returns-clause-label
returns-clause-label c =
    let p = path_view c.args.path.now in
    let given = option_map (λ r. r.value) c.in_ok-entry.entry in
    let same = c.label_behind.ensures ∙ ap (λ o. behind label_in (option_map (λ r. r.value) o)) c.as_ref-2.ensures.value in
    label_used {E = ℕ} (Ok c.in_ok-used.used) p.last given c.args.at.now c.bound_last.new.self c.used_label.new.at c.args.env.now p.qualifiers c.in_ok-entry.ensures.verdict
    (subst (λ o. UsesLabelIf o c.bound_last.new.self c.used_label.new.at c.in_ok-used.used) same c.in_ok-used.ensures.label)
