use Rattle.decl_typing.proofs.Denoting.{only_same, index_then}
use Rattle.std.proofs.Common.{◌≡◌, ◌∙◌, ◌<◌, ◌+◌, length, None, refl, sym, ap, subst}
use Rattle.typing_state.proofs.Going.{goes_refl, goes_trans}
use Rattle.type_expressions.proofs.Untyped.{untyped_same, untyped_then, noted_untyped}
use Rattle.syntax_tree.specs.View.{tok_of}
use Rattle.decl_groups.specs.declared.groups.Right.{Right}
use Rattle.decl_groups.specs.declared.groups.Right.TheVariants.{Abstract, Abbreviation, Reexport, Own}
use Rattle.decl_groups.specs.declared.groups.Told.{Told}
use Rattle.decl_typing.specs.Owned.{told_in}
use Rattle.decl_typing.specs.Entries.{IsToldEntry, second_names, names_told, names_told_if, AddsTold}
use Rattle.decl_typing.proofs.Entries.{first_none, first_more, first_all, none_added, FirstTold}
use Rattle.decl_typing.proofs.decls.told_entries.Goals.{in-Reexport, in-Own}
use Rattle.decl_typing.proofs.decls.told_entries.Goals as goal

-- nothing is told on another right side
nothing_told : (r : Right) → ((n : _) (o : _) (k : _) (t : Told) → r ≡ Reexport n o k t → ⊥) → ((n : _) (t : Told) → r ≡ Own n t → ⊥) → told_in r ≡ None
nothing_told Abstract other own = refl
nothing_told (Abbreviation n o) other own = refl
nothing_told (Reexport n o k t) other own = absurd (other n o k t refl)
nothing_told (Own n t) other own = absurd (own n t refl)

pub returns-clause-entries : goal.returns-clause-entries
returns-clause-entries c =
    let ts = c.deref-named-items.result.now in
    let names : second_names ts ≡ names_told c.match-part.told.now = ap second_names c.deref-named-items.ensures.value ∙ c.in_ok-told_names.ensures in
    let told : names_told c.match-part.told.now ≡ names_told_if (told_in c.args.part.now.right) = elim c.match-part.branch [
      | in-Reexport w ↦ ap (λ t. names_told t.now) w.told-is ∙ sym (ap (λ r. names_told_if (told_in r)) w.in-Reexport.is)
      | in-Own w ↦ ap (λ t. names_told t.now) w.told-is ∙ sym (ap (λ r. names_told_if (told_in r)) w.in-Own.is)
    ] in
    subst (λ ns. AddsTold c.args.declaration.now.value ns c.args.entries.now.items c.loop-place.entries.items) (names ∙ told)
    (first_all c.args.declaration.now.value ts c.loop-place.place c.args.entries.now.items c.loop-place.entries.items c.loop-place-test.false c.loop-place.invariant.made)

pub returns-in_default-clause-entries : goal.returns-in_default-clause-entries
returns-in_default-clause-entries c = none_added c.args.declaration.now.value c.args.part.now c.args.entries.now.items (nothing_told c.args.part.now.right c.in_default.not-Reexport c.in_default.not-Own)

pub loop-place-init : goal.loop-place-init
loop-place-init c = record { goes = goes_refl c.args.at.now; rest = only_same c.args.at.now; untyped = untyped_same c.args.at.now; made = first_none c.args.declaration.now.value _ c.args.entries.now.items }

pub loop-place-preserved : goal.loop-place-preserved
loop-place-preserved c =
    let ts = c.deref-named-items.result.now in
    let k = c.loop-place.place in
    let lt : k < length ts = c.loop-place-test.true in
    record {
      goes = goes_trans c.args.at.now c.loop-place.at c.note.new.self c.loop-place.invariant.goes c.note.ensures.goes;
      rest = index_then c.loop-place.invariant.rest c.note.ensures.rest;
      untyped = untyped_then c.loop-place.invariant.untyped (noted_untyped c.loop-place.at c.note.new.self _ _ refl c.in_ok-note.ensures.noted c.note.ensures.rest);
      made = subst (FirstTold c.args.declaration.now.value ts (k + 1) c.args.entries.now.items) (sym c.in_ok-push.ensures.pushed)
          (first_more c.args.declaration.now.value ts k c.named-item.result c.args.entries.now.items c.loop-place.entries.items c.in_ok-entry.entry lt c.named-item.is
          (λ small. subst (λ j. IsToldEntry c.args.declaration.now.value j (tok_of c.named-item.result.1.now) c.in_ok-entry.entry.value) (c.number_of.ensures small) c.in_ok-entry.ensures) c.loop-place.invariant.made);
    }

pub returns-clause-untyped : goal.returns-clause-untyped
returns-clause-untyped c = c.loop-place.invariant.untyped

pub returns-clause-goes : goal.returns-clause-goes
returns-clause-goes c = c.loop-place.invariant.goes

pub returns-in_default-clause-goes : goal.returns-in_default-clause-goes
returns-in_default-clause-goes c = goes_refl c.args.at.now

pub returns-in_default-clause-untyped : goal.returns-in_default-clause-untyped
returns-in_default-clause-untyped c = untyped_same c.args.at.now

pub returns-in_err-entry-clause-goes : goal.returns-in_err-entry-clause-goes
returns-in_err-entry-clause-goes c = c.loop-place.invariant.goes

pub returns-in_err-names-clause-goes : goal.returns-in_err-names-clause-goes
returns-in_err-names-clause-goes c = c.loop-place.invariant.goes

pub returns-in_err-note-clause-goes : goal.returns-in_err-note-clause-goes
returns-in_err-note-clause-goes c = goes_trans c.args.at.now c.loop-place.at c.note.new.self c.loop-place.invariant.goes c.note.ensures.goes

pub returns-in_err-push-clause-goes : goal.returns-in_err-push-clause-goes
returns-in_err-push-clause-goes c = goes_trans c.args.at.now c.loop-place.at c.note.new.self c.loop-place.invariant.goes c.note.ensures.goes

pub returns-in_err-told_names-clause-goes : goal.returns-in_err-told_names-clause-goes
returns-in_err-told_names-clause-goes c = goes_refl c.args.at.now

pub returns-clause-rest : goal.returns-clause-rest
returns-clause-rest c = c.loop-place.invariant.rest

pub returns-in_default-clause-rest : goal.returns-in_default-clause-rest
returns-in_default-clause-rest c = only_same c.args.at.now

pub returns-in_err-entry-clause-rest : goal.returns-in_err-entry-clause-rest
returns-in_err-entry-clause-rest c = c.loop-place.invariant.rest

pub returns-in_err-names-clause-rest : goal.returns-in_err-names-clause-rest
returns-in_err-names-clause-rest c = c.loop-place.invariant.rest

pub returns-in_err-note-clause-rest : goal.returns-in_err-note-clause-rest
returns-in_err-note-clause-rest c = index_then c.loop-place.invariant.rest c.note.ensures.rest

pub returns-in_err-push-clause-rest : goal.returns-in_err-push-clause-rest
returns-in_err-push-clause-rest c = index_then c.loop-place.invariant.rest c.note.ensures.rest

pub returns-in_err-told_names-clause-rest : goal.returns-in_err-told_names-clause-rest
returns-in_err-told_names-clause-rest c = only_same c.args.at.now
