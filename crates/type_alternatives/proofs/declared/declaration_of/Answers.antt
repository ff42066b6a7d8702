use Rattle.std.proofs.Common.{rules, ◌≡◌, ◌∷◌, ◌++◌, [], Some, refl, sym, ◌∙◌, subst, inl, inr}
use Rattle.env_table.specs.Views.{names_of}
use Rattle.env_table.specs.declared.entries.Entry.{Entry}
use Rattle.type_alternatives.specs.Standing.{declaration_in, lists_of, StandsInAny}
use Rattle.type_alternatives.proofs.Searches.{opened, still_stands, stands_yet, stands_elsewhere, looked_at, opened_less, rest_less, any_before}
use Rattle.type_alternatives.proofs.declared.declaration_of.Goals as goal

pub returns-in-Some-declaration_of_origin : goal.returns-in-Some-declaration_of_origin
returns-in-Some-declaration_of_origin c =
    let x = c.in-Some-split_first.entry.now.value in
    let rest = lists_of c.take_last.new.left.items in
    let before : lists_of c.loop-entries.left.items ≡ rest ++ (x ∷ names_of c.in-Some-split_first.older) ∷ [] = rw (c.in-Some.ensures.some, c.in-Some-split_first.ensures.some) refl in
    record {
      entry = x;
      stands = c.loop-entries.invariant.0 x (subst (StandsInAny x) (sym before) (looked_at x rest (names_of c.in-Some-split_first.older)));
      is = search rules;
      makes = search rules;
    }

pub loop-entries-smaller-in-Continue-branch-3 : goal.loop-entries-smaller-in-Continue-branch-3
loop-entries-smaller-in-Continue-branch-3 c =
    let x = c.in-Some-split_first.entry.now.value in
    let rest = lists_of c.take_last.new.left.items in
    let before : lists_of c.loop-entries.left.items ≡ rest ++ (x ∷ names_of c.in-Some-split_first.older) ∷ [] = rw (c.in-Some.ensures.some, c.in-Some-split_first.ensures.some) refl in
    let after : lists_of c.add-in-Some-split_first-2.new.left.items ≡ opened rest x (names_of c.in-Some-split_first.older) = rw (c.in_ok-add-3.ensures, c.in_ok-add-2.ensures, c.contents.ensures, c.deref-in-Some-split_first.ensures) refl in
    rw (before, after) (opened_less x rest (names_of c.in-Some-split_first.older))

pub loop-entries-preserved-in-Continue-branch-3 : goal.loop-entries-preserved-in-Continue-branch-3
loop-entries-preserved-in-Continue-branch-3 c =
    let x = c.in-Some-split_first.entry.now.value in
    let rest = lists_of c.take_last.new.left.items in
    let older = names_of c.in-Some-split_first.older in
    let before : lists_of c.loop-entries.left.items ≡ rest ++ (x ∷ older) ∷ [] = rw (c.in-Some.ensures.some, c.in-Some-split_first.ensures.some) refl in
    let after : lists_of c.add-in-Some-split_first-2.new.left.items ≡ opened rest x older = rw (c.in_ok-add-3.ensures, c.in_ok-add-2.ensures, c.contents.ensures, c.deref-in-Some-split_first.ensures) refl in (
      λ e h. c.loop-entries.invariant.0 e (subst (StandsInAny e) (sym before) (still_stands e x rest older (subst (StandsInAny e) after h))),
      λ e d h is makes. elim (stands_yet e x rest older (subst (StandsInAny e) before (c.loop-entries.invariant.1 e d h is makes))) [
        | inl same ↦ absurd (c.in_default-declaration_of_origin.ensures.other d (subst (λ (y : Entry). declaration_in y ≡ Some d) (same ∙ sym c.deref.ensures) is) makes)
        | inr yet ↦ subst (StandsInAny e) (sym after) yet
      ],
    )

pub loop-entries-smaller : goal.loop-entries-smaller
loop-entries-smaller c =
    let rest = lists_of c.take_last.new.left.items in
    let before : lists_of c.loop-entries.left.items ≡ rest ++ [] ∷ [] = rw (c.in-Some.ensures.some, c.in_default-split_first.ensures.none) refl in
    rw before (rest_less rest)

pub loop-entries-preserved : goal.loop-entries-preserved
loop-entries-preserved c =
    let rest = lists_of c.take_last.new.left.items in
    let before : lists_of c.loop-entries.left.items ≡ rest ++ [] ∷ [] = rw (c.in-Some.ensures.some, c.in_default-split_first.ensures.none) refl in (
      λ e h. c.loop-entries.invariant.0 e (subst (StandsInAny e) (sym before) (any_before e rest h)),
      λ e d h is makes. stands_elsewhere e rest (subst (StandsInAny e) before (c.loop-entries.invariant.1 e d h is makes)),
    )
