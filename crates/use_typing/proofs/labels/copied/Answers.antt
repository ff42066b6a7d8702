use Rattle.std.proofs.Common.{◌≡◌, ◌∙◌, ◌≤◌, ◌<◌, ◌+◌, ◌++◌, ◌∷◌, [], List, ℕ, ap, sym, subst, map, drop, length, arith, append_assoc, append-nil}
use Rattle.std.proofs.lemmas.List.{drop_all}
use Rattle.syntax_tree.specs.View.{tok_of}
use Rattle.row_parts.specs.Numbered.{token_view}
use Rattle.use_typing.proofs.Reading.{drop_read}
use Rattle.use_typing.proofs.labels.copied.Goals as goal

-- one more of a list is copied
one_more : {A : Type 0} (old new all : List A) (x : A) (i : ℕ) → new ≡ old ++ x ∷ [] → drop i all ≡ x ∷ drop (i + 1) all → old ++ drop i all ≡ all → new ++ drop (i + 1) all ≡ all
one_more old new all x i pushed cut h = ap (λ xs. xs ++ drop (i + 1) all) pushed ∙ append_assoc old (x ∷ []) (drop (i + 1) all) ∙ ap (λ xs. old ++ xs) (sym cut) ∙ h

-- all of it is
whole : {A : Type 0} (xs all : List A) (i : ℕ) → length all ≤ i → xs ++ drop i all ≡ all → xs ≡ all
whole xs all i end h = sym (append-nil xs) ∙ ap (λ ys. xs ++ ys) (sym (drop_all i all end)) ∙ h

pub loop-qualifier-init : goal.loop-qualifier-init
loop-qualifier-init c = ap (λ xs. xs ++ c.args.path.now.qualifiers.items) c.new-qualifiers.ensures.items

pub loop-qualifier-preserved : goal.loop-qualifier-preserved
loop-qualifier-preserved c =
    let all = c.deref-qualifier-items.result.now in
    let i = c.loop-qualifier.qualifier-index in
    let x = c.qualifier-item.result in
    let lt : i < length all = let n = c.loop-qualifier-test.true in omega arith in
    one_more c.loop-qualifier.qualifiers.items c.push.new.list.items c.args.path.now.qualifiers.items x i c.in_ok-push.ensures.pushed
    (subst (λ xs. drop i xs ≡ x ∷ drop (i + 1) xs) c.deref-qualifier-items.ensures.value (drop_read all i x lt c.qualifier-item.is)) c.loop-qualifier.invariant

pub returns : goal.returns
returns c =
    let end = subst (λ xs. length xs ≤ c.loop-qualifier.qualifier-index) c.deref-qualifier-items.ensures.value c.loop-qualifier-test.false in
    ap (λ qs. record { qualifiers = map (λ t. tok_of t.now) qs; last = token_view c.args.path.now.last })
    (whole c.loop-qualifier.qualifiers.items c.args.path.now.qualifiers.items c.loop-qualifier.qualifier-index end c.loop-qualifier.invariant)
