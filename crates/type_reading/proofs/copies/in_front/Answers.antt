use Rattle.std.proofs.Common.{◌≡◌, ◌∙◌, ◌≤◌, ◌+◌, ◌++◌, ◌∷◌, [], List, ℕ, ap, sym, subst, get_or, drop, length, append_assoc, append-nil}
use Rattle.std.proofs.lemmas.List.{drop_all, drop_more}
use Rattle.type_reading.proofs.copies.in_front.Goals as goal

-- one more of a list is copied behind what is there
one_more : {A : Type 0} (old new all whole : List A) (x : A) (i : ℕ) → new ≡ old ++ x ∷ [] → drop i all ≡ x ∷ drop (i + 1) all → old ++ drop i all ≡ whole → new ++ drop (i + 1) all ≡ whole
one_more old new all whole x i pushed cut h = ap (λ xs. xs ++ drop (i + 1) all) pushed ∙ append_assoc old (x ∷ []) (drop (i + 1) all) ∙ ap (λ xs. old ++ xs) (sym cut) ∙ h

pub loop-member-init : goal.loop-member-init
loop-member-init c = ap (λ xs. xs ++ c.args.origin.now.path.items) (c.in_ok-push.ensures.pushed ∙ ap (λ xs. xs ++ c.args.number ∷ []) c.new-path.ensures.items)

pub loop-member-preserved : goal.loop-member-preserved
loop-member-preserved c =
    let all = c.deref-member-items.result.now in
    let i = c.loop-member.member-index in
    let x = get_or all i 0 in
    one_more c.loop-member.path.items c.push-in-loop-member.new.list.items c.args.origin.now.path.items (c.args.number ∷ c.args.origin.now.path.items) x i c.in_ok-push-2.ensures.pushed
    (subst (λ xs. drop i xs ≡ x ∷ drop (i + 1) xs) c.deref-member-items.ensures.value (drop_more all i 0 c.loop-member-test.true)) c.loop-member.invariant

pub returns-clause-path : goal.returns-clause-path
returns-clause-path c =
    let i = c.loop-member.member-index in
    let end = subst (λ xs. length xs ≤ i) c.deref-member-items.ensures.value c.loop-member-test.false in
    sym (append-nil c.loop-member.path.items) ∙ ap (λ xs. c.loop-member.path.items ++ xs) (sym (drop_all i c.args.origin.now.path.items end)) ∙ c.loop-member.invariant
