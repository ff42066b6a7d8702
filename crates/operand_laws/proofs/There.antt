-- A slot that a row needs has an operand.
use Rattle.std.proofs.Common.{◌≡◌, ◌∙◌, ◌==◌, ℕ, Bool, true, false, ◌||◌, List, [], ◌∷◌, Some, None, refl, sym, ap, subst, if◌then◌else◌}
use Rattle.std.specs.Prelude.{nat_eq}
use Rattle.std.specs.List.{list_any, list_all}
use Rattle.std.proofs.lemmas.Bool.{eqb-true, and_parts}
use Rattle.tree_model.specs.Rows.{Row}
use Rattle.tree_model.specs.Slots.{is_operand}
use Rattle.tree_model.specs.Trees.{Tree, Forest, Part, node, no_parts, part, taken, inner, missing}
use Rattle.tree_model.specs.Extents.{told_size}
use Rattle.row_parts.specs.Numbered.{Numbered, behind, with_slot, node_with, missing_operand, operand_at, operands_from, in_slot, first_of, first_in, filled_in, missing_at_end}
use Rattle.operand_laws.specs.Formed.{row_of, needed_slots, is_needed, is_in, IsInPlace, AreShaped, IsFormed}
use Rattle.operand_laws.proofs.Children.{other_slot, same_slot}

-- what holds of each of some slots holds of one of them
one_of : (test : ℕ → Bool) (s : ℕ) (ss : List ℕ) → list_any (nat_eq s) ss ≡ true → list_all test ss ≡ true → test s ≡ true
one_of test s [] h all = absurd (cc)
one_of test s (q ∷ ss) h all = by (nat_eq s q) refl h (and_parts (test q) (list_all test ss) all) (one_of test s ss)
  where
    by : (b : Bool) → nat_eq s q ≡ b → (b || list_any (nat_eq s) ss) ≡ true → (test q ≡ true) × (list_all test ss ≡ true) → (list_any (nat_eq s) ss ≡ true → list_all test ss ≡ true → test s ≡ true) → test s ≡ true
    by true e h all further = subst (λ q. test q ≡ true) (sym (eqb-true s q e)) all.0
    by false e h all further = further h all.1

-- a needed slot has a part
needed_in : (r : Row) (s : ℕ) (ps : Forest) → is_needed r s ≡ true → list_all (λ s. is_in s ps) (needed_slots r) ≡ true → is_in s ps ≡ true
unfolding is_needed
needed_in r s ps needs all = one_of (λ s. is_in s ps) s (needed_slots r) needs all

-- a part in a slot for operands is an operand
operand_there : (n : ℕ) (r : Row) (s : ℕ) (p : Part) → is_operand r s ≡ true → IsInPlace r s p → (o : Numbered) × (operand_at n r s p ≡ Some o)
operand_there n r s (taken t) takes h = absurd (cc)
operand_there n r s (inner t) takes h = (node_with n t, refl)
operand_there n r s (missing at) takes h = (missing_operand n at, rw (takes) refl)

-- where a part is in a slot for operands, the slot has a first operand
first_there : (n : ℕ) (r : Row) (s : ℕ) (ps : Forest) → is_operand r s ≡ true → AreShaped r ps → is_in s ps ≡ true → (o : Numbered) × (first_of (in_slot s (operands_from n r ps)) ≡ Some o)
unfolding operands_from
first_there n r s no_parts takes shaped there = absurd (cc)
first_there n r s (part q p ps) takes shaped there = by (q == s) refl there (first_there (behind n (told_size r q p)) r s ps takes shaped.2)
  where
    by : (b : Bool) → (q == s) ≡ b → (if b then true else is_in s ps) ≡ true →
        (is_in s ps ≡ true → (o : Numbered) × (first_of (in_slot s (operands_from (behind n (told_size r q p)) r ps)) ≡ Some o)) →
        (o : Numbered) × (first_of (in_slot s (with_slot q (operand_at n r q p) (operands_from (behind n (told_size r q p)) r ps))) ≡ Some o)
    by true e there further =
        let (o, found) = operand_there n r q p (subst (λ s. is_operand r s ≡ true) (sym (eqb-true q s e)) takes) shaped.0 in
        (o, rw (found, same_slot q s o (operands_from (behind n (told_size r q p)) r ps) e) refl)
    by false e there further =
        let (o, found) = further there in
        (o, ap first_of (other_slot q s (operand_at n r q p) (operands_from (behind n (told_size r q p)) r ps) e) ∙ found)

-- a slot for operands that the row of a node needs has a first operand
pub needed_there : (n : ℕ) (t : Tree) (s : ℕ) → IsFormed n t → is_operand (row_of t) s ≡ true → is_needed (row_of t) s ≡ true → (o : Numbered) × (first_in n t s ≡ Some o)
needed_there n (node r x ps) s formed takes needs = first_there (behind n 1) r s ps takes formed.shaped.2 (needed_in r s ps needs formed.shaped.0)

-- the first operand in a slot is the one that fills it
filled_by : (n : ℕ) (t : Tree) (s : ℕ) (o : Numbered) → first_in n t s ≡ Some o → filled_in n t s ≡ o
filled_by n t s o found = ap (λ x. elim x [ None ↦ missing_at_end n t | Some o ↦ o ]) found

-- the operand that fills a needed slot is the first one in it
pub filled_first : (n : ℕ) (t : Tree) (s : ℕ) → IsFormed n t → is_operand (row_of t) s ≡ true → is_needed (row_of t) s ≡ true → first_in n t s ≡ Some (filled_in n t s)
filled_first n t s formed takes needs = let (o, found) = needed_there n t s formed takes needs in found ∙ ap Some (sym (filled_by n t s o found))
