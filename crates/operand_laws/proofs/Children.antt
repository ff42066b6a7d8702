-- The parts of a row in a slot for operands are the operands in it: one lemma for all sorts.
use Rattle.std.proofs.Common.{◌≡◌, ◌∙◌, ◌==◌, ◌+◌, ◌<◌, ◌^◌, ℕ, Bool, true, false, List, ◌∷◌, map, Option, Some, None, refl, sym, ap, subst, arith, if◌then◌else◌}
use Rattle.std.proofs.lemmas.Bool.{eqb-true}
use Rattle.tree_model.specs.Rows.{Row}
use Rattle.tree_model.specs.Slots.{is_operand}
use Rattle.tree_model.specs.Trees.{Place, Tree, Forest, Part, node, no_parts, part, taken, inner, missing, part_size, forest_size, AreSized}
use Rattle.tree_model.specs.Extents.{told_size}
use Rattle.tree_model.proofs.Extents.{told_size_sized}
use Rattle.row_parts.specs.Numbered.{Numbered, behind, with_slot, node_with, missing_operand, operand_at, operands_from, operands_in, in_slot}
use Rattle.typing_model.specs.Parts as parts
use Rattle.typing_model.specs.Parts.{Child}
use Rattle.typing_model.specs.Meanings.{children_of, child_of}
use Rattle.operand_laws.specs.Formed.{row_of, IsInPlace, AreShaped, IsFormed}
use Rattle.operand_laws.specs.Operands.{number_of, parts_of}

-- what the parts in a slot are, by two readings that agree on nodes and on what is missing: one of the definitions' parts, and one of operands
pub record AreOne {A : Type 0} (i s : ℕ) (f : Child → A) (g : Numbered → A) : Type 0 where
  pub of_node : (n : ℕ) (t : Tree) → f (child_of (number_of i n) s (inner t)) ≡ g (node_with n t)
  pub of_missing : (n : ℕ) (at : Place) → f (child_of (number_of i n) s (missing at)) ≡ g (missing_operand n at)

-- a part has its slot
pub child_slot : (n s : ℕ) (p : Part) → (child_of n s p).slot ≡ s
child_slot n s (taken t) = refl
child_slot n s (inner (node r x ps)) = refl
child_slot n s (missing at) = refl

-- a part of the slot comes first, and one of another slot doesn't count
pub slot_children : (n q s : ℕ) (p : Part) (cs : List Child) (b : Bool) → (q == s) ≡ b → parts.in_slot s (child_of n q p ∷ cs) ≡ (if b then child_of n q p ∷ parts.in_slot s cs else parts.in_slot s cs)
slot_children n q s p cs b e = rw (child_slot n q p, e) refl

-- an operand of another slot doesn't count
pub other_slot : (q s : ℕ) (o : Option Numbered) (os : List (ℕ × Numbered)) → (q == s) ≡ false → in_slot s (with_slot q o os) ≡ in_slot s os
other_slot q s None os e = refl
other_slot q s (Some o) os e = rw (e) refl

-- an operand of the slot comes first
pub same_slot : (q s : ℕ) (o : Numbered) (os : List (ℕ × Numbered)) → (q == s) ≡ true → in_slot s (with_slot q (Some o) os) ≡ o ∷ in_slot s os
same_slot q s o os e = rw (e) refl

-- what is in a slot for operands is an operand, and is read as one
operand_read : {A : Type 0} {f : Child → A} {g : Numbered → A} (i n : ℕ) (r : Row) (s : ℕ) (p : Part) → AreOne i s f g → is_operand r s ≡ true → IsInPlace r s p →
    (o : Numbered) × (operand_at n r s p ≡ Some o) × (f (child_of (number_of i n) s p) ≡ g o)
operand_read i n r s (taken t) one takes h = absurd (cc)
operand_read i n r s (inner t) one takes h = (node_with n t, refl, one.of_node n t)
operand_read i n r s (missing at) one takes h = (missing_operand n at, rw (takes) refl, one.of_missing n at)

-- numbers go on without an end below 2^32
pub behind_is : (n k more : ℕ) → n + (k + more) < 2 ^ 32 → behind n k ≡ n + k
behind_is n k more h = omega arith

-- the parts of a row in a slot for operands are read as the operands in it, where the first part has this number
pub from_children : {A : Type 0} {f : Child → A} {g : Numbered → A} (i n : ℕ) (r : Row) (s : ℕ) (ps : Forest) → AreOne i s f g → is_operand r s ≡ true → AreSized ps → AreShaped r ps → n + forest_size r ps < 2 ^ 32 →
    map f (parts.in_slot s (children_of (number_of i n) r ps)) ≡ map g (in_slot s (operands_from n r ps))
unfolding operands_from
from_children i n r s no_parts one takes sized shaped room = refl
from_children {A} {f} {g} i n r s (part q p ps) one takes sized shaped room =
    let told : told_size r q p ≡ part_size r q p = told_size_sized r q p sized.0 in
    let goes : behind n (told_size r q p) ≡ n + part_size r q p = ap (behind n) told ∙ behind_is n (part_size r q p) (forest_size r ps) room in
    let further : map f (parts.in_slot s (children_of (number_of i (n + part_size r q p)) r ps)) ≡ map g (in_slot s (operands_from (n + part_size r q p) r ps)) =
    from_children i (n + part_size r q p) r s ps one takes sized.1 shaped.2 (omega arith) in
    let number : number_of i (n + part_size r q p) ≡ number_of i n + part_size r q p = omega arith in
    let rest : map f (parts.in_slot s (children_of (number_of i n + part_size r q p) r ps)) ≡ map g (in_slot s (operands_from (behind n (told_size r q p)) r ps)) =
    subst (λ m. map f (parts.in_slot s (children_of m r ps)) ≡ map g (in_slot s (operands_from (behind n (told_size r q p)) r ps))) number
    (subst (λ m. map f (parts.in_slot s (children_of (number_of i (n + part_size r q p)) r ps)) ≡ map g (in_slot s (operands_from m r ps))) (sym goes) further) in
    by (q == s) refl rest
  where
    by : (b : Bool) → (q == s) ≡ b →
        map f (parts.in_slot s (children_of (number_of i n + part_size r q p) r ps)) ≡ map g (in_slot s (operands_from (behind n (told_size r q p)) r ps)) →
        map f (parts.in_slot s (children_of (number_of i n) r (part q p ps))) ≡ map g (in_slot s (with_slot q (operand_at n r q p) (operands_from (behind n (told_size r q p)) r ps)))
    by true e rest =
        let is : s ≡ q = sym (eqb-true q s e) in
        let (o, found, reads) = operand_read i n r q p (subst (λ s. AreOne i s f g) is one) (subst (λ s. is_operand r s ≡ true) is takes) shaped.0 in
        rw (slot_children (number_of i n) q s p (children_of (number_of i n + part_size r q p) r ps) true e, found, same_slot q s o (operands_from (behind n (told_size r q p)) r ps) e, reads, rest) refl
    by false e rest =
        rw (slot_children (number_of i n) q s p (children_of (number_of i n + part_size r q p) r ps) false e, other_slot q s (operand_at n r q p) (operands_from (behind n (told_size r q p)) r ps) e, rest) refl

-- the parts of a node in a slot for operands are read as the operands in it
pub reads_children : {A : Type 0} {f : Child → A} {g : Numbered → A} (i n : ℕ) (t : Tree) (s : ℕ) → AreOne i s f g → IsFormed n t → is_operand (row_of t) s ≡ true → map f (parts.in_slot s (parts_of i n t)) ≡ map g (operands_in n t s)
reads_children {A} {f} {g} i n (node r x ps) s one formed takes =
    let size : n + (forest_size r ps + 1) < 2 ^ 32 = formed.room in
    let first : number_of i (n + 1) ≡ number_of i n + 1 = omega arith in
    let next : behind n 1 ≡ n + 1 = omega arith in
    subst (λ m. map f (parts.in_slot s (children_of m r ps)) ≡ map g (in_slot s (operands_from (behind n 1) r ps))) first
    (subst (λ m. map f (parts.in_slot s (children_of (number_of i (n + 1)) r ps)) ≡ map g (in_slot s (operands_from m r ps))) (sym next)
    (from_children i (n + 1) r s ps one takes formed.sized.1 formed.shaped.2 (omega arith)))
