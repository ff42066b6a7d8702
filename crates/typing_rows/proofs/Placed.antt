-- The operands of a node are at the places of their nodes.
use Rattle.std.proofs.Common.{◌≡◌, ◌==◌, ℕ, Bool, true, false, List, [], ◌∷◌, Some, None, refl, subst, if◌then◌else◌}
use Rattle.std.specs.Prelude.{All}
use Rattle.std.proofs.lemmas.List.Elements.{All-nil, All-cons, All-head, All-tail}
use Rattle.tree_model.specs.Rows.{Row}
use Rattle.tree_model.specs.Slots.{is_operand}
use Rattle.tree_model.specs.Trees.{Tree, Forest, Part, node, no_parts, part, taken, inner, missing}
use Rattle.tree_model.specs.Extents.{told_size}
use Rattle.row_parts.specs.Numbered.{Numbered, behind, with_slot, node_with, missing_operand, missing_at_end, operand_at, operands_from, operands_with_slots, operands_in, all_operands, in_slot, in_slots, first_of, filled_in}
use Rattle.operand_laws.specs.Formed.{IsFormed}
use Rattle.operand_laws.proofs.Going.{operands_formed, all_operands_formed, filled_formed}
use Rattle.typing_rows.specs.Operands.{IsPlaced, IsTypeOperand}

-- an operand with its slot
abbrev IsSlotPlaced : ℕ × Numbered → Type 0
IsSlotPlaced o = IsPlaced o.1

part_placed : (n : ℕ) (r : Row) (s : ℕ) (p : Part) (os : List (ℕ × Numbered)) → All IsSlotPlaced os → All IsSlotPlaced (with_slot s (operand_at n r s p) os)
part_placed n r s (taken t) os all = all
part_placed n r s (inner (node q x ps)) os all = All-cons IsSlotPlaced (s, node_with n (node q x ps)) os refl all
part_placed n r s (missing at) os all = by (is_operand r s)
  where
    by : (b : Bool) → All IsSlotPlaced (with_slot s (if b then Some (missing_operand n at) else None) os)
    by true = All-cons IsSlotPlaced (s, missing_operand n at) os tt all
    by false = all

from_placed : (n : ℕ) (r : Row) (ps : Forest) → All IsSlotPlaced (operands_from n r ps)
unfolding operands_from
from_placed n r no_parts = All-nil IsSlotPlaced
from_placed n r (part s p ps) = part_placed n r s p (operands_from (behind n (told_size r s p)) r ps) (from_placed (behind n (told_size r s p)) r ps)

slots_placed : (n : ℕ) (t : Tree) → All IsSlotPlaced (operands_with_slots n t)
slots_placed n (node r x ps) = from_placed (behind n 1) r ps

in_slot_placed : (s : ℕ) (os : List (ℕ × Numbered)) → All IsSlotPlaced os → All IsPlaced (in_slot s os)
in_slot_placed s [] all = All-nil IsPlaced
in_slot_placed s (o ∷ os) all = by (o.0 == s) (in_slot_placed s os (All-tail IsSlotPlaced o os all))
  where
    by : (b : Bool) → All IsPlaced (in_slot s os) → All IsPlaced (if b then o.1 ∷ in_slot s os else in_slot s os)
    by true rest = All-cons IsPlaced o.1 (in_slot s os) (All-head IsSlotPlaced o os all) rest
    by false rest = rest

in_slots_placed : (os : List (ℕ × Numbered)) → All IsSlotPlaced os → All IsPlaced (in_slots os)
in_slots_placed [] all = All-nil IsPlaced
in_slots_placed (o ∷ os) all = All-cons IsPlaced o.1 (in_slots os) (All-head IsSlotPlaced o os all) (in_slots_placed os (All-tail IsSlotPlaced o os all))

-- the operands in a slot of a well formed node
pub slot_operands : (n : ℕ) (t : Tree) (s : ℕ) → IsFormed n t → All IsTypeOperand (operands_in n t s)
slot_operands n t s formed = λ k d lt. record { formed = operands_formed n t s formed k d lt; placed = in_slot_placed s (operands_with_slots n t) (slots_placed n t) k d lt }

-- all its operands
pub row_operands : (n : ℕ) (t : Tree) → IsFormed n t → All IsTypeOperand (all_operands n t)
row_operands n t formed = λ k d lt. record { formed = all_operands_formed n t formed k d lt; placed = in_slots_placed (operands_with_slots n t) (slots_placed n t) k d lt }

first_placed : (n : ℕ) (t : Tree) (os : List Numbered) → All IsPlaced os → IsPlaced (elim (first_of os) [ None ↦ missing_at_end n t | Some o ↦ o ])
first_placed n t [] all = tt
first_placed n t (o ∷ os) all = All-head IsPlaced o os all

-- the operand that fills a slot
pub filled_operand : (n : ℕ) (t : Tree) (s : ℕ) → IsFormed n t → IsTypeOperand (filled_in n t s)
filled_operand n t s formed = record { formed = filled_formed n t s formed; placed = first_placed n t (operands_in n t s) (in_slot_placed s (operands_with_slots n t) (slots_placed n t)) }

-- the first operand in a slot, where there is one
pub first_operand : (n : ℕ) (t : Tree) (s : ℕ) (o : Numbered) → IsFormed n t → first_of (operands_in n t s) ≡ Some o → IsTypeOperand o
first_operand n t s o formed is = by (operands_in n t s) (slot_operands n t s formed) is
  where
    by : (os : List Numbered) → All IsTypeOperand os → first_of os ≡ Some o → IsTypeOperand o
    by [] all e = absurd (cc)
    by (p ∷ ps) all e = let s : p ≡ o = cc in subst IsTypeOperand s (All-head IsTypeOperand p ps all)
