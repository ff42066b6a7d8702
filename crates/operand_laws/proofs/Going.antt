-- The operands of a well formed tree are well formed.
use Rattle.std.proofs.Common.{◌≡◌, ◌∙◌, ◌==◌, ◌+◌, ◌<◌, ◌^◌, ℕ, Bool, true, false, List, [], ◌∷◌, Option, Some, None, sym, ap, subst, arith, if◌then◌else◌}
use Rattle.std.specs.Prelude.{All}
use Rattle.std.specs.Option.{IfSome}
use Rattle.std.proofs.lemmas.List.Elements.{All-nil, All-cons, All-head, All-tail}
use Rattle.tree_model.specs.Rows.{Row}
use Rattle.tree_model.specs.Slots.{is_operand}
use Rattle.tree_model.specs.Trees.{Tree, Forest, Part, node, no_parts, part, taken, inner, missing, part_size, forest_size, AreSized, IsPartSized}
use Rattle.tree_model.specs.Extents.{told_size}
use Rattle.tree_model.proofs.Extents.{told_size_sized}
use Rattle.row_parts.specs.Numbered.{Numbered, behind, with_slot, node_with, missing_operand, missing_at_end, operand_at, operands_from, operands_with_slots, operands_in, all_operands, in_slot, in_slots, first_of, first_in, filled_in}
use Rattle.operand_laws.specs.Formed.{AreShaped, IsPartShaped, IsFormed, IsOperandFormed}
use Rattle.operand_laws.proofs.Children.{behind_is}

-- an operand with its slot is well formed
abbrev IsSlotFormed : ℕ × Numbered → Type 0
IsSlotFormed o = IsOperandFormed o.1

-- a part that may be an operand, before others
part_formed : (n : ℕ) (r : Row) (s : ℕ) (p : Part) (os : List (ℕ × Numbered)) → IsPartSized p → IsPartShaped p → n + part_size r s p < 2 ^ 32 → All IsSlotFormed os → All IsSlotFormed (with_slot s (operand_at n r s p) os)
part_formed n r s (taken t) os sized shaped room all = all
part_formed n r s (inner t) os sized shaped room all = All-cons IsSlotFormed (s, node_with n t) os (record { sized = sized; shaped = shaped; room = room }) all
part_formed n r s (missing at) os sized shaped room all = by (is_operand r s)
  where
    by : (b : Bool) → All IsSlotFormed (with_slot s (if b then Some (missing_operand n at) else None) os)
    by true = All-cons IsSlotFormed (s, missing_operand n at) os tt all
    by false = all

-- the operands of a row, where the first part has this number
from_formed : (n : ℕ) (r : Row) (ps : Forest) → AreSized ps → AreShaped r ps → n + forest_size r ps < 2 ^ 32 → All IsSlotFormed (operands_from n r ps)
unfolding operands_from
from_formed n r no_parts sized shaped room = All-nil IsSlotFormed
from_formed n r (part s p ps) sized shaped room =
    let told : told_size r s p ≡ part_size r s p = told_size_sized r s p sized.0 in
    let goes : behind n (told_size r s p) ≡ n + part_size r s p = ap (behind n) told ∙ behind_is n (part_size r s p) (forest_size r ps) room in
    part_formed n r s p (operands_from (behind n (told_size r s p)) r ps) sized.0 shaped.1 (omega arith)
    (subst (λ m. All IsSlotFormed (operands_from m r ps)) (sym goes) (from_formed (n + part_size r s p) r ps sized.1 shaped.2 (omega arith)))

-- the operands of a node with their slots
slots_formed : (n : ℕ) (t : Tree) → IsFormed n t → All IsSlotFormed (operands_with_slots n t)
slots_formed n (node r x ps) formed =
    let size : n + (forest_size r ps + 1) < 2 ^ 32 = formed.room in
    let next : behind n 1 ≡ n + 1 = omega arith in
    subst (λ m. All IsSlotFormed (operands_from m r ps)) (sym next) (from_formed (n + 1) r ps formed.sized.1 formed.shaped.2 (omega arith))

-- those in one slot
in_slot_formed : (s : ℕ) (os : List (ℕ × Numbered)) → All IsSlotFormed os → All IsOperandFormed (in_slot s os)
in_slot_formed s [] all = All-nil IsOperandFormed
in_slot_formed s (o ∷ os) all = by (o.0 == s) (in_slot_formed s os (All-tail IsSlotFormed o os all))
  where
    by : (b : Bool) → All IsOperandFormed (in_slot s os) → All IsOperandFormed (if b then o.1 ∷ in_slot s os else in_slot s os)
    by true rest = All-cons IsOperandFormed o.1 (in_slot s os) (All-head IsSlotFormed o os all) rest
    by false rest = rest

-- those in all slots
in_slots_formed : (os : List (ℕ × Numbered)) → All IsSlotFormed os → All IsOperandFormed (in_slots os)
in_slots_formed [] all = All-nil IsOperandFormed
in_slots_formed (o ∷ os) all = All-cons IsOperandFormed o.1 (in_slots os) (All-head IsSlotFormed o os all) (in_slots_formed os (All-tail IsSlotFormed o os all))

-- the operands in a slot of a well formed node are well formed
pub operands_formed : (n : ℕ) (t : Tree) (s : ℕ) → IsFormed n t → All IsOperandFormed (operands_in n t s)
operands_formed n t s formed = in_slot_formed s (operands_with_slots n t) (slots_formed n t formed)

-- and so are all its operands
pub all_operands_formed : (n : ℕ) (t : Tree) → IsFormed n t → All IsOperandFormed (all_operands n t)
all_operands_formed n t formed = in_slots_formed (operands_with_slots n t) (slots_formed n t formed)

-- the first of some operands
first_formed : (os : List Numbered) → All IsOperandFormed os → IfSome (first_of os) IsOperandFormed
first_formed [] all = tt
first_formed (o ∷ os) all = All-head IsOperandFormed o os all

-- the first operand in a slot is well formed, where there is one
pub first_operand_formed : (n : ℕ) (t : Tree) (s : ℕ) → IsFormed n t → IfSome (first_in n t s) IsOperandFormed
first_operand_formed n t s formed = first_formed (operands_in n t s) (operands_formed n t s formed)

-- the operand that fills a slot is well formed
pub filled_formed : (n : ℕ) (t : Tree) (s : ℕ) → IsFormed n t → IsOperandFormed (filled_in n t s)
filled_formed n t s formed = by (first_in n t s) (first_operand_formed n t s formed)
  where
    by : (o : Option Numbered) → IfSome o IsOperandFormed → IsOperandFormed (elim o [ None ↦ missing_at_end n t | Some o ↦ o ])
    by None h = tt
    by (Some o) h = h
