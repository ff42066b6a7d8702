-- What the operands of a row come to is what each of them comes to.
use Rattle.std.proofs.Common.{◌≡◌, ◌∙◌, ◌==◌, ℕ, Bool, true, false, List, [], ◌∷◌, map, Some, None, refl, ap, if◌then◌else◌}
use Rattle.tree_model.specs.Rows.{Row}
use Rattle.tree_model.specs.Slots.{is_operand}
use Rattle.tree_model.specs.Extents.{told_size}
use Rattle.tree_model.specs.Trees.{Tree, Forest, Part, node, no_parts, part, taken, inner, missing}
use Rattle.row_parts.specs.Numbered.{Numbered, behind, with_slot, operand_at, operands_from, operands_with_slots, operands_in, all_operands, in_slot, in_slots, missing_operand}
use Rattle.row_parts.specs.Folds.{Rule, tree_by, operands_by, part_by, operand_by}

-- an operand with its slot, and what it comes to
abbrev pub comes_to : {A : Type 0} → Rule A → ℕ × Numbered → ℕ × A
comes_to rule o = (o.0, operand_by rule o.1)

pub folds_from : {A : Type 0} (rule : Rule A) (n : ℕ) (r : Row) (ps : Forest) → operands_by rule n r ps ≡ map (comes_to rule) (operands_from n r ps)
unfolding operands_from
folds_from rule n r no_parts = refl
folds_from rule n r (part s (taken t) ps) = folds_from rule (behind n (told_size r s (taken t))) r ps
folds_from rule n r (part s (inner t) ps) = ap (λ os. (s, tree_by rule n t) ∷ os) (folds_from rule (behind n (told_size r s (inner t))) r ps)
folds_from rule n r (part s (missing at) ps) = by (is_operand r s) (folds_from rule (behind n (told_size r s (missing at))) r ps)
  where
    by : (b : Bool) → operands_by rule (behind n (told_size r s (missing at))) r ps ≡ map (comes_to rule) (operands_from (behind n (told_size r s (missing at))) r ps) → with_slot s (if b then Some (rule.none n at) else None) (operands_by rule (behind n (told_size r s (missing at))) r ps)
        ≡ map (comes_to rule) (with_slot s (if b then Some (missing_operand n at) else None) (operands_from (behind n (told_size r s (missing at))) r ps))
    by true e = ap (λ os. (s, rule.none n at) ∷ os) e
    by false e = e

-- in one slot
pub slot_comes : {A : Type 0} (rule : Rule A) (s : ℕ) (os : List (ℕ × Numbered)) → in_slot s (map (comes_to rule) os) ≡ map (operand_by rule) (in_slot s os)
slot_comes rule s [] = refl
slot_comes rule s (o ∷ os) = by (o.0 == s) (slot_comes rule s os)
  where
    by : (b : Bool) → in_slot s (map (comes_to rule) os) ≡ map (operand_by rule) (in_slot s os) → (if b then operand_by rule o.1 ∷ in_slot s (map (comes_to rule) os) else in_slot s (map (comes_to rule) os)) ≡ map (operand_by rule) (if b then o.1 ∷ in_slot s os else in_slot s os)
    by true e = ap (λ xs. operand_by rule o.1 ∷ xs) e
    by false e = e

-- in all of them
pub slots_come : {A : Type 0} (rule : Rule A) (os : List (ℕ × Numbered)) → in_slots (map (comes_to rule) os) ≡ map (operand_by rule) (in_slots os)
slots_come rule [] = refl
slots_come rule (o ∷ os) = ap (λ xs. operand_by rule o.1 ∷ xs) (slots_come rule os)
