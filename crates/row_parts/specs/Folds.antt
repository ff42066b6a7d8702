-- What a tree comes to by its rows, with the numbers of its nodes.
use Rattle.std.specs.Prelude.{ℕ, List, [], Option, Some, None, if◌then◌else◌}
use Rattle.tree_model.specs.Rows.{Row}
use Rattle.tree_model.specs.Slots.{is_operand}
use Rattle.tree_model.specs.Trees.{Place, Tree, Forest, Part, node, no_parts, part, taken, inner, missing}
use Rattle.tree_model.specs.Extents.{told_size}
use Rattle.row_parts.specs.Numbered.{Numbered, behind, with_slot}

-- a rule for rows, by what their operands come to, and one for what is missing
pub record Rule (A : Type 0) : Type 0 where
  pub row : ℕ → Tree → List (ℕ × A) → A
  pub none : ℕ → Place → A

abbrev mutual
  -- what a tree with this number comes to
  pub tree_by : {A : Type 0} → Rule A → ℕ → Tree → A
  tree_by rule n (node r x ps) = rule.row n (node r x ps) (operands_by rule (behind n 1) r ps)

  -- what the operands of a row come to, with their slots
  pub operands_by : {A : Type 0} → Rule A → ℕ → Row → Forest → List (ℕ × A)
  operands_by rule n r no_parts = []
  operands_by rule n r (part s p ps) = with_slot s (part_by rule n r s p) (operands_by rule (behind n (told_size r s p)) r ps)

  -- what a part comes to, where it is an operand
  pub part_by : {A : Type 0} → Rule A → ℕ → Row → ℕ → Part → Option A
  part_by rule n r s (taken t) = None
  part_by rule n r s (inner t) = Some (tree_by rule n t)
  part_by rule n r s (missing at) = if is_operand r s then Some (rule.none n at) else None

-- what a part with this number at this place comes to, as an operand
abbrev pub part_at : {A : Type 0} → Rule A → ℕ → Place → Part → A
part_at rule n at (taken t) = rule.none n at
part_at rule n at (inner t) = tree_by rule n t
part_at rule n at (missing q) = rule.none n at

-- what an operand comes to
abbrev pub operand_by : {A : Type 0} → Rule A → Numbered → A
operand_by rule o = part_at rule o.number o.at o.part
