-- The names that patterns bind, by their operands.
use Rattle.std.proofs.Common.{◌≡◌, ◌∙◌, ◌++◌, ℕ, List, [], ◌∷◌, map, refl, sym, ap, subst}
use Rattle.std.specs.Prelude.{Some, None, OnOk, Result}
use Rattle.tree_model.specs.Rows.{Row}
use Rattle.tree_model.specs.Trees.{Extent, Forest, Tree, node}
use Rattle.syntax_tree.specs.Names.{row_of}
use Rattle.syntax_tree.specs.View.{node_view}
use Rattle.syntax_tree.specs.declared.tree.Node.{Node, out-Node}
use Rattle.syntax_tree.proofs.Views.{node_view_parts}
use Rattle.row_parts.specs.Numbered.{Numbered, behind, operands_with_slots, operands_in, all_operands, in_slot, in_slots, first_of, filled_in, missing_at_end}
use Rattle.row_parts.specs.Folds.{operand_by}
use Rattle.row_parts.proofs.Folding.{comes_to, folds_from, slot_comes, slots_come}
use Rattle.pattern_typing.specs.declared.patterns.BoundName.{BoundName}
use Rattle.pattern_typing.specs.Matching.{Binds}
use Rattle.pattern_names.specs.PatternNames.{pattern_rule, parts_of_pattern, bound_as, names_of_tree, pattern_names, field_pattern_names, names_of, names_of_fields, names_in, pattern_or_missing, side_at, sides_of}

pub parts_are : (n : ℕ) (t : Tree) → parts_of_pattern n t ≡ map (comes_to pattern_rule) (operands_with_slots n t)
unfolding parts_of_pattern
parts_are n (node r x ps) = folds_from pattern_rule (behind n 1) r ps

-- what stands in a slot
pub in_slot_are : (n : ℕ) (t : Tree) (s : ℕ) → in_slot s (parts_of_pattern n t) ≡ map (operand_by pattern_rule) (operands_in n t s)
in_slot_are n t s = ap (in_slot s) (parts_are n t) ∙ slot_comes pattern_rule s (operands_with_slots n t)

pub in_slots_are : (n : ℕ) (t : Tree) → in_slots (parts_of_pattern n t) ≡ map (operand_by pattern_rule) (all_operands n t)
in_slots_are n t = ap in_slots (parts_are n t) ∙ slots_come pattern_rule (operands_with_slots n t)

pub names_map : (os : List Numbered) → names_of (map (operand_by pattern_rule) os) ≡ names_in pattern_names os
unfolding pattern_names
names_map [] = refl
names_map (o ∷ os) = ap (λ ts. (operand_by pattern_rule o).names ++ ts) (names_map os)

pub slot_names : (n : ℕ) (t : Tree) (s : ℕ) → names_of (in_slot s (parts_of_pattern n t)) ≡ names_in pattern_names (operands_in n t s)
slot_names n t s = ap names_of (in_slot_are n t s) ∙ names_map (operands_in n t s)

pub slots_names : (n : ℕ) (t : Tree) → names_of (in_slots (parts_of_pattern n t)) ≡ names_in pattern_names (all_operands n t)
slots_names n t = ap names_of (in_slots_are n t) ∙ names_map (all_operands n t)

pub filled_names : (n : ℕ) (t : Tree) → (pattern_or_missing n t (in_slot 1 (parts_of_pattern n t))).names ≡ pattern_names (filled_in n t 1)
unfolding pattern_names
filled_names n t = ap (λ ps. (pattern_or_missing n t ps).names) (in_slot_are n t 1) ∙ by (operands_in n t 1)
  where
    by : (os : List Numbered) → (pattern_or_missing n t (map (operand_by pattern_rule) os)).names ≡ pattern_names (elim (first_of os) [ None ↦ missing_at_end n t | Some o ↦ o ])
    by [] = refl
    by (o ∷ os) = refl

-- the sides of an or-pattern
pub sides_are : (n : ℕ) (t : Tree) → sides_of (all_operands n t) (in_slots (parts_of_pattern n t)) ≡ map side_at (all_operands n t)
unfolding pattern_names
sides_are n t = ap (sides_of (all_operands n t)) (in_slots_are n t) ∙ by (all_operands n t)
  where
    by : (os : List Numbered) → sides_of os (map (operand_by pattern_rule) os) ≡ map side_at os
    by [] = refl
    by (o ∷ os) = ap (λ ss. side_at o ∷ ss) (by os)

pub fields_map : (os : List Numbered) → names_of_fields (map (operand_by pattern_rule) os) ≡ names_in field_pattern_names os
unfolding field_pattern_names
fields_map [] = refl
fields_map (o ∷ os) = ap (λ ts. (operand_by pattern_rule o).field_names ++ ts) (fields_map os)

pub fields_names : (n : ℕ) (t : Tree) → names_of_fields (in_slot 1 (parts_of_pattern n t)) ≡ names_in field_pattern_names (operands_in n t 1)
fields_names n t = ap names_of_fields (in_slot_are n t 1) ∙ fields_map (operands_in n t 1)

pub slot_binds : {A E : Type 0} (r : Result A E) (n : ℕ) (t : Tree) (s : ℕ) (os : List Numbered) (old new : List BoundName) → os ≡ operands_in n t s →
    OnOk r (Binds old new (names_in pattern_names os)) → OnOk r (Binds old new (names_of (in_slot s (parts_of_pattern n t))))
slot_binds r n t s os old new e p = subst (λ x. OnOk r (Binds old new x)) (ap (names_in pattern_names) e ∙ sym (slot_names n t s)) p

pub slots_bind : {A E : Type 0} (r : Result A E) (n : ℕ) (t : Tree) (os : List Numbered) (old new : List BoundName) → os ≡ all_operands n t →
    OnOk r (Binds old new (names_in pattern_names os)) → OnOk r (Binds old new (names_of (in_slots (parts_of_pattern n t))))
slots_bind r n t os old new e p = subst (λ x. OnOk r (Binds old new x)) (ap (names_in pattern_names) e ∙ sym (slots_names n t)) p

pub filled_binds : (n : ℕ) (t : Tree) (o : Numbered) (old new : List BoundName) → o ≡ filled_in n t 1 →
    Binds old new (pattern_names o) → Binds old new ((pattern_or_missing n t (in_slot 1 (parts_of_pattern n t))).names)
filled_binds n t o old new e p = subst (λ x. Binds old new x) (ap pattern_names e ∙ sym (filled_names n t)) p

-- the sides of an or-pattern
pub sides_come : (n : ℕ) (t : Tree) (os : List Numbered) → os ≡ all_operands n t → map side_at os ≡ sides_of (all_operands n t) (in_slots (parts_of_pattern n t))
sides_come n t os e = ap (map side_at) e ∙ sym (sides_are n t)

pub bound_row : (n : ℕ) (nd : Node) (r : Row) → row_of (out-Node nd).row ≡ r → names_of_tree n (node_view nd) ≡ bound_as r n (node_view nd)
unfolding names_of_tree parts_of_pattern
bound_row n nd r e = subst (λ q. names_of_tree n (node_view nd) ≡ bound_as q n (node_view nd)) e
    (subst (λ t. names_of_tree n t ≡ bound_as (row_of (out-Node nd).row) n t) (sym (node_view_parts nd)) (by n (row_of (out-Node nd).row) _ _))
  where
    by : (n : ℕ) (r : Row) (x : Extent) (ps : Forest) → names_of_tree n (node r x ps) ≡ bound_as r n (node r x ps)
    by n r x ps = refl
