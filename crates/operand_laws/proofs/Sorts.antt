-- The parts of a row by their sorts are its operands by the same sorts.
use Rattle.std.proofs.Common.{◌≡◌, ◌∙◌, ℕ, true, List, [], ◌∷◌, map, filter_map, Option, Some, None, option_map, refl, sym, ap}
use Rattle.std.specs.List.{cons_option}
use Rattle.tree_model.specs.Slots.{is_operand}
use Rattle.tree_model.specs.Trees.{Place, Tree, node, inner}
use Rattle.row_parts.specs.Numbered.{numbered, operands_in, first_in, filled_in}
use Rattle.row_parts.specs.Numbered as operands
use Rattle.typing_model.specs.Parts as parts
use Rattle.typing_model.specs.Parts.{Child, expressions_in, expression_in, patterns_in, pattern_in, types_in, type_in, no_expression_at, no_pattern_at, no_type_at}
use Rattle.typing_model.specs.Meanings.{child_of, recorded_expression, recorded_pattern, recorded_type}
use Rattle.typing_model.specs.Expressions.{expression_row}
use Rattle.typing_model.specs.Patterns.{pattern_row}
use Rattle.typing_model.specs.TypeExpressions.{type_row}
use Rattle.operand_laws.specs.Formed.{row_of, is_needed, IsFormed}
use Rattle.operand_laws.specs.Operands.{number_of, parts_of, child_at, expression_of, pattern_of, type_of}
use Rattle.operand_laws.proofs.Children.{AreOne, reads_children}
use Rattle.operand_laws.proofs.There.{filled_first}

-- the expression of a part is that of the operand
expressions_are_one : (i s : ℕ) → AreOne i s (λ c. c.expression) (expression_of i)
expressions_are_one i s = record { of_node = by; of_missing = λ n at. refl }
  where
    by : (n : ℕ) (t : Tree) → (child_of (number_of i n) s (inner t)).expression ≡ expression_of i (operands.node_with n t)
    by n (node r x ps) = refl

-- the pattern of a part is that of the operand
patterns_are_one : (i s : ℕ) → AreOne i s (λ c. c.pattern) (pattern_of i)
patterns_are_one i s = record { of_node = by; of_missing = λ n at. refl }
  where
    by : (n : ℕ) (t : Tree) → (child_of (number_of i n) s (inner t)).pattern ≡ pattern_of i (operands.node_with n t)
    by n (node r x ps) = refl

-- the type expression of a part is that of the operand
types_are_one : (i s : ℕ) → AreOne i s (λ c. c.type_expression) (type_of i)
types_are_one i s = record { of_node = by; of_missing = λ n at. refl }
  where
    by : (n : ℕ) (t : Tree) → (child_of (number_of i n) s (inner t)).type_expression ≡ type_of i (operands.node_with n t)
    by n (node r x ps) = refl

-- the first of two lists that are read alike
firsts_are_one : {A X Y : Type 0} (f : X → A) (g : Y → A) (xs : List X) (ys : List Y) → map f xs ≡ map g ys → parts.first_of (map f xs) ≡ option_map g (operands.first_of ys)
firsts_are_one f g xs [] e = ap parts.first_of e
firsts_are_one f g xs (y ∷ ys) e = ap parts.first_of e

-- what is chosen of a list is what is chosen of the list read so
chosen_by_map : {X C : Type 0} (h : X → Option C) (xs : List X) → filter_map h xs ≡ filter_map (λ o. o) (map h xs)
chosen_by_map h [] = refl
chosen_by_map h (x ∷ xs) = ap (cons_option (h x)) (chosen_by_map h xs)

-- the parts in a slot for operands are the operands in it, each as a part of the row: by any reading
pub children_stand : {A : Type 0} (f : Child → A) (i n : ℕ) (t : Tree) (s : ℕ) → IsFormed n t → is_operand (row_of t) s ≡ true → map f (parts.in_slot s (parts_of i n t)) ≡ map (λ o. f (child_at i s o)) (operands_in n t s)
children_stand f i n t s formed takes = reads_children i n t s (record { of_node = λ n t. refl; of_missing = λ n at. refl }) formed takes

-- what is chosen of the parts in a slot, as cases, fields and bindings are, is chosen of the operands
pub chosen_stand : {C : Type 0} (h : Child → Option C) (i n : ℕ) (t : Tree) (s : ℕ) → IsFormed n t → is_operand (row_of t) s ≡ true → filter_map h (parts.in_slot s (parts_of i n t)) ≡ filter_map (λ o. h (child_at i s o)) (operands_in n t s)
chosen_stand h i n t s formed takes =
    chosen_by_map h (parts.in_slot s (parts_of i n t)) ∙ ap (filter_map (λ o. o)) (children_stand h i n t s formed takes) ∙ sym (chosen_by_map (λ o. h (child_at i s o)) (operands_in n t s))

-- the expressions in a slot
pub expressions_stand : (i n : ℕ) (t : Tree) (s : ℕ) → IsFormed n t → is_operand (row_of t) s ≡ true → expressions_in s (parts_of i n t) ≡ map (expression_of i) (operands_in n t s)
expressions_stand i n t s formed takes = reads_children i n t s (expressions_are_one i s) formed takes

-- the patterns in a slot
pub patterns_stand : (i n : ℕ) (t : Tree) (s : ℕ) → IsFormed n t → is_operand (row_of t) s ≡ true → patterns_in s (parts_of i n t) ≡ map (pattern_of i) (operands_in n t s)
patterns_stand i n t s formed takes = reads_children i n t s (patterns_are_one i s) formed takes

-- the type expressions in a slot
pub types_stand : (i n : ℕ) (t : Tree) (s : ℕ) → IsFormed n t → is_operand (row_of t) s ≡ true → types_in s (parts_of i n t) ≡ map (type_of i) (operands_in n t s)
types_stand i n t s formed takes = reads_children i n t s (types_are_one i s) formed takes

-- the first of a slot that may be left out
pub first_expression_stands : (i n : ℕ) (t : Tree) (s : ℕ) → IsFormed n t → is_operand (row_of t) s ≡ true → parts.first_of (expressions_in s (parts_of i n t)) ≡ option_map (expression_of i) (first_in n t s)
first_expression_stands i n t s formed takes = firsts_are_one (λ c. c.expression) (expression_of i) (parts.in_slot s (parts_of i n t)) (operands_in n t s) (expressions_stand i n t s formed takes)

-- the same of patterns
pub first_pattern_stands : (i n : ℕ) (t : Tree) (s : ℕ) → IsFormed n t → is_operand (row_of t) s ≡ true → parts.first_of (patterns_in s (parts_of i n t)) ≡ option_map (pattern_of i) (first_in n t s)
first_pattern_stands i n t s formed takes = firsts_are_one (λ c. c.pattern) (pattern_of i) (parts.in_slot s (parts_of i n t)) (operands_in n t s) (patterns_stand i n t s formed takes)

-- the same of type expressions
pub first_type_stands : (i n : ℕ) (t : Tree) (s : ℕ) → IsFormed n t → is_operand (row_of t) s ≡ true → parts.first_of (types_in s (parts_of i n t)) ≡ option_map (type_of i) (first_in n t s)
first_type_stands i n t s formed takes = firsts_are_one (λ c. c.type_expression) (type_of i) (parts.in_slot s (parts_of i n t)) (operands_in n t s) (types_stand i n t s formed takes)

-- the expression in a slot that the row needs
pub expression_stands : (i n : ℕ) (t : Tree) (s : ℕ) → IsFormed n t → is_operand (row_of t) s ≡ true → is_needed (row_of t) s ≡ true → expression_in s (parts_of i n t) ≡ expression_of i (filled_in n t s)
expression_stands i n t s formed takes needs =
    ap (λ o. elim o [ None ↦ no_expression_at 0 (record { start = 0; end = 0 }) | Some e ↦ e ]) (first_expression_stands i n t s formed takes ∙ ap (option_map (expression_of i)) (filled_first n t s formed takes needs))

-- the pattern in a slot that the row needs
pub pattern_stands : (i n : ℕ) (t : Tree) (s : ℕ) → IsFormed n t → is_operand (row_of t) s ≡ true → is_needed (row_of t) s ≡ true → pattern_in s (parts_of i n t) ≡ pattern_of i (filled_in n t s)
pattern_stands i n t s formed takes needs =
    ap (λ o. elim o [ None ↦ no_pattern_at 0 (record { start = 0; end = 0 }) | Some p ↦ p ]) (first_pattern_stands i n t s formed takes ∙ ap (option_map (pattern_of i)) (filled_first n t s formed takes needs))

-- the type expression in a slot that the row needs
pub type_stands : (i n : ℕ) (t : Tree) (s : ℕ) → IsFormed n t → is_operand (row_of t) s ≡ true → is_needed (row_of t) s ≡ true → type_in s (parts_of i n t) ≡ type_of i (filled_in n t s)
type_stands i n t s formed takes needs =
    ap (λ o. elim o [ None ↦ no_type_at 0 (record { start = 0; end = 0 }) | Some t ↦ t ]) (first_type_stands i n t s formed takes ∙ ap (option_map (type_of i)) (filled_first n t s formed takes needs))

-- a node as an expression is that of its row over its parts
pub expression_by_row : (i n : ℕ) (at : Place) (t : Tree) → expression_of i (numbered n at (inner t)) ≡ recorded_expression (number_of i n) (expression_row (row_of t) (number_of i n) at (parts_of i n t))
expression_by_row i n at (node r x ps) = refl

-- a node as a pattern
pub pattern_by_row : (i n : ℕ) (at : Place) (t : Tree) → pattern_of i (numbered n at (inner t)) ≡ recorded_pattern (number_of i n) (pattern_row (row_of t) (number_of i n) at (parts_of i n t))
pattern_by_row i n at (node r x ps) = refl

-- a node as a type expression
pub type_by_row : (i n : ℕ) (at : Place) (t : Tree) → type_of i (numbered n at (inner t)) ≡ recorded_type (number_of i n) (type_row (row_of t) (number_of i n) at (parts_of i n t))
type_by_row i n at (node r x ps) = refl
