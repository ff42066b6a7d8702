-- The operands of a node that is well formed and made of carried rows of patterns are such again.
use Rattle.std.proofs.Common.{◌≡◌, ℕ, List, [], ◌∷◌, map, zero, suc, Some, subst}
use Rattle.std.specs.Prelude.{All, slice_get}
use Rattle.std.proofs.lemmas.List.Elements.{All-head, All-tail}
use Rattle.tree_model.specs.Trees.{Place, Tree, Forest, node, inner}
use Rattle.row_parts.specs.Numbered.{Numbered, numbered, operands_in, all_operands}
use Rattle.operand_laws.specs.Formed.{row_of}
use Rattle.operand_laws.proofs.Going.{operands_formed, all_operands_formed}
use Rattle.typing_rows.specs.CarriedPatternRows.{IsCarriedPatternRow}
use Rattle.typing_rows.specs.CarriedRows.{a_pattern, sort_in, IsTreeOfCarriedPatterns}
use Rattle.typing_rows.proofs.Going.{sorted_in, all_sorted, pattern_parts}
use Rattle.pattern_rows.specs.CarriedPatterns.{IsCarriedPattern}

-- the patterns in a slot
pub slot_patterns : (n : ℕ) (at : Place) (t : Tree) (s : ℕ) → sort_in (row_of t) s ≡ a_pattern → IsCarriedPattern (numbered n at (inner t)) → All IsCarriedPattern (operands_in n t s)
slot_patterns n at t s sort h = λ k d lt. record { formed = operands_formed n t s h.formed k d lt; rows = sorted_in n t s a_pattern sort (pattern_parts t h.rows) k d lt }

-- all operands, where all are patterns
pub row_patterns : (n : ℕ) (at : Place) (t : Tree) → ((s : ℕ) → sort_in (row_of t) s ≡ a_pattern) → IsCarriedPattern (numbered n at (inner t)) → All IsCarriedPattern (all_operands n t)
row_patterns n at t sorts h = λ k d lt. record { formed = all_operands_formed n t h.formed k d lt; rows = all_sorted n t a_pattern sorts (pattern_parts t h.rows) k d lt }

-- the row of such a node is a carried one
pub row_there : (t : Tree) → IsTreeOfCarriedPatterns t → (ps : Forest) × IsCarriedPatternRow (row_of t) ps
row_there (node r x ps) h = (ps, h.0)

-- one of some operands
pub one_pattern : {X : Type 0} (f : X → Numbered) (xs : List X) (i : ℕ) (x : X) → All IsCarriedPattern (map f xs) → slice_get xs i ≡ Some x → IsCarriedPattern (f x)
one_pattern f [] i x all e = absurd (cc)
one_pattern f (y ∷ ys) zero x all e = let s : y ≡ x = cc in subst (λ z. IsCarriedPattern (f z)) s (All-head IsCarriedPattern (f y) (map f ys) all)
one_pattern f (y ∷ ys) (suc i) x all e = one_pattern f ys i x (All-tail IsCarriedPattern (f y) (map f ys) all) e
