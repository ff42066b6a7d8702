-- What rows of a match see of a pattern, by its operands.
use Rattle.std.proofs.Common.{◌≡◌, ◌∙◌, ◌++◌, ℕ, Bool, true, false, List, [], ◌∷◌, map, Some, None, codes, refl, sym, ap, if◌then◌else◌}
use Rattle.tree_model.specs.Trees.{Tree, node}
use Rattle.syntax_tree.specs.Names.{row_of}
use Rattle.syntax_tree.specs.View.{node_view, place_of}
use Rattle.syntax_tree.specs.declared.tree.Node.{Node, out-Node}
use Rattle.syntax_tree.proofs.Views.{node_view_parts}
use Rattle.row_parts.specs.Numbered.{Numbered, operand_view, part_of, first_in, first_of, behind, operands_with_slots, operands_in, all_operands, in_slot, in_slots}
use Rattle.row_parts.specs.Folds.{operand_by, part_at, tree_by}
use Rattle.row_parts.specs.declared.slots.Operand.{Operand}
use denote.Ref.{Bor}
use Rattle.row_parts.proofs.Folding.{comes_to, folds_from, slot_comes, slots_come}
use Rattle.env_table.specs.declared.entries.Entry.{Entry}
use Rattle.pattern_matrix.specs.Lines.{Typed, con, listed}
use Rattle.match_warnings.specs.Patterns.{cell_of, field_pattern, list_members, list_of, own_pattern, pattern_of, seen_rule, seen_parts, parts_seen, form_in, patterns_in, by_form, tree_pattern}
use Rattle.match_warnings.specs.declared.forms.Form.{Form}
use Rattle.match_warnings.specs.declared.forms.Compound.{Compound}
use Rattle.match_warnings.specs.Forms.{form_of, is_bracketed}

-- what is seen of the parts of a node is what is seen of each operand
pub parts_are : (env : List Entry) (n : ℕ) (t : Tree) → seen_parts env n t ≡ map (comes_to (seen_rule env)) (operands_with_slots n t)
unfolding seen_parts
parts_are env n (node r x ps) = folds_from (seen_rule env) (behind n 1) r ps

-- in one slot
pub slot_seen : (env : List Entry) (n : ℕ) (t : Tree) (s : ℕ) → in_slot s (seen_parts env n t) ≡ map (operand_by (seen_rule env)) (operands_in n t s)
slot_seen env n t s = ap (in_slot s) (parts_are env n t) ∙ slot_comes (seen_rule env) s (operands_with_slots n t)

-- in all of them
pub slots_seen : (env : List Entry) (n : ℕ) (t : Tree) → in_slots (seen_parts env n t) ≡ map (operand_by (seen_rule env)) (all_operands n t)
slots_seen env n t = ap in_slots (parts_are env n t) ∙ slots_come (seen_rule env) (operands_with_slots n t)

-- what is seen of the parts of a node that are patterns
pub patterns_seen : (env : List Entry) (f : Compound) (n : ℕ) (t : Tree) → parts_seen f (seen_parts env n t) ≡ map (operand_by (seen_rule env)) (patterns_in f n t)
patterns_seen env f n t = by (is_bracketed f)
  where
    by : (b : Bool) → (if b then in_slot 1 (seen_parts env n t) else in_slots (seen_parts env n t)) ≡ map (operand_by (seen_rule env)) (if b then operands_in n t 1 else all_operands n t)
    by true = slot_seen env n t 1
    by false = slots_seen env n t

-- the form of a node of the code
pub form_is : (nd : Node) → form_in (node_view nd) ≡ form_of (row_of (out-Node nd).row)
form_is nd = ap form_in (node_view_parts nd)

-- a tree's pattern is that of its form
pub tree_by_form : (env : List Entry) (n : ℕ) (t : Tree) → tree_pattern env n t ≡ by_form (form_in t) env n t (seen_parts env n t)
unfolding tree_pattern seen_parts
tree_by_form env n (node r x ps) = refl

-- and so is a node's
pub form_pattern : (env : List Entry) (n : ℕ) (nd : Node) (f : Form) → f ≡ form_of (row_of (out-Node nd).row) → tree_pattern env n (node_view nd) ≡ by_form f env n (node_view nd) (seen_parts env n (node_view nd))
form_pattern env n nd f e = tree_by_form env n (node_view nd) ∙ ap (λ g. by_form g env n (node_view nd) (seen_parts env n (node_view nd))) (form_is nd ∙ sym e)

-- patterns as the cells before a list
abbrev pub list_before : Typed → List Typed → Typed
list_before tail [] = tail
list_before tail (p ∷ ps) = cell_of p (list_before tail ps)

-- one more cell at the end of those before the list
pub list_more : (tail p : Typed) (ps : List Typed) → list_before tail (ps ++ p ∷ []) ≡ list_before (cell_of p tail) ps
list_more tail p [] = refl
list_more tail p (q ∷ ps) = ap (cell_of q) (list_more tail p ps)

-- the cells before the empty list are the list
pub list_whole : (ps : List Typed) → list_before (con list_members (codes "[]") (listed [])) ps ≡ list_of ps
list_whole [] = refl
list_whole (p ∷ ps) = ap (cell_of p) (list_whole ps)

-- an operand's pattern is what is seen of it
pub pattern_is : (env : List Entry) (o : Numbered) → pattern_of env o ≡ (operand_by (seen_rule env) o).pattern
unfolding pattern_of
pattern_is env o = refl

-- the pattern of an operand of the code that is there
pub some_pattern : (env : List Entry) (p : Operand) (nd : Bor Node) → p.node ≡ Some nd → pattern_of env (operand_view p) ≡ tree_pattern env p.number (node_view nd.now)
unfolding pattern_of tree_pattern
some_pattern env p nd e = ap (λ q. (part_at (seen_rule env) p.number (place_of p.span) (part_of q p.span)).pattern) e

-- one that is missing has none
pub none_pattern : (env : List Entry) (p : Operand) → p.node ≡ None → pattern_of env (operand_view p) ≡ None
unfolding pattern_of
none_pattern env p e = ap (λ q. (part_at (seen_rule env) p.number (place_of p.span) (part_of q p.span)).pattern) e

-- ---- fields

-- what is seen of a field, by the operand in its slot 3
pub field_seen : (env : List Entry) (n : ℕ) (t : Tree) → (tree_by (seen_rule env) n t).field ≡ own_pattern env (first_in n t 3)
unfolding seen_parts
field_seen env n (node r x ps) = ap (λ ss. field_pattern (first_of ss)) (slot_seen env n (node r x ps) 3) ∙ by (operands_in n (node r x ps) 3)
  where
    by : (os : List Numbered) → field_pattern (first_of (map (operand_by (seen_rule env)) os)) ≡ own_pattern env (first_of os)
    by [] = refl
    by (o ∷ os) = sym (pattern_is env o)
