-- The names that the functions of patterns bind, by the rows of patterns.
use Rattle.std.proofs.Common.{◌≡◌, ◌∙◌, ◌++◌, ℕ, List, [], ◌∷◌, map, refl, sym, ap, subst, append_assoc, append-nil}
use Rattle.std.specs.Prelude.{Option, Some, None, option_map, OnOk, Result, Ok, Err}
use denote.Ref.{Bor}
use Rattle.token_model.specs.Kinds.{Tok}
use Rattle.tree_model.specs.Rows.{Row, precord_row}
use Rattle.tree_model.specs.Trees.{Place, Tree, node}
use Rattle.syntax_tree.specs.Names.{row_of}
use Rattle.syntax_tree.specs.View.{place_of, node_view}
use Rattle.syntax_tree.specs.declared.tree.Node.{Node, out-Node}
use Rattle.syntax_tree.specs.declared.rows.RowName.{RowName}
use Rattle.row_parts.specs.Numbered.{Numbered, operand_view, part_of, operands_in, in_slot, first_of, first_in}
use Rattle.row_parts.specs.Folds.{tree_by, part_at, operand_by}
use Rattle.row_parts.specs.declared.slots.Operand.{Operand}
use Rattle.pattern_typing.specs.declared.patterns.BoundName.{BoundName}
use Rattle.pattern_typing.specs.declared.patterns.SideMatch.{SideMatch}
use Rattle.pattern_typing.specs.Matching.{Binds, side_view, tokens_of}
use Rattle.use_typing.specs.Paths.{path_at}
use Rattle.pattern_names.specs.PatternNames.{pattern_rule, parts_of_pattern, bound_as, names_of_tree, pattern_names, field_pattern_names, names_in_field, name_of, names_in, names_of_row, Side, side_at}
use Rattle.pattern_typing.proofs.PatternLaws.{in_slot_are, fields_names, bound_row}

-- names as they are bound one after the other
pub binds_more : (a b : List BoundName) (x y w : List Tok) → Binds a b x → tokens_of a ++ (x ++ y) ≡ w → tokens_of b ++ y ≡ w
binds_more a b x y w p e = ap (λ ts. ts ++ y) p.bound ∙ append_assoc (tokens_of a) x y ∙ e

-- once all are bound
pub binds_done : (a b : List BoundName) (w rest : List Tok) → rest ≡ [] → tokens_of b ++ rest ≡ tokens_of a ++ w → Binds a b w
binds_done a b w rest none e = record { bound = sym (append-nil (tokens_of b)) ∙ ap (λ ts. tokens_of b ++ ts) (sym none) ∙ e }

-- a side with the names that its pattern binds
abbrev side_with : Place → List Tok → Side
side_with at names = record { at = at; names = names }

pub side_is : (s : SideMatch) (o : Numbered) (old : List BoundName) → old ≡ [] → place_of s.part.span ≡ o.at → Binds old s.names.items (pattern_names o) → side_view s ≡ side_at o
side_is s o old none same p = ap (λ at. side_with at (tokens_of s.names.items)) same ∙ ap (side_with o.at) (p.bound ∙ ap (λ bs. tokens_of bs ++ pattern_names o) none)

pub row_names : {A E : Type 0} (r : Result A E) (n : ℕ) (nd : Node) (q : RowName) (row : Row) (a b : List BoundName) → (out-Node nd).row ≡ q → row_of q ≡ row →
    OnOk r (Binds a b (bound_as row n (node_view nd))) → OnOk r (Binds a b (names_of_tree n (node_view nd)))
row_names r n nd q row a b e k h = subst (λ ts. OnOk r (Binds a b ts)) (sym (bound_row n nd row (ap row_of e ∙ k))) h

pub names_there : (o : Operand) (nd : Bor Node) → o.node ≡ Some nd → pattern_names (operand_view o) ≡ names_of_tree o.number (node_view nd.now)
unfolding pattern_names names_of_tree
names_there o nd e = ap (λ n. (part_at pattern_rule o.number (place_of o.span) (part_of n o.span)).names) e

pub names_missing : (o : Operand) → o.node ≡ None → pattern_names (operand_view o) ≡ []
unfolding pattern_names
names_missing o e = ap (λ n. (part_at pattern_rule o.number (place_of o.span) (part_of n o.span)).names) e

pub field_names_missing : (o : Operand) → o.node ≡ None → field_pattern_names (operand_view o) ≡ []
unfolding field_pattern_names
field_names_missing o e = ap (λ n. (part_at pattern_rule o.number (place_of o.span) (part_of n o.span)).field_names) e

-- a field by the first pattern in it
first_map : {A B : Type 0} (f : A → B) (xs : List A) → first_of (map f xs) ≡ option_map f (first_of xs)
first_map f [] = refl
first_map f (x ∷ xs) = refl

field_names_are : (n : ℕ) (t : Tree) → (tree_by pattern_rule n t).field_names ≡ names_in_field t (first_of (in_slot 3 (parts_of_pattern n t)))
unfolding parts_of_pattern
field_names_are n (node r x ps) = refl

field_names_by : (n : ℕ) (t : Tree) (o : Option Numbered) → first_in n t 3 ≡ o → (tree_by pattern_rule n t).field_names ≡ names_in_field t (option_map (operand_by pattern_rule) o)
field_names_by n t o e = field_names_are n t ∙ ap (λ ps. names_in_field t (first_of ps)) (in_slot_are n t 3) ∙ ap (names_in_field t) (first_map (operand_by pattern_rule) (operands_in n t 3)) ∙ ap (λ q. names_in_field t (option_map (operand_by pattern_rule) q)) e

pub field_names_written : (o : Operand) (nd : Bor Node) (p : Numbered) → o.node ≡ Some nd → first_in o.number (node_view nd.now) 3 ≡ Some p → field_pattern_names (operand_view o) ≡ pattern_names p
unfolding field_pattern_names pattern_names
field_names_written o nd p e first =
    subst (λ n. (part_at pattern_rule o.number (place_of o.span) (part_of n o.span)).field_names ≡ (operand_by pattern_rule p).names) (sym e) (field_names_by o.number (node_view nd.now) (Some p) first)

pub field_names_alone : (o : Operand) (nd : Bor Node) → o.node ≡ Some nd → first_in o.number (node_view nd.now) 3 ≡ None → field_pattern_names (operand_view o) ≡ name_of (path_at (operand_view o).part).last
unfolding field_pattern_names
field_names_alone o nd e first =
    subst (λ n. (part_at pattern_rule o.number (place_of o.span) (part_of n o.span)).field_names ≡ name_of (path_at (part_of n o.span)).last) (sym e) (field_names_by o.number (node_view nd.now) None first)

-- what holds behind any call holds where it answers
pub on_any : {A E : Type 0} (r : Result A E) (P : Type 0) → P → OnOk r P
on_any (Ok x) P p = p
on_any (Err e) P p = tt

pub other_bound : (n : ℕ) (nd : Node) → names_of_row (row_of (out-Node nd).row) n (node_view nd) (parts_of_pattern n (node_view nd)) ≡ [] → names_of_tree n (node_view nd) ≡ []
other_bound n nd e = bound_row n nd (row_of (out-Node nd).row) refl ∙ e

pub record_binds : (n : ℕ) (t : Tree) (os : List Numbered) (a b : List BoundName) → os ≡ operands_in n t 1 → Binds a b (names_in field_pattern_names os) → Binds a b (bound_as precord_row n t)
record_binds n t os a b e p = subst (λ ts. Binds a b ts) (ap (names_in field_pattern_names) e ∙ sym (fields_names n t)) p
