-- The places of cases, as their rows are made one after the other, and the warnings of a match.
use Rattle.std.proofs.Common.{◌≡◌, ◌∙◌, ◌++◌, ◌+◌, ◌<◌, ℕ, List, [], ◌∷◌, length, map, drop, sym, ap, subst, append_assoc, append-nil}
use Rattle.std.specs.Prelude.{Some, None, Result, Ok, Err, OnOk, slice_index_or}
use denote.Ref.{Bor}
use Rattle.tree_model.specs.Trees.{Place}
use Rattle.tree_model.specs.Extents.{extent_of}
use Rattle.syntax_tree.specs.Names.{row_of}
use Rattle.syntax_tree.specs.View.{node_view, place_of}
use Rattle.syntax_tree.specs.declared.tree.Node.{Node, out-Node}
use Rattle.row_parts.specs.declared.slots.Operand.{Operand}
use Rattle.row_parts.specs.Numbered.{operand_view, operands_in, part_of}
use Rattle.typing_state.specs.declared.parts.Parts.{Parts}
use Rattle.typing_state.specs.Goes.{Goes, Silent}
use Rattle.use_typing.proofs.Reading.{rest_read}
use Rattle.match_warnings.specs.Warnings.{WarnsOf, WarnsAtLast, warnings_of}
use Rattle.match_warnings.proofs.Warned.{of_silent}
use Rattle.value_forms.specs.Heads.{row_at}
use Rattle.value_forms.proofs.Nodes.{row_of_node, place_of_node}
use Rattle.core_typing.specs.Cases.{place_there, places_there}

-- the places so far and those that are left
pub places_read : (xs : List Operand) (i : ℕ) (x : Operand) (old new all : List Place) → i < length xs → x ≡ slice_index_or xs i x →
    new ≡ old ++ place_there (operand_view x).at (operand_view x).part → old ++ places_there (map operand_view (drop i xs)) ≡ all → new ++ places_there (map operand_view (drop (i + 1) xs)) ≡ all
places_read xs i x old new all lt e put so =
    let rest = places_there (map operand_view (drop (i + 1) xs)) in
    ap (λ ps. ps ++ rest) put ∙ append_assoc old (place_there (operand_view x).at (operand_view x).part) rest ∙ ap (λ os. old ++ places_there os) (sym (rest_read operand_view xs i x lt e)) ∙ so

-- once no case is left
pub places_done : (xs : List Operand) (old all : List Place) → xs ≡ [] → old ++ places_there (map operand_view xs) ≡ all → old ≡ all
places_done xs old all none so = sym (append-nil old) ∙ ap (λ os. old ++ places_there (map operand_view os)) (sym none) ∙ so

-- a case more that is there
pub place_added : {A E : Type 0} (r : Result A E) (new old : List Place) (o : Operand) (nd : Bor Node) → o.node ≡ Some nd → OnOk r (new ≡ old ++ place_of o.span ∷ []) → OnOk r (new ≡ old ++ place_there (operand_view o).at (operand_view o).part)
place_added r new old o nd e put = subst (λ m. OnOk r (new ≡ old ++ place_there (place_of o.span) (part_of m o.span))) (sym e) put

-- a missing case adds none
pub place_same : (old : List Place) (o : Operand) → o.node ≡ None → old ≡ old ++ place_there (operand_view o).at (operand_view o).part
place_same old o e = sym (ap (λ m. old ++ place_there (place_of o.span) (part_of m o.span)) e ∙ append-nil old)

-- the warnings of a match come after what its cases report
pub cases_warned : {A E : Type 0} (r : Result A E) (n : ℕ) (nd : Node) (os : List Operand) (spans : List Place) (a b c d : Parts) → map operand_view os ≡ operands_in n (node_view nd) 4 → spans ≡ places_there (map operand_view os) → Goes a b →
    WarnsOf (warnings_of (row_of (out-Node nd).row) (place_of (out-Node nd).span) spans) b c → Silent c d → OnOk r (WarnsAtLast (warnings_of (row_at (node_view nd)) (extent_of (node_view nd)).span (places_there (operands_in n (node_view nd) 4))) a d)
cases_warned (Err e) n nd os spans a b c d same put goes warns silent = tt
cases_warned (Ok x) n nd os spans a b c d same put goes warns silent =
    let is = ap (warnings_of (row_of (out-Node nd).row) (place_of (out-Node nd).span)) (put ∙ ap places_there same) ∙ ap (λ r. warnings_of r (place_of (out-Node nd).span) (places_there (operands_in n (node_view nd) 4))) (sym (row_of_node nd))
    ∙ ap (λ at. warnings_of (row_at (node_view nd)) at (places_there (operands_in n (node_view nd) 4))) (sym (place_of_node nd)) in
    record { before = b; goes = goes; warns = subst (λ ws. WarnsOf ws b d) is (of_silent (warnings_of (row_of (out-Node nd).row) (place_of (out-Node nd).span) spans) b c d warns silent) }
