-- Undoing writes of the code.
use Rattle.std.proofs.Common.{◌≡◌, ℕ, List, [], ◌∷◌, ◌++◌, take, drop, map, set, Some, sym, ◌∙◌, ap}
use Rattle.std.specs.Prelude.{slice_get, option_map}
use Rattle.std.proofs.lemmas.Option.{slice_get-map}
use Rattle.type_terms.specs.declared.types.NodeRef.{NodeRef}
use Rattle.type_nodes.specs.declared.cells.Cell.{Cell}
use Rattle.type_nodes.specs.declared.cells.Write.TheVariants.{Was}
use Rattle.type_nodes.specs.Changes.{Replaced}
use Rattle.std.proofs.lemmas.List.{drop-map, take-map, map-set, map-append}
use Rattle.undo_trail.specs.declared.Trail.{Trail}
use Rattle.undo_trail.specs.Trails.{writes_of}
use Rattle.undo_trail.specs.Undoing.{all_undone}
use Rattle.type_nodes.specs.declared.cells.Cells.{Cells}
use Rattle.type_nodes.specs.declared.cells.Write.{Write}
use Rattle.type_nodes.specs.States.{state, undone, Restored}
use Rattle.type_nodes.specs.Views.{node_of, nodes_of, change_of, state_of}
use Rattle.type_nodes.proofs.Trails.{all_undone-map, restored_at}

-- undoing the trail of the code restores the state at the mark
pub rolled_back : (cells cells' : Cells) (trail trail' : Trail Write) (mark : ℕ) →
    nodes_of cells' ≡ all_undone (λ w. undone (change_of w)) (drop mark (writes_of trail)) (nodes_of cells) →
    writes_of trail' ≡ take mark (writes_of trail) → Restored (state_of cells trail) (state_of cells' trail') mark
rolled_back cells cells' trail trail' mark p q =
    restored_at (state_of cells trail) (state_of cells' trail') mark
    (p ∙ all_undone-map change_of (drop mark (writes_of trail)) (nodes_of cells) ∙ ap (λ t. all_undone undone t (nodes_of cells)) (sym (drop-map change_of mark (writes_of trail))))
    (ap (map change_of) q ∙ sym (take-map change_of mark (writes_of trail)))

-- a cell of the code that moved into the trail while another was put in its place
pub replaced_view : (cells : Cells) (list' : List Cell) (trail trail' : Trail Write) (n : NodeRef) (b c : Cell) →
    slice_get cells.list.items n.0 ≡ Some b → list' ≡ set cells.list.items n.0 c → writes_of trail' ≡ writes_of trail ++ Was n b ∷ [] →
    Replaced (state_of cells trail) (state (map node_of list') (map change_of (writes_of trail'))) n.0 (node_of c)
replaced_view cells list' trail trail' n b c at put pushed = record {
  before = node_of b;
  was = slice_get-map node_of cells.list.items n.0 ∙ ap (option_map node_of) at;
  nodes = ap (map node_of) put ∙ map-set node_of cells.list.items n.0 c;
  trail = ap (map change_of) pushed ∙ map-append change_of (writes_of trail) (Was n b ∷ []);
}
