-- Frames stay in order while they are closed, and their nodes have room.
use Rattle.std.proofs.Common.{◌≡◌, ℕ, zero, suc, ◌+◌, ◌≤◌, max, Bool, true, false, if◌then◌else◌, List, [], ◌∷◌, Option, Some, None, refl, arith}
use Rattle.tree_model.specs.Rows as names
use Rattle.tree_model.specs.Slots.{is_operand, missing_size}
use Rattle.tree_model.specs.Extents.{extent_of, told_sizes, told_size, told_height}
use Rattle.grammar_model.specs.Trees.{Tree, Forest, Part, node, no_parts, part, taken, inner, missing, height_of, forest_height, part_height}
use Rattle.grammar_model.specs.Tables.{Table, Edge}
use Rattle.grammar_model.specs.Machine.{Frame, Stack, onto, node_of, put}
use Rattle.recovery_model.specs.Steps.{missing_at, must_of, on_edge, one_more, filled, most_parts}
use Rattle.parse_frames.specs.Frames.{sizes_in, heights_in}
use Rattle.grammar_model.specs.Named.{slot_of, named, named_parts, named_part}
use Rattle.parse_frames.specs.Named.{named_done}
use Rattle.parse_frames.proofs.Named.{part_height_named}
use Rattle.frame_steps.specs.Order.{nodes_of, forest_nodes, part_nodes, done_nodes, highest, weight, AllLow, InOrder}

-- parts put before others have the nodes of both
onto_nodes : (ds : List (ℕ × Part)) (f : Forest) → forest_nodes (onto ds f) ≡ done_nodes ds + forest_nodes f
onto_nodes [] f = omega arith
onto_nodes (d ∷ ds) f = let h : forest_nodes (onto ds (part d.0 d.1 f)) ≡ done_nodes ds + (part_nodes d.1 + forest_nodes f) = onto_nodes ds (part d.0 d.1 f) in omega arith

-- parts put before others are as high as the higher of both
onto_height : (ds : List (ℕ × Part)) (f : Forest) → forest_height (onto ds f) ≡ max (highest ds) (forest_height f)
onto_height [] f = omega arith
onto_height (d ∷ ds) f = let h : forest_height (onto ds (part d.0 d.1 f)) ≡ max (highest ds) (max (part_height d.1) (forest_height f)) = onto_height ds (part d.0 d.1 f) in omega arith

-- the node of a frame is one higher than its highest part
pub node_height : (f : Frame) → height_of (node_of f) ≡ highest f.done + 1
node_height f = let h : forest_height (onto f.done no_parts) ≡ max (highest f.done) 0 = onto_height f.done no_parts in omega arith

-- the node of a frame has one node more than its parts
node_nodes : (f : Frame) → nodes_of (node_of f) ≡ done_nodes f.done + 1
node_nodes f = let h : forest_nodes (onto f.done no_parts) ≡ done_nodes f.done + 0 = onto_nodes f.done no_parts in omega arith

-- missing parts are as many as there are steps, at most
pub filled_nodes : (fuel : ℕ) (G : Table) (f : Frame) (at : ℕ) → done_nodes (filled fuel G f at).0.done ≤ done_nodes f.done + fuel
filled_nodes zero G f at = omega arith
filled_nodes (suc fuel) G f at = by (must_of G f) (λ e. filled_nodes fuel G (missing_at f e.spot at) at)
  where
    by : (o : Option Edge) → ((e : Edge) → done_nodes (filled fuel G (missing_at f e.spot at) at).0.done ≤ done_nodes (missing_at f e.spot at).done + fuel) →
        done_nodes (on_edge o (f, 0) (λ e. one_more (filled fuel G (missing_at f e.spot at) at))).0.done ≤ done_nodes f.done + suc fuel
    by None ih = omega arith
    by (Some e) ih = let h = ih e in omega arith

-- missing parts have no height
pub filled_highest : (fuel : ℕ) (G : Table) (f : Frame) (at : ℕ) → highest (filled fuel G f at).0.done ≡ highest f.done
filled_highest zero G f at = refl
filled_highest (suc fuel) G f at = by (must_of G f) (λ e. filled_highest fuel G (missing_at f e.spot at) at)
  where
    by : (o : Option Edge) → ((e : Edge) → highest (filled fuel G (missing_at f e.spot at) at).0.done ≡ highest (missing_at f e.spot at).done) →
        highest (on_edge o (f, 0) (λ e. one_more (filled fuel G (missing_at f e.spot at) at))).0.done ≡ highest f.done
    by None ih = refl
    by (Some e) ih = let h = ih e in omega arith

-- a frame with its missing parts keeps its row
pub filled_row : (fuel : ℕ) (G : Table) (f : Frame) (at : ℕ) → (filled fuel G f at).0.number ≡ f.number
filled_row zero G f at = refl
filled_row (suc fuel) G f at = by (must_of G f) (λ e. filled_row fuel G (missing_at f e.spot at) at)
  where
    by : (o : Option Edge) → ((e : Edge) → (filled fuel G (missing_at f e.spot at) at).0.number ≡ f.number) →
        (on_edge o (f, 0) (λ e. one_more (filled fuel G (missing_at f e.spot at) at))).0.number ≡ f.number
    by None ih = refl
    by (Some e) ih = ih e

-- a frame that is closed makes the frames no heavier
pub put_light : (fuel : ℕ) → fuel ≤ 16 → (G : Table) (f g : Frame) (S : Stack) (at : ℕ) → weight (put (filled fuel G f at).0 g ∷ S) ≤ weight (f ∷ g ∷ S)
put_light fuel le G f g S at =
    let n = node_nodes (filled fuel G f at).0 in
    let h = filled_nodes fuel G f at in omega arith

-- a frame that is closed is low enough in the frame below
pub put_low : (fuel : ℕ) (G : Table) (f g : Frame) (S : Stack) (at : ℕ) → AllLow (f ∷ g ∷ S) → AllLow (put (filled fuel G f at).0 g ∷ S)
put_low fuel G f g S at (a, (b, c)) =
    let n = node_height (filled fuel G f at).0 in
    let h = filled_highest fuel G f at in (omega arith, c)

-- frames of which the innermost is closed are in order
pub put_order : (G : Table) (f g : Frame) (S : Stack) (at : ℕ) → InOrder G (f ∷ g ∷ S) → InOrder G (put (filled most_parts G f at).0 g ∷ S)
put_order G f g S at o = record {
  wait = o.wait.3;
  low = put_low most_parts G f g S at o.low;
  light = let h = put_light most_parts (omega arith) G f g S at in let l = o.light in omega arith;
}

-- a missing part counts for one node, or none
missing_few : (r : names.Row) (slot : ℕ) → missing_size r slot ≤ 1
missing_few r slot = by (is_operand r slot)
  where
    by : (b : Bool) → (if b then 1 else 0) ≤ 1
    by true = omega arith
    by false = omega arith

mutual
  -- a named tree tells no more nodes than there are
  tree_size_named : (name : ℕ → names.Row) (T : Tree) → (extent_of (named name T)).size ≤ nodes_of T
  tree_size_named name (node r f) = let h = parts_size_named name (name r) f in omega arith

  parts_size_named : (name : ℕ → names.Row) (r : names.Row) (f : Forest) → told_sizes r (named_parts name f) ≤ forest_nodes f
  parts_size_named name r no_parts = omega arith
  parts_size_named name r (part p c f) = let a = part_size_named name r (slot_of p) c in let b = parts_size_named name r f in omega arith

  part_size_named : (name : ℕ → names.Row) (r : names.Row) (slot : ℕ) (c : Part) → told_size r slot (named_part name c) ≤ part_nodes c
  part_size_named name r slot (taken t) = omega arith
  part_size_named name r slot (inner T) = tree_size_named name T
  part_size_named name r slot (missing p) = missing_few r slot

-- the parts of a frame tell no more nodes than there are, whatever its row's name
pub done_size_named : (name : ℕ → names.Row) (r : names.Row) (ds : List (ℕ × Part)) → sizes_in r (named_done name ds) ≤ done_nodes ds
done_size_named name r [] = omega arith
done_size_named name r (d ∷ ds) = let a = part_size_named name r (slot_of d.0) d.1 in let b = done_size_named name r ds in omega arith

-- the parts of a frame tell their heights
pub done_height_named : (name : ℕ → names.Row) (ds : List (ℕ × Part)) → heights_in (named_done name ds) ≡ highest ds
done_height_named name [] = refl
done_height_named name (d ∷ ds) = let a : told_height (named_part name d.1) ≡ part_height d.1 = part_height_named name d.1 in let b = done_height_named name ds in omega arith
