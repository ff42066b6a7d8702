-- Following links in code: a walk has come to a node with the same root, and has links left for fewer turns than there are nodes.
use Rattle.std.proofs.Common.{◌≡◌, ℕ, ◌+◌, ◌<◌, List, length, map, get_or, Some, refl, sym, ◌∙◌, ap, subst, arith}
use Rattle.std.specs.Prelude.{slice_get, option_map}
use Rattle.std.proofs.lemmas.Option.{slice_get-map, slice_get_read}
use Rattle.type_nodes.specs.Nodes.{Node, IsRanked, IsSound}
use Rattle.type_nodes.specs.Nodes.{Node as plain}
use Rattle.type_nodes.specs.Links.{root, IsNoLink}
use Rattle.type_nodes.specs.declared.cells.Cell.{Cell}
use Rattle.type_nodes.specs.declared.cells.Cell.TheVariants.{Var, Rigid, Link, Arrow, Tuple, Con}
use Rattle.type_terms.specs.declared.types.NodeRef.{NodeRef}
use Rattle.std.proofs.lemmas.List.{length-map}
use Rattle.type_nodes.specs.Views.{node_of}
use Rattle.type_nodes.proofs.Places.{place, place_below, place_lower}
use Rattle.type_nodes.proofs.Roots.{link_down, root_link, root_here, next_stays}

pub record Walked (nodes : List Node) (n at turn : ℕ) : Type 0 where
  pub rank : ℕ → ℕ
  pub ranked : IsRanked nodes rank
  pub inside : at < length nodes
  pub room : place rank (length nodes) at + turn < length nodes
  pub same : root nodes n ≡ root nodes at

pub walk_start : (nodes : List Node) (n : ℕ) → n < length nodes → IsSound nodes → Walked nodes n n 0
walk_start nodes n lt (rank, ranked) = record {
  rank = rank;
  ranked = ranked;
  inside = lt;
  room = let h = place_below rank (length nodes) n lt in omega arith;
  same = refl;
}

-- one link further
pub walk_on : (nodes : List Node) (n at turn m : ℕ) → slice_get nodes at ≡ Some (plain.Link m) → Walked nodes n at turn → Walked nodes n m (turn + 1)
walk_on nodes n at turn m e w =
    let down = link_down nodes w.rank w.ranked at m e in
    record {
      rank = w.rank;
      ranked = w.ranked;
      inside = down.0;
      room = let h = place_lower w.rank (length nodes) m at down.0 down.1 in let r = w.room in omega arith;
      same = w.same ∙ root_link nodes (w.rank, w.ranked) at m w.inside e;
    }

-- where no link stands, the walk is at the root
pub walk_end : (nodes : List Node) (n at turn : ℕ) (c : Node) → slice_get nodes at ≡ Some c → IsNoLink c → Walked nodes n at turn → at ≡ root nodes n
walk_end nodes n at turn c e is w = sym (w.same ∙ root_here nodes at (next_stays nodes at c e is))

-- what a cell of the code means stands at its number
pub node_at : (cells : List Cell) (n : ℕ) (c : Cell) → slice_get cells n ≡ Some c → slice_get (map node_of cells) n ≡ Some (node_of c)
node_at cells n c e = slice_get-map node_of cells n ∙ ap (option_map node_of) e

-- the number of a node is that of a cell
pub cell_inside : (cells : List Cell) (n : ℕ) → n < length (map node_of cells) → n < length cells
cell_inside cells n h = subst (λ k. n < k) (length-map cells node_of) h

-- what was read from a number stands at it
pub read_at : (cells : List Cell) (n : ℕ) (c : Cell) → n < length (map node_of cells) → c ≡ get_or cells n c → slice_get (map node_of cells) n ≡ Some (node_of c)
read_at cells n c h e = node_at cells n c (slice_get_read cells (length cells) n c refl (cell_inside cells n h) e)

pub not_link : (c : Cell) → ((m : NodeRef) → c ≡ Link m → ⊥) → IsNoLink (node_of c)
not_link (Var level scope) h = tt
not_link Rigid h = tt
not_link (Link m) h = h m refl
not_link (Arrow a b) h = tt
not_link (Tuple ms) h = tt
not_link (Con o ms) h = tt
