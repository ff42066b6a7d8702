-- The store: its nodes and its trail, and the states that the trail leads back to.
use Rattle.std.specs.Prelude.{◌≡◌, ℕ, ◌-◌, ◌≤◌, List, length, take, drop, slice_set}
use Rattle.undo_trail.specs.Undoing.{all_undone}
use Rattle.type_nodes.specs.Nodes.{Node, IsSound, IsPlain}

-- a write: a node was made, or a node was something else before
pub data Change : Type 0 where
  Made : Change
  Was : ℕ → Node → Change

-- a state of the store: its nodes, and the writes that led to it
pub record State : Type 0 where
  pub nodes : List Node
  pub trail : List Change

-- the state of these nodes and this trail
abbrev pub state : List Node → List Change → State
state nodes trail = record { nodes = nodes; trail = trail }

-- the nodes before a write
abbrev pub undone : Change → List Node → List Node
undone Made nodes = take (length nodes - 1) nodes
undone (Was n c) nodes = slice_set nodes n c

-- the nodes, with their levels and scopes, that undoing the trail to a mark gives
abbrev pub state_at : State → ℕ → List Node
state_at s mark = all_undone undone (drop mark s.trail) s.nodes

-- at each mark that isn't past the trail no node stands in itself, and no constructor models a rigid variable or an unknown type
pub record IsStore (s : State) : Type 0 where
  pub sound : (mark : ℕ) → mark ≤ length s.trail → IsSound (state_at s mark)
  pub plain : (mark : ℕ) → mark ≤ length s.trail → IsPlain (state_at s mark)

-- the trail grew, and the states at the marks before stay
pub record Keeps (old new : State) : Type 0 where
  pub longer : length old.trail ≤ length new.trail
  pub before : take (length old.trail) new.trail ≡ old.trail
  pub states : (mark : ℕ) → mark ≤ length old.trail → state_at new mark ≡ state_at old mark

-- the nodes that were there at the mark are as they were, and no other node is there; the states at earlier marks stay
pub record Restored (old new : State) (mark : ℕ) : Type 0 where
  pub nodes : new.nodes ≡ state_at old mark
  pub trail : new.trail ≡ take mark old.trail
  pub states : (m : ℕ) → m ≤ mark → state_at new m ≡ state_at old m
