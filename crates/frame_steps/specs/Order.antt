-- What holds of the parser's frames while it runs: those that wait wait for an operand, and their nodes are low and few.
use Rattle.std.specs.Prelude.{◌≡◌, ℕ, ◌+◌, ◌<◌, ◌≤◌, ◌^◌, max, List, [], ◌∷◌, length}
use Rattle.grammar_model.specs.Trees.{Tree, Forest, Part, node, no_parts, part, taken, inner, missing, part_height}
use Rattle.grammar_model.specs.Tables.{Table, operand}
use Rattle.grammar_model.specs.Machine.{Stack}

-- the number of nodes and missing parts
abbrev mutual
  pub nodes_of : Tree → ℕ
  nodes_of (node r f) = forest_nodes f + 1

  pub forest_nodes : Forest → ℕ
  forest_nodes no_parts = 0
  forest_nodes (part p c f) = part_nodes c + forest_nodes f

  pub part_nodes : Part → ℕ
  part_nodes (taken t) = 0
  part_nodes (inner t) = nodes_of t
  part_nodes (missing place) = 1

-- the same in the parts of a frame
abbrev pub done_nodes : List (ℕ × Part) → ℕ
done_nodes [] = 0
done_nodes (d ∷ ds) = part_nodes d.1 + done_nodes ds

-- the largest height of a node among the parts of a frame
abbrev pub highest : List (ℕ × Part) → ℕ
highest [] = 0
highest (d ∷ ds) = max (part_height d.1) (highest ds)

-- the nodes and missing parts of frames, where each frame counts for its node and for the 16 parts that may be missing when it is closed, and one more
abbrev pub weight : Stack → ℕ
weight [] = 0
weight (f ∷ S) = done_nodes f.done + 18 + weight S

-- each of these frames waits for an operand
abbrev pub AllWait : Table → Stack → Type 0
AllWait G [] = Unit {0}
AllWait G (f ∷ S) = (s : ℕ) × (n : ℕ) × (G.what f.number f.at ≡ operand s n) × AllWait G S

-- the number of each frame and the height of each of its parts are at most 512 together
abbrev pub AllLow : Stack → Type 0
AllLow [] = Unit {0}
AllLow (f ∷ S) = (highest f.done + length S + 1 ≤ 512) × AllLow S

-- all frames but the innermost wait
abbrev pub BelowWait : Table → Stack → Type 0
BelowWait G [] = Unit {0}
BelowWait G (f ∷ S) = AllWait G S

-- frames in order
pub record InOrder (G : Table) (S : Stack) : Type 0 where
  pub wait : BelowWait G S
  pub low : AllLow S
  pub light : weight S < 2 ^ 31
