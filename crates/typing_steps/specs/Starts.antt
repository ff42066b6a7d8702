-- The frame in which an item starts.
use Rattle.std.specs.Prelude.{ℕ, Bool, List, []}
use Rattle.type_nodes.specs.Readings.{Types}
use Rattle.typing_conditions.specs.Sights.{Sight}
use Rattle.typing_conditions.specs.Frames.{Frame}

-- the frame that starts at a state, whose nodes have their own types J: nothing is held, it may touch what stands in the roots, and `known` says whether all of names is known
abbrev pub frame_at : Sight → Types → List ℕ → Bool → Frame
frame_at a J roots known = record { start = a.nodes; types = J; roots = roots; held = λ k. []; level = a.level; owner = a.item; known = known }
