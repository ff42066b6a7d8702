-- The frames of the parser as the code keeps them: a finished operand has the name of its row and no number.
use Rattle.std.specs.Prelude.{ℕ, ◌+◌, ◌-◌, ◌^◌, max, min, List, [], ◌∷◌, ◌++◌, length, Option, Some, None}
use Rattle.token_model.specs.Kinds.{Tok}
use Rattle.tree_model.specs.Rows.{Row}
use Rattle.tree_model.specs.Trees.{place, Tree, Forest, Part, no_parts, part, taken, inner, missing}
use Rattle.tree_model.specs.Extents.{node_over, told_size, told_height}
use Rattle.grammar_model.specs.Named.{slot_of, inner_of}
use Rattle.grammar_model.specs.Tables.{Last, plain, row}

-- a row in progress: its number, the spot of its newest part, and its parts with their slots, the newest first
pub record Frame : Type 0 where
  pub number : ℕ
  pub spot : ℕ
  pub done : List (ℕ × Part)

-- a row in progress: its number, the spot of its newest part, and its parts with their slots
abbrev pub frame : ℕ → ℕ → List (ℕ × Part) → Frame
frame r p done = record { number = r; spot = p; done = done }

-- the innermost frame, those that wait below it, the innermost first, what the newest part is as an operand, and the end of the last token taken
pub record Stack : Type 0 where
  pub top : Frame
  pub below : List Frame
  pub last : Last
  pub place : ℕ

-- the innermost frame, those below it, what its newest part is, and the end of the last token taken
abbrev pub stack : Frame → List Frame → Last → ℕ → Stack
stack f fs last p = record { top = f; below = fs; last = last; place = p }

-- no token, in a frame of the row of a whole text
abbrev pub started : ℕ → Stack
started root = stack (frame root 0 []) [] plain 0

-- a frame with one part more, at a spot
abbrev pub with_part : ℕ → Part → Frame → Frame
with_part p c f = frame f.number p ((slot_of p, c) ∷ f.done)

-- a token is taken at a spot of the innermost frame
abbrev pub with_token : ℕ → Tok → Stack → Stack
with_token p t s = stack (with_part p (taken t) s.top) s.below plain t.end

-- a part of the innermost frame is missing, at the end of the last token taken; an operand may be grown, a token not
abbrev pub with_missing : ℕ → Last → Stack → Stack
with_missing p last s = stack (with_part p (missing (place s.place s.place)) s.top) s.below last s.place

-- the innermost frame waits for the operand at a spot, which is a row that begins at this spot of its own
abbrev pub opened : ℕ → ℕ → ℕ → Stack → Stack
opened p r first s = stack (frame r first []) (frame s.top.number p s.top.done ∷ s.below) plain s.place

-- the same for each of these rows, of which each begins at its own spot: the next one is the operand there
abbrev pub opened_chain : ℕ → List (ℕ × ℕ) → Stack → Stack
opened_chain p [] s = s
opened_chain p (o ∷ os) s = opened_chain o.1 os (opened p o.0 o.1 s)

-- the innermost frame waits at a spot for the first of these rows, and a token is taken at the spot that the last one begins with
abbrev pub begun : ℕ → List (ℕ × ℕ) → Tok → Stack → Stack
begun p os t s = let u = opened_chain p os s in with_token u.top.spot t u

-- parts, the newest first, put before others
abbrev pub onto : List (ℕ × Part) → Forest → Forest
onto [] ps = ps
onto (d ∷ ds) ps = onto ds (part d.0 d.1 ps)

-- the node of a frame whose row has this name
abbrev pub node_of : Row → Frame → Tree
node_of r f = node_over r (onto f.done no_parts)

-- of the frames below, the first takes the node of the innermost frame as the operand for which it waits
abbrev pub closed_on : Row → Stack → List Frame → Option Stack
closed_on r s [] = None
closed_on r s (g ∷ fs) = Some (stack (with_part g.spot (inner (node_of r s.top)) g) fs (row s.top.number) s.place)

-- the innermost frame, whose row has this name, is closed
abbrev pub closed : Row → Stack → Option Stack
closed r s = closed_on r s s.below

-- of the innermost frame, the newest part is the left operand of a row, and the others are left
abbrev pub grown_by : ℕ → Stack → List (ℕ × Part) → Option Stack
grown_by r s [] = None
grown_by r s (d ∷ ds) = Some (stack (frame r 0 ((0, d.1) ∷ [])) (frame s.top.number s.top.spot ds ∷ s.below) plain s.place)

-- the newest part of the innermost frame becomes the left operand of a row
abbrev pub grown : ℕ → Stack → Option Stack
grown r s = grown_by r s s.top.done

-- the sum of the sizes that the parts of a row of this name tell
abbrev pub sizes_in : Row → List (ℕ × Part) → ℕ
sizes_in r [] = 0
sizes_in r (d ∷ ds) = told_size r d.0 d.1 + sizes_in r ds

-- the largest of the heights that parts tell
abbrev pub heights_in : List (ℕ × Part) → ℕ
heights_in [] = 0
heights_in (d ∷ ds) = max (told_height d.1) (heights_in ds)

-- the height that the newest part tells
abbrev pub newest_height : List (ℕ × Part) → ℕ
newest_height [] = 0
newest_height (d ∷ ds) = told_height d.1

-- the nodes among parts, the newest first
abbrev pub nodes_in : List (ℕ × Part) → List Tree
nodes_in [] = []
nodes_in (d ∷ ds) = inner_of d.1 ++ nodes_in ds

-- how many there are, or 2^32 - 1 where there are more
abbrev pub count_in : List (ℕ × Part) → ℕ
count_in ds = min (length (nodes_in ds)) (2 ^ 32 - 1)

-- of the innermost frame's parts and the frames below it, the outermost frame's parts
abbrev pub outer_parts : List (ℕ × Part) → List Frame → List (ℕ × Part)
outer_parts ds [] = ds
outer_parts ds (f ∷ fs) = outer_parts f.done fs

-- for each part, the largest height of a node among the part and those before it, and how many nodes there are
abbrev pub running_notes : List (ℕ × Part) → List (ℕ × ℕ)
running_notes [] = []
running_notes (d ∷ ds) = (heights_in (d ∷ ds), count_in (d ∷ ds)) ∷ running_notes ds

-- the same for each of these frames
abbrev pub frames_running : List Frame → List (List (ℕ × ℕ))
frames_running [] = []
frames_running (f ∷ fs) = running_notes f.done ∷ frames_running fs
