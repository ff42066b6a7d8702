-- The named form of the frames of the grammar's machine.
use Rattle.std.specs.Prelude.{◌≡◌, ℕ, List, [], ◌∷◌, map}
use Rattle.tree_model.specs.Rows.{Row}
use Rattle.tree_model.specs.Trees as plain
use Rattle.grammar_model.specs.Trees.{Part}
use Rattle.grammar_model.specs.Named.{slot_of, named_part}
use Rattle.grammar_model.specs.Tables.{Table}
use Rattle.grammar_model.specs.Machine as machine
use Rattle.grammar_model.specs.Machine.{last_done, first_of}
use Rattle.parse_frames.specs.Frames.{Frame, frame, Stack, stack}

-- parts with their slots in place of their spots
abbrev pub named_done : (ℕ → Row) → List (ℕ × Part) → List (ℕ × plain.Part)
named_done name [] = []
named_done name (d ∷ ds) = (slot_of d.0, named_part name d.1) ∷ named_done name ds

-- a frame with named operands
abbrev pub named_frame : (ℕ → Row) → machine.Frame → Frame
named_frame name f = frame f.number f.at (named_done name f.done)

-- the innermost frame and those below it, behind a token that ends at this place
abbrev pub named_stack : Table → (ℕ → Row) → machine.Frame → machine.Stack → ℕ → Stack
named_stack G name f S p = stack (named_frame name f) (map (named_frame name) S) (last_done (G.what f.number f.at) f.done) p

-- the stack is the named form of the machine's, behind a token that ends at this place
abbrev pub IsNamed : Table → (ℕ → Row) → machine.Stack → ℕ → Stack → Type 0
IsNamed G name [] p s = ⊥
IsNamed G name (f ∷ S) p s = named_stack G name f S p ≡ s

-- rows with the spots that they begin with
abbrev pub openings : Table → List ℕ → List (ℕ × ℕ)
openings G [] = []
openings G (r ∷ rs) = (r, first_of G r) ∷ openings G rs
