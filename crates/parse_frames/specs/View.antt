-- What the code's parts, frames and stacks are as plain ones.
use Rattle.std.specs.Prelude.{ℕ, List, [], ◌∷◌, Option, Some, None}
use Rattle.std.specs.declared.rc.Rc.{Rc}
use Rattle.std.specs.declared.alloc.Global.{Global}
use Rattle.tree_model.specs.Trees.{Part}
use Rattle.syntax_tree.specs.View.{part_view}
use Rattle.parse_frames.specs.Frames.{Frame, frame}
use Rattle.parse_frames.specs.declared.frames.Opening.{Opening}
use Rattle.parse_frames.specs.declared.frames.Cell.{Cell, fold-Cell}
use Rattle.parse_frames.specs.declared.frames.Cell.TheOpen.{Cell-F}
use Rattle.parse_frames.specs.declared.frames.Level.{Level, fold-Level}
use Rattle.parse_frames.specs.declared.frames.Level.TheOpen.{Level-F}

-- a list behind a shared pointer
abbrev pub shared : {A : Type 0} → Option (Rc (List A) Global) → List A
shared None = []
shared (Some r) = r.value

-- one cell, with those before it already seen
abbrev pub cell_step : Cell-F (List (ℕ × Part)) → List (ℕ × Part)
cell_step c = (c.slot, part_view c.part) ∷ shared c.before

-- the parts of a cell and those before it, the newest first
abbrev pub cell_view : Cell → List (ℕ × Part)
cell_view = fold-Cell (List (ℕ × Part)) cell_step

-- the parts of a frame, the newest first
abbrev pub parts_view : Option (Rc Cell Global) → List (ℕ × Part)
parts_view None = []
parts_view (Some r) = cell_view r.value

-- one cell's height and number of nodes, with those before it already seen
abbrev pub notes_step : Cell-F (List (ℕ × ℕ)) → List (ℕ × ℕ)
notes_step c = (c.height, c.nodes) ∷ shared c.before

-- the heights and numbers of nodes that a cell and those before it note, the newest first
abbrev pub cell_notes : Cell → List (ℕ × ℕ)
cell_notes = fold-Cell (List (ℕ × ℕ)) notes_step

-- those that the cells of a frame note, the newest first
abbrev pub parts_notes : Option (Rc Cell Global) → List (ℕ × ℕ)
parts_notes None = []
parts_notes (Some r) = cell_notes r.value

-- one frame, with those below it already seen
abbrev pub level_step : Level-F (List Frame) → List Frame
level_step l = frame l.number l.spot (parts_view l.parts) ∷ shared l.below

-- a frame that waits and those below it
abbrev pub level_view : Level → List Frame
level_view = fold-Level (List Frame) level_step

-- frames that wait, the innermost first
abbrev pub frames_view : Option (Rc Level Global) → List Frame
frames_view None = []
frames_view (Some r) = level_view r.value

-- a row's number and the spot that it begins with
abbrev pub opening_view : Opening → ℕ × ℕ
opening_view o = (o.number, o.first)

-- what one frame notes, with those below it already seen
abbrev pub level_notes_step : Level-F (List (List (ℕ × ℕ))) → List (List (ℕ × ℕ))
level_notes_step l = parts_notes l.parts ∷ shared l.below

-- what a frame that waits and those below it note
abbrev pub level_notes : Level → List (List (ℕ × ℕ))
level_notes = fold-Level (List (List (ℕ × ℕ))) level_notes_step

-- what frames that wait note, the innermost first
abbrev pub frames_notes : Option (Rc Level Global) → List (List (ℕ × ℕ))
frames_notes None = []
frames_notes (Some r) = level_notes r.value
