-- Frames, and what header lines say, as the definitions have them.
use Rattle.std.specs.Prelude.{ℕ, ◌+◌, ◌<◌, ◌≤◌}
use Rattle.lsp_model.specs.Frames as model
use Rattle.lsp_front.specs.declared.frames.Framed.{Framed}
use Rattle.lsp_front.specs.declared.frames.Framed.TheVariants.{Whole, Over, More, Bad}
use Rattle.lsp_front.specs.declared.frames.Told.{Told}
use Rattle.lsp_front.specs.declared.frames.Told.TheVariants.{Nothing, Bytes, Wrong}

-- what some bytes begin with
abbrev pub frame_of : Framed → model.Frame
frame_of (Whole head body) = model.whole head body
frame_of (Over head body) = model.over head body
frame_of More = model.more
frame_of Bad = model.bad

-- what header lines say
abbrev pub told_of : Told → model.Told
told_of Nothing = model.nothing
told_of (Bytes n) = model.told n
told_of Wrong = model.wrong

-- the end of a block and what its lines say
abbrev pub block_of : ℕ × Told → ℕ × model.Told
block_of b = (b.0, told_of b.1)

-- what bytes begin with lies within so many of them; a head has some bytes
abbrev pub IsWithin : ℕ → Framed → Type 0
IsWithin count (Whole head body) = (0 < head) × (head + body ≤ count)
IsWithin count (Over head body) = (0 < head) × (head ≤ count) × (0 < body)
IsWithin count More = Unit {0}
IsWithin count Bad = Unit {0}
