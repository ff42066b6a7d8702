-- Bytes with a gap.
use Rattle.std.specs.Prelude.{ℕ, ◌+◌, List, ◌++◌, take, drop}

-- the bytes, and how many more fit without taking memory
pub record Gapped : Type 0 where
  pub items : List ℕ
  pub spare : ℕ

abbrev pub gapped : List ℕ → ℕ → Gapped
gapped xs n = record { items = xs; spare = n }

-- the places before the gap and those after it
abbrev pub outside : ℕ → ℕ → List ℕ → List ℕ
outside front gap places = take front places ++ drop (front + gap) places
