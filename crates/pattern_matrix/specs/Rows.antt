-- What the rows of the code mean, and what is found for them.
use Rattle.std.specs.Prelude.{◌≡◌, ℕ, zero, suc, Bool, true, false, List, [], ◌∷◌, ◌++◌, map, take, slice_get, Option, Some, None, if◌then◌else◌}
use Rattle.match_model.specs.Values.{Shape, of_built}
use Rattle.match_model.specs.Forms.{tuple_name}
use Rattle.pattern_matrix.specs.Lines.{Line, shapes_in}
use Rattle.pattern_matrix.specs.Search.{Finds, row_in}
use Rattle.pattern_matrix.specs.Marks.{line_mark, can_meet}
use Rattle.pattern_matrix.specs.Views.{typed_of}
use Rattle.pattern_matrix.specs.declared.patterns.PatRow.{PatRow}

-- the patterns of a row
abbrev pub line_of : PatRow → Line
line_of r = map typed_of r.pats.items

-- the line of a row, if the row has no guard
abbrev pub unless_guarded : Bool → Line → List Line
unless_guarded true l = []
unless_guarded false l = l ∷ []

-- the lines of the rows without a guard
abbrev pub lines_of : List PatRow → List Line
lines_of [] = []
lines_of (r ∷ rs) = unless_guarded r.guarded (line_of r) ++ lines_of rs

-- the shape of one column, or of the tuple of several
abbrev pub together : List Shape → Shape
together [] = of_built tuple_name (shapes_in [])
together (s ∷ []) = s
together (s ∷ t ∷ ss) = of_built tuple_name (shapes_in (s ∷ t ∷ ss))

-- a shape for each column is found, or nothing is
abbrev pub FindsShape : List Line → Line → Option Shape → Type 0
FindsShape ls row None = Finds (row_in ls row) None
FindsShape ls row (Some s) = (ss : List Shape) × Finds (row_in ls row) (Some ss) × (s ≡ together ss)

-- the mark of a row, by the parts at a place
abbrev pub mark_of : ℕ → PatRow → Option ℕ
mark_of at r = line_mark at (line_of r)

-- the line of a row without a guard, if its mark can meet this one
abbrev pub near_line : ℕ → Option ℕ → PatRow → List Line
near_line at m r = if can_meet m (mark_of at r) then unless_guarded r.guarded (line_of r) else []

-- the lines of the rows without a guard whose marks can meet this one
abbrev pub near_lines : ℕ → Option ℕ → List PatRow → List Line
near_lines at m [] = []
near_lines at m (r ∷ rs) = near_line at m r ++ near_lines at m rs

-- whether nothing is found for a row in the rows before it whose marks can meet its own, by the parts at some place
abbrev pub IsTold : List PatRow → ℕ → Bool → Type 0
IsTold rs k true = (at : ℕ) × (r : PatRow) × (slice_get rs k ≡ Some r) × Finds (row_in (near_lines at (mark_of at r) (take k rs)) (line_of r)) None
IsTold rs k false = (at : ℕ) × (r : PatRow) × (slice_get rs k ≡ Some r) × ((ss : List Shape) × Finds (row_in (near_lines at (mark_of at r) (take k rs)) (line_of r)) (Some ss))

-- the numbers of the covered ones among the first rows, so many of them, in their order
pub data AreUnused (rs : List PatRow) : ℕ → List ℕ → Type 0 where
  at_start : AreUnused rs zero []
  covered_one : {k : ℕ} {us vs : List ℕ} → IsTold rs k true → AreUnused rs k us → vs ≡ us ++ k ∷ [] → AreUnused rs (suc k) vs
  useful_one : {k : ℕ} {us : List ℕ} → IsTold rs k false → AreUnused rs k us → AreUnused rs (suc k) us
