-- What a match tells: which rows are covered, which values are missed and which rows are unused, in a world in which its patterns are typed.
use Rattle.std.specs.Prelude.{◌≡◌, ℕ, zero, suc, Bool, true, false, List, [], ◌∷◌, ◌++◌, map, Option, Some, None}
use Rattle.type_model.specs.Types.{Typ}
use Rattle.match_model.specs.Values.{Values, match_all, Shape, all_in}
use Rattle.match_model.specs.Forms.{World, AreOf}
use Rattle.match_model.specs.Rows.{Row, is_matched, Missed, IsExhaustive}
use Rattle.match_model.specs.Shown.{Line, list_of, Shows, ShowsNone}
use Rattle.pattern_matrix.specs.Lines.{listed, shapes_in}
use Rattle.pattern_matrix.specs.Typing.{plains, AreTyped}
use Rattle.pattern_matrix.specs.Rows.{line_of, together}
use Rattle.pattern_matrix.specs.declared.patterns.PatRow.{PatRow}

-- a row as it matches values
abbrev pub row_of : PatRow → Row
row_of r = record { patterns = plains (listed (line_of r)); guarded = r.guarded }

-- rows as they match values, in order
abbrev pub rows_of : List PatRow → List Row
rows_of = map row_of

-- a row has one pattern of each column's type
abbrev pub IsRowTyped : World → List Typ → PatRow → Type 0
IsRowTyped w ts r = AreTyped w ts (listed (line_of r))

-- each row is so typed
abbrev pub AreRowsTyped : World → List Typ → List PatRow → Type 0
AreRowsTyped w ts [] = Unit {0}
AreRowsTyped w ts (r ∷ rs) = IsRowTyped w ts r × AreRowsTyped w ts rs

-- the rows without a guard match each value that a row matches
abbrev pub IsCovered : World → List Typ → ℕ → List Row → Row → Type 0
IsCovered w ts d rows row = (vs : Values) → AreOf w d ts vs → match_all row.patterns vs ≡ true → is_matched rows vs ≡ true

-- some values of the shapes are matched by the row and by none of the rows without a guard
pub record AddsTo (w : World) (ts : List Typ) (d : ℕ) (rows : List Row) (row : Row) (shapes : List Shape) : Type 0 where
  pub values : Values
  pub typed : AreOf w d ts values
  pub shaped : all_in (shapes_in shapes) values ≡ true
  pub matched : match_all row.patterns values ≡ true
  pub missed : is_matched rows values ≡ false

-- what is told of a row: nothing where it is covered, or the shape of values that it adds
abbrev pub Tells : World → List Typ → ℕ → List Row → Row → Option Shape → Type 0
Tells w ts d rows row None = IsCovered w ts d rows row
Tells w ts d rows row (Some s) = (ss : List Shape) × (s ≡ together ss) × AddsTo w ts d rows row ss

-- the numbers below one for which a fact holds, in their order
pub data AreThose (P : ℕ → Type 0) : ℕ → List ℕ → Type 0 where
  at_start : AreThose P zero []
  such : {n : ℕ} {us vs : List ℕ} → P n → AreThose P n us → vs ≡ us ++ n ∷ [] → AreThose P (suc n) vs
  other : {n : ℕ} {us : List ℕ} → (P n → ⊥) → AreThose P n us → AreThose P (suc n) us

-- the lines of the rows without a guard

-- a line, unless its row has a guard
abbrev pub unless : Bool → Line → List Line
unless true l = []
unless false l = l ∷ []

-- the lines of these rows, in order, but for those with a guard
abbrev pub open_lines : List Row → List Line
open_lines [] = []
open_lines (r ∷ rows) = unless r.guarded (list_of r.patterns) ++ open_lines rows

-- what is told of a match: that its rows are exhaustive, or the shape that is shown, of which values are missed
abbrev pub TellsMissed : World → List Typ → List Row → Option Shape → Type 0
TellsMissed w ts rows None = IsExhaustive w ts rows × ShowsNone w ts (open_lines rows)
TellsMissed w ts rows (Some s) = (ss : List Shape) × (s ≡ together ss) × Missed w ts rows (shapes_in ss) × Shows w ts (open_lines rows) (shapes_in ss)
