-- Rows of patterns: what they miss, and which of them no value reaches (Maranget 2007).
use Rattle.std.specs.Prelude.{◌≡◌, ℕ, suc, max, Bool, true, false, not, ◌&&◌, ◌||◌, List, [], ◌∷◌, take, slice_get, Some}
use Rattle.type_model.specs.Types.{Typ}
use Rattle.match_model.specs.Values.{Values, Pattern, Patterns, any, of_constructor, of_literal, either, no_patterns, also_pattern, Shapes, match_all, all_in}
use Rattle.match_model.specs.Forms.{World, AreOf}

-- the patterns of the columns, and whether a guard stands behind them
pub record Row : Type 0 where
  pub patterns : Patterns
  pub guarded : Bool

-- how deep a pattern looks
abbrev mutual
  pub depth_of : Pattern → ℕ
  depth_of any = 0
  depth_of (of_constructor n ps) = suc (depth_in ps)
  depth_of (of_literal n) = 1
  depth_of (either ps) = depth_in ps

  -- how deep the deepest of several patterns looks
  pub depth_in : Patterns → ℕ
  depth_in no_patterns = 0
  depth_in (also_pattern p ps) = max (depth_of p) (depth_in ps)

-- how deep the deepest pattern of some rows looks
abbrev pub deepest : List Row → ℕ
deepest [] = 0
deepest (r ∷ rs) = max (depth_in r.patterns) (deepest rs)

-- whether a row without a guard matches
abbrev pub is_matched : List Row → Values → Bool
is_matched [] vs = false
is_matched (r ∷ rs) vs = (not r.guarded && match_all r.patterns vs) || is_matched rs vs

-- some values of the shapes are matched by no row without a guard
pub record Missed (w : World) (types : List Typ) (rows : List Row) (shapes : Shapes) : Type 0 where
  pub values : Values
  pub typed : AreOf w (deepest rows) types values
  pub shaped : all_in shapes values ≡ true
  pub missed : is_matched rows values ≡ false

-- rows are exhaustive where no shapes are missed
abbrev pub IsExhaustive : World → List Typ → List Row → Type 0
IsExhaustive w types rows = (shapes : Shapes) → Missed w types rows shapes → ⊥

-- a row is unused where all values that it matches are matched by an earlier row without a guard
pub record IsUnused (w : World) (types : List Typ) (rows : List Row) (k : ℕ) : Type 0 where
  pub row : Row
  pub stands : slice_get rows k ≡ Some row
  pub each : (vs : Values) → AreOf w (deepest rows) types vs → match_all row.patterns vs ≡ true → is_matched (take k rows) vs ≡ true
