-- Where walks over a text stop.
use Rattle.std.proofs.Common.{◌≡◌, ℕ, zero, suc, min, List, [], ◌∷◌, length, refl, arith}
use Rattle.lsp_model.specs.Positions.{Columns, columns_before, line_place, position_from}

-- the line 0 begins at the start
pub line_zero : (bs : List ℕ) → line_place 0 bs ≡ 0
line_zero [] = refl
line_zero (b ∷ bs) = refl

-- a walk stops where no byte is left to pass
pub position_stops : (by : Columns) (line column n : ℕ) (bs : List ℕ) → min n (length bs) ≡ 0 → position_from by line column n bs ≡ (line, column)
position_stops by line column n [] none = refl
position_stops by line column zero (b ∷ bs) none = refl
position_stops by line column (suc n) (b ∷ bs) none = absurd (omega (arith, none))

-- so does a count of columns
pub columns_stop : (by : Columns) (n : ℕ) (bs : List ℕ) → min n (length bs) ≡ 0 → columns_before by n bs ≡ 0
columns_stop by n [] none = refl
columns_stop by zero (b ∷ bs) none = refl
columns_stop by (suc n) (b ∷ bs) none = absurd (omega (arith, none))
