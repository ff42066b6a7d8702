-- What holds of a typer while what it found is that of the present text.
use Rattle.std.specs.Prelude.{Bool, true, false, Option, Some, None}

-- where what a typer found is that of the present text, this holds of it
abbrev pub HoldsIf : {A : Type 0} → (A → Type 0) → Bool → Option A → Type 0
HoldsIf P false typer = Unit {0}
HoldsIf P true None = Unit {0}
HoldsIf P true (Some a) = P a
