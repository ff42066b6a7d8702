-- What is recorded for type expressions has no type.
use Rattle.std.specs.Prelude.{◌≡◌, ℕ}
use Rattle.typing_state.specs.declared.parts.Parts.{Parts}
use Rattle.typing_steps.specs.States.{sight}

-- the types that are recorded are those of before
pub record Untyped (old new : Parts) : Type 0 where
  pub types : (i p : ℕ) → (sight new).types i p ≡ (sight old).types i p
