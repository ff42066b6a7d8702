-- Environments that have values alone in front of another.
use Rattle.std.specs.Prelude.{◌≡◌, [], ◌∷◌, ◌++◌}
use Rattle.type_model.specs.Schemes.{Scheme}
use Rattle.signature_model.specs.Entries.{a_value, Environment}

-- each of these names stands for a value
abbrev pub AreValues : Environment → Type 0
AreValues [] = Unit {0}
AreValues (e ∷ es) = ((s : Scheme) × (e.stands_for ≡ a_value s)) × AreValues es

-- an environment is another with values in front
pub record IsOver (env E : Environment) : Type 0 where
  pub values : Environment
  pub are_values : AreValues values
  pub is : E ≡ values ++ env
