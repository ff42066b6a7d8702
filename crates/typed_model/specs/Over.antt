-- Environments that have values and exceptions alone in front of another: among such names a type has the same paths.
use Rattle.std.specs.Prelude.{◌≡◌, [], ◌∷◌, ◌++◌}
use Rattle.signature_model.specs.Entries.{Referent, a_value, an_exception, Environment}

-- what a name stands for is a value or an exception
abbrev pub IsNoType : Referent → Type 0
IsNoType (a_value s) = Unit {0}
IsNoType (an_exception o) = Unit {0}
IsNoType _ = ⊥

-- each of these names stands for a value or an exception
abbrev pub AreNoTypes : Environment → Type 0
AreNoTypes [] = Unit {0}
AreNoTypes (e ∷ es) = IsNoType e.stands_for × AreNoTypes es

-- an environment is another with such names in front
pub record IsOver (env E : Environment) : Type 0 where
  pub front : Environment
  pub are_no_types : AreNoTypes front
  pub is : E ≡ front ++ env
