-- Type schemes, with their own variables by name, and generalisation (Damas and Milner 1982).
use Rattle.std.specs.Prelude.{◌≡◌, ℕ, Bool, false, not, ◌&&◌}
use Rattle.type_model.specs.Types.{Typ, Var, occurs}
use Rattle.type_model.specs.Substitutions.{Subst, apply}

-- a type, and which of its variables are the scheme's own
pub record Scheme : Type 0 where
  pub body : Typ
  pub bound : ℕ → Bool

-- whether a variable of the body isn't the scheme's own
abbrev pub free_in_scheme : ℕ → Scheme → Bool
free_in_scheme v sc = occurs v sc.body && not (sc.bound v)

-- a substitution of the scheme's own variables alone gives x
abbrev pub HasInstance : Scheme → Typ → Type 0
HasInstance sc x = (s : Subst) × ((v : ℕ) → sc.bound v ≡ false → s v ≡ Var v) × (x ≡ apply s sc.body)

-- the scheme of a type that binds all of its variables but the fixed ones
abbrev pub generalised : (ℕ → Bool) → Typ → Scheme
generalised fixed t = record { body = t; bound = λ v. not (fixed v) }
