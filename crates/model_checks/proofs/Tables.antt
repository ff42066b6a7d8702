-- Types that others are instances of, given by a table.
use Rattle.std.proofs.Common.{◌≡◌, ℕ, ◌==◌, Bool, true, false, List, [], ◌∷◌, refl, ◌∙◌, ap, if◌then◌else◌}
use Rattle.std.proofs.lemmas.Bool.{eqb-true}
use Rattle.type_model.specs.Types.{Typ}
use Rattle.type_model.specs.Substitutions.{apply}
use Rattle.model_checks.specs.Typings.{types_from}

-- other types are instances of those of a table, where each number's own type is put in for its variable
abbrev pub Agrees : (ℕ → Typ) → List (ℕ × Typ) → Type 0
Agrees others [] = Unit {0}
Agrees others ((k, t) ∷ rest) = (others k ≡ apply others t) × Agrees others rest

-- and then at all numbers
pub at_all : (others : ℕ → Typ) (table : List (ℕ × Typ)) → Agrees others table → (n : ℕ) → others n ≡ apply others (types_from table n)
at_all others [] h n = refl
at_all others ((k, t) ∷ rest) h n = by (n == k) refl (at_all others rest h.1 n)
  where
    by : (b : Bool) → (n == k) ≡ b → others n ≡ apply others (types_from rest n) → others n ≡ apply others (if b then t else types_from rest n)
    by true e later = ap others (eqb-true n k e) ∙ h.0
    by false e later = later
