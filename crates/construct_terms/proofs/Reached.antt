-- The terms of outermost parts, one after another.
use Rattle.std.proofs.Common.{◌≡◌, ℕ, Bool, true, false, List, [], ◌∷◌, ◌++◌, map, filter, refl}
use Rattle.std.specs.Prelude.{if◌then◌else◌}
use Rattle.type_alternatives.specs.Alternatives.{Outermost}
use Rattle.construct_terms.specs.Wanted.{term_text, is_reached, terms_of}

of_test : (b : Bool) (front : List ℕ) (o : Outermost) (os : List Outermost) →
    map (λ p. front ++ term_text p) (if b then o ∷ os else os) ≡ map (λ p. front ++ term_text p) (if b then o ∷ [] else []) ++ map (λ p. front ++ term_text p) os
of_test true front o os = refl
of_test false front o os = refl

-- those of the first and then those of the others
pub terms_step : (front : List ℕ) (o : Outermost) (os : List Outermost) → terms_of front (o ∷ os) ≡ terms_of front (o ∷ []) ++ terms_of front os
terms_step front o os = of_test (is_reached o) front o (filter is_reached os)
