-- Tests on tests.
use Rattle.std.proofs.Common.{◌≡◌, Bool, true, false, not, ◌&&◌, refl}

pub and_cases : (a b : Bool) → (a && b) ≡ true → (a ≡ true) × (b ≡ true)
and_cases true b h = (refl, h)
and_cases false b h = absurd (cc)

pub and_both : (a b : Bool) → a ≡ true → b ≡ true → (a && b) ≡ true
and_both true b p q = q
and_both false b p q = p

pub not_not : (b : Bool) → not (not b) ≡ b
not_not true = refl
not_not false = refl

-- no test both fails and holds
pub no_yes : false ≡ true → ⊥
no_yes e = cc e
