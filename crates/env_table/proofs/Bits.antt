-- The bits of a hash.
use Rattle.std.proofs.Common.{◌≡◌, ◌≢◌, ℕ, zero, suc, ◌-◌, ◌/◌, ◌%◌, List, [], ◌∷◌, Bool, true, false, arith, refl}
use Rattle.std.specs.Prelude.{◌==◌}
use Rattle.env_table.specs.Index.{bits_of, same_bits}

same_number : (a b : ℕ) → a ≡ b → (a == b) ≡ true
same_number a b e = grind arith

other_number : (a b : ℕ) → a ≢ b → (a == b) ≡ false
other_number a b e = grind arith

bits_more : (n h : ℕ) → n ≢ 0 → bits_of n h ≡ ((h % 2 == 1) ∷ bits_of (n - 1) (h / 2))
unfolding bits_of
bits_more zero h p = absurd (p refl)
bits_more (suc n) h p = let e : suc n - 1 ≡ n = omega arith in rw e

pub bits_none : (n h : ℕ) → n ≡ 0 → bits_of n h ≡ []
unfolding bits_of
bits_none zero h p = refl
bits_none (suc n) h p = absurd (omega arith)

pub bits_odd : (n h : ℕ) → n ≢ 0 → h % 2 ≡ 1 → bits_of n h ≡ (true ∷ bits_of (n - 1) (h / 2))
bits_odd n h p q = rw (bits_more n h p, same_number (h % 2) 1 q)

pub bits_even : (n h : ℕ) → n ≢ 0 → h % 2 ≢ 1 → bits_of n h ≡ (false ∷ bits_of (n - 1) (h / 2))
bits_even n h p q = rw (bits_more n h p, other_number (h % 2) 1 q)

pub same_bits_itself : (ks : List Bool) → same_bits ks ks ≡ true
same_bits_itself [] = refl
same_bits_itself (true ∷ ks) = same_bits_itself ks
same_bits_itself (false ∷ ks) = same_bits_itself ks
