-- The place of a node: how many nodes stand lower. It is below the number of nodes, and falls with the rank.
use Rattle.std.proofs.Common.{◌≡◌, ℕ, zero, suc, ◌+◌, ◌<◌, ◌≤◌, Bool, true, false, ltb, refl, arith, inl, inr}
use Rattle.std.proofs.lemmas.Bool.{ltb-true, lt-ltb, le-ltb}
use Rattle.type_nodes.proofs.Lists.{same_or_other}

-- one or nothing
abbrev pub one_if : Bool → ℕ
one_if true = 1
one_if false = 0

-- how many numbers below k pass the test
abbrev pub how_many : (ℕ → Bool) → ℕ → ℕ
how_many p zero = 0
how_many p (suc k) = how_many p k + one_if (p k)

one_if_le : (b : Bool) → one_if b ≤ 1
one_if_le true = omega arith
one_if_le false = omega arith

one_if_mono : (b c : Bool) → (b ≡ true → c ≡ true) → one_if b ≤ one_if c
one_if_mono true c h = rw (h refl) (omega arith)
one_if_mono false c h = omega arith

how_many_le : (p : ℕ → Bool) (k : ℕ) → how_many p k ≤ k
how_many_le p zero = omega arith
how_many_le p (suc k) = let h = how_many_le p k in let i = one_if_le (p k) in omega arith

how_many_mono : (p q : ℕ → Bool) (k : ℕ) → ((m : ℕ) → p m ≡ true → q m ≡ true) → how_many p k ≤ how_many q k
how_many_mono p q zero h = omega arith
how_many_mono p q (suc k) h = let i = how_many_mono p q k h in let j = one_if_mono (p k) (q k) (h k) in omega arith

-- a number that only the second test lets through makes its count greater
how_many_less : (p q : ℕ → Bool) (k m : ℕ) → ((m : ℕ) → p m ≡ true → q m ≡ true) → m < k → p m ≡ false → q m ≡ true → how_many p k < how_many q k
how_many_less p q zero m h lt lacks has = absurd (omega arith)
how_many_less p q (suc k) m h lt lacks has =
    elim (same_or_other m k) [
      | inl e ↦ let i = how_many_mono p q k h in
          let a : one_if (p k) ≡ 0 = rw (← e, lacks) refl in let b : one_if (q k) ≡ 1 = rw (← e, has) refl in omega arith
      | inr o ↦ let lt' : m < k = omega arith in let i = how_many_less p q k m h lt' lacks has in let j = one_if_mono (p k) (q k) (h k) in omega arith
    ]

-- a number that fails keeps the count from being full
how_many_full : (p : ℕ → Bool) (k m : ℕ) → m < k → p m ≡ false → how_many p k < k
how_many_full p zero m lt lacks = absurd (omega arith)
how_many_full p (suc k) m lt lacks =
    elim (same_or_other m k) [
      | inl e ↦ let i = how_many_le p k in let a : one_if (p k) ≡ 0 = rw (← e, lacks) refl in omega arith
      | inr o ↦ let lt' : m < k = omega arith in let i = how_many_full p k m lt' lacks in let j = one_if_le (p k) in omega arith
    ]

-- how many nodes stand lower
abbrev pub place : (ℕ → ℕ) → ℕ → ℕ → ℕ
place rank len n = how_many (λ m. ltb (rank m) (rank n)) len

pub place_below : (rank : ℕ → ℕ) (len n : ℕ) → n < len → place rank len n < len
place_below rank len n lt = how_many_full (λ m. ltb (rank m) (rank n)) len n lt (le-ltb (rank n) (rank n) (omega arith))

pub place_lower : (rank : ℕ → ℕ) (len m n : ℕ) → m < len → rank m < rank n → place rank len m < place rank len n
place_lower rank len m n lt h =
    how_many_less (λ k. ltb (rank k) (rank m)) (λ k. ltb (rank k) (rank n)) len m
    (λ k t. lt-ltb (rank k) (rank n) (let a = ltb-true (rank k) (rank m) t in omega arith))
    lt (le-ltb (rank m) (rank m) (omega arith)) (lt-ltb (rank m) (rank n) h)
