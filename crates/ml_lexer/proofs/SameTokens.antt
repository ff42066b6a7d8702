-- Texts with the same bytes before a place have the same steady tokens, and few others are read again.
use Rattle.std.proofs.Common.{◌≡◌, ℕ, ◌+◌, ◌≤◌, Bool, true, false, nat_lt, List, [], ◌∷◌, length, take, Option, Some, None, refl, sym, ap, ◌∙◌, subst, arith}
use Rattle.std.specs.Prelude.{if◌then◌else◌}
use Rattle.std.proofs.lemmas.Bool.{ltb-true, ltb-false}
use Rattle.ml_lexer.specs.Steady.{ends_before, ends_at, steady, AllTokens, IsSteady}
use Rattle.ml_lexer.proofs.Agree.{agree_less}

module _ {T : Type 0} (first : List ℕ → ℕ → Option T → Type 0) (end_of reach_of : T → ℕ) (laws : IsSteady first end_of reach_of) where
  some_same : (t u : T) → Some t ≡ Some u → t ≡ u
  some_same t u e = cc

  some_not_none : (t : T) → Some t ≡ None → ⊥
  some_not_none t e = cc

  -- a token with its reach up to the place is a token of each text with the same bytes before the place
  there : (place : ℕ) (text other : List ℕ) (at : ℕ) (t : T) → take place text ≡ take place other → first text at (Some t) → reach_of t ≤ place → first other at (Some t)
  there place text other at t e is h = laws.stable text other at t is (agree_less place (reach_of t) text other h e)

  -- the steady tokens of two texts with the same bytes before a place are the same
  pub same_steady : (place : ℕ) (text other : List ℕ) → take place text ≡ take place other → (at : ℕ) (ts us : List T) → AllTokens first end_of text at ts → AllTokens first end_of other at us → steady reach_of place ts ≡ steady reach_of place us
  same_steady place text other e at [] [] x y = refl
  same_steady place text other e at [] (u ∷ us) x y = go (nat_lt place (reach_of u)) refl
    where
      go : (c : Bool) → nat_lt place (reach_of u) ≡ c → [] ≡ (if c then [] else u ∷ steady reach_of place us)
      go true h = refl
      go false h = let got = there place other text at u (sym e) y.0 (ltb-false place (reach_of u) h) in absurd (some_not_none u (laws.one text at (Some u) None got x))
  same_steady place text other e at (t ∷ ts) [] x y = go (nat_lt place (reach_of t)) refl
    where
      go : (c : Bool) → nat_lt place (reach_of t) ≡ c → (if c then [] else t ∷ steady reach_of place ts) ≡ []
      go true h = refl
      go false h = let got = there place text other at t e x.0 (ltb-false place (reach_of t) h) in absurd (some_not_none t (laws.one other at (Some t) None got y))
  same_steady place text other e at (t ∷ ts) (u ∷ us) x y = go (nat_lt place (reach_of t)) refl (nat_lt place (reach_of u)) refl (same_steady place text other e (end_of t) ts us x.1)
    where
      go : (c : Bool) → nat_lt place (reach_of t) ≡ c → (d : Bool) → nat_lt place (reach_of u) ≡ d → (AllTokens first end_of other (end_of t) us → steady reach_of place ts ≡ steady reach_of place us)
          → (if c then [] else t ∷ steady reach_of place ts) ≡ (if d then [] else u ∷ steady reach_of place us)
      go true h true k on = refl
      go true h false k on =
          let got = there place other text at u (sym e) y.0 (ltb-false place (reach_of u) k) in
          let same : t ≡ u = some_same t u (laws.one text at (Some t) (Some u) x.0 got) in
          let both : nat_lt place (reach_of t) ≡ nat_lt place (reach_of u) = ap (λ v. nat_lt place (reach_of v)) same in
          let bad : true ≡ false = sym h ∙ both ∙ k in cc
      go false h d k on =
          let got = there place text other at t e x.0 (ltb-false place (reach_of t) h) in
          let same : t ≡ u = some_same t u (laws.one other at (Some t) (Some u) got y.0) in
          let both : nat_lt place (reach_of t) ≡ nat_lt place (reach_of u) = ap (λ v. nat_lt place (reach_of v)) same in
          let steady_too : d ≡ false = sym k ∙ sym both ∙ h in
          let rest = on (subst (λ (v : T). AllTokens first end_of other (end_of v) us) (sym same) y.1) in
          subst (λ (b : Bool). t ∷ steady reach_of place ts ≡ (if b then [] else u ∷ steady reach_of place us)) (sym steady_too) (λ i. same i ∷ rest i)

  both_ends : (place : ℕ) (ts : List T) → length ts ≡ ends_before end_of place ts + ends_at end_of place ts
  both_ends place [] = refl
  both_ends place (t ∷ ts) = go (nat_lt (end_of t) place) (both_ends place ts)
    where
      go : (c : Bool) → length ts ≡ ends_before end_of place ts + ends_at end_of place ts → length (t ∷ ts) ≡ ((if c then 1 else 0) + ends_before end_of place ts) + ((if c then 0 else 1) + ends_at end_of place ts)
      go true h = omega arith
      go false h = omega arith

  -- before a later place end no fewer
  more_before : (place later : ℕ) (ts : List T) → place ≤ later → ends_before end_of place ts ≤ ends_before end_of later ts
  more_before place later [] h = omega arith
  more_before place later (t ∷ ts) h = go (nat_lt (end_of t) place) refl (nat_lt (end_of t) later) refl (more_before place later ts h)
    where
      go : (c : Bool) → nat_lt (end_of t) place ≡ c → (d : Bool) → nat_lt (end_of t) later ≡ d → ends_before end_of place ts ≤ ends_before end_of later ts
          → (if c then 1 else 0) + ends_before end_of place ts ≤ (if d then 1 else 0) + ends_before end_of later ts
      go true e true f k = omega arith
      go false e true f k = omega arith
      go false e false f k = omega arith
      go true e false f k = let less = ltb-true (end_of t) place e in let not_less = ltb-false (end_of t) later f in absurd (omega arith)

  -- what isn't steady is at most 32 more than the tokens that end at the place or behind
  pub read_again : (place : ℕ) (text : List ℕ) (at : ℕ) (ts : List T) → AllTokens first end_of text at ts → length ts ≤ length (steady reach_of place ts) + (32 + ends_at end_of place ts)
  read_again place text at [] x = omega arith
  read_again place text at (t ∷ ts) x = go (nat_lt place (reach_of t)) refl (nat_lt (end_of t) place) (read_again place text (end_of t) ts x.1)
    where
      go : (c : Bool) → nat_lt place (reach_of t) ≡ c → (d : Bool) → length ts ≤ length (steady reach_of place ts) + (32 + ends_at end_of place ts)
          → length (t ∷ ts) ≤ length (if c then [] else t ∷ steady reach_of place ts) + (32 + ((if d then 0 else 1) + ends_at end_of place ts))
      go true h d k =
          let few = laws.few text at t ts x in
          let less = ltb-true place (reach_of t) h in
          let before : ends_before end_of place ts ≤ 31 = omega (arith, more_before place (reach_of t) ts (omega arith), few) in
          let least : ends_at end_of place ts ≤ (if d then 0 else 1) + ends_at end_of place ts = elim d [ true ↦ omega arith | false ↦ omega arith ] in
          omega (arith, both_ends place ts, before, least)
      go false h true k = omega arith
      go false h false k = omega arith
