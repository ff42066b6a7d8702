-- Tokens that an edit behind a place leaves as they are, and how many are read again.
use Rattle.std.specs.Prelude.{◌≡◌, ℕ, ◌+◌, ◌≤◌, nat_lt, if◌then◌else◌, List, [], ◌∷◌, take, Option, Some, None}

-- how many of these tokens end before a place
abbrev pub ends_before : {T : Type 0} → (T → ℕ) → ℕ → List T → ℕ
ends_before end_of place [] = 0
ends_before end_of place (t ∷ ts) = (if nat_lt (end_of t) place then 1 else 0) + ends_before end_of place ts

-- and how many end there or behind
abbrev pub ends_at : {T : Type 0} → (T → ℕ) → ℕ → List T → ℕ
ends_at end_of place [] = 0
ends_at end_of place (t ∷ ts) = (if nat_lt (end_of t) place then 0 else 1) + ends_at end_of place ts

-- those before the first one whose reach is behind a place
abbrev pub steady : {T : Type 0} → (T → ℕ) → ℕ → List T → List T
steady reach_of place [] = []
steady reach_of place (t ∷ ts) = if nat_lt place (reach_of t) then [] else t ∷ steady reach_of place ts

-- by what the first token behind a place is, and where a token ends
module _ {T : Type 0} (first : List ℕ → ℕ → Option T → Type 0) (end_of : T → ℕ) where
  -- these are the tokens of a text from a place on
  abbrev pub AllTokens : List ℕ → ℕ → List T → Type 0
  AllTokens text at [] = first text at None
  AllTokens text at (t ∷ ts) = first text at (Some t) × AllTokens text (end_of t) ts

  -- The laws of the first token at or behind a place, and of its reach: there is one; every text with the same bytes before the reach has it; and few tokens behind it end before the reach.
  pub record IsSteady (reach_of : T → ℕ) : Type 0 where
    pub one : (text : List ℕ) (at : ℕ) (o p : Option T) → first text at o → first text at p → o ≡ p
    pub stable : (text other : List ℕ) (at : ℕ) (t : T) → first text at (Some t) → take (reach_of t) text ≡ take (reach_of t) other → first other at (Some t)
    pub few : (text : List ℕ) (at : ℕ) (t : T) (ts : List T) → AllTokens text at (t ∷ ts) → ends_before end_of (reach_of t) ts ≤ 31
