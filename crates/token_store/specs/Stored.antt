-- What a store of tokens holds, and what reading tokens of a text counts.
use Rattle.std.specs.Prelude.{ℕ, zero, suc, max, List, [], ◌∷◌, map, Option, Some}
use Rattle.token_model.specs.Kinds.{Tok}
use Rattle.syntax_tree.specs.Tallies.{Tallies, lexed_more}
use Rattle.ml_lexer.specs.Reached.{Reached}

-- the tokens with their reaches, and how many of them the last change of the text left as they were
pub record Stored : Type 0 where
  pub tokens : List Reached
  pub unchanged : ℕ

-- the tokens alone
abbrev pub toks_of : List Reached → List Tok
toks_of ts = map (λ (t : Reached). t.token) ts

-- so many tokens more were lexed
abbrev pub lexed_by : ℕ → Tallies → Tallies
lexed_by zero t = t
lexed_by (suc n) t = lexed_more (lexed_by n t)

-- where the last of some tokens ends, or a place where there are none
abbrev pub last_end : {T : Type 0} → (T → ℕ) → ℕ → List T → ℕ
last_end end_of at [] = at
last_end end_of at (t ∷ ts) = last_end end_of (end_of t) ts

-- these are the first tokens of a text from a place on
abbrev pub IsFront : {T : Type 0} → (List ℕ → ℕ → Option T → Type 0) → (T → ℕ) → List ℕ → ℕ → List T → Type 0
IsFront first end_of text at [] = Unit {0}
IsFront first end_of text at (t ∷ ts) = first text at (Some t) × IsFront first end_of text (end_of t) ts

-- how far some tokens reach up to each of them, where those before them reach so far
abbrev pub peaks_of : ℕ → List Reached → List ℕ
peaks_of far [] = []
peaks_of far (t ∷ ts) = max far t.reach ∷ peaks_of (max far t.reach) ts
