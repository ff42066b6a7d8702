-- Runs each of whose replies is the only one that the text allows.
use Rattle.std.specs.Prelude.{◌≡◌, ℕ, List, [], ◌∷◌, ◌++◌, false, None}
use Rattle.text_model.specs.Positions.{offset}
use Rattle.service_model.specs.Requests.{Asked, tell, type_enclosing, complete_prefix, locate, occurrences, outline, errors, case_analysis, construct, Reading, asks, refused, reading}
use Rattle.service_model.specs.Answers.{Answered}
use Rattle.service_model.specs.Runs.{Step, is_blank_line}

-- but for want of memory, the text allows one reply to a line, and this leaves one text
abbrev pub IsSettled : List ℕ → List ℕ → Type 0
IsSettled text line = (p q a b : List ℕ) → Answered text (reading line) p a → Answered text (reading line) q b → (p ≡ q) × (a ≡ b)

-- The bytes begin with what a line puts at a text, which is settled unless the line is blank; the text behind it, and the bytes behind it.
pub record Goes (text line bytes mid rest : List ℕ) : Type 0 where
  pub piece : List ℕ
  pub step : Step text line piece mid
  pub settled : is_blank_line line ≡ false → IsSettled text line
  pub front : bytes ≡ piece ++ rest

-- From a text, the lines put these bytes, and each reply is settled.
abbrev pub SettledRun : List ℕ → List (List ℕ) → List ℕ → Type 0
SettledRun text [] bytes = bytes ≡ []
SettledRun text (line ∷ lines) bytes = (mid : List ℕ) × (rest : List ℕ) × Goes text line bytes mid rest × SettledRun mid lines rest

-- of a request at a text, that its reply is known: a `tell`, an `outline`, and one of a position that doesn't exist
abbrev pub IsKnownOf : List ℕ → Asked → Type 0
IsKnownOf text (tell range bytes) = Unit {0}
IsKnownOf text outline = Unit {0}
IsKnownOf text errors = ⊥
IsKnownOf text (type_enclosing at) = offset text at.0 at.1 ≡ None
IsKnownOf text (complete_prefix at prefix) = offset text at.0 at.1 ≡ None
IsKnownOf text (locate at) = offset text at.0 at.1 ≡ None
IsKnownOf text (occurrences at) = offset text at.0 at.1 ≡ None
IsKnownOf text (case_analysis at) = offset text at.0 at.1 ≡ None
IsKnownOf text (construct at) = offset text at.0 at.1 ≡ None

-- the same of a line, which may be no request
abbrev pub IsKnown : List ℕ → Reading → Type 0
IsKnown text (asks a) = IsKnownOf text a
IsKnown text (refused r) = Unit {0}
