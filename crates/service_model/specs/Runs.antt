-- Runs: what a list of lines puts, from the empty text on.
use Rattle.std.specs.Prelude.{◌≡◌, ℕ, ◌==◌, ◌||◌, List, [], ◌∷◌, ◌++◌, Bool, true, false}
use Rattle.std.specs.List.{list_all}
use Rattle.text_model.specs.Lines.{ended_from, rest_from}
use Rattle.service_model.specs.Answers.{Answers}

-- a last line without a line feed counts where it has a byte
abbrev pub last_line : List ℕ → List (List ℕ)
last_line [] = []
last_line (b ∷ bs) = (b ∷ bs) ∷ []

-- the request lines of an input
abbrev pub request_lines : List ℕ → List (List ℕ)
request_lines bytes = ended_from [] bytes ++ last_line (rest_from [] bytes)

-- blank, tab and carriage return
abbrev pub is_blank_byte : ℕ → Bool
is_blank_byte b = b == 32 || b == 9 || b == 13

-- a line of such bytes alone
abbrev pub is_blank_line : List ℕ → Bool
is_blank_line = list_all is_blank_byte

-- a line of blanks is passed over, every other line is answered
abbrev pub StepBy : Bool → List ℕ → List ℕ → List ℕ → List ℕ → Type 0
StepBy true text line piece after = (piece ≡ []) × (after ≡ text)
StepBy false text line piece after = Answers text line piece after

-- what one line puts at a text, and the text behind it
abbrev pub Step : List ℕ → List ℕ → List ℕ → List ℕ → Type 0
Step text line piece after = StepBy (is_blank_line line) text line piece after

-- From a text, the lines put these bytes and leave a text.
abbrev pub RunsTo : List ℕ → List (List ℕ) → List ℕ → List ℕ → Type 0
RunsTo text [] out after = (out ≡ []) × (after ≡ text)
RunsTo text (line ∷ lines) out after = (piece : List ℕ) × (mid : List ℕ) × (rest : List ℕ) × Step text line piece mid × RunsTo mid lines rest after × (out ≡ piece ++ rest)

-- The text starts empty.
abbrev pub Run : List (List ℕ) → List ℕ → Type 0
Run lines out = (after : List ℕ) × RunsTo [] lines out after
