-- How far a run has come.
use Rattle.std.specs.Prelude.{◌≡◌, ℕ, List, [], ◌∷◌, ◌++◌, take, Option}
use Rattle.std.specs.Io.KnownBytes.{Appends}
use Rattle.text_model.specs.Lines.{ended_from, rest_from}
use Rattle.service_model.specs.Runs.{Step, RunsTo}
use Rattle.syntax_tree.specs.Tallies.{Tallies}
use Rattle.session.specs.Working.{Held}
use Rattle.session_loop.specs.Begun.{Holds}
use Rattle.session_loop.specs.Spending.{SpendsOn, SpentOver}
use Rattle.session_loop.specs.declared.begun.Begun.{Begun}

-- The bytes put are those of a run over the lines that ended among the bytes taken; it has left the session's text and lexed no more than these lines may read, and what stands behind the last line feed has begun.
pub record SoFar (opens : List ℕ) (start tallies : Tallies) (before now : Option (List ℕ)) (taken : List ℕ) (session : Held) (begun : Begun) : Type 0 where
  pub out : List ℕ
  pub put : Appends before now out
  pub ran : RunsTo [] (ended_from [] taken) out session.text
  pub spends : SpendsOn opens start tallies session (ended_from [] taken) out
  pub line : Holds begun (rest_from [] taken)

-- Of these lines some were answered, and of the piece for the next one only a front was put.
pub record CutShort (before now : Option (List ℕ)) (lines : List (List ℕ)) : Type 0 where
  pub answered : List (List ℕ)
  pub line : List ℕ
  pub later : List (List ℕ)
  pub front : lines ≡ answered ++ line ∷ later
  pub out : List ℕ
  pub text : List ℕ
  pub ran : RunsTo [] answered out text
  pub piece : List ℕ
  pub after : List ℕ
  pub step : Step text line piece after
  pub count : ℕ
  pub put : Appends before now (out ++ take count piece)

-- the same, and no more was lexed than the lines may read that were answered
abbrev pub Cut : List ℕ → Tallies → Tallies → Option (List ℕ) → Option (List ℕ) → List (List ℕ) → Type 0
Cut opens start tallies before now lines = CutShort before now lines × SpentOver opens start tallies before now lines
