-- How many tokens a session has lexed and parsed and how many items it has typed, by the lines that it answered.
use Rattle.std.specs.Prelude.{◌≡◌, ℕ, ◌+◌, ◌≤◌, List, ◌++◌, length, take, Option}
use Rattle.std.specs.Io.KnownBytes.{Appends}
use Rattle.token_model.specs.Kinds.{Tok}
use Rattle.token_model.specs.Tokens.{Lex}
use Rattle.service_model.specs.Runs.{is_blank_line}
use Rattle.work_model.specs.Work.{at_first, Amount, Owed, RetypedOver, RunWorks, WorksBy}
use Rattle.syntax_tree.specs.Tallies.{Tallies}
use Rattle.text_reading.specs.Types.{opening}
use Rattle.session.specs.Working.{Carries, Held, Owes, Takes, Within}

-- The lines put these bytes; no more tokens were lexed and taken by the parser than they may read, and those of the prelude, whose bytes are the first ones; and no more items were typed than they may type.
abbrev pub Spends : List ℕ → Tallies → Tallies → List (List ℕ) → List ℕ → Type 0
Spends opens before after lines out = (ps : List Tok) → Lex opens ps → (v : Owed) × (n : Amount) × RunWorks (length ps) at_first lines out v n × (after.lexed ≤ before.lexed + (length ps + n.lexed)) × (after.shifted ≤ before.shifted + (length ps + n.shifted))
    × ((m : ℕ) → RetypedOver v.asked m → after.typed ≤ before.typed + m)

-- the same of a session that goes on
abbrev pub SpendsOn : List ℕ → Tallies → Tallies → Held → List (List ℕ) → List ℕ → Type 0
SpendsOn opens before after s lines out = (ps : List Tok) → Lex opens ps
    → (v : Owed) × (n : Amount) × RunWorks (length ps) at_first lines out v n × Owes v s
    × (after.lexed + opening (length ps) s.begun ≤ before.lexed + (length ps + n.lexed)) × (after.shifted + opening (length ps) s.begun ≤ before.shifted + (length ps + n.shifted))
    × Within before.typed v s after

-- a line puts the piece, and no more tokens were lexed and parsed than it may read, and no more items typed than it may type
abbrev pub LineSpends : List ℕ → List ℕ → List ℕ → Held → Held → Tallies → Tallies → Type 0
LineSpends opens line piece old new before after = (w : Owed) (ps : List Tok) → Owes w old → Lex opens ps
    → (v : Owed) × (n : Amount) × WorksBy (is_blank_line line) (length ps) w line piece v n × Owes v new × Takes (length ps) n old new before after × Carries w v old new before after

-- Of these lines the first ones were answered, and a front of their bytes was put; no more tokens were lexed and taken by the parser than these lines may read, and those of the prelude, and no more items typed than they may type.
pub record SpentOver (opens : List ℕ) (before after : Tallies) (held now : Option (List ℕ)) (lines : List (List ℕ)) : Type 0 where
  pub answered : List (List ℕ)
  pub later : List (List ℕ)
  pub front : lines ≡ answered ++ later
  pub out : List ℕ
  pub count : ℕ
  pub put : Appends held now (take count out)
  pub spends : Spends opens before after answered out
