-- How far a run has come.
use Rattle.std.specs.Prelude.{◌≡◌, ℕ, List, take, Bool, Option}
use Rattle.std.specs.Io.KnownBytes.{Appends}
use Rattle.lsp_model.specs.Frames.{frame, bad}
use Rattle.lsp_model.specs.Messages.{message, notice, exit}
use Rattle.lsp_model.specs.Answers.{Piece}
use Rattle.lsp_documents.specs.States.{State, first_state}
use Rattle.lsp_loop.specs.Heard.{Heard, body, BeginsWith, HeardPuts, RunsTo, Splits, joined}

-- The bytes put, by what the sink held before and holds now, are those of a run over the messages that the bytes taken begin with; this is kept then, and these bytes are left.
pub record SoFar (before now : Option (List ℕ)) (taken : List ℕ) (state : State) (rest : List ℕ) : Type 0 where
  pub heard : List Heard
  pub splits : Splits taken heard rest
  pub out : List ℕ
  pub ran : RunsTo first_state heard out state
  pub put : Appends before now out

-- a run that was at a message and put nothing for it
abbrev pub Stopped : Option (List ℕ) → Option (List ℕ) → List ℕ → Type 0
Stopped before now taken = (state : State) × (rest : List ℕ) × SoFar before now taken state rest

-- the message at which a run is, where it is the notification `exit`, and whether the editor asked to shut down before
pub record Exits (before now : Option (List ℕ)) (taken : List ℕ) (shut : Bool) : Type 0 where
  pub state : State
  pub rest : List ℕ
  pub so_far : SoFar before now taken state rest
  pub last : List ℕ
  pub after : List ℕ
  pub begins : BeginsWith rest (body last) after
  pub is : message last ≡ notice exit
  pub asked : state.shut ≡ shut

-- of what a message puts, only a front was put
pub record CutShort (before now : Option (List ℕ)) (taken : List ℕ) : Type 0 where
  pub state : State
  pub rest : List ℕ
  pub held : Option (List ℕ)
  pub so_far : SoFar before held taken state rest
  pub heard : Heard
  pub after : List ℕ
  pub begins : BeginsWith rest heard after
  pub pieces : List Piece
  pub next : State
  pub step : HeardPuts state heard pieces next
  pub count : ℕ
  pub put : Appends held now (take count (joined pieces))

-- what is left begins with something that is no message
abbrev pub IsBad : Option (List ℕ) → Option (List ℕ) → List ℕ → Type 0
IsBad before now taken = (state : State) × (rest : List ℕ) × SoFar before now taken state rest × (frame rest ≡ bad)
