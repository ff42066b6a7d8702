-- What a run has done, by how it ended.
use Rattle.std.specs.Prelude.{◌≡◌, ◌⊎◌, ℕ, ◌^◌, ◌<◌, List, [], drop, length, true, false, Option, Some, None}
use Rattle.std.specs.Io.KnownBytes.{Consumes, IsAtEnd}
use Rattle.lsp_model.specs.Frames.{frame, more}
use Rattle.lsp_documents.specs.States.{State}
use Rattle.lsp_loop.specs.Progress.{SoFar, Stopped, Exits, CutShort, IsBad}
use Rattle.lsp_loop.specs.Waiting.{IsUnfinished, Keeps, Waits}
use Rattle.lsp_loop.specs.declared.incoming.Incoming.{Incoming}
use Rattle.lsp_loop.specs.declared.ends.End.{End}
use Rattle.lsp_loop.specs.declared.ends.End.TheVariants.{Done, NoShutdown, ReadFault, WriteFault, InputTooLong, NoMemory, BadFrame}
use Rattle.lsp_loop.specs.declared.incoming.Taken.{Taken}
use Rattle.lsp_loop.specs.declared.incoming.Taken.TheVariants.{Bytes, Wants, Stops}

-- How the bytes taken end a run, by what the sink held before and holds now: at `exit`, where a put was cut short, where memory was short, or where no message begins.
abbrev pub EndsBy : End → Option (List ℕ) → Option (List ℕ) → List ℕ → Type 0
EndsBy Done before now taken = Exits before now taken true
EndsBy NoShutdown before now taken = Exits before now taken false
EndsBy ReadFault before now taken = ⊥
EndsBy WriteFault before now taken = CutShort before now taken
EndsBy InputTooLong before now taken = ⊥
EndsBy NoMemory before now taken = Stopped before now taken
EndsBy BadFrame before now taken = IsBad before now taken

-- What comes of one message, with what is kept of it and these bytes: some are done with, more are wanted, or the run ends.
abbrev pub TakenBy : Taken → Option (List ℕ) → Option (List ℕ) → List ℕ → State → ℕ → List ℕ → Type 0
TakenBy (Bytes n) before now taken state skipped kept = (rest : List ℕ) × SoFar before now taken state rest × Waits skipped (drop n kept) rest
TakenBy Wants before now taken state skipped kept = (rest : List ℕ) × SoFar before now taken state rest × Waits skipped kept rest × (skipped ≡ 0) × (frame kept ≡ more)
TakenBy (Stops end) before now taken state skipped kept = EndsBy end before now taken

-- what comes of all messages that end in the bytes: a rest is kept, or the run ends
abbrev pub AllTaken : Option End → Option (List ℕ) → Option (List ℕ) → List ℕ → State → Incoming → Type 0
AllTaken None before now taken state i = (rest : List ℕ) × SoFar before now taken state rest × Keeps i rest
AllTaken (Some end) before now taken state i = EndsBy end before now taken

-- How a run ends where the input does: between two messages, or inside one.
abbrev pub EndOfInput : Incoming → End → Type 0
EndOfInput i Done = (rest : List ℕ) → Keeps i rest → rest ≡ []
EndOfInput i BadFrame = (rest : List ℕ) → Keeps i rest → IsUnfinished rest
EndOfInput i NoShutdown = ⊥
EndOfInput i ReadFault = ⊥
EndOfInput i WriteFault = ⊥
EndOfInput i InputTooLong = ⊥
EndOfInput i NoMemory = ⊥

-- What a run has done, by the bytes that the source had left before and has left now, and those that the sink held before and holds now, where they tell them:
-- it came to `exit`, or it took all of the input, which ends between two messages or inside one; a read failed; so many bytes were taken; or it ended as said above.
abbrev pub Outcome : End → Option (List ℕ) → Option (List ℕ) → Option (List ℕ) → Option (List ℕ) → Type 0
Outcome Done left left' held held' =
    (taken : List ℕ) × Consumes left left' taken × (Exits held held' taken true ⊎ (IsAtEnd left' × ((state : State) × SoFar held held' taken state [])))
Outcome NoShutdown left left' held held' = (taken : List ℕ) × Consumes left left' taken × Exits held held' taken false
Outcome ReadFault left left' held held' = (taken : List ℕ) × (length taken < 2 ^ 40) × Consumes left left' taken × Stopped held held' taken
Outcome WriteFault left left' held held' = (taken : List ℕ) × Consumes left left' taken × CutShort held held' taken
Outcome InputTooLong left left' held held' = (taken : List ℕ) × (length taken ≡ 2 ^ 40) × Consumes left left' taken × Stopped held held' taken
Outcome NoMemory left left' held held' = (taken : List ℕ) × Consumes left left' taken × Stopped held held' taken
Outcome BadFrame left left' held held' =
    (taken : List ℕ) × Consumes left left' taken
    × (IsBad held held' taken ⊎ (IsAtEnd left' × ((state : State) × (rest : List ℕ) × SoFar held held' taken state rest × IsUnfinished rest)))
