-- What comes of putting what a message puts.
use Rattle.std.specs.Prelude.{◌≡◌, ℕ, List, take, Option, Result, Ok, Err}
use Rattle.std.specs.List.{concat}
use Rattle.std.specs.Io.KnownBytes.{Appends}
use Rattle.lsp_documents.specs.States.{State}
use Rattle.lsp_documents.specs.declared.documents.Ending.{Ending}
use Rattle.lsp_documents.specs.declared.documents.Ending.TheVariants.{Shut, NotShut}
use Rattle.lsp_documents.specs.declared.documents.Step.{Step}
use Rattle.lsp_documents.specs.declared.documents.Step.TheVariants.{Puts, Exit}
use Rattle.lsp_loop.specs.Outcomes.{EndsBy}
use Rattle.lsp_loop.specs.Progress.{SoFar}
use Rattle.lsp_loop.specs.declared.ends.End.{End}
use Rattle.lsp_loop.specs.declared.ends.End.TheVariants.{Done, NoShutdown, WriteFault}

-- how an editor's `exit` ends a run
abbrev pub end_of : Ending → End
end_of Shut = Done
end_of NotShut = NoShutdown

-- by what the sink held before and holds now: the pieces were put, a put was cut short, or the run ends and nothing was put
abbrev pub PutBy : Step → Result (Unit {0}) End → Option (List ℕ) → Option (List ℕ) → Type 0
PutBy (Puts pieces) (Ok u) held now = Appends held now (concat pieces)
PutBy (Puts pieces) (Err end) held now = (end ≡ WriteFault) × (n : ℕ) × Appends held now (take n (concat pieces))
PutBy (Exit ending) (Ok u) held now = ⊥
PutBy (Exit ending) (Err end) held now = (end ≡ end_of ending) × (now ≡ held)

-- after a message the run goes on with the bytes that follow, or it ends at it
abbrev pub HeardBy : Result (Unit {0}) End → Option (List ℕ) → Option (List ℕ) → List ℕ → State → List ℕ → Type 0
HeardBy (Ok u) before now taken state after = SoFar before now taken state after
HeardBy (Err end) before now taken state after = EndsBy end before now taken
