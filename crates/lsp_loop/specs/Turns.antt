-- What a read led to.
use Rattle.std.specs.Prelude.{◌≡◌, ℕ, List, [], ◌++◌, length, Option}
use Rattle.std.specs.Io.KnownBytes.{Consumes, IsAtEnd}
use Rattle.lsp_documents.specs.States.{State}
use Rattle.lsp_loop.specs.Outcomes.{EndsBy}
use Rattle.lsp_loop.specs.Progress.{SoFar}
use Rattle.lsp_loop.specs.Waiting.{Keeps}
use Rattle.lsp_loop.specs.declared.incoming.Incoming.{Incoming}
use Rattle.lsp_loop.specs.declared.run.Turn.{Turn}
use Rattle.lsp_loop.specs.declared.run.Turn.TheVariants.{Took, Over, ReadFault, Stops}

-- the run has come so far, and of its bytes some are kept
abbrev pub IsAt : Option (List ℕ) → Option (List ℕ) → List ℕ → State → Incoming → Type 0
IsAt before now taken state i = (rest : List ℕ) × SoFar before now taken state rest × Keeps i rest

-- By what the source had left before and has left now, and what the sink held before and holds now: so many bytes were taken, none is left, a read failed, or the run ends.
abbrev pub Goes : Turn → Option (List ℕ) → Option (List ℕ) → Option (List ℕ) → Option (List ℕ) → List ℕ → State → Incoming → Type 0
Goes (Took n) left left' before now taken state i = (bytes : List ℕ) × (length bytes ≡ n) × Consumes left left' bytes × IsAt before now (taken ++ bytes) state i
Goes Over left left' before now taken state i = Consumes left left' [] × IsAtEnd left' × IsAt before now taken state i
Goes ReadFault left left' before now taken state i = Consumes left left' [] × IsAt before now taken state i
Goes (Stops end) left left' before now taken state i = (bytes : List ℕ) × Consumes left left' bytes × EndsBy end before now (taken ++ bytes)
