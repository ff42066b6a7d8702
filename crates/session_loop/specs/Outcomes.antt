-- What a run has done, by the status with which it ends.
use Rattle.std.specs.Prelude.{◌≡◌, ℕ, ◌^◌, ◌<◌, List, [], length, Option, Some, None, IfSome}
use Rattle.std.specs.Io.KnownBytes.{Consumes, Appends}
use Rattle.text_model.specs.Lines.{ended_from}
use Rattle.service_model.specs.Runs.{Run, request_lines}
use Rattle.syntax_tree.specs.Tallies.{Tallies}
use Rattle.session_loop.specs.MadeRuns.{MadeOutcome}
use Rattle.session_loop.specs.Progress.{CutShort}
use Rattle.session_loop.specs.declared.service.Status.{Status}
use Rattle.session_loop.specs.declared.service.Status.TheVariants.{Done, BadWords, ReadFault, WriteFault, InputTooLong, NoMemory}

-- the bytes put are those of a run over these lines
abbrev pub RanOver : Option (List ℕ) → Option (List ℕ) → List (List ℕ) → Type 0
RanOver held held' lines = (out : List ℕ) × Run lines out × Appends held held' out

-- By the bytes that the source had left before and has left now, and those that the sink held before and holds now, where they tell them:
-- at Done a run over all lines of the input; at ReadFault and InputTooLong one over the lines that ended among the bytes taken;
-- at WriteFault the replies to some of the input's lines and a front of the piece for the next; otherwise nothing was taken or put.
abbrev pub Outcome : Status → Option (List ℕ) → Option (List ℕ) → Option (List ℕ) → Option (List ℕ) → Type 0
Outcome Done left left' held held' = IfSome left (λ input. (length input < 2 ^ 40) × RanOver held held' (request_lines input))
Outcome BadWords left left' held held' = (left' ≡ left) × (held' ≡ held)
Outcome ReadFault left left' held held' = (taken : List ℕ) × (length taken < 2 ^ 40) × Consumes left left' taken × RanOver held held' (ended_from [] taken)
Outcome WriteFault left left' held held' = IfSome left (λ input. CutShort held held' (request_lines input))
Outcome InputTooLong left left' held held' = (taken : List ℕ) × (length taken ≡ 2 ^ 40) × Consumes left left' taken × RanOver held held' (ended_from [] taken)
Outcome NoMemory left left' held held' = (left' ≡ left) × (held' ≡ held)

-- Where the words ask for n items, the outcome of their made run, which takes nothing from the source; otherwise that of a session.
abbrev pub RunOutcome : Option ℕ → Status → Option (List ℕ) → Option (List ℕ) → Option (List ℕ) → Option (List ℕ) → Tallies → Tallies → Type 0
RunOutcome None status left left' held held' before after = Outcome status left left' held held'
RunOutcome (Some n) status left left' held held' before after = (left' ≡ left) × MadeOutcome status n held held' before after
