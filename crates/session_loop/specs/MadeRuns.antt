-- What a made run has done.
use Rattle.std.specs.Prelude.{◌≡◌, ℕ, ◌+◌, List, Option, take}
use Rattle.std.specs.Io.KnownBytes.{Appends}
use Rattle.service_model.specs.Made as made
use Rattle.service_model.specs.Made.{summary_line, IsSummary}
use Rattle.syntax_tree.specs.Tallies.{Tallies, Grows}
use Rattle.session_loop.specs.declared.made.Summary.{Summary}
use Rattle.session_loop.specs.declared.service.Status.{Status}
use Rattle.session_loop.specs.declared.service.Status.TheVariants.{Done, BadWords, WriteFault, NoMemory}

-- the code's summary of a made run, in the definitions
abbrev pub summary_of : Summary → made.Summary
summary_of s = record { bytes = s.bytes; faults = s.faults; items = s.items; typed = s.typed }

-- so many items were typed between the asking of a query within a run and its answer, by the counter before the run and behind it
pub record TypedWithin (before after : Tallies) (typed : ℕ) : Type 0 where
  pub asked : Tallies
  pub answered : Tallies
  pub later : Grows before asked
  pub counted : answered.typed ≡ asked.typed + typed
  pub rest : Grows answered after

-- the line tells a made run of n items, by the counter before it and behind it
abbrev pub IsTold : ℕ → Tallies → Tallies → List ℕ → Type 0
IsTold n before after line = (s : made.Summary) × IsSummary n s × TypedWithin before after s.typed × (line ≡ summary_line s)

-- By what the sink held before and holds now, where it tells it, and the counter before and now: at Done the line was put, at WriteFault a front of it,
-- and where the words are bad or memory is short nothing was put; such a run has no other end.
abbrev pub MadeOutcome : Status → ℕ → Option (List ℕ) → Option (List ℕ) → Tallies → Tallies → Type 0
MadeOutcome Done n held held' before after = (line : List ℕ) × IsTold n before after line × Appends held held' line
MadeOutcome WriteFault n held held' before after = (line : List ℕ) × IsTold n before after line × (count : ℕ) × Appends held held' (take count line)
MadeOutcome BadWords n held held' before after = held' ≡ held
MadeOutcome NoMemory n held held' before after = held' ≡ held
MadeOutcome _ n held held' before after = ⊥
