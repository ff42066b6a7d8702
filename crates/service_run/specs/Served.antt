-- What a run of the program has done, by its words and its exit status.
use Rattle.std.specs.Prelude.{◌≡◌, ℕ, List, Bool, true, false, Option}
use Rattle.syntax_tree.specs.Tallies.{Tallies}
use Rattle.session_loop.specs.Outcomes as lines
use Rattle.session_loop.specs.declared.service.Status.{Status}
use Rattle.lsp_loop.specs.Outcomes as editor
use Rattle.lsp_loop.specs.declared.ends.End.{End}
use Rattle.service_run.specs.Numbers.{number_of, number_of_end}

-- By whether the words ask for an editor, how many items they ask for, the exit status, the bytes that the source had left before and has left now, those that the sink held before
-- and holds now, and the counter before and now: the exit status is that of an end of an editor's run, or of a session or a made run, and the run has done what that end says.
abbrev pub ServedBy : Bool → Option ℕ → ℕ → Option (List ℕ) → Option (List ℕ) → Option (List ℕ) → Option (List ℕ) → Tallies → Tallies → Type 0
ServedBy true items code left left' held held' before after = (end : End) × (code ≡ number_of_end end) × editor.Outcome end left left' held held'
ServedBy false items code left left' held held' before after = (status : Status) × (code ≡ number_of status) × lines.RunOutcome items status left left' held held' before after
