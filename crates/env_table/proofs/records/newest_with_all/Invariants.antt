use Rattle.std.proofs.Common.{◌≡◌, map, option_map, length}
use Rattle.signature_model.specs.Lookups.{newest_by}
use Rattle.env_table.specs.Views.{names_of}
use Rattle.env_table.specs.Labels.{has_all, written_of}
use Rattle.env_table.proofs.records.newest_with_all.Given as goal

abbrev pub invariant-loop-entry : goal.invariant-loop-entry
invariant-loop-entry l =
    let test = has_all l.env (map written_of l.labels) (option_map (λ n. n.now) l.name) in
    newest_by test (names_of l.rest) ≡ newest_by test (names_of l.among)

abbrev pub decreases-loop-entry : goal.decreases-loop-entry
decreases-loop-entry l = length (names_of l.rest)
