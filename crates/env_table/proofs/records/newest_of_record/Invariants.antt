use Rattle.std.proofs.Common.{◌≡◌, length}
use Rattle.type_terms.specs.Views.{path_of}
use Rattle.signature_model.specs.Lookups.{newest_by}
use Rattle.signature_model.specs.Records.{is_label_of}
use Rattle.env_table.specs.Views.{names_of}
use Rattle.env_table.specs.Labels.{labelled}
use Rattle.env_table.proofs.records.newest_of_record.Given as goal

abbrev pub invariant-loop-entry : goal.invariant-loop-entry
invariant-loop-entry l =
    let test = is_label_of labelled (path_of l.made) l.name in
    newest_by test (names_of l.rest) ≡ newest_by test (names_of l.among)

abbrev pub decreases-loop-entry : goal.decreases-loop-entry
decreases-loop-entry l = length (names_of l.rest)
