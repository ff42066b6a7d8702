use Rattle.std.proofs.Common.{◌≡◌, map, drop}
use Rattle.type_terms.specs.Views.{path_of}
use Rattle.signature_model.specs.Records.{has_each}
use Rattle.env_table.specs.Labels.{labelled, written_of, scope_for}
use Rattle.env_table.proofs.records.has_each.Given as goal

abbrev pub invariant-loop-label : goal.invariant-loop-label
invariant-loop-label l =
    let scope = scope_for l.env (map written_of l.labels) in
    has_each labelled scope (path_of l.made) (map written_of (drop l.label-index l.labels)) ≡ has_each labelled scope (path_of l.made) (map written_of l.labels)
