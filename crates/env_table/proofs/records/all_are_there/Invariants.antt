use Rattle.std.proofs.Common.{◌≡◌, map, drop}
use Rattle.signature_model.specs.Records.{each_scope, is_there}
use Rattle.env_table.specs.Labels.{written_of, scope_for}
use Rattle.env_table.proofs.records.all_are_there.Given as goal

abbrev pub invariant-loop-label : goal.invariant-loop-label
invariant-loop-label l =
    let scope = scope_for l.env (map written_of l.labels) in
    each_scope is_there scope (map written_of (drop l.label-index l.labels)) ≡ each_scope is_there scope (map written_of l.labels)
