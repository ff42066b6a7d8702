use Rattle.std.proofs.Common.{◌≡◌, map, drop}
use Rattle.signature_model.specs.Records.{first_path}
use Rattle.env_table.specs.Labels.{written_of}
use Rattle.env_table.proofs.records.first_path.Given as goal

abbrev pub invariant-loop-label : goal.invariant-loop-label
invariant-loop-label l = first_path (map written_of (drop l.label-index l.labels)) ≡ first_path (map written_of l.labels)
