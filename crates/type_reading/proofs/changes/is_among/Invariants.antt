use Rattle.std.proofs.Common.{◌≡◌, drop}
use Rattle.signature_model.specs.Changes.{among}
use Rattle.type_reading.specs.Copying.{paths_of}
use Rattle.type_reading.proofs.changes.is_among.Given as goal

abbrev pub invariant-loop-other : goal.invariant-loop-other
invariant-loop-other l = among l.origin.path.items (paths_of (drop l.other-index l.origins)) ≡ among l.origin.path.items (paths_of l.origins)
