use Rattle.std.proofs.Common.{◌≡◌, take, map}
use Rattle.type_nodes.specs.Readings.{Types}
use Rattle.type_reading.specs.Copying.{change_by, paths_of}
use Rattle.sig_template.proofs.changing.Changing.made.Given as goal

abbrev pub invariant-loop-origin : goal.invariant-loop-origin
invariant-loop-origin l = (V : Types) → paths_of l.new.items ≡ map (change_by l.self.changes.now V).path (paths_of (take l.origin-index l.old))
