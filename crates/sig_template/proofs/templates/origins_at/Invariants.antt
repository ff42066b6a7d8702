use Rattle.std.proofs.Common.{◌≡◌, take}
use Rattle.signature_model.specs.Templates.{origins_at}
use Rattle.type_reading.specs.Copying.{paths_of}
use Rattle.sig_template.proofs.templates.origins_at.Given as goal

abbrev pub invariant-loop-origin : goal.invariant-loop-origin
invariant-loop-origin l = paths_of l.made.items ≡ origins_at (paths_of (take l.origin-index l.origins)) l.node
