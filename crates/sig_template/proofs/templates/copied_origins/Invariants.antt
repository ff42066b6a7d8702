use Rattle.std.proofs.Common.{◌≡◌, take}
use Rattle.type_reading.specs.Copying.{paths_of}
use Rattle.sig_template.proofs.templates.copied_origins.Given as goal

abbrev pub invariant-loop-origin : goal.invariant-loop-origin
invariant-loop-origin l = paths_of l.copied.items ≡ paths_of (take l.origin-index l.origins)
