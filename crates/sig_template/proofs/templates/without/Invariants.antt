use Rattle.std.proofs.Common.{◌≡◌, ◌++◌, drop}
use Rattle.type_terms.specs.Views.{path_of}
use Rattle.signature_model.specs.Templates.{without}
use Rattle.type_reading.specs.Copying.{paths_of}
use Rattle.sig_template.proofs.templates.without.Given as goal

abbrev pub invariant-loop-other : goal.invariant-loop-other
invariant-loop-other l = paths_of l.others.items ++ without (path_of l.origin) (paths_of (drop l.other-index l.origins)) ≡ without (path_of l.origin) (paths_of l.origins)
