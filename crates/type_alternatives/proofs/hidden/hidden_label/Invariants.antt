use Rattle.std.proofs.Common.{◌≡◌, map, drop}
use Rattle.type_alternatives.specs.Alternatives.{named_of}
use Rattle.type_alternatives.specs.Templates.{first_hidden}
use Rattle.type_alternatives.proofs.hidden.hidden_label.Given as goal

abbrev pub invariant-loop-label : goal.invariant-loop-label
invariant-loop-label l = first_hidden (map named_of (drop l.label-index l.labels)) ≡ first_hidden (map named_of l.labels)
