use Rattle.std.proofs.Common.{◌≡◌, map, drop}
use Rattle.type_alternatives.specs.Alternatives.{outermost_of}
use Rattle.type_alternatives.specs.Templates.{hidden_among}
use Rattle.type_alternatives.proofs.hidden.first_hidden.Given as goal

abbrev pub invariant-loop-alternative : goal.invariant-loop-alternative
invariant-loop-alternative l = hidden_among (map outermost_of (drop l.alternative-index l.list)) ≡ hidden_among (map outermost_of l.list)
