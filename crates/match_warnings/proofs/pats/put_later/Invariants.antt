use Rattle.std.proofs.Common.{◌≡◌, ◌++◌, drop}
use Rattle.std.specs.Prelude.{string_bytes}
use Rattle.match_warnings.specs.Patterns.{later_joined}
use Rattle.match_warnings.proofs.pats.put_later.Given as goal

abbrev pub invariant-loop-label : goal.invariant-loop-label
invariant-loop-label l = string_bytes l.text ++ later_joined (drop l.label-index l.labels) ≡ string_bytes l.fn.text ++ later_joined l.labels
