use Rattle.std.proofs.Common.{◌≡◌, ◌++◌, map, drop, codes}
use Rattle.std.specs.Prelude.{string_bytes}
use Rattle.type_alternatives.specs.Alternatives.{outermost_of}
use Rattle.type_alternatives.specs.Templates.{before_each}
use Rattle.case_analysis.specs.Splits.{pattern_text}
use Rattle.case_analysis.proofs.writing.put_others.Given as goal

abbrev pub invariant-loop-alternative : goal.invariant-loop-alternative
invariant-loop-alternative l =
    string_bytes l.text ++ before_each (codes " | ") (map pattern_text (map outermost_of (drop l.alternative-index l.list))) ≡ string_bytes l.fn.text ++ before_each (codes " | ") (map pattern_text (map outermost_of l.list))
