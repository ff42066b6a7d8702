use Rattle.std.proofs.Common.{◌≡◌, ◌++◌, map, drop, codes}
use Rattle.std.specs.Prelude.{string_bytes}
use Rattle.type_alternatives.specs.Alternatives.{named_of}
use Rattle.type_alternatives.specs.Templates.{before_each, field_text}
use Rattle.type_alternatives.proofs.templates.put_fields.Given as goal

abbrev pub invariant-loop-label : goal.invariant-loop-label
invariant-loop-label l =
    string_bytes l.text ++ before_each (codes "; ") (map field_text (map named_of (drop l.label-index l.others))) ≡ string_bytes l.initial.text ++ before_each (codes "; ") (map field_text (map named_of l.others))
