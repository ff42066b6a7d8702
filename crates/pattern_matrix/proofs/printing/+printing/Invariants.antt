use denote.Text.{Utf8}
use denote.Shadow.{shadow}
use Rattle.std.proofs.Common.{◌≡◌, ◌++◌, [], map, drop}
use Rattle.std.specs.Prelude.{string_bytes}
use Rattle.match_model.specs.Printed as model
use Rattle.match_model.specs.Printed.{label_names}
use Rattle.pattern_matrix.specs.Lines.{shapes_in}
use Rattle.pattern_matrix.specs.Printed.{fields_after, listed_after}
use Rattle.pattern_matrix.specs.Views.{shape_of}
use Rattle.pattern_matrix.proofs.printing.+printing.Given as goal

abbrev pub invariant-print_listed-loop-part : goal.invariant-print_listed-loop-part
invariant-print_listed-loop-part l =
    shadow (Utf8 l.mark) × (string_bytes l.text ++ listed_after l.mark (shapes_in (map shape_of (drop l.part-index l.parts))) ≡ string_bytes l.fn.text ++ model.listed (shapes_in (map shape_of l.parts)))

abbrev pub invariant-print_fields-loop-part : goal.invariant-print_fields-loop-part
invariant-print_fields-loop-part l =
    shadow (Utf8 l.mark) × shadow (Utf8 l.labels) × (string_bytes l.text ++ fields_after l.mark (label_names l.labels []) (shapes_in (map shape_of (drop l.part-index l.parts))) ≡ string_bytes l.fn.text ++ model.fields (label_names l.fn.labels []) (shapes_in (map shape_of l.parts)))
