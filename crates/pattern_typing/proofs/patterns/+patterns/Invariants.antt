use Rattle.std.proofs.Common.{map, drop, ◌+◌, ◌*◌, ◌≡◌, ◌++◌}
use Rattle.row_parts.specs.Numbered.{operand_view}
use Rattle.typing_state.specs.Goes.{Goes}
use Rattle.pattern_names.specs.PatternNames.{pattern_names, field_pattern_names, names_in, side_at}
use Rattle.pattern_typing.specs.Matching.{binds_of, names_seen, nodes_of, parts_of_sides, side_of, tokens_of, side_view, typed_view}
use Rattle.pattern_rows.specs.CarriedPatterns.{IsCarriedPattern}
use Rattle.pattern_rows.specs.Contracts.{patterns_of, InOrderFirst}
use Rattle.pattern_typing.proofs.Stepping.{BesideFirst}
use Rattle.std.specs.Prelude.{All}
use Rattle.record_rows.specs.Fields.{FieldsInOrderFirst}
use Rattle.record_rows.specs.Operands.{IsCarriedField, fields_of}
use Rattle.pattern_typing.specs.Records.{here_of}
use Rattle.pattern_typing.proofs.patterns.+patterns.Given as goal

abbrev pub decreases-match_pattern : goal.decreases-match_pattern
decreases-match_pattern l = 9 * l.depth.0 + 7

abbrev pub decreases-match_node : goal.decreases-match_node
decreases-match_node l = 9 * l.depth.0 + 6

abbrev pub decreases-applied : goal.decreases-applied
decreases-applied l = 9 * l.depth.0 + 5

abbrev pub decreases-record : goal.decreases-record
decreases-record l = 9 * l.depth.0 + 5

abbrev pub decreases-alternatives : goal.decreases-alternatives
decreases-alternatives l = 9 * l.depth.0 + 5

abbrev pub decreases-parenthesised : goal.decreases-parenthesised
decreases-parenthesised l = 9 * l.depth.0 + 5

abbrev pub decreases-list : goal.decreases-list
decreases-list l = 9 * l.depth.0 + 5

abbrev pub decreases-cons : goal.decreases-cons
decreases-cons l = 9 * l.depth.0 + 5

abbrev pub decreases-tuple : goal.decreases-tuple
decreases-tuple l = 9 * l.depth.0 + 5

abbrev pub decreases-named : goal.decreases-named
decreases-named l = 9 * l.depth.0 + 5

abbrev pub decreases-in_brackets : goal.decreases-in_brackets
decreases-in_brackets l = 9 * l.depth.0 + 4

abbrev pub decreases-in_row : goal.decreases-in_row
decreases-in_row l = 9 * l.depth.0 + 4

abbrev pub decreases-sides_in : goal.decreases-sides_in
decreases-sides_in l = 9 * l.depth.0 + 4

abbrev pub decreases-match_record : goal.decreases-match_record
decreases-match_record l = 9 * l.depth.0 + 4

abbrev pub decreases-match_fields : goal.decreases-match_fields
decreases-match_fields l = 9 * l.depth.0 + 3

abbrev pub decreases-match_field : goal.decreases-match_field
decreases-match_field l = 9 * l.depth.0 + 2

abbrev pub decreases-match_written : goal.decreases-match_written
decreases-match_written l = 9 * l.depth.0 + 1

abbrev pub decreases-in_order : goal.decreases-in_order
decreases-in_order l = 9 * l.depth.0 + 0

abbrev pub decreases-match_sides : goal.decreases-match_sides
decreases-match_sides l = 9 * l.depth.0 + 0

abbrev pub decreases-match_side : goal.decreases-match_side
decreases-match_side l = 9 * l.depth.0 + 8

abbrev pub decreases-construction : goal.decreases-construction
decreases-construction l = 9 * l.depth.0 + 4

abbrev pub decreases-with_argument : goal.decreases-with_argument
decreases-with_argument l = 9 * l.depth.0 + 3

abbrev pub decreases-match_wanted : goal.decreases-match_wanted
decreases-match_wanted l = 9 * l.depth.0 + 8

abbrev pub invariant-in_order-loop-part : goal.invariant-in_order-loop-part
invariant-in_order-loop-part l = record {
  goes : Goes l.fn.at l.at;
  names : tokens_of l.names.items ++ names_in pattern_names (map operand_view (drop l.part-index l.parts)) ≡ tokens_of l.fn.names.items ++ names_in pattern_names (map operand_view l.parts);
  typed : typed_view l.typed.items ++ map operand_view (drop l.part-index l.parts) ≡ map operand_view l.parts;
  carries : All IsCarriedPattern (map operand_view l.parts) → InOrderFirst l.fn.at l.at l.env (patterns_of l.fn.at.item (map operand_view l.parts)) (patterns_of l.fn.at.item (map operand_view (drop l.part-index l.parts))) (binds_of l.fn.names.items) (binds_of l.names.items) (names_seen l.fn.seen.items) (names_seen l.seen.items) (nodes_of l.typed.items);
}

abbrev pub invariant-match_sides-loop-part : goal.invariant-match_sides-loop-part
invariant-match_sides-loop-part l = record {
  goes : Goes l.fn.at l.at;
  sides : map side_view l.sides.items ++ map side_at (map operand_view (drop l.part-index l.parts)) ≡ map side_at (map operand_view l.parts);
  carries : All IsCarriedPattern (map operand_view l.parts) → BesideFirst l.fn.at l.at l.env (patterns_of l.fn.at.item (map operand_view l.parts)) (patterns_of l.fn.at.item (map operand_view (drop l.part-index l.parts))) (names_seen l.fn.seen.items) (names_seen l.seen.items) (names_seen l.all.items) (map side_of l.sides.items);
  parts : parts_of_sides l.sides.items ++ map operand_view (drop l.part-index l.parts) ≡ map operand_view l.parts;
}

abbrev pub invariant-match_fields-loop-field : goal.invariant-match_fields-loop-field
invariant-match_fields-loop-field l = record {
  goes : Goes l.fn.at l.at;
  names : tokens_of l.names.items ++ names_in field_pattern_names (map operand_view (drop l.field-index l.fields)) ≡ tokens_of l.fn.names.items ++ names_in field_pattern_names (map operand_view l.fields);
  found : here_of l.begun.found ≡ here_of l.fn.found;
  carries : All IsCarriedField (map operand_view l.fields) → FieldsInOrderFirst l.fn.at l.at l.env (here_of l.fn.found) (fields_of l.fn.at.item (map operand_view l.fields)) (fields_of l.fn.at.item (map operand_view (drop l.field-index l.fields))) (binds_of l.fn.names.items) (binds_of l.names.items) (names_seen l.fn.seen.items) (names_seen l.begun.labels.items) (names_seen l.seen.items);
}
