use Rattle.std.proofs.Common.{◌≡◌, ◌++◌, ◌+◌, ◌*◌, map, drop, length}
use Rattle.syntax_tree.specs.Names.{row_of}
use Rattle.syntax_tree.specs.View.{place_of}
use Rattle.row_parts.specs.Numbered.{operand_view}
use Rattle.typing_state.specs.Goes.{Goes}
use Rattle.match_warnings.specs.Warnings.{spans_of}
use Rattle.core_typing.specs.Cases.{places_there}
use Rattle.std.specs.Prelude.{All, option_map}
use Rattle.std.specs.Vec.Iter.{into_iter_items, into_iter_len}
use Rattle.type_terms.specs.declared.types.NodeRef.{NodeRef}
use Rattle.binding_rows.specs.CaseCarried.{IsCase}
use Rattle.binding_rows.specs.Cases.{cases_of, TypesCasesFirst}
use Rattle.type_nodes.specs.Views.{numbers}
use Rattle.use_typing.specs.Constants.{is_negated}
use Rattle.typing_rows.specs.CarriedRows.{IsCarried}
use Rattle.typing_rows.specs.Asked.{expressions_of, signed_expressions}
use Rattle.typing_rows.specs.Contracts.{TypesFirst, TypesGivenFirst, TypesPartsFirst}
use Rattle.pattern_typing.specs.Matching.{names_seen}
use Rattle.binding_rows.specs.Carried.{IsNumberedBinding}
use Rattle.binding_rows.specs.Operands.{TypesInTurnFirst, ConcludesNodesFirst}
use Rattle.binding_rows.specs.Decided.{JudgesOperandsFirst, JudgesNodesFirst}
use Rattle.binding_steps.specs.Bindings.{typed_of, opened_of, node_of, generals}
use Rattle.record_rows.specs.Values.{FieldsWrittenFirst}
use Rattle.record_rows.specs.ValueOperands.{value_fields_of, IsCarriedValue}
use Rattle.expression_steps.specs.Records.{here_of, names_written}
use Rattle.core_typing.proofs.+exprs.Given as goal

abbrev pub decreases-exprs::type_under : goal.decreases-exprs::type_under
decreases-exprs::type_under l = 16 * l.depth.0 + 15

abbrev pub decreases-exprs::typed_row : goal.decreases-exprs::typed_row
decreases-exprs::typed_row l = 16 * l.depth.0 + 14

abbrev pub decreases-plain::plain : goal.decreases-plain::plain
decreases-plain::plain l = 16 * l.depth.0 + 13

abbrev pub decreases-plain::parenthesised : goal.decreases-plain::parenthesised
decreases-plain::parenthesised l = 16 * l.depth.0 + 13

abbrev pub decreases-fields::set : goal.decreases-fields::set
decreases-fields::set l = 16 * l.depth.0 + 13

abbrev pub decreases-fields::set_part : goal.decreases-fields::set_part
decreases-fields::set_part l = 16 * l.depth.0 + 12

abbrev pub decreases-fields::set_field : goal.decreases-fields::set_field
decreases-fields::set_field l = 16 * l.depth.0 + 13

abbrev pub decreases-loops::for_loop : goal.decreases-loops::for_loop
decreases-loops::for_loop l = 16 * l.depth.0 + 13

abbrev pub decreases-apply::application : goal.decreases-apply::application
decreases-apply::application l = 16 * l.depth.0 + 13

abbrev pub decreases-apply::minus : goal.decreases-apply::minus
decreases-apply::minus l = 16 * l.depth.0 + 13

abbrev pub decreases-apply::operation : goal.decreases-apply::operation
decreases-apply::operation l = 16 * l.depth.0 + 12

abbrev pub decreases-apply::applied : goal.decreases-apply::applied
decreases-apply::applied l = 16 * l.depth.0 + 12

abbrev pub decreases-apply::constructed : goal.decreases-apply::constructed
decreases-apply::constructed l = 16 * l.depth.0 + 12

abbrev pub decreases-apply::with_argument : goal.decreases-apply::with_argument
decreases-apply::with_argument l = 16 * l.depth.0 + 2

abbrev pub decreases-apply::operated : goal.decreases-apply::operated
decreases-apply::operated l = 16 * l.depth.0 + 11

abbrev pub decreases-apply::later_arguments : goal.decreases-apply::later_arguments
decreases-apply::later_arguments l = 16 * l.depth.0 + 11

abbrev pub decreases-exprs::type_each : goal.decreases-exprs::type_each
decreases-exprs::type_each l = 16 * l.depth.0 + 1

abbrev pub decreases-exprs::typed_as : goal.decreases-exprs::typed_as
decreases-exprs::typed_as l = 16 * l.depth.0 + 1

abbrev pub decreases-apply::arguments : goal.decreases-apply::arguments
decreases-apply::arguments l = 16 * l.depth.0 + 3

abbrev pub decreases-apply::argument : goal.decreases-apply::argument
decreases-apply::argument l = 16 * l.depth.0 + 2

abbrev pub decreases-apply::typed_argument : goal.decreases-apply::typed_argument
decreases-apply::typed_argument l = 16 * l.depth.0 + 1

abbrev pub decreases-plain::type_parts : goal.decreases-plain::type_parts
decreases-plain::type_parts l = 16 * l.depth.0 + 2

abbrev pub decreases-plain::type_part : goal.decreases-plain::type_part
decreases-plain::type_part l = 16 * l.depth.0 + 1

abbrev pub invariant-exprs::type_each-loop-e : goal.invariant-exprs::type_each-loop-e
invariant-exprs::type_each-loop-e l = record {
  goes : Goes l.fn.at l.at;
  carries : All IsCarried (map operand_view l.es) → TypesFirst l.fn.at l.at l.env (expressions_of l.fn.at.item (map operand_view l.es)) (expressions_of l.fn.at.item (map operand_view (drop l.e-index l.es)));
}

abbrev pub invariant-apply::arguments-loop-one : goal.invariant-apply::arguments-loop-one
invariant-apply::arguments-loop-one l = record {
  goes : Goes l.fn.at l.at;
  carries : All IsCarried (map operand_view l.given) → TypesGivenFirst l.fn.at l.at l.env (place_of l.place) (signed_expressions (is_negated l.sign) l.fn.at.item (map operand_view l.given)) (signed_expressions (is_negated l.sign) l.fn.at.item (map operand_view (drop l.one-index l.given))) l.fn.head.0 l.ty.0;
}

abbrev pub invariant-plain::type_parts-loop-part : goal.invariant-plain::type_parts-loop-part
invariant-plain::type_parts-loop-part l = record {
  goes : Goes l.fn.at l.at;
  places : length l.types.items ≡ l.part-index;
  carries : All IsCarried (map operand_view l.parts) → TypesPartsFirst l.fn.at l.at l.env (row_of l.row) l.part-index (expressions_of l.fn.at.item (map operand_view l.parts)) (expressions_of l.fn.at.item (map operand_view (drop l.part-index l.parts))) (numbers l.types.items);
}

abbrev pub decreases-cases::match_of : goal.decreases-cases::match_of
decreases-cases::match_of l = 16 * l.depth.0 + 13

abbrev pub decreases-cases::function_of_cases : goal.decreases-cases::function_of_cases
decreases-cases::function_of_cases l = 16 * l.depth.0 + 13

abbrev pub decreases-cases::type_cases : goal.decreases-cases::type_cases
decreases-cases::type_cases l = 16 * l.depth.0 + 12

abbrev pub decreases-cases::type_each_case : goal.decreases-cases::type_each_case
decreases-cases::type_each_case l = 16 * l.depth.0 + 11

abbrev pub decreases-cases::type_case : goal.decreases-cases::type_case
decreases-cases::type_case l = 16 * l.depth.0 + 10

abbrev pub decreases-cases::typed_case : goal.decreases-cases::typed_case
decreases-cases::typed_case l = 16 * l.depth.0 + 9

abbrev pub decreases-cases::case_of : goal.decreases-cases::case_of
decreases-cases::case_of l = 16 * l.depth.0 + 8

abbrev pub decreases-cases::type_guard : goal.decreases-cases::type_guard
decreases-cases::type_guard l = 16 * l.depth.0 + 2

abbrev pub decreases-functions::function : goal.decreases-functions::function
decreases-functions::function l = 16 * l.depth.0 + 13

abbrev pub decreases-bindings::let_in : goal.decreases-bindings::let_in
decreases-bindings::let_in l = 16 * l.depth.0 + 13

abbrev pub decreases-bindings::type_group : goal.decreases-bindings::type_group
decreases-bindings::type_group l = 16 * l.depth.0 + 12

abbrev pub decreases-bindings::in_turn : goal.decreases-bindings::in_turn
decreases-bindings::in_turn l = 16 * l.depth.0 + 11

abbrev pub decreases-bindings::take_turn : goal.decreases-bindings::take_turn
decreases-bindings::take_turn l = 16 * l.depth.0 + 10

abbrev pub decreases-bindings::turn : goal.decreases-bindings::turn
decreases-bindings::turn l = 16 * l.depth.0 + 9

abbrev pub decreases-bindings::recorded_right : goal.decreases-bindings::recorded_right
decreases-bindings::recorded_right l = 16 * l.depth.0 + 8

abbrev pub decreases-bindings::together : goal.decreases-bindings::together
decreases-bindings::together l = 16 * l.depth.0 + 11

abbrev pub decreases-bindings::conclude_all : goal.decreases-bindings::conclude_all
decreases-bindings::conclude_all l = 16 * l.depth.0 + 10

abbrev pub decreases-bindings::conclude_one : goal.decreases-bindings::conclude_one
decreases-bindings::conclude_one l = 16 * l.depth.0 + 9

abbrev pub decreases-bindings::type_right : goal.decreases-bindings::type_right
decreases-bindings::type_right l = 16 * l.depth.0 + 7

abbrev pub decreases-bindings::right_of : goal.decreases-bindings::right_of
decreases-bindings::right_of l = 16 * l.depth.0 + 6

abbrev pub decreases-bindings::typed_body : goal.decreases-bindings::typed_body
decreases-bindings::typed_body l = 16 * l.depth.0 + 5

abbrev pub invariant-cases::type_each_case-loop-case : goal.invariant-cases::type_each_case-loop-case
invariant-cases::type_each_case-loop-case l = record {
  goes : Goes l.fn.at l.at;
  spans : spans_of l.rows ++ places_there (map operand_view (drop l.case-index l.cases)) ≡ spans_of l.fn.rows ++ places_there (map operand_view l.cases);
  carries : All IsCase (map operand_view l.cases) → TypesCasesFirst l.fn.at l.at l.env (cases_of l.fn.at.item (map operand_view l.cases)) (cases_of l.fn.at.item (map operand_view (drop l.case-index l.cases))) l.fn.matched.0 (option_map (λ (w : NodeRef). w.0) l.fn.known) (option_map (λ (w : NodeRef). w.0) l.bodies);
}

abbrev pub invariant-bindings::in_turn-loop-binding : goal.invariant-bindings::in_turn-loop-binding
invariant-bindings::in_turn-loop-binding l = record {
  goes : Goes l.fn.at l.at;
  carries : TypesInTurnFirst l.fn.at l.at l.env l.bindings (drop l.binding-index l.bindings) (names_seen l.seen.items) (map typed_of l.bound.items);
  general : JudgesOperandsFirst l.env l.bindings (drop l.binding-index l.bindings) (generals l.bound.items);
}

abbrev pub invariant-bindings::conclude_all-loop-one : goal.invariant-bindings::conclude_all-loop-one
invariant-bindings::conclude_all-loop-one l = record {
  goes : Goes l.fn.at l.at;
  counted : into_iter_len l.one-iterator ≡ length (into_iter_items l.one-iterator);
  carries : All IsNumberedBinding (map node_of l.fn.opened.items) →
      ConcludesNodesFirst l.fn.at l.at l.within (map node_of l.fn.opened.items) (map node_of (into_iter_items l.one-iterator)) (map opened_of l.fn.opened.items) (map opened_of (into_iter_items l.one-iterator)) (map typed_of l.bound.items);
  general : All IsNumberedBinding (map node_of l.fn.opened.items) → JudgesNodesFirst l.env (map node_of l.fn.opened.items) (map node_of (into_iter_items l.one-iterator)) (generals l.bound.items);
}

abbrev pub decreases-records::record : goal.decreases-records::record
decreases-records::record l = 16 * l.depth.0 + 13

abbrev pub decreases-records::record_of : goal.decreases-records::record_of
decreases-records::record_of l = 16 * l.depth.0 + 12

abbrev pub decreases-records::made_or_loose : goal.decreases-records::made_or_loose
decreases-records::made_or_loose l = 16 * l.depth.0 + 11

abbrev pub decreases-records::made : goal.decreases-records::made
decreases-records::made l = 16 * l.depth.0 + 10

abbrev pub decreases-records::loose : goal.decreases-records::loose
decreases-records::loose l = 16 * l.depth.0 + 10

abbrev pub decreases-records::updated : goal.decreases-records::updated
decreases-records::updated l = 16 * l.depth.0 + 11

abbrev pub decreases-records::record_behind : goal.decreases-records::record_behind
decreases-records::record_behind l = 16 * l.depth.0 + 1

abbrev pub decreases-records::record_of_part : goal.decreases-records::record_of_part
decreases-records::record_of_part l = 16 * l.depth.0 + 1

abbrev pub decreases-records::type_if : goal.decreases-records::type_if
decreases-records::type_if l = 16 * l.depth.0 + 1

abbrev pub decreases-records::type_fields : goal.decreases-records::type_fields
decreases-records::type_fields l = 16 * l.depth.0 + 5

abbrev pub decreases-records::type_if_there : goal.decreases-records::type_if_there
decreases-records::type_if_there l = 16 * l.depth.0 + 4

abbrev pub decreases-records::type_value : goal.decreases-records::type_value
decreases-records::type_value l = 16 * l.depth.0 + 2

abbrev pub decreases-records::type_field : goal.decreases-records::type_field
decreases-records::type_field l = 16 * l.depth.0 + 3

abbrev pub invariant-records::type_fields-loop-field : goal.invariant-records::type_fields-loop-field
invariant-records::type_fields-loop-field l = record {
  goes : Goes l.fn.at l.at;
  found : here_of l.fields.found ≡ here_of l.fn.fields.found;
  carries : All IsCarriedValue (map operand_view l.given) →
      FieldsWrittenFirst l.fn.at l.at l.env (here_of l.fn.fields.found) (value_fields_of l.fn.at.item (map operand_view l.given)) (value_fields_of l.fn.at.item (map operand_view (drop l.field-index l.given))) (names_written l.fn.fields.labels.items) (names_written l.fields.labels.items);
}
