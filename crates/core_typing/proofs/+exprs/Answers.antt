use Rattle.typing_state.proofs.Recording.{record_stays_in}
use Rattle.std.proofs.Common.{◌≡◌, ◌∙◌, ◌++◌, ◌∷◌, ◌<◌, length, map, drop, sym, ap, subst, arith, length-append, refl, rules, ℕ, List, Bool, true, false}
use Rattle.std.specs.Prelude.{option_map, All, Some, not}
use Rattle.syntax_tree.specs.Names.{row_of}
use Rattle.syntax_tree.specs.View.{node_view, place_of, tok_of}
use Rattle.syntax_tree.specs.declared.tree.Node.{out-Node}
use Rattle.row_parts.specs.Numbered.{operand_view, path_view, operands_in}
use Rattle.typing_state.proofs.Going.{goes_trans, goes_refl}
use Rattle.typing_state.proofs.Silence.{store_silent, index_silent}
use Rattle.value_forms.specs.Heads.{row_at}
use Rattle.value_forms.proofs.Nodes.{row_of_node, rows_same}
use Rattle.expression_steps.specs.Forms.{form_of}
use Rattle.match_warnings.specs.Warnings.{spans_of}
use Rattle.core_typing.specs.Cases.{places_there}
use Rattle.core_typing.proofs.CasePlaces.{places_read, places_done, place_added, place_same, cases_warned}
use Rattle.use_typing.proofs.Reading.{on_ok}
use Rattle.use_typing.specs.Paths.{labels_of}
use Rattle.expression_steps.specs.declared.fields.Pieces.{Pieces}
use Rattle.core_typing.proofs.Tokens.{no_token, some_token}
use Rattle.use_typing.specs.Constants.{is_negated}
use Rattle.expression_steps.proofs.LeafLaws.{alone_missing, alone_there}
use Rattle.std.proofs.lemmas.List.{drop_all}
use Rattle.type_nodes.specs.Views.{numbers}
use Rattle.typing_model.specs.Parts.{Expression}
use Rattle.row_parts.specs.declared.slots.Operand.{Operand}
use Rattle.operand_laws.specs.Operands.{expression_of}
use Rattle.operand_laws.proofs.Standing.{expression_of_stands}
use Rattle.typing_steps.specs.Typing.{TypesRow, path_as}
use Rattle.typing_rows.specs.CarriedRows.{IsCarried}
use Rattle.typing_rows.specs.Asked.{under_minus, expressions_of, signed_expressions, applied_asks, IsOrderedRow, ordered_end}
use Rattle.typing_rows.specs.Contracts.{TypesAs, TypesParts, EndsRow, AsksBehind}
use Rattle.typing_rows.proofs.Recorded.{row_typed, missing_typed}
use Rattle.typing_rows.proofs.Given.{types_argument, given_none, given_all, each_none, each_all}
use Rattle.typing_rows.proofs.Ordered.{part_typed, parts_none, parts_all}
use Rattle.typing_rows.proofs.Typed.{applied_typed, operated_typed, signed_row}
use Rattle.typing_steps.proofs.Rows.{equal_asks}
use Rattle.expression_steps.proofs.SettingLaws.{set_row, for_row, part_set, part_unset, field_set}
use Rattle.tree_model.specs.Rows.{field_row}
use Rattle.syntax_tree.specs.declared.rows.RowName.TheVariants as name
use Rattle.expression_steps.proofs.EndingLaws.{is_field}
use Rattle.operand_laws.specs.Operands.{path_of}
use Rattle.row_parts.specs.Numbered.{path_in}
use Rattle.typing_steps.proofs.Recording.{type_noted}
use Rattle.typing_rows.specs.Fields.{EndsSettable}
use Rattle.expression_steps.proofs.CarryingLaws.{both_ok, usual_by, by_operation, paren_row, plain_row, operation_row, operation_missing, minus_float, minus_operation, application_row, construction_row, first_carried, later_carried, head_row, known_later, unknown_later, typed_as_if as typed_where_wanted, constructed_row, argument_typed, each_step, given_step, parts_step}
use Rattle.std.specs.Option.{IfSome}
use Rattle.std.specs.Vec.Iter.{into_iter_items}
use Rattle.std.proofs.lemmas.Result.{IfOk-weaker}
use Rattle.expression_steps.specs.Operators.{sign_in, IsSignOf}
use Rattle.expression_steps.specs.declared.forms.RowForm.TheVariants as form
use Rattle.type_terms.specs.declared.types.NodeRef.{NodeRef}
use Rattle.typing_model.specs.Parts.{Case}
use Rattle.operand_laws.specs.Operands.{number_of}
use Rattle.typing_rows.specs.Asked.{row_expression}
use Rattle.binding_rows.specs.Decided.{JudgesNodesFirst}
use Rattle.binding_rows.specs.Cases.{cases_of, TypesGuard}
use Rattle.binding_rows.specs.Parameters.{MakesArrows}
use Rattle.binding_rows.proofs.Ordered.{cases_none, cases_all}
use Rattle.binding_rows.proofs.CaseNodes.{match_node, function_node, fun_node}
use Rattle.binding_rows.proofs.CaseOperands.{case_missing, case_there as case_found, guard_typed, operands_typed}
use Rattle.binding_rows.proofs.Cases.{guard_none}
use Rattle.binding_steps.specs.Sides.{sides_by}
use Rattle.core_typing.proofs.CaseLaws.{node_if, by_match, by_function, by_fun, case_step, match_row, function_row, fun_row, cases_row, case_node, body_by, typed_unasked}
use Rattle.pattern_typing.specs.Matching.{names_seen}
use Rattle.binding_rows.specs.CaseScopes.{names_added}
use Rattle.binding_rows.specs.Groups.{names_opened}
use Rattle.binding_rows.specs.Operands.{TypesRightBodyOf, ConcludesNodesFirst}
use Rattle.binding_rows.proofs.Nodes.{let_node}
use Rattle.binding_rows.proofs.Loops.{turns_start, turns_step, turns_end}
use Rattle.binding_rows.proofs.Operands.{body_of_operand, right_of_operands, right_of_node, right_node_recorded, turn_missing, turn_there as turn_found, concludes_start, concludes_step, concludes_end, together_of_operands, group_of_turns, group_with_rec}
use Rattle.binding_rows.proofs.Verdicts.{judged_missing, judged_there, judges_start, judges_step, judges_end, nodes_judged_start, nodes_judged_step, nodes_judged_end, judged_by_nodes, judged_group}
use Rattle.binding_rows.specs.Lets.{names_closed}
use Rattle.binding_rows.specs.LetNodes.{ClosesBindings}
use Rattle.binding_steps.specs.Bindings.{typed_of, closing_of, opened_of, node_of, generals}
use Rattle.binding_steps.proofs.ClosingLaws.{mapped_more}
use Rattle.core_typing.proofs.LetLaws.{by_let, let_done, missing_asks, turn_concluded, turn_judged, conclusion_done, no_more}
use Rattle.typing_model.specs.Parts.{Field}
use Rattle.typing_rows.specs.Contracts.{TypesEach}
use Rattle.use_typing.specs.Records.{TypesRecordType}
use Rattle.record_rows.specs.Values.{FieldsWritten}
use Rattle.record_rows.specs.ValueOperands.{value_fields_of, IsCarriedValue}
use Rattle.record_rows.specs.RecordExpressions.{values_of}
use Rattle.record_rows.proofs.Going.{record_node}
use Rattle.record_rows.proofs.Values.{written_none, written_all}
use Rattle.expression_steps.specs.Records.{here_of, names_written}
use Rattle.core_typing.specs.Records.{TypesMadeOr, TypesPieces}
use Rattle.core_typing.proofs.RecordCarrying.{by_record, field_given, field_punned, field_absent, field_by, value_step, made_done, loose_done, updated_done, behind_done, part_done, value_typed, value_absent, record_done, on_any}
use Rattle.core_typing.proofs.+exprs.Goals as goal

pub exprs::type_each-loop-e-preserved : goal.exprs::type_each-loop-e-preserved
exprs::type_each-loop-e-preserved t c =
    let all = c.args.es.now in
    let i = c.loop-e.e-index in
    let lt : i < length all = let n = c.loop-e-test.true in omega arith in
    record {
      goes = goes_trans c.args.at.now c.loop-e.at c.type_under.new.at c.loop-e.invariant.goes c.type_under.ensures.goes;
      carries = each_step c.args.at.now c.loop-e.at c.type_under.new.at c.args.env.now all i c.e-item.result _ lt c.e-item.is c.loop-e.invariant.goes c.loop-e.invariant.carries c.in_ok-type_under.ensures.carries;
    }

pub apply::arguments-loop-one-preserved : goal.apply::arguments-loop-one-preserved
apply::arguments-loop-one-preserved t c =
    let all = c.args.given.now in
    let i = c.loop-one.one-index in
    let lt : i < length all = let n = c.loop-one-test.true in omega arith in
    record {
      goes = goes_trans c.args.at.now c.loop-one.at c.argument.new.at c.loop-one.invariant.goes c.argument.ensures.goes;
      carries = given_step c.args.at.now c.loop-one.at c.argument.new.at c.args.env.now (place_of c.args.place) (is_negated c.args.sign) all i c.one-item.result c.args.head.0 c.loop-one.ty.0 c.in_ok-ty.ty.0 lt c.one-item.is c.loop-one.invariant.goes c.loop-one.invariant.carries c.in_ok-ty.ensures.carries;
    }

pub apply::constructed-returns-clause-carries : goal.apply::constructed-returns-clause-carries
apply::constructed-returns-clause-carries t c =
    let head = operand_view c.args.head in
    let x = c.in-Some.first.now in
    let ys = c.in-Some.later.now in
    let split = c.in-Some.ensures.cases.0 in
    IfOk-weaker c.later_arguments.result _ _ (λ u h carried n.
    constructed_row c.args.at.now c.with_argument.new.at c.later_arguments.new.at c.args.env.now n (path_as (path_view c.args.path.now)) head x ys c.args.given.now c.in_ok-built.built.known c.in_ok-built.built.ty.0 u.ty.0 split
    (c.in_ok-built.ensures.carries (first_carried x ys c.args.given.now split carried) n) c.with_argument.ensures.goes (h (later_carried x ys c.args.given.now split carried))) c.later_arguments.ensures.carries

pub exprs::type_under-returns-in_default-clause-alone : goal.exprs::type_under-returns-in_default-clause-alone
exprs::type_under-returns-in_default-clause-alone t c =
    alone_missing c.args.e (is_negated c.args.sign) c.args.env.now c.args.at.now c.note_type.new.self c.in_default.is
    (index_silent c.var.new.self c.note_type.new.self c.note_type.ensures.rest ∙ store_silent c.args.at.now c.var.new.self c.var.ensures.rest)

pub exprs::type_under-returns-clause-alone : goal.exprs::type_under-returns-clause-alone
exprs::type_under-returns-clause-alone t c =
    alone_there c.args.e c.in-Some.node (is_negated c.args.sign) c.args.env.now c.args.at.now c.typed_row.new.at c.note.new.self c.in-Some.is c.in_ok-used.ensures.alone c.note.ensures.rest

pub plain::type_parts-loop-part-preserved : goal.plain::type_parts-loop-part-preserved
plain::type_parts-loop-part-preserved t c =
    let all = c.args.parts.now in
    let i = c.loop-part.part-index in
    let lt : i < length all = let n = c.loop-part-test.true in omega arith in
    let place : c.len-place.result ≡ i = let got = c.len-place.ensures in let listed = c.loop-part.types.ok in let before = c.loop-part.invariant.places in omega arith in
    record {
      goes = goes_trans c.args.at.now c.loop-part.at c.type_part.new.at c.loop-part.invariant.goes c.type_part.ensures.goes;
      places = let pushed = ap length c.in_ok-push.ensures.pushed in let before = c.loop-part.invariant.places in grind (arith, length-append);
      carries = parts_step c.args.at.now c.loop-part.at c.type_part.new.at c.args.env.now (row_of c.args.row) all i c.len-place.result c.part-item.result c.loop-part.types.items c.push.new.list.items c.in_ok-ty.ty lt c.part-item.is place c.in_ok-push.ensures.pushed c.loop-part.invariant.goes c.loop-part.invariant.carries c.in_ok-ty.ensures.carries;
    }

pub cases::type_each_case-loop-case-preserved : goal.cases::type_each_case-loop-case-preserved
cases::type_each_case-loop-case-preserved t c =
    let all = c.args.cases.now in
    let i = c.loop-case.case-index in
    let x = c.case-item.result in
    let lt : i < length all = let n = c.loop-case-test.true in omega arith in
    record {
      goes = goes_trans c.args.at.now c.loop-case.at c.type_case.new.at c.loop-case.invariant.goes c.type_case.ensures.goes;
      spans = places_read all i x (spans_of c.loop-case.rows) (spans_of c.type_case.new.rows) _ lt c.case-item.is c.in_ok-bodies.ensures.spans c.loop-case.invariant.spans;
      carries = case_step c.args.at.now c.loop-case.at c.type_case.new.at c.args.env.now all i x c.args.matched.0 (node_if c.args.known) (node_if c.loop-case.bodies) (node_if c.in_ok-bodies.bodies) lt c.case-item.is c.loop-case.invariant.goes c.loop-case.invariant.carries c.in_ok-bodies.ensures.carries;
    }

pub cases::type_each_case-loop-case-init : goal.cases::type_each_case-loop-case-init
cases::type_each_case-loop-case-init t c = record {
  goes = goes_refl c.args.at.now;
  spans = refl;
  carries = λ all. cases_none c.args.at.now c.args.env.now (cases_of c.args.at.now.item (map operand_view c.args.cases.now)) c.args.matched.0 (node_if c.args.known);
}

pub cases::type_each_case-returns-clause-carries : goal.cases::type_each_case-returns-clause-carries
cases::type_each_case-returns-clause-carries t c = λ all.
    let view : List Operand → List Case = λ os. cases_of c.args.at.now.item (map operand_view os) in
    cases_all c.args.at.now c.loop-case.at c.args.env.now (view c.args.cases.now) (view (drop c.loop-case.case-index c.args.cases.now)) c.args.matched.0 (node_if c.args.known) (node_if c.loop-case.bodies)
    (ap view (drop_all c.loop-case.case-index c.args.cases.now c.loop-case-test.false)) (c.loop-case.invariant.carries all)

pub cases::type_each_case-returns-clause-spans : goal.cases::type_each_case-returns-clause-spans
cases::type_each_case-returns-clause-spans t c =
    places_done (drop c.loop-case.case-index c.args.cases.now) (spans_of c.loop-case.rows) _ (drop_all c.loop-case.case-index c.args.cases.now c.loop-case-test.false) c.loop-case.invariant.spans

pub cases::match_of-returns-clause-carries : goal.cases::match_of-returns-clause-carries
cases::match_of-returns-clause-carries t c = λ place node.
    let nd = c.args.node.now in
    let tree = node_view nd in
    subst (λ (u : NodeRef). TypesRow c.args.at.now c.type_cases.new.at c.args.env.now (λ x. (row_expression c.args.at.now.item c.args.number place tree).typed x) (number_of c.args.at.now.item c.args.number) u.0) (sym c.unnamed.ensures.ty)
    (match_row c.args.at.now c.type_under.new.at c.type_cases.new.at c.args.env.now c.args.number place tree c.operand_in-subject.result c.sides_of-bodies.result c.in_ok-ty.ty c.in_ok-ty-2.ty node c.operand_in-subject.ensures c.in_ok-ty.ensures.carries c.type_under.ensures.goes
    (c.sides_of-bodies.ensures.sides ∙ ap (λ r. sides_by r c.type_under.new.at.constants.exn c.in_ok-ty.ty) (sym (row_of_node nd) ∙ sym (rows_same tree))) c.in_ok-ty-2.ensures.carries)

pub cases::function_of_cases-returns-clause-carries : goal.cases::function_of_cases-returns-clause-carries
cases::function_of_cases-returns-clause-carries t c = λ place node.
    function_row c.args.at.now c.var.new.self c.type_cases.new.at c.arrow.new.self c.args.env.now c.args.number place (node_view c.args.node.now) c.in_ok-from.from c.in_ok-to.to c.in_ok-ty.ty c.unnamed.result.ty node
    c.in_ok-from.ensures.made c.var.ensures.rest c.var.ensures.goes c.in_ok-to.ensures.carries c.in_ok-ty.ensures.made c.arrow.ensures.rest c.unnamed.ensures.ty

pub cases::type_cases-returns-clause-carries : goal.cases::type_cases-returns-clause-carries
cases::type_cases-returns-clause-carries t c =
    let same : map operand_view c.deref.result.now ≡ operands_in c.args.number (node_view c.args.node.now) 4 = ap (map operand_view) c.deref.ensures.value ∙ c.in_ok-cases.ensures in
    IfOk-weaker c.type_or_var.result _ _ (λ m both all.
    cases_row c.args.at.now c.type_each_case.new.at c.report.new.at c.type_or_var.new.at c.args.env.now (map operand_view c.deref.result.now) (operands_in c.args.number (node_view c.args.node.now) 4) c.args.matched.0 (node_if c.args.known) c.in_ok-bodies.bodies m same
    c.in_ok-bodies.ensures.carries c.in_ok-report.ensures.warns both.0 both.1 all) (both_ok c.type_or_var.result _ _ c.type_or_var.ensures.ty c.type_or_var.ensures.carries)

pub cases::type_cases-returns-clause-warns : goal.cases::type_cases-returns-clause-warns
cases::type_cases-returns-clause-warns t c =
    let items = c.deref.result.now in
    cases_warned c.type_or_var.result c.args.number c.args.node.now items (spans_of c.type_each_case.new.rows) c.args.at.now c.type_each_case.new.at c.report.new.at c.type_or_var.new.at (ap (map operand_view) c.deref.ensures.value ∙ c.in_ok-cases.ensures)
    (c.in_ok-bodies.ensures.spans ∙ ap (λ ps. ps ++ places_there (map operand_view items)) c.new-rows.ensures.spans) c.type_each_case.ensures.goes c.in_ok-report.ensures.places c.type_or_var.ensures.silent

pub cases::type_case-returns-in_default-clause-carries : goal.cases::type_case-returns-in_default-clause-carries
cases::type_case-returns-in_default-clause-carries t c = λ carried.
    case_missing c.args.at.now c.note_plain.new.self c.args.env.now c.args.case c.args.matched.0 (node_if c.args.bodies) c.in_default.is c.in_ok-note_plain.ensures.noted c.note_plain.ensures.rest

pub cases::type_case-returns-clause-carries : goal.cases::type_case-returns-clause-carries
cases::type_case-returns-clause-carries t c =
    IfOk-weaker c.typed_case.result _ _ (λ now h.
    case_found c.args.at.now c.note_plain.new.self c.typed_case.new.at c.args.env.now c.args.case c.in-Some.node c.args.matched.0 (node_if c.args.bodies) (node_if now) c.in-Some.is c.in_ok-note_plain.ensures.noted c.note_plain.ensures.rest c.note_plain.ensures.goes h)
    c.typed_case.ensures.carries

pub cases::typed_case-returns-clause-carries : goal.cases::typed_case-returns-clause-carries
cases::typed_case-returns-clause-carries t c =
    let tree = node_view c.args.node.now in
    IfOk-weaker c.case_of.result _ _ (λ now h node.
    case_node c.args.at.now c.case_of.new.at c.args.env.now c.args.number tree (operand_view c.operand_in.result) (option_map operand_view c.first_operand.result) (operand_view c.operand_in-2.result) c.args.matched.0 (node_if c.args.bodies) (node_if now)
    c.operand_in.ensures c.first_operand.ensures c.operand_in-2.ensures (h c.args.number) node) c.case_of.ensures.carries

pub cases::case_of-returns-clause-carries : goal.cases::case_of-returns-clause-carries
cases::case_of-returns-clause-carries t c = λ n pattern guard body.
    let k = c.args.case in (
      c.unwrap_or.result.0,
      refl,
      operands_typed c.args.at.now c.within_case.new.at c.type_guard.new.at c.typed_as.new.at c.args.env.now c.in_ok-inner.inner n (operand_view k.pattern) (operand_view k.body) (option_map operand_view k.guard) c.args.matched.0 (node_if c.args.bodies) c.unwrap_or.result.0
          c.in_ok-inner.ensures.carries c.within_case.ensures.goes c.in_ok-type_guard.ensures.carries c.type_guard.ensures.goes
          (body_by c.type_guard.new.at c.typed_as.new.at c.in_ok-inner.inner (operand_view k.body) c.args.bodies c.in_ok-ty.ty c.unwrap_or.result c.unwrap_or.ensures c.in_ok-ty.ensures.typed c.in_ok-ty.ensures.carries) pattern guard body,
    )

pub cases::type_guard-returns-in_default-clause-carries : goal.cases::type_guard-returns-in_default-clause-carries
cases::type_guard-returns-in_default-clause-carries t c = λ carried.
    subst (λ o. TypesGuard c.args.at.now c.args.at.now c.args.inner.now (option_map (λ p. expression_of c.args.at.now.item p) (option_map operand_view o))) (sym c.in_default.is) (guard_none c.args.at.now c.args.inner.now)

pub cases::type_guard-returns-in_ok-typed_as-clause-carries : goal.cases::type_guard-returns-in_ok-typed_as-clause-carries
cases::type_guard-returns-in_ok-typed_as-clause-carries t c =
    subst (λ o. IfSome (option_map operand_view o) IsCarried → TypesGuard c.args.at.now c.typed_as.new.at c.args.inner.now (option_map (λ p. expression_of c.args.at.now.item p) (option_map operand_view o))) (sym c.in-Some.is)
    (guard_typed c.args.at.now c.typed_as.new.at c.args.inner.now (operand_view c.in-Some.guard) c.in_ok-typed_as.ensures.carries)

pub functions::function-returns-clause-carries : goal.functions::function-returns-clause-carries
functions::function-returns-clause-carries t c = λ place node.
    let same : map operand_view c.deref.result.now ≡ operands_in c.args.number (node_view c.args.node.now) 1 = ap (map operand_view) c.deref.ensures.value ∙ c.in_ok-parameters.ensures in
    fun_row c.args.at.now c.type_parameters.new.at c.type_under.new.at c.arrows.new.at c.args.env.now c.in_ok-types.inner c.args.number place (node_view c.args.node.now) (map operand_view c.deref.result.now) c.operand_in-body.result (numbers c.in_ok-types.types.items) c.in_ok-to.to c.in_ok-ty.ty c.unnamed.result.ty node
    same c.operand_in-body.ensures c.in_ok-types.ensures.carries c.type_parameters.ensures.goes c.in_ok-to.ensures.carries
    (subst (λ ms. MakesArrows c.type_under.new.at c.arrows.new.at (numbers ms) c.in_ok-to.to.0 c.in_ok-ty.ty.0) c.deref-2.ensures.value c.in_ok-ty.ensures.carries) c.unnamed.ensures.ty

pub exprs::typed_as-returns-clause-typed : goal.exprs::typed_as-returns-clause-typed
exprs::typed_as-returns-clause-typed t c = λ none carried.
    typed_unasked c.args.at.now c.type_under.new.at c.equal_if.new.at c.args.env.now (expression_of c.args.at.now.item (operand_view c.args.e)) (place_of c.args.e.span) c.in_ok-ty.ty.0 c.args.wanted none (c.in_ok-ty.ensures.carries carried) c.in_ok-equal_if.ensures.carries

pub cases::type_case-returns-in_default-clause-spans : goal.cases::type_case-returns-in_default-clause-spans
cases::type_case-returns-in_default-clause-spans t c = place_same (spans_of c.args.rows.now) c.args.case c.in_default.is

pub cases::type_case-returns-clause-spans : goal.cases::type_case-returns-clause-spans
cases::type_case-returns-clause-spans t c = place_added c.typed_case.result _ _ c.args.case c.in-Some.node c.in-Some.is c.typed_case.ensures.spans

pub records::type_fields-loop-field-preserved : goal.records::type_fields-loop-field-preserved
records::type_fields-loop-field-preserved t c =
    let all = c.args.given.now in
    let i = c.loop-field.field-index in
    let x = c.field-item.result in
    let lt : i < length all = let n = c.loop-field-test.true in omega arith in
    record {
      found = c.in_ok-type_if_there.ensures.found ∙ c.loop-field.invariant.found;
      goes = goes_trans c.args.at.now c.loop-field.at c.type_if_there.new.at c.loop-field.invariant.goes c.type_if_there.ensures.goes;
      carries = value_step c.args.at.now c.loop-field.at c.type_if_there.new.at c.args.env.now (here_of c.args.fields.now.found) (here_of c.loop-field.fields.found) all i x (names_written c.args.fields.now.labels.items) (names_written c.loop-field.fields.labels.items) (names_written c.type_if_there.new.fields.labels.items)
          lt c.field-item.is c.loop-field.invariant.goes c.loop-field.invariant.found c.loop-field.invariant.carries c.in_ok-type_if_there.ensures.carries;
    }

pub bindings::in_turn-loop-binding-init : goal.bindings::in_turn-loop-binding-init
bindings::in_turn-loop-binding-init t c =
    let os = c.args.bindings.now in
    record {
      goes = goes_refl c.args.at.now;
      carries = turns_start c.args.at.now c.args.env.now os (names_seen c.new-seen.result.items) (map typed_of c.new-bound.result.items) (ap names_seen c.new-seen.ensures.items) (ap (map typed_of) c.new-bound.ensures.items);
      general = judges_start c.args.env.now os (generals c.new-bound.result.items) (ap generals c.new-bound.ensures.items);
    }

pub bindings::in_turn-returns-clause-carries : goal.bindings::in_turn-returns-clause-carries
bindings::in_turn-returns-clause-carries t c =
    let os = c.args.bindings.now in
    let i = c.loop-binding.binding-index in
    turns_end c.args.at.now c.loop-binding.at c.args.env.now os (drop i os) (names_seen c.loop-binding.seen.items) (map typed_of c.loop-binding.bound.items) (drop_all i os c.loop-binding-test.false) c.loop-binding.invariant.carries

pub bindings::in_turn-returns-clause-general : goal.bindings::in_turn-returns-clause-general
bindings::in_turn-returns-clause-general t c =
    let os = c.args.bindings.now in
    let i = c.loop-binding.binding-index in
    judges_end c.args.env.now os (drop i os) (generals c.loop-binding.bound.items) (drop_all i os c.loop-binding-test.false) c.loop-binding.invariant.general

pub bindings::in_turn-loop-binding-preserved : goal.bindings::in_turn-loop-binding-preserved
bindings::in_turn-loop-binding-preserved t c =
    let all = c.args.bindings.now in
    let i = c.loop-binding.binding-index in
    let x = c.binding-item.result in
    let lt : i < length all = let n = c.loop-binding-test.true in omega arith in
    record {
      goes = goes_trans c.args.at.now c.loop-binding.at c.take_turn.new.at c.loop-binding.invariant.goes c.take_turn.ensures.goes;
      carries = turns_step c.args.at.now c.loop-binding.at c.take_turn.new.at c.args.env.now all i x (names_seen c.loop-binding.seen.items) (names_seen c.take_turn.new.seen.items) (map typed_of c.loop-binding.bound.items) (map typed_of c.take_turn.new.bound.items) lt c.binding-item.is
          c.loop-binding.invariant.goes c.loop-binding.invariant.carries c.in_ok-take_turn.ensures.carries;
      general = judges_step c.args.env.now all i x (generals c.loop-binding.bound.items) (generals c.take_turn.new.bound.items) lt c.binding-item.is c.loop-binding.invariant.general c.in_ok-take_turn.ensures.general;
    }

pub bindings::let_in-returns-clause-carries : goal.bindings::let_in-returns-clause-carries
bindings::let_in-returns-clause-carries t c = λ place node.
    let bs = c.in_ok-bound.bound.items in
    let d = c.close.new.at in
    let_done c.args.at.now c.raise.new.at c.type_group.new.at d c.type_under.new.at c.args.env.now c.in_ok-behind.behind.env c.args.number place (node_view c.args.node.now) bs c.operand_in-body.result c.in_ok-ty.ty c.unnamed.result.ty node c.in_ok-raise.ensures.raised c.in_ok-bound.ensures.carries
    c.in_ok-bound.ensures.general c.type_group.ensures.goes (subst (λ xs. ClosesBindings c.type_group.new.at d (map closing_of xs)) c.deref.ensures.value c.in_ok-behind.ensures.carries) c.close.ensures.goes
    (c.in_ok-behind.ensures.names ∙ ap (λ xs. names_added (names_closed (map closing_of xs)) c.args.env.now) c.deref.ensures.value) c.operand_in-body.ensures c.in_ok-ty.ensures.carries c.unnamed.ensures.ty

pub bindings::let_in-returns-clause-goes : goal.bindings::let_in-returns-clause-goes
bindings::let_in-returns-clause-goes t c =
    let closed = goes_trans c.raise.new.at c.type_group.new.at c.close.new.at c.type_group.ensures.goes c.close.ensures.goes in
    goes_trans c.args.at.now c.raise.new.at c.type_under.new.at c.raise.ensures.goes (goes_trans c.raise.new.at c.close.new.at c.type_under.new.at closed c.type_under.ensures.goes)

pub bindings::let_in-returns-in_err-ty-clause-goes : goal.bindings::let_in-returns-in_err-ty-clause-goes
bindings::let_in-returns-in_err-ty-clause-goes t c =
    let closed = goes_trans c.raise.new.at c.type_group.new.at c.close.new.at c.type_group.ensures.goes c.close.ensures.goes in
    goes_trans c.args.at.now c.raise.new.at c.type_under.new.at c.raise.ensures.goes (goes_trans c.raise.new.at c.close.new.at c.type_under.new.at closed c.type_under.ensures.goes)

pub bindings::turn-returns-clause-carries : goal.bindings::turn-returns-clause-carries
bindings::turn-returns-clause-carries t c =
    IfOk-weaker c.conclude.result _ _ (λ b h.
    turn_concluded c.args.at.now c.recorded_right.new.at c.open_pattern.new.at c.conclude.new.at c.args.env.now c.args.binding c.in_ok-opened.opened c.in_ok-side.side b (names_seen c.args.seen.now.items) (names_seen c.open_pattern.new.seen.items)
    c.in_ok-side.ensures.carries c.recorded_right.ensures.goes c.in_ok-opened.ensures.carries c.open_pattern.ensures.goes c.in_ok-opened.ensures.binding h) c.conclude.ensures.carries

pub bindings::turn-returns-clause-general : goal.bindings::turn-returns-clause-general
bindings::turn-returns-clause-general t c =
    IfOk-weaker c.conclude.result _ _ (λ b h. turn_judged c.open_pattern.new.at c.conclude.new.at c.args.env.now c.args.env.now c.args.binding c.in_ok-opened.opened c.in_ok-side.side b c.in_ok-opened.ensures.binding h) c.conclude.ensures.carries

pub bindings::take_turn-returns-in_default-clause-carries : goal.bindings::take_turn-returns-in_default-clause-carries
bindings::take_turn-returns-in_default-clause-carries t c = turn_missing c.args.at.now c.args.env.now c.args.binding (names_seen c.args.seen.now.items) (map typed_of c.args.bound.now.items) c.in_default.is

pub bindings::take_turn-returns-in_default-clause-general : goal.bindings::take_turn-returns-in_default-clause-general
bindings::take_turn-returns-in_default-clause-general t c = judged_missing c.args.env.now c.args.binding (generals c.args.bound.now.items) c.in_default.is

pub bindings::take_turn-returns-clause-carries : goal.bindings::take_turn-returns-clause-carries
bindings::take_turn-returns-clause-carries t c =
    let old = c.args.bound.now.items in
    let new = c.push.new.list.items in
    on_ok c.push.result (λ pushed.
    turn_found c.args.at.now c.turn.new.at c.args.env.now c.args.binding c.in-Some.node (names_seen c.args.seen.now.items) (names_seen c.turn.new.seen.items) (map typed_of old) (map typed_of new) (typed_of c.in_ok-one.one) c.in-Some.is
    (mapped_more typed_of old new c.in_ok-one.one pushed) c.in_ok-one.ensures.carries) c.push.ensures.pushed

pub bindings::take_turn-returns-clause-general : goal.bindings::take_turn-returns-clause-general
bindings::take_turn-returns-clause-general t c =
    let old = c.args.bound.now.items in
    let new = c.push.new.list.items in
    on_ok c.push.result (λ pushed.
    judged_there c.args.env.now c.args.binding c.in-Some.node (generals old) (generals new) c.in_ok-one.one.generalises c.in-Some.is (mapped_more (λ b. b.generalises) old new c.in_ok-one.one pushed) c.in_ok-one.ensures.general) c.push.ensures.pushed

pub bindings::recorded_right-returns-clause-carries : goal.bindings::recorded_right-returns-clause-carries
bindings::recorded_right-returns-clause-carries t c =
    IfOk-weaker c.type_right.result _ _ (λ s h.
    right_node_recorded c.args.at.now c.note_plain.new.self c.type_right.new.at c.args.env.now c.args.binding.number (node_view c.args.binding.node.now) s.right.0 s.whole.0 c.in_ok-note_plain.ensures.noted c.note_plain.ensures.rest c.note_plain.ensures.goes h)
    c.type_right.ensures.carries

pub bindings::together-returns-clause-carries : goal.bindings::together-returns-clause-carries
bindings::together-returns-clause-carries t c =
    let os = c.in_ok-opened.opened.items in
    IfOk-weaker c.conclude_all.result _ _ (λ bs h.
    together_of_operands c.args.at.now c.open_all.new.at c.conclude_all.new.at c.args.env.now c.in_ok-within.within (map operand_view c.args.bindings.now) (map node_of os) (map opened_of os) (map typed_of bs.items) c.in_ok-opened.ensures.carries c.open_all.ensures.goes
    (c.in_ok-within.ensures.scope ∙ ap (λ xs. names_added (names_opened (map opened_of xs)) c.args.env.now) c.deref.ensures.value) c.in_ok-opened.ensures.nodes h) c.conclude_all.ensures.carries

pub bindings::together-returns-clause-general : goal.bindings::together-returns-clause-general
bindings::together-returns-clause-general t c =
    IfOk-weaker c.conclude_all.result _ _ (λ bs h. judged_by_nodes c.args.env.now (map operand_view c.args.bindings.now) (map node_of c.in_ok-opened.opened.items) (generals bs.items) c.in_ok-opened.ensures.nodes h) c.conclude_all.ensures.general

pub bindings::conclude_one-returns-clause-carries : goal.bindings::conclude_one-returns-clause-carries
bindings::conclude_one-returns-clause-carries t c =
    IfOk-weaker c.conclude.result _ _ (λ b h.
    conclusion_done c.args.at.now c.type_right.new.at c.conclude.new.at c.args.within.now c.args.env.now c.args.opened c.in_ok-side.side b c.in_ok-side.ensures.carries c.type_right.ensures.goes h) c.conclude.ensures.carries

pub bindings::conclude_one-returns-clause-general : goal.bindings::conclude_one-returns-clause-general
bindings::conclude_one-returns-clause-general t c = IfOk-weaker c.conclude.result _ _ (λ b h. h.judged) c.conclude.ensures.carries

pub bindings::type_right-returns-clause-carries : goal.bindings::type_right-returns-clause-carries
bindings::type_right-returns-clause-carries t c =
    let b = c.args.binding in
    IfOk-weaker c.right_of.result _ _ (λ s h.
    right_of_node c.args.at.now c.right_of.new.at c.args.within.now b.number (node_view b.node.now) (map operand_view c.deref.result.now) (option_map operand_view c.first_operand-written.result) (operand_view c.body_in.result) s.right.0 s.whole.0
    (ap (map operand_view) c.deref.ensures.value ∙ c.in_ok-given.ensures) c.first_operand-written.ensures c.body_in.ensures h) c.right_of.ensures.carries

pub bindings::right_of-returns-clause-carries : goal.bindings::right_of-returns-clause-carries
bindings::right_of-returns-clause-carries t c =
    let ms = numbers c.in_ok-parameters.parameters.items in
    let o = operand_view c.args.body in
    let written = node_if c.in_ok-annotation.annotation in
    IfOk-weaker c.typed_body.result _ _ (λ s h.
    right_of_operands c.args.at.now c.type_parameters.new.at c.annotation_of.new.at c.typed_body.new.at c.args.within.now c.in_ok-parameters.inner (map operand_view c.args.given.now) (option_map operand_view c.args.written) o ms written s.right.0 s.whole.0
    c.in_ok-parameters.ensures.carries c.type_parameters.ensures.goes c.in_ok-annotation.ensures.carries c.annotation_of.ensures.goes
    (subst (λ ns. TypesRightBodyOf c.annotation_of.new.at c.typed_body.new.at c.in_ok-parameters.inner o written (numbers ns) s.right.0 s.whole.0) c.deref.ensures.value h)) c.typed_body.ensures.carries

pub bindings::typed_body-returns-clause-carries : goal.bindings::typed_body-returns-clause-carries
bindings::typed_body-returns-clause-carries t c =
    body_of_operand c.args.at.now c.type_under.new.at c.whole.new.at c.args.inner.now (operand_view c.args.body) (node_if c.args.annotation) (numbers c.args.parameters.now) c.in_ok-right.right.0 c.in_ok-whole.whole.0 c.in_ok-right.ensures.carries c.type_under.ensures.goes
    c.in_ok-whole.ensures.carries

pub bindings::conclude_all-loop-one-init : goal.bindings::conclude_all-loop-one-init
bindings::conclude_all-loop-one-init t c =
    let os = c.args.opened.items in
    let same = c.into_iter-one-iterator.ensures.into_iter_gives.0 in
    let len : length os ≡ c.args.opened.len = search rules in
    record {
      goes = goes_refl c.args.at.now;
      counted = c.into_iter-one-iterator.ensures.into_iter_gives.1 ∙ sym len ∙ ap length (sym same);
      carries = λ are. subst (λ xs. ConcludesNodesFirst c.args.at.now c.args.at.now c.args.within.now (map node_of os) (map node_of xs) (map opened_of os) (map opened_of xs) (map typed_of c.new-bound.result.items)) (sym same)
          (concludes_start c.args.at.now c.args.within.now (map node_of os) (map opened_of os) (map typed_of c.new-bound.result.items) (ap (map typed_of) c.new-bound.ensures.items) are);
      general = λ are. subst (λ xs. JudgesNodesFirst c.args.env.now (map node_of os) (map node_of xs) (generals c.new-bound.result.items)) (sym same) (nodes_judged_start c.args.env.now (map node_of os) (generals c.new-bound.result.items) (ap generals c.new-bound.ensures.items) are);
    }

pub bindings::conclude_all-returns-clause-carries : goal.bindings::conclude_all-returns-clause-carries
bindings::conclude_all-returns-clause-carries t c =
    let os = c.args.opened.items in
    let left = into_iter_items c.loop-one.one-iterator in
    let none = no_more left (sym c.loop-one.invariant.counted ∙ c.in-None.ensures.steps.0) in
    concludes_end c.args.at.now c.loop-one.at c.args.within.now (map node_of os) (map node_of left) (map opened_of os) (map opened_of left) (map typed_of c.loop-one.bound.items) (ap (map node_of) none) c.loop-one.invariant.carries

pub bindings::conclude_all-returns-clause-general : goal.bindings::conclude_all-returns-clause-general
bindings::conclude_all-returns-clause-general t c =
    let left = into_iter_items c.loop-one.one-iterator in
    let none = no_more left (sym c.loop-one.invariant.counted ∙ c.in-None.ensures.steps.0) in
    nodes_judged_end c.args.env.now (map node_of c.args.opened.items) (map node_of left) (generals c.loop-one.bound.items) (ap (map node_of) none) c.loop-one.invariant.general

pub bindings::conclude_all-loop-one-preserved : goal.bindings::conclude_all-loop-one-preserved
bindings::conclude_all-loop-one-preserved t c =
    let left = into_iter_items c.loop-one.one-iterator in
    let os = c.args.opened.items in
    let rest = into_iter_items c.next.new.self in
    let one = c.in-Some.one in
    let cut : left ≡ one ∷ rest = c.in-Some.ensures.steps.0 in
    let before = c.loop-one.bound.items in
    let now = c.push.new.list.items in
    record {
      goes = goes_trans c.args.at.now c.loop-one.at c.conclude_one.new.at c.loop-one.invariant.goes c.conclude_one.ensures.goes;
      counted = let was = c.loop-one.invariant.counted in let gone = c.in-Some.ensures.steps.1 in let short = ap length cut in omega arith;
      carries = λ are. concludes_step c.args.at.now c.loop-one.at c.conclude_one.new.at c.args.within.now (map node_of os) (map node_of left) (map node_of rest) (node_of one) (map opened_of os) (map opened_of left) (map opened_of rest) (opened_of one)
          (map typed_of before) (map typed_of now) (typed_of c.in_ok-done.done) (ap (map node_of) cut) (ap (map opened_of) cut) (mapped_more typed_of before now c.in_ok-done.done c.in_ok-push.ensures.pushed) c.loop-one.invariant.goes (c.loop-one.invariant.carries are)
          c.in_ok-done.ensures.carries;
      general = λ are. nodes_judged_step c.args.env.now (map node_of os) (map node_of left) (map node_of rest) (node_of one) (generals before) (generals now) c.in_ok-done.done.generalises (ap (map node_of) cut) (mapped_more (λ b. b.generalises) before now c.in_ok-done.done c.in_ok-push.ensures.pushed)
          (c.loop-one.invariant.general are) c.in_ok-done.ensures.general;
    }

pub bindings::type_group-returns-in-None-clause-carries : goal.bindings::type_group-returns-in-None-clause-carries
bindings::type_group-returns-in-None-clause-carries t c =
    let tree = node_view c.args.node.now in
    IfOk-weaker c.in_turn.result _ _ (λ bs h.
    group_of_turns c.args.at.now c.note_missing.new.at c.in_turn.new.at c.args.env.now c.args.number tree (map operand_view c.deref-in-None.result.now) (map typed_of bs.items) (ap (map operand_view) c.deref-in-None.ensures.value ∙ c.in_ok-bindings.ensures)
    (no_token tree c.token.result c.token.ensures c.in-None.is) (missing_asks c.args.at.now c.note_missing.new.at c.in_ok-note_missing.ensures.notes) c.note_missing.ensures.goes h) c.in_turn.ensures.carries

pub bindings::type_group-returns-in-None-clause-general : goal.bindings::type_group-returns-in-None-clause-general
bindings::type_group-returns-in-None-clause-general t c =
    IfOk-weaker c.in_turn.result _ _ (λ bs h.
    judged_group c.args.env.now c.args.number (node_view c.args.node.now) (map operand_view c.deref-in-None.result.now) (generals bs.items) (ap (map operand_view) c.deref-in-None.ensures.value ∙ c.in_ok-bindings.ensures) h) c.in_turn.ensures.general

pub bindings::type_group-returns-clause-carries : goal.bindings::type_group-returns-clause-carries
bindings::type_group-returns-clause-carries t c =
    let tree = node_view c.args.node.now in
    IfOk-weaker c.together.result _ _ (λ bs h.
    group_with_rec c.args.at.now c.note_missing.new.at c.together.new.at c.args.env.now c.args.number tree (tok_of c.in-Some.field-0.now) (map operand_view c.deref-in-Some.result.now) (map typed_of bs.items) (ap (map operand_view) c.deref-in-Some.ensures.value ∙ c.in_ok-bindings.ensures)
    (some_token tree c.token.result c.in-Some.field-0 c.token.ensures c.in-Some.is) (missing_asks c.args.at.now c.note_missing.new.at c.in_ok-note_missing.ensures.notes) c.note_missing.ensures.goes h) c.together.ensures.carries

pub bindings::type_group-returns-clause-general : goal.bindings::type_group-returns-clause-general
bindings::type_group-returns-clause-general t c =
    IfOk-weaker c.together.result _ _ (λ bs h.
    judged_group c.args.env.now c.args.number (node_view c.args.node.now) (map operand_view c.deref-in-Some.result.now) (generals bs.items) (ap (map operand_view) c.deref-in-Some.ensures.value ∙ c.in_ok-bindings.ensures) h) c.together.ensures.general

pub exprs::type_each-loop-e-init : goal.exprs::type_each-loop-e-init
exprs::type_each-loop-e-init t c = record {
  goes = goes_refl c.args.at.now;
  carries = λ all. each_none c.args.at.now c.args.env.now (expressions_of c.args.at.now.item (map operand_view c.args.es.now));
}

pub exprs::type_each-returns-clause-carries : goal.exprs::type_each-returns-clause-carries
exprs::type_each-returns-clause-carries t c = λ all.
    let view : List Operand → List Expression = λ os. expressions_of c.args.at.now.item (map operand_view os) in
    each_all c.args.at.now c.loop-e.at c.args.env.now (view c.args.es.now) (view (drop c.loop-e.e-index c.args.es.now)) (ap view (drop_all c.loop-e.e-index c.args.es.now c.loop-e-test.false)) (c.loop-e.invariant.carries all)

pub apply::arguments-loop-one-init : goal.apply::arguments-loop-one-init
apply::arguments-loop-one-init t c = record {
  goes = goes_refl c.args.at.now;
  carries = λ all. given_none c.args.at.now c.args.env.now (place_of c.args.place) (signed_expressions (is_negated c.args.sign) c.args.at.now.item (map operand_view c.args.given.now)) c.args.head.0;
}

pub apply::arguments-returns-clause-carries : goal.apply::arguments-returns-clause-carries
apply::arguments-returns-clause-carries t c = λ all.
    let view : List Operand → List Expression = λ os. signed_expressions (is_negated c.args.sign) c.args.at.now.item (map operand_view os) in
    given_all c.args.at.now c.loop-one.at c.args.env.now (place_of c.args.place) (view c.args.given.now) (view (drop c.loop-one.one-index c.args.given.now)) c.args.head.0 c.loop-one.ty.0
    (ap view (drop_all c.loop-one.one-index c.args.given.now c.loop-one-test.false)) (c.loop-one.invariant.carries all)

pub plain::type_parts-loop-part-init : goal.plain::type_parts-loop-part-init
plain::type_parts-loop-part-init t c = record {
  goes = goes_refl c.args.at.now;
  places = ap length c.new-types.ensures.items;
  carries = λ all. parts_none c.args.at.now c.args.env.now (row_of c.args.row) (expressions_of c.args.at.now.item (map operand_view c.args.parts.now)) (numbers c.new-types.result.items) (ap numbers c.new-types.ensures.items);
}

pub plain::type_parts-returns-clause-carries : goal.plain::type_parts-returns-clause-carries
plain::type_parts-returns-clause-carries t c = λ all.
    let view : List Operand → List Expression = λ os. expressions_of c.args.at.now.item (map operand_view os) in
    parts_all c.args.at.now c.loop-part.at c.args.env.now (row_of c.args.row) c.loop-part.part-index (view c.args.parts.now) (view (drop c.loop-part.part-index c.args.parts.now)) (numbers c.loop-part.types.items)
    (ap view (drop_all c.loop-part.part-index c.args.parts.now c.loop-part-test.false)) (c.loop-part.invariant.carries all)

pub exprs::type_under-returns-in_default-clause-carries : goal.exprs::type_under-returns-in_default-clause-carries
exprs::type_under-returns-in_default-clause-carries t c = λ carried.
    missing_typed c.args.at.now c.var.new.self c.note_type.new.self c.args.e (is_negated c.args.sign) c.args.env.now c.in_ok-ty.ty c.in_default.is c.in_ok-ty.ensures.made c.var.ensures.rest c.var.ensures.goes c.in_ok-note_type.ensures.noted c.note_type.ensures.rest

pub exprs::type_under-returns-clause-carries : goal.exprs::type_under-returns-clause-carries
exprs::type_under-returns-clause-carries t c =
    row_typed c.args.at.now c.typed_row.new.at c.note.new.self c.args.e c.in-Some.node (is_negated c.args.sign) c.args.env.now c.in_ok-used.used.ty
    (record { env = c.args.env.now; ty = Some c.in_ok-used.used.ty; names = c.in_ok-used.used.names }) c.in-Some.is refl refl c.in_ok-used.ensures.carries c.typed_row.ensures.goes c.in_ok-note.ensures.noted c.note.ensures.rest

pub apply::typed_argument-returns-clause-carries : goal.apply::typed_argument-returns-clause-carries
apply::typed_argument-returns-clause-carries t c = λ carried.
    argument_typed c.args.at.now c.type_under.new.at c.equal.new.self c.args.env.now (is_negated c.args.sign) c.args.at.now.item (operand_view c.args.one) c.in_ok-found.found.0 c.args.from.0 (c.in_ok-found.ensures.carries carried) c.type_under.ensures.goes
    (equal_asks c.type_under.new.at c.equal.new.self c.args.env.now _ c.in_ok-equal.ensures.verdict c.equal.ensures.rest c.equal.ensures.goes)

pub apply::argument-returns-clause-carries : goal.apply::argument-returns-clause-carries
apply::argument-returns-clause-carries t c = λ carried.
    let e : ℕ → Expression = λ i. under_minus (is_negated c.args.sign) (expression_of i (operand_view c.args.one)) in
    types_argument c.args.at.now c.ask_arrow.new.at c.typed_argument.new.at c.args.env.now (place_of c.args.place) (e c.args.at.now.item) c.args.head.0 c.in_ok-from.from.0 c.in_ok-from.to.0 c.in_ok-from.ensures.carries c.ask_arrow.ensures.goes
    (subst (λ i. TypesAs c.ask_arrow.new.at c.typed_argument.new.at c.args.env.now (e i) c.in_ok-from.from.0) c.ask_arrow.ensures.goes.item (c.in_ok-typed_argument.ensures.carries carried))

pub apply::applied-returns-clause-carries : goal.apply::applied-returns-clause-carries
apply::applied-returns-clause-carries t c = λ carried all n.
    let head = operand_view c.args.head in
    let os = map operand_view c.args.given.now in
    subst (λ u. TypesRow c.args.at.now c.arguments.new.at c.args.env.now (applied_asks n (expression_of c.args.at.now.item head) (expressions_of c.args.at.now.item os)) n u.0) (sym c.unnamed.ensures.ty)
    (applied_typed c.args.at.now c.type_under.new.at c.arguments.new.at c.args.env.now (expression_of c.args.at.now.item head) (λ i. expressions_of i os) (place_of c.args.head.span) c.in_ok-ty.ty.0 c.in_ok-ty-2.ty.0 n (expression_of_stands c.args.at.now.item head).where_it_is
    (c.in_ok-ty.ensures.carries carried) c.type_under.ensures.goes (c.in_ok-ty-2.ensures.carries all))

pub plain::type_part-returns-clause-carries : goal.plain::type_part-returns-clause-carries
plain::type_part-returns-clause-carries t c = λ carried.
    let o = operand_view c.args.part in
    part_typed c.args.at.now c.type_under.new.at c.behind_part.new.at c.args.env.now (row_of c.args.row) c.args.place (expression_of c.args.at.now.item o) c.in_ok-ty.ty.0
    (c.in_ok-ty.ensures.carries carried) c.type_under.ensures.goes
    (subst (λ i. AsksBehind c.type_under.new.at c.behind_part.new.at c.args.env.now (row_of c.args.row) c.args.place (expression_of i o) c.in_ok-ty.ty.0) c.type_under.ensures.goes.item c.in_ok-behind_part.ensures.carries)

pub apply::application-returns-in-Some-clause-carries : goal.apply::application-returns-in-Some-clause-carries
apply::application-returns-in-Some-clause-carries t c =
    let p = path_view c.in-Some.path in
    IfOk-weaker c.constructed.result _ _ (λ u h place carried is.
    construction_row c.args.at.now c.constructed.new.at c.args.env.now c.args.number place (node_view c.args.node.now) c.operand_in-head.result p c.deref.result.now u.ty.0 carried is c.operand_in-head.ensures (ap (map operand_view) c.deref.ensures.value ∙ c.in_ok-given.ensures)
    (sym (ap (option_map path_view) (sym c.in-Some.is) ∙ c.in_ok-path.ensures)) h) c.constructed.ensures.carries

pub apply::application-returns-clause-carries : goal.apply::application-returns-clause-carries
apply::application-returns-clause-carries t c =
    IfOk-weaker c.applied.result _ _ (λ u h place carried is.
    application_row c.args.at.now c.applied.new.at c.args.env.now c.args.number place (node_view c.args.node.now) c.operand_in-head.result c.deref-in-None.result.now u.ty.0 carried is c.operand_in-head.ensures (ap (map operand_view) c.deref-in-None.ensures.value ∙ c.in_ok-given.ensures)
    (sym (ap (option_map path_view) (sym c.in-None.is) ∙ c.in_ok-path.ensures)) h) c.applied.ensures.carries

pub exprs::typed_as-returns-clause-carries : goal.exprs::typed_as-returns-clause-carries
exprs::typed_as-returns-clause-carries t c = λ carried.
    typed_where_wanted c.args.at.now c.type_under.new.at c.equal_if.new.at c.args.env.now (operand_view c.args.e) c.in_ok-ty.ty.0 c.args.wanted (c.in_ok-ty.ensures.carries carried) c.type_under.ensures.goes c.in_ok-equal_if.ensures.carries

pub apply::with_argument-returns-clause-carries : goal.apply::with_argument-returns-clause-carries
apply::with_argument-returns-clause-carries t c =
    IfOk-weaker c.note_head.result _ _ (λ h both carried n.
    head_row c.args.at.now c.constructor.new.at c.typed_as.new.at c.note_head.new.at c.args.env.now n c.args.number (path_as (path_view c.args.path.now)) c.args.first c.in_ok-found.found h c.in_ok-found.ensures.carries c.constructor.ensures.goes
    (c.in_ok-typed_as.ensures.carries carried) c.typed_as.ensures.goes both.0 both.1) (both_ok c.note_head.result _ _ c.note_head.ensures.carries c.note_head.ensures.head)

is_false : (b : Bool) → not b ≡ true → b ≡ false
is_false true h = sym h
is_false false h = refl

is_true : (b : Bool) → not b ≡ false → b ≡ true
is_true true h = refl
is_true false h = sym h

pub apply::later_arguments-returns-then-not-head-clause-carries : goal.apply::later_arguments-returns-then-not-head-clause-carries
apply::later_arguments-returns-then-not-head-clause-carries t c =
    IfOk-weaker c.built_by_unknown.result _ _ (λ u h all.
    unknown_later c.args.at.now c.type_each.new.at c.built_by_unknown.new.at c.args.env.now (place_of c.args.place) (map operand_view c.args.later.now) c.args.head u.ty (is_false c.args.head.known c.if-not-head.true) (c.in_ok-type_each.ensures.carries all) c.type_each.ensures.goes h) c.built_by_unknown.ensures.carries

pub apply::later_arguments-returns-clause-carries : goal.apply::later_arguments-returns-clause-carries
apply::later_arguments-returns-clause-carries t c = λ all.
    known_later c.args.at.now c.arguments.new.at c.args.env.now (place_of c.args.place) (expressions_of c.args.at.now.item (map operand_view c.args.later.now)) c.args.head c.in_ok-ty.ty c.unnamed.result.ty (is_true c.args.head.known c.if-not-head.false) c.unnamed.ensures.ty (c.in_ok-ty.ensures.carries all)

pub apply::operated-returns-clause-carries : goal.apply::operated-returns-clause-carries
apply::operated-returns-clause-carries t c = λ all n.
    let os = map operand_view c.args.given.now in
    operated_typed c.args.at.now c.operator_value.new.at c.arguments.new.at c.args.env.now (tok_of c.args.operator.now.named) (λ i. signed_expressions (is_negated c.args.operator.now.sign) i os) c.in_ok-found.found.ty.0 c.in_ok-ty.ty.0 n
    (c.in_ok-found.ensures.carries n 0) c.operator_value.ensures.goes (c.in_ok-ty.ensures.carries all)

pub apply::operation-returns-in-Some-clause-carries : goal.apply::operation-returns-in-Some-clause-carries
apply::operation-returns-in-Some-clause-carries t c =
    IfOk-weaker c.operated.result _ _ (λ u h place carried is.
    operation_row c.args.at.now c.operated.new.at c.args.env.now c.args.number place (node_view c.args.node.now) c.deref.result.now c.in-Some.operator u.ty.0 carried is
    (subst (λ o. IfSome o (λ x. IsSignOf (row_at (node_view c.args.node.now)) (sign_in (row_at (node_view c.args.node.now)) (node_view c.args.node.now)) x)) c.in-Some.is c.in_ok-operator.ensures.some)
    (ap (map operand_view) c.deref.ensures.value ∙ c.in_ok-given.ensures) h) c.operated.ensures.carries

pub apply::operation-returns-clause-carries : goal.apply::operation-returns-clause-carries
apply::operation-returns-clause-carries t c =
    IfOk-weaker c.any_type.result _ _ (λ u h place carried is.
    operation_missing c.args.at.now c.type_each.new.at c.any_type.new.at c.args.env.now c.args.number place (node_view c.args.node.now) c.deref-in-None.result.now u.ty.0 carried is (c.in_ok-operator.ensures.none c.in-None.is)
    (ap (map operand_view) c.deref-in-None.ensures.value ∙ c.in_ok-given.ensures) c.in_ok-type_each-in-None.ensures.carries c.type_each.ensures.goes h) c.any_type.ensures.carries

pub apply::minus-returns-then-is_float-clause-carries : goal.apply::minus-returns-then-is_float-clause-carries
apply::minus-returns-then-is_float-clause-carries t c =
    IfOk-weaker c.negative_float.result _ _ (λ u h place carried is.
    minus_float c.args.at.now c.negative_float.new.at c.args.env.now c.args.number place (node_view c.args.node.now) c.operand_in-part.result u.ty carried is c.operand_in-part.ensures (sym c.is_float.ensures ∙ c.if-is_float.true) h.0 h.1)
    (both_ok c.negative_float.result _ _ c.negative_float.ensures.carries c.negative_float.ensures.ty)

pub apply::minus-returns-clause-carries : goal.apply::minus-returns-clause-carries
apply::minus-returns-clause-carries t c =
    IfOk-weaker c.operation.result _ _ (λ u h place carried is.
    h place carried (minus_operation c.args.number (node_view c.args.node.now) c.operand_in-part.result is c.operand_in-part.ensures (sym c.is_float.ensures ∙ c.if-is_float.false))) c.operation.ensures.carries

pub plain::plain-returns-clause-carries : goal.plain::plain-returns-clause-carries
plain::plain-returns-clause-carries t c =
    let nd = c.args.node.now in
    let tree = node_view nd in
    let os = c.in_ok-parts.parts.items in
    IfOk-weaker c.behind_parts.result _ _ (λ u h place carried is.
    plain_row c.args.at.now c.type_parts.new.at c.behind_parts.new.at c.args.env.now c.args.number place tree (row_of (out-Node nd).row) os (numbers c.in_ok-types.types.items) u.ty.0 carried is (row_of_node nd) c.in_ok-parts.ensures
    (λ all. subst (λ qs. TypesParts c.args.at.now c.type_parts.new.at c.args.env.now (row_of (out-Node nd).row) (expressions_of c.args.at.now.item (map operand_view qs)) (numbers c.in_ok-types.types.items)) c.deref.ensures.value
    (c.in_ok-types.ensures.carries (subst (λ qs. All IsCarried (map operand_view qs)) (sym c.deref.ensures.value) all))) c.type_parts.ensures.goes
    (subst (λ qs. IsOrderedRow (row_at tree) → EndsRow c.type_parts.new.at c.behind_parts.new.at c.args.env.now (ordered_end (row_at tree) tree (expressions_of c.type_parts.new.at.item (map operand_view qs))) (expressions_of c.type_parts.new.at.item (map operand_view qs)) (numbers c.in_ok-types.types.items) u.ty.0) c.deref-2.ensures.value
    (subst (λ ms. IsOrderedRow (row_at tree) → EndsRow c.type_parts.new.at c.behind_parts.new.at c.args.env.now (ordered_end (row_at tree) tree (expressions_of c.type_parts.new.at.item (map operand_view c.deref-2.result.now))) (expressions_of c.type_parts.new.at.item (map operand_view c.deref-2.result.now)) (numbers ms) u.ty.0) c.deref-3.ensures.value h)))
    c.behind_parts.ensures.carries

pub plain::parenthesised-returns-clause-carries : goal.plain::parenthesised-returns-clause-carries
plain::parenthesised-returns-clause-carries t c = λ place carried is.
    paren_row c.args.at.now c.type_under.new.at c.as_written.new.at c.args.env.now c.args.number place (node_view c.args.node.now) c.operand_in-part.result c.first_operand.result c.in_ok-ty.ty c.in_ok-ty-2.ty c.unnamed.result.ty carried is c.operand_in-part.ensures c.first_operand.ensures
    c.in_ok-ty.ensures.carries c.type_under.ensures.goes c.in_ok-ty-2.ensures.written c.in_ok-ty-2.ensures.carries c.unnamed.ensures.ty

pub exprs::typed_row-returns-in-Leaf-clause-carries : goal.exprs::typed_row-returns-in-Leaf-clause-carries
exprs::typed_row-returns-in-Leaf-clause-carries t c =
    let tree = node_view c.args.node.now in
    let is : form_of (row_at tree) ≡ form.Leaf = ap form_of (row_of_node c.args.node.now) ∙ sym c.form_of.ensures ∙ c.in-Leaf.is in
    IfOk-weaker c.leaf.result _ _ (λ u h place carried. h place carried is) c.leaf.ensures.carries

pub exprs::typed_row-returns-in-Application-clause-carries : goal.exprs::typed_row-returns-in-Application-clause-carries
exprs::typed_row-returns-in-Application-clause-carries t c =
    let tree = node_view c.args.node.now in
    let is : form_of (row_at tree) ≡ form.Application = ap form_of (row_of_node c.args.node.now) ∙ sym c.form_of.ensures ∙ c.in-Application.is in
    IfOk-weaker c.application.result _ _ (λ u h place carried.
    signed_row c.args.at.now c.application.new.at c.args.env.now c.args.at.now.item c.args.number place tree (is_negated c.args.sign) u.ty.0 (usual_by c.args.number place tree form.Application carried is tt) (h place carried is)) c.application.ensures.carries

pub exprs::typed_row-returns-in-Operation-clause-carries : goal.exprs::typed_row-returns-in-Operation-clause-carries
exprs::typed_row-returns-in-Operation-clause-carries t c =
    let tree = node_view c.args.node.now in
    let is : form_of (row_at tree) ≡ form.Operation = ap form_of (row_of_node c.args.node.now) ∙ sym c.form_of.ensures ∙ c.in-Operation.is in
    IfOk-weaker c.operation.result _ _ (λ u h place carried.
    signed_row c.args.at.now c.operation.new.at c.args.env.now c.args.at.now.item c.args.number place tree (is_negated c.args.sign) u.ty.0 (usual_by c.args.number place tree form.Operation carried is tt) (h place carried (by_operation tree _ is))) c.operation.ensures.carries

pub exprs::typed_row-returns-in-Minus-clause-carries : goal.exprs::typed_row-returns-in-Minus-clause-carries
exprs::typed_row-returns-in-Minus-clause-carries t c =
    let tree = node_view c.args.node.now in
    let is : form_of (row_at tree) ≡ form.Minus = ap form_of (row_of_node c.args.node.now) ∙ sym c.form_of.ensures ∙ c.in-Minus.is in
    IfOk-weaker c.minus.result _ _ (λ u h place carried.
    signed_row c.args.at.now c.minus.new.at c.args.env.now c.args.at.now.item c.args.number place tree (is_negated c.args.sign) u.ty.0 (usual_by c.args.number place tree form.Minus carried is tt) (h place carried is)) c.minus.ensures.carries

pub exprs::typed_row-returns-in-Parenthesised-clause-carries : goal.exprs::typed_row-returns-in-Parenthesised-clause-carries
exprs::typed_row-returns-in-Parenthesised-clause-carries t c =
    let tree = node_view c.args.node.now in
    let is : form_of (row_at tree) ≡ form.Parenthesised = ap form_of (row_of_node c.args.node.now) ∙ sym c.form_of.ensures ∙ c.in-Parenthesised.is in
    IfOk-weaker c.parenthesised.result _ _ (λ u h place carried.
    signed_row c.args.at.now c.parenthesised.new.at c.args.env.now c.args.at.now.item c.args.number place tree (is_negated c.args.sign) u.ty.0 (usual_by c.args.number place tree form.Parenthesised carried is tt) (h place carried is)) c.parenthesised.ensures.carries

pub exprs::typed_row-returns-in-Set-clause-carries : goal.exprs::typed_row-returns-in-Set-clause-carries
exprs::typed_row-returns-in-Set-clause-carries t c =
    let tree = node_view c.args.node.now in
    let is : form_of (row_at tree) ≡ form.Set = ap form_of (row_of_node c.args.node.now) ∙ sym c.form_of.ensures ∙ c.in-Set.is in
    IfOk-weaker c.set.result _ _ (λ u h place carried.
    signed_row c.args.at.now c.set.new.at c.args.env.now c.args.at.now.item c.args.number place tree (is_negated c.args.sign) u.ty.0 (usual_by c.args.number place tree form.Set carried is tt) (h place carried is)) c.set.ensures.carries

pub exprs::typed_row-returns-in-Loop-clause-carries : goal.exprs::typed_row-returns-in-Loop-clause-carries
exprs::typed_row-returns-in-Loop-clause-carries t c =
    let tree = node_view c.args.node.now in
    let is : form_of (row_at tree) ≡ form.Loop = ap form_of (row_of_node c.args.node.now) ∙ sym c.form_of.ensures ∙ c.in-Loop.is in
    IfOk-weaker c.for_loop.result _ _ (λ u h place carried.
    signed_row c.args.at.now c.for_loop.new.at c.args.env.now c.args.at.now.item c.args.number place tree (is_negated c.args.sign) u.ty.0 (usual_by c.args.number place tree form.Loop carried is tt) (h place carried is)) c.for_loop.ensures.carries

pub fields::set-returns-clause-carries : goal.fields::set-returns-clause-carries
fields::set-returns-clause-carries t c = λ place carried is.
    set_row c.args.at.now c.set_part.new.at c.typed_as.new.at c.args.env.now c.args.number place (node_view c.args.node.now) c.operand_in-left.result c.operand_in-right.result c.in_ok-ty.ty.0 c.unnamed.result.ty carried is c.operand_in-left.ensures c.operand_in-right.ensures
    c.in_ok-ty.ensures.carries c.set_part.ensures.goes c.in_ok-typed_as.ensures.carries c.unnamed.ensures.ty

pub fields::set_part-returns-in_ok-inside-in-Some-clause-carries : goal.fields::set_part-returns-in_ok-inside-in-Some-clause-carries
fields::set_part-returns-in_ok-inside-in-Some-clause-carries t c =
    let there = c.in-Some.node in
    let some = subst (λ o. IfSome o (λ nd. (c.args.part.node ≡ Some nd) × (row_at (node_view nd.now) ≡ field_row))) c.in-Some.is c.field_node.ensures.some in
    IfOk-weaker c.set_field.result _ _ (λ m h. part_set c.args.at.now c.set_field.new.at c.args.env.now c.args.part there m.0 some.0 some.1 h) c.set_field.ensures.carries

pub fields::set_part-returns-in_ok-inside-in-None-clause-carries : goal.fields::set_part-returns-in_ok-inside-in-None-clause-carries
fields::set_part-returns-in_ok-inside-in-None-clause-carries t c =
    IfOk-weaker c.type_under.result _ _ (λ m h carried. part_unset c.args.at.now c.type_under.new.at c.args.env.now (operand_view c.args.part) m.0 (c.field_node.ensures.none c.in-None.is) (h carried)) c.type_under.ensures.carries

pub fields::set_field-returns-clause-carries : goal.fields::set_field-returns-clause-carries
fields::set_field-returns-clause-carries t c = λ place carried row.
    let tree = node_view c.args.node.now in
    let a = c.args.at.now in
    let b = c.type_parts.new.at in
    let d = c.settable.new.at in
    let env = c.args.env.now in
    let ty = c.in_ok-used.used.ty in
    field_set a b d c.note.new.self env c.args.number place tree c.in_ok-parts.parts.items (numbers c.in_ok-types.types.items) ty.0 carried row c.in_ok-parts.ensures
    (λ all. subst (λ r. TypesParts a b env r (expressions_of a.item (map operand_view c.in_ok-parts.parts.items)) (numbers c.in_ok-types.types.items)) is_field
    (subst (λ qs. TypesParts a b env (row_of name.Field) (expressions_of a.item (map operand_view qs)) (numbers c.in_ok-types.types.items)) c.deref.ensures.value
    (c.in_ok-types.ensures.carries (subst (λ qs. All IsCarried (map operand_view qs)) (sym c.deref.ensures.value) all)))) c.type_parts.ensures.goes
    (subst (λ qs. EndsSettable b d env (path_of (path_in tree 2 3)) (expressions_of b.item (map operand_view qs)) (numbers c.in_ok-types.types.items) ty.0) c.deref-2.ensures.value
    (subst (λ ms. EndsSettable b d env (path_of (path_in tree 2 3)) (expressions_of b.item (map operand_view c.deref-2.result.now)) (numbers ms) ty.0) c.deref-3.ensures.value c.in_ok-used.ensures.carries)) c.settable.ensures.goes
    (λ loud. type_noted d c.note.new.self c.args.number ty (record { env = env; ty = Some ty; names = c.in_ok-used.used.names }) refl loud c.in_ok-note.ensures.noted c.note.ensures.rest)

pub loops::for_loop-returns-clause-carries : goal.loops::for_loop-returns-clause-carries
loops::for_loop-returns-clause-carries t c = λ place carried is.
    for_row c.args.at.now c.typed_as.new.at c.typed_as-2.new.at c.type_under.new.at c.args.env.now c.in_ok-scope.scope.env c.args.number place (node_view c.args.node.now) c.operand_in-first.result c.operand_in-last.result c.operand_in-body.result c.in_ok-type_under.field-0.0 carried is
    c.operand_in-first.ensures c.operand_in-last.ensures c.operand_in-body.ensures c.in_ok-typed_as.ensures.carries c.typed_as.ensures.goes c.in_ok-typed_as-2.ensures.carries c.typed_as-2.ensures.goes c.in_ok-scope.ensures c.in_ok-type_under.ensures.carries

pub exprs::typed_row-returns-in-Plain-clause-carries : goal.exprs::typed_row-returns-in-Plain-clause-carries
exprs::typed_row-returns-in-Plain-clause-carries t c =
    let tree = node_view c.args.node.now in
    let is : form_of (row_at tree) ≡ form.Plain = ap form_of (row_of_node c.args.node.now) ∙ sym c.form_of.ensures ∙ c.in-Plain.is in
    IfOk-weaker c.plain.result _ _ (λ u h place carried.
    signed_row c.args.at.now c.plain.new.at c.args.env.now c.args.at.now.item c.args.number place tree (is_negated c.args.sign) u.ty.0 (usual_by c.args.number place tree form.Plain carried is tt) (h place carried is)) c.plain.ensures.carries

pub exprs::typed_row-returns-in-Record-clause-carries : goal.exprs::typed_row-returns-in-Record-clause-carries
exprs::typed_row-returns-in-Record-clause-carries t c =
    let tree = node_view c.args.node.now in
    let is : form_of (row_at tree) ≡ form.Record = ap form_of (row_of_node c.args.node.now) ∙ sym c.form_of.ensures ∙ c.in-Record.is in
    IfOk-weaker c.record.result _ _ (λ u h place carried.
    signed_row c.args.at.now c.record.new.at c.args.env.now c.args.at.now.item c.args.number place tree (is_negated c.args.sign) u.ty.0 (usual_by c.args.number place tree form.Record carried is tt)
    (subst (λ q. TypesRow c.args.at.now c.record.new.at c.args.env.now (λ x. (row_expression c.args.at.now.item c.args.number q tree).typed x) (number_of c.args.at.now.item c.args.number) u.ty.0) (sym carried.placed)
    (h (record_node c.args.number place tree (by_record tree is) carried)))) c.record.ensures.carries

pub exprs::typed_row-returns-in-Let-clause-carries : goal.exprs::typed_row-returns-in-Let-clause-carries
exprs::typed_row-returns-in-Let-clause-carries t c =
    let tree = node_view c.args.node.now in
    let is : form_of (row_at tree) ≡ form.Let = ap form_of (row_of_node c.args.node.now) ∙ sym c.form_of.ensures ∙ c.in-Let.is in
    IfOk-weaker c.let_in.result _ _ (λ u h place carried.
    signed_row c.args.at.now c.let_in.new.at c.args.env.now c.args.at.now.item c.args.number place tree (is_negated c.args.sign) u.ty.0 (usual_by c.args.number place tree form.Let carried is tt) (h place (let_node c.args.number place tree (by_let tree is) carried))) c.let_in.ensures.carries

pub exprs::typed_row-returns-in-Match-clause-carries : goal.exprs::typed_row-returns-in-Match-clause-carries
exprs::typed_row-returns-in-Match-clause-carries t c =
    let tree = node_view c.args.node.now in
    let is : form_of (row_at tree) ≡ form.Match = ap form_of (row_of_node c.args.node.now) ∙ sym c.form_of.ensures ∙ c.in-Match.is in
    IfOk-weaker c.match_of.result _ _ (λ u h place carried.
    signed_row c.args.at.now c.match_of.new.at c.args.env.now c.args.at.now.item c.args.number place tree (is_negated c.args.sign) u.ty.0 (usual_by c.args.number place tree form.Match carried is tt) (h place (match_node c.args.number place tree (by_match tree is) carried))) c.match_of.ensures.carries

pub exprs::typed_row-returns-in-Cases-clause-carries : goal.exprs::typed_row-returns-in-Cases-clause-carries
exprs::typed_row-returns-in-Cases-clause-carries t c =
    let tree = node_view c.args.node.now in
    let is : form_of (row_at tree) ≡ form.Cases = ap form_of (row_of_node c.args.node.now) ∙ sym c.form_of.ensures ∙ c.in-Cases.is in
    IfOk-weaker c.function_of_cases.result _ _ (λ u h place carried.
    signed_row c.args.at.now c.function_of_cases.new.at c.args.env.now c.args.at.now.item c.args.number place tree (is_negated c.args.sign) u.ty.0 (usual_by c.args.number place tree form.Cases carried is tt) (h place (function_node c.args.number place tree (by_function tree is) carried))) c.function_of_cases.ensures.carries

pub exprs::typed_row-returns-in-Function-clause-carries : goal.exprs::typed_row-returns-in-Function-clause-carries
exprs::typed_row-returns-in-Function-clause-carries t c =
    let tree = node_view c.args.node.now in
    let is : form_of (row_at tree) ≡ form.Function = ap form_of (row_of_node c.args.node.now) ∙ sym c.form_of.ensures ∙ c.in-Function.is in
    IfOk-weaker c.function.result _ _ (λ u h place carried.
    signed_row c.args.at.now c.function.new.at c.args.env.now c.args.at.now.item c.args.number place tree (is_negated c.args.sign) u.ty.0 (usual_by c.args.number place tree form.Function carried is tt) (h place (fun_node c.args.number place tree (by_fun tree is) carried))) c.function.ensures.carries

pub records::record-returns-clause-carries : goal.records::record-returns-clause-carries
records::record-returns-clause-carries t c =
    let p : Pieces = record { span = (out-Node c.args.node.now).span; first = c.operand_in.result; value = c.first_operand.result; fields = c.in_ok-operands.field-0 } in
    IfOk-weaker c.record_of.result _ _ (λ u h there.
    record_done c.args.at.now c.record_of.new.at c.args.env.now c.args.number c.args.node.now p _ u.ty.0 refl c.operand_in.ensures c.first_operand.ensures c.in_ok-operands.ensures c.token.ensures h there) c.record_of.ensures.carries

pub records::record_of-returns-in-Some-clause-carries : goal.records::record_of-returns-in-Some-clause-carries
records::record_of-returns-in-Some-clause-carries t c =
    IfOk-weaker c.updated.result _ _ (λ u h carried. subst (λ o. TypesPieces (option_map (λ x. tok_of x.now) o) c.args.at.now c.updated.new.at c.args.env.now c.args.pieces.now u.ty.0) (sym c.in-Some.is) (h carried)) c.updated.ensures.carries

pub records::record_of-returns-in-None-clause-carries : goal.records::record_of-returns-in-None-clause-carries
records::record_of-returns-in-None-clause-carries t c =
    IfOk-weaker c.made_or_loose.result _ _ (λ u h carried. subst (λ o. TypesPieces (option_map (λ x. tok_of x.now) o) c.args.at.now c.made_or_loose.new.at c.args.env.now c.args.pieces.now u.ty.0) (sym c.in-None.is) (h carried)) c.made_or_loose.ensures.carries

pub records::made_or_loose-returns-in-Some-clause-carries : goal.records::made_or_loose-returns-in-Some-clause-carries
records::made_or_loose-returns-in-Some-clause-carries t c =
    IfOk-weaker c.made.result _ _ (λ u h carried. subst (λ o. TypesMadeOr o c.args.at.now c.made.new.at c.args.env.now c.args.pieces.now u.ty.0) (ap (option_map path_view) (sym c.in-Some.is) ∙ c.in_ok-label.ensures) (h carried)) c.made.ensures.carries

pub records::made_or_loose-returns-in-None-clause-carries : goal.records::made_or_loose-returns-in-None-clause-carries
records::made_or_loose-returns-in-None-clause-carries t c =
    IfOk-weaker c.loose.result _ _ (λ u h carried. subst (λ o. TypesMadeOr o c.args.at.now c.loose.new.at c.args.env.now c.args.pieces.now u.ty.0) (ap (option_map path_view) (sym c.in-None.is) ∙ c.in_ok-label.ensures) (h carried)) c.loose.ensures.carries

pub records::made-returns-clause-carries : goal.records::made-returns-clause-carries
records::made-returns-clause-carries t c =
    let p = c.args.pieces.now in
    let b = c.type_field.new.at in
    let d = c.type_fields.new.at in
    let env = c.args.env.now in
    let before = c.type_field.new.fields in
    let after = c.type_fields.new.fields in
    IfOk-weaker c.complete.result _ _ (λ u ends carried.
    made_done c.args.at.now c.record_of_made.new.at b d c.complete.new.at env (here_of c.in_ok-found.found) (here_of c.fields_in-fields.result.found) (here_of before.found) (here_of after.found) (place_of p.span) p.first.number (path_as (path_view c.args.label.now)) (option_map operand_view p.value) (map operand_view p.fields.items)
    (names_written c.fields_in-fields.result.labels.items) (names_written before.labels.items) (names_written after.labels.items) u.ty.0 c.fields_in-fields.ensures.found c.in_ok-type_field.ensures.found c.in_ok-type_fields.ensures.found (ap names_written c.fields_in-fields.ensures.labels)
    c.in_ok-found.ensures.carries c.in_ok-type_field.ensures.carries c.type_field.ensures.goes
    (subst (λ os. All IsCarriedValue (map operand_view os) → FieldsWritten b d env (here_of before.found) (value_fields_of b.item (map operand_view os)) (names_written before.labels.items) (names_written after.labels.items)) c.deref.ensures.value c.in_ok-type_fields.ensures.carries) c.type_fields.ensures.goes
    ends carried.value carried.fields) c.complete.ensures.carries

pub records::loose-returns-clause-carries : goal.records::loose-returns-clause-carries
records::loose-returns-clause-carries t c =
    let p = c.args.pieces.now in
    let b = c.type_if.new.at in
    let d = c.type_fields.new.at in
    let env = c.args.env.now in
    let before = c.fields_in-fields.result in
    let after = c.type_fields.new.fields in
    IfOk-weaker c.complete.result _ _ (λ u ends carried.
    loose_done c.args.at.now c.record_behind.new.at b d c.complete.new.at env (here_of c.in_ok-found.found) (here_of before.found) (here_of after.found) (place_of p.span) (operand_view p.first) (option_map operand_view p.value) (map operand_view p.fields.items)
    (names_written before.labels.items) (names_written after.labels.items) u.ty.0 c.fields_in-fields.ensures.found c.in_ok-type_fields.ensures.found (ap names_written c.fields_in-fields.ensures.labels)
    (c.in_ok-found.ensures.carries carried.first) (c.in_ok-type_if.ensures.carries carried.value) c.type_if.ensures.goes
    (subst (λ os. All IsCarriedValue (map operand_view os) → FieldsWritten b d env (here_of before.found) (value_fields_of b.item (map operand_view os)) (names_written before.labels.items) (names_written after.labels.items)) c.deref.ensures.value c.in_ok-type_fields.ensures.carries) c.type_fields.ensures.goes
    ends carried.fields) c.complete.ensures.carries

pub records::record_behind-returns-clause-carries : goal.records::record_behind-returns-clause-carries
records::record_behind-returns-clause-carries t c =
    let p = c.args.pieces.now in
    IfOk-weaker c.record_of_fields.result _ _ (λ r labels carried.
    behind_done c.args.at.now c.begin_loose.new.at c.type_under.new.at c.record_of_fields.new.at c.args.env.now r p.first c.in_ok-type_under.field-0.0 (map operand_view p.fields.items) c.in_ok-begin_loose.ensures.carries c.begin_loose.ensures.goes
    (c.in_ok-type_under.ensures.carries carried) c.type_under.ensures.goes
    (subst (λ os. TypesRecordType r c.type_under.new.at c.record_of_fields.new.at c.args.env.now (map path_as (labels_of (map operand_view os)))) c.deref.ensures.value labels) c.record_of_fields.ensures.goes) c.record_of_fields.ensures.carries

pub records::type_if-returns-in_default-clause-carries : goal.records::type_if-returns-in_default-clause-carries
records::type_if-returns-in_default-clause-carries t c = λ carried.
    subst (λ o. TypesEach c.args.at.now c.args.at.now c.args.env.now (values_of (option_map (expression_of c.args.at.now.item) (option_map operand_view o)))) (sym c.in_default.is) (value_absent c.args.at.now c.args.env.now)

pub records::type_if-returns-in_ok-type_under-clause-carries : goal.records::type_if-returns-in_ok-type_under-clause-carries
records::type_if-returns-in_ok-type_under-clause-carries t c =
    subst (λ o. IfSome (option_map operand_view o) IsCarried → TypesEach c.args.at.now c.type_under.new.at c.args.env.now (values_of (option_map (expression_of c.args.at.now.item) (option_map operand_view o)))) (sym c.in-Some.is)
    (value_typed c.args.at.now c.type_under.new.at c.args.env.now c.in-Some.e c.in_ok-type_under.field-0.0 c.in_ok-type_under.ensures.carries)

pub records::updated-returns-clause-carries : goal.records::updated-returns-clause-carries
records::updated-returns-clause-carries t c =
    let p = c.args.pieces.now in
    let b = c.record_of_part.new.at in
    let d = c.type_fields.new.at in
    let env = c.args.env.now in
    let before = c.fields_in-fields.result in
    let after = c.type_fields.new.fields in
    IfOk-weaker c.type_of_record.result _ _ (λ u gives carried.
    updated_done c.args.at.now b d c.type_of_record.new.at env (here_of c.in_ok-found.found) (here_of before.found) (here_of after.found) (operand_view p.first) (map operand_view p.fields.items) (names_written before.labels.items) (names_written after.labels.items) u.ty.0
    c.fields_in-fields.ensures.found c.in_ok-type_fields.ensures.found (ap names_written c.fields_in-fields.ensures.labels) (c.in_ok-found.ensures.carries carried.first)
    (subst (λ os. All IsCarriedValue (map operand_view os) → FieldsWritten b d env (here_of before.found) (value_fields_of b.item (map operand_view os)) (names_written before.labels.items) (names_written after.labels.items)) c.deref.ensures.value c.in_ok-type_fields.ensures.carries)
    gives carried.fields) c.type_of_record.ensures.carries

pub records::record_of_part-returns-clause-carries : goal.records::record_of_part-returns-clause-carries
records::record_of_part-returns-clause-carries t c = λ carried.
    let p = c.args.pieces.now in
    part_done c.args.at.now c.note_missing.new.at c.type_under.new.at c.record_of_fields.new.at c.equal_if.new.at c.args.env.now c.in_ok-found.found c.ty.result p.first c.in_ok-ty.ty.0 (map operand_view p.fields.items) c.in_ok-note_missing.ensures.notes c.note_missing.ensures.goes
    (c.in_ok-ty.ensures.carries carried) c.type_under.ensures.goes
    (subst (λ os. TypesRecordType c.in_ok-found.found c.type_under.new.at c.record_of_fields.new.at c.args.env.now (map path_as (labels_of (map operand_view os)))) c.deref-2.ensures.value c.in_ok-found.ensures.carries) c.record_of_fields.ensures.goes
    c.ty.ensures c.in_ok-equal_if.ensures.carries c.equal_if.ensures.goes

pub records::type_fields-loop-field-init : goal.records::type_fields-loop-field-init
records::type_fields-loop-field-init t c =
    let all = c.args.given.now in
    record {
      goes = goes_refl c.args.at.now;
      found = refl;
      carries = λ carried. written_none c.args.at.now c.args.env.now (here_of c.args.fields.now.found) (names_written c.args.fields.now.labels.items) (value_fields_of c.args.at.now.item (map operand_view all));
    }

pub records::type_fields-returns-clause-carries : goal.records::type_fields-returns-clause-carries
records::type_fields-returns-clause-carries t c = λ carried.
    let view : List Operand → List Field = λ os. value_fields_of c.args.at.now.item (map operand_view os) in
    written_all c.args.at.now c.loop-field.at c.args.env.now (here_of c.args.fields.now.found) (view c.args.given.now) (view (drop c.loop-field.field-index c.args.given.now)) (names_written c.args.fields.now.labels.items) (names_written c.loop-field.fields.labels.items)
    (ap view (drop_all c.loop-field.field-index c.args.given.now c.loop-field-test.false)) (c.loop-field.invariant.carries carried)

pub records::type_fields-returns-clause-found : goal.records::type_fields-returns-clause-found
records::type_fields-returns-clause-found t c = c.loop-field.invariant.found

pub records::type_if_there-returns-in_default-clause-carries : goal.records::type_if_there-returns-in_default-clause-carries
records::type_if_there-returns-in_default-clause-carries t c = field_absent c.args.at.now c.args.env.now (here_of c.args.fields.now.found) c.args.field (names_written c.args.fields.now.labels.items) c.in_default.is

pub records::type_if_there-returns-clause-carries : goal.records::type_if_there-returns-clause-carries
records::type_if_there-returns-clause-carries t c =
    field_by c.type_field.result c.args.at.now c.type_field.new.at c.args.env.now (here_of c.args.fields.now.found) c.args.field c.in-Some.node (path_view c.in_ok-label.label) c.first_operand-value.result (names_written c.args.fields.now.labels.items) (names_written c.type_field.new.fields.labels.items)
    c.in-Some.is c.in_ok-label.ensures c.first_operand-value.ensures c.type_field.ensures.carries

pub records::type_field-returns-in-Some-clause-carries : goal.records::type_field-returns-in-Some-clause-carries
records::type_field-returns-in-Some-clause-carries t c =
    field_given c.type_value.result c.args.at.now c.begin_field.new.at c.type_value.new.at c.args.env.now c.args.fields.now.found c.args.number (path_view c.args.label.now) c.args.value c.in-Some.value c.in_ok-wanted.wanted c.args.fields.now.labels.items c.begin_field.new.fields.labels.items
    c.in-Some.is c.in_ok-wanted.ensures.carries c.begin_field.ensures.goes c.in_ok-wanted.ensures.seen c.type_value.ensures.carries

pub records::type_field-returns-in-Some-clause-found : goal.records::type_field-returns-in-Some-clause-found
records::type_field-returns-in-Some-clause-found t c = on_any c.type_value.result _ (ap here_of c.begin_field.ensures.found)

pub records::type_field-returns-in-None-clause-carries : goal.records::type_field-returns-in-None-clause-carries
records::type_field-returns-in-None-clause-carries t c =
    field_punned c.pun.result c.args.at.now c.begin_field.new.at c.pun.new.at c.args.env.now c.args.fields.now.found c.args.number (path_view c.args.label.now) c.args.value c.in_ok-wanted.wanted c.args.fields.now.labels.items c.begin_field.new.fields.labels.items
    c.in-None.is c.in_ok-wanted.ensures.carries c.begin_field.ensures.goes c.in_ok-wanted.ensures.seen c.pun.ensures.carries

pub records::type_field-returns-in-None-clause-found : goal.records::type_field-returns-in-None-clause-found
records::type_field-returns-in-None-clause-found t c = on_any c.pun.result _ (ap here_of c.begin_field.ensures.found)

pub records::type_value-returns-clause-carries : goal.records::type_value-returns-clause-carries
records::type_value-returns-clause-carries t c = record { told = c.note_label.new.at; noted = c.in_ok-note_label.ensures.carries; goes = c.note_label.ensures.goes; value = c.in_ok-typed_as.ensures.carries }

pub bindings::recorded_right-returns-clause-recorded : goal.bindings::recorded_right-returns-clause-recorded
bindings::recorded_right-returns-clause-recorded t c = record_stays_in c.type_right.result c.args.binding.number c.note_plain.new.self c.type_right.new.at c.type_right.ensures.goes c.in_ok-note_plain.ensures.recorded

pub cases::type_case-returns-in_default-clause-recorded : goal.cases::type_case-returns-in_default-clause-recorded
cases::type_case-returns-in_default-clause-recorded t c = c.in_ok-note_plain.ensures.recorded

pub cases::type_case-returns-clause-recorded : goal.cases::type_case-returns-clause-recorded
cases::type_case-returns-clause-recorded t c = record_stays_in c.typed_case.result c.args.case.number c.note_plain.new.self c.typed_case.new.at c.typed_case.ensures.goes c.in_ok-note_plain.ensures.recorded
