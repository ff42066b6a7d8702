use Rattle.std.proofs.Common.{◌≡◌, ◌≢◌, ◌∙◌, ◌+◌, ◌<◌, ◌==◌, ◌&&◌, ◌++◌, length, map, drop, false, Some, option_map, sym, ap, subst, arith}
use Rattle.std.proofs.lemmas.Bool.{ne_eqb}
use Rattle.std.proofs.lemmas.Result.{IfOk-weaker}
use Rattle.syntax_tree.specs.View.{node_view}
use Rattle.tree_model.specs.Rows.{eapp_row, ematch_row, elet_row, erecord_row}
use Rattle.row_parts.specs.Numbered.{operand_view, token_in, path_view}
use Rattle.typing_model.specs.Expressions.{all_values}
use Rattle.env_table.specs.Labels.{written_of}
use Rattle.typing_rows.specs.Asked.{expressions_of}
use Rattle.record_rows.specs.NonExpansive.{field_values}
use Rattle.value_forms.specs.RecordValues.{first_values}
use Rattle.value_forms.proofs.RecordValueLaws.{record_mutable, record_unset}
use Rattle.value_forms.proofs.ValueLaws.{IsValueOf, value_missing, value_there, value_of_row, row_app, row_match, row_let, row_record, value_assert, match_gathered, match_guarded, let_gathered, value_never, value_parts, built_not, built_of_others, built_is, values_one, none_by, some_by}
use Rattle.value_forms.proofs.values.+values.Goals as goal

pub is_value-returns-in_default : goal.is_value-returns-in_default
is_value-returns-in_default t c = record { value = value_missing c.args.env.now c.args.e c.in_default.is }

pub is_value-returns-in-Eapp : goal.is_value-returns-in-Eapp
is_value-returns-in-Eapp t c =
    let nd = c.in-Some.node in
    record { value = IfOk-weaker c.is_built.result _ _ (λ b h. value_of_row c.args.env.now c.args.e nd eapp_row b c.in-Some.is (row_app nd.now c.in-Eapp.is) h) c.is_built.ensures.value }

pub is_value-returns-in-Erecord : goal.is_value-returns-in-Erecord
is_value-returns-in-Erecord t c =
    let nd = c.in-Some.node in
    record { value = IfOk-weaker c.is_record_value.result _ _ (λ b h. value_of_row c.args.env.now c.args.e nd erecord_row b c.in-Some.is (row_record nd.now c.in-Erecord.is) h) c.is_record_value.ensures.value }

pub is_value-returns-in-Ematch : goal.is_value-returns-in-Ematch
is_value-returns-in-Ematch t c =
    let nd = c.in-Some.node in
    record { value = IfOk-weaker c.is_match_value.result _ _ (λ b h. value_of_row c.args.env.now c.args.e nd ematch_row b c.in-Some.is (row_match nd.now c.in-Ematch.is) h) c.is_match_value.ensures.value }

pub is_value-returns-in-Elet : goal.is_value-returns-in-Elet
is_value-returns-in-Elet t c =
    let nd = c.in-Some.node in
    record { value = IfOk-weaker c.is_let_value.result _ _ (λ b h. value_of_row c.args.env.now c.args.e nd elet_row b c.in-Some.is (row_let nd.now c.in-Elet.is) h) c.is_let_value.ensures.value }

pub is_value-returns-in-Eassert : goal.is_value-returns-in-Eassert
is_value-returns-in-Eassert t c =
    let nd = c.in-Some.node in
    let env = c.args.env.now in
    record { value = value_there env c.args.e nd c.is_false.result c.in-Some.is (subst (IsValueOf env nd.now c.args.e.number) (sym c.is_false.ensures) (value_assert env nd.now c.args.e.number c.operand_in.result c.in-Eassert.is c.operand_in.ensures)) }

pub is_value-returns-in-None : goal.is_value-returns-in-None
is_value-returns-in-None t c =
    let nd = c.in-Some.node in
    let row = c.in_default-row in
    record {
      value = value_there c.args.env.now c.args.e nd false c.in-Some.is
          (value_never c.args.env.now nd.now c.args.e.number (record { application = row.not-Eapp; assertion = row.not-Eassert; matching = row.not-Ematch; binding = row.not-Elet; recording = row.not-Erecord })
          (none_by _ _ _ c.in-None.is c.in_ok-value_parts-in_default-row.ensures));
    }

pub is_value-returns-in-Some-2 : goal.is_value-returns-in-Some-2
is_value-returns-in-Some-2 t c =
    let nd = c.in-Some.node in
    let row = c.in_default-row in
    let is = ap (λ os. Some (map operand_view os)) c.deref.ensures.value ∙ some_by _ _ _ _ c.in-Some-2.is c.in_ok-value_parts-in_default-row.ensures in
    record {
      value = IfOk-weaker c.are_values.result _ _ (λ b h. value_there c.args.env.now c.args.e nd b c.in-Some.is
          (value_parts c.args.env.now nd.now c.args.e.number c.deref.result.now b (record { application = row.not-Eapp; assertion = row.not-Eassert; matching = row.not-Ematch; binding = row.not-Elet; recording = row.not-Erecord }) is h)) c.are_values.ensures.value;
    }

pub are_values-returns-then-not-branch : goal.are_values-returns-then-not-branch
are_values-returns-then-not-branch t c =
    let os = c.args.parts.now in
    let k = c.loop-part.part-index in
    let lt : k < length os = let n = c.loop-part-test.true in omega arith in
    record {
      value = λ all i x among.
          values_one c.args.env.now os k c.part-item.result c.in_ok-is_value.field-0 lt c.part-item.is c.loop-part.invariant c.in_ok-is_value.ensures.value all i x among ∙
          ap (λ b. b && all_values x (expressions_of i (map operand_view (drop (k + 1) os)))) c.if-not-branch.true;
    }

pub are_values-loop-part-preserved : goal.are_values-loop-part-preserved
are_values-loop-part-preserved t c =
    let os = c.args.parts.now in
    let k = c.loop-part.part-index in
    let lt : k < length os = let n = c.loop-part-test.true in omega arith in
    λ all i x among.
    values_one c.args.env.now os k c.part-item.result c.in_ok-is_value.field-0 lt c.part-item.is c.loop-part.invariant c.in_ok-is_value.ensures.value all i x among ∙
    ap (λ b. b && all_values x (expressions_of i (map operand_view (drop (k + 1) os)))) c.if-not-branch.false

pub is_built-returns-then-len-ne1 : goal.is_built-returns-then-len-ne1
is_built-returns-then-len-ne1 t c =
    let os = c.in_ok-arguments.arguments.items in
    let others : length os ≢ 1 = λ e. let n = c.if-len-ne1.true in let got = c.len.ensures in let listed = c.in_ok-arguments.arguments.ok in omega arith in
    record { value = built_of_others c.args.env.now c.args.node.now c.args.number os c.in_ok-arguments.ensures (ne_eqb (length os) 1 others) }

pub is_built-returns-then-not-is_constructor : goal.is_built-returns-then-not-is_constructor
is_built-returns-then-not-is_constructor t c =
    record { value = built_not c.args.env.now c.args.node.now c.args.number c.operand_in.result c.operand_in.ensures (sym c.is_constructor.ensures ∙ c.if-not-is_constructor.true) }

pub is_built-returns : goal.is_built-returns
is_built-returns t c =
    let os = c.deref.result.now in
    let one : length os ≡ 1 = let n = c.if-len-ne1.false in let got = c.len.ensures in let here = c.deref.ensures.len in let listed = c.in_ok-arguments.arguments.ok in omega arith in
    record {
      value = IfOk-weaker c.are_values.result _ _ (λ b h.
          built_is c.args.env.now c.args.node.now c.args.number c.operand_in.result os b c.operand_in.ensures (ap (map operand_view) c.deref.ensures.value ∙ c.in_ok-arguments.ensures) (ap (λ k. k == 1) one)
          (sym c.is_constructor.ensures ∙ c.if-not-is_constructor.false) h) c.are_values.ensures.value;
    }

pub is_match_value-returns-then-not-branch : goal.is_match_value-returns-then-not-branch
is_match_value-returns-then-not-branch t c =
    let given = ap (map operand_view) c.deref.ensures.value ∙ c.in_ok-cases.ensures in
    record { value = match_guarded c.args.env.now c.args.node.now c.args.number c.deref.result.now given (c.in_ok-push_bodies.ensures.guards ∙ c.if-not-branch.true) }

pub is_match_value-returns : goal.is_match_value-returns
is_match_value-returns t c =
    let given = ap (map operand_view) c.deref.ensures.value ∙ c.in_ok-cases.ensures in
    let is = ap (map operand_view) c.deref-2.ensures.value ∙ c.in_ok-push_bodies.ensures.bodies c.if-not-branch.false in
    record {
      value = IfOk-weaker c.are_values.result _ _ (λ b h.
          match_gathered c.args.env.now c.args.node.now c.args.number c.deref-2.result.now c.in_ok-parts.parts.items c.deref.result.now b c.in_ok-parts.ensures given (c.in_ok-push_bodies.ensures.guards ∙ c.if-not-branch.false) is h) c.are_values.ensures.value;
    }

pub is_let_value-returns : goal.is_let_value-returns
is_let_value-returns t c =
    let given = ap (map operand_view) c.deref.ensures.value ∙ c.in_ok-bindings.ensures in
    let is = ap (map operand_view) c.deref-2.ensures.value ∙ c.in_ok-push_rights.ensures in
    record {
      value = IfOk-weaker c.are_values.result _ _ (λ b h.
          let_gathered c.args.env.now c.args.node.now c.args.number c.deref-2.result.now c.in_ok-parts.parts.items c.deref.result.now b c.in_ok-parts.ensures given is h) c.are_values.ensures.value;
    }

pub is_record_value-returns-then-has_mutable_label : goal.is_record_value-returns-then-has_mutable_label
is_record_value-returns-then-has_mutable_label t c =
    let paths = ap (map written_of) c.deref-2.ensures.value ∙ c.in_ok-paths_from.ensures in
    let fields = ap (map operand_view) c.deref.ensures.value ∙ c.in_ok-fields.ensures in
    record {
      value = record_mutable c.args.env.now c.args.number (node_view c.args.node.now) (map written_of c.deref-2.result.now) (option_map path_view c.in_ok-first.first) (map operand_view c.deref.result.now) paths c.in_ok-first.ensures fields
          (sym c.has_mutable_label.ensures ∙ c.if-has_mutable_label.true);
    }

pub is_record_value-returns : goal.is_record_value-returns
is_record_value-returns t c =
    let tree = node_view c.args.node.now in
    let first = option_map path_view c.in_ok-first.first in
    let paths = ap (map written_of) c.deref-2.ensures.value ∙ c.in_ok-paths_from.ensures in
    let fields = ap (map operand_view) c.deref.ensures.value ∙ c.in_ok-fields.ensures in
    let same = c.deref-3.ensures.value ∙ sym c.deref.ensures.value in
    let values = ap (map operand_view) c.deref-4.ensures.value ∙ c.in_ok-values.ensures ∙ ap (λ os. first_values c.args.number tree (token_in tree 4) first ++ field_values (map operand_view os)) same in
    record {
      value = IfOk-weaker c.are_values.result _ _ (λ b h.
          record_unset c.args.env.now c.args.number tree (map written_of c.deref-2.result.now) first (map operand_view c.deref.result.now) (map operand_view c.deref-4.result.now) b paths c.in_ok-first.ensures fields
          (sym c.has_mutable_label.ensures ∙ c.if-has_mutable_label.false) values h) c.are_values.ensures.value;
    }
