use Rattle.typing_state.proofs.Going.{goes_refl}
use Rattle.std.proofs.Common.{◌∙◌, map, sym}
use Rattle.std.proofs.lemmas.Result.{IfOk-weaker}
use Rattle.tree_model.specs.Rows.{elist_row, econs_row, etuple_row, eif_row, ebegin_row, eseq_row, eassert_row}
use Rattle.type_nodes.specs.Views.{numbers}
use Rattle.row_parts.specs.Numbered.{operand_view}
use Rattle.typing_rows.specs.Asked.{expressions_of}
use Rattle.typing_rows.proofs.Ending.{ends_tuple}
use Rattle.expression_steps.proofs.CarryingLaws.{if_any, both_ok, number_here, number_missing}
use Rattle.expression_steps.proofs.EndingLaws.{as_named, is_begin, is_list, is_cons, is_tuple, is_seq, is_if, is_assert, begin_ends, begin_empty, seq_ends, others_apart, false_ends, assert_ends_unit, one_apart, none_apart, while_ends, last_at}
use Rattle.typing_steps.proofs.Rows.{var_any}
use Rattle.expression_steps.proofs.ends.type_of.Goals.{in_default-first-via-in-Some-first+else-is_false, in_default-first-via-in_default-first}
use Rattle.syntax_tree.specs.declared.rows.RowName.TheVariants as name
use Rattle.expression_steps.proofs.ends.type_of.Goals as goal

pub returns-in-Some-clause-carries : goal.returns-in-Some-clause-carries
returns-in-Some-clause-carries c = λ plain.
    let es = expressions_of c.args.at.now.item (map operand_view c.args.parts.now) in
    let types = c.args.types.now in
    as_named c.args.row name.Ebegin ebegin_row c.args.at.now c.args.at.now c.args.env.now es (numbers types) c.in-Some.ty.now.0 c.in-Ebegin.is is_begin (begin_ends c.args.at.now c.args.env.now es (numbers types) c.in-Some.ty.now.0 (number_here types 0 c.in-Some.ty.now (sym c.in-Some.ensures.value)))

pub returns-in-None-clause-carries : goal.returns-in-None-clause-carries
returns-in-None-clause-carries c = λ plain.
    let es = expressions_of c.args.at.now.item (map operand_view c.args.parts.now) in
    let types = c.args.types.now in
    as_named c.args.row name.Ebegin ebegin_row c.args.at.now c.args.at.now c.args.env.now es (numbers types) c.args.at.now.constants.unit.0 c.in-Ebegin.is is_begin (begin_empty c.args.at.now c.args.env.now es (numbers types) (number_missing types 0 (sym c.in-None.ensures.value)))

pub returns-in-Elist-clause-carries : goal.returns-in-Elist-clause-carries
returns-in-Elist-clause-carries c =
    IfOk-weaker c.list.result _ _ (λ m h plain. as_named c.args.row name.Elist elist_row c.args.at.now c.list.new.at c.args.env.now (expressions_of c.args.at.now.item (map operand_view c.args.parts.now)) (numbers c.args.types.now) m.0 c.in-Elist.is is_list h) c.list.ensures.carries

pub returns-in-Econs-clause-carries : goal.returns-in-Econs-clause-carries
returns-in-Econs-clause-carries c =
    IfOk-weaker c.cons.result _ _ (λ m h plain. as_named c.args.row name.Econs econs_row c.args.at.now c.cons.new.at c.args.env.now (expressions_of c.args.at.now.item (map operand_view c.args.parts.now)) (numbers c.args.types.now) m.0 c.in-Econs.is is_cons h) c.cons.ensures.carries

pub returns-in-Eif-clause-carries : goal.returns-in-Eif-clause-carries
returns-in-Eif-clause-carries c =
    IfOk-weaker c.branches.result _ _ (λ m h plain. as_named c.args.row name.Eif eif_row c.args.at.now c.branches.new.at c.args.env.now (expressions_of c.args.at.now.item (map operand_view c.args.parts.now)) (numbers c.args.types.now) m.0 c.in-Eif.is is_if h) c.branches.ensures.carries

pub returns-in-Etuple-clause-carries : goal.returns-in-Etuple-clause-carries
returns-in-Etuple-clause-carries c =
    let es = expressions_of c.args.at.now.item (map operand_view c.args.parts.now) in
    let ms = numbers c.args.types.now in
    IfOk-weaker c.tuple.result _ _ (λ m made plain. as_named c.args.row name.Etuple etuple_row c.args.at.now c.tuple.new.self c.args.env.now es ms m.0 c.in-Etuple.is is_tuple (ends_tuple c.args.at.now c.tuple.new.self c.args.env.now es ms m.0 made c.tuple.ensures.rest)) c.tuple.ensures.made

pub returns-in-Eseq-clause-carries : goal.returns-in-Eseq-clause-carries
returns-in-Eseq-clause-carries c =
    let es = expressions_of c.args.at.now.item (map operand_view c.args.parts.now) in
    let types = c.args.types.now in
    IfOk-weaker c.type_or_var.result _ _ (λ m h plain. as_named c.args.row name.Eseq eseq_row c.args.at.now c.type_or_var.new.at c.args.env.now es (numbers types) m.0 c.in-Eseq.is is_seq (seq_ends c.args.at.now c.type_or_var.new.at c.args.env.now es types c.copied.result m (c.copied.ensures ∙ c.last.ensures.value ∙ last_at types) h.0 h.1)) (both_ok c.type_or_var.result _ _ c.type_or_var.ensures.ty c.type_or_var.ensures.carries)

pub returns-in-Some-first-clause-carries : goal.returns-in-Some-first-clause-carries
returns-in-Some-first-clause-carries c =
    let i = c.args.at.now.item in
    let os = c.args.parts.now in
    let es = expressions_of i (map operand_view os) in
    let ms = numbers c.args.types.now in
    IfOk-weaker c.var.result _ _ (λ m made plain. as_named c.args.row name.Eassert eassert_row c.args.at.now c.var.new.self c.args.env.now es ms m.0 c.in-Eassert.is is_assert
    (false_ends c.args.at.now c.var.new.self c.args.env.now i os c.in-Some-first.part.now ms m.0 (sym c.in-Some-first.ensures.value) (sym c.is_false.ensures ∙ c.if-is_false.true) (var_any c.args.at.now c.var.new.self made c.var.ensures.rest))) c.var.ensures.made

pub returns-in_default-first-clause-carries : goal.returns-in_default-first-clause-carries
returns-in_default-first-clause-carries c = λ plain.
    let i = c.args.at.now.item in
    let os = c.args.parts.now in
    let es = expressions_of i (map operand_view os) in
    let ms = numbers c.args.types.now in
    as_named c.args.row name.Eassert eassert_row c.args.at.now c.args.at.now c.args.env.now es ms c.args.at.now.constants.unit.0 c.in-Eassert.is is_assert
    (assert_ends_unit c.args.at.now c.args.env.now i os ms (elim c.in_default-first.branch [
      | in_default-first-via-in-Some-first+else-is_false w ↦ one_apart os w.in-Some-first.part.now (sym w.in-Some-first.ensures.value) (sym w.is_false.ensures ∙ w.if-is_false.false)
      | in_default-first-via-in_default-first w ↦ none_apart os (sym w.in_default-first.ensures.value)
    ]))

pub returns-in-Ewhile-clause-carries : goal.returns-in-Ewhile-clause-carries
returns-in-Ewhile-clause-carries c = λ plain. while_ends c.args.row c.args.at.now c.args.env.now (expressions_of c.args.at.now.item (map operand_view c.args.parts.now)) (numbers c.args.types.now) c.in-Ewhile.is

pub returns-in_default : goal.returns-in_default
returns-in_default c = record {
  carries = if_any c.var-in_default.result _ (λ m plain. absurd (others_apart c.args.row plain c.in_default.not-Ebegin c.in_default.not-Elist c.in_default.not-Econs c.in_default.not-Etuple c.in_default.not-Eseq c.in_default.not-Eif c.in_default.not-Eassert c.in_default.not-Ewhile));
  goes = c.var-in_default.ensures.goes;
}

pub returns-in-Econs-clause-goes : goal.returns-in-Econs-clause-goes
returns-in-Econs-clause-goes c = c.cons.ensures.goes

pub returns-in-Eif-clause-goes : goal.returns-in-Eif-clause-goes
returns-in-Eif-clause-goes c = c.branches.ensures.goes

pub returns-in-Elist-clause-goes : goal.returns-in-Elist-clause-goes
returns-in-Elist-clause-goes c = c.list.ensures.goes

pub returns-in-Etuple-clause-goes : goal.returns-in-Etuple-clause-goes
returns-in-Etuple-clause-goes c = c.tuple.ensures.goes

pub returns-in-Ewhile-clause-goes : goal.returns-in-Ewhile-clause-goes
returns-in-Ewhile-clause-goes c = goes_refl c.args.at.now

pub returns-in-None-clause-goes : goal.returns-in-None-clause-goes
returns-in-None-clause-goes c = goes_refl c.args.at.now

pub returns-in-Some-clause-goes : goal.returns-in-Some-clause-goes
returns-in-Some-clause-goes c = goes_refl c.args.at.now

pub returns-in-Some-first-clause-goes : goal.returns-in-Some-first-clause-goes
returns-in-Some-first-clause-goes c = c.var.ensures.goes

pub returns-in_default-first-clause-goes : goal.returns-in_default-first-clause-goes
returns-in_default-first-clause-goes c = goes_refl c.args.at.now
