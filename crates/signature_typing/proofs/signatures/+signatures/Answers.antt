use Rattle.std.proofs.Common.{arith, ◌≡◌, ◌∙◌, ◌<◌, length, map, refl, ap, subst}
use Rattle.row_parts.specs.Numbered.{operand_view}
use Rattle.syntax_tree.specs.View.{node_view}
use Rattle.syntax_tree.specs.declared.rows.RowName.TheVariants as name
use Rattle.syntax_tree.specs.declared.tree.Node.{out-Node}
use Rattle.typing_state.proofs.Going.{goes_refl, goes_trans}
use Rattle.sig_template.specs.Structures.{entries_of}
use Rattle.module_steps.specs.Listed.{seen_values}
use Rattle.module_steps.specs.Modules.{env_behind}
use Rattle.module_steps.proofs.Naming.{always}
use Rattle.signature_typing.specs.ValueSignatures.{GivesAllAdded}
use Rattle.signature_typing.proofs.NodeRows.{not_of}
use Rattle.signature_typing.proofs.SpecificationSteps.{missing_specified, exception_specified, value_given, own_type_given, module_given, other_specification, specifications_start, specifications_next, specifications_end}
use Rattle.signature_typing.proofs.ValueSteps.{value_adds, missing_is_none, other_is_none, added_start, added_next, added_end}
use Rattle.signature_typing.proofs.ModuleReads.{signature_read, other_structure, missing_structure, module_read, module_specified}
use Rattle.signature_typing.proofs.signatures.+signatures.Goals as goal

pub type_specification-returns-in_default-clause-carries : goal.type_specification-returns-in_default-clause-carries
type_specification-returns-in_default-clause-carries t c =
    missing_specified c.note_plain.result c.args.at.now c.note_plain.new.self c.args.scene.now c.args.item c.in_default.is c.note_plain.ensures.noted c.note_plain.ensures.rest c.note_plain.ensures.goes

pub type_specification-returns-in-Exception-clause-carries : goal.type_specification-returns-in-Exception-clause-carries
type_specification-returns-in-Exception-clause-carries t c = exception_specified c.exception_item.result c.args.at.now c.exception_item.new.at c.args.scene.now c.exception_item.new.scene c.args.item c.in-Some.node c.in-Some.is c.in-Exception.is c.exception_item.ensures.adds c.exception_item.ensures.names

pub type_specification-returns-in-Val-clause-carries : goal.type_specification-returns-in-Val-clause-carries
type_specification-returns-in-Val-clause-carries t c = value_given c.value_item.result c.args.at.now c.value_item.new.at c.args.scene.now c.value_item.new.scene c.args.item c.in-Some.node c.in-Some.is c.in-Val.is c.value_item.ensures.carries c.value_item.ensures.names

pub type_specification-returns-in-TypeRow-clause-carries : goal.type_specification-returns-in-TypeRow-clause-carries
type_specification-returns-in-TypeRow-clause-carries t c = own_type_given c.type_group.result c.args.at.now c.type_group.new.at c.args.scene.now c.type_group.new.scene c.args.item c.in-Some.node c.in-Some.is c.in-TypeRow.is c.type_group.ensures.carries

pub type_specification-returns-in-Gmodule-clause-carries : goal.type_specification-returns-in-Gmodule-clause-carries
type_specification-returns-in-Gmodule-clause-carries t c =
    module_given c.type_module_specification.result c.args.at.now c.type_module_specification.new.at c.args.scene.now c.type_module_specification.new.scene c.args.item c.in-Some.node c.in-Some.is c.in-Gmodule.is c.type_module_specification.ensures.carries

pub type_specification-returns-in-Modtype-clause-carries : goal.type_specification-returns-in-Modtype-clause-carries
type_specification-returns-in-Modtype-clause-carries t c =
    let row = (out-Node c.in-Some.node.now).row in
    other_specification c.type_module_type_item.result c.args.at.now c.type_module_type_item.new.at c.args.scene.now c.type_module_type_item.new.scene c.args.item c.in-Some.node c.in-Some.is (not_of row name.Modtype name.Val c.in-Modtype.is (λ e. absurd (cc))) (not_of row name.Modtype name.Exception c.in-Modtype.is (λ e. absurd (cc))) (not_of row name.Modtype name.TypeRow c.in-Modtype.is (λ e. absurd (cc))) (not_of row name.Modtype name.Gmodule c.in-Modtype.is (λ e. absurd (cc)))

pub type_specification-returns-in-Open-clause-carries : goal.type_specification-returns-in-Open-clause-carries
type_specification-returns-in-Open-clause-carries t c =
    let row = (out-Node c.in-Some.node.now).row in
    other_specification c.open_item.result c.args.at.now c.open_item.new.at c.args.scene.now c.open_item.new.scene c.args.item c.in-Some.node c.in-Some.is (not_of row name.Open name.Val c.in-Open.is (λ e. absurd (cc))) (not_of row name.Open name.Exception c.in-Open.is (λ e. absurd (cc))) (not_of row name.Open name.TypeRow c.in-Open.is (λ e. absurd (cc))) (not_of row name.Open name.Gmodule c.in-Open.is (λ e. absurd (cc)))

pub type_specification-returns-in-Include-clause-carries : goal.type_specification-returns-in-Include-clause-carries
type_specification-returns-in-Include-clause-carries t c =
    let row = (out-Node c.in-Some.node.now).row in
    other_specification c.include_specification.result c.args.at.now c.include_specification.new.at c.args.scene.now c.include_specification.new.scene c.args.item c.in-Some.node c.in-Some.is (not_of row name.Include name.Val c.in-Include.is (λ e. absurd (cc))) (not_of row name.Include name.Exception c.in-Include.is (λ e. absurd (cc))) (not_of row name.Include name.TypeRow c.in-Include.is (λ e. absurd (cc))) (not_of row name.Include name.Gmodule c.in-Include.is (λ e. absurd (cc)))

pub type_specification-returns-in_default-row-clause-carries : goal.type_specification-returns-in_default-row-clause-carries
type_specification-returns-in_default-row-clause-carries t c =
    other_specification c.note_plain-in_default-row.result c.args.at.now c.note_plain-in_default-row.new.self c.args.scene.now c.args.scene.now c.args.item c.in-Some.node c.in-Some.is c.in_default-row.not-Val c.in_default-row.not-Exception c.in_default-row.not-TypeRow c.in_default-row.not-Gmodule

pub type_specifications-loop-item-init : goal.type_specifications-loop-item-init
type_specifications-loop-item-init t c = record {
  goes = goes_refl c.args.at.now;
  gives = specifications_start c.args.at.now c.args.env.now c.new-scene.result (map operand_view c.args.items.now) (c.new-scene.ensures.env ∙ c.in_ok-share.ensures) c.new-scene.ensures.names;
  adds = added_start c.args.at.now c.args.env.now c.new-scene.result (map operand_view c.args.items.now) (c.new-scene.ensures.env ∙ c.in_ok-share.ensures) c.new-scene.ensures.components c.new-scene.ensures.makes;
}

pub type_specifications-loop-item-preserved : goal.type_specifications-loop-item-preserved
type_specifications-loop-item-preserved t c =
    let all = c.args.items.now in
    let i = c.loop-item.item-index in
    let lt : i < length all = let n = c.loop-item-test.true in omega arith in
    record {
      goes = goes_trans c.args.at.now c.loop-item.at c.type_specification.new.at c.loop-item.invariant.goes c.type_specification.ensures.goes;
      gives = specifications_next c.args.at.now c.loop-item.at c.type_specification.new.at c.args.env.now c.loop-item.scene c.type_specification.new.scene (map operand_view all) all i c.item-item.result lt c.item-item.is
          c.loop-item.invariant.goes c.loop-item.invariant.gives c.in_ok-type_specification.ensures.carries;
      adds = added_next c.args.at.now c.loop-item.at c.type_specification.new.at c.args.env.now c.loop-item.scene c.type_specification.new.scene (map operand_view all) all i c.item-item.result lt c.item-item.is
          c.loop-item.invariant.goes c.loop-item.invariant.adds c.in_ok-type_specification.ensures.adds;
    }

pub type_specifications-returns-clause-carries : goal.type_specifications-returns-clause-carries
type_specifications-returns-clause-carries t c =
    specifications_end c.args.at.now c.loop-item.at c.args.env.now c.loop-item.scene (map operand_view c.args.items.now) c.args.items.now c.loop-item.item-index c.loop-item-test.false c.loop-item.invariant.gives

pub type_specifications-returns-clause-adds : goal.type_specifications-returns-clause-adds
type_specifications-returns-clause-adds t c =
    added_end c.args.at.now c.loop-item.at c.args.env.now c.loop-item.scene (map operand_view c.args.items.now) c.args.items.now c.loop-item.item-index c.loop-item-test.false c.loop-item.invariant.adds

pub type_specification-returns-in_default-clause-adds : goal.type_specification-returns-in_default-clause-adds
type_specification-returns-in_default-clause-adds t c = missing_is_none c.note_plain.result c.args.at.now c.note_plain.new.self c.args.scene.now c.args.scene.now c.args.item c.in_default.is

pub type_specification-returns-in_default-row-clause-adds : goal.type_specification-returns-in_default-row-clause-adds
type_specification-returns-in_default-row-clause-adds t c = other_is_none c.note_plain-in_default-row.result c.args.at.now c.note_plain-in_default-row.new.self c.args.scene.now c.args.scene.now c.args.item c.in-Some.node c.in-Some.is c.in_default-row.not-Val

pub type_specification-returns-in-Val-clause-adds : goal.type_specification-returns-in-Val-clause-adds
type_specification-returns-in-Val-clause-adds t c = value_adds c.value_item.result c.args.at.now c.value_item.new.at c.args.scene.now c.value_item.new.scene c.args.item c.in-Some.node c.in-Some.is c.value_item.ensures.carries c.value_item.ensures.adds

pub type_specification-returns-in-TypeRow-clause-adds : goal.type_specification-returns-in-TypeRow-clause-adds
type_specification-returns-in-TypeRow-clause-adds t c =
    other_is_none c.type_group.result c.args.at.now c.type_group.new.at c.args.scene.now c.type_group.new.scene c.args.item c.in-Some.node c.in-Some.is (not_of (out-Node c.in-Some.node.now).row name.TypeRow name.Val c.in-TypeRow.is (λ e. absurd (cc)))

pub type_specification-returns-in-Exception-clause-adds : goal.type_specification-returns-in-Exception-clause-adds
type_specification-returns-in-Exception-clause-adds t c =
    other_is_none c.exception_item.result c.args.at.now c.exception_item.new.at c.args.scene.now c.exception_item.new.scene c.args.item c.in-Some.node c.in-Some.is (not_of (out-Node c.in-Some.node.now).row name.Exception name.Val c.in-Exception.is (λ e. absurd (cc)))

pub type_specification-returns-in-Gmodule-clause-adds : goal.type_specification-returns-in-Gmodule-clause-adds
type_specification-returns-in-Gmodule-clause-adds t c =
    other_is_none c.type_module_specification.result c.args.at.now c.type_module_specification.new.at c.args.scene.now c.type_module_specification.new.scene c.args.item c.in-Some.node c.in-Some.is (not_of (out-Node c.in-Some.node.now).row name.Gmodule name.Val c.in-Gmodule.is (λ e. absurd (cc)))

pub type_specification-returns-in-Modtype-clause-adds : goal.type_specification-returns-in-Modtype-clause-adds
type_specification-returns-in-Modtype-clause-adds t c =
    other_is_none c.type_module_type_item.result c.args.at.now c.type_module_type_item.new.at c.args.scene.now c.type_module_type_item.new.scene c.args.item c.in-Some.node c.in-Some.is (not_of (out-Node c.in-Some.node.now).row name.Modtype name.Val c.in-Modtype.is (λ e. absurd (cc)))

pub type_specification-returns-in-Open-clause-adds : goal.type_specification-returns-in-Open-clause-adds
type_specification-returns-in-Open-clause-adds t c =
    other_is_none c.open_item.result c.args.at.now c.open_item.new.at c.args.scene.now c.open_item.new.scene c.args.item c.in-Some.node c.in-Some.is (not_of (out-Node c.in-Some.node.now).row name.Open name.Val c.in-Open.is (λ e. absurd (cc)))

pub type_specification-returns-in-Include-clause-adds : goal.type_specification-returns-in-Include-clause-adds
type_specification-returns-in-Include-clause-adds t c =
    other_is_none c.include_specification.result c.args.at.now c.include_specification.new.at c.args.scene.now c.include_specification.new.scene c.args.item c.in-Some.node c.in-Some.is (not_of (out-Node c.in-Some.node.now).row name.Include name.Val c.in-Include.is (λ e. absurd (cc)))

pub type_parameters-loop-place-init : goal.type_parameters-loop-place-init
type_parameters-loop-place-init t c = record { goes = goes_refl c.args.at.now; none = λ e. (c.new-taken.ensures.items, refl) }

pub type_parameters-loop-place-preserved : goal.type_parameters-loop-place-preserved
type_parameters-loop-place-preserved t c = record {
  goes = goes_trans c.args.at.now c.read_module_type.new.at c.taken_as.new.at (goes_trans c.args.at.now c.loop-place.at c.read_module_type.new.at c.loop-place.invariant.goes c.read_module_type.ensures.goes) c.taken_as.ensures.goes;
  none = λ e. absurd (let lt = c.loop-place-test.true in let zero : length c.args.types.now ≡ 0 = ap length e in omega arith);
}

pub type_parameters-returns-clause-goes : goal.type_parameters-returns-clause-goes
type_parameters-returns-clause-goes t c = c.loop-place.invariant.goes

pub type_parameters-returns-in_err-template-clause-goes : goal.type_parameters-returns-in_err-template-clause-goes
type_parameters-returns-in_err-template-clause-goes t c = goes_trans c.args.at.now c.loop-place.at c.read_module_type.new.at c.loop-place.invariant.goes c.read_module_type.ensures.goes

pub type_parameters-returns-in_err-parameter-clause-goes : goal.type_parameters-returns-in_err-parameter-clause-goes
type_parameters-returns-in_err-parameter-clause-goes t c =
    goes_trans c.args.at.now c.read_module_type.new.at c.taken_as.new.at (goes_trans c.args.at.now c.loop-place.at c.read_module_type.new.at c.loop-place.invariant.goes c.read_module_type.ensures.goes) c.taken_as.ensures.goes

pub type_parameters-returns-in_err-env-2-clause-goes : goal.type_parameters-returns-in_err-env-2-clause-goes
type_parameters-returns-in_err-env-2-clause-goes t c =
    goes_trans c.args.at.now c.read_module_type.new.at c.taken_as.new.at (goes_trans c.args.at.now c.loop-place.at c.read_module_type.new.at c.loop-place.invariant.goes c.read_module_type.ensures.goes) c.taken_as.ensures.goes

pub type_parameters-returns-in_err-push-clause-goes : goal.type_parameters-returns-in_err-push-clause-goes
type_parameters-returns-in_err-push-clause-goes t c =
    goes_trans c.args.at.now c.read_module_type.new.at c.taken_as.new.at (goes_trans c.args.at.now c.loop-place.at c.read_module_type.new.at c.loop-place.invariant.goes c.read_module_type.ensures.goes) c.taken_as.ensures.goes

pub type_parameters-returns-clause-none : goal.type_parameters-returns-clause-none
type_parameters-returns-clause-none t c = c.loop-place.invariant.none

pub read_module_type-returns-in_default-clause-values : goal.read_module_type-returns-in_default-clause-values
read_module_type-returns-in_default-clause-values t c = missing_structure c.unknown_type.result c.args.at.now c.note_plain.new.self c.args.env.now c.args.y c.in_default.is

pub read_module_type-returns-in-Ypath-clause-values : goal.read_module_type-returns-in-Ypath-clause-values
read_module_type-returns-in-Ypath-clause-values t c =
    other_structure c.module_type_path.result c.args.at.now c.module_type_path.new.at c.args.env.now c.args.y c.in-Some.node c.in-Some.is (not_of (out-Node c.in-Some.node.now).row name.Ypath name.Ysig c.in-Ypath.is (λ e. absurd (cc)))

pub read_module_type-returns-in_ok-kept-in-Ysig-clause-values : goal.read_module_type-returns-in_ok-kept-in-Ysig-clause-values
read_module_type-returns-in_ok-kept-in-Ysig-clause-values t c =
    let kept = c.in_ok-kept-in-Ysig.kept in
    signature_read c.template_of.result c.args.at.now c.note_plain-in-Ysig.new.self c.type_specifications.new.at c.args.env.now c.args.y c.in-Some.node c.in_ok-items-in-Ysig.items.items kept c.in-Some.is c.in_ok-note_plain-in-Ysig.ensures.noted c.note_plain-in-Ysig.ensures.rest c.note_plain-in-Ysig.ensures.goes c.in_ok-items-in-Ysig.ensures
    (subst (λ os. GivesAllAdded c.note_plain-in-Ysig.new.self c.type_specifications.new.at c.args.env.now (map operand_view os) (entries_of kept.components.items) kept.makes.items) c.deref.ensures.value c.in_ok-kept-in-Ysig.ensures.adds) c.template_of.ensures

pub read_module_type-returns-in_ok-inside-in-Yparen-clause-values : goal.read_module_type-returns-in_ok-inside-in-Yparen-clause-values
read_module_type-returns-in_ok-inside-in-Yparen-clause-values t c =
    other_structure c.read_module_type.result c.args.at.now c.read_module_type.new.at c.args.env.now c.args.y c.in-Some.node c.in-Some.is (not_of (out-Node c.in-Some.node.now).row name.Yparen name.Ysig c.in-Yparen.is (λ e. absurd (cc)))

pub read_module_type-returns-in_ok-clauses-in-Ywith-clause-values : goal.read_module_type-returns-in_ok-clauses-in-Ywith-clause-values
read_module_type-returns-in_ok-clauses-in-Ywith-clause-values t c =
    other_structure c.behind_clauses.result c.args.at.now c.behind_clauses.new.at c.args.env.now c.args.y c.in-Some.node c.in-Some.is (not_of (out-Node c.in-Some.node.now).row name.Ywith name.Ysig c.in-Ywith.is (λ e. absurd (cc)))

pub read_module_type-returns-in_ok-body-in-Yfunctor-clause-values : goal.read_module_type-returns-in_ok-body-in-Yfunctor-clause-values
read_module_type-returns-in_ok-body-in-Yfunctor-clause-values t c =
    other_structure c.functor_template.result c.args.at.now c.read_module_type-in-Yfunctor.new.at c.args.env.now c.args.y c.in-Some.node c.in-Some.is (not_of (out-Node c.in-Some.node.now).row name.Yfunctor name.Ysig c.in-Yfunctor.is (λ e. absurd (cc)))

pub read_module_type-returns-in_ok-note_plain-in_default-row : goal.read_module_type-returns-in_ok-note_plain-in_default-row
read_module_type-returns-in_ok-note_plain-in_default-row t c = record {
  values = other_structure c.unknown_type-in_default-row.result c.args.at.now c.note_plain-in_default-row.new.self c.args.env.now c.args.y c.in-Some.node c.in-Some.is c.in_default-row.not-Ysig;
  goes = c.note_plain-in_default-row.ensures.goes;
}

pub type_specified-returns-clause-values : goal.type_specified-returns-clause-values
type_specified-returns-clause-values t c =
    module_read c.args.at.now c.type_parameters.new.at c.read_module_type.new.at c.specified.new.at c.args.env.now c.in_ok-inner.inner c.args.number (node_view c.args.node.now) c.in_ok-types.types.items c.in_ok-taken.taken.items c.operand_in.result c.in_ok-template.template.value c.in_ok-specified.field-0.sig.value
    c.in_ok-types.ensures (λ e. c.in_ok-taken.ensures.none (c.deref-2.ensures.value ∙ e)) (c.in_ok-inner.ensures ∙ ap (λ ps. env_behind ps c.args.env.now) c.deref-4.ensures.value) c.operand_in.ensures c.in_ok-template.ensures.values
    (λ none made. let o = c.in_ok-specified.ensures.own (c.deref-5.ensures.value ∙ none) made in (o.0.0, o.1))

pub type_module_specification-returns-clause-carries : goal.type_module_specification-returns-clause-carries
type_module_specification-returns-clause-carries t c =
    always c.add_made.result (module_specified c.args.at.now c.ask_new.new.at c.type_specified.new.at c.add_named.new.at c.args.scene.now c.ask_new.new.self c.add_named.new.self c.add_made.new.self c.args.number (node_view c.args.node.now) c.token-name.result c.in_ok-made.made.sig (seen_values c.in_ok-made.seen.items)
    c.token-name.ensures c.in_ok-ask_new.ensures.asked c.ask_new.ensures.rest c.ask_new.ensures.faults c.ask_new.ensures.goes c.in_ok-made.ensures.values c.in_ok-add_named.ensures.added c.add_named.ensures.names c.add_named.ensures.rest c.add_named.ensures.goes c.add_made.ensures.env c.add_made.ensures.names)
