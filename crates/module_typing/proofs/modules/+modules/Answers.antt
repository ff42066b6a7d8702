use Rattle.std.proofs.Common.{arith, ◌∙◌, ◌<◌, length, map}
use Rattle.row_parts.specs.Numbered.{operand_view}
use Rattle.syntax_tree.specs.declared.rows.RowName.TheVariants as name
use Rattle.syntax_tree.specs.declared.tree.Node.{out-Node}
use Rattle.typing_state.proofs.Going.{goes_refl, goes_trans}
use Rattle.signature_typing.proofs.NodeRows.{not_of}
use Rattle.signature_typing.proofs.SpecificationSteps.{missing_specified, exception_specified, other_specification}
use Rattle.module_typing.proofs.ItemSteps.{missing_given, break_given, let_item_given, exception_given, other_item, other_names, none_grows, other_grows, on_any, items_start, items_next, items_end}
use Rattle.module_typing.proofs.modules.+modules.Goals as goal

pub type_item-returns-in_default-clause-carries : goal.type_item-returns-in_default-clause-carries
type_item-returns-in_default-clause-carries t c = missing_given c.note_plain.result c.args.at.now c.note_plain.new.self c.args.scene.now c.args.item c.in_default.is c.note_plain.ensures.noted c.note_plain.ensures.rest c.note_plain.ensures.goes

pub type_item-returns-in-Let-clause-carries : goal.type_item-returns-in-Let-clause-carries
type_item-returns-in-Let-clause-carries t c = let_item_given c.let_item.result c.args.at.now c.let_item.new.at c.args.scene.now c.let_item.new.scene c.args.item c.in-Some.node c.in-Some.is c.in-Let.is c.let_item.ensures.carries c.let_item.ensures.names

pub type_item-returns-in-Exception-clause-carries : goal.type_item-returns-in-Exception-clause-carries
type_item-returns-in-Exception-clause-carries t c = exception_given c.exception_item.result c.args.at.now c.exception_item.new.at c.args.scene.now c.exception_item.new.scene c.args.item c.in-Some.node c.in-Some.is c.in-Exception.is c.exception_item.ensures.carries c.exception_item.ensures.names

pub type_item-returns-in-Break-clause-carries : goal.type_item-returns-in-Break-clause-carries
type_item-returns-in-Break-clause-carries t c =
    break_given c.note_plain-in-Break.result c.args.at.now c.note_plain-in-Break.new.self c.args.scene.now c.args.item c.in-Some.node c.in-Some.is c.in-Break.is c.note_plain-in-Break.ensures.noted c.note_plain-in-Break.ensures.rest c.note_plain-in-Break.ensures.goes

pub type_item-returns-in-Module-clause-carries : goal.type_item-returns-in-Module-clause-carries
type_item-returns-in-Module-clause-carries t c =
    let row = (out-Node c.in-Some.node.now).row in
    other_item c.type_module_item.result c.args.at.now c.type_module_item.new.at c.args.scene.now c.type_module_item.new.scene c.args.item c.in-Some.node c.in-Some.is
    (not_of row name.Module name.Let c.in-Module.is (λ e. absurd (cc))) (not_of row name.Module name.Break c.in-Module.is (λ e. absurd (cc))) (not_of row name.Module name.Exception c.in-Module.is (λ e. absurd (cc)))

pub type_item-returns-in-Include-clause-carries : goal.type_item-returns-in-Include-clause-carries
type_item-returns-in-Include-clause-carries t c =
    let row = (out-Node c.in-Some.node.now).row in
    other_item c.include_item.result c.args.at.now c.include_item.new.at c.args.scene.now c.include_item.new.scene c.args.item c.in-Some.node c.in-Some.is
    (not_of row name.Include name.Let c.in-Include.is (λ e. absurd (cc))) (not_of row name.Include name.Break c.in-Include.is (λ e. absurd (cc))) (not_of row name.Include name.Exception c.in-Include.is (λ e. absurd (cc)))

pub type_item-returns-in-Module-clause-names : goal.type_item-returns-in-Module-clause-names
type_item-returns-in-Module-clause-names t c =
    let row = (out-Node c.in-Some.node.now).row in
    other_names c.args.scene.now c.type_module_item.new.scene c.args.item c.in-Some.node c.in-Some.is
    (not_of row name.Module name.Let c.in-Module.is (λ e. absurd (cc))) (not_of row name.Module name.Break c.in-Module.is (λ e. absurd (cc))) (not_of row name.Module name.Exception c.in-Module.is (λ e. absurd (cc)))

pub type_item-returns-in-Include-clause-names : goal.type_item-returns-in-Include-clause-names
type_item-returns-in-Include-clause-names t c =
    let row = (out-Node c.in-Some.node.now).row in
    other_names c.args.scene.now c.include_item.new.scene c.args.item c.in-Some.node c.in-Some.is
    (not_of row name.Include name.Let c.in-Include.is (λ e. absurd (cc))) (not_of row name.Include name.Break c.in-Include.is (λ e. absurd (cc))) (not_of row name.Include name.Exception c.in-Include.is (λ e. absurd (cc)))

pub type_item-returns-in_default-clause-specifies : goal.type_item-returns-in_default-clause-specifies
type_item-returns-in_default-clause-specifies t c = missing_specified c.note_plain.result c.args.at.now c.note_plain.new.self c.args.scene.now c.args.item c.in_default.is c.note_plain.ensures.noted c.note_plain.ensures.rest c.note_plain.ensures.goes

pub type_item-returns-in-Exception-clause-specifies : goal.type_item-returns-in-Exception-clause-specifies
type_item-returns-in-Exception-clause-specifies t c =
    exception_specified c.exception_item.result c.args.at.now c.exception_item.new.at c.args.scene.now c.exception_item.new.scene c.args.item c.in-Some.node c.in-Some.is c.in-Exception.is c.exception_item.ensures.adds c.exception_item.ensures.names

pub type_item-returns-in-Break-clause-specifies : goal.type_item-returns-in-Break-clause-specifies
type_item-returns-in-Break-clause-specifies t c =
    let row = (out-Node c.in-Some.node.now).row in
    other_specification c.note_plain-in-Break.result c.args.at.now c.note_plain-in-Break.new.self c.args.scene.now c.args.scene.now c.args.item c.in-Some.node c.in-Some.is
    (not_of row name.Break name.Val c.in-Break.is (λ e. absurd (cc))) (not_of row name.Break name.Exception c.in-Break.is (λ e. absurd (cc))) (not_of row name.Break name.TypeRow c.in-Break.is (λ e. absurd (cc))) (not_of row name.Break name.Gmodule c.in-Break.is (λ e. absurd (cc)))

pub type_item-returns-in-Let-clause-specifies : goal.type_item-returns-in-Let-clause-specifies
type_item-returns-in-Let-clause-specifies t c =
    let row = (out-Node c.in-Some.node.now).row in
    other_specification c.let_item.result c.args.at.now c.let_item.new.at c.args.scene.now c.let_item.new.scene c.args.item c.in-Some.node c.in-Some.is
    (not_of row name.Let name.Val c.in-Let.is (λ e. absurd (cc))) (not_of row name.Let name.Exception c.in-Let.is (λ e. absurd (cc))) (not_of row name.Let name.TypeRow c.in-Let.is (λ e. absurd (cc))) (not_of row name.Let name.Gmodule c.in-Let.is (λ e. absurd (cc)))

pub type_item-returns-in-Module-clause-specifies : goal.type_item-returns-in-Module-clause-specifies
type_item-returns-in-Module-clause-specifies t c =
    let row = (out-Node c.in-Some.node.now).row in
    other_specification c.type_module_item.result c.args.at.now c.type_module_item.new.at c.args.scene.now c.type_module_item.new.scene c.args.item c.in-Some.node c.in-Some.is
    (not_of row name.Module name.Val c.in-Module.is (λ e. absurd (cc))) (not_of row name.Module name.Exception c.in-Module.is (λ e. absurd (cc))) (not_of row name.Module name.TypeRow c.in-Module.is (λ e. absurd (cc))) (not_of row name.Module name.Gmodule c.in-Module.is (λ e. absurd (cc)))

pub type_item-returns-in-Include-clause-specifies : goal.type_item-returns-in-Include-clause-specifies
type_item-returns-in-Include-clause-specifies t c =
    let row = (out-Node c.in-Some.node.now).row in
    other_specification c.include_item.result c.args.at.now c.include_item.new.at c.args.scene.now c.include_item.new.scene c.args.item c.in-Some.node c.in-Some.is
    (not_of row name.Include name.Val c.in-Include.is (λ e. absurd (cc))) (not_of row name.Include name.Exception c.in-Include.is (λ e. absurd (cc))) (not_of row name.Include name.TypeRow c.in-Include.is (λ e. absurd (cc))) (not_of row name.Include name.Gmodule c.in-Include.is (λ e. absurd (cc)))

pub type_item-returns-in_default-clause-grows : goal.type_item-returns-in_default-clause-grows
type_item-returns-in_default-clause-grows t c = λ keeps. on_any c.note_plain.result (none_grows c.args.scene.now)

pub type_item-returns-in-Let-clause-grows : goal.type_item-returns-in-Let-clause-grows
type_item-returns-in-Let-clause-grows t c = λ keeps. c.let_item.ensures.grows

pub type_item-returns-in-Break-clause-grows : goal.type_item-returns-in-Break-clause-grows
type_item-returns-in-Break-clause-grows t c = λ keeps. on_any c.note_plain-in-Break.result (none_grows c.args.scene.now)

pub type_item-returns-in-Exception-clause-grows : goal.type_item-returns-in-Exception-clause-grows
type_item-returns-in-Exception-clause-grows t c =
    let row = (out-Node c.in-Some.node.now).row in
    other_grows c.args.item c.in-Some.node c.in-Some.is (not_of row name.Exception name.Let c.in-Exception.is (λ e. absurd (cc))) (not_of row name.Exception name.Break c.in-Exception.is (λ e. absurd (cc)))

pub type_item-returns-in-Module-clause-grows : goal.type_item-returns-in-Module-clause-grows
type_item-returns-in-Module-clause-grows t c =
    let row = (out-Node c.in-Some.node.now).row in
    other_grows c.args.item c.in-Some.node c.in-Some.is (not_of row name.Module name.Let c.in-Module.is (λ e. absurd (cc))) (not_of row name.Module name.Break c.in-Module.is (λ e. absurd (cc)))

pub type_item-returns-in-Include-clause-grows : goal.type_item-returns-in-Include-clause-grows
type_item-returns-in-Include-clause-grows t c =
    let row = (out-Node c.in-Some.node.now).row in
    other_grows c.args.item c.in-Some.node c.in-Some.is (not_of row name.Include name.Let c.in-Include.is (λ e. absurd (cc))) (not_of row name.Include name.Break c.in-Include.is (λ e. absurd (cc)))

pub type_item-returns-in_default-row : goal.type_item-returns-in_default-row
type_item-returns-in_default-row t c = record {
  carries = other_item c.type_specification.result c.args.at.now c.type_specification.new.at c.args.scene.now c.type_specification.new.scene c.args.item c.in-Some.node c.in-Some.is c.in_default-row.not-Let c.in_default-row.not-Break c.in_default-row.not-Exception;
  names = other_names c.args.scene.now c.type_specification.new.scene c.args.item c.in-Some.node c.in-Some.is c.in_default-row.not-Let c.in_default-row.not-Break c.in_default-row.not-Exception;
  grows = other_grows c.args.item c.in-Some.node c.in-Some.is c.in_default-row.not-Let c.in_default-row.not-Break;
  specifies = c.type_specification.ensures.carries;
  goes = c.type_specification.ensures.goes;
}

pub type_items-loop-item-init : goal.type_items-loop-item-init
type_items-loop-item-init t c = record {
  goes = goes_refl c.args.at.now;
  gives = items_start c.args.at.now c.args.env.now c.new-scene.result (map operand_view c.args.items.now) (c.new-scene.ensures.env ∙ c.in_ok-share.ensures) c.new-scene.ensures.names;
}

pub type_items-loop-item-preserved : goal.type_items-loop-item-preserved
type_items-loop-item-preserved t c =
    let all = c.args.items.now in
    let i = c.loop-item.item-index in
    let lt : i < length all = let n = c.loop-item-test.true in omega arith in
    record {
      goes = goes_trans c.args.at.now c.loop-item.at c.type_item.new.at c.loop-item.invariant.goes c.type_item.ensures.goes;
      gives = items_next c.args.at.now c.loop-item.at c.type_item.new.at c.args.env.now c.loop-item.scene c.type_item.new.scene (map operand_view all) all i c.item-item.result lt c.item-item.is
          c.loop-item.invariant.goes c.loop-item.invariant.gives c.in_ok-type_item.ensures.carries;
    }

pub type_items-returns-clause-carries : goal.type_items-returns-clause-carries
type_items-returns-clause-carries t c =
    items_end c.args.at.now c.loop-item.at c.args.env.now c.loop-item.scene (map operand_view c.args.items.now) c.args.items.now c.loop-item.item-index c.loop-item-test.false c.loop-item.invariant.gives
