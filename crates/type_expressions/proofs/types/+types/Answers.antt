use Rattle.type_expressions.proofs.Untyped.{untyped_same, untyped_then, store_untyped, noted_untyped, plain_untyped, ok_any, ok_then}
use Rattle.typing_state.proofs.Recording.{record_stays_in, record_still}
use Rattle.std.proofs.Common.{◌≡◌, ◌∙◌, ◌<◌, length, map, refl, sym, ap, subst, arith}
use Rattle.std.proofs.lemmas.List.{drop_all}
use Rattle.std.specs.Prelude.{Some, None, option_map}
use Rattle.std.proofs.lemmas.Result.{IfOk-weaker}
use Rattle.syntax_tree.specs.View.{place_of, node_view}
use Rattle.row_parts.specs.Numbered.{operand_view, part_of}
use Rattle.type_nodes.specs.Views.{numbers}
use Rattle.typing_rows.specs.TypeContracts.{ReadsFirst}
use Rattle.typing_rows.specs.Rows.{types_read}
use Rattle.typing_rows.specs.Operands.{ReadsPart, ReadsOperands, ReadsGiven, EndsRow}
use Rattle.typing_rows.proofs.TypeOrdered.{none_read, all_read}
use Rattle.type_expressions.proofs.Carrying.{operand_reads, missing_reads, node_reads, app_front, other_front, alone_reads, several_reads, each_read, app_row, not_app_row}
use Rattle.type_expressions.specs.Operands.{several}
use Rattle.typing_state.proofs.Going.{goes_refl, goes_trans}
use Rattle.typing_rows.specs.DeclaredContracts.{SettlesFirst}
use Rattle.typing_rows.specs.DeclaredOperands.{SettlesOperands, SettlesGiven, SettlesRow}
use Rattle.typing_rows.proofs.DeclaredOrdered.{none_settled, all_settled}
use Rattle.type_expressions.proofs.Settling as settled
use Rattle.type_reading.proofs.Answering.{on_ok}
use Rattle.typing_rows.specs.Treating.{TreatsOperands, TreatsGiven, TreatsFirst}
use Rattle.typing_rows.proofs.Treating.{none_first, all_treated}
use Rattle.type_expressions.proofs.Treating as treated
use Rattle.declared_rows.specs.Contracts.{DenotesFirst}
use Rattle.declared_rows.specs.Operands.{DenotesPart, DenotesOperands, DenotesGiven, DenotesEnds}
use Rattle.declared_rows.proofs.Ordered.{none_denoted, all_denoted}
use Rattle.type_expressions.proofs.Denoting as denoted
use Rattle.type_expressions.proofs.types.+types.Goals as goal

pub read_each-loop-part-preserved : goal.read_each-loop-part-preserved
read_each-loop-part-preserved t c =
    let all = c.args.parts.now in
    let i = c.loop-part.part-index in
    let x = c.part-item.result in
    let lt : i < length all = let n = c.loop-part-test.true in omega arith in
    record {
      goes = goes_trans c.args.at.now c.loop-part.at c.read_type.new.at c.loop-part.invariant.goes c.read_type.ensures.goes;
      untyped = untyped_then c.loop-part.invariant.untyped c.in_ok-ty.ensures.untyped;
      treats = λ operands. treated.each_treats c.args.at.now c.loop-part.at c.read_type.new.at c.args.env.now all i x lt c.part-item.is operands (c.loop-part.invariant.treats operands) c.loop-part.invariant.goes c.read_type.ensures.goes c.in_ok-ty.ensures.treats;
      reads = λ item operands. each_read c.args.at.now c.loop-part.at c.read_type.new.at c.args.env.now all i x c.loop-part.types.items c.push.new.list.items c.in_ok-ty.ty lt c.part-item.is c.in_ok-push.ensures.pushed operands
          (c.loop-part.invariant.reads item operands) c.loop-part.invariant.goes (c.in_ok-ty.ensures.carries item);
      settles = λ names over operands. settled.each_settles c.args.at.now c.loop-part.at c.read_type.new.at c.args.env.now names all i x c.loop-part.types.items c.push.new.list.items c.in_ok-ty.ty lt c.part-item.is c.in_ok-push.ensures.pushed operands
          (c.loop-part.invariant.settles names over operands) c.loop-part.invariant.goes (c.in_ok-ty.ensures.settles names over);
      means = λ names ps over nodes operands. denoted.each_denotes c.args.at.now c.loop-part.at c.read_type.new.at c.args.env.now names ps all i x c.loop-part.types.items c.push.new.list.items c.in_ok-ty.ty lt c.part-item.is c.in_ok-push.ensures.pushed operands
          (c.loop-part.invariant.means names ps over nodes operands) c.loop-part.invariant.goes (c.in_ok-ty.ensures.means names ps over nodes);
    }

pub read_each-loop-part-init : goal.read_each-loop-part-init
read_each-loop-part-init t c = record {
  goes = goes_refl c.args.at.now;
  untyped = untyped_same c.args.at.now;
  treats = λ operands. none_first c.args.at.now c.args.env.now (types_read c.args.at.now.item (map operand_view c.args.parts.now));
  reads = λ item operands.
      let all = types_read c.args.at.now.item (map operand_view c.args.parts.now) in
      subst (λ ns. ReadsFirst c.args.at.now c.args.at.now c.args.env.now all all (numbers ns)) (sym c.new-types.ensures.items) (none_read c.args.at.now c.args.env.now all);
  settles = λ names over operands.
      let all = types_read c.args.at.now.item (map operand_view c.args.parts.now) in
      subst (λ ns. SettlesFirst c.args.at.now c.args.at.now c.args.env.now names all all (numbers ns)) (sym c.new-types.ensures.items) (none_settled c.args.at.now c.args.env.now names all);
  means = λ names ps over nodes operands.
      let all = types_read c.args.at.now.item (map operand_view c.args.parts.now) in
      subst (λ ns. DenotesFirst c.args.at.now c.args.at.now c.args.env.now names ps all all (numbers ns)) (sym c.new-types.ensures.items) (none_denoted c.args.at.now c.args.env.now names ps all);
}

pub read_each-returns-clause-carries : goal.read_each-returns-clause-carries
read_each-returns-clause-carries t c = λ item operands.
    let all = c.args.parts.now in
    let none = drop_all c.loop-part.part-index all c.loop-part-test.false in
    all_read c.args.at.now c.loop-part.at c.args.env.now (types_read c.args.at.now.item (map operand_view all)) (numbers c.loop-part.types.items)
    (subst (λ os. ReadsFirst c.args.at.now c.loop-part.at c.args.env.now (types_read c.args.at.now.item (map operand_view all)) (types_read c.args.at.now.item (map operand_view os)) (numbers c.loop-part.types.items)) none (c.loop-part.invariant.reads item operands))

pub read_type-returns-clause-carries : goal.read_type-returns-clause-carries
read_type-returns-clause-carries t c = λ item.
    operand_reads c.args.at.now c.read_row.new.at c.note.new.self c.args.env.now c.args.ty c.in_ok-read.read.ty.0 (record { env = c.args.env.now; ty = None; names = c.in_ok-read.read.names }) c.read_row.ensures.goes (c.in_ok-read.ensures.carries item) refl refl c.in_ok-note.ensures.noted c.note.ensures.rest

pub read_row-returns-in_ok-any-in-None-clause-carries : goal.read_row-returns-in_ok-any-in-None-clause-carries
read_row-returns-in_ok-any-in-None-clause-carries t c = λ item.
    subst (λ x. ReadsPart c.args.at.now c.unresolved.new.at c.args.env.now c.args.ty.number (place_of c.args.ty.span) (part_of c.args.ty.node c.args.ty.span) x.0) (sym c.unnamed.ensures)
    (missing_reads c.args.at.now c.unresolved.new.at c.args.env.now c.args.ty c.in_ok-any-in-None.any.0 c.in-None.is (c.in_ok-any-in-None.ensures.any item) c.unresolved.ensures.rest)

pub read_row-returns-in_ok-types-in-Some-clause-carries : goal.read_row-returns-in_ok-types-in-Some-clause-carries
read_row-returns-in_ok-types-in-Some-clause-carries t c =
    IfOk-weaker c.formed.result _ _ (λ r ends item.
    node_reads c.args.at.now c.read_parts.new.at c.formed.new.at c.args.env.now c.args.ty c.in-Some.node (numbers c.in_ok-types-in-Some.types.items) r.ty.0 c.in-Some.is (c.in_ok-types-in-Some.ensures.carries item) c.read_parts.ensures.goes
    (subst (λ ts. EndsRow c.read_parts.new.at c.formed.new.at c.args.env.now (node_view c.in-Some.node.now) (numbers ts) r.ty.0) c.deref.ensures.value (ends item))) c.formed.ensures.carries

pub read_given-returns-in_ok-note_plain-in-Some-clause-carries : goal.read_given-returns-in_ok-note_plain-in-Some-clause-carries
read_given-returns-in_ok-note_plain-in-Some-clause-carries t c =
    let items = c.in-Some.several.items in
    let some : several (operand_view c.args.left) ≡ Some (map operand_view items) = sym c.in_ok-several.ensures ∙ ap (λ o. option_map (λ os. map operand_view os.items) o) c.in-Some.is in
    IfOk-weaker c.read_each.result _ _ (λ ms reads item.
    several_reads c.args.at.now c.note_plain.new.self c.read_each.new.at c.args.env.now (operand_view c.args.left) (map operand_view items) (numbers ms.items) some c.in_ok-note_plain-in-Some.ensures.noted c.note_plain.ensures.rest c.note_plain.ensures.goes
    (subst (λ os. ReadsOperands c.note_plain.new.self c.read_each.new.at c.args.env.now (map operand_view os) (numbers ms.items)) c.deref.ensures.value (reads item))) c.read_each.ensures.carries

pub read_given-returns-in_ok-ty-in-None-clause-carries : goal.read_given-returns-in_ok-ty-in-None-clause-carries
read_given-returns-in_ok-ty-in-None-clause-carries t c =
    let none : several (operand_view c.args.left) ≡ None = sym c.in_ok-several.ensures ∙ ap (λ o. option_map (λ os. map operand_view os.items) o) c.in-None.is in
    IfOk-weaker c.one_of.result _ _ (λ ms is item.
    subst (λ xs. ReadsGiven c.args.at.now c.read_type.new.at c.args.env.now (operand_view c.args.left) (numbers xs)) (sym is)
    (alone_reads c.args.at.now c.read_type.new.at c.args.env.now (operand_view c.args.left) c.in_ok-ty-in-None.ty.0 none (c.in_ok-ty-in-None.ensures.carries item))) c.one_of.ensures

pub read_parts-returns-in-Tapp-clause-carries : goal.read_parts-returns-in-Tapp-clause-carries
read_parts-returns-in-Tapp-clause-carries t c =
    IfOk-weaker c.read_given.result _ _ (λ ms reads item.
    app_front c.args.at.now c.read_given.new.at c.args.env.now c.args.number (node_view c.args.node.now) (numbers ms.items) (app_row c.args.node.now c.in-Tapp.is)
    (subst (λ o. ReadsGiven c.args.at.now c.read_given.new.at c.args.env.now o (numbers ms.items)) c.operand_in.ensures (reads item))) c.read_given.ensures.carries

pub read_parts-returns-in_ok-parts-in_default : goal.read_parts-returns-in_ok-parts-in_default
read_parts-returns-in_ok-parts-in_default t c =
    record {
      carries = IfOk-weaker c.read_each.result _ _ (λ ms reads item.
          other_front c.args.at.now c.read_each.new.at c.args.env.now c.args.number (node_view c.args.node.now) (numbers ms.items) (not_app_row c.args.node.now c.in_default.not-Tapp)
          (subst (λ os. ReadsOperands c.args.at.now c.read_each.new.at c.args.env.now os (numbers ms.items)) (ap (map operand_view) c.deref.ensures.value ∙ c.in_ok-parts-in_default.ensures) (reads item))) c.read_each.ensures.carries;
      settles = IfOk-weaker c.read_each.result _ _ (λ ms reads names over.
          settled.other_settles c.args.at.now c.read_each.new.at c.args.env.now names c.args.number (node_view c.args.node.now) (numbers ms.items) (not_app_row c.args.node.now c.in_default.not-Tapp)
          (subst (λ os. SettlesOperands c.args.at.now c.read_each.new.at c.args.env.now names os (numbers ms.items)) (ap (map operand_view) c.deref.ensures.value ∙ c.in_ok-parts-in_default.ensures) (reads names over))) c.read_each.ensures.settles;
      means = IfOk-weaker c.read_each.result _ _ (λ ms reads names ps over nodes.
          denoted.other_denotes c.args.at.now c.read_each.new.at c.args.env.now names ps c.args.number (node_view c.args.node.now) (numbers ms.items) (not_app_row c.args.node.now c.in_default.not-Tapp)
          (subst (λ os. DenotesOperands c.args.at.now c.read_each.new.at c.args.env.now names ps os (numbers ms.items)) (ap (map operand_view) c.deref.ensures.value ∙ c.in_ok-parts-in_default.ensures) (reads names ps over nodes))) c.read_each.ensures.means;
      treats = on_ok c.read_each.result (λ reads.
          treated.other_treats c.args.at.now c.read_each.new.at c.args.env.now c.args.number (node_view c.args.node.now) (not_app_row c.args.node.now c.in_default.not-Tapp)
          (subst (TreatsOperands c.args.at.now c.read_each.new.at c.args.env.now) (ap (map operand_view) c.deref.ensures.value ∙ c.in_ok-parts-in_default.ensures) reads)) c.read_each.ensures.treats;
      untyped = c.read_each.ensures.untyped;
      goes = c.read_each.ensures.goes;
    }

pub read_type-returns-clause-recorded : goal.read_type-returns-clause-recorded
read_type-returns-clause-recorded t c = c.in_ok-note.ensures.recorded

pub read_given-returns-in_ok-note_plain-in-Some-clause-recorded : goal.read_given-returns-in_ok-note_plain-in-Some-clause-recorded
read_given-returns-in_ok-note_plain-in-Some-clause-recorded t c = record_stays_in c.read_each.result c.args.left.number c.note_plain.new.self c.read_each.new.at c.read_each.ensures.goes c.in_ok-note_plain-in-Some.ensures.recorded

pub read_given-returns-in_ok-ty-in-None-clause-recorded : goal.read_given-returns-in_ok-ty-in-None-clause-recorded
read_given-returns-in_ok-ty-in-None-clause-recorded t c = record_still c.one_of.result c.args.left.number c.read_type.new.at c.in_ok-ty-in-None.ensures.recorded

pub read_each-returns-clause-settles : goal.read_each-returns-clause-settles
read_each-returns-clause-settles t c = λ names over operands.
    let all = c.args.parts.now in
    let none = drop_all c.loop-part.part-index all c.loop-part-test.false in
    all_settled c.args.at.now c.loop-part.at c.args.env.now names (types_read c.args.at.now.item (map operand_view all)) (numbers c.loop-part.types.items)
    (subst (λ os. SettlesFirst c.args.at.now c.loop-part.at c.args.env.now names (types_read c.args.at.now.item (map operand_view all)) (types_read c.args.at.now.item (map operand_view os)) (numbers c.loop-part.types.items)) none (c.loop-part.invariant.settles names over operands))

pub read_type-returns-clause-settles : goal.read_type-returns-clause-settles
read_type-returns-clause-settles t c = λ names over. settled.operand_settles c.args.at.now c.read_row.new.at c.note.new.self c.args.env.now names c.args.ty (c.in_ok-read.ensures.settles names over) c.note.ensures.rest

pub read_row-returns-in_ok-any-in-None-clause-settles : goal.read_row-returns-in_ok-any-in-None-clause-settles
read_row-returns-in_ok-any-in-None-clause-settles t c = λ names over. settled.missing_settles c.args.at.now c.unresolved.new.at c.args.env.now names c.args.ty c.in-None.is c.unresolved.ensures.silent

pub read_row-returns-in_ok-types-in-Some-clause-settles : goal.read_row-returns-in_ok-types-in-Some-clause-settles
read_row-returns-in_ok-types-in-Some-clause-settles t c =
    IfOk-weaker c.formed.result _ _ (λ r ends names over.
    settled.node_settles c.args.at.now c.read_parts.new.at c.formed.new.at c.args.env.now names c.args.ty c.in-Some.node (numbers c.in_ok-types-in-Some.types.items) c.in-Some.is (c.in_ok-types-in-Some.ensures.settles names over) c.read_parts.ensures.goes
    (subst (λ ts. SettlesRow c.read_parts.new.at c.formed.new.at c.args.env.now names (node_view c.in-Some.node.now) (numbers ts)) c.deref.ensures.value (ends names over))) c.formed.ensures.settles

pub read_given-returns-in_ok-note_plain-in-Some-clause-settles : goal.read_given-returns-in_ok-note_plain-in-Some-clause-settles
read_given-returns-in_ok-note_plain-in-Some-clause-settles t c =
    let items = c.in-Some.several.items in
    let some : several (operand_view c.args.left) ≡ Some (map operand_view items) = sym c.in_ok-several.ensures ∙ ap (λ o. option_map (λ os. map operand_view os.items) o) c.in-Some.is in
    IfOk-weaker c.read_each.result _ _ (λ ms reads names over.
    settled.several_settles c.args.at.now c.note_plain.new.self c.read_each.new.at c.args.env.now names (operand_view c.args.left) (map operand_view items) (numbers ms.items) some c.note_plain.ensures.rest c.note_plain.ensures.goes
    (subst (λ os. SettlesOperands c.note_plain.new.self c.read_each.new.at c.args.env.now names (map operand_view os) (numbers ms.items)) c.deref.ensures.value (reads names over))) c.read_each.ensures.settles

pub read_given-returns-in_ok-ty-in-None-clause-settles : goal.read_given-returns-in_ok-ty-in-None-clause-settles
read_given-returns-in_ok-ty-in-None-clause-settles t c =
    let none : several (operand_view c.args.left) ≡ None = sym c.in_ok-several.ensures ∙ ap (λ o. option_map (λ os. map operand_view os.items) o) c.in-None.is in
    IfOk-weaker c.one_of.result _ _ (λ ms is names over.
    subst (λ xs. SettlesGiven c.args.at.now c.read_type.new.at c.args.env.now names (operand_view c.args.left) (numbers xs)) (sym is)
    (settled.alone_settles c.args.at.now c.read_type.new.at c.args.env.now names (operand_view c.args.left) c.in_ok-ty-in-None.ty.0 none (c.in_ok-ty-in-None.ensures.settles names over))) c.one_of.ensures

pub read_parts-returns-in-Tapp-clause-settles : goal.read_parts-returns-in-Tapp-clause-settles
read_parts-returns-in-Tapp-clause-settles t c =
    IfOk-weaker c.read_given.result _ _ (λ ms reads names over.
    settled.app_settles c.args.at.now c.read_given.new.at c.args.env.now names c.args.number (node_view c.args.node.now) (numbers ms.items) (app_row c.args.node.now c.in-Tapp.is)
    (subst (λ o. SettlesGiven c.args.at.now c.read_given.new.at c.args.env.now names o (numbers ms.items)) c.operand_in.ensures (reads names over))) c.read_given.ensures.settles

pub read_each-returns-clause-means : goal.read_each-returns-clause-means
read_each-returns-clause-means t c = λ names ps over nodes operands.
    let all = c.args.parts.now in
    let none = drop_all c.loop-part.part-index all c.loop-part-test.false in
    all_denoted c.args.at.now c.loop-part.at c.args.env.now names ps (types_read c.args.at.now.item (map operand_view all)) (numbers c.loop-part.types.items)
    (subst (λ os. DenotesFirst c.args.at.now c.loop-part.at c.args.env.now names ps (types_read c.args.at.now.item (map operand_view all)) (types_read c.args.at.now.item (map operand_view os)) (numbers c.loop-part.types.items)) none (c.loop-part.invariant.means names ps over nodes operands))

pub read_type-returns-clause-means : goal.read_type-returns-clause-means
read_type-returns-clause-means t c = λ names ps over nodes.
    denoted.operand_denotes c.args.at.now c.read_row.new.at c.note.new.self c.args.env.now names ps c.args.ty c.in_ok-read.read.ty.0 (record { env = c.args.env.now; ty = None; names = c.in_ok-read.read.names }) c.small-number.ensures (c.in_ok-read.ensures.means names ps over nodes) c.read_row.ensures.goes c.in_ok-note.ensures.noted c.note.ensures.rest c.note.ensures.goes

pub read_row-returns-in_ok-any-in-None-clause-means : goal.read_row-returns-in_ok-any-in-None-clause-means
read_row-returns-in_ok-any-in-None-clause-means t c = λ names ps over nodes.
    subst (λ x. DenotesPart c.args.at.now c.unresolved.new.at c.args.env.now names ps c.args.ty.number (place_of c.args.ty.span) (part_of c.args.ty.node c.args.ty.span) x.0) (sym c.unnamed.ensures)
    (denoted.missing_denotes c.args.at.now c.unresolved.new.at c.args.env.now names ps c.args.ty c.in_ok-any-in-None.any.0 c.in-None.is (c.in_ok-any-in-None.ensures.unknown names over) c.unresolved.ensures.goes)

pub read_row-returns-in_ok-types-in-Some-clause-means : goal.read_row-returns-in_ok-types-in-Some-clause-means
read_row-returns-in_ok-types-in-Some-clause-means t c =
    IfOk-weaker c.formed.result _ _ (λ r ends names ps over nodes.
    denoted.node_denotes c.args.at.now c.read_parts.new.at c.formed.new.at c.args.env.now names ps c.args.ty c.in-Some.node (numbers c.in_ok-types-in-Some.types.items) r.ty.0 c.in-Some.is (c.in_ok-types-in-Some.ensures.means names ps over nodes) c.read_parts.ensures.goes
    (subst (λ ts. DenotesEnds c.read_parts.new.at c.formed.new.at c.args.env.now names ps (node_view c.in-Some.node.now) (numbers ts) r.ty.0) c.deref.ensures.value (ends names ps over nodes)) c.formed.ensures.goes) c.formed.ensures.means

pub read_given-returns-in_ok-note_plain-in-Some-clause-means : goal.read_given-returns-in_ok-note_plain-in-Some-clause-means
read_given-returns-in_ok-note_plain-in-Some-clause-means t c =
    let items = c.in-Some.several.items in
    let some : several (operand_view c.args.left) ≡ Some (map operand_view items) = sym c.in_ok-several.ensures ∙ ap (λ o. option_map (λ os. map operand_view os.items) o) c.in-Some.is in
    IfOk-weaker c.read_each.result _ _ (λ ms reads names ps over nodes.
    denoted.several_denotes c.args.at.now c.note_plain.new.self c.read_each.new.at c.args.env.now names ps (operand_view c.args.left) (map operand_view items) (numbers ms.items) some c.note_plain.ensures.rest c.note_plain.ensures.goes
    (subst (λ os. DenotesOperands c.note_plain.new.self c.read_each.new.at c.args.env.now names ps (map operand_view os) (numbers ms.items)) c.deref.ensures.value (reads names ps over nodes))) c.read_each.ensures.means

pub read_given-returns-in_ok-ty-in-None-clause-means : goal.read_given-returns-in_ok-ty-in-None-clause-means
read_given-returns-in_ok-ty-in-None-clause-means t c =
    let none : several (operand_view c.args.left) ≡ None = sym c.in_ok-several.ensures ∙ ap (λ o. option_map (λ os. map operand_view os.items) o) c.in-None.is in
    IfOk-weaker c.one_of.result _ _ (λ ms is names ps over nodes.
    subst (λ xs. DenotesGiven c.args.at.now c.read_type.new.at c.args.env.now names ps (operand_view c.args.left) (numbers xs)) (sym is)
    (denoted.alone_denotes c.args.at.now c.read_type.new.at c.args.env.now names ps (operand_view c.args.left) c.in_ok-ty-in-None.ty.0 none (c.in_ok-ty-in-None.ensures.means names ps over nodes))) c.one_of.ensures

pub read_parts-returns-in-Tapp-clause-means : goal.read_parts-returns-in-Tapp-clause-means
read_parts-returns-in-Tapp-clause-means t c =
    IfOk-weaker c.read_given.result _ _ (λ ms reads names ps over nodes.
    denoted.app_denotes c.args.at.now c.read_given.new.at c.args.env.now names ps c.args.number (node_view c.args.node.now) (numbers ms.items) (app_row c.args.node.now c.in-Tapp.is)
    (subst (λ o. DenotesGiven c.args.at.now c.read_given.new.at c.args.env.now names ps o (numbers ms.items)) c.operand_in.ensures (reads names ps over nodes))) c.read_given.ensures.means

pub read_type-returns-clause-untyped : goal.read_type-returns-clause-untyped
read_type-returns-clause-untyped t c = untyped_then c.in_ok-read.ensures.untyped (noted_untyped c.read_row.new.at c.note.new.self c.args.ty.number (record { env = c.args.env.now; ty = None; names = c.in_ok-read.read.names }) refl c.in_ok-note.ensures.noted c.note.ensures.rest)

pub read_row-returns-in_ok-any-in-None-clause-untyped : goal.read_row-returns-in_ok-any-in-None-clause-untyped
read_row-returns-in_ok-any-in-None-clause-untyped t c = store_untyped c.args.at.now c.unresolved.new.at c.unresolved.ensures.rest

pub read_row-returns-in_ok-types-in-Some-clause-untyped : goal.read_row-returns-in_ok-types-in-Some-clause-untyped
read_row-returns-in_ok-types-in-Some-clause-untyped t c = ok_then c.formed.result c.args.at.now c.read_parts.new.at c.formed.new.at c.in_ok-types-in-Some.ensures.untyped c.formed.ensures.untyped

pub read_parts-returns-in-Tapp-clause-untyped : goal.read_parts-returns-in-Tapp-clause-untyped
read_parts-returns-in-Tapp-clause-untyped t c = c.read_given.ensures.untyped

pub read_given-returns-in_ok-note_plain-in-Some-clause-untyped : goal.read_given-returns-in_ok-note_plain-in-Some-clause-untyped
read_given-returns-in_ok-note_plain-in-Some-clause-untyped t c = ok_then c.read_each.result c.args.at.now c.note_plain.new.self c.read_each.new.at (plain_untyped c.args.at.now c.note_plain.new.self c.args.left.number c.args.env.now c.in_ok-note_plain-in-Some.ensures.noted c.note_plain.ensures.rest) c.read_each.ensures.untyped

pub read_given-returns-in_ok-ty-in-None-clause-untyped : goal.read_given-returns-in_ok-ty-in-None-clause-untyped
read_given-returns-in_ok-ty-in-None-clause-untyped t c = ok_any c.one_of.result _ c.in_ok-ty-in-None.ensures.untyped

pub read_each-returns-clause-untyped : goal.read_each-returns-clause-untyped
read_each-returns-clause-untyped t c = c.loop-part.invariant.untyped

pub read_type-returns-clause-treats : goal.read_type-returns-clause-treats
read_type-returns-clause-treats t c =
    treated.operand_treats c.args.at.now c.read_row.new.at c.note.new.self c.args.env.now c.args.ty (record { env = c.args.env.now; ty = None; names = c.in_ok-read.read.names }) c.read_row.ensures.goes c.in_ok-read.ensures.treats refl c.in_ok-note.ensures.noted c.note.ensures.goes

pub read_row-returns-in_ok-any-in-None-clause-treats : goal.read_row-returns-in_ok-any-in-None-clause-treats
read_row-returns-in_ok-any-in-None-clause-treats t c = treated.missing_treats c.args.at.now c.unresolved.new.at c.args.env.now c.args.ty c.in-None.is

pub read_row-returns-in_ok-types-in-Some-clause-treats : goal.read_row-returns-in_ok-types-in-Some-clause-treats
read_row-returns-in_ok-types-in-Some-clause-treats t c =
    ok_any c.formed.result _ (treated.node_treats c.args.at.now c.read_parts.new.at c.formed.new.at c.args.env.now c.args.ty c.in-Some.node c.in-Some.is c.in_ok-types-in-Some.ensures.treats c.formed.ensures.goes)

pub read_parts-returns-in-Tapp-clause-treats : goal.read_parts-returns-in-Tapp-clause-treats
read_parts-returns-in-Tapp-clause-treats t c =
    on_ok c.read_given.result (λ reads. treated.app_treats c.args.at.now c.read_given.new.at c.args.env.now c.args.number (node_view c.args.node.now) (app_row c.args.node.now c.in-Tapp.is)
    (subst (TreatsGiven c.args.at.now c.read_given.new.at c.args.env.now) c.operand_in.ensures reads)) c.read_given.ensures.treats

pub read_given-returns-in_ok-note_plain-in-Some-clause-treats : goal.read_given-returns-in_ok-note_plain-in-Some-clause-treats
read_given-returns-in_ok-note_plain-in-Some-clause-treats t c =
    let items = c.in-Some.several.items in
    let some : several (operand_view c.args.left) ≡ Some (map operand_view items) = sym c.in_ok-several.ensures ∙ ap (λ o. option_map (λ os. map operand_view os.items) o) c.in-Some.is in
    on_ok c.read_each.result (λ reads.
    treated.several_treats c.args.at.now c.note_plain.new.self c.read_each.new.at c.args.env.now (operand_view c.args.left) (map operand_view items) some c.in_ok-note_plain-in-Some.ensures.noted c.note_plain.ensures.goes
    (subst (λ os. TreatsOperands c.note_plain.new.self c.read_each.new.at c.args.env.now (map operand_view os)) c.deref.ensures.value reads) c.read_each.ensures.goes) c.read_each.ensures.treats

pub read_given-returns-in_ok-ty-in-None-clause-treats : goal.read_given-returns-in_ok-ty-in-None-clause-treats
read_given-returns-in_ok-ty-in-None-clause-treats t c =
    let none : several (operand_view c.args.left) ≡ None = sym c.in_ok-several.ensures ∙ ap (λ o. option_map (λ os. map operand_view os.items) o) c.in-None.is in
    ok_any c.one_of.result _ (treated.alone_treats c.args.at.now c.read_type.new.at c.args.env.now (operand_view c.args.left) none c.in_ok-ty-in-None.ensures.treats)

pub read_each-returns-clause-treats : goal.read_each-returns-clause-treats
read_each-returns-clause-treats t c = λ operands.
    let all = c.args.parts.now in
    let none = drop_all c.loop-part.part-index all c.loop-part-test.false in
    all_treated c.args.at.now c.loop-part.at c.args.env.now (types_read c.args.at.now.item (map operand_view all))
    (subst (λ os. TreatsFirst c.args.at.now c.loop-part.at c.args.env.now (types_read c.args.at.now.item (map operand_view all)) (types_read c.args.at.now.item (map operand_view os))) none (c.loop-part.invariant.treats operands))
