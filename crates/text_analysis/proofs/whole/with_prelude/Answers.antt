use Rattle.std.proofs.Common.{◌≡◌, ◌∙◌, ◌+◌, ◌<◌, ◌∷◌, length, map, drop, sym, ap, arith}
use Rattle.std.proofs.lemmas.List.{drop_more, drop_all}
use Rattle.std.proofs.lemmas.Result.{IfOk-weaker}
use Rattle.tree_model.specs.Extents.{extent_of}
use Rattle.syntax_tree.specs.declared.tree.Node.{out-Node}
use Rattle.syntax_tree.specs.View.{node_view}
use Rattle.syntax_tree.proofs.Views.{node_view_parts}
use Rattle.row_parts.specs.Numbered.{behind, node_with, operand_view}
use Rattle.typing_state.proofs.Going.{goes_trans}
use Rattle.prelude_checks.proofs.Steps.{prelude_begins, prelude_next, prelude_ends, prelude_numbered, fresh_new}
use Rattle.text_analysis.proofs.whole.with_prelude.Goals as goal

pub loop-item-init : goal.loop-item-init
loop-item-init g c =
    let items = c.deref-item-items.result.now in
    prelude_begins c.args.at.now c.built_ins.new.at c.in_ok-env.env c.new-scene.result (map (λ n. node_view n.value) items) c.in_ok-env.ensures.outside c.in_ok-env.ensures.constants c.in_ok-env.ensures.index c.in_ok-env.ensures.faults c.built_ins.ensures.goes c.new-scene.ensures.env c.new-scene.ensures.names
    (λ ts lex. prelude_numbered (sym (c.in_ok-tree.ensures.tree ts lex) ∙ ap (map (λ n. node_view n.value)) (sym c.deref-item-items.ensures.value)))

pub loop-item-preserved : goal.loop-item-preserved
loop-item-preserved g c =
    let items = c.deref-item-items.result.now in
    let i = c.loop-item.item-index in
    let lt : i < length items = let n = c.loop-item-test.true in omega arith in
    let x = c.item-item.result in
    let t = node_view x.value in
    let cut : map (λ n. node_view n.value) (drop i items) ≡ t ∷ map (λ n. node_view n.value) (drop (i + 1) items) = ap (map (λ n. node_view n.value)) (drop_more items i x lt ∙ ap (λ o. o ∷ drop (i + 1) items) (sym c.item-item.is)) in
    let size : (out-Node c.deref-in-loop-item.result.now).size ≡ (extent_of t).size = ap (λ nd. (out-Node nd).size) c.deref-in-loop-item.ensures ∙ sym (ap (λ u. (extent_of u).size) (node_view_parts x.value)) in
    let operand : operand_view c.of.result ≡ node_with c.loop-item.number t = c.of.ensures ∙ ap (λ nd. node_with c.loop-item.number (node_view nd)) c.deref.ensures in
    prelude_next t c.saturating_add-number.result c.loop-item.invariant cut (c.saturating_add-number.ensures ∙ ap (behind c.loop-item.number) size) c.type_item.ensures.goes operand c.in_ok-type_item.ensures.specifies

pub returns-clause-outside : goal.returns-clause-outside
returns-clause-outside g c =
    IfOk-weaker c.of_prelude.result _ _ (λ names there new. prelude_ends c.loop-item.invariant (ap (map (λ n. node_view n.value)) (drop_all c.loop-item.item-index c.deref-item-items.result.now c.loop-item-test.false)) names there (fresh_new c.args.at.now new)) c.of_prelude.ensures

pub returns-clause-goes : goal.returns-clause-goes
returns-clause-goes g c = goes_trans c.args.at.now c.loop-item.invariant.begun c.loop-item.at c.loop-item.invariant.before c.loop-item.invariant.goes

pub returns-in_err-type_item-clause-goes : goal.returns-in_err-type_item-clause-goes
returns-in_err-type_item-clause-goes g c =
    goes_trans c.args.at.now c.loop-item.at c.type_item.new.at (goes_trans c.args.at.now c.loop-item.invariant.begun c.loop-item.at c.loop-item.invariant.before c.loop-item.invariant.goes) c.type_item.ensures.goes
