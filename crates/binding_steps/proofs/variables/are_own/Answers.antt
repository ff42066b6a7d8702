use Rattle.std.proofs.Common.{◌≡◌, ◌∙◌, true, false, refl, sym, ap}
use Rattle.std.specs.Map.Iter.{deref}
use Rattle.std.specs.HashMap.{keys}
use Rattle.std.proofs.lemmas.Map.Iter.{rest_more, rest_all}
use Rattle.tree_model.specs.Trees.{yield_of}
use Rattle.syntax_tree.specs.View.{node_view}
use Rattle.binding_steps.specs.Variables.{has}
use Rattle.binding_steps.proofs.VariableLaws.{began_empty, in_start, in_more, in_end, all_own, one_strange}
use Rattle.binding_steps.proofs.variables.are_own.Goals as goal

pub loop-name-init : goal.loop-name-init
loop-name-init c = in_start c.add_node.new.names (keys c.args.variables.now) _ (c.into_iter-name-iterator.ensures.into_iter_gives ∙ c.keys-name-items.ensures.rest)

pub loop-name-preserved : goal.loop-name-preserved
loop-name-preserved c =
    let names = c.add_node.new.names in
    in_more names (keys c.args.variables.now) c.loop-name.name-iterator c.next.new.self c.in-Some.name.now (rest_more deref c.loop-name.name-iterator c.next.new.self c.next.result c.in-Some.name c.in-Some.is c.next.ensures.steps) c.loop-name.invariant
    (ap (has names) (sym c.as_str.ensures.value) ∙ sym c.contains.ensures ∙ c.if-not-contains.false)

pub returns-then-not-contains : goal.returns-then-not-contains
returns-then-not-contains c =
    let names = c.add_node.new.names in
    let ts = yield_of (node_view c.args.item.now) in (
      λ e. (let f : false ≡ true = e in cc),
      λ own. absurd (one_strange names c.args.variables.now ts c.loop-name.name-iterator c.next.new.self c.in-Some.name.now (began_empty c.new-names.result names ts c.new-names.ensures.empty c.in_ok-add_node.ensures)
          (rest_more deref c.loop-name.name-iterator c.next.new.self c.next.result c.in-Some.name c.in-Some.is c.next.ensures.steps) c.loop-name.invariant (ap (has names) (sym c.as_str.ensures.value) ∙ sym c.contains.ensures ∙ c.if-not-contains.true) own),
    )

pub returns : goal.returns
returns c =
    let names = c.add_node.new.names in
    let ts = yield_of (node_view c.args.item.now) in (
      λ e. all_own names c.args.variables.now ts (began_empty c.new-names.result names ts c.new-names.ensures.empty c.in_ok-add_node.ensures)
          (in_end names (keys c.args.variables.now) c.loop-name.name-iterator (rest_all deref c.loop-name.name-iterator c.next.new.self c.next.result c.in-None.is c.next.ensures.steps) c.loop-name.invariant),
      λ own. refl,
    )
