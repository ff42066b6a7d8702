use Rattle.std.proofs.Common.{◌+◌, false, drop, subst, sym, refl, List}
use Rattle.std.specs.Prelude.{All}
use Rattle.std.proofs.lemmas.List.{drop_all, drop_more}
use Rattle.std.proofs.lemmas.List.Elements.{All-cons, All-nil}
use Rattle.type_terms.specs.declared.types.NodeRef.{NodeRef}
use Rattle.type_nodes.specs.Nodes.{IsNode}
use Rattle.type_nodes.specs.Views.{numbers}
use Rattle.typing_state.proofs.Listed.{number_at, untrue}
use Rattle.typing_state.proofs.nodes.are_nodes.Goals as goal

pub loop-n-preserved : goal.loop-n-preserved
loop-n-preserved c = λ rest.
    let P = IsNode c.args.store.now.nodes in
    c.loop-n.invariant
    (subst (λ (ns : List NodeRef). All P (numbers ns)) (sym (drop_more c.args.nodes.now c.loop-n.n-index _ c.loop-n-test.true))
    (All-cons P _ (numbers (drop (c.loop-n.n-index + 1) c.args.nodes.now)) (c.is_node.ensures.0 c.if-not-is_node.false) rest))

pub returns-then-not-is_node : goal.returns-then-not-is_node
returns-then-not-is_node c = (
  λ t. absurd (untrue false refl t),
  λ all. absurd (untrue c.is_node.result c.if-not-is_node.true (c.is_node.ensures.1 (number_at (IsNode c.args.store.now.nodes) c.args.nodes.now c.loop-n.n-index _ all c.loop-n-test.true))),
)

pub returns : goal.returns
returns c =
    let P = IsNode c.args.store.now.nodes in (
      λ is. c.loop-n.invariant (subst (λ (ns : List NodeRef). All P (numbers ns)) (sym (drop_all c.loop-n.n-index c.args.nodes.now c.loop-n-test.false)) (All-nil P)),
      λ all. refl,
    )
