use Rattle.std.proofs.Common.{◌≡◌, ◌∙◌, true, false, refl, sym, ap}
use Rattle.std.proofs.lemmas.Bool.{eqb-true}
use Rattle.type_expressions.proofs.Roots.{root_told, other_more, same_there, none_of_all}
use Rattle.type_expressions.proofs.unknowns.is_root_of_none.Goals as goal

pub loop-node-preserved : goal.loop-node-preserved
loop-node-preserved c =
    let nodes = c.args.at.now.store.nodes in
    other_more nodes c.args.nodes.now c.args.root.0 c.loop-node.node-index c.root.result.0 c.loop-node-test.true (root_told nodes _ c.root.result.0 (λ h. c.root.ensures.node h) (λ h. ap (λ n. n.0) (c.root.ensures.otherwise h))) (sym c.eq.ensures ∙ c.if-eq.false) c.loop-node.invariant

pub returns-then-eq : goal.returns-then-eq
returns-then-eq c =
    let nodes = c.args.at.now.store.nodes in (
      λ h. absurd (let e : false ≡ true = h in cc),
      λ none. absurd (same_there nodes c.args.nodes.now c.args.root.0 c.loop-node.node-index c.root.result.0 c.loop-node-test.true (root_told nodes _ c.root.result.0 (λ h. c.root.ensures.node h) (λ h. ap (λ n. n.0) (c.root.ensures.otherwise h))) (eqb-true c.root.result.0 c.args.root.0 (sym c.eq.ensures ∙ c.if-eq.true)) none),
    )

pub returns : goal.returns
returns c = (λ h. none_of_all c.args.at.now.store.nodes c.args.nodes.now c.args.root.0 c.loop-node.node-index c.loop-node-test.false c.loop-node.invariant, λ none. refl)
