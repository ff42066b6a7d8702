use Rattle.std.proofs.Common.{◌≡◌, ◌+◌, ℕ, drop, subst, sym, ◌∙◌, List}
use Rattle.std.specs.Prelude.{All}
use Rattle.std.proofs.lemmas.List.{drop_all, drop_more}
use Rattle.std.proofs.lemmas.List.Elements.{All-cons, All-nil}
use Rattle.type_terms.specs.declared.types.NodeRef.{NodeRef}
use Rattle.type_nodes.specs.Nodes.{IsNode}
use Rattle.type_nodes.specs.Links.{root}
use Rattle.type_nodes.specs.Views.{numbers}
use Rattle.level_unify.specs.Copies.{table_of, image}
use Rattle.level_unify.proofs.Numbers.{number_at}
use Rattle.type_substitution.proofs.shapes.is_any_changed.Goals as goal

pub image_of-requires : goal.image_of-requires
image_of-requires c = number_at (IsNode c.args.store.now.nodes) c.args.nodes.now c.loop-node.node-index _ c.requires c.loop-node-test.true

pub root-requires : goal.root-requires
root-requires c = number_at (IsNode c.args.store.now.nodes) c.args.nodes.now c.loop-node.node-index _ c.requires c.loop-node-test.true

pub loop-node-preserved : goal.loop-node-preserved
loop-node-preserved c = λ rest.
    let nodes = c.args.store.now.nodes in
    let P : ℕ → Type 0 = λ p. image nodes (table_of c.args.copies.now) p ≡ root nodes p in
    c.loop-node.invariant
    (subst (λ (ns : List NodeRef). All P (numbers ns)) (sym (drop_more c.args.nodes.now c.loop-node.node-index _ c.loop-node-test.true))
    (All-cons P _ (numbers (drop (c.loop-node.node-index + 1) c.args.nodes.now)) (sym c.image_of.ensures.image ∙ c.if-image_of-root.false ∙ c.root.ensures.root) rest))

pub returns : goal.returns
returns c = λ e.
    let nodes = c.args.store.now.nodes in
    let P : ℕ → Type 0 = λ p. image nodes (table_of c.args.copies.now) p ≡ root nodes p in
    c.loop-node.invariant (subst (λ (ns : List NodeRef). All P (numbers ns)) (sym (drop_all c.loop-node.node-index c.args.nodes.now c.loop-node-test.false)) (All-nil P))
