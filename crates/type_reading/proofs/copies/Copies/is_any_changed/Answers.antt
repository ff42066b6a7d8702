use Rattle.std.proofs.Common.{◌≡◌, ◌+◌, ℕ, drop, subst, sym, ◌∙◌, List}
use Rattle.std.specs.Prelude.{All}
use Rattle.std.proofs.lemmas.List.{drop_all, drop_more}
use Rattle.std.proofs.lemmas.List.Elements.{All-cons, All-nil}
use Rattle.type_terms.specs.declared.types.NodeRef.{NodeRef}
use Rattle.type_nodes.specs.Nodes.{IsNode}
use Rattle.type_nodes.specs.Links.{root}
use Rattle.type_nodes.specs.Views.{numbers}
use Rattle.level_unify.specs.Copies.{table_of, image}
use Rattle.typing_state.proofs.Listed.{number_at}
use Rattle.type_reading.proofs.copies.Copies.is_any_changed.Goals as goal

pub loop-part-preserved : goal.loop-part-preserved
loop-part-preserved c = λ inside rest.
    let nodes = c.args.at.now.store.nodes in
    let P : ℕ → Type 0 = λ p. image nodes (table_of c.args.self.now.table) p ≡ root nodes p in
    let lt = number_at (IsNode nodes) c.args.parts.now c.loop-part.part-index (record { 0 = 0 }) inside c.loop-part-test.true in
    c.loop-part.invariant inside
    (subst (λ (ns : List NodeRef). All P (numbers ns)) (sym (drop_more c.args.parts.now c.loop-part.part-index _ c.loop-part-test.true))
    (All-cons P _ (numbers (drop (c.loop-part.part-index + 1) c.args.parts.now)) (sym (c.image.ensures lt) ∙ c.if-image-root.false ∙ c.root.ensures.node lt) rest))

pub returns : goal.returns
returns c = λ e inside.
    let nodes = c.args.at.now.store.nodes in
    let P : ℕ → Type 0 = λ p. image nodes (table_of c.args.self.now.table) p ≡ root nodes p in
    c.loop-part.invariant inside (subst (λ (ns : List NodeRef). All P (numbers ns)) (sym (drop_all c.loop-part.part-index c.args.parts.now c.loop-part-test.false)) (All-nil P))
