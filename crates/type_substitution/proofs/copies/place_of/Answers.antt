use Rattle.std.proofs.Common.{sym, ◌∙◌, arith}
use Rattle.type_nodes.specs.Nodes.{IsNode}
use Rattle.type_nodes.specs.Views.{numbers}
use Rattle.level_unify.proofs.Numbers.{number_at, number_get, numbers_length}
use Rattle.type_substitution.proofs.Standing.{none_on, none_given}
use Rattle.type_substitution.proofs.copies.place_of.Goals as goal

pub root-requires : goal.root-requires
root-requires c = number_at (IsNode c.args.store.now.nodes) c.args.variables.now c.loop-place.place _ c.requires c.loop-place-test.true

pub returns-then-root : goal.returns-then-root
returns-then-root c = (_, number_get c.args.variables.now c.loop-place.place _ c.loop-place-test.true, sym c.root.ensures.root ∙ c.if-root.true, c.loop-place.invariant)

pub loop-place-preserved : goal.loop-place-preserved
loop-place-preserved c =
    none_on c.args.store.now.nodes (numbers c.args.variables.now) c.loop-place.place _ c.args.root.0 (number_get c.args.variables.now c.loop-place.place _ c.loop-place-test.true)
    (λ e. c.if-root.false (c.root.ensures.root ∙ e)) c.loop-place.invariant

pub returns : goal.returns
returns c =
    let l = numbers_length c.args.variables.now in
    let over = c.loop-place-test.false in
    none_given c.args.store.now.nodes (numbers c.args.variables.now) c.loop-place.place c.args.root.0 (omega arith) c.loop-place.invariant
