use Rattle.std.proofs.Common.{◌≡◌, true, false, sym, ◌∙◌, arith}
use Rattle.type_nodes.specs.Nodes.{IsNode}
use Rattle.type_nodes.specs.Views.{numbers}
use Rattle.level_unify.proofs.Numbers.{number_at, number_get, numbers_length}
use Rattle.scheme_match.proofs.Unknowns.{some_unknown, none_unknown, all_known}
use Rattle.scheme_match.proofs.unknown.any_unknown.Goals as goal

pub is_unknown-requires : goal.is_unknown-requires
is_unknown-requires c = number_at (IsNode c.args.store.now.nodes) c.args.nodes.now c.loop-n.n-index _ c.requires c.loop-n-test.true

pub returns-then-is_unknown : goal.returns-then-is_unknown
returns-then-is_unknown c =
    some_unknown c.args.store.now.nodes (numbers c.args.nodes.now) c.loop-n.n-index _ (number_get c.args.nodes.now c.loop-n.n-index (record { 0 = 0 }) c.loop-n-test.true)
    (c.is_unknown.ensures.0 c.if-is_unknown.true)

pub loop-n-preserved : goal.loop-n-preserved
loop-n-preserved c =
    none_unknown c.args.store.now.nodes (numbers c.args.nodes.now) c.loop-n.n-index _ (number_get c.args.nodes.now c.loop-n.n-index (record { 0 = 0 }) c.loop-n-test.true)
    (λ is. (let t : true ≡ false = sym (c.is_unknown.ensures.1 is) ∙ c.if-is_unknown.false in cc)) c.loop-n.invariant

pub returns : goal.returns
returns c =
    let l = numbers_length c.args.nodes.now in
    let over = c.loop-n-test.false in
    all_known c.args.store.now.nodes (numbers c.args.nodes.now) c.loop-n.n-index (omega arith) c.loop-n.invariant
