use Rattle.std.proofs.Common.{sym, ◌∙◌, arith}
use Rattle.std.specs.Prelude.{nat_eq}
use Rattle.std.specs.HashMap.{get}
use Rattle.type_nodes.specs.Nodes.{IsNode}
use Rattle.type_nodes.specs.Views.{numbers}
use Rattle.level_unify.specs.Copies.{table_of}
use Rattle.level_unify.proofs.Numbers.{number_at, number_get, numbers_length}
use Rattle.level_unify.proofs.Images.{key_some, key_none, some_copied, none_copied, all_uncopied}
use Rattle.level_unify.proofs.copies.is_any_copied.Goals as goal

pub root-root-requires : goal.root-root-requires
root-root-requires c = number_at (IsNode c.args.store.now.nodes) c.args.nodes.now c.loop-node.node-index _ c.requires c.loop-node-test.true

pub returns-then-contains_key : goal.returns-then-contains_key
returns-then-contains_key c =
    some_copied c.args.store.now.nodes (table_of c.args.copies.now) (numbers c.args.nodes.now) c.loop-node.node-index _ c.root-root.result.0
    (number_get c.args.nodes.now c.loop-node.node-index (record { 0 = 0 }) c.loop-node-test.true) c.root-root.ensures.root
    (key_some (get nat_eq c.args.copies.now c.root-root.result.0) (sym c.contains_key.ensures ∙ c.if-contains_key.true))

pub loop-node-preserved : goal.loop-node-preserved
loop-node-preserved c =
    none_copied c.args.store.now.nodes (table_of c.args.copies.now) (numbers c.args.nodes.now) c.loop-node.node-index _ c.root-root.result.0
    (number_get c.args.nodes.now c.loop-node.node-index (record { 0 = 0 }) c.loop-node-test.true) c.root-root.ensures.root
    (key_none (get nat_eq c.args.copies.now c.root-root.result.0) (sym c.contains_key.ensures ∙ c.if-contains_key.false)) c.loop-node.invariant

pub returns : goal.returns
returns c =
    let l = numbers_length c.args.nodes.now in
    let over = c.loop-node-test.false in
    all_uncopied c.args.store.now.nodes (table_of c.args.copies.now) (numbers c.args.nodes.now) c.loop-node.node-index (omega arith) c.loop-node.invariant
