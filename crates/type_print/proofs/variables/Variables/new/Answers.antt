use Rattle.std.proofs.Common.{refl, ap}
use Rattle.std.specs.Prelude.{nat_eq, ◌||◌}
use Rattle.std.specs.List.{list_any}
use Rattle.std.specs.HashSet.{contains}
use Rattle.type_nodes.specs.Nodes.{IsNode}
use Rattle.type_nodes.specs.Views.{numbers}
use Rattle.type_print_model.specs.Variables.{is_among}
use Rattle.type_print.specs.Meeting.{roots_of}
use Rattle.type_print.proofs.Numbers.{number_of}
use Rattle.type_print.proofs.Meeting.{root_more, root_end, named_none}
use Rattle.type_print.proofs.variables.Variables.new.Goals as goal

pub root-requires : goal.root-requires
root-requires c = number_of (IsNode c.args.store.now.nodes) c.args.weak.now c.loop-node.node-index _ c.requires c.loop-node-test.true

pub loop-node-init : goal.loop-node-init
loop-node-init c q = ap (λ ks. list_any (nat_eq q) ks || is_among q (roots_of c.args.store.now.nodes (numbers c.args.weak.now))) c.new-roots.ensures.empty

pub loop-node-preserved : goal.loop-node-preserved
loop-node-preserved c q =
    root_more c.args.store.now.nodes c.args.weak.now c.loop-node.node-index _ c.root.result.0 q (contains nat_eq c.loop-node.roots) (contains nat_eq c.insert.new.roots)
    (is_among q (roots_of c.args.store.now.nodes (numbers c.args.weak.now))) c.loop-node-test.true c.root.ensures.root c.in_ok-insert.ensures (c.loop-node.invariant q)

pub returns : goal.returns
returns c =
    named_none c.args.store.now.nodes (roots_of c.args.store.now.nodes (numbers c.args.weak.now)) _
    (λ v. root_end c.args.store.now.nodes c.args.weak.now c.loop-node.node-index v (contains nat_eq c.loop-node.roots v) (is_among v (roots_of c.args.store.now.nodes (numbers c.args.weak.now))) c.loop-node-test.false (c.loop-node.invariant v))
    refl refl (λ n. ap (list_any (nat_eq n)) c.new-2.ensures.empty)
