use Rattle.std.proofs.Common.{◌<◌, ◌++◌, length, map, drop, ap, arith}
use Rattle.std.proofs.lemmas.List.{drop_all}
use Rattle.row_parts.specs.Numbered.{operand_view}
use Rattle.typing_state.proofs.Going.{goes_trans, goes_refl}
use Rattle.pattern_typing.specs.Matching.{names_seen}
use Rattle.binding_rows.specs.Carried.{nodes_there}
use Rattle.binding_rows.proofs.Loops.{opens_start, opens_step, opens_end, nodes_step, nodes_end}
use Rattle.binding_steps.specs.Bindings.{opened_of, node_of}
use Rattle.binding_steps.proofs.groups.open_all.Goals as goal

pub loop-binding-init : goal.loop-binding-init
loop-binding-init c =
    let os = c.args.bindings.now in
    record {
      goes = goes_refl c.args.at.now;
      carries = opens_start c.args.at.now c.args.env.now os (names_seen c.new-seen.result.items) (map opened_of c.new-all.result.items) (ap names_seen c.new-seen.ensures.items) (ap (map opened_of) c.new-all.ensures.items);
      nodes = ap (λ xs. map node_of xs ++ nodes_there (map operand_view os)) c.new-all.ensures.items;
    }

pub loop-binding-preserved : goal.loop-binding-preserved
loop-binding-preserved c =
    let all = c.args.bindings.now in
    let i = c.loop-binding.binding-index in
    let x = c.binding-item.result in
    let lt : i < length all = let n = c.loop-binding-test.true in omega arith in
    record {
      goes = goes_trans c.args.at.now c.loop-binding.at c.open_if.new.at c.loop-binding.invariant.goes c.open_if.ensures.goes;
      carries = opens_step c.args.at.now c.loop-binding.at c.open_if.new.at c.args.env.now all i x (names_seen c.loop-binding.seen.items) (names_seen c.open_if.new.seen.items) (map opened_of c.loop-binding.all.items) (map opened_of c.open_if.new.all.items) lt c.binding-item.is
          c.loop-binding.invariant.goes c.loop-binding.invariant.carries c.in_ok-open_if.ensures.carries;
      nodes = nodes_step all i x (map node_of c.loop-binding.all.items) (map node_of c.open_if.new.all.items) lt c.binding-item.is c.in_ok-open_if.ensures.nodes c.loop-binding.invariant.nodes;
    }

pub returns-clause-carries : goal.returns-clause-carries
returns-clause-carries c =
    let os = c.args.bindings.now in
    let i = c.loop-binding.binding-index in
    opens_end c.args.at.now c.loop-binding.at c.args.env.now os (drop i os) (names_seen c.loop-binding.seen.items) (map opened_of c.loop-binding.all.items) (drop_all i os c.loop-binding-test.false) c.loop-binding.invariant.carries

pub returns-clause-nodes : goal.returns-clause-nodes
returns-clause-nodes c =
    let os = c.args.bindings.now in
    let i = c.loop-binding.binding-index in
    nodes_end os (drop i os) (map node_of c.loop-binding.all.items) (drop_all i os c.loop-binding-test.false) c.loop-binding.invariant.nodes
