use Rattle.std.proofs.Common.{◌∙◌, arith}
use Rattle.type_nodes.specs.Views.{numbers}
use Rattle.level_unify.proofs.Numbers.{number_get, numbers_length}
use Rattle.typing_state.proofs.Going.{goes_refl, goes_trans}
use Rattle.typing_state.proofs.Silence.{store_silent}
use Rattle.declared_rows.proofs.Opens.{opens_start, opens_all}
use Rattle.type_reading.proofs.Filling.{store_then, store_same}
use Rattle.type_expressions.proofs.Roots.{opens_next}
use Rattle.type_expressions.proofs.unknowns.open_found.Goals as goal

pub open_one-requires-clause-inside : goal.open_one-requires-clause-inside
open_one-requires-clause-inside c =
    let e = number_get c.args.found.now c.loop-node.node-index (record { 0 = 0 }) c.loop-node-test.true in
    let lt = (c.requires.roots c.loop-node.node-index _ e).0 in
    let len = c.loop-node.invariant.opens.len in
    omega arith

pub open_one-requires-clause-end : goal.open_one-requires-clause-end
open_one-requires-clause-end c =
    let e = number_get c.args.found.now c.loop-node.node-index (record { 0 = 0 }) c.loop-node-test.true in
    c.loop-node.invariant.opens.roots _ ∙ (c.requires.roots c.loop-node.node-index _ e).1

pub loop-node-init : goal.loop-node-init
loop-node-init c = record {
  opens = opens_start c.args.at.now.store.nodes c.args.ty.0 (numbers c.args.parameters.now) (numbers c.args.found.now);
  rest = store_same c.args.at.now;
  goes = goes_refl c.args.at.now;
}

pub loop-node-preserved : goal.loop-node-preserved
loop-node-preserved c =
    let ps = numbers c.args.parameters.now in
    let old = c.args.at.now.store.nodes in
    let now = c.loop-node.at.store.nodes in
    let e = number_get c.args.found.now c.loop-node.node-index (record { 0 = 0 }) c.loop-node-test.true in
    record {
      opens = opens_next old now c.open_one.new.at.store.nodes c.args.ty.0 ps (numbers c.args.found.now) c.loop-node.node-index _ c.requires e c.loop-node.invariant.opens c.in_ok-open_one.ensures.opened;
      rest = store_then c.loop-node.invariant.rest c.open_one.ensures.rest;
      goes = goes_trans c.args.at.now c.loop-node.at c.open_one.new.at c.loop-node.invariant.goes c.open_one.ensures.goes;
    }

pub returns-clause-opened : goal.returns-clause-opened
returns-clause-opened c =
    let l = numbers_length c.args.found.now in
    let over = c.loop-node-test.false in
    opens_all c.args.at.now.store.nodes c.loop-node.at.store.nodes c.args.ty.0 (numbers c.args.parameters.now) (numbers c.args.found.now) c.loop-node.node-index (omega arith) c.requires c.loop-node.invariant.opens

pub returns-clause-rest : goal.returns-clause-rest
returns-clause-rest c = c.loop-node.invariant.rest

pub returns-clause-silent : goal.returns-clause-silent
returns-clause-silent c = store_silent c.args.at.now c.loop-node.at c.loop-node.invariant.rest

pub returns-clause-goes : goal.returns-clause-goes
returns-clause-goes c = c.loop-node.invariant.goes

pub returns-in_err-open_one-clause-rest : goal.returns-in_err-open_one-clause-rest
returns-in_err-open_one-clause-rest c = store_then c.loop-node.invariant.rest c.open_one.ensures.rest

pub returns-in_err-open_one-clause-silent : goal.returns-in_err-open_one-clause-silent
returns-in_err-open_one-clause-silent c = store_silent c.args.at.now c.open_one.new.at (store_then c.loop-node.invariant.rest c.open_one.ensures.rest)

pub returns-in_err-open_one-clause-goes : goal.returns-in_err-open_one-clause-goes
returns-in_err-open_one-clause-goes c = goes_trans c.args.at.now c.loop-node.at c.open_one.new.at c.loop-node.invariant.goes c.open_one.ensures.goes
