use Rattle.std.proofs.Common.{◌+◌, ◌<◌, length, drop, ap, arith}
use Rattle.std.proofs.lemmas.List.{drop_all}
use Rattle.type_nodes.specs.Nodes.{bound_level}
use Rattle.typing_state.proofs.Going.{goes_trans, goes_refl}
use Rattle.typing_state.proofs.Silence.{silent_refl, silent_trans}
use Rattle.binding_rows.proofs.ItemTurns.{inside_none, inside_then}
use Rattle.binding_steps.specs.Bindings.{name_nodes}
use Rattle.binding_steps.proofs.ClosingLaws.{names_begun, name_done, names_done, names_cut}
use Rattle.binding_steps.proofs.closing.limit_each.Goals as goal

pub loop-name-init : goal.loop-name-init
loop-name-init c = record { goes = goes_refl c.args.at.now; silent = silent_refl c.args.at.now; inside = names_begun (name_nodes c.args.names.now) (inside_none c.args.at.now bound_level c.args.scope) }

pub loop-name-preserved : goal.loop-name-preserved
loop-name-preserved c =
    let all = c.args.names.now in
    let i = c.loop-name.name-index in
    let x = c.name-item.result in
    let lt : i < length all = let n = c.loop-name-test.true in omega arith in
    record {
      goes = goes_trans c.args.at.now c.loop-name.at c.limit_to.new.at c.loop-name.invariant.goes c.limit_to.ensures.goes;
      silent = silent_trans c.args.at.now c.loop-name.at c.limit_to.new.at c.loop-name.invariant.silent c.limit_to.ensures.silent;
      inside = name_done (name_nodes (drop i all)) (name_nodes (drop (i + 1) all)) (name_nodes all) x.node.0 (names_cut all i x lt c.name-item.is) c.loop-name.invariant.inside (λ ms first. inside_then first c.in_ok-limit_to.ensures.inside);
    }

pub returns-clause-inside : goal.returns-clause-inside
returns-clause-inside c =
    let all = c.args.names.now in
    let i = c.loop-name.name-index in
    names_done (name_nodes (drop i all)) (name_nodes all) (ap name_nodes (drop_all i all c.loop-name-test.false)) c.loop-name.invariant.inside
