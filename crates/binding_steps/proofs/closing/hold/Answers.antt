use Rattle.std.proofs.Common.{◌+◌, ◌<◌, length, drop, ap, arith}
use Rattle.std.proofs.lemmas.List.{drop_all}
use Rattle.typing_state.proofs.Going.{goes_trans, goes_refl}
use Rattle.typing_state.proofs.Silence.{silent_refl, silent_trans, store_silent}
use Rattle.binding_rows.proofs.LetTurns.{limits_none, limits_one, limits_then}
use Rattle.binding_steps.specs.Bindings.{name_nodes}
use Rattle.binding_steps.proofs.ClosingLaws.{names_begun, name_done, names_done, names_cut}
use Rattle.binding_steps.proofs.closing.hold.Goals as goal

pub loop-name-init : goal.loop-name-init
loop-name-init c = record { goes = goes_refl c.args.at.now; silent = silent_refl c.args.at.now; limits = names_begun (name_nodes c.args.names.now) (limits_none c.args.at.now c.args.level) }

pub loop-name-preserved : goal.loop-name-preserved
loop-name-preserved c =
    let all = c.args.names.now in
    let i = c.loop-name.name-index in
    let x = c.name-item.result in
    let lt : i < length all = let n = c.loop-name-test.true in omega arith in
    record {
      goes = goes_trans c.args.at.now c.loop-name.at c.limit.new.self c.loop-name.invariant.goes c.limit.ensures.goes;
      silent = silent_trans c.args.at.now c.loop-name.at c.limit.new.self c.loop-name.invariant.silent (store_silent c.loop-name.at c.limit.new.self c.limit.ensures.rest);
      limits = name_done (name_nodes (drop i all)) (name_nodes (drop (i + 1) all)) (name_nodes all) x.node.0 (names_cut all i x lt c.name-item.is) c.loop-name.invariant.limits
          (λ ms first. limits_then first (limits_one c.in_ok-limit.ensures.limited c.limit.ensures.rest c.limit.ensures.goes c.in_ok-limit.ensures.sound));
    }

pub returns-clause-limits : goal.returns-clause-limits
returns-clause-limits c =
    let all = c.args.names.now in
    let i = c.loop-name.name-index in
    names_done (name_nodes (drop i all)) (name_nodes all) (ap name_nodes (drop_all i all c.loop-name-test.false)) c.loop-name.invariant.limits
