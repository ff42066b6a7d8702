use Rattle.std.proofs.Common.{◌+◌, ◌<◌, length, map, drop, ap, arith}
use Rattle.std.proofs.lemmas.List.{drop_all}
use Rattle.typing_state.proofs.Going.{goes_trans, goes_refl}
use Rattle.typing_state.proofs.Silence.{silent_refl, silent_trans}
use Rattle.use_typing.proofs.Reading.{rest_read}
use Rattle.binding_steps.specs.Bindings.{closing_of}
use Rattle.binding_steps.proofs.ClosingLaws.{holds_start, holds_step, holds_end}
use Rattle.binding_steps.proofs.closing.hold_all.Goals as goal

pub loop-one-init : goal.loop-one-init
loop-one-init c = record { goes = goes_refl c.args.at.now; silent = silent_refl c.args.at.now; limits = holds_start c.args.at.now c.args.level (map closing_of c.args.bound.now) }

pub loop-one-preserved : goal.loop-one-preserved
loop-one-preserved c =
    let all = c.args.bound.now in
    let i = c.loop-one.one-index in
    let x = c.one-item.result in
    let lt : i < length all = let n = c.loop-one-test.true in omega arith in
    record {
      goes = goes_trans c.args.at.now c.loop-one.at c.hold_one.new.at c.loop-one.invariant.goes c.hold_one.ensures.goes;
      silent = silent_trans c.args.at.now c.loop-one.at c.hold_one.new.at c.loop-one.invariant.silent c.hold_one.ensures.silent;
      limits = holds_step c.args.at.now c.loop-one.at c.hold_one.new.at c.args.level (map closing_of all) (map closing_of (drop i all)) (map closing_of (drop (i + 1) all)) (closing_of x) (rest_read closing_of all i x lt c.one-item.is) c.loop-one.invariant.limits c.in_ok-hold_one.ensures.limits;
    }

pub returns-clause-limits : goal.returns-clause-limits
returns-clause-limits c =
    let all = c.args.bound.now in
    let i = c.loop-one.one-index in
    holds_end c.args.at.now c.loop-one.at c.args.level (map closing_of all) (map closing_of (drop i all)) (ap (map closing_of) (drop_all i all c.loop-one-test.false)) c.loop-one.invariant.limits
