use Rattle.std.proofs.Common.{◌<◌, ◌≡◌, [], length, map, drop, ap, arith}
use Rattle.std.proofs.lemmas.List.{drop_all}
use Rattle.typing_state.proofs.Going.{goes_refl, goes_trans}
use Rattle.pattern_rows.specs.Contracts.{patterns_of}
use Rattle.pattern_rows.proofs.Beside.{later_none, later_all}
use Rattle.pattern_typing.specs.Matching.{parts_of_sides, side_of}
use Rattle.pattern_typing.proofs.Stepping.{later_step}
use Rattle.pattern_typing.proofs.patterns.compare_later.Goals as goal

pub loop-side-preserved : goal.loop-side-preserved
loop-side-preserved c =
    let all = c.args.sides.now in
    let i = c.loop-side.side-index in
    let x = c.side-item.result in
    let lt : i < length all = let n = c.loop-side-test.true in omega arith in
    record {
      goes = goes_trans c.args.at.now c.loop-side.at c.compare_side.new.at c.loop-side.invariant.goes c.compare_side.ensures.goes;
      carries = λ k. later_step c.args.at.now c.loop-side.at c.compare_side.new.at c.args.env.now (side_of c.args.first.now) all i x k lt c.side-item.is c.loop-side.invariant.goes (c.loop-side.invariant.carries k) c.in_ok-compare_side.ensures.carries;
    }

pub loop-side-init : goal.loop-side-init
loop-side-init c =
    let all = c.args.sides.now in
    record {
      goes = goes_refl c.args.at.now;
      carries = λ k. later_none c.args.at.now c.args.env.now (side_of c.args.first.now) (map side_of all) (patterns_of k (parts_of_sides all));
    }

pub returns-clause-carries : goal.returns-clause-carries
returns-clause-carries c = λ k.
    let all = c.args.sides.now in
    let i = c.loop-side.side-index in
    let none : drop i all ≡ [] = drop_all i all (let n = c.loop-side-test.false in omega arith) in
    later_all c.args.at.now c.loop-side.at c.args.env.now (side_of c.args.first.now) (map side_of all) (map side_of (drop i all)) (patterns_of k (parts_of_sides all)) (patterns_of k (parts_of_sides (drop i all))) (ap (λ ss. patterns_of k (parts_of_sides ss)) none) (c.loop-side.invariant.carries k)

pub returns-clause-goes : goal.returns-clause-goes
returns-clause-goes c = c.loop-side.invariant.goes

pub returns-in_err-compare_side-clause-goes : goal.returns-in_err-compare_side-clause-goes
returns-in_err-compare_side-clause-goes c = goes_trans c.args.at.now c.loop-side.at c.compare_side.new.at c.loop-side.invariant.goes c.compare_side.ensures.goes
