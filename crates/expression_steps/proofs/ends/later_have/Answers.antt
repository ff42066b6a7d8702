use Rattle.std.proofs.Common.{◌<◌, length, map, arith, ◌≤◌}
use Rattle.row_parts.specs.Numbered.{operand_view}
use Rattle.typing_state.proofs.Going.{goes_trans, goes_refl}
use Rattle.type_nodes.specs.Views.{numbers}
use Rattle.typing_rows.specs.Asked.{expressions_of}
use Rattle.expression_steps.proofs.EndingLaws.{later_first, later_step, later_done}
use Rattle.expression_steps.proofs.ends.later_have.Goals as goal

pub loop-place-preserved : goal.loop-place-preserved
loop-place-preserved c =
    let all = c.args.parts.now in
    let k = c.loop-place.place in
    let lt : k < length all = let n = c.loop-place-test.true in omega arith in
    record {
      goes = goes_trans c.args.at.now c.loop-place.at c.has.new.at c.loop-place.invariant.goes c.has.ensures.goes;
      carries = later_step c.args.at.now c.loop-place.at c.has.new.at c.args.env.now c.args.parts.now (numbers c.args.types.now) k c.args.wanted.0 lt c.loop-place.invariant.goes c.loop-place.invariant.carries c.in_ok-has.ensures.carries;
    }

pub loop-place-init : goal.loop-place-init
loop-place-init c =
    record {
      goes = goes_refl c.args.at.now;
      carries = later_first c.args.at.now c.args.env.now (expressions_of c.args.at.now.item (map operand_view c.args.parts.now)) (numbers c.args.types.now) c.args.wanted.0;
    }

pub returns-clause-carries : goal.returns-clause-carries
returns-clause-carries c =
    let k = c.loop-place.place in
    let le : length c.args.parts.now ≤ k = let n = c.loop-place-test.false in omega arith in
    later_done c.args.at.now c.loop-place.at c.args.env.now c.args.parts.now (numbers c.args.types.now) k c.args.wanted.0 le c.loop-place.invariant.carries

pub returns-clause-goes : goal.returns-clause-goes
returns-clause-goes c = c.loop-place.invariant.goes

pub returns-in_err-has-clause-goes : goal.returns-in_err-has-clause-goes
returns-in_err-has-clause-goes c = goes_trans c.args.at.now c.loop-place.at c.has.new.at c.loop-place.invariant.goes c.has.ensures.goes
