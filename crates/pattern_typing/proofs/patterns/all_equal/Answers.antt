use Rattle.std.proofs.Common.{◌<◌, ◌≡◌, List, [], length, drop, ap, arith}
use Rattle.std.proofs.lemmas.List.{drop_all}
use Rattle.typing_model.specs.Parts.{Pattern}
use Rattle.typing_state.proofs.Going.{goes_refl, goes_trans}
use Rattle.typing_steps.proofs.Rows.{equal_asks}
use Rattle.pattern_rows.specs.Contracts.{patterns_of}
use Rattle.pattern_rows.proofs.Listed.{equal_none, equal_all}
use Rattle.pattern_typing.specs.Matching.{nodes_of, typed_view}
use Rattle.pattern_typing.specs.declared.patterns.TypedPart.{TypedPart}
use Rattle.pattern_typing.proofs.Stepping.{equal_step}
use Rattle.pattern_typing.proofs.patterns.all_equal.Goals as goal

pub loop-one-preserved : goal.loop-one-preserved
loop-one-preserved c =
    let all = c.args.typed.now in
    let i = c.loop-one.one-index in
    let x = c.one-item.result in
    let lt : i < length all = let n = c.loop-one-test.true in omega arith in
    record {
      goes = goes_trans c.args.at.now c.loop-one.at c.equal.new.self c.loop-one.invariant.goes c.equal.ensures.goes;
      carries = equal_step c.args.at.now c.loop-one.at c.equal.new.self c.args.env.now all i x c.args.wanted.0 lt c.one-item.is c.loop-one.invariant.goes c.loop-one.invariant.carries (equal_asks c.loop-one.at c.equal.new.self c.args.env.now _ c.in_ok-equal.ensures.verdict c.equal.ensures.rest c.equal.ensures.goes);
    }

pub loop-one-init : goal.loop-one-init
loop-one-init c =
    let all = c.args.typed.now in
    record {
      goes = goes_refl c.args.at.now;
      carries = equal_none c.args.at.now c.args.env.now (patterns_of c.args.at.now.item (typed_view all)) (nodes_of all) c.args.wanted.0;
    }

pub returns-clause-carries : goal.returns-clause-carries
returns-clause-carries c =
    let all = c.args.typed.now in
    let i = c.loop-one.one-index in
    let none : drop i all ≡ [] = drop_all i all (let n = c.loop-one-test.false in omega arith) in
    let ps : List TypedPart → List Pattern = λ ts. patterns_of c.args.at.now.item (typed_view ts) in
    equal_all c.args.at.now c.loop-one.at c.args.env.now (ps all) (ps (drop i all)) (nodes_of all) (nodes_of (drop i all)) c.args.wanted.0 (ap ps none) c.loop-one.invariant.carries

pub returns-clause-goes : goal.returns-clause-goes
returns-clause-goes c = c.loop-one.invariant.goes

pub returns-in_err-equal-clause-goes : goal.returns-in_err-equal-clause-goes
returns-in_err-equal-clause-goes c = goes_trans c.args.at.now c.loop-one.at c.equal.new.self c.loop-one.invariant.goes c.equal.ensures.goes
