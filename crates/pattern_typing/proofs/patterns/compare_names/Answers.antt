use Rattle.std.proofs.Common.{◌<◌, ◌≡◌, [], length, drop, ap, arith}
use Rattle.std.proofs.lemmas.List.{drop_all}
use Rattle.typing_state.proofs.Going.{goes_refl, goes_trans}
use Rattle.pattern_rows.proofs.Beside.{names_none, names_all}
use Rattle.pattern_typing.specs.Matching.{binds_of}
use Rattle.pattern_typing.proofs.Stepping.{name_step}
use Rattle.pattern_typing.proofs.patterns.compare_names.Goals as goal

pub loop-name-preserved : goal.loop-name-preserved
loop-name-preserved c =
    let all = c.args.first.now in
    let i = c.loop-name.name-index in
    let x = c.name-item.result in
    let lt : i < length all = let n = c.loop-name-test.true in omega arith in
    record {
      goes = goes_trans c.args.at.now c.loop-name.at c.compare_name.new.at c.loop-name.invariant.goes c.compare_name.ensures.goes;
      carries = name_step c.args.at.now c.loop-name.at c.compare_name.new.at c.args.env.now all i x (binds_of c.args.later.now) lt c.name-item.is c.loop-name.invariant.goes c.loop-name.invariant.carries c.in_ok-compare_name.ensures.carries;
    }

pub loop-name-init : goal.loop-name-init
loop-name-init c = record {
  goes = goes_refl c.args.at.now;
  carries = names_none c.args.at.now c.args.env.now (binds_of c.args.first.now) (binds_of c.args.later.now);
}

pub returns-clause-carries : goal.returns-clause-carries
returns-clause-carries c =
    let all = c.args.first.now in
    let i = c.loop-name.name-index in
    let none : drop i all ≡ [] = drop_all i all (let n = c.loop-name-test.false in omega arith) in
    names_all c.args.at.now c.loop-name.at c.args.env.now (binds_of all) (binds_of (drop i all)) (binds_of c.args.later.now) (ap binds_of none) c.loop-name.invariant.carries

pub returns-clause-goes : goal.returns-clause-goes
returns-clause-goes c = c.loop-name.invariant.goes

pub returns-in_err-compare_name-clause-goes : goal.returns-in_err-compare_name-clause-goes
returns-in_err-compare_name-clause-goes c = goes_trans c.args.at.now c.loop-name.at c.compare_name.new.at c.loop-name.invariant.goes c.compare_name.ensures.goes
