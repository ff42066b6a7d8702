use Rattle.std.proofs.Common.{◌∙◌, ◌<◌, ◌≤◌, length, true, false, refl, arith}
use Rattle.value_forms.proofs.ValueLaws.{guard_read, body_added, guards_end, added_all}
use Rattle.typing_rows.specs.Valued.{bodies_of}
use Rattle.value_forms.proofs.values.push_bodies.Goals as goal

pub loop-case-init : goal.loop-case-init
loop-case-init c = record { guards = refl; bodies = refl }

pub loop-case-preserved : goal.loop-case-preserved
loop-case-preserved c =
    let all = c.args.cases.now in
    let k = c.loop-case.case-index in
    let lt : k < length all = let n = c.loop-case-test.true in omega arith in
    record {
      guards = guard_read all k c.case-item.result true lt c.case-item.is (c.in_ok-push_body.ensures.guard ∙ c.if-not-branch.false) c.loop-case.invariant.guards;
      bodies = body_added all k c.case-item.result c.args.parts.now.items c.loop-case.parts.items c.push_body.new.parts.items lt c.case-item.is c.loop-case.invariant.bodies (c.in_ok-push_body.ensures.body c.if-not-branch.false);
    }

pub returns-then-not-branch-clause-guards : goal.returns-then-not-branch-clause-guards
returns-then-not-branch-clause-guards c =
    let all = c.args.cases.now in
    let k = c.loop-case.case-index in
    let lt : k < length all = let n = c.loop-case-test.true in omega arith in
    guard_read all k c.case-item.result false lt c.case-item.is (c.in_ok-push_body.ensures.guard ∙ c.if-not-branch.true) c.loop-case.invariant.guards

pub returns-clause-guards : goal.returns-clause-guards
returns-clause-guards c =
    let le : length c.args.cases.now ≤ c.loop-case.case-index = let n = c.loop-case-test.false in omega arith in
    guards_end c.args.cases.now c.loop-case.case-index le c.loop-case.invariant.guards

pub returns-clause-bodies : goal.returns-clause-bodies
returns-clause-bodies c =
    let le : length c.args.cases.now ≤ c.loop-case.case-index = let n = c.loop-case-test.false in omega arith in
    λ e. added_all bodies_of refl c.args.cases.now c.loop-case.case-index c.args.parts.now.items c.loop-case.parts.items le c.loop-case.invariant.bodies
