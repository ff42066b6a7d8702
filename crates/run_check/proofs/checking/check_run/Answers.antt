use Rattle.std.proofs.Common.{rules, arith, ◌≡◌, List, ℕ, length, sym, ap, ◌∙◌}
use Rattle.std.specs.Borrow.{Bor}
use Rattle.std.proofs.lemmas.Bool.{ne_eqb}
use Rattle.session.specs.Working.{Held}
use Rattle.run_check.proofs.Comparing.{compared_at, compared_byte, compared_feed, compared_first, last_not_settled, no_more, not_settled, of_none, of_some, part, ran_whole, some_more, too_long, Found, Only}
use Rattle.run_check.proofs.checking.check_run.Goals.{then-input-at-eq10+in_ok-rest+in-Some, else-input-at-eq10}
use Rattle.run_check.proofs.checking.check_run.Goals as goal

pub loop-at-init : goal.loop-at-init
loop-at-init g c = (search rules, search rules, compared_first c.args.input.now c.args.output.now c.new-session.result.text c.new-session.ensures.text)

pub loop-at-preserved : goal.loop-at-preserved
loop-at-preserved g c = elim c.if-input-at-eq10.branch [
  | then-input-at-eq10+in_ok-rest+in-Some w ↦
      (let line = part c.args.input.now c.loop-at.start c.loop-at.at in
      let text = c.loop-at.session.text in
      let left = c.loop-at.left.now in
      let after = w.behind_reply.new.session.text in
      let found : Found text line left after w.in-Some.rest.now = of_some w.in_ok-rest.field-0 w.in-Some.rest _ (λ r. Found text line left after r.now) w.in-Some.is w.in_ok-rest.ensures.sound in
      let only : Only text line left after w.in-Some.rest.now = λ mid xs goes. of_some w.in_ok-rest.field-0 w.in-Some.rest _ (λ r. (mid ≡ after) × (xs ≡ r.now)) w.in-Some.is (w.in_ok-rest.ensures.complete mid xs goes) in
      let next = compared_feed c.args.input.now c.args.output.now c.loop-at.start c.loop-at.at text left after w.in-Some.rest.now (omega arith) w.if-input-at-eq10.true c.loop-at.invariant.2 found only in (
        omega (arith, w.start-is),
        search rules,
        compared_at c.args.input.now c.args.output.now _ _ _ _ _ _ _ w.start-is (ap (λ (s : Held). s.text) w.session-is) (ap (λ (l : Bor (List ℕ)). l.now) w.left-is) next,
      ))
  | else-input-at-eq10 w ↦
      (let next = compared_byte c.args.input.now c.args.output.now c.loop-at.start c.loop-at.at c.loop-at.session.text c.loop-at.left.now (omega arith) c.loop-at.invariant.0 (ne_eqb _ _ w.if-input-at-eq10.false) c.loop-at.invariant.2 in (
        omega (arith, w.start-is, c.loop-at.invariant.0),
        search rules,
        compared_at c.args.input.now c.args.output.now _ _ _ _ _ _ _ w.start-is (ap (λ (s : Held). s.text) w.session-is) (ap (λ (l : Bor (List ℕ)). l.now) w.left-is) next,
      ))
]

pub returns-in-None-clause-is_none : goal.returns-in-None-clause-is_none
returns-in-None-clause-is_none g c = λ no.
    not_settled c.args.input.now c.args.output.now c.loop-at.start c.loop-at.at c.loop-at.session.text c.loop-at.left.now (omega arith) c.if-input-at-eq10.true c.loop-at.invariant.2
    (λ mid xs goes. of_none c.in_ok-rest.field-0 _ (λ r. (mid ≡ c.behind_reply.new.session.text) × (xs ≡ r.now)) c.in-None.is (c.in_ok-rest.ensures.complete mid xs goes))

pub returns-in-Some-2-clause-is_run : goal.returns-in-Some-2-clause-is_run
returns-in-Some-2-clause-is_run g c = λ none.
    let line = part c.args.input.now c.loop-at.start (length c.args.input.now) in
    let text = c.loop-at.session.text in
    let left = c.loop-at.left.now in
    let after = c.behind_reply-2.new.session.text in
    let found : Found text line left after c.in-Some-2.rest.now = of_some c.in_ok-rest-2.field-0 c.in-Some-2.rest _ (λ r. Found text line left after r.now) c.in-Some-2.is c.in_ok-rest-2.ensures.sound in
    ran_whole c.args.input.now c.args.output.now c.loop-at.start c.loop-at.at text left after c.in-Some-2.rest.now (omega arith) c.loop-at.invariant.2 found (no_more c.in-Some-2.rest.now (sym c.is_empty.ensures ∙ none))

pub returns-in-Some-2-clause-is_none : goal.returns-in-Some-2-clause-is_none
returns-in-Some-2-clause-is_none g c = λ some.
    let line = part c.args.input.now c.loop-at.start (length c.args.input.now) in
    let text = c.loop-at.session.text in
    let left = c.loop-at.left.now in
    let after = c.behind_reply-2.new.session.text in
    let only : Only text line left after c.in-Some-2.rest.now = λ mid xs goes. of_some c.in_ok-rest-2.field-0 c.in-Some-2.rest _ (λ r. (mid ≡ after) × (xs ≡ r.now)) c.in-Some-2.is (c.in_ok-rest-2.ensures.complete mid xs goes) in
    too_long c.args.input.now c.args.output.now c.loop-at.start c.loop-at.at text left after c.in-Some-2.rest.now (omega arith) c.loop-at.invariant.2 only (some_more c.in-Some-2.rest.now (sym c.is_empty.ensures ∙ some))

pub returns-clause-is_none : goal.returns-clause-is_none
returns-clause-is_none g c = λ no.
    last_not_settled c.args.input.now c.args.output.now c.loop-at.start c.loop-at.at c.loop-at.session.text c.loop-at.left.now (omega arith) c.loop-at.invariant.2
    (λ mid xs goes. of_none c.in_ok-rest-2.field-0 _ (λ r. (mid ≡ c.behind_reply-2.new.session.text) × (xs ≡ r.now)) c.in-None-2.is (c.in_ok-rest-2.ensures.complete mid xs goes))
