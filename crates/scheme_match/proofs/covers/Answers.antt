use Rattle.std.proofs.Common.{sym, subst, ◌∙◌}
use Rattle.std.proofs.lemmas.Bool.{eqb-true}
use Rattle.scheme_match.specs.Covering.{Tried}
use Rattle.scheme_match.proofs.Covering.{met, unmet}
use Rattle.scheme_match.proofs.Attempts.{one_root}
use Rattle.scheme_match.proofs.covers.Goals as goal

pub returns-then-eq-clause-compared : goal.returns-then-eq-clause-compared
returns-then-eq-clause-compared c = λ keeps_a keeps_w. one_root c.args.store.now.nodes c.args.actual.0 c.args.wanted.0
    (sym c.root.ensures.root ∙ eqb-true c.root.result.0 c.root-2.result.0 (sym c.eq.ensures ∙ c.if-eq.true) ∙ c.root-2.ensures.root)

pub returns-in-Ok-true-clause-compared : goal.returns-in-Ok-true-clause-compared
returns-in-Ok-true-clause-compared c = met c.args.store.now.nodes c.attempt.new.store.nodes c.args.actual.0 c.args.wanted.0 c.args.level
    (subst (λ b. Tried c.args.store.now.nodes c.attempt.new.store.nodes c.args.actual.0 c.args.wanted.0 c.args.level b) c.in-Ok-true.field-0-test c.in-Ok-true.ensures.tried)
    c.root.ensures.sound c.requires.actual c.requires.wanted

pub returns-in-Ok-false-clause-compared : goal.returns-in-Ok-false-clause-compared
returns-in-Ok-false-clause-compared c = λ keeps_a keeps_w. unmet c.args.store.now.nodes c.attempt.new.store.nodes c.args.actual.0 c.args.wanted.0 c.args.level
    (subst (λ b. Tried c.args.store.now.nodes c.attempt.new.store.nodes c.args.actual.0 c.args.wanted.0 c.args.level b) c.in-Ok-false.field-0-test c.in-Ok-false.ensures.tried)
    c.requires.actual c.requires.wanted
