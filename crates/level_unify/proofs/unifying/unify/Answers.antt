use Rattle.level_unify.proofs.Clashing.{told_clash, back_again}
use Rattle.level_unify.proofs.unifying.unify.Goals as goal

pub returns-in_ok-kind-in-Err-clause-clash : goal.returns-in_ok-kind-in-Err-clause-clash
returns-in_ok-kind-in-Err-clause-clash c = λ clash e none.
    told_clash c.args.store.now.nodes c.rollback.new.self.nodes c.args.a c.args.b c.in-Err.failure c.in_ok-kind-in-Err.kind
    (back_again c.args.store.now c.attempt.new.store c.rollback.new.self c.snapshot-mark.result.0 c.snapshot-mark.ensures c.attempt.ensures.keeps c.rollback.ensures) c.requires.a c.requires.b c.in_ok-kind-in-Err.ensures
    (λ f. c.in-Err.ensures.not_one f none) (λ f. c.in-Err.ensures.out_of_scope f none) clash e
