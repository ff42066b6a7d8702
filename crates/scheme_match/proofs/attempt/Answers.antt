use Rattle.scheme_match.proofs.Attempts.{tried_met, tried_unmet, attempt_tightens}
use Rattle.scheme_match.proofs.attempt.Goals as goal

pub returns-in-Ok-clause-tried : goal.returns-in-Ok-clause-tried
returns-in-Ok-clause-tried c = tried_met c.args.store.now.nodes c.freeze.new.store.nodes c.instantiate.new.store.nodes c.unify.new.store.nodes c.args.actual.0 c.args.wanted.0 c.args.level c.in_ok-rigid.rigid.0 c.in_ok-instance.instance.0
    c.in_ok-rigid.ensures.sound c.in_ok-rigid.ensures.instance c.in_ok-instance.ensures.instance c.in-Ok.ensures.unified

pub returns-in-Ok-clause-tightens : goal.returns-in-Ok-clause-tightens
returns-in-Ok-clause-tightens c = attempt_tightens c.args.store.now.nodes c.freeze.new.store.nodes c.instantiate.new.store.nodes c.unify.new.store.nodes c.args.actual.0 c.args.wanted.0 c.args.level c.in_ok-rigid.rigid.0 c.in_ok-instance.instance.0
    c.in_ok-rigid.ensures.instance c.in_ok-instance.ensures.instance c.unify.ensures.tightens

pub returns-in-Err-Clash-clause-tried : goal.returns-in-Err-Clash-clause-tried
returns-in-Err-Clash-clause-tried c = tried_unmet c.args.store.now.nodes c.freeze.new.store.nodes c.instantiate.new.store.nodes c.unify.new.store.nodes c.args.actual.0 c.args.wanted.0 c.args.level c.in_ok-rigid.rigid.0 c.in_ok-instance.instance.0
    c.in_ok-rigid.ensures.sound c.in_ok-rigid.ensures.instance c.in_ok-instance.ensures.instance (λ free. (c.in-Err-Clash.ensures.clash c.in-Err-Clash.field-0-0 c.in-Err-Clash.field-0-is free).never)

pub returns-in-Err-Clash-clause-tightens : goal.returns-in-Err-Clash-clause-tightens
returns-in-Err-Clash-clause-tightens c = attempt_tightens c.args.store.now.nodes c.freeze.new.store.nodes c.instantiate.new.store.nodes c.unify.new.store.nodes c.args.actual.0 c.args.wanted.0 c.args.level c.in_ok-rigid.rigid.0 c.in_ok-instance.instance.0
    c.in_ok-rigid.ensures.instance c.in_ok-instance.ensures.instance c.unify.ensures.tightens

pub returns-in-Err-NoMemory-clause-tightens : goal.returns-in-Err-NoMemory-clause-tightens
returns-in-Err-NoMemory-clause-tightens c = attempt_tightens c.args.store.now.nodes c.freeze.new.store.nodes c.instantiate.new.store.nodes c.unify.new.store.nodes c.args.actual.0 c.args.wanted.0 c.args.level c.in_ok-rigid.rigid.0 c.in_ok-instance.instance.0
    c.in_ok-rigid.ensures.instance c.in_ok-instance.ensures.instance c.unify.ensures.tightens
