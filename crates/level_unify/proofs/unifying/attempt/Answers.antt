use Rattle.level_unify.specs.Solutions.{caps_of}
use Rattle.level_unify.proofs.Unified.{unified, changes_within}
use Rattle.level_unify.proofs.Tightening.{solved_tightens}
use Rattle.level_unify.proofs.Clashing.{scope_clash, caps_inside}
use Rattle.level_unify.proofs.unifying.attempt.Goals as goal

pub lower_all-requires : goal.lower_all-requires
lower_all-requires c = record {
  limits = λ x h. caps_inside c.args.store.now.nodes c.solve.new.store.nodes c.args.a.0 c.args.b.0 (caps_of c.solve.new.limits.items) c.in-Ok.ensures.solved c.in-Ok.ensures.tracked x h;
}

pub returns-in-Ok-lower_all-clause-unified : goal.returns-in-Ok-lower_all-clause-unified
returns-in-Ok-lower_all-clause-unified c = λ none.
    unified c.args.store.now.nodes c.solve.new.store.nodes c.lower_all.new.store.nodes c.args.a.0 c.args.b.0 (caps_of c.solve.new.limits.items)
    c.in-Ok.ensures.sound none c.in-Ok.ensures.solved c.in-Ok.ensures.tracked c.in-Ok-lower_all.ensures.capped

pub returns-in-Ok-lower_all-clause-within : goal.returns-in-Ok-lower_all-clause-within
returns-in-Ok-lower_all-clause-within c =
    changes_within c.args.store.now.nodes c.solve.new.store.nodes c.lower_all.new.store.nodes c.args.a.0 c.args.b.0 (caps_of c.solve.new.limits.items)
    c.in-Ok.ensures.solved c.in-Ok.ensures.tracked c.in-Ok-lower_all.ensures.capped

pub returns-in-Err-Clash-lower_all-clause-out_of_scope : goal.returns-in-Err-Clash-lower_all-clause-out_of_scope
returns-in-Err-Clash-lower_all-clause-out_of_scope c = λ e none.
    scope_clash c.args.store.now.nodes c.solve.new.store.nodes c.args.a.0 c.args.b.0 (caps_of c.solve.new.limits.items)
    c.len.ensures.sound c.requires.a c.requires.b c.in-Ok.ensures.sound none c.in-Ok.ensures.solved c.in-Ok.ensures.tracked (c.in-Err-Clash-lower_all.ensures.clash c.in-Err-Clash-lower_all.field-0-is)

pub returns-in-Ok-lower_all-clause-tightens : goal.returns-in-Ok-lower_all-clause-tightens
returns-in-Ok-lower_all-clause-tightens c =
    solved_tightens c.args.store.now.nodes c.solve.new.store.nodes c.lower_all.new.store.nodes c.args.a.0 c.args.b.0 (caps_of c.solve.new.limits.items) c.in-Ok.ensures.solved c.in-Ok-lower_all.ensures.capped
