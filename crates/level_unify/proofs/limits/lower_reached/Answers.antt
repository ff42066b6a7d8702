use Rattle.std.specs.Prelude.{nat_eq}
use Rattle.std.specs.HashSet.{contains}
use Rattle.level_unify.specs.Solutions.{cap_of}
use Rattle.level_unify.proofs.Capping.{capped_answer}
use Rattle.level_unify.proofs.limits.lower_reached.Goals as goal

pub returns-clause-capped : goal.returns-clause-capped
returns-clause-capped c =
    capped_answer c.args.store.now.nodes c.lower_found.new.store.nodes (cap_of c.args.limit) c.limit_to.new.low.level c.limit_to.new.low.scope (contains nat_eq c.limit_to.new.low.roots) (contains nat_eq c.reached_beyond.new.done)
    c.deref.result.now c.in_ok-found.found.items c.lower_found.result c.deref.ensures.value c.limit_to.ensures.level c.limit_to.ensures.scope c.requires.free c.in_ok-found.ensures.sound
    c.requires.inside (c.limit_to.ensures.low c.args.store.now.nodes c.requires.low) c.in_ok-found.ensures.found c.lower_found.ensures.lowered
