use Rattle.std.proofs.Common.{subst}
use Rattle.use_typing.proofs.Reading.{on_ok}
use Rattle.binding_rows.specs.Closing.{LimitsNodes}
use Rattle.binding_rows.proofs.LetTurns.{limits_one}
use Rattle.binding_steps.specs.Bindings.{name_nodes}
use Rattle.binding_steps.proofs.ClosingLaws.{general_one, held_one}
use Rattle.binding_steps.proofs.closing.hold_one.Goals as goal

pub returns-then-one-clause-limits : goal.returns-then-one-clause-limits
returns-then-one-clause-limits c = general_one c.args.at.now c.args.level c.args.one.now c.if-one.true

pub returns-clause-limits : goal.returns-clause-limits
returns-clause-limits c =
    on_ok c.hold.result (λ names.
    held_one c.args.at.now c.limit.new.self c.hold.new.at c.args.level c.args.one.now c.if-one.false (limits_one c.in_ok-limit.ensures.limited c.limit.ensures.rest c.limit.ensures.goes c.in_ok-limit.ensures.sound)
    (subst (λ ns. LimitsNodes c.limit.new.self c.hold.new.at c.args.level (name_nodes ns)) c.deref.ensures.value names)) c.hold.ensures.limits
