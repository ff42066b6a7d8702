use Rattle.std.proofs.Common.{◌≡◌, ◌≤◌, length}
use Rattle.plain_model.specs.Plain as plain
use Rattle.plain_typing.specs.View.{env_of}
use Rattle.plain_typing.proofs.scope.type_in.Given as goal

abbrev pub invariant-loop-older : goal.invariant-loop-older
invariant-loop-older l = (plain.type_in (env_of l.older) l.name ≡ plain.type_in (env_of l.env) l.name) × (length l.older ≤ length l.env)

abbrev pub decreases-loop-older : goal.decreases-loop-older
decreases-loop-older l = length l.older
