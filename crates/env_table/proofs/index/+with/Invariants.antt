use Rattle.std.proofs.Common.{◌+◌, ◌*◌}
use Rattle.env_table.proofs.index.+with.Given as goal

abbrev pub decreases-with : goal.decreases-with
decreases-with l = 2 * l.bits + 1

abbrev pub decreases-added : goal.decreases-added
decreases-added l = 2 * l.bits
