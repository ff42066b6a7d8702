use Rattle.std.proofs.Common.{◌≡◌, drop}
use Rattle.std.specs.Prelude.{◌||◌}
use Rattle.std.specs.HashSet.{contains}
use Rattle.std.specs.List.{list_any}
use Rattle.text_changes.specs.Trials.{same_code}
use Rattle.text_changes.specs.declared.trials.Mark as code
use Rattle.text_changes.proofs.trials.set_of.Given as goal

abbrev pub invariant-loop-mark : goal.invariant-loop-mark
invariant-loop-mark l = (m : code.Mark) → (contains same_code l.known m || list_any (same_code m) (drop l.mark-index l.marks)) ≡ list_any (same_code m) l.marks
