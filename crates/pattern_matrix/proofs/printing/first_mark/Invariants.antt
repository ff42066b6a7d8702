use Rattle.std.proofs.Common.{◌≡◌, ◌++◌, ℕ, List, take, drop}
use Rattle.match_model.specs.Printed.{label_names}
use Rattle.pattern_matrix.proofs.printing.first_mark.Given as goal

abbrev pub invariant-loop-i : goal.invariant-loop-i
invariant-loop-i l = (label : List ℕ) → label_names l.labels label ≡ label_names (drop l.i l.labels) (label ++ take l.i l.labels)
