-- What is known to be covered.
use Rattle.std.proofs.Common.{List, [], ◌∷◌, ◌++◌, None}
use Rattle.pattern_matrix.specs.Search.{Finds}
use Rattle.pattern_matrix.specs.Known.{covered_task, AreCovered}
use Rattle.pattern_matrix.specs.declared.known.Covered.{Covered}

pub covered_more : (cs : List Covered) (c : Covered) → AreCovered cs → Finds (covered_task c) None → AreCovered (cs ++ c ∷ [])
covered_more [] c all one = (one, tt)
covered_more (d ∷ cs) c all one = (all.0, covered_more cs c all.1 one)
