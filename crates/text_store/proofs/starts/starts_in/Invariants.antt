use Rattle.std.proofs.Common.{◌≡◌, ◌+◌, ◌++◌, drop}
use Rattle.text_store.specs.Starts.{starts_from}
use Rattle.text_store.proofs.starts.starts_in.Given as goal

abbrev pub invariant-loop-i : goal.invariant-loop-i
invariant-loop-i l = l.starts.items ++ starts_from (l.at + l.i) (drop l.i l.piece) ≡ starts_from l.at l.piece
