use Rattle.std.proofs.Common.{◌≡◌, ◌++◌, ◌∷◌, drop}
use Rattle.type_reading.proofs.copies.in_front.Given as goal

abbrev pub invariant-loop-member : goal.invariant-loop-member
invariant-loop-member l = l.path.items ++ drop l.member-index l.origin.path.items ≡ l.number ∷ l.origin.path.items
