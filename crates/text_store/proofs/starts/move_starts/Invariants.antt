use Rattle.std.proofs.Common.{◌≡◌, ◌+◌, ◌-◌, ◌++◌, take, drop, map}
use Rattle.text_store.proofs.starts.move_starts.Given as goal

abbrev pub invariant-loop-start : goal.invariant-loop-start
invariant-loop-start l = l.starts ≡ map (λ t. t - l.cut + l.added) (take l.start-index l.initial.starts) ++ drop l.start-index l.initial.starts
