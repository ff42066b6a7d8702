use Rattle.std.proofs.Common.{◌≡◌, ◌+◌, length, map, drop}
use Rattle.parse_frames.specs.Frames.{opened_chain}
use Rattle.parse_frames.specs.View.{opening_view}
use Rattle.parse_frames.specs.Stacks.{stack_view}
use Rattle.parse_frames.proofs.stack.Stack.open_chain.Given as goal

abbrev pub invariant-loop-opening : goal.invariant-loop-opening
invariant-loop-opening l =
    (length (stack_view l.stack).below ≡ length (stack_view l.self).below + l.opening-index) ×
    (opened_chain l.at (map opening_view (drop l.opening-index l.chain)) (stack_view l.stack) ≡ opened_chain l.spot (map opening_view l.chain) (stack_view l.self))
