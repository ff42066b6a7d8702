use Rattle.std.proofs.Common.{◌≡◌}
use Rattle.parse_frames.specs.Frames.{frames_running, outer_parts, running_notes}
use Rattle.parse_frames.specs.Stacks.{stack_view}
use Rattle.parse_frames.specs.View.{frames_notes, frames_view, parts_notes, parts_view}
use Rattle.parse_frames.proofs.stack.Stack.outermost.Given as goal

-- the outermost frame's parts are those from here
abbrev pub invariant-loop-rest : goal.invariant-loop-rest
invariant-loop-rest l = record {
  same : outer_parts (parts_view l.parts) (frames_view l.rest) ≡ outer_parts (stack_view l.self).top.done (stack_view l.self).below;
  told : parts_notes l.parts ≡ running_notes (parts_view l.parts);
  below : frames_notes l.rest ≡ frames_running (frames_view l.rest);
}
