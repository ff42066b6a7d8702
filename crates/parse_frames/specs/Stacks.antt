-- What the code's stack is as a plain one.
use Rattle.parse_frames.specs.Frames as plain
use Rattle.parse_frames.specs.Frames.{frame, stack}
use Rattle.syntax_rows.specs.View.{last_of}
use Rattle.parse_frames.specs.View.{parts_view, frames_view}
use Rattle.parse_frames.specs.declared.stack.Stack.{Stack}

-- a stack without the number of its frames
abbrev pub stack_view : Stack → plain.Stack
stack_view s = stack (frame s.number s.spot (parts_view s.parts)) (frames_view s.below) (last_of s.last) s.place
