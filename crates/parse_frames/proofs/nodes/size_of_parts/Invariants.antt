use Rattle.std.proofs.Common.{◌≡◌, ◌+◌, ◌-◌, ◌^◌, ◌<◌, min}
use Rattle.syntax_tree.specs.Names.{row_of}
use Rattle.parse_frames.specs.Frames.{sizes_in}
use Rattle.parse_frames.specs.View.{parts_view}
use Rattle.parse_frames.proofs.nodes.size_of_parts.Given as goal

abbrev pub invariant-loop-rest : goal.invariant-loop-rest
invariant-loop-rest l = (l.size < 2 ^ 32) × (min (l.size + sizes_in (row_of l.name) (parts_view l.rest)) (2 ^ 32 - 1) ≡ min (sizes_in (row_of l.name) (parts_view l.parts)) (2 ^ 32 - 1))
