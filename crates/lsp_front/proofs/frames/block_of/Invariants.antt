use Rattle.std.proofs.Common.{◌≡◌, ◌-◌, ◌≤◌, [], drop, take}
use Rattle.lsp_model.specs.Frames.{block_from, nothing}
use Rattle.lsp_front.specs.Heads.{told_of}
use Rattle.lsp_front.proofs.frames.block_of.Given as goal

abbrev pub invariant-loop-at : goal.invariant-loop-at
invariant-loop-at l = (l.start ≤ l.at) × (block_from l.at (told_of l.told) (take (l.at - l.start) (drop l.start l.bytes)) (drop l.at l.bytes) ≡ block_from 0 nothing [] l.bytes)
