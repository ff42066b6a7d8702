use Rattle.std.proofs.Common.{◌≡◌, ◌+◌, drop}
use Rattle.lsp_model.specs.Frames.{front_run, is_blank}
use Rattle.lsp_front.proofs.frames.blanks_at_front.Given as goal

abbrev pub invariant-loop-at : goal.invariant-loop-at
invariant-loop-at l = l.at + front_run is_blank (drop l.at l.text) ≡ front_run is_blank l.text
