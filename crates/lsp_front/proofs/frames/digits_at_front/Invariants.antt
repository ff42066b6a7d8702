use Rattle.std.proofs.Common.{◌≡◌, ◌+◌, drop}
use Rattle.lsp_model.specs.Frames.{front_run, is_digit}
use Rattle.lsp_front.proofs.frames.digits_at_front.Given as goal

abbrev pub invariant-loop-at : goal.invariant-loop-at
invariant-loop-at l = l.at + front_run is_digit (drop l.at l.text) ≡ front_run is_digit l.text
