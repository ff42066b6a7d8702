use Rattle.std.proofs.Common.{◌≡◌, ◌+◌, ◌*◌, ◌^◌, ◌≤◌, drop}
use Rattle.lsp_model.specs.Frames.{number_from}
use Rattle.lsp_front.proofs.frames.number_of.Given as goal

abbrev pub invariant-loop-digit : goal.invariant-loop-digit
invariant-loop-digit l = (l.number + 23 ≤ 23 * 10 ^ l.digit-index) × (number_from l.number (drop l.digit-index l.digits) ≡ number_from 0 l.digits)
