use Rattle.std.proofs.Common.{arith, drop}
use Rattle.lsp_positions.specs.Texts.{whole}
use Rattle.lsp_positions.proofs.Walks.{line_zero}
use Rattle.lsp_positions.proofs.positions.line_start.Goals as goal

pub returns-then-left-eq0-clause-value : goal.returns-then-left-eq0-clause-value
returns-then-left-eq0-clause-value c = grind (arith, line_zero (drop c.loop-at.at (whole c.args.text)))
