use Rattle.std.proofs.Common.{◌≡◌, drop}
use Rattle.text_terms.specs.Bytes.{str_bytes}
use Rattle.pattern_matrix.specs.Lines.{heads_some}
use Rattle.pattern_matrix.specs.Views.{lines_view}
use Rattle.pattern_matrix.proofs.columns.heads_some.Given as goal

abbrev pub invariant-loop-line : goal.invariant-loop-line
invariant-loop-line l = heads_some (str_bytes l.name) (lines_view (drop l.line-index l.lines)) ≡ heads_some (str_bytes l.name) (lines_view l.lines)
