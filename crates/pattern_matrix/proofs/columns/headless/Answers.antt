use Rattle.std.proofs.Common.{refl}
use Rattle.pattern_matrix.specs.Lines.{headless, line_without_head}
use Rattle.pattern_matrix.specs.Views.{line_view, lines_view}
use Rattle.pattern_matrix.proofs.Squeezing.{walk}
use Rattle.pattern_matrix.proofs.columns.headless.Goals as goal

pub loop-line-preserved : goal.loop-line-preserved
loop-line-preserved c =
    walk (λ xs. headless (lines_view xs)) (λ x. line_without_head (line_view x)) (lines_view c.loop-line.kept.items) (lines_view c.put_line_headless.new.kept.items)
    (headless (lines_view c.args.lines.now)) c.args.lines.now c.loop-line.line-index c.line-item.result (λ z zs. refl) c.loop-line-test.true c.line-item.is
    c.in_ok-put_line_headless.ensures c.loop-line.invariant
