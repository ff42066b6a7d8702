use Rattle.std.proofs.Common.{refl}
use Rattle.pattern_matrix.specs.Lines.{lines_under, line_under}
use Rattle.pattern_matrix.specs.Views.{line_view, lines_view, head_view}
use Rattle.pattern_matrix.proofs.Squeezing.{walk}
use Rattle.pattern_matrix.proofs.columns.lines_under.Goals as goal

pub loop-line-preserved : goal.loop-line-preserved
loop-line-preserved c =
    let h = head_view c.args.head in
    walk (λ xs. lines_under h (lines_view xs)) (λ x. line_under h (line_view x)) (lines_view c.loop-line.under.items) (lines_view c.put_line_under.new.lines.items)
    (lines_under h (lines_view c.args.lines.now)) c.args.lines.now c.loop-line.line-index c.line-item.result (λ z zs. refl) c.loop-line-test.true c.line-item.is
    c.in_ok-put_line_under.ensures c.loop-line.invariant
