use Rattle.std.proofs.Common.{refl, map}
use Rattle.pattern_matrix.specs.Lines.{listed, without_head, each_without_head}
use Rattle.pattern_matrix.specs.Views.{typed_of, cells_view, lines_view}
use Rattle.pattern_matrix.proofs.Squeezing.{walk}
use Rattle.pattern_matrix.proofs.columns.+headless.Goals as goal

pub put_each_headless-loop-pat-preserved : goal.put_each_headless-loop-pat-preserved
put_each_headless-loop-pat-preserved t c =
    let rest = cells_view c.args.rest.now in
    let all = each_without_head (listed (map typed_of c.args.pats.now)) rest in
    walk (λ xs. each_without_head (listed (map typed_of xs)) rest) (λ x. without_head (typed_of x) rest) (lines_view c.loop-pat.kept.items)
    (lines_view c.put_headless.new.kept.items) _ c.args.pats.now c.loop-pat.pat-index c.pat-item.result (λ z zs. refl) c.loop-pat-test.true c.pat-item.is
    c.in_ok-put_headless.ensures c.loop-pat.invariant
