use Rattle.std.proofs.Common.{◌++◌, ◌∷◌, [], ap, sym, ◌∙◌}
use Rattle.pattern_matrix.specs.Lines.{any}
use Rattle.pattern_matrix.proofs.Squeezing.{opened_more}
use Rattle.pattern_matrix.proofs.columns.opened.Goals as goal

pub loop-preserved : goal.loop-preserved
loop-preserved c = c.in_ok-put_any.ensures ∙ ap (λ l. l ++ any ∷ []) c.loop.invariant ∙ sym (opened_more c.loop.counter)
