use Rattle.std.proofs.Common.{◌++◌, ◌∷◌, [], ap, sym, ◌∙◌}
use Rattle.match_model.specs.Values.{open_shape}
use Rattle.pattern_matrix.proofs.Listing.{open_shapes_more}
use Rattle.pattern_matrix.proofs.search.open_shapes.Goals as goal

pub loop-preserved : goal.loop-preserved
loop-preserved c = c.in_ok-put_open.ensures ∙ ap (λ l. l ++ open_shape ∷ []) c.loop.invariant ∙ sym (open_shapes_more c.loop.counter)
