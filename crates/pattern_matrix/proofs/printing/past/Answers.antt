use Rattle.std.proofs.lemmas.Str.{IsCharBoundary-after_ascii}
use Rattle.pattern_matrix.proofs.Labels.{mark_ascii}
use Rattle.pattern_matrix.proofs.printing.past.Goals as goal

pub range_from-requires : goal.range_from-requires
range_from-requires c = λ positive. IsCharBoundary-after_ascii c.args.labels.now c.args.end c.utf8.labels c.requires.within (mark_ascii _ c.requires.mark)
