use Rattle.std.proofs.Common.{map, ap, sym, ◌∙◌}
use Rattle.std.proofs.lemmas.List.{take-map, drop-map}
use Rattle.pattern_matrix.specs.Views.{shape_of}
use Rattle.pattern_matrix.proofs.search.cut.Goals as goal

pub returns-in-Ok-clause-front : goal.returns-in-Ok-clause-front
returns-in-Ok-clause-front c = ap (map shape_of) c.in-Ok.ensures.items ∙ sym (take-map shape_of c.args.count c.args.shapes.now.items)

pub returns-in-Ok-clause-back : goal.returns-in-Ok-clause-back
returns-in-Ok-clause-back c = ap (map shape_of) c.in-Ok.ensures.tail ∙ sym (drop-map shape_of c.args.count c.args.shapes.now.items)
