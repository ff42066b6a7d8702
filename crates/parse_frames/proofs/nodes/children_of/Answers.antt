use Rattle.std.proofs.Common.{◌∙◌, ap, map}
use Rattle.syntax_tree.specs.View.{child_view, forest_of}
use Rattle.syntax_tree.proofs.Lists.{map_reverse}
use Rattle.parse_frames.specs.View.{parts_view}
use Rattle.parse_frames.proofs.Parts.{turned}
use Rattle.parse_frames.proofs.nodes.children_of.Goals as goal

pub returns : goal.returns
returns c =
    ap (λ xs. forest_of (map child_view xs)) c.reverse.ensures.items ∙ ap forest_of (map_reverse child_view c.loop-rest.children.items)
    ∙ turned (map child_view c.loop-rest.children.items) (parts_view c.args.parts.now) c.loop-rest.rest.now c.in_default.is c.loop-rest.invariant
