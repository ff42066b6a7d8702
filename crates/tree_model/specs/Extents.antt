-- What a node over parts tells of itself: the span from its first to its last token, its size and its height.
use Rattle.std.specs.Prelude.{ℕ, ◌+◌, max, Option, Some, None}
use Rattle.tree_model.specs.Rows.{Row}
use Rattle.tree_model.specs.Slots.{missing_size}
use Rattle.tree_model.specs.Trees.{Place, place, Extent, extent, Tree, Forest, Part, node, no_parts, part, taken, inner, missing}

-- what a node tells of itself
abbrev pub extent_of : Tree → Extent
extent_of (node r x ps) = x

-- from the start of the first of two places to the end of the second, where each is there
abbrev pub joined : Option Place → Option Place → Option Place
joined None q = q
joined (Some p) None = Some p
joined (Some p) (Some q) = Some (place p.start q.end)

-- from the first to the last token of a part; a missing part has none
abbrev pub part_span : Part → Option Place
part_span (taken t) = Some (place t.start t.end)
part_span (inner t) = Some (extent_of t).span
part_span (missing p) = None

-- from the first to the last token of parts in order
abbrev pub forest_span : Forest → Option Place
forest_span no_parts = None
forest_span (part slot p ps) = joined (part_span p) (forest_span ps)

-- where a part is
abbrev pub place_at : Part → Place
place_at (taken t) = place t.start t.end
place_at (inner t) = (extent_of t).span
place_at (missing p) = p

-- where a node with these tokens and parts is: without tokens at the place of its first part
abbrev pub span_or_place : Option Place → Forest → Place
span_or_place (Some p) ps = p
span_or_place None no_parts = place 0 0
span_or_place None (part slot p ps) = place_at p

-- the size that a part tells in its slot of a row: a missing operand counts as a node, and a token doesn't, taken or missing
abbrev pub told_size : Row → ℕ → Part → ℕ
told_size r slot (taken t) = 0
told_size r slot (inner t) = (extent_of t).size
told_size r slot (missing p) = missing_size r slot

-- the sum of the sizes that a row's parts tell
abbrev pub told_sizes : Row → Forest → ℕ
told_sizes r no_parts = 0
told_sizes r (part slot p ps) = told_size r slot p + told_sizes r ps

-- the height that a part tells: tokens and missing parts have none
abbrev pub told_height : Part → ℕ
told_height (taken t) = 0
told_height (inner t) = (extent_of t).height
told_height (missing p) = 0

-- the largest of the heights that parts tell
abbrev pub told_heights : Forest → ℕ
told_heights no_parts = 0
told_heights (part slot p ps) = max (told_height p) (told_heights ps)

-- the node of a row over these parts
abbrev pub node_over : Row → Forest → Tree
node_over r ps = node r (extent (span_or_place (forest_span ps) ps) (told_sizes r ps + 1) (told_heights ps + 1)) ps
