use Rattle.std.proofs.Common.{◌+◌, ◌*◌, ◌∷◌, map, drop, Option, List}
use Rattle.match_model.specs.Values.{Shape}
use Rattle.pattern_matrix.specs.Lines.{any, either, listed, lines_under}
use Rattle.pattern_matrix.specs.Weights.{work}
use Rattle.pattern_matrix.specs.Search.{Finds, some_in, members_in}
use Rattle.pattern_matrix.specs.Known.{IsKnown}
use Rattle.pattern_matrix.specs.Views.{members_of, typed_of, cell_view, cells_view, lines_view, head_view}
use Rattle.pattern_matrix.proofs.search.+search.Given as goal

abbrev pub decreases-search : goal.decreases-search
decreases-search l = 8 * work (lines_view l.lines.items) (cells_view l.row.items) + 3

abbrev pub decreases-search_any : goal.decreases-search_any
decreases-search_any l = 8 * work (lines_view l.lines.now) (any ∷ cells_view l.rest.now) + 1

abbrev pub decreases-search_default : goal.decreases-search_default
decreases-search_default l = 8 * work (lines_view l.lines.now) (any ∷ cells_view l.rest.now)

abbrev pub decreases-search_either : goal.decreases-search_either
decreases-search_either l = 8 * work (lines_view l.lines.now) (either (listed (map typed_of l.pats.now)) ∷ cells_view l.rest.now) + 1

abbrev pub decreases-search_first : goal.decreases-search_first
decreases-search_first l = 8 * work (lines_view l.lines.now) (cell_view l.first ∷ cells_view l.rest.now) + 2

abbrev pub decreases-search_members : goal.decreases-search_members
decreases-search_members l = 8 * work (lines_view l.lines.now) (any ∷ cells_view l.rest.now)

abbrev pub decreases-search_under : goal.decreases-search_under
decreases-search_under l = 8 * work (lines_under (head_view l.head) (lines_view l.lines.now)) (cells_view l.row.items) + 4

abbrev pub invariant-search_either-loop-pat : goal.invariant-search_either-loop-pat
invariant-search_either-loop-pat l =
    IsKnown l.known ×
    ((r : Option (List Shape)) → Finds (some_in (lines_view l.lines) (listed (map typed_of (drop l.pat-index l.pats))) (cells_view l.rest)) r →
    Finds (some_in (lines_view l.lines) (listed (map typed_of l.pats)) (cells_view l.rest)) r)

abbrev pub invariant-search_members-loop-built : goal.invariant-search_members-loop-built
invariant-search_members-loop-built l =
    IsKnown l.known ×
    ((r : Option (List Shape)) → Finds (members_in (lines_view l.lines) (members_of (drop l.built-index l.all)) (cells_view l.rest)) r →
    Finds (members_in (lines_view l.lines) (members_of l.all) (cells_view l.rest)) r)
