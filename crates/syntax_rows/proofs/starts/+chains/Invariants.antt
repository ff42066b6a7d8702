use Rattle.std.proofs.Common.{◌≡◌, ◌+◌, ◌-◌, ◌*◌, ◌<◌, drop, map}
use Rattle.grammar_model.specs.Rows.{chain_to, chain_in}
use Rattle.grammar_model.specs.Separate.{head_of}
use Rattle.syntax_rows.specs.Numbers.{key_number, sort_number}
use Rattle.syntax_rows.specs.View.{rows_of, row_of}
use Rattle.syntax_rows.proofs.starts.+chains.Given as goal

abbrev pub decreases-begins_within : goal.decreases-begins_within
decreases-begins_within l = 3 * l.depth

abbrev pub decreases-starts : goal.decreases-starts
decreases-starts l = 3 * l.depth + 1

abbrev pub decreases-begins_here : goal.decreases-begins_here
decreases-begins_here l = 3 * l.depth + 2

-- the first row among those left is the first of all
abbrev pub invariant-begins_within-loop-row : goal.invariant-begins_within-loop-row
invariant-begins_within-loop-row l =
    (l.at ≡ l.row-index) × (0 < l.depth) ×
    (head_of (chain_in (rows_of l.table) (chain_to (l.depth - 1) (rows_of l.table)) l.at (map (row_of l.table) (drop l.row-index l.table.rows.now)) (sort_number l.sort) (key_number l.key))
    ≡ head_of (chain_to l.depth (rows_of l.table) (sort_number l.sort) (key_number l.key)))
