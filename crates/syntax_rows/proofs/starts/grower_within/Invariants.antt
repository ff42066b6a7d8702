use Rattle.std.proofs.Common.{◌≡◌, drop, map}
use Rattle.grammar_model.specs.Rows.{grower_in, chain_to}
use Rattle.syntax_rows.specs.Numbers.{key_number, sort_number}
use Rattle.syntax_rows.specs.View.{rows_of, row_of}
use Rattle.syntax_rows.proofs.starts.grower_within.Given as goal

-- the grower among the rows left is the grower of all
abbrev pub invariant-loop-row : goal.invariant-loop-row
invariant-loop-row l = (l.at ≡ l.row-index) ×
    (grower_in (rows_of l.table) (chain_to 4 (rows_of l.table)) l.at (map (row_of l.table) (drop l.row-index l.table.rows.now)) (sort_number l.sort) (key_number l.key)
    ≡ grower_in (rows_of l.table) (chain_to 4 (rows_of l.table)) 0 (rows_of l.table) (sort_number l.sort) (key_number l.key))
