use Rattle.std.proofs.Common.{arith, ◌-◌}
use Rattle.grammar_model.specs.Rows.{chain_to}
use Rattle.grammar_model.specs.Separate.{head_of}
use Rattle.syntax_rows.specs.Numbers.{key_number, sort_number}
use Rattle.syntax_rows.specs.View.{rows_of, row_of}
use Rattle.syntax_rows.proofs.Chains.{chain_found, chain_passed}
use Rattle.syntax_rows.proofs.starts.+chains.Goals as goal

pub begins_within-returns-then-begins_here : goal.begins_within-returns-then-begins_here
begins_within-returns-then-begins_here t c =
    chain_found (rows_of c.args.table) (chain_to (c.args.depth - 1) (rows_of c.args.table)) (row_of c.args.table) c.args.table.rows.now _ c.loop-row.row-index c.loop-row.at (sort_number c.args.sort) (key_number c.args.key) c.begins_here.result
    (head_of (chain_to c.args.depth (rows_of c.args.table) (sort_number c.args.sort) (key_number c.args.key))) c.loop-row-test.true c.begins_here.ensures c.if-begins_here.true c.loop-row.invariant.2

pub begins_within-loop-row-preserved : goal.begins_within-loop-row-preserved
begins_within-loop-row-preserved t c = (
  omega arith,
  c.loop-row.invariant.1,
  chain_passed (rows_of c.args.table) (chain_to (c.args.depth - 1) (rows_of c.args.table)) (row_of c.args.table) c.args.table.rows.now _ c.loop-row.row-index c.loop-row.at (sort_number c.args.sort) (key_number c.args.key) c.begins_here.result
      (head_of (chain_to c.args.depth (rows_of c.args.table) (sort_number c.args.sort) (key_number c.args.key))) c.loop-row-test.true c.begins_here.ensures c.if-begins_here.false c.loop-row.invariant.2,
)
