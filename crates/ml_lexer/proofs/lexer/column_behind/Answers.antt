use Rattle.std.proofs.Common.{◌-◌, ◌++◌, arith}
use Rattle.ml_lexer.proofs.Columns.{column_next, column_small}
use Rattle.ml_lexer.proofs.lexer.column_behind.Goals as goal

pub column_ahead-requires-clause-few : goal.column_ahead-requires-clause-few
column_ahead-requires-clause-few c =
    let order = c.requires.order in
    let inside = c.requires.inside in
    column_small (c.args.left.now ++ c.args.right.now) c.args.token.now.span.start c.args.token.now.col c.requires.col (omega arith)

pub returns : goal.returns
returns c =
    let span = c.args.token.now.span in
    let order = c.requires.order in
    column_next (c.args.left.now ++ c.args.right.now) span.start (span.end - span.start) span.end c.args.token.now.col c.column_ahead.result c.requires.col c.column_ahead.ensures (omega arith)
