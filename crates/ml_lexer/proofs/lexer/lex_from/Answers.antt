use Rattle.std.proofs.Common.{◌++◌}
use Rattle.ml_lexer.proofs.Columns.{column_front}
use Rattle.ml_lexer.proofs.lexer.lex_from.Goals as goal

pub lex_on-requires-clause-col : goal.lex_on-requires-clause-col
lex_on-requires-clause-col g c = column_front (c.args.left.now ++ c.args.right.now) c.args.at c.column_ahead-col.result c.column_ahead-col.ensures
