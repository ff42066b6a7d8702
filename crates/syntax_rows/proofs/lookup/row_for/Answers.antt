use Rattle.std.proofs.Common.{sym, ◌∙◌}
use Rattle.grammar_model.specs.Keys.{key_of}
use Rattle.syntax_tree.specs.View.{tok_of}
use Rattle.syntax_rows.specs.Numbers.{key_number, sort_number}
use Rattle.syntax_rows.specs.View.{rows_of, left_of}
use Rattle.syntax_rows.proofs.Named.{none_named, some_named}
use Rattle.syntax_rows.proofs.lookup.row_for.Goals as goal

pub returns-in-None : goal.returns-in-None
returns-in-None c =
    none_named (rows_of c.grammar-table.result) c.grammar-table.ensures.rows (sort_number c.args.sort) (left_of c.args.left) (key_number c.of.result) (key_of (tok_of c.args.token.now)) c.of.ensures
    (sym c.in-None.is ∙ c.number_for.ensures)

pub returns-in-Some : goal.returns-in-Some
returns-in-Some c =
    some_named (rows_of c.grammar-table.result) c.grammar-table.ensures.rows (sort_number c.args.sort) (left_of c.args.left) (key_number c.of.result) (key_of (tok_of c.args.token.now)) c.of.ensures
    c.in-Some.row c.name_at.result (sym c.in-Some.is ∙ c.number_for.ensures) c.name_at.ensures
