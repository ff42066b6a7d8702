use Rattle.std.proofs.Common.{◌∙◌, ap}
use Rattle.grammar_model.specs.Rows.{row_at}
use Rattle.syntax_rows.proofs.Named.{row_named}
use Rattle.frame_steps.proofs.rules.row_named.Goals as goal

pub returns : goal.returns
returns c = row_named c.name_at.result c.args.row (c.name_at.ensures ∙ ap (λ ws. (row_at ws c.args.row).name) c.grammar.ensures.rows)
