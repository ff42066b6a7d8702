use Rattle.grammar_laws.proofs.Promises.{rows_are_separate}
use Rattle.syntax_rows.proofs.lookup.rows_are_separate.Goals as goal

pub returns-clause-separate : goal.returns-clause-separate
returns-clause-separate c = rows_are_separate
