use Rattle.lsp_loop.proofs.Runs.{ends_first}
use Rattle.lsp_loop.proofs.run.run.Goals as goal

pub returns-in_default-clause-outcome : goal.returns-in_default-clause-outcome
returns-in_default-clause-outcome g c = ends_first _ _

pub returns-in_default-new-clause-outcome : goal.returns-in_default-new-clause-outcome
returns-in_default-new-clause-outcome g c = ends_first _ _
