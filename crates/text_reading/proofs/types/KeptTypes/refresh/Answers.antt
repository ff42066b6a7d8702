use Rattle.syntax_tree.specs.View.{trees_of}
use Rattle.text_reading.proofs.Fronts.{goes_nowhere, on_err}
use Rattle.text_reading.proofs.types.KeptTypes.refresh.Goals as goal

pub returns-in_err-typer-clause-failed : goal.returns-in_err-typer-clause-failed
returns-in_err-typer-clause-failed g c = on_err c.from_residual.result (goes_nowhere g.A.Analyser.items c.args.self.now c.take.new.self (trees_of c.args.tree.now) (g.C.Counts.tallies c.args.counts.now).typed (g.C.Counts.tallies c.take.new.counts).typed c.in_err-typer.ensures.fails c.in_err-typer.ensures.failed c.take.ensures.untyped)
