use Rattle.session_loop.proofs.Spendings.{spent_none}
use Rattle.session_loop.proofs.service.run_by.Goals as goal

pub returns-in-Err-Refused-clause-spent : goal.returns-in-Err-Refused-clause-spent
returns-in-Err-Refused-clause-spent g c = λ none. spent_none g.A.Analyser.opens (g.C.Counts.tallies c.args.counts.now) (g.S.Source.left c.args.src.now) (g.K.Sink.held c.args.sink.now)

pub returns-in-Err-NoMemory-clause-spent : goal.returns-in-Err-NoMemory-clause-spent
returns-in-Err-NoMemory-clause-spent g c = λ none. spent_none g.A.Analyser.opens (g.C.Counts.tallies c.args.counts.now) (g.S.Source.left c.args.src.now) (g.K.Sink.held c.args.sink.now)
