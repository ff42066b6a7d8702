use Rattle.service_model.specs.Structure.{ErrorsAre}
use Rattle.session.proofs.Answering.{says_line}
use Rattle.session.proofs.Works.{line_works}
use Rattle.session.proofs.session.Session.errors_line.Goals as goal

pub returns-clause-says : goal.returns-clause-says
returns-clause-says g c = says_line (ErrorsAre c.args.self.now.text) c.errors_now-reply.result c.line_of.result c.errors_now-reply.ensures.said c.line_of.ensures.written c.line_of.ensures.memory

pub returns-clause-works : goal.returns-clause-works
returns-clause-works g c =
    line_works c.errors_now-reply.result g.A.Analyser.opens c.line_of.result c.args.self.now c.errors_now-reply.new.self (g.C.Counts.tallies c.args.counts.now) (g.C.Counts.tallies c.errors_now-reply.new.counts) c.line_of.ensures.memory c.errors_now-reply.ensures.current c.errors_now-reply.ensures.settles c.errors_now-reply.ensures.reads c.errors_now-reply.ensures.fails c.errors_now-reply.ensures.goes
