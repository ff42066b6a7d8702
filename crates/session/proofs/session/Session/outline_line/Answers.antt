use Rattle.service_model.specs.Structure.{OutlineIs}
use Rattle.session.proofs.Answering.{says_line}
use Rattle.session.proofs.Works.{line_works}
use Rattle.session.proofs.session.Session.outline_line.Goals as goal

pub returns-clause-says : goal.returns-clause-says
returns-clause-says g c = says_line (OutlineIs c.args.self.now.text) c.outline_now-reply.result c.line_of.result c.outline_now-reply.ensures.said c.line_of.ensures.written c.line_of.ensures.memory

pub returns-clause-works : goal.returns-clause-works
returns-clause-works g c =
    line_works c.outline_now-reply.result g.A.Analyser.opens c.line_of.result c.args.self.now c.outline_now-reply.new.self (g.C.Counts.tallies c.args.counts.now) (g.C.Counts.tallies c.outline_now-reply.new.counts) c.line_of.ensures.memory c.outline_now-reply.ensures.current c.outline_now-reply.ensures.settles c.outline_now-reply.ensures.reads c.outline_now-reply.ensures.fails c.outline_now-reply.ensures.goes
