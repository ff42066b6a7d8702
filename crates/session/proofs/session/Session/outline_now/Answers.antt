use Rattle.std.proofs.Common.{refl, true, false}
use Rattle.session.proofs.Carrying.{some_none}
use Rattle.session.proofs.Works.{reads_idle, reads_more}
use Rattle.session.proofs.session.Session.outline_now.Goals as goal

pub returns-in_err-read_again-clause-fails : goal.returns-in_err-read_again-clause-fails
returns-in_err-read_again-clause-fails g c = reads_more g.A.Analyser.opens true c.args.self.now c.read_again.new.self (g.C.Counts.tallies c.args.counts.now) (g.C.Counts.tallies c.read_again.new.counts) c.read_again.ensures.reads

pub returns-in_err-outline-clause-fails : goal.returns-in_err-outline-clause-fails
returns-in_err-outline-clause-fails g c = reads_more g.A.Analyser.opens true c.args.self.now c.read_again.new.self (g.C.Counts.tallies c.args.counts.now) (g.C.Counts.tallies c.outline.new.counts) (reads_idle g.A.Analyser.opens false c.args.self.now c.read_again.new.self c.read_again.new.self (g.C.Counts.tallies c.args.counts.now) (g.C.Counts.tallies c.read_again.new.counts) (g.C.Counts.tallies c.outline.new.counts) c.read_again.ensures.reads refl (c.outline.ensures.idle c.in_ok-read_again.ensures.current))

pub returns-clause-reads : goal.returns-clause-reads
returns-clause-reads g c = reads_idle g.A.Analyser.opens false c.args.self.now c.read_again.new.self c.read_again.new.self (g.C.Counts.tallies c.args.counts.now) (g.C.Counts.tallies c.read_again.new.counts) (g.C.Counts.tallies c.outline.new.counts) c.read_again.ensures.reads refl (c.outline.ensures.idle c.in_ok-read_again.ensures.current)

pub returns-clause-fails : goal.returns-clause-fails
returns-clause-fails g c = reads_more g.A.Analyser.opens true c.args.self.now c.read_again.new.self (g.C.Counts.tallies c.args.counts.now) (g.C.Counts.tallies c.outline.new.counts) (reads_idle g.A.Analyser.opens false c.args.self.now c.read_again.new.self c.read_again.new.self (g.C.Counts.tallies c.args.counts.now) (g.C.Counts.tallies c.read_again.new.counts) (g.C.Counts.tallies c.outline.new.counts) c.read_again.ensures.reads refl (c.outline.ensures.idle c.in_ok-read_again.ensures.current))

pub returns-in_err-read_again-clause-goes : goal.returns-in_err-read_again-clause-goes
returns-in_err-read_again-clause-goes g c = some_none c.args.self.now c.read_again.new.self (g.C.Counts.tallies c.args.counts.now) (g.C.Counts.tallies c.read_again.new.counts) (g.C.Counts.tallies c.read_again.new.counts) c.read_again.ensures.rest.3 c.read_again.ensures.untyped refl

pub returns-in_err-outline-clause-goes : goal.returns-in_err-outline-clause-goes
returns-in_err-outline-clause-goes g c = some_none c.args.self.now c.read_again.new.self (g.C.Counts.tallies c.args.counts.now) (g.C.Counts.tallies c.read_again.new.counts) (g.C.Counts.tallies c.outline.new.counts) c.read_again.ensures.rest.3 c.read_again.ensures.untyped (c.outline.ensures.idle c.in_ok-read_again.ensures.current)

pub returns-clause-goes : goal.returns-clause-goes
returns-clause-goes g c = some_none c.args.self.now c.read_again.new.self (g.C.Counts.tallies c.args.counts.now) (g.C.Counts.tallies c.read_again.new.counts) (g.C.Counts.tallies c.outline.new.counts) c.read_again.ensures.rest.3 c.read_again.ensures.untyped (c.outline.ensures.idle c.in_ok-read_again.ensures.current)
