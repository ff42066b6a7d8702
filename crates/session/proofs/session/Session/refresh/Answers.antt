use Rattle.std.proofs.Common.{refl, true}
use Rattle.session.proofs.Carrying.{some_after, some_none, types_after_ok}
use Rattle.session.proofs.Works.{reads_more, reads_typed, reads_typed_ok}
use Rattle.session.proofs.session.Session.refresh.Goals as goal

pub returns-clause-reads : goal.returns-clause-reads
returns-clause-reads g c = reads_typed_ok c.type_again.result g.A.Analyser.opens c.args.self.now c.read_again.new.self c.type_again.new.self (g.C.Counts.tallies c.args.counts.now) (g.C.Counts.tallies c.read_again.new.counts) (g.C.Counts.tallies c.type_again.new.counts)
    c.read_again.ensures.reads c.type_again.ensures.takes

pub returns-clause-fails : goal.returns-clause-fails
returns-clause-fails g c = reads_typed g.A.Analyser.opens true c.args.self.now c.read_again.new.self c.type_again.new.self (g.C.Counts.tallies c.args.counts.now) (g.C.Counts.tallies c.read_again.new.counts) (g.C.Counts.tallies c.type_again.new.counts)
    c.read_again.ensures.reads c.type_again.ensures.fails

pub returns-in_err-read_again-clause-fails : goal.returns-in_err-read_again-clause-fails
returns-in_err-read_again-clause-fails g c = reads_more g.A.Analyser.opens true c.args.self.now c.read_again.new.self (g.C.Counts.tallies c.args.counts.now) (g.C.Counts.tallies c.read_again.new.counts) c.read_again.ensures.reads

pub returns-clause-types : goal.returns-clause-types
returns-clause-types g c = types_after_ok c.type_again.result c.args.self.now c.read_again.new.self c.type_again.new.self (g.C.Counts.tallies c.args.counts.now) (g.C.Counts.tallies c.read_again.new.counts) (g.C.Counts.tallies c.type_again.new.counts)
    c.read_again.ensures.rest.0 c.read_again.ensures.rest.3 c.read_again.ensures.untyped c.type_again.ensures.types

pub returns-in_err-read_again-clause-goes : goal.returns-in_err-read_again-clause-goes
returns-in_err-read_again-clause-goes g c = some_none c.args.self.now c.read_again.new.self (g.C.Counts.tallies c.args.counts.now) (g.C.Counts.tallies c.read_again.new.counts) (g.C.Counts.tallies c.read_again.new.counts) c.read_again.ensures.rest.3 c.read_again.ensures.untyped refl

pub returns-clause-goes : goal.returns-clause-goes
returns-clause-goes g c = some_after c.args.self.now c.read_again.new.self c.type_again.new.self (g.C.Counts.tallies c.args.counts.now) (g.C.Counts.tallies c.read_again.new.counts) (g.C.Counts.tallies c.type_again.new.counts) c.read_again.ensures.rest.0 c.read_again.ensures.rest.3 c.read_again.ensures.untyped c.type_again.ensures.goes
