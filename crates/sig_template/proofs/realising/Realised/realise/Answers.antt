use Rattle.std.proofs.Common.{ap}
use Rattle.type_reading.specs.Copying.{paths_of}
use Rattle.sig_template.proofs.Reals.{unknown_realises, walk_realises, known_structure, known_functor}
use Rattle.sig_template.proofs.realising.Realised.realise.Goals as goal

pub returns-in-Hole-clause-realises : goal.returns-in-Hole-clause-realises
returns-in-Hole-clause-realises c =
    unknown_realises c.all_unknown.result c.args.older c.args.at.now.store.nodes c.args.actual.now c.args.wanted.now c.deref-in-Hole.result.now c.args.self.now c.all_unknown.new.self
    c.in-Hole.is c.deref-in-Hole.ensures.value c.all_unknown.ensures.unknown c.all_unknown.ensures.made

pub returns-in-Structure-clause-realises : goal.returns-in-Structure-clause-realises
returns-in-Structure-clause-realises c =
    walk_realises c.module.result c.args.older c.args.at.now.store.nodes c.args.actual.now c.deref-in-Structure.result.now c.args.wanted.now (paths_of c.deref.result.now) c.args.self.now c.module.new.self
    (known_structure c.args.actual.now c.in-Structure.field-0 c.in-Structure.is) (ap paths_of c.deref.ensures.value) c.deref-in-Structure.ensures c.module.ensures.found c.module.ensures.made

pub returns-in-Functor-clause-realises : goal.returns-in-Functor-clause-realises
returns-in-Functor-clause-realises c =
    walk_realises c.module-in-Functor.result c.args.older c.args.at.now.store.nodes c.args.actual.now c.deref-in-Functor.result.now c.args.wanted.now (paths_of c.deref.result.now) c.args.self.now c.module-in-Functor.new.self
    (known_functor c.args.actual.now c.in-Functor.field-0 c.in-Functor.field-1 c.in-Functor.is) (ap paths_of c.deref.ensures.value) c.deref-in-Functor.ensures c.module-in-Functor.ensures.found c.module-in-Functor.ensures.made

pub returns-in-Hole-clause-goes : goal.returns-in-Hole-clause-goes
returns-in-Hole-clause-goes c = c.all_unknown.ensures.goes

pub returns-in-Structure-clause-goes : goal.returns-in-Structure-clause-goes
returns-in-Structure-clause-goes c = c.module.ensures.goes

pub returns-in-Functor-clause-goes : goal.returns-in-Functor-clause-goes
returns-in-Functor-clause-goes c = c.module-in-Functor.ensures.goes
