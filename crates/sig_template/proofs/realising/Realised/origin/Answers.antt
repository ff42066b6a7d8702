use Rattle.typing_state.proofs.Going.{goes_refl}
use Rattle.std.proofs.Common.{Some, sym, ◌∙◌, ap}
use Rattle.type_terms.specs.Views.{path_of}
use Rattle.sig_template.specs.Realising.{given_for}
use Rattle.sig_template.specs.Finding.{side_at}
use Rattle.sig_template.proofs.Reals.{put_gives, unknown_gives, declared_gives}
use Rattle.sig_template.proofs.realising.Realised.origin.Goals as goal

pub returns-in-Type-clause-gives : goal.returns-in-Type-clause-gives
returns-in-Type-clause-gives c = λ before is.
    put_gives c.args.self.now.changes before (given_for c.args.name.now (side_at c.args.actual)) (path_of c.args.origin.now) c.in-Type.root c.in-Type.arity (sym c.put.ensures ∙ c.in-Type.is)

pub returns-in-Hole : goal.returns-in-Hole
returns-in-Hole c = record {
  gives = unknown_gives c.unknown.result c.args.older c.args.at.now.store.nodes c.args.name.now (side_at c.args.actual) (path_of c.args.origin.now) c.args.self.now.changes.real.items c.unknown.new.self.changes.real.items
      (ap side_at c.in-Hole.is) c.unknown.ensures.added;
  made = c.unknown.ensures.made;
  extends = c.unknown.ensures.extends;
  goes = c.unknown.ensures.goes;
}

pub returns-in-Some : goal.returns-in-Some
returns-in-Some c = record {
  gives = declared_gives c.declared.result c.args.older c.args.at.now.store.nodes c.args.name.now (side_at c.args.actual) c.deref.result.now (path_of c.args.origin.now)
      c.args.self.now.changes.real.items c.declared.new.self.changes.real.items (sym c.in-Some.ensures ∙ ap (λ d. Some d) (sym c.deref.ensures)) c.declared.ensures.added;
  made = c.declared.ensures.made;
  extends = c.declared.ensures.extends;
  goes = c.declared.ensures.goes;
}

pub returns-in-Type-clause-goes : goal.returns-in-Type-clause-goes
returns-in-Type-clause-goes c = goes_refl c.args.at.now
