use Rattle.std.proofs.Common.{refl, sym, ◌∙◌}
use Rattle.type_terms.specs.Views.{path_of}
use Rattle.type_reading.specs.Copying.{paths_of}
use Rattle.typing_state.proofs.Going.{goes_refl, goes_trans}
use Rattle.type_reading.proofs.Extending.{extends_refl, extends_trans}
use Rattle.sig_template.specs.Structures.{entries_of}
use Rattle.sig_template.specs.Finding.{side_at}
use Rattle.sig_template.proofs.Reals.{own_found, finding_other, module_found, nothing_found, before_later, finding_more, finding_structure, finding_functor, finding_hole}
use Rattle.sig_template.proofs.realising.Realised.+realising.Goals as goal

pub entry-returns-in-Some-clause-found : goal.entry-returns-in-Some-clause-found
entry-returns-in-Some-clause-found t c =
    own_found c.origin.result c.args.asked.older c.args.at.now.store.nodes (paths_of c.args.asked.made.now) (side_at c.args.actual) c.args.wanted.now (path_of c.in-Some.origin.now) c.as_str.result.now
    c.args.self.now.changes.real.items c.origin.new.self.changes.real.items c.as_str.ensures c.in-Some.ensures c.origin.ensures.gives

pub entry-returns-in-None-clause-found : goal.entry-returns-in-None-clause-found
entry-returns-in-None-clause-found t c = λ before is es o.
    finding_other before (paths_of c.args.asked.made.now) o (side_at c.args.actual) c.args.wanted.now es c.args.self.now.changes.real.items (sym c.in_default.ensures) (sym c.in-None.ensures)

pub entry-returns-in_ok-inside-in-Some-sig_in-clause-found : goal.entry-returns-in_ok-inside-in-Some-sig_in-clause-found
entry-returns-in_ok-inside-in-Some-sig_in-clause-found t c =
    module_found c.module.result c.args.asked.older c.args.at.now.store.nodes (paths_of c.args.asked.made.now) (side_at c.args.actual) (side_at c.module_named-inner.result) c.args.wanted.now
    c.in-Some-sig_in.sig.now.value c.deref.result.now c.as_str-in-Some-sig_in.result.now c.args.self.now.changes.real.items c.module.new.self.changes.real.items
    c.as_str-in-Some-sig_in.ensures c.module_named-inner.ensures c.in-Some-sig_in.ensures c.deref.ensures c.module.ensures.found

pub module-loop-entry-init : goal.module-loop-entry-init
module-loop-entry-init t c = record {
  goes = goes_refl c.args.at.now;
  extends = extends_refl c.args.at.now.store.nodes;
  made = refl;
  found = λ before is o. nothing_found before (paths_of c.args.asked.made.now) o (side_at c.args.actual) (entries_of c.deref-entry-items.result.now) c.args.self.now.changes.real.items;
}

pub module-returns-in_err-inside-in-Structure-clause-goes : goal.module-returns-in_err-inside-in-Structure-clause-goes
module-returns-in_err-inside-in-Structure-clause-goes t c = c.loop-entry.invariant.goes

pub module-returns-in_err-entry-in-Structure-clause-goes : goal.module-returns-in_err-entry-in-Structure-clause-goes
module-returns-in_err-entry-in-Structure-clause-goes t c = goes_trans c.args.at.now c.loop-entry.at c.entry.new.at c.loop-entry.invariant.goes c.in_err-entry-in-Structure.ensures.goes

pub module-loop-entry-preserved : goal.module-loop-entry-preserved
module-loop-entry-preserved t c = record {
  goes = goes_trans c.args.at.now c.loop-entry.at c.entry.new.at c.loop-entry.invariant.goes c.in_ok-entry-in-Structure.ensures.goes;
  extends = extends_trans c.args.at.now.store.nodes c.loop-entry.at.store.nodes c.entry.new.at.store.nodes c.loop-entry.invariant.extends c.in_ok-entry-in-Structure.ensures.extends;
  made = c.in_ok-entry-in-Structure.ensures.made ∙ c.loop-entry.invariant.made;
  found = λ before is o.
      finding_more before (paths_of c.args.asked.made.now) o (side_at c.args.actual) c.deref-entry-items.result.now c.loop-entry.entry-index c.entry-item.result c.deref.result.now
      c.args.self.now.changes.real.items c.loop-entry.self.changes.real.items c.entry.new.self.changes.real.items c.loop-entry-test.true c.entry-item.is c.deref.ensures (c.loop-entry.invariant.found before is o)
      (λ rest. c.in_ok-entry-in-Structure.ensures.found before (before_later before c.args.at.now.store.nodes c.loop-entry.at.store.nodes c.args.asked.older is c.loop-entry.invariant.extends) rest o);
}

pub module-returns-after-loop-entry-clause-found : goal.module-returns-after-loop-entry-clause-found
module-returns-after-loop-entry-clause-found t c = λ before is o.
    finding_structure before (paths_of c.args.asked.made.now) o (side_at c.args.actual) c.args.wanted.now c.in-Structure.components c.deref-entry-items.result.now c.loop-entry.entry-index
    c.args.self.now.changes.real.items c.loop-entry.self.changes.real.items c.in-Structure.is c.deref-entry-items.ensures.value c.loop-entry-test.false (c.loop-entry.invariant.found before is o)

pub module-returns-after-loop-entry-clause-made : goal.module-returns-after-loop-entry-clause-made
module-returns-after-loop-entry-clause-made t c = c.loop-entry.invariant.made

pub module-returns-after-loop-entry-clause-extends : goal.module-returns-after-loop-entry-clause-extends
module-returns-after-loop-entry-clause-extends t c = c.loop-entry.invariant.extends

pub module-returns-after-loop-entry-clause-goes : goal.module-returns-after-loop-entry-clause-goes
module-returns-after-loop-entry-clause-goes t c = c.loop-entry.invariant.goes

pub module-returns-in-Functor-clause-found : goal.module-returns-in-Functor-clause-found
module-returns-in-Functor-clause-found t c = λ before is o.
    finding_functor before (paths_of c.args.asked.made.now) o (side_at c.args.actual) c.args.wanted.now c.in-Functor.field-0 c.in-Functor.field-1 c.args.self.now.changes.real.items c.in-Functor.is

pub module-returns-in-Hole-clause-found : goal.module-returns-in-Hole-clause-found
module-returns-in-Hole-clause-found t c = λ before is o.
    finding_hole before (paths_of c.args.asked.made.now) o (side_at c.args.actual) c.args.wanted.now c.args.self.now.changes.real.items c.in-Hole.is

pub entry-returns-in-Some-clause-goes : goal.entry-returns-in-Some-clause-goes
entry-returns-in-Some-clause-goes t c = c.origin.ensures.goes

pub entry-returns-in-None-clause-goes : goal.entry-returns-in-None-clause-goes
entry-returns-in-None-clause-goes t c = goes_refl c.args.at.now

pub module-returns-in-Functor-clause-goes : goal.module-returns-in-Functor-clause-goes
module-returns-in-Functor-clause-goes t c = goes_refl c.args.at.now

pub module-returns-in-Hole-clause-goes : goal.module-returns-in-Hole-clause-goes
module-returns-in-Hole-clause-goes t c = goes_refl c.args.at.now
