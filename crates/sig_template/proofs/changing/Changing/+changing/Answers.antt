use Rattle.std.proofs.Common.{List, refl, subst}
use Rattle.std.specs.declared.rc.Rc.{Rc}
use Rattle.std.specs.declared.alloc.Global.{Global}
use Rattle.type_nodes.specs.Nodes.{Node}
use Rattle.env_table.specs.declared.entries.Entry.{Entry}
use Rattle.type_reading.specs.declared.changes.Changes.{Changes}
use Rattle.type_reading.specs.Copying.{change_by}
use Rattle.typing_state.proofs.Going.{goes_trans, goes_refl}
use Rattle.sig_template.specs.Turns.{Turns, IsTurnedEntry, IsTurnedWhat, IsLiveThrough, IsLiveWithin}
use Rattle.sig_template.proofs.Turning.{turns_as, turns_more, turns_whole, owned_turns}
use Rattle.sig_template.proofs.Whats.{what_scheme, what_constructor, what_exception, what_label, what_type, what_module, what_module_type, template_both, sig_hole, sig_structure, sig_functor}
use Rattle.sig_template.proofs.changing.Changing.+changing.Goals as goal

pub what-returns-in_ok-ty-in-Scheme-clause-changed : goal.what-returns-in_ok-ty-in-Scheme-clause-changed
what-returns-in_ok-ty-in-Scheme-clause-changed t c =
    what_scheme c.args.self.changes.now c.args.old.now c.in-Scheme.root c.in_ok-ty-in-Scheme.field-0 c.args.at.now.store.nodes c.ty.new.at.store.nodes c.args.copies.now c.ty.new.copies
    c.in-Scheme.is (c.in_ok-ty-in-Scheme.ensures.changed)

pub what-returns-in_ok-owner-in-Constructor-clause-changed : goal.what-returns-in_ok-owner-in-Constructor-clause-changed
what-returns-in_ok-owner-in-Constructor-clause-changed t c =
    what_constructor c.args.self.changes.now c.args.old.now c.in-Constructor.declaration c.in_ok-owner-in-Constructor.field-0 c.in-Constructor.place c.deref.result.now
    c.args.at.now.store.nodes c.owner.new.at.store.nodes c.args.copies.now c.owner.new.copies c.in-Constructor.is c.deref.ensures (c.in_ok-owner-in-Constructor.ensures.changed)

pub what-returns-in_ok-exception-in-Exception-clause-changed : goal.what-returns-in_ok-exception-in-Exception-clause-changed
what-returns-in_ok-exception-in-Exception-clause-changed t c =
    what_exception c.args.self.changes.now c.args.old.now c.in-Exception.constructor c.in_ok-exception-in-Exception.field-0 c.deref-in-Exception.result.now
    c.args.at.now.store.nodes c.exception.new.at.store.nodes c.args.copies.now c.exception.new.copies c.in-Exception.is c.deref-in-Exception.ensures (c.in_ok-exception-in-Exception.ensures.changed)

pub what-returns-in_ok-owner-in-Label-clause-changed : goal.what-returns-in_ok-owner-in-Label-clause-changed
what-returns-in_ok-owner-in-Label-clause-changed t c =
    what_label c.args.self.changes.now c.args.old.now c.in-Label.declaration c.in_ok-owner-in-Label.field-0 c.in-Label.place c.deref-in-Label.result.now
    c.args.at.now.store.nodes c.owner-in-Label.new.at.store.nodes c.args.copies.now c.owner-in-Label.new.copies c.in-Label.is c.deref-in-Label.ensures (c.in_ok-owner-in-Label.ensures.changed)

pub what-returns-in_ok-latest-in-Type-clause-changed : goal.what-returns-in_ok-latest-in-Type-clause-changed
what-returns-in_ok-latest-in-Type-clause-changed t c =
    what_type c.args.self.changes.now c.args.old.now c.in-Type.declaration c.in_ok-latest-in-Type.field-0 c.deref-in-Type.result.now
    c.args.at.now.store.nodes c.latest.new.at.store.nodes c.args.copies.now c.latest.new.copies c.in-Type.is c.deref-in-Type.ensures (c.in_ok-latest-in-Type.ensures.changed)

pub sig-returns-in-Hole-clause-changed : goal.sig-returns-in-Hole-clause-changed
sig-returns-in-Hole-clause-changed t c =
    sig_hole c.owned.result c.args.self.changes.now c.args.old.now c.args.at.now.store.nodes c.args.copies.now c.in-Hole.is c.owned.ensures

pub sig-returns-in_ok-entries-in-Structure-clause-changed : goal.sig-returns-in_ok-entries-in-Structure-clause-changed
sig-returns-in_ok-entries-in-Structure-clause-changed t c =
    sig_structure c.structure_of.result c.args.self.changes.now c.args.old.now c.in-Structure.components c.deref.result.now
    c.in_ok-entries-in-Structure.entries.items c.args.at.now.store.nodes c.entries.new.at.store.nodes c.args.copies.now c.entries.new.copies
    c.in-Structure.is c.deref.ensures.value c.structure_of.ensures (c.in_ok-entries-in-Structure.ensures.changed)

pub sig-returns-in_ok-body-in-Functor-clause-changed : goal.sig-returns-in_ok-body-in-Functor-clause-changed
sig-returns-in_ok-body-in-Functor-clause-changed t c =
    sig_functor c.owned-in-Functor.result c.args.self.changes.now c.args.old.now c.in-Functor.parameter c.in-Functor.body
    c.in_ok-parameter-in-Functor.parameter c.in_ok-body-in-Functor.body c.deref-in-Functor.result.now c.deref-in-Functor-2.result.now
    c.args.at.now.store.nodes c.template.new.at.store.nodes c.template-in-Functor.new.at.store.nodes c.args.copies.now c.template.new.copies c.template-in-Functor.new.copies
    c.in-Functor.is c.deref-in-Functor.ensures c.deref-in-Functor-2.ensures c.owned-in-Functor.ensures
    (c.in_ok-parameter-in-Functor.ensures.changed) (c.in_ok-body-in-Functor.ensures.changed)

pub entries-loop-entry-preserved : goal.entries-loop-entry-preserved
entries-loop-entry-preserved t c =
    let live = λ (ns : List Node) (r : Rc Entry Global). IsLiveThrough ns r.value in
    let done = λ (ns : List Node) (r : Rc Entry Global) (s : Rc Entry Global). IsTurnedEntry ns (change_by c.args.self.changes.now) r.value s.value in
    record {
      goes = goes_trans c.args.at.now c.loop-entry.at c.entry.new.at c.loop-entry.invariant.goes c.in_ok-entry.ensures.goes;
      turns = turns_more c.args.self.changes.now live done c.args.old.now c.loop-entry.new.items c.push.new.list.items c.loop-entry.entry-index
          c.entry-item.result c.in_ok-entry.field-0 c.args.at.now.store.nodes c.loop-entry.at.store.nodes c.entry.new.at.store.nodes c.args.copies.now c.loop-entry.copies c.entry.new.copies
          c.loop-entry-test.true c.entry-item.is c.in_ok-push.ensures.pushed (c.loop-entry.invariant.turns)
          (subst (λ (e : Entry). Turns c.args.self.changes.now (λ ns. IsLiveThrough ns e) (λ ns. IsTurnedEntry ns (change_by c.args.self.changes.now) e c.in_ok-entry.field-0.value)
          c.loop-entry.at.store.nodes c.entry.new.at.store.nodes c.loop-entry.copies c.entry.new.copies) c.deref.ensures (c.in_ok-entry.ensures.changed));
    }

pub entries-returns-clause-changed : goal.entries-returns-clause-changed
entries-returns-clause-changed t c =
    turns_whole c.args.self.changes.now (λ ns r. IsLiveThrough ns r.value) (λ ns r s. IsTurnedEntry ns (change_by c.args.self.changes.now) r.value s.value) c.args.old.now c.loop-entry.new.items c.loop-entry.entry-index
    c.args.at.now.store.nodes c.loop-entry.at.store.nodes c.args.copies.now c.loop-entry.copies c.loop-entry-test.false (c.loop-entry.invariant.turns)

pub what-returns-in_ok-sig-in-Module-clause-changed : goal.what-returns-in_ok-sig-in-Module-clause-changed
what-returns-in_ok-sig-in-Module-clause-changed t c =
    what_module c.args.self.changes.now c.args.old.now c.in-Module.sig c.in_ok-sig-in-Module.field-0 c.deref-in-Module.result.now
    c.args.at.now.store.nodes c.sig.new.at.store.nodes c.args.copies.now c.sig.new.copies c.in-Module.is c.deref-in-Module.ensures c.in_ok-sig-in-Module.ensures.changed

pub what-returns-in_ok-template-in-ModuleType-clause-changed : goal.what-returns-in_ok-template-in-ModuleType-clause-changed
what-returns-in_ok-template-in-ModuleType-clause-changed t c =
    what_module_type c.args.self.changes.now c.args.old.now c.in-ModuleType.template c.in_ok-template-in-ModuleType.field-0 c.deref-in-ModuleType.result.now
    c.args.at.now.store.nodes c.template.new.at.store.nodes c.args.copies.now c.template.new.copies c.in-ModuleType.is c.deref-in-ModuleType.ensures c.in_ok-template-in-ModuleType.ensures.changed

pub template-returns-clause-changed : goal.template-returns-clause-changed
template-returns-clause-changed t c =
    template_both c.owned.result c.args.self.changes.now c.args.old.now _ c.deref-2.result.now c.in_ok-sig.field-0.value c.deref.result.now c.in_ok-made.field-0.items
    c.args.at.now.store.nodes c.sig.new.at.store.nodes c.args.copies.now c.sig.new.copies c.owned.ensures c.deref.ensures.value refl c.deref-2.ensures refl c.in_ok-made.ensures c.in_ok-sig.ensures.changed

pub entries-returns-in_err-entry-clause-goes : goal.entries-returns-in_err-entry-clause-goes
entries-returns-in_err-entry-clause-goes t c = goes_trans c.args.at.now c.loop-entry.at c.entry.new.at c.loop-entry.invariant.goes c.entry.ensures.goes

pub entries-returns-in_err-push-clause-goes : goal.entries-returns-in_err-push-clause-goes
entries-returns-in_err-push-clause-goes t c = goes_trans c.args.at.now c.loop-entry.at c.entry.new.at c.loop-entry.invariant.goes c.entry.ensures.goes

pub entries-returns-clause-goes : goal.entries-returns-clause-goes
entries-returns-clause-goes t c = c.loop-entry.invariant.goes

pub entry-returns-in_err-share-clause-goes : goal.entry-returns-in_err-share-clause-goes
entry-returns-in_err-share-clause-goes t c = goes_refl c.args.at.now

pub entry-returns-in_err-what-clause-goes : goal.entry-returns-in_err-what-clause-goes
entry-returns-in_err-what-clause-goes t c = c.what.ensures.goes

pub entry-returns-clause-goes : goal.entry-returns-clause-goes
entry-returns-clause-goes t c = c.what.ensures.goes

pub sig-returns-in-Hole-clause-goes : goal.sig-returns-in-Hole-clause-goes
sig-returns-in-Hole-clause-goes t c = goes_refl c.args.at.now

pub template-returns-in_err-made-clause-goes : goal.template-returns-in_err-made-clause-goes
template-returns-in_err-made-clause-goes t c = goes_refl c.args.at.now

pub template-returns-in_err-inside-clause-goes : goal.template-returns-in_err-inside-clause-goes
template-returns-in_err-inside-clause-goes t c = goes_refl c.args.at.now

pub template-returns-in_err-sig-clause-goes : goal.template-returns-in_err-sig-clause-goes
template-returns-in_err-sig-clause-goes t c = c.sig.ensures.goes

pub template-returns-clause-goes : goal.template-returns-clause-goes
template-returns-clause-goes t c = c.sig.ensures.goes

pub what-returns-in_ok-ty-in-Scheme-clause-goes : goal.what-returns-in_ok-ty-in-Scheme-clause-goes
what-returns-in_ok-ty-in-Scheme-clause-goes t c = c.ty.ensures.goes

pub what-returns-in_err-ty-in-Scheme-clause-goes : goal.what-returns-in_err-ty-in-Scheme-clause-goes
what-returns-in_err-ty-in-Scheme-clause-goes t c = c.ty.ensures.goes

pub what-returns-in_err-owner-in-Constructor-clause-goes : goal.what-returns-in_err-owner-in-Constructor-clause-goes
what-returns-in_err-owner-in-Constructor-clause-goes t c = c.owner.ensures.goes

pub what-returns-in_err-exception-in-Exception-clause-goes : goal.what-returns-in_err-exception-in-Exception-clause-goes
what-returns-in_err-exception-in-Exception-clause-goes t c = c.exception.ensures.goes

pub what-returns-in_err-owner-in-Label-clause-goes : goal.what-returns-in_err-owner-in-Label-clause-goes
what-returns-in_err-owner-in-Label-clause-goes t c = c.owner-in-Label.ensures.goes

pub what-returns-in_err-latest-in-Type-clause-goes : goal.what-returns-in_err-latest-in-Type-clause-goes
what-returns-in_err-latest-in-Type-clause-goes t c = c.latest.ensures.goes

pub what-returns-in_err-sig-in-Module-clause-goes : goal.what-returns-in_err-sig-in-Module-clause-goes
what-returns-in_err-sig-in-Module-clause-goes t c = c.sig.ensures.goes

pub what-returns-in_err-template-in-ModuleType-clause-goes : goal.what-returns-in_err-template-in-ModuleType-clause-goes
what-returns-in_err-template-in-ModuleType-clause-goes t c = c.template.ensures.goes

pub sig-returns-in_err-entries-in-Structure-clause-goes : goal.sig-returns-in_err-entries-in-Structure-clause-goes
sig-returns-in_err-entries-in-Structure-clause-goes t c = c.entries.ensures.goes

pub sig-returns-in_err-body-in-Functor-clause-goes : goal.sig-returns-in_err-body-in-Functor-clause-goes
sig-returns-in_err-body-in-Functor-clause-goes t c = goes_trans c.args.at.now c.template.new.at c.template-in-Functor.new.at c.template.ensures.goes c.template-in-Functor.ensures.goes

pub what-returns-in_ok-owner-in-Constructor-clause-goes : goal.what-returns-in_ok-owner-in-Constructor-clause-goes
what-returns-in_ok-owner-in-Constructor-clause-goes t c = c.owner.ensures.goes

pub what-returns-in_ok-exception-in-Exception-clause-goes : goal.what-returns-in_ok-exception-in-Exception-clause-goes
what-returns-in_ok-exception-in-Exception-clause-goes t c = c.exception.ensures.goes

pub what-returns-in_ok-owner-in-Label-clause-goes : goal.what-returns-in_ok-owner-in-Label-clause-goes
what-returns-in_ok-owner-in-Label-clause-goes t c = c.owner-in-Label.ensures.goes

pub what-returns-in_ok-latest-in-Type-clause-goes : goal.what-returns-in_ok-latest-in-Type-clause-goes
what-returns-in_ok-latest-in-Type-clause-goes t c = c.latest.ensures.goes

pub what-returns-in_ok-sig-in-Module-clause-goes : goal.what-returns-in_ok-sig-in-Module-clause-goes
what-returns-in_ok-sig-in-Module-clause-goes t c = c.sig.ensures.goes

pub what-returns-in_ok-template-in-ModuleType-clause-goes : goal.what-returns-in_ok-template-in-ModuleType-clause-goes
what-returns-in_ok-template-in-ModuleType-clause-goes t c = c.template.ensures.goes

pub sig-returns-in_ok-entries-in-Structure-clause-goes : goal.sig-returns-in_ok-entries-in-Structure-clause-goes
sig-returns-in_ok-entries-in-Structure-clause-goes t c = c.entries.ensures.goes

pub sig-returns-in_ok-body-in-Functor-clause-goes : goal.sig-returns-in_ok-body-in-Functor-clause-goes
sig-returns-in_ok-body-in-Functor-clause-goes t c = goes_trans c.args.at.now c.template.new.at c.template-in-Functor.new.at c.template.ensures.goes c.template-in-Functor.ensures.goes

pub what-returns-in_err-inside-in-Module-clause-goes : goal.what-returns-in_err-inside-in-Module-clause-goes
what-returns-in_err-inside-in-Module-clause-goes t c = goes_refl c.args.at.now

pub what-returns-in_err-inside-in-ModuleType-clause-goes : goal.what-returns-in_err-inside-in-ModuleType-clause-goes
what-returns-in_err-inside-in-ModuleType-clause-goes t c = goes_refl c.args.at.now

pub sig-returns-in_err-inside-in-Structure-clause-goes : goal.sig-returns-in_err-inside-in-Structure-clause-goes
sig-returns-in_err-inside-in-Structure-clause-goes t c = goes_refl c.args.at.now

pub sig-returns-in_err-inside-in-Functor-clause-goes : goal.sig-returns-in_err-inside-in-Functor-clause-goes
sig-returns-in_err-inside-in-Functor-clause-goes t c = goes_refl c.args.at.now

pub sig-returns-in_err-parameter-in-Functor-clause-goes : goal.sig-returns-in_err-parameter-in-Functor-clause-goes
sig-returns-in_err-parameter-in-Functor-clause-goes t c = c.template.ensures.goes

pub sig-returns-in_err-inside-in-Functor-2-clause-goes : goal.sig-returns-in_err-inside-in-Functor-2-clause-goes
sig-returns-in_err-inside-in-Functor-2-clause-goes t c = c.template.ensures.goes

pub entry-returns-clause-changed : goal.entry-returns-clause-changed
entry-returns-clause-changed t c =
    let changes : Changes = c.args.self.changes.now in
    let old : Entry = c.args.old.now in
    let new : Entry = record { name = c.in_ok-share.field-0; kind = old.kind; place = old.place; what = c.in_ok-what.field-0 } in
    owned_turns c.owned.result new changes (λ ns. IsLiveThrough ns old) (λ ns e. IsTurnedEntry ns (change_by changes) old e)
    c.args.at.now.store.nodes c.what.new.at.store.nodes c.args.copies.now c.what.new.copies c.owned.ensures
    (turns_as changes (λ ns. IsLiveWithin ns old.what) (λ ns. IsTurnedWhat ns (change_by changes) old.what new.what) (λ ns. IsLiveThrough ns old) (λ ns. IsTurnedEntry ns (change_by changes) old new)
    c.args.at.now.store.nodes c.what.new.at.store.nodes c.args.copies.now c.what.new.copies
    (λ ns live. live) (λ ns what. record { entry = record { name = c.in_ok-share.ensures; kind = refl; place = refl; what = what.what }; within = what.within })
    c.in_ok-what.ensures.changed)
