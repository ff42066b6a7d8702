use Rattle.std.proofs.Common.{◌∙◌, map, refl, sym, ap, subst}
use Rattle.std.proofs.lemmas.Result.{IfOk-weaker}
use Rattle.type_terms.specs.Views.{path_of}
use Rattle.env_table.specs.declared.entries.What.{What}
use Rattle.env_table.specs.declared.entries.Entry.{Entry}
use Rattle.env_table.specs.declared.entries.Components.{Components, roll-Components, out-Components, out-roll-Components}
use Rattle.env_table.specs.declared.entries.Template.{Template}
use Rattle.env_table.specs.declared.entries.Sig.{Sig}
use Rattle.env_table.specs.declared.entries.Sig.TheOpen.{Components-F}
use Rattle.prelude_places.specs.There.{WhatThere, same_value, same_constructor, same_exception, same_label, same_type, module_there, module_type_there, EntryThere, entry_there, SigThere, hole_there, structure_there, functor_there, TemplateThere, template_there, AreThere, values_of}
use Rattle.prelude_places.proofs.Making.{Onto, onto_none, onto_next, onto_end}
use Rattle.prelude_places.proofs.+there.Goals as goal

pub entries-loop-one-init : goal.entries-loop-one-init
entries-loop-one-init t c = subst (Onto (values_of c.args.old.now) (values_of c.args.old.now)) (sym c.new-new.ensures.items) (onto_none (values_of c.args.old.now))

pub entries-loop-one-preserved : goal.entries-loop-one-preserved
entries-loop-one-preserved t c =
    onto_next (values_of c.args.old.now) c.loop-one.new.items c.args.old.now c.loop-one.one-index c.one-item.result c.in_ok-entry.field-0 c.push.new.list.items c.loop-one-test.true c.one-item.is c.in_ok-push.ensures.pushed
    (subst (λ e. EntryThere e c.in_ok-entry.field-0.value) c.deref.ensures c.in_ok-entry.ensures) c.loop-one.invariant

pub entries-returns : goal.entries-returns
entries-returns t c = onto_end (values_of c.args.old.now) c.loop-one.new.items c.args.old.now c.loop-one.one-index c.loop-one-test.false c.loop-one.invariant

pub what-returns-in_ok-shared-in-Constructor : goal.what-returns-in_ok-shared-in-Constructor
what-returns-in_ok-shared-in-Constructor t c = same_constructor c.in-Constructor.declaration c.in_ok-shared-in-Constructor.field-0 c.in-Constructor.place c.in-Constructor.is refl c.in_ok-shared-in-Constructor.ensures

pub what-returns-in_ok-shared-in-Exception : goal.what-returns-in_ok-shared-in-Exception
what-returns-in_ok-shared-in-Exception t c = same_exception c.in-Exception.constructor c.in_ok-shared-in-Exception.field-0 c.in-Exception.is refl c.in_ok-shared-in-Exception.ensures

pub what-returns-in_ok-shared-in-Label : goal.what-returns-in_ok-shared-in-Label
what-returns-in_ok-shared-in-Label t c = same_label c.in-Label.declaration c.in_ok-shared-in-Label.field-0 c.in-Label.place c.in-Label.is refl c.in_ok-shared-in-Label.ensures

pub what-returns-in_ok-shared-in-Type : goal.what-returns-in_ok-shared-in-Type
what-returns-in_ok-shared-in-Type t c = same_type c.in-Type.declaration c.in_ok-shared-in-Type.field-0 c.in-Type.is refl c.in_ok-shared-in-Type.ensures

pub what-returns-in-Scheme : goal.what-returns-in-Scheme
what-returns-in-Scheme t c = same_value c.in-Scheme.root c.in-Scheme.is refl

pub what-returns-in_ok-sig-in-Module : goal.what-returns-in_ok-sig-in-Module
what-returns-in_ok-sig-in-Module t c = module_there c.in-Module.signature c.in_ok-sig-in-Module.field-0 c.in-Module.is refl (subst (λ s. SigThere s c.in_ok-sig-in-Module.field-0.value) c.deref.ensures c.in_ok-sig-in-Module.ensures)

pub what-returns-in_ok-template-in-ModuleType : goal.what-returns-in_ok-template-in-ModuleType
what-returns-in_ok-template-in-ModuleType t c =
    module_type_there c.in-ModuleType.made c.in_ok-template-in-ModuleType.field-0 c.in-ModuleType.is refl (subst (λ s. TemplateThere s c.in_ok-template-in-ModuleType.field-0.value) c.deref-in-ModuleType.ensures c.in_ok-template-in-ModuleType.ensures)

pub entry-returns : goal.entry-returns
entry-returns t c = IfOk-weaker c.owned.result _ _ (λ x is. subst (EntryThere c.args.old.now) (sym is) (entry_there c.in_ok-share.ensures refl c.place_of_prelude.ensures c.in_ok-what.ensures)) c.owned.ensures

pub sig-returns-in-Hole : goal.sig-returns-in-Hole
sig-returns-in-Hole t c = IfOk-weaker c.owned.result _ _ (λ x is. subst (SigThere c.args.old.now) (sym is) (hole_there c.in-Hole.is refl)) c.owned.ensures

pub sig-returns-in_ok-entries-in-Structure : goal.sig-returns-in_ok-entries-in-Structure
sig-returns-in_ok-entries-in-Structure t c =
    let made : Components-F Sig What Components Entry Template = record { entries = c.in_ok-entries-in-Structure.entries } in
    let there = subst (λ es. AreThere (values_of es) (values_of c.in_ok-entries-in-Structure.entries.items)) c.deref.ensures.value c.in_ok-entries-in-Structure.ensures in
    IfOk-weaker c.owned-in-Structure.result _ _ (λ x is. structure_there c.in-Structure.components (roll-Components made) c.in-Structure.is is
    (subst (λ (f : Components-F Sig What Components Entry Template). AreThere (values_of (out-Components c.in-Structure.components).entries.items) (values_of f.entries.items)) (sym (out-roll-Components made)) there)) c.owned-in-Structure.ensures

pub sig-returns-in_ok-body-in-Functor : goal.sig-returns-in_ok-body-in-Functor
sig-returns-in_ok-body-in-Functor t c =
    let p = c.in_ok-parameter-in-Functor.parameter in
    let b = c.in_ok-body-in-Functor.body in
    IfOk-weaker c.owned-in-Functor.result _ _ (λ x is. subst (SigThere c.args.old.now) (sym is) (functor_there c.in-Functor.parameter c.in-Functor.body p b c.in-Functor.is refl
    (subst (λ u. TemplateThere u p.value) c.deref-in-Functor.ensures c.in_ok-parameter-in-Functor.ensures) (subst (λ u. TemplateThere u b.value) c.deref-in-Functor-2.ensures c.in_ok-body-in-Functor.ensures))) c.owned-in-Functor.ensures

pub template-returns : goal.template-returns
template-returns t c =
    IfOk-weaker c.owned.result _ _ (λ x is. subst (TemplateThere c.args.old.now) (sym is) (template_there (c.in_ok-origins.ensures ∙ ap (map path_of) c.deref.ensures.value) (subst (λ s. SigThere s c.in_ok-sig.field-0.value) c.deref-2.ensures c.in_ok-sig.ensures))) c.owned.ensures
