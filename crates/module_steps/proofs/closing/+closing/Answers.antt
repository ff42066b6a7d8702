use Rattle.std.proofs.Common.{◌∙◌, ap, subst}
use Rattle.env_table.specs.declared.entries.Entry.{Entry}
use Rattle.env_table.specs.Views.{names_of}
use Rattle.sig_template.specs.Ways.{sig_of}
use Rattle.module_steps.specs.Closing.{HasOpenEntry, Finds}
use Rattle.module_steps.proofs.Finding.{finds_among, found_in_structure, found_in_functor}
use Rattle.module_steps.proofs.closing.+closing.Goals as goal

pub add_in_entries-loop-entry-preserved : goal.add_in_entries-loop-entry-preserved
add_in_entries-loop-entry-preserved t c = λ new rest. c.loop-entry.invariant new
    (finds_among c.args.at.now.store.nodes c.args.scope (names_of c.loop-entry.rest) (names_of c.in-Some.older) c.in-Some.entry.now.value c.loop-entry.free.items c.add_in_entry.new.free.items new c.in-Some.ensures.some
    (subst (λ (e : Entry). Finds (HasOpenEntry c.args.at.now.store.nodes c.args.scope e) c.loop-entry.free.items c.add_in_entry.new.free.items) c.deref.ensures c.in_ok-add_in_entry.ensures) rest)

pub add_in_sig-returns-in_ok-inside-in-Structure : goal.add_in_sig-returns-in_ok-inside-in-Structure
add_in_sig-returns-in_ok-inside-in-Structure t c =
    found_in_structure c.add_in_entries.result c.args.at.now.store.nodes c.args.scope c.args.sig.now c.in-Structure.field-0 (names_of c.entries.result) c.args.free.now.items c.add_in_entries.new.free.items
    c.in-Structure.is c.entries.ensures c.add_in_entries.ensures

pub add_in_sig-returns-in_ok-inside-in-Functor-2 : goal.add_in_sig-returns-in_ok-inside-in-Functor-2
add_in_sig-returns-in_ok-inside-in-Functor-2 t c =
    found_in_functor c.add_in_sig-in-Functor.result c.args.at.now.store.nodes c.args.scope c.args.sig.now c.in-Functor.parameter c.in-Functor.body c.deref-in-Functor.result.now c.deref-in-Functor-3.result.now
    c.args.free.now.items c.add_in_sig.new.free.items c.add_in_sig-in-Functor.new.free.items c.in-Functor.is
    (c.deref-in-Functor.ensures ∙ ap sig_of c.deref.ensures) (c.deref-in-Functor-3.ensures ∙ ap sig_of c.deref-in-Functor-2.ensures)
    c.in_ok-add_in_sig-in-Functor.ensures c.add_in_sig-in-Functor.ensures
