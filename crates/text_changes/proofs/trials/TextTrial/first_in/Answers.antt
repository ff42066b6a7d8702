use Rattle.std.proofs.Common.{List, ℕ, map, refl, subst, sym}
use Rattle.text_reading.specs.Structures.{IsParsedAs}
use Rattle.text_terms.specs.Bytes.{str_bytes}
use Rattle.service_model.specs.Structure.{TyperFaults}
use Rattle.syntax_tree.specs.View.{place_of, trees_of}
use Rattle.env_table.specs.declared.faults.Fault.{Fault}
use Rattle.text_queries.specs.Faults.{typer_fault_of}
use Rattle.text_changes.proofs.Trying.{first_added}
use Rattle.text_changes.proofs.Typed.{typer_found}
use Rattle.text_changes.proofs.trials.TextTrial.first_in.Goals as goal

pub returns-clause-first : goal.returns-clause-first
returns-clause-first g c =
    let parsed = c.found.result.0.now in
    let here = subst (λ (t : List ℕ). IsParsedAs t parsed) c.in_ok-type_text.ensures.text c.found.ensures.parsed in
    let typed = typer_found c.args.changed.now parsed (trees_of parsed.tree) c.found.result.1.faults.now.list.items here refl c.found.ensures.refused in
    first_added c.args.self.now.of.now.text.items c.args.changed.now (str_bytes c.args.replacement.now.text) (place_of c.args.replacement.now.span) c.args.self.now.of.now.known.keys c.in_ok-marks.marks.items
    c.deref-3.result.now parsed c.deref.result.now c.deref-2.result.now c.first_new.result c.args.self.now.of.now.knows
    here (subst (λ (fs : List Fault). TyperFaults c.args.changed.now (map typer_fault_of fs)) (sym c.deref-2.ensures.value) typed) c.requires.made c.deref.ensures.value c.in_ok-marks.ensures c.deref-3.ensures.value c.first_new.ensures

pub returns-in_err-type_text-clause-tries : goal.returns-in_err-type_text-clause-tries
returns-in_err-type_text-clause-tries g c = (c.args.self.now.tried.now, g.C.Counts.tallies c.args.counts.now, (refl, refl), c.type_text.ensures.tries)

pub returns-in_err-marks-clause-tries : goal.returns-in_err-marks-clause-tries
returns-in_err-marks-clause-tries g c = (c.args.self.now.tried.now, g.C.Counts.tallies c.args.counts.now, (refl, refl), c.type_text.ensures.tries)

pub returns-clause-tries : goal.returns-clause-tries
returns-clause-tries g c = (c.args.self.now.tried.now, g.C.Counts.tallies c.args.counts.now, (refl, refl), c.type_text.ensures.tries)
