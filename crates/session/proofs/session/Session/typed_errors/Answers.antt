use Rattle.std.proofs.Common.{◌≡◌, ℕ, List, ◌++◌, map, ap, subst, sym}
use Rattle.query_model.specs.Faults.{by_typer}
use Rattle.service_model.specs.Structure.{faults_said}
use Rattle.env_table.specs.declared.faults.Fault.{Fault}
use Rattle.frame_parser.specs.declared.whole.Parsed.{Parsed}
use Rattle.frame_steps.specs.declared.stack.SyntaxFault.{SyntaxFault}
use Rattle.text_queries.specs.Faults.{fault_of, typer_fault_of}
use Rattle.text_reading.specs.Structures.{IsParsedAs}
use Rattle.text_reading.specs.Types.{items_in}
use Rattle.session.specs.Queries.{AreFaultsOf}
use Rattle.session.specs.Working.{Held}
use Rattle.session.proofs.Typing.{faults_found, said_then}
use Rattle.session.proofs.session.Session.typed_errors.Goals as goal

pub returns-clause-said : goal.returns-clause-said
returns-clause-said g c =
    let text = c.args.self.now.text in
    let parsed = c.get-parsed.result.now in
    let syntax = c.deref.result.now in
    let typed = c.deref-2.result.now in
    let are = subst (λ (p : Parsed). IsParsedAs c.self.inside.kept.text p) (sym c.get-parsed.ensures) c.in_ok-read.ensures.parsed in
    let here = subst (λ (t : List ℕ). IsParsedAs t parsed) (ap (λ (h : Held). h.text) c.self.view_is) are in
    said_then (λ s. s ≡ faults_said text (map fault_of syntax ++ map by_typer (map typer_fault_of typed))) (AreFaultsOf text) c.page_of.result
    (λ s page. faults_found text parsed (items_in g.A.Analyser.items c.in_ok-found.found) c.analysis.result.faults.now.list.items s here c.in_ok-found.ensures.items c.analysis.ensures.refused
    (subst (λ (us : List Fault). s ≡ faults_said text (map fault_of parsed.faults.items ++ map by_typer (map typer_fault_of us))) c.deref-2.ensures.value
    (subst (λ (fs : List SyntaxFault). s ≡ faults_said text (map fault_of fs ++ map by_typer (map typer_fault_of typed))) c.deref.ensures.value page)))
    c.page_of.ensures
