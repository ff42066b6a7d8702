use Rattle.std.proofs.Common.{subst, sym, List, ℕ, IfOk, ap, map}
use Rattle.tree_model.specs.Trees.{Tree}
use Rattle.service_model.specs.Replies as said
use Rattle.service_model.specs.Structure.{TyperFaults}
use Rattle.syntax_tree.specs.View.{trees_of}
use Rattle.frame_parser.specs.declared.whole.Parsed.{Parsed}
use Rattle.text_queries.specs.Faults.{typer_fault_of}
use Rattle.text_reading.specs.Structures.{IsParsedAs}
use Rattle.text_reading.specs.Types.{items_in, IsOf}
use Rattle.text_reading.proofs.Knowing.{items_parsed}
use Rattle.text_changes.specs.Changes.{FitsText, IsSaidOf}
use Rattle.session.specs.Queries.{AnswersQuery}
use Rattle.session.specs.Working.{Held}
use Rattle.session.proofs.Proposing.{items_answer, may_try}
use Rattle.text_changes.proofs.Typed.{typer_found}
use Rattle.session.proofs.session.Session.propose.Goals as goal

pub typed-requires : goal.typed-requires
typed-requires g c =
    let text = c.args.self.now.text in
    let parsed = c.get-parsed.result.now in
    let are = subst (λ (p : Parsed). IsParsedAs c.self.inside.kept.text p) (sym c.get-parsed.ensures) c.in_ok-read.ensures.parsed in
    record { of_text = items_parsed text parsed (subst (λ (t : List ℕ). IsParsedAs t parsed) (ap (λ (h : Held). h.text) c.self.view_is) are) }

pub propose-requires : goal.propose-requires
propose-requires g c =
    let parsed = c.get-parsed.result.now in
    let are = subst (λ (p : Parsed). IsParsedAs c.self.inside.kept.text p) (sym c.get-parsed.ensures) c.in_ok-read.ensures.parsed in
    let here = subst (λ (t : List ℕ). IsParsedAs t parsed) (ap (λ (h : Held). h.text) c.self.view_is) are in
    record {
      parsed = subst (λ (t : List ℕ). IsParsedAs t parsed) (sym c.text.ensures) here;
      typed = subst (λ (t : List ℕ). TyperFaults t (map typer_fault_of c.analysis-analysis.result.faults.now.list.items)) (sym c.text.ensures)
          (typer_found c.args.self.now.text parsed (items_in g.A.Analyser.items c.in_ok-found.found) c.analysis-analysis.result.faults.now.list.items here c.in_ok-found.ensures.items c.analysis-analysis.ensures.refused);
      found = subst (λ (ts : List Tree). IsOf g.A.Analyser.items g.A.Analyser.finds ts c.analysis-analysis.result) c.in_ok-found.ensures.items c.analysis-analysis.ensures.found;
    }

pub returns-clause-answers : goal.returns-clause-answers
returns-clause-answers g c =
    let text = c.args.self.now.text in
    let parsed = c.get-parsed.result.now in
    let are = subst (λ (p : Parsed). IsParsedAs c.self.inside.kept.text p) (sym c.get-parsed.ensures) c.in_ok-read.ensures.parsed in
    items_answer text parsed (AnswersQuery c.args.query.now text c.args.offset) c.propose.result (subst (λ (t : List ℕ). IsParsedAs t parsed) (ap (λ (h : Held). h.text) c.self.view_is) are)
    (subst (λ (t : List ℕ). IfOk c.propose.result (λ p. (s : said.Said) → IsSaidOf t p s → AnswersQuery c.args.query.now t c.args.offset (trees_of parsed.tree) s)) c.text.ensures c.propose.ensures.answers)

pub returns-clause-fits : goal.returns-clause-fits
returns-clause-fits g c = subst (λ (t : List ℕ). IfOk c.propose.result (FitsText t)) c.text.ensures c.propose.ensures.fits

pub returns-clause-tries : goal.returns-clause-tries
returns-clause-tries g c =
    let text = c.args.self.now.text in
    let parsed = c.get-parsed.result.now in
    let are = subst (λ (p : Parsed). IsParsedAs c.self.inside.kept.text p) (sym c.get-parsed.ensures) c.in_ok-read.ensures.parsed in
    may_try c.args.query.now text c.args.offset parsed c.propose.result (subst (λ (t : List ℕ). IsParsedAs t parsed) (ap (λ (h : Held). h.text) c.self.view_is) are) c.propose.ensures.placed
