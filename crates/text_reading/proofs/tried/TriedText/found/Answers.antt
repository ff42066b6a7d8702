use Rattle.std.proofs.Common.{List, ℕ, ◌∙◌, ap, map, sym, subst}
use Rattle.tree_model.specs.Trees.{Tree}
use Rattle.fault_model.specs.Refused.{AreOfValues, AreRefused}
use Rattle.token_store.specs.Stored.{toks_of}
use Rattle.kept_text.specs.Keeping.{trees_in}
use Rattle.analysis_api.specs.Types.{AreTyped}
use Rattle.analysis_api.specs.Faults.{typer_fault_of}
use Rattle.text_reading.specs.Structures.{IsParsedAs}
use Rattle.text_reading.specs.Trials.{Tried}
use Rattle.text_reading.specs.Types.{known}
use Rattle.text_reading.proofs.Parsing.{parsed_as}
use Rattle.text_reading.proofs.Spent.{bound_items}
use Rattle.text_reading.proofs.tried.TriedText.found.Goals as goal

pub returns-clause-parsed : goal.returns-clause-parsed
returns-clause-parsed g c =
    let kept = c.self.inside.kept in
    let there = c.in-Some-Some.ensures in
    let parsed = c.in-Some-Some.parsed.now in
    subst (λ (t : List ℕ). IsParsedAs t parsed) (ap (λ (t : Tried). t.text) c.self.view_is) (parsed_as kept.text (toks_of kept.tokens) parsed there.lexed there.tree there.faults)

pub returns-clause-found : goal.returns-clause-found
returns-clause-found g c =
    let typer = c.in-Some-Some.typer.now in
    let holds = bound_items (g.A.Analyser.items typer) (trees_in c.self.inside.kept.tokens) (known g.A.Analyser.items c.self.inside.types) c.in-Some-Some.ensures'.known c.self.invariant.are in
    (typer, holds ∙ sym c.in-Some-Some.ensures.tree, c.found.ensures.found)

pub returns-clause-refused : goal.returns-clause-refused
returns-clause-refused g c =
    let typer = c.in-Some-Some.typer.now in
    let holds = bound_items (g.A.Analyser.items typer) (trees_in c.self.inside.kept.tokens) (known g.A.Analyser.items c.self.inside.types) c.in-Some-Some.ensures'.known c.self.invariant.are in
    subst (λ (ts : List Tree). AreOfValues ts → ∥ AreRefused ts (map typer_fault_of c.found.result.faults.now.list.items) ∥₁) (holds ∙ sym c.in-Some-Some.ensures.tree) c.found.ensures.refused

pub returns-clause-typed : goal.returns-clause-typed
returns-clause-typed g c =
    let typer = c.in-Some-Some.typer.now in
    let holds = bound_items (g.A.Analyser.items typer) (trees_in c.self.inside.kept.tokens) (known g.A.Analyser.items c.self.inside.types) c.in-Some-Some.ensures'.known c.self.invariant.are in
    subst (λ (ts : List Tree). AreOfValues ts → ∥ AreTyped ts c.found.result ∥₁) (holds ∙ sym c.in-Some-Some.ensures.tree) c.found.ensures.typed
