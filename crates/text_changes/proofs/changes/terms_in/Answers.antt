use Rattle.std.proofs.Common.{◌≡◌, ℕ, List, ap, map, rules, subst, sym}
use Rattle.query_model.specs.Faults.{TyperFault}
use Rattle.query_model.specs.TypedNodes.{innermost_at}
use Rattle.service_model.specs.Structure.{TyperFaults}
use Rattle.syntax_tree.specs.View.{trees_of}
use Rattle.query_engine.specs.Typed.{IsPlacedAt}
use Rattle.text_queries.specs.Faults.{typer_fault_of}
use Rattle.text_changes.proofs.Terms.{all_placed}
use Rattle.text_changes.proofs.Terms.{said_at}
use Rattle.text_changes.proofs.changes.terms_in.Goals as goal

pub returns-in_ok-new-in-Ok-clause-answers : goal.returns-in_ok-new-in-Ok-clause-answers
returns-in_ok-new-in-Ok-clause-answers c = λ s told. said_at c.args.store.now c.in-Ok.span (innermost_at c.args.offset (trees_of c.args.parsed.now.tree)) s (search rules) told

pub returns-in_ok-new-in-Ok-clause-placed : goal.returns-in_ok-new-in-Ok-clause-placed
returns-in_ok-new-in-Ok-clause-placed c =
    let node = innermost_at c.args.offset (trees_of c.args.parsed.now.tree) in
    let at : IsPlacedAt c.in-Ok.span node = search rules in
    all_placed node c.in-Ok.span c.in-Ok.changes.items at (search rules)

pub new-requires-clause-typed : goal.new-requires-clause-typed
new-requires-clause-typed c =
    let text : c.in_ok-text.text.items ≡ c.args.store.now = search rules in
    let list : c.deref-in-Ok-2.result.now ≡ c.args.analysis.now.faults.now.list.items = search rules in
    subst (λ (t : List ℕ). TyperFaults t (map typer_fault_of c.deref-in-Ok-2.result.now)) (sym text)
    (subst (λ (fs : List TyperFault). TyperFaults c.args.store.now fs) (sym (ap (map typer_fault_of) list)) c.requires.typed)
