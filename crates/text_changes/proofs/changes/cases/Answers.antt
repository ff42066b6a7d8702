use Rattle.std.proofs.Common.{◌≡◌, ℕ, List, [], ap, arith, map, rules, subst, sym}
use Rattle.std.proofs.lemmas.List.Elements.{All-cons, All-nil}
use Rattle.query_model.specs.Faults.{TyperFault}
use Rattle.query_model.specs.TypedNodes.{innermost_at}
use Rattle.service_model.specs.Structure.{TyperFaults}
use Rattle.syntax_tree.specs.View.{trees_of}
use Rattle.text_queries.specs.Faults.{typer_fault_of}
use Rattle.text_changes.specs.Changes.{IsPlaced}
use Rattle.text_changes.proofs.Splitting.{candidate_said}
use Rattle.text_changes.proofs.changes.cases.Goals as goal

pub returns-in_ok-new-in-Ok-clause-answers : goal.returns-in_ok-new-in-Ok-clause-answers
returns-in_ok-new-in-Ok-clause-answers c = λ s told. candidate_said c.args.store.now c.in-Ok.candidate (innermost_at c.args.offset (trees_of c.args.parsed.now.tree)) s (search rules) told

pub returns-in_ok-new-in-Ok-clause-placed : goal.returns-in_ok-new-in-Ok-clause-placed
returns-in_ok-new-in-Ok-clause-placed c =
    let node = innermost_at c.args.offset (trees_of c.args.parsed.now.tree) in
    let at : IsPlaced node c.in-Ok.candidate = search rules in
    (All-cons (IsPlaced node) c.in-Ok.candidate [] at (All-nil (IsPlaced node)), omega arith)

pub new-requires-clause-typed : goal.new-requires-clause-typed
new-requires-clause-typed c =
    let text : c.in_ok-text.text.items ≡ c.args.store.now = search rules in
    let list : c.deref-in-Ok-2.result.now ≡ c.args.analysis.now.faults.now.list.items = search rules in
    subst (λ (t : List ℕ). TyperFaults t (map typer_fault_of c.deref-in-Ok-2.result.now)) (sym text)
    (subst (λ (fs : List TyperFault). TyperFaults c.args.store.now fs) (sym (ap (map typer_fault_of) list)) c.requires.typed)
