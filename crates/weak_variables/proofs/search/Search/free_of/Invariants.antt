use Rattle.std.proofs.Common.{ℕ, Bool, List, [], drop}
use Rattle.type_nodes.specs.Views.{numbers}
use Rattle.weak_variables.specs.Free.{AreAllValues, IsRoot}
use Rattle.weak_variables.specs.Listed.{Lists, Finds}
use Rattle.weak_variables.specs.Search.{is_listed}
use Rattle.weak_variables.proofs.Searching.{entries_in}
use Rattle.weak_variables.proofs.search.Search.free_of.Given as goal

-- what is found in the entries that are left, with what was found, is what is found in all
abbrev pub invariant-loop-entry : goal.invariant-loop-entry
invariant-loop-entry l = record {
  lists : Lists (is_listed l.fn.self) (is_listed l.self) [] (numbers l.self.found.items);
  finds : (after : ℕ → Bool) (news : List ℕ) → (AreAllValues (entries_in (drop l.entry-index l.entries)) → Finds l.at.store.nodes (IsRoot (entries_in (drop l.entry-index l.entries))) (is_listed l.self) after (numbers l.self.found.items) news) →
      AreAllValues (entries_in l.entries) → Finds l.at.store.nodes (IsRoot (entries_in l.entries)) (is_listed l.fn.self) after [] news;
}
