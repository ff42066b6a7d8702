use Rattle.std.proofs.Common.{ℕ, Bool, List, drop}
use Rattle.type_nodes.specs.Views.{numbers}
use Rattle.typing_conditions.specs.Standing.{IsIn}
use Rattle.weak_variables.specs.Listed.{Adds}
use Rattle.weak_variables.specs.Search.{is_listed, IsFreeAs}
use Rattle.weak_variables.proofs.search.Search.list_all.Given as goal

-- what is listed of the nodes that are left, with what was, is what is listed of all
abbrev pub invariant-loop-n : goal.invariant-loop-n
invariant-loop-n l = (after : ℕ → Bool) (news : List ℕ) → Adds (IsFreeAs l.at.store.nodes (IsIn (numbers (drop l.n-index l.nodes)))) (is_listed l.self) after (numbers l.self.found.items) news →
    Adds (IsFreeAs l.at.store.nodes (IsIn (numbers l.nodes))) (is_listed l.fn.self) after (numbers l.fn.self.found.items) news
