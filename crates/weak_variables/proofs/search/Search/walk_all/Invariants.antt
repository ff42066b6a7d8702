use Rattle.std.proofs.Common.{ℕ, Bool, List, drop}
use Rattle.std.specs.Prelude.{nat_eq}
use Rattle.std.specs.HashSet.{contains}
use Rattle.type_nodes.specs.Views.{numbers}
use Rattle.typing_conditions.specs.Standing.{IsIn}
use Rattle.weak_variables.specs.Listed.{Finds}
use Rattle.weak_variables.specs.Search.{is_listed, AreWalked}
use Rattle.weak_variables.proofs.search.Search.walk_all.Given as goal

-- what is found of the nodes that are left, with what was, is what is found of all
abbrev pub invariant-loop-n : goal.invariant-loop-n
invariant-loop-n l = AreWalked l.at.store.nodes (contains nat_eq l.fn.walked) (is_listed l.fn.self) →
    AreWalked l.at.store.nodes (contains nat_eq l.walked) (is_listed l.self)
    × ((after : ℕ → Bool) (news : List ℕ) → Finds l.at.store.nodes (IsIn (numbers (drop l.n-index l.nodes))) (is_listed l.self) after (numbers l.self.found.items) news →
    Finds l.at.store.nodes (IsIn (numbers l.nodes)) (is_listed l.fn.self) after (numbers l.fn.self.found.items) news)
