use Rattle.std.proofs.Common.{ℕ, Bool, List, [], drop, false}
use Rattle.std.specs.Prelude.{nat_eq}
use Rattle.std.specs.HashSet.{contains}
use Rattle.type_nodes.specs.Views.{numbers}
use Rattle.weak_variables.specs.Free.{IsFound}
use Rattle.weak_variables.specs.Listed.{Finds}
use Rattle.weak_variables.specs.Search.{is_listed, lists_of, AreWalked}
use Rattle.weak_variables.proofs.search.free_in.Given as goal

-- what is found in the lists that are left, with what was found, is what is found in all
abbrev pub invariant-loop-list : goal.invariant-loop-list
invariant-loop-list l = AreWalked l.at.store.nodes (contains nat_eq l.walked) (is_listed l.search)
    × ((after : ℕ → Bool) (news : List ℕ) → Finds l.at.store.nodes (IsFound (lists_of (drop l.list-index l.lists))) (is_listed l.search) after (numbers l.search.found.items) news → Finds l.at.store.nodes (IsFound (lists_of l.lists)) (λ v. false) after [] news)
