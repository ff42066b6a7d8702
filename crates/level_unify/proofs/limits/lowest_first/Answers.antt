use Rattle.std.proofs.Common.{rules, sym, subst}
use Rattle.std.specs.List.Sorted.{IsNonDecreasingBy}
use Rattle.std.proofs.lemmas.List.Sorted.{IsNonDecreasingBy-from_sort_by_key}
use Rattle.level_unify.specs.declared.solve.Limit.{Limit}
use Rattle.level_unify.specs.Limits.{number_in}
use Rattle.level_unify.proofs.limits.lowest_first.Goals as goal

pub returns-in-Levels-clause-sorted : goal.returns-in-Levels-clause-sorted
returns-in-Levels-clause-sorted c =
    subst (λ p. IsNonDecreasingBy (number_in p) c.sort_unstable_by_key.new.self.items) (sym c.in-Levels.is)
    (IsNonDecreasingBy-from_sort_by_key (λ (l : Limit). l.level) _ c.sort_unstable_by_key.ensures.sorted (λ a r q k. search rules))

pub returns-in-Scopes-clause-sorted : goal.returns-in-Scopes-clause-sorted
returns-in-Scopes-clause-sorted c =
    subst (λ p. IsNonDecreasingBy (number_in p) c.sort_unstable_by_key-in-Scopes.new.self.items) (sym c.in-Scopes.is)
    (IsNonDecreasingBy-from_sort_by_key (λ (l : Limit). l.scope) _ c.sort_unstable_by_key-in-Scopes.ensures.sorted (λ a r q k. search rules))
