use Rattle.std.proofs.Common.{ap, sym, subst, arith, ◌∙◌}
use Rattle.std.specs.Prelude.{nat_eq}
use Rattle.std.specs.List.{list_any}
use Rattle.std.specs.HashSet.{contains}
use Rattle.level_unify.specs.declared.limits.Low.{Low}
use Rattle.level_unify.specs.Limits.{AreLow}
use Rattle.level_unify.proofs.Lowering.{low_more, none_low}
use Rattle.level_unify.proofs.limits.limit_to.Goals as goal
use Rattle.level_unify.proofs.limits.limit_to.Goals.{then-limit-low, else-limit-low+else-limit-low-2}

pub returns-clause-low : goal.returns-clause-low
returns-clause-low c = λ nodes h. elim c.if-limit-low.branch [
  | then-limit-low w ↦
      none_low nodes c.args.limit.level c.args.limit.scope (contains nat_eq c.if-limit-low.low.roots) (λ n. ap (λ (l : Low). contains nat_eq l.roots n) w.low-is ∙ ap (list_any (nat_eq n)) w.new.ensures.empty)
  | else-limit-low+else-limit-low-2 w ↦
      subst (λ (l : Low). AreLow nodes c.args.limit.level c.args.limit.scope (contains nat_eq l.roots)) (sym w.low-is)
      (low_more nodes c.args.low.now.level c.args.low.now.scope c.args.limit.level c.args.limit.scope (contains nat_eq c.args.low.now.roots)
      (let e = w.if-limit-low.false in omega arith) (let e = w.if-limit-low-2.false in omega arith) h)
]
