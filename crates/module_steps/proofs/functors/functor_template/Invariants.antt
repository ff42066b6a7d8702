use Rattle.std.proofs.Common.{length}
use Rattle.env_table.specs.declared.entries.Template.{Template}
use Rattle.module_steps.specs.Modules.{templates_of, IsFunctorOver}
use Rattle.module_steps.proofs.functors.functor_template.Given as goal

abbrev pub invariant-loop-parameter : goal.invariant-loop-parameter
invariant-loop-parameter l = (t : Template) → IsFunctorOver (templates_of l.rest) l.template.value t → IsFunctorOver (templates_of l.taken) l.fn.body.value t

abbrev pub decreases-loop-parameter : goal.decreases-loop-parameter
decreases-loop-parameter l = length l.rest
