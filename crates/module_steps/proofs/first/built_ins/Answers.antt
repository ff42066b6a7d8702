use Rattle.std.proofs.Common.{[]}
use Rattle.typing_steps.proofs.Starting.{constants_kept}
use Rattle.first_laws.proofs.First.{all_built_ins, outside_first}
use Rattle.module_steps.proofs.BuiltRoots.{entered_index, entered_faults}
use Rattle.module_steps.proofs.first.built_ins.Goals as goal

pub returns-clause-outside : goal.returns-clause-outside
returns-clause-outside c = λ level. outside_first c.args.at.now c.with_all.new.at c.len-nodes.ensures.sound level (c.in_ok-env.ensures.declares level)

pub returns-clause-constants : goal.returns-clause-constants
returns-clause-constants c = constants_kept c.args.at.now c.with_all.new.at c.with_all.ensures.goes

pub returns-clause-goes : goal.returns-clause-goes
returns-clause-goes c = c.with_all.ensures.goes

pub returns-in_err-env-clause-goes : goal.returns-in_err-env-clause-goes
returns-in_err-env-clause-goes c = c.with_all.ensures.goes

pub returns-clause-index : goal.returns-clause-index
returns-clause-index c = λ level. entered_index all_built_ins c.args.at.now c.with_all.new.at [] c.in_ok-env.env (c.in_ok-env.ensures.declares level)

pub returns-clause-faults : goal.returns-clause-faults
returns-clause-faults c = λ level. entered_faults all_built_ins c.args.at.now c.with_all.new.at [] c.in_ok-env.env (c.in_ok-env.ensures.declares level)
