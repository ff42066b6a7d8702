use Rattle.typing_state.proofs.Going.{goes_refl}
use Rattle.expression_steps.proofs.EndingLaws.{settable_missing, settable_held, settable_told}
use Rattle.expression_steps.proofs.ends.ask_settable.Goals as goal

pub returns-in_default-clause-carries : goal.returns-in_default-clause-carries
returns-in_default-clause-carries c = settable_missing c.args.at.now c.args.path.now c.args.is_mutable c.in_default.is

pub returns-then-is_mutable-clause-carries : goal.returns-then-is_mutable-clause-carries
returns-then-is_mutable-clause-carries c = settable_held c.args.at.now c.args.path.now c.in-Some.last c.args.is_mutable c.in-Some.is c.if-is_mutable.true

pub returns-clause-carries : goal.returns-clause-carries
returns-clause-carries c = settable_told c.not_mutable.result c.args.at.now c.not_mutable.new.self c.args.path.now c.in-Some.last c.args.is_mutable c.as_str.ensures c.in-Some.is c.if-is_mutable.false c.not_mutable.ensures.told c.not_mutable.ensures.rest

pub returns-clause-goes : goal.returns-clause-goes
returns-clause-goes c = c.not_mutable.ensures.goes

pub returns-in_default-clause-goes : goal.returns-in_default-clause-goes
returns-in_default-clause-goes c = goes_refl c.args.at.now

pub returns-then-is_mutable-clause-goes : goal.returns-then-is_mutable-clause-goes
returns-then-is_mutable-clause-goes c = goes_refl c.args.at.now
