use Rattle.typing_state.proofs.Going.{goes_refl}
use Rattle.expression_steps.proofs.RecordLaws.{refused_there, refused_missing}
use Rattle.expression_steps.proofs.fields.ask_label.Goals as goal

pub returns-in-Some-clause-carries : goal.returns-in-Some-clause-carries
returns-in-Some-clause-carries c = refused_there c.no_label.result c.args.first c.in-Some.field-0 c.args.at.now c.no_label.new.self c.in-Some.is c.no_label.ensures.told c.no_label.ensures.rest

pub returns-in-None-clause-carries : goal.returns-in-None-clause-carries
returns-in-None-clause-carries c = refused_missing c.args.first c.args.at.now c.in-None.is

pub returns-in-None-clause-goes : goal.returns-in-None-clause-goes
returns-in-None-clause-goes c = goes_refl c.args.at.now

pub returns-in-Some-clause-goes : goal.returns-in-Some-clause-goes
returns-in-Some-clause-goes c = c.no_label.ensures.goes
