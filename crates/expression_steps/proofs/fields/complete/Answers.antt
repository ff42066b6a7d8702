use Rattle.typing_state.proofs.Going.{goes_trans}
use Rattle.std.proofs.Common.{refl}
use Rattle.expression_steps.specs.Records.{here_of}
use Rattle.expression_steps.proofs.RecordLaws.{record_ended}
use Rattle.expression_steps.proofs.fields.complete.Goals as goal

pub returns-clause-carries : goal.returns-clause-carries
returns-clause-carries c =
    record_ended c.type_of_record.result c.args.at.now c.ask_complete.new.at c.type_of_record.new.at (here_of c.args.fields.now.found) c.args.fields.now.labels.items c.args.fields.now.labels.items c.args.span refl c.in_ok-ask_complete.ensures.carries c.type_of_record.ensures.carries

pub returns-clause-goes : goal.returns-clause-goes
returns-clause-goes c = goes_trans c.args.at.now c.ask_complete.new.at c.type_of_record.new.at c.ask_complete.ensures.goes c.type_of_record.ensures.goes

pub returns-in_err-ask_complete-clause-goes : goal.returns-in_err-ask_complete-clause-goes
returns-in_err-ask_complete-clause-goes c = c.ask_complete.ensures.goes
