use Rattle.std.proofs.Common.{refl}
use Rattle.operand_laws.specs.Operands.{number_of}
use Rattle.expression_steps.proofs.RecordLaws.{pun_missing, pun_there}
use Rattle.expression_steps.proofs.fields.pun.Goals as goal

pub returns-in-None-clause-carries : goal.returns-in-None-clause-carries
returns-in-None-clause-carries c =
    pun_missing c.note_plain.result c.args.label.now.last c.args.at.now c.note_plain.new.self c.args.env.now c.args.number (number_of c.args.at.now.item c.args.number) c.args.wanted refl c.in-None.is c.note_plain.ensures.noted c.note_plain.ensures.rest

pub returns-in-Some-clause-carries : goal.returns-in-Some-clause-carries
returns-in-Some-clause-carries c = pun_there c.pun_of.result c.args.label.now.last c.in-Some.last c.args.at.now c.pun_of.new.at c.args.env.now (number_of c.args.at.now.item c.args.number) c.args.wanted c.in-Some.is c.pun_of.ensures.carries

pub returns-in-None-clause-recorded : goal.returns-in-None-clause-recorded
returns-in-None-clause-recorded c = c.note_plain.ensures.recorded

pub returns-in-Some-clause-recorded : goal.returns-in-Some-clause-recorded
returns-in-Some-clause-recorded c = c.pun_of.ensures.recorded

pub returns-in-None-clause-goes : goal.returns-in-None-clause-goes
returns-in-None-clause-goes c = c.note_plain.ensures.goes

pub returns-in-Some-clause-goes : goal.returns-in-Some-clause-goes
returns-in-Some-clause-goes c = c.pun_of.ensures.goes
