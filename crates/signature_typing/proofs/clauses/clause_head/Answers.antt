use Rattle.typing_state.proofs.Going.{goes_trans}
use Rattle.signature_typing.proofs.clauses.clause_head.Goals as goal

pub returns : goal.returns
returns c = record { goes = goes_trans c.args.at.now c.note_plain.new.self c.note_plain-2.new.self c.note_plain.ensures.goes c.note_plain-2.ensures.goes }

pub returns-in_err-note_plain : goal.returns-in_err-note_plain
returns-in_err-note_plain c = record { goes = c.note_plain.ensures.goes }

pub returns-in_err-note_plain-2 : goal.returns-in_err-note_plain-2
returns-in_err-note_plain-2 c = record { goes = goes_trans c.args.at.now c.note_plain.new.self c.note_plain-2.new.self c.note_plain.ensures.goes c.note_plain-2.ensures.goes }
