use Rattle.typing_state.proofs.Recording.{noted_nameless}
use Rattle.typing_state.proofs.parts.Parts.note_plain.Goals as goal

pub returns-clause-noted : goal.returns-clause-noted
returns-clause-noted c = noted_nameless c.note.result c.args.self.now c.note.new.self c.args.number _ _ c.new.result c.new.ensures.items c.note.ensures.noted

pub returns-clause-goes : goal.returns-clause-goes
returns-clause-goes c = c.note.ensures.goes
