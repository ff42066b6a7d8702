use Rattle.typing_state.specs.Notes.{IsRecordedMissing}
use Rattle.row_parts.specs.Numbered.{part_of}
use Rattle.std.specs.Prelude.{OnOk}
use Rattle.std.proofs.Common.{sym, subst}
use Rattle.typing_state.proofs.Going.{goes_refl}
use Rattle.typing_steps.proofs.Still.{notes_none, plain_notes}
use Rattle.use_typing.proofs.Reading.{on_ok}
use Rattle.use_typing.proofs.labels.note_if_missing.Goals as goal

pub returns-in-None-clause-goes : goal.returns-in-None-clause-goes
returns-in-None-clause-goes c = c.note_plain.ensures.goes

pub returns-in-Some-clause-goes : goal.returns-in-Some-clause-goes
returns-in-Some-clause-goes c = goes_refl c.args.at.now

pub returns-in-None-clause-notes : goal.returns-in-None-clause-notes
returns-in-None-clause-notes c = on_ok c.note_plain.result (λ noted. plain_notes c.args.at.now c.note_plain.new.self c.args.field.number c.args.env.now noted c.note_plain.ensures.rest) c.note_plain.ensures.noted

pub returns-in-Some-clause-notes : goal.returns-in-Some-clause-notes
returns-in-Some-clause-notes c = notes_none c.args.at.now

pub returns-in-None-clause-recorded : goal.returns-in-None-clause-recorded
returns-in-None-clause-recorded c = subst (λ m. OnOk c.note_plain.result (IsRecordedMissing (part_of m c.args.field.span) c.note_plain.new.self c.args.field.number)) (sym c.in-None.is) c.note_plain.ensures.recorded

pub returns-in-Some-clause-recorded : goal.returns-in-Some-clause-recorded
returns-in-Some-clause-recorded c = subst (λ m. IsRecordedMissing (part_of m c.args.field.span) c.args.at.now c.args.field.number) (sym c.in-Some.is) tt
