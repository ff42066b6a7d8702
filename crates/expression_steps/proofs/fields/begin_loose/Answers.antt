use Rattle.typing_state.proofs.Going.{goes_trans}
use Rattle.row_parts.specs.Numbered.{operand_view}
use Rattle.syntax_tree.specs.View.{place_of}
use Rattle.expression_steps.proofs.RecordLaws.{loose_begun}
use Rattle.expression_steps.proofs.fields.begin_loose.Goals as goal

pub returns-clause-carries : goal.returns-clause-carries
returns-clause-carries c =
    loose_begun c.note_missing.result (operand_view c.args.pieces.now.first).part c.args.at.now c.ask_label.new.at c.note_missing.new.at (place_of c.args.pieces.now.first.span) c.in_ok-ask_label.ensures.carries c.note_missing.ensures.notes

pub returns-clause-goes : goal.returns-clause-goes
returns-clause-goes c = goes_trans c.args.at.now c.ask_label.new.at c.note_missing.new.at c.ask_label.ensures.goes c.note_missing.ensures.goes

pub returns-in_err-ask_label-clause-goes : goal.returns-in_err-ask_label-clause-goes
returns-in_err-ask_label-clause-goes c = c.ask_label.ensures.goes
