use Rattle.typing_state.proofs.Going.{goes_trans}
use Rattle.std.proofs.Common.{None, refl, ap}
use Rattle.syntax_tree.specs.View.{tok_of}
use Rattle.operand_laws.specs.Operands.{number_of}
use Rattle.expression_steps.proofs.RecordLaws.{pun_noted}
use Rattle.expression_steps.proofs.fields.pun_of.Goals as goal

pub returns-clause-carries : goal.returns-clause-carries
returns-clause-carries c =
    pun_noted c.note.result c.args.at.now c.value_of_name.new.at c.note.new.self c.args.env.now c.args.number (number_of c.args.at.now.item c.args.number) (tok_of c.args.last.now) c.args.wanted (record { env = c.args.env.now; ty = None; names = c.in_ok-names.names }) refl refl (ap (λ i. number_of i c.args.number) c.value_of_name.ensures.goes.item) c.in_ok-used.ensures.carries c.note.ensures.noted c.note.ensures.rest

pub returns-clause-recorded : goal.returns-clause-recorded
returns-clause-recorded c = c.note.ensures.recorded

pub returns-clause-goes : goal.returns-clause-goes
returns-clause-goes c = goes_trans c.args.at.now c.value_of_name.new.at c.note.new.self c.value_of_name.ensures.goes c.note.ensures.goes

pub returns-in_err-names-clause-goes : goal.returns-in_err-names-clause-goes
returns-in_err-names-clause-goes c = c.value_of_name.ensures.goes

pub returns-in_err-used-clause-goes : goal.returns-in_err-used-clause-goes
returns-in_err-used-clause-goes c = c.value_of_name.ensures.goes
