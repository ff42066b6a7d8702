use Rattle.syntax_tree.specs.View.{place_of}
use Rattle.row_parts.specs.Numbered.{operand_view}
use Rattle.operand_laws.specs.Operands.{expression_of}
use Rattle.operand_laws.proofs.Standing.{expression_of_stands}
use Rattle.typing_steps.proofs.Rows.{equal_asks}
use Rattle.typing_rows.proofs.Ordered.{asks_bool}
use Rattle.expression_steps.proofs.parts.ask_bool.Goals as goal

pub returns-clause-carries : goal.returns-clause-carries
returns-clause-carries c =
    let o = operand_view c.args.part in
    asks_bool c.args.at.now c.equal.new.self c.args.env.now (expression_of c.args.at.now.item o) (place_of c.args.part.span) c.args.ty.0 (expression_of_stands c.args.at.now.item o).where_it_is
    (equal_asks c.args.at.now c.equal.new.self c.args.env.now _ c.in_ok-equal.ensures.verdict c.equal.ensures.rest c.equal.ensures.goes)

pub returns-clause-goes : goal.returns-clause-goes
returns-clause-goes c = c.equal.ensures.goes

pub returns-in_err-equal-clause-goes : goal.returns-in_err-equal-clause-goes
returns-in_err-equal-clause-goes c = c.equal.ensures.goes
