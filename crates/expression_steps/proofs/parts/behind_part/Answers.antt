use Rattle.typing_state.proofs.Going.{goes_refl}
use Rattle.std.proofs.Common.{◌∙◌, ◌==◌, ◌&&◌, sym, ap}
use Rattle.syntax_tree.specs.Names.{row_of}
use Rattle.row_parts.specs.Numbered.{operand_view}
use Rattle.operand_laws.specs.Operands.{expression_of}
use Rattle.typing_rows.specs.Asked.{wants_bool}
use Rattle.typing_rows.proofs.Ordered.{behind_bool, behind_none}
use Rattle.value_forms.proofs.FalseLaws.{false_at}
use Rattle.expression_steps.proofs.EndingLaws.{on_more}
use Rattle.expression_steps.proofs.parts.behind_part.Goals as goal

pub returns-then-is_condition-clause-carries : goal.returns-then-is_condition-clause-carries
returns-then-is_condition-clause-carries c =
    let o = operand_view c.args.part in
    let i = c.args.at.now.item in
    let wants = ap (λ b. c.args.place == 0 && wants_bool (row_of c.args.row) b) (false_at i o) ∙ sym c.is_condition.ensures ∙ c.if-is_condition.true in
    on_more c.ask_bool.result _ _ (λ h. behind_bool c.args.at.now c.ask_bool.new.at c.args.env.now (row_of c.args.row) c.args.place (expression_of i o) c.args.ty.0 wants h) c.ask_bool.ensures.carries

pub returns-clause-carries : goal.returns-clause-carries
returns-clause-carries c =
    let o = operand_view c.args.part in
    let i = c.args.at.now.item in
    behind_none c.args.at.now c.args.env.now (row_of c.args.row) c.args.place (expression_of i o) c.args.ty.0 (ap (λ b. c.args.place == 0 && wants_bool (row_of c.args.row) b) (false_at i o) ∙ sym c.is_condition.ensures ∙ c.if-is_condition.false)

pub returns-clause-goes : goal.returns-clause-goes
returns-clause-goes c = goes_refl c.args.at.now

pub returns-then-is_condition-clause-goes : goal.returns-then-is_condition-clause-goes
returns-then-is_condition-clause-goes c = c.ask_bool.ensures.goes
