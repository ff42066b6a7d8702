use Rattle.std.proofs.Common.{sym, subst}
use Rattle.std.specs.Prelude.{option_map}
use Rattle.std.proofs.lemmas.Result.{IfOk-weaker}
use Rattle.row_parts.specs.Numbered.{operand_view}
use Rattle.type_terms.specs.declared.types.NodeRef.{NodeRef}
use Rattle.type_nodes.specs.Views.{numbers}
use Rattle.typing_steps.proofs.Rows.{equal_asks}
use Rattle.binding_rows.specs.Operands.{MakesWholeOf}
use Rattle.binding_rows.proofs.Operands.{whole_of_body, whole_of_written}
use Rattle.binding_steps.proofs.groups.whole.Goals as goal

pub returns-in_ok-equal-in-Some-clause-carries : goal.returns-in_ok-equal-in-Some-clause-carries
returns-in_ok-equal-in-Some-clause-carries c =
    let ms = numbers c.args.parameters.now in
    let o = operand_view c.args.body in
    IfOk-weaker c.arrows.result _ _ (λ m made.
    subst (λ w. MakesWholeOf c.args.at.now c.arrows.new.at c.args.env.now o (option_map (λ (n : NodeRef). n.0) w) ms c.args.right.0 m.0) (sym c.in-Some.is)
    (whole_of_written c.args.at.now c.equal.new.self c.arrows.new.at c.args.env.now o c.in-Some.annotation.0 ms c.args.right.0 m.0
    (equal_asks c.args.at.now c.equal.new.self c.args.env.now _ c.in_ok-equal-in-Some.ensures.verdict c.equal.ensures.rest c.equal.ensures.goes) made)) c.arrows.ensures.carries

pub returns-in-None-clause-carries : goal.returns-in-None-clause-carries
returns-in-None-clause-carries c =
    let ms = numbers c.args.parameters.now in
    let o = operand_view c.args.body in
    IfOk-weaker c.arrows-in-None.result _ _ (λ m made.
    subst (λ w. MakesWholeOf c.args.at.now c.arrows-in-None.new.at c.args.env.now o (option_map (λ (n : NodeRef). n.0) w) ms c.args.right.0 m.0) (sym c.in-None.is) (whole_of_body c.args.at.now c.arrows-in-None.new.at c.args.env.now o ms c.args.right.0 m.0 made))
    c.arrows-in-None.ensures.carries
