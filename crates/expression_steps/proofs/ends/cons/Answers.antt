use Rattle.typing_state.proofs.Going.{goes_trans}
use Rattle.std.proofs.Common.{map, sym, subst}
use Rattle.std.proofs.lemmas.Result.{IfOk-weaker}
use Rattle.type_nodes.specs.Views.{numbers}
use Rattle.row_parts.specs.Numbered.{operand_view}
use Rattle.typing_rows.specs.Asked.{expressions_of}
use Rattle.typing_rows.specs.Contracts.{AsksAt}
use Rattle.typing_steps.proofs.Rows.{var_any}
use Rattle.expression_steps.proofs.CarryingLaws.{number_here, number_missing}
use Rattle.expression_steps.proofs.EndingLaws.{cons_ends, cons_empty}
use Rattle.expression_steps.proofs.ends.cons.Goals as goal

pub returns-in_ok-has-in-Some-clause-carries : goal.returns-in_ok-has-in-Some-clause-carries
returns-in_ok-has-in-Some-clause-carries c =
    let types = c.args.types.now in
    let os = map operand_view c.args.parts.now in
    let whole = c.in_ok-whole-in-Some.whole in
    cons_ends c.args.at.now c.list.new.self c.has.new.at c.args.env.now (expressions_of c.args.at.now.item os) (numbers types) c.in-Some.left.now.0 whole.0 (number_here types 0 c.in-Some.left.now (sym c.in-Some.ensures.value)) c.in_ok-whole-in-Some.ensures.made c.list.ensures.rest
    (subst (λ i. AsksAt c.list.new.self c.has.new.at c.args.env.now (expressions_of i os) (numbers types) 1 whole.0) c.list.ensures.goes.item c.in_ok-has-in-Some.ensures.carries)

pub returns-in-None-clause-carries : goal.returns-in-None-clause-carries
returns-in-None-clause-carries c =
    let types = c.args.types.now in
    IfOk-weaker c.var.result _ _ (λ m made.
    cons_empty c.args.at.now c.var.new.self c.args.env.now (expressions_of c.args.at.now.item (map operand_view c.args.parts.now)) (numbers types) m.0 (number_missing types 0 (sym c.in-None.ensures.value)) (var_any c.args.at.now c.var.new.self made c.var.ensures.rest)) c.var.ensures.made

pub returns-in-None-clause-goes : goal.returns-in-None-clause-goes
returns-in-None-clause-goes c = c.var.ensures.goes

pub returns-in_err-has-in-Some-clause-goes : goal.returns-in_err-has-in-Some-clause-goes
returns-in_err-has-in-Some-clause-goes c = goes_trans c.args.at.now c.list.new.self c.has.new.at c.list.ensures.goes c.has.ensures.goes

pub returns-in_err-whole-in-Some-clause-goes : goal.returns-in_err-whole-in-Some-clause-goes
returns-in_err-whole-in-Some-clause-goes c = c.list.ensures.goes

pub returns-in_ok-has-in-Some-clause-goes : goal.returns-in_ok-has-in-Some-clause-goes
returns-in_ok-has-in-Some-clause-goes c = goes_trans c.args.at.now c.list.new.self c.has.new.at c.list.ensures.goes c.has.ensures.goes
