use Rattle.std.proofs.Common.{sym, subst, ◌<◌, ◌≤◌, length, map, refl, arith}
use Rattle.std.proofs.lemmas.Option.{slice_get_read}
use Rattle.std.proofs.lemmas.Result.{IfOk-weaker}
use Rattle.type_nodes.specs.Views.{numbers}
use Rattle.row_parts.specs.Numbered.{operand_view}
use Rattle.typing_rows.specs.Asked.{expressions_of}
use Rattle.typing_steps.proofs.Rows.{var_any}
use Rattle.expression_steps.proofs.CarryingLaws.{number_here, number_missing, past_end}
use Rattle.value_forms.proofs.Nodes.{parts_count}
use Rattle.expression_steps.proofs.EndingLaws.{else_ends, then_ends, if_empty}
use Rattle.expression_steps.proofs.ends.branches.Goals as goal

pub returns-in_ok-has-clause-carries : goal.returns-in_ok-has-clause-carries
returns-in_ok-has-clause-carries c =
    let types = c.args.types.now in
    let parts = c.args.parts.now in
    let i = c.args.at.now.item in
    let h = c.in-Some.ensures.lookup in
    let lt : 1 < length types = let n = h.0 in grind (arith) in
    else_ends c.args.at.now c.has.new.at c.args.env.now (expressions_of i (map operand_view parts)) (numbers types) c.in-Some.yes.now.0 (subst (λ n. 2 < n) (sym (parts_count i parts)) c.if-parts-gt2.true)
    (number_here types 1 c.in-Some.yes.now (slice_get_read types (length types) 1 c.in-Some.yes.now refl lt h.1)) c.in_ok-has.ensures.carries

pub returns-in_ok-has-2-clause-carries : goal.returns-in_ok-has-2-clause-carries
returns-in_ok-has-2-clause-carries c =
    let types = c.args.types.now in
    let parts = c.args.parts.now in
    let i = c.args.at.now.item in
    let h = c.in-Some.ensures.lookup in
    let lt : 1 < length types = let n = h.0 in grind (arith) in
    then_ends c.args.at.now c.has-else-parts-gt2.new.at c.args.env.now (expressions_of i (map operand_view parts)) (numbers types) c.in-Some.yes.now.0 (subst (λ n. n ≤ 2) (sym (parts_count i parts)) c.if-parts-gt2.false)
    (number_here types 1 c.in-Some.yes.now (slice_get_read types (length types) 1 c.in-Some.yes.now refl lt h.1)) c.in_ok-has-2.ensures.carries

pub returns-in_default-clause-carries : goal.returns-in_default-clause-carries
returns-in_default-clause-carries c =
    let types = c.args.types.now in
    let h = c.in_default.ensures.lookup in
    let le : length types ≤ 1 = let n = h.0 in grind (arith) in
    IfOk-weaker c.var.result _ _ (λ m made.
    if_empty c.args.at.now c.var.new.self c.args.env.now (expressions_of c.args.at.now.item (map operand_view c.args.parts.now)) (numbers types) m.0 (number_missing types 1 (past_end types 1 le)) (var_any c.args.at.now c.var.new.self made c.var.ensures.rest)) c.var.ensures.made

pub returns-in_default-clause-goes : goal.returns-in_default-clause-goes
returns-in_default-clause-goes c = c.var.ensures.goes

pub returns-in_err-has-2-clause-goes : goal.returns-in_err-has-2-clause-goes
returns-in_err-has-2-clause-goes c = c.has-else-parts-gt2.ensures.goes

pub returns-in_err-has-clause-goes : goal.returns-in_err-has-clause-goes
returns-in_err-has-clause-goes c = c.has.ensures.goes

pub returns-in_ok-has-2-clause-goes : goal.returns-in_ok-has-2-clause-goes
returns-in_ok-has-2-clause-goes c = c.has-else-parts-gt2.ensures.goes

pub returns-in_ok-has-clause-goes : goal.returns-in_ok-has-clause-goes
returns-in_ok-has-clause-goes c = c.has.ensures.goes
