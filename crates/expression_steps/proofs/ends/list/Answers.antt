use Rattle.std.proofs.Common.{map, ◌≡◌, slice_get, subst}
use Rattle.std.proofs.lemmas.Result.{IfOk-weaker}
use Rattle.row_parts.specs.Numbered.{operand_view}
use Rattle.type_nodes.specs.Views.{numbers}
use Rattle.typing_rows.specs.Asked.{expressions_of}
use Rattle.typing_rows.specs.Contracts.{AsksLater}
use Rattle.expression_steps.proofs.EndingLaws.{list_ends}
use Rattle.expression_steps.proofs.ends.list.Goals as goal

pub returns-clause-carries : goal.returns-clause-carries
returns-clause-carries c =
    let types = c.args.types.now in
    let first : c.copied.result ≡ slice_get types 0 = cc in
    let os = map operand_view c.args.parts.now in
    let later = subst (λ i. AsksLater c.type_or_var.new.at c.later_have.new.at c.args.env.now (expressions_of i os) (numbers types) c.in_ok-element.element.0) c.type_or_var.ensures.goes.item c.in_ok-later_have.ensures.carries in
    IfOk-weaker c.list.result _ _ (λ m made.
    list_ends c.args.at.now c.type_or_var.new.at c.later_have.new.at c.list.new.self c.args.env.now (expressions_of c.args.at.now.item os) types c.copied.result c.in_ok-element.element m.0 first c.in_ok-element.ensures.ty c.in_ok-element.ensures.carries c.type_or_var.ensures.goes c.later_have.ensures.goes later made c.list.ensures.rest) c.list.ensures.made
