use Rattle.std.proofs.Common.{map, sym, subst}
use Rattle.std.proofs.lemmas.Result.{IfOk-weaker}
use Rattle.syntax_tree.specs.View.{node_view}
use Rattle.type_nodes.specs.Views.{numbers}
use Rattle.row_parts.specs.Numbered.{operand_view}
use Rattle.typing_rows.specs.Asked.{expressions_of, ordered_end}
use Rattle.typing_rows.specs.Contracts.{EndsRow}
use Rattle.value_forms.specs.Heads.{row_at}
use Rattle.expression_steps.proofs.EndingLaws.{field_end, plain_end}
use Rattle.expression_steps.proofs.ends.behind_parts.Goals as goal

pub returns-in-Field-clause-carries : goal.returns-in-Field-clause-carries
returns-in-Field-clause-carries c =
    let es = expressions_of c.args.at.now.item (map operand_view c.args.parts.now) in
    IfOk-weaker c.field.result _ _ (λ u h ordered. field_end c.args.node.now c.args.at.now c.field.new.at c.args.env.now es (numbers c.args.types.now) u.ty.0 c.in-Field.is h) c.field.ensures.carries

pub returns-in_ok-ty-in_default : goal.returns-in_ok-ty-in_default
returns-in_ok-ty-in_default c = record {
  carries = λ ordered.
      let es = expressions_of c.args.at.now.item (map operand_view c.args.parts.now) in
      subst (λ x. EndsRow c.args.at.now c.type_of.new.at c.args.env.now (ordered_end (row_at (node_view c.args.node.now)) (node_view c.args.node.now) es) es (numbers c.args.types.now) x.0) (sym c.unnamed.ensures.ty)
      (plain_end c.args.node.now c.args.at.now c.type_of.new.at c.args.env.now es (numbers c.args.types.now) c.in_ok-ty-in_default.ty.0 c.in_default.not-Field ordered c.in_ok-ty-in_default.ensures.carries);
  goes = c.type_of.ensures.goes;
}

pub returns-in-Field-clause-goes : goal.returns-in-Field-clause-goes
returns-in-Field-clause-goes c = c.field.ensures.goes
