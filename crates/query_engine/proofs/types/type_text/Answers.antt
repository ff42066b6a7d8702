use Rattle.std.proofs.Common.{◌≡◌, true, rules}
use Rattle.type_nodes.specs.Views.{numbers}
use Rattle.query_engine.specs.Texts.{is_node}
use Rattle.query_engine.proofs.TypeTexts.{printed}
use Rattle.query_engine.proofs.types.type_text.Goals as goal

pub returns : goal.returns
returns c =
    let there : is_node c.args.asked.now c.args.ty.0 ≡ true = let is = c.is_node.ensures in let not = c.if-not-is_node.false in search rules in
    printed c.print_type.result c.args.asked.now c.args.env.now c.args.ty.0 (numbers c.weak_in.result.now) c.weak_in.ensures.numbers there c.print_type.ensures.text c.print_type.ensures.defined c.print_type.ensures.inside
