use Rattle.std.proofs.Common.{◌∙◌}
use Rattle.grammar_model.specs.Keys.{key_of}
use Rattle.syntax_tree.specs.Names.{kind_of}
use Rattle.syntax_tree.specs.View.{tok_of}
use Rattle.syntax_tree.specs.declared.kinds.TokenKind.TheVariants as code
use Rattle.syntax_rows.proofs.KindsApart.{kind_apart, same_spelled}
use Rattle.syntax_rows.proofs.keys.Key.of.Goals as goal

pub returns-in_default : goal.returns-in_default
unfolding key_of
returns-in_default c = kind_apart c.args.token.now.kind (tok_of c.args.token.now).name c.in_default.not-Op13 c.in_default.not-Op12 c.in_default.not-Op9

pub returns-in-Op13 : goal.returns-in-Op13
unfolding key_of kind_of
returns-in-Op13 c = c.key_of_op13.ensures ∙ same_spelled c.args.token.now.kind code.Op13 c.as_str-name.result.now (tok_of c.args.token.now).name c.in-Op13.is c.as_str-name.ensures

pub returns-in-Op12 : goal.returns-in-Op12
unfolding key_of kind_of
returns-in-Op12 c = c.key_of_op12.ensures ∙ same_spelled c.args.token.now.kind code.Op12 c.as_str-name.result.now (tok_of c.args.token.now).name c.in-Op12.is c.as_str-name.ensures

pub returns-in-Op9 : goal.returns-in-Op9
unfolding key_of kind_of
returns-in-Op9 c = c.key_of_op9.ensures ∙ same_spelled c.args.token.now.kind code.Op9 c.as_str-name.result.now (tok_of c.args.token.now).name c.in-Op9.is c.as_str-name.ensures
