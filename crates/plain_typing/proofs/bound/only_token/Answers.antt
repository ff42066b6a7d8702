use Rattle.plain_typing.proofs.Items.{token_in_other, token_in_one}
use Rattle.plain_typing.proofs.bound.only_token.Goals as goal

pub returns-then-children-ne1 : goal.returns-then-children-ne1
returns-then-children-ne1 c = token_in_other c.args.node.now _ c.as_slice-children.ensures.value c.if-children-ne1.true

pub returns : goal.returns
returns c = rw (c.taken_token.ensures, ← c.index-children-0.is) (token_in_one c.args.node.now _ c.index-children-0.result c.as_slice-children.ensures.value c.if-children-ne1.false c.index-children-0.is)
