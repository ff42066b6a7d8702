use Rattle.plain_typing.proofs.Items.{item_of_other, item_of_two}
use Rattle.plain_typing.proofs.bound.item_of.Goals as goal

pub returns-then-children-ne2 : goal.returns-then-children-ne2
returns-then-children-ne2 c = item_of_other c.args.item.now _ c.as_slice-children.ensures.value c.if-children-ne2.true

pub returns : goal.returns
returns c = rw (c.bound_in.ensures, ← c.index-children-1.is) (item_of_two c.args.item.now _ c.index-children-1.result c.as_slice-children.ensures.value c.if-children-ne2.false c.index-children-1.is)
