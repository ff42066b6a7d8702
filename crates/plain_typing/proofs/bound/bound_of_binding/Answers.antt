use Rattle.plain_typing.proofs.Items.{bound_in_other, bound_in_three}
use Rattle.plain_typing.proofs.bound.bound_of_binding.Goals as goal

pub returns-then-children-ne3 : goal.returns-then-children-ne3
returns-then-children-ne3 c = bound_in_other c.args.binding.now _ c.as_slice-children.ensures.value c.if-children-ne3.true

pub returns : goal.returns
returns c = rw (c.bound_between.ensures, ← c.index-children-0.is, ← c.index-children-2.is) (bound_in_three c.args.binding.now _ c.index-children-0.result c.index-children-2.result c.as_slice-children.ensures.value c.if-children-ne3.false c.index-children-0.is c.index-children-2.is)
