use Rattle.std.proofs.Common.{refl}
use Rattle.syntax_tree.specs.Names.{row_of}
use Rattle.plain_typing.proofs.build.value_row.Goals as goal

pub returns-then-is_lower : goal.returns-then-is_lower
unfolding row_of
returns-then-is_lower c = rw (← c.is_lower.ensures, c.if-is_lower.true) refl

pub returns-else-is_lower : goal.returns-else-is_lower
unfolding row_of
returns-else-is_lower c = rw (← c.is_lower.ensures, c.if-is_lower.false) refl
