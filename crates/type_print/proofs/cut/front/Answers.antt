use Rattle.std.proofs.Common.{◌≡◌, true, false}
use Rattle.type_print.proofs.cut.front.Goals as goal

pub returns-in-Some : goal.returns-in-Some
returns-in-Some c b = let is : false ≡ true = rw c.if-is_char_boundary.false at (c.is_char_boundary.ensures.test.1 b) in cc

pub returns : goal.returns
returns c b = let is : false ≡ true = rw c.if-is_char_boundary.false at (c.is_char_boundary.ensures.test.1 b) in cc
