use Rattle.type_alternatives.specs.Alternatives.{declared, undeclared}
use Rattle.type_alternatives.proofs.values.of_declared.Goals as goal

pub returns-in_ok-found-in-Some : goal.returns-in_ok-found-in-Some
returns-in_ok-found-in-Some c = declared (rw c.in-Some.is at c.in_ok-declaration.ensures) (rw c.deref.ensures at c.in_ok-found-in-Some.ensures)

pub returns-in-None : goal.returns-in-None
returns-in-None c = undeclared (rw c.in-None.is at c.in_ok-declaration.ensures)
