use Rattle.expression_steps.proofs.parts.scope_of_name.Goals as goal

pub returns : goal.returns
returns c = (c.in_ok-entry.entry.value, c.in_ok-add.ensures, c.in_ok-entry.ensures)
