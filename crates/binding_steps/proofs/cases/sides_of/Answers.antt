use Rattle.std.proofs.Common.{sym, ap}
use Rattle.syntax_tree.specs.Names.{row_of}
use Rattle.binding_steps.specs.Sides.{sides_by}
use Rattle.binding_steps.proofs.ParameterLaws.{other_sides}
use Rattle.binding_steps.proofs.cases.sides_of.Goals as goal

pub returns-in-Etry : goal.returns-in-Etry
unfolding row_of
returns-in-Etry c = record { sides = ap (λ r. sides_by (row_of r) c.args.at.now.constants.exn c.args.ty) (sym c.in-Etry.is) }

pub returns-in_default : goal.returns-in_default
returns-in_default c = record { sides = sym (other_sides c.args.row c.args.at.now.constants.exn c.args.ty c.in_default.not-Etry) }
