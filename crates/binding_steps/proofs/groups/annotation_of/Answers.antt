use Rattle.std.proofs.Common.{Some, refl, sym, subst}
use Rattle.std.specs.Prelude.{None, option_map}
use Rattle.row_parts.specs.Numbered.{operand_view}
use Rattle.binding_rows.specs.Operands.{ReadsAnnotationOf}
use Rattle.binding_rows.proofs.Operands.{annotation_left_out, annotation_there}
use Rattle.binding_steps.proofs.groups.annotation_of.Goals as goal

pub returns-in_ok-ty-in-Some-clause-carries : goal.returns-in_ok-ty-in-Some-clause-carries
returns-in_ok-ty-in-Some-clause-carries c =
    subst (λ o. ReadsAnnotationOf c.args.at.now c.read_type.new.at c.args.within.now (option_map operand_view o) (Some c.in_ok-ty-in-Some.ty.0)) (sym c.in-Some.is)
    (annotation_there c.args.at.now c.read_type.new.at c.args.within.now (operand_view c.in-Some.written) c.in_ok-ty-in-Some.ty.0 (c.in_ok-ty-in-Some.ensures.carries refl))

pub returns-in-None-clause-carries : goal.returns-in-None-clause-carries
returns-in-None-clause-carries c = subst (λ o. ReadsAnnotationOf c.args.at.now c.args.at.now c.args.within.now (option_map operand_view o) None) (sym c.in-None.is) (annotation_left_out c.args.at.now c.args.within.now)
