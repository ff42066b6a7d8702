use Rattle.typing_state.proofs.Going.{goes_trans}
use Rattle.std.proofs.Common.{ap}
use Rattle.row_parts.specs.Numbered.{operand_view}
use Rattle.operand_laws.specs.Operands.{pattern_of}
use Rattle.pattern_typing.specs.Matching.{binds_of, names_seen}
use Rattle.binding_rows.proofs.CaseOperands.{matches_alone}
use Rattle.binding_rows.proofs.Parameters.{parameter_typed}
use Rattle.binding_steps.proofs.parameters.type_parameter.Goals as goal

pub returns-clause-carries : goal.returns-clause-carries
returns-clause-carries c = λ carried.
    parameter_typed c.args.at.now c.type_pattern.new.at c.warn_parameter.new.at c.args.env.now (pattern_of c.args.at.now.item (operand_view c.args.parameter)) (binds_of c.in_ok-matched.matched.names.items) c.in_ok-matched.matched.ty.0
    (matches_alone (ap names_seen c.new-seen.ensures.items) (c.in_ok-matched.ensures.carries carried)) c.in_ok-warn_parameter.ensures.warns

pub returns-clause-goes : goal.returns-clause-goes
returns-clause-goes c = goes_trans c.args.at.now c.type_pattern.new.at c.warn_parameter.new.at c.type_pattern.ensures.goes c.warn_parameter.ensures.goes

pub returns-in_err-warn_parameter-clause-goes : goal.returns-in_err-warn_parameter-clause-goes
returns-in_err-warn_parameter-clause-goes c = goes_trans c.args.at.now c.type_pattern.new.at c.warn_parameter.new.at c.type_pattern.ensures.goes c.warn_parameter.ensures.goes
