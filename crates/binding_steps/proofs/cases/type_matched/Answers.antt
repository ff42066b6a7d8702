use Rattle.std.proofs.Common.{ap}
use Rattle.row_parts.specs.Numbered.{operand_view}
use Rattle.typing_steps.proofs.Rows.{equal_asks}
use Rattle.pattern_typing.specs.Matching.{binds_of, names_seen}
use Rattle.binding_rows.proofs.CaseOperands.{pattern_matched}
use Rattle.binding_steps.proofs.cases.type_matched.Goals as goal

pub returns-clause-carries : goal.returns-clause-carries
returns-clause-carries c =
    pattern_matched c.args.at.now c.type_pattern.new.at c.equal.new.self c.args.env.now (operand_view c.args.pattern) (binds_of c.in_ok-bound.bound.names.items) (names_seen c.new-seen.result.items) (names_seen c.type_pattern.new.seen.items) c.in_ok-bound.bound.ty.0 c.args.matched.0
    (ap names_seen c.new-seen.ensures.items) c.in_ok-bound.ensures.carries c.type_pattern.ensures.goes (equal_asks c.type_pattern.new.at c.equal.new.self c.args.env.now _ c.in_ok-equal.ensures.verdict c.equal.ensures.rest c.equal.ensures.goes)
