use Rattle.std.proofs.Common.{subst}
use Rattle.row_parts.specs.Numbered.{operand_view}
use Rattle.typing_steps.proofs.Rows.{equal_asks}
use Rattle.use_typing.proofs.Reading.{on_ok}
use Rattle.binding_rows.specs.Operands.{AsksWholeOf}
use Rattle.binding_rows.proofs.Operands.{whole_of_pattern}
use Rattle.binding_steps.proofs.groups.pattern_has.Goals as goal

pub returns-clause-carries : goal.returns-clause-carries
returns-clause-carries c =
    let o = operand_view c.pattern_in-pattern.result in
    let found = c.args.opened.now.matched.ty.0 in
    on_ok c.warn_pattern.result (λ warned.
    subst (λ p. AsksWholeOf c.args.at.now c.warn_pattern.new.at c.args.env.now p found c.args.whole.0) c.pattern_in-pattern.ensures
    (whole_of_pattern c.args.at.now c.equal.new.self c.warn_pattern.new.at c.args.env.now o found c.args.whole.0
    (equal_asks c.args.at.now c.equal.new.self c.args.env.now _ c.in_ok-verdict.ensures.verdict c.equal.ensures.rest c.equal.ensures.goes) warned)) c.warn_pattern.ensures.warns
