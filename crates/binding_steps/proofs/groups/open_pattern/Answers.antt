use Rattle.std.proofs.Common.{[], subst}
use Rattle.operand_laws.specs.Operands.{pattern_of}
use Rattle.pattern_typing.specs.Matching.{binds_of, names_seen}
use Rattle.pattern_rows.specs.CarriedPatterns.{IsCarriedPattern}
use Rattle.pattern_rows.specs.Contracts.{Matches}
use Rattle.binding_steps.proofs.groups.open_pattern.Goals as goal

pub returns-clause-carries : goal.returns-clause-carries
returns-clause-carries c =
    let m = c.in_ok-matched.matched in
    subst (λ o. IsCarriedPattern o → Matches c.args.at.now c.type_pattern.new.at c.args.env.now (pattern_of c.args.at.now.item o) [] (binds_of m.names.items) (names_seen c.args.seen.now.items) (names_seen c.type_pattern.new.seen.items) m.ty.0) c.pattern_in.ensures
    c.in_ok-matched.ensures.carries
