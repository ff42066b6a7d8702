use Rattle.std.proofs.Common.{subst}
use Rattle.row_parts.specs.Numbered.{operand_view}
use Rattle.pattern_names.specs.PatternNames.{pattern_names}
use Rattle.pattern_rows.specs.CarriedPatterns.{MatchesOperand}
use Rattle.pattern_typing.specs.Matching.{Binds, binds_of, names_seen}
use Rattle.pattern_typing.proofs.patterns.type_pattern.Goals as goal

pub returns-clause-names : goal.returns-clause-names
returns-clause-names c = subst (λ bs. Binds bs c.match_pattern.new.names.items (pattern_names (operand_view c.args.p))) c.new-names.ensures.items c.in_ok-ty.ensures.names

pub returns-clause-carries : goal.returns-clause-carries
returns-clause-carries c =
    subst (λ bs. MatchesOperand c.args.at.now c.match_pattern.new.at c.args.env.now (operand_view c.args.p) (binds_of bs) (binds_of c.match_pattern.new.names.items) (names_seen c.args.seen.now.items) (names_seen c.match_pattern.new.seen.items) c.in_ok-ty.ty.0) c.new-names.ensures.items c.in_ok-ty.ensures.carries

pub returns-clause-goes : goal.returns-clause-goes
returns-clause-goes c = c.match_pattern.ensures.goes

pub returns-in_err-ty-clause-goes : goal.returns-in_err-ty-clause-goes
returns-in_err-ty-clause-goes c = c.match_pattern.ensures.goes
