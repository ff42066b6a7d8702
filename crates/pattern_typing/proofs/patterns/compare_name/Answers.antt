use Rattle.typing_state.proofs.Going.{goes_refl}
use Rattle.std.proofs.Common.{◌∙◌, sym, ap, option_map}
use Rattle.typing_steps.proofs.Rows.{equal_asks}
use Rattle.pattern_rows.proofs.Beside.{name_alone, name_common}
use Rattle.pattern_typing.specs.Matching.{bind_of, binds_of}
use Rattle.pattern_typing.proofs.patterns.compare_name.Goals as goal

pub returns-in_ok-equal-clause-carries : goal.returns-in_ok-equal-clause-carries
returns-in_ok-equal-clause-carries c =
    name_common c.args.at.now c.equal.new.self c.args.env.now (bind_of c.args.name.now) (bind_of c.in-Some.other.now) (binds_of c.args.later.now) (sym c.find.ensures.found ∙ ap (option_map (λ b. bind_of b.now)) c.in-Some.is)
    (equal_asks c.args.at.now c.equal.new.self c.args.env.now _ c.in_ok-equal.ensures.verdict c.equal.ensures.rest c.equal.ensures.goes)

pub returns-in_default-clause-carries : goal.returns-in_default-clause-carries
returns-in_default-clause-carries c = name_alone c.args.at.now c.args.env.now (bind_of c.args.name.now) (binds_of c.args.later.now) (sym c.find.ensures.found ∙ ap (option_map (λ b. bind_of b.now)) c.in_default.is)

pub returns-in_default-clause-goes : goal.returns-in_default-clause-goes
returns-in_default-clause-goes c = goes_refl c.args.at.now

pub returns-in_err-equal-clause-goes : goal.returns-in_err-equal-clause-goes
returns-in_err-equal-clause-goes c = c.equal.ensures.goes

pub returns-in_ok-equal-clause-goes : goal.returns-in_ok-equal-clause-goes
returns-in_ok-equal-clause-goes c = c.equal.ensures.goes
