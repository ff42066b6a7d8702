use Rattle.typing_state.proofs.Going.{goes_trans}
use Rattle.std.proofs.Common.{subst}
use Rattle.syntax_tree.specs.View.{place_of}
use Rattle.typing_steps.proofs.Rows.{equal_asks}
use Rattle.pattern_rows.specs.Sides.{AsksNames}
use Rattle.pattern_rows.proofs.Beside.{beside}
use Rattle.pattern_typing.specs.Matching.{binds_of, side_of}
use Rattle.pattern_typing.proofs.patterns.compare_side.Goals as goal

pub returns-clause-carries : goal.returns-clause-carries
returns-clause-carries c =
    beside c.args.at.now c.ask_sides.new.at c.compare_names.new.at c.equal.new.self c.args.env.now (side_of c.args.first.now) (side_of c.args.side.now) (place_of c.args.side.now.part.span) c.in_ok-ask_sides.ensures.carries c.ask_sides.ensures.goes
    (subst (λ xs. AsksNames c.ask_sides.new.at c.compare_names.new.at c.args.env.now (binds_of xs) (binds_of c.args.side.now.names.items)) c.deref.ensures.value (subst (λ ys. AsksNames c.ask_sides.new.at c.compare_names.new.at c.args.env.now (binds_of c.deref.result.now) (binds_of ys)) c.deref-2.ensures.value c.in_ok-compare_names.ensures.carries))
    c.compare_names.ensures.goes (equal_asks c.compare_names.new.at c.equal.new.self c.args.env.now _ c.in_ok-equal.ensures.verdict c.equal.ensures.rest c.equal.ensures.goes)

pub returns-clause-goes : goal.returns-clause-goes
returns-clause-goes c = goes_trans c.args.at.now c.compare_names.new.at c.equal.new.self (goes_trans c.args.at.now c.ask_sides.new.at c.compare_names.new.at c.ask_sides.ensures.goes c.compare_names.ensures.goes) c.equal.ensures.goes

pub returns-in_err-ask_sides-clause-goes : goal.returns-in_err-ask_sides-clause-goes
returns-in_err-ask_sides-clause-goes c = c.ask_sides.ensures.goes

pub returns-in_err-compare_names-clause-goes : goal.returns-in_err-compare_names-clause-goes
returns-in_err-compare_names-clause-goes c = goes_trans c.args.at.now c.ask_sides.new.at c.compare_names.new.at c.ask_sides.ensures.goes c.compare_names.ensures.goes

pub returns-in_err-equal-clause-goes : goal.returns-in_err-equal-clause-goes
returns-in_err-equal-clause-goes c = goes_trans c.args.at.now c.compare_names.new.at c.equal.new.self (goes_trans c.args.at.now c.ask_sides.new.at c.compare_names.new.at c.ask_sides.ensures.goes c.compare_names.ensures.goes) c.equal.ensures.goes
