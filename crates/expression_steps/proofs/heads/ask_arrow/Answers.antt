use Rattle.typing_state.proofs.Going.{goes_trans}
use Rattle.syntax_tree.specs.View.{place_of}
use Rattle.typing_steps.proofs.Rows.{equal_asks}
use Rattle.typing_rows.proofs.Given.{head_is_arrow}
use Rattle.expression_steps.proofs.heads.ask_arrow.Goals as goal

pub returns-clause-carries : goal.returns-clause-carries
returns-clause-carries c =
    head_is_arrow c.args.at.now c.two_types.new.at c.arrow.new.self c.equal.new.self c.args.env.now (place_of c.args.place) c.args.head.0 c.in_ok-arrow.arrow.0 c.in_ok-from.from.0 c.in_ok-from.to.0 c.in_ok-from.ensures.carries c.two_types.ensures.goes c.in_ok-arrow.ensures.made c.arrow.ensures.rest
    (equal_asks c.arrow.new.self c.equal.new.self c.args.env.now _ c.in_ok-equal.ensures.verdict c.equal.ensures.rest c.equal.ensures.goes)

pub returns-clause-goes : goal.returns-clause-goes
returns-clause-goes c = goes_trans c.args.at.now c.arrow.new.self c.equal.new.self (goes_trans c.args.at.now c.two_types.new.at c.arrow.new.self c.two_types.ensures.goes c.arrow.ensures.goes) c.equal.ensures.goes

pub returns-in_err-arrow-clause-goes : goal.returns-in_err-arrow-clause-goes
returns-in_err-arrow-clause-goes c = goes_trans c.args.at.now c.two_types.new.at c.arrow.new.self c.two_types.ensures.goes c.arrow.ensures.goes

pub returns-in_err-equal-clause-goes : goal.returns-in_err-equal-clause-goes
returns-in_err-equal-clause-goes c = goes_trans c.args.at.now c.arrow.new.self c.equal.new.self (goes_trans c.args.at.now c.two_types.new.at c.arrow.new.self c.two_types.ensures.goes c.arrow.ensures.goes) c.equal.ensures.goes

pub returns-in_err-from-clause-goes : goal.returns-in_err-from-clause-goes
returns-in_err-from-clause-goes c = c.two_types.ensures.goes
