use Rattle.typing_state.proofs.Going.{goes_trans}
use Rattle.std.proofs.Common.{ap, option_map}
use Rattle.syntax_tree.specs.View.{tok_of}
use Rattle.use_typing.specs.Constants.{is_negated}
use Rattle.use_typing.proofs.Telling.{range_stays}
use Rattle.pattern_typing.proofs.patterns.number_row.Goals as goal

pub returns-clause-tells : goal.returns-clause-tells
returns-clause-tells c =
    range_stays (option_map (λ t. tok_of t.now) c.args.token) (is_negated c.args.sign) c.args.at.now c.constant.new.at c.note_type.new.self c.in_ok-ty.ensures.tells
    (ap (λ f. f.list.items) c.note_type.ensures.rest.faults)

pub returns-clause-carries : goal.returns-clause-carries
returns-clause-carries c = record {
  between = c.constant.new.at;
  typed = λ n. c.in_ok-ty.ensures.carries c.args.env.now n;
  goes = c.constant.ensures.goes;
  noted = c.in_ok-note_type.ensures.noted;
  rest = c.note_type.ensures.rest;
}

pub returns-clause-goes : goal.returns-clause-goes
returns-clause-goes c = goes_trans c.args.at.now c.constant.new.at c.note_type.new.self c.constant.ensures.goes c.note_type.ensures.goes

pub returns-in_err-note_type-clause-goes : goal.returns-in_err-note_type-clause-goes
returns-in_err-note_type-clause-goes c = goes_trans c.args.at.now c.constant.new.at c.note_type.new.self c.constant.ensures.goes c.note_type.ensures.goes

pub returns-in_err-ty-clause-goes : goal.returns-in_err-ty-clause-goes
returns-in_err-ty-clause-goes c = c.constant.ensures.goes
