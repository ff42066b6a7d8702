use Rattle.typing_state.proofs.Going.{goes_trans}
use Rattle.pattern_typing.proofs.patterns.anything.Goals as goal

pub returns-clause-carries : goal.returns-clause-carries
returns-clause-carries c = record {
  between = c.var.new.self;
  made = c.in_ok-ty.ensures.made;
  only = c.var.ensures.rest;
  goes = c.var.ensures.goes;
  noted = c.in_ok-note_type.ensures.noted;
  rest = c.note_type.ensures.rest;
}

pub returns-clause-goes : goal.returns-clause-goes
returns-clause-goes c = goes_trans c.args.at.now c.var.new.self c.note_type.new.self c.var.ensures.goes c.note_type.ensures.goes

pub returns-in_err-note_type-clause-goes : goal.returns-in_err-note_type-clause-goes
returns-in_err-note_type-clause-goes c = goes_trans c.args.at.now c.var.new.self c.note_type.new.self c.var.ensures.goes c.note_type.ensures.goes

pub returns-in_err-ty-clause-goes : goal.returns-in_err-ty-clause-goes
returns-in_err-ty-clause-goes c = c.var.ensures.goes
