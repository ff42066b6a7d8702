use Rattle.typing_state.proofs.Going.{goes_trans}
use Rattle.decl_typing.proofs.reexports.is_told_by.Goals as goal

pub returns-in-Anything : goal.returns-in-Anything
returns-in-Anything c = record { goes = c.read_type.ensures.goes }

pub returns-in-Declared : goal.returns-in-Declared
returns-in-Declared c = record { goes = goes_trans c.args.at.now c.read_type.new.at c.agree.new.at c.read_type.ensures.goes c.agree.ensures.goes }

pub returns-in-Nothing : goal.returns-in-Nothing
returns-in-Nothing c = record { goes = c.read_type.ensures.goes }

pub returns-in_err-named_by : goal.returns-in_err-named_by
returns-in_err-named_by c = record { goes = c.read_type.ensures.goes }

pub returns-in_err-ty : goal.returns-in_err-ty
returns-in_err-ty c = record { goes = c.read_type.ensures.goes }
