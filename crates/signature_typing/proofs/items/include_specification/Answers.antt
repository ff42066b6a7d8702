use Rattle.typing_state.proofs.Going.{goes_trans}
use Rattle.signature_typing.proofs.items.include_specification.Goals as goal

pub returns : goal.returns
returns c = record { goes = goes_trans c.args.at.now c.module_type_path.new.at c.include.new.at c.module_type_path.ensures.goes c.include.ensures.goes }

pub returns-in_err-include : goal.returns-in_err-include
returns-in_err-include c = record { goes = goes_trans c.args.at.now c.module_type_path.new.at c.include.new.at c.module_type_path.ensures.goes c.include.ensures.goes }

pub returns-in_err-template : goal.returns-in_err-template
returns-in_err-template c = record { goes = c.module_type_path.ensures.goes }
