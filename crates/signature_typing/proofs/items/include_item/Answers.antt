use Rattle.typing_state.proofs.Going.{goes_trans}
use Rattle.signature_typing.proofs.items.include_item.Goals as goal

pub returns : goal.returns
returns c = record { goes = goes_trans c.args.at.now c.module_path.new.at c.include.new.at c.module_path.ensures.goes c.include.ensures.goes }

pub returns-in_err-sig : goal.returns-in_err-sig
returns-in_err-sig c = record { goes = c.module_path.ensures.goes }
