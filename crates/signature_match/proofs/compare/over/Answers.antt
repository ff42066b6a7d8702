use Rattle.typing_state.proofs.Going.{goes_trans}
use Rattle.signature_match.proofs.compare.over.Goals as goal

pub returns : goal.returns
returns c = record { goes = goes_trans c.args.at.now c.copied.new.at c.filled.new.at c.copied.ensures.goes c.filled.ensures.goes }

pub returns-in_err-instance : goal.returns-in_err-instance
returns-in_err-instance c = record { goes = c.copied.ensures.goes }

pub returns-then-declaration-eq0 : goal.returns-then-declaration-eq0
returns-then-declaration-eq0 c = record { goes = c.copied.ensures.goes }
