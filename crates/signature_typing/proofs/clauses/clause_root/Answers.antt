use Rattle.typing_state.proofs.Going.{goes_trans}
use Rattle.decl_typing.proofs.Levels.{with_level, deeper_goes}
use Rattle.signature_typing.proofs.clauses.clause_root.Goals as goal

pub returns : goal.returns
returns c = record { goes = goes_trans c.args.at.now (with_level c.clause_type-read.new.at c.saturating_sub-at.result) c.generalise.new.self (deeper_goes c.args.at.now c.clause_type-read.new.at c.saturating_add-at.result c.saturating_sub-at.result c.clause_type-read.ensures.goes) c.generalise.ensures.goes }

pub returns-in_err-generalise : goal.returns-in_err-generalise
returns-in_err-generalise c = record { goes = goes_trans c.args.at.now (with_level c.clause_type-read.new.at c.saturating_sub-at.result) c.generalise.new.self (deeper_goes c.args.at.now c.clause_type-read.new.at c.saturating_add-at.result c.saturating_sub-at.result c.clause_type-read.ensures.goes) c.generalise.ensures.goes }

pub returns-in_err-root : goal.returns-in_err-root
returns-in_err-root c = record { goes = deeper_goes c.args.at.now c.clause_type-read.new.at c.saturating_add-at.result c.saturating_sub-at.result c.clause_type-read.ensures.goes }
