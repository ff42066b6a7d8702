use Rattle.type_expressions.proofs.Untyped.{untyped_then, store_untyped, ok_any}
use Rattle.typing_state.proofs.Going.{goes_trans}
use Rattle.decl_typing.proofs.Levels.{with_level, deeper_goes, deeper_untyped}
use Rattle.decl_typing.proofs.decls.another.Goals as goal

pub returns-clause-goes : goal.returns-clause-goes
returns-clause-goes c = goes_trans c.args.at.now (with_level c.another_type-read.new.at c.args.at.now.level) c.generalise.new.self (deeper_goes c.args.at.now c.another_type-read.new.at c.saturating_add-at.result c.args.at.now.level c.another_type-read.ensures.goes) c.generalise.ensures.goes

pub returns-in_err-generalise-clause-goes : goal.returns-in_err-generalise-clause-goes
returns-in_err-generalise-clause-goes c = goes_trans c.args.at.now (with_level c.another_type-read.new.at c.args.at.now.level) c.generalise.new.self (deeper_goes c.args.at.now c.another_type-read.new.at c.saturating_add-at.result c.args.at.now.level c.another_type-read.ensures.goes) c.generalise.ensures.goes

pub returns-in_err-origin_of-clause-goes : goal.returns-in_err-origin_of-clause-goes
returns-in_err-origin_of-clause-goes c = goes_trans c.args.at.now (with_level c.another_type-read.new.at c.args.at.now.level) c.generalise.new.self (deeper_goes c.args.at.now c.another_type-read.new.at c.saturating_add-at.result c.args.at.now.level c.another_type-read.ensures.goes) c.generalise.ensures.goes

pub returns-in_err-root-clause-goes : goal.returns-in_err-root-clause-goes
returns-in_err-root-clause-goes c = deeper_goes c.args.at.now c.another_type-read.new.at c.saturating_add-at.result c.args.at.now.level c.another_type-read.ensures.goes

pub returns-clause-untyped : goal.returns-clause-untyped
returns-clause-untyped c = ok_any c.owned.result _ (untyped_then (deeper_untyped c.args.at.now c.another_type-read.new.at c.saturating_add-at.result c.args.at.now.level c.in_ok-root.ensures.untyped) (store_untyped (with_level c.another_type-read.new.at c.args.at.now.level) c.generalise.new.self c.generalise.ensures.rest))
