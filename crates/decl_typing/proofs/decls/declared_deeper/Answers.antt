use Rattle.type_expressions.proofs.Untyped.{untyped_then, store_untyped}
use Rattle.typing_state.proofs.Going.{goes_trans}
use Rattle.decl_typing.proofs.Levels.{with_level, deeper_goes, deeper_untyped}
use Rattle.std.proofs.Common.{arith}
use Rattle.decl_typing.proofs.Owned.{type_closed}
use Rattle.decl_typing.proofs.decls.declared_deeper.Goals as goal

pub returns-clause-goes : goal.returns-clause-goes
returns-clause-goes c = goes_trans c.args.at.now (with_level c.declared_in-read.new.at c.args.at.now.level) c.generalise_declared.new.at (deeper_goes c.args.at.now c.declared_in-read.new.at c.saturating_add-at.result c.args.at.now.level c.declared_in-read.ensures.goes) c.generalise_declared.ensures.goes

pub returns-in_err-generalise_declared-clause-goes : goal.returns-in_err-generalise_declared-clause-goes
returns-in_err-generalise_declared-clause-goes c = goes_trans c.args.at.now (with_level c.declared_in-read.new.at c.args.at.now.level) c.generalise_declared.new.at (deeper_goes c.args.at.now c.declared_in-read.new.at c.saturating_add-at.result c.args.at.now.level c.declared_in-read.ensures.goes) c.generalise_declared.ensures.goes

pub returns-in_err-root-clause-goes : goal.returns-in_err-root-clause-goes
returns-in_err-root-clause-goes c = deeper_goes c.args.at.now c.declared_in-read.new.at c.saturating_add-at.result c.args.at.now.level c.declared_in-read.ensures.goes

pub returns-clause-means : goal.returns-clause-means
returns-clause-means c =
    type_closed c.args.at.now c.declared_in-read.new.at c.generalise_declared.new.at c.saturating_add-at.result c.args.inner.now c.args.part.now c.in_ok-root.root.0 c.in_ok-root.body.0 c.in_ok-root.shape (λ zero. omega arith) c.in_ok-root.ensures.means c.in_ok-generalise_declared.ensures.closes
    c.in_ok-generalise_declared.ensures.sound c.in_ok-generalise_declared.ensures.plain c.generalise_declared.ensures.rest c.generalise_declared.ensures.goes

pub returns-clause-untyped : goal.returns-clause-untyped
returns-clause-untyped c = untyped_then (deeper_untyped c.args.at.now c.declared_in-read.new.at c.saturating_add-at.result c.args.at.now.level c.in_ok-root.ensures.untyped) (store_untyped (with_level c.declared_in-read.new.at c.args.at.now.level) c.generalise_declared.new.at c.generalise_declared.ensures.rest)
