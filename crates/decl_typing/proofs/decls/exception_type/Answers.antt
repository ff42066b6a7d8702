use Rattle.typing_steps.proofs.Schemes.{plain_nodes}
use Rattle.type_expressions.proofs.Untyped.{untyped_then, store_untyped}
use Rattle.typing_state.proofs.Going.{goes_trans}
use Rattle.decl_typing.proofs.Levels.{with_level, deeper_goes, deeper_untyped}
use Rattle.std.proofs.Common.{[], arith}
use Rattle.syntax_tree.specs.View.{node_view}
use Rattle.typing_rows.proofs.DeclaredOrdered.{store_reports}
use Rattle.typing_model.specs.BuiltIns.{exn_type}
use Rattle.decl_typing.proofs.Denoting.{closed_denotes}
use Rattle.decl_typing.proofs.Settling.{settles_deeper}
use Rattle.decl_typing.proofs.Treating.{treats_deeper}
use Rattle.decl_typing.proofs.decls.exception_type.Goals as goal

pub returns-clause-goes : goal.returns-clause-goes
returns-clause-goes c = goes_trans c.args.at.now (with_level c.exception_root-read.new.at c.args.at.now.level) c.generalise.new.self (deeper_goes c.args.at.now c.exception_root-read.new.at c.saturating_add-at.result c.args.at.now.level c.exception_root-read.ensures.goes) c.generalise.ensures.goes

pub returns-in_err-generalise-clause-goes : goal.returns-in_err-generalise-clause-goes
returns-in_err-generalise-clause-goes c = goes_trans c.args.at.now (with_level c.exception_root-read.new.at c.args.at.now.level) c.generalise.new.self (deeper_goes c.args.at.now c.exception_root-read.new.at c.saturating_add-at.result c.args.at.now.level c.exception_root-read.ensures.goes) c.generalise.ensures.goes

pub returns-in_err-root-clause-goes : goal.returns-in_err-root-clause-goes
returns-in_err-root-clause-goes c = deeper_goes c.args.at.now c.exception_root-read.new.at c.saturating_add-at.result c.args.at.now.level c.exception_root-read.ensures.goes

pub returns-clause-settles : goal.returns-clause-settles
returns-clause-settles c =
    let read = c.exception_root-read.new.at in
    settles_deeper c.args.at.now read c.generalise.new.self c.saturating_add-at.result c.args.env.now [] c.args.number (node_view c.args.node.now) (store_reports (with_level read c.args.at.now.level) c.generalise.new.self c.generalise.ensures.rest) c.in_ok-root.ensures.settles

pub returns-clause-means : goal.returns-clause-means
returns-clause-means c =
    let at = c.args.at.now in
    let read = c.exception_root-read.new.at in
    closed_denotes at read c.generalise.new.self c.saturating_add-at.result c.args.env.now [] [] c.args.number (node_view c.args.node.now) exn_type at.constants.exn.0 c.in_ok-root.root.0 (λ zero. omega arith)
    c.in_ok-root.ensures.means c.in_ok-generalise.ensures.bound c.in_ok-generalise.ensures.sound (plain_nodes c.generalise.new.self.store.nodes c.len-nodes.ensures.plain) c.generalise.ensures.rest c.generalise.ensures.goes

pub returns-clause-untyped : goal.returns-clause-untyped
returns-clause-untyped c = untyped_then (deeper_untyped c.args.at.now c.exception_root-read.new.at c.saturating_add-at.result c.args.at.now.level c.in_ok-root.ensures.untyped) (store_untyped (with_level c.exception_root-read.new.at c.args.at.now.level) c.generalise.new.self c.generalise.ensures.rest)

pub returns-clause-treats : goal.returns-clause-treats
returns-clause-treats c = treats_deeper c.args.at.now c.exception_root-read.new.at c.generalise.new.self c.saturating_add-at.result c.args.at.now.level c.args.env.now c.args.number (node_view c.args.node.now) c.generalise.ensures.goes c.in_ok-root.ensures.treats
