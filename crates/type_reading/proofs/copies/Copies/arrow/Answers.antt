use Rattle.typing_state.proofs.Going.{goes_refl}
use Rattle.std.proofs.Common.{refl, ◌∷◌, []}
use Rattle.type_nodes.specs.Nodes.{Arrow}
use Rattle.level_unify.specs.Copies.{table_of}
use Rattle.type_reading.specs.Copying.{change_by}
use Rattle.type_reading.proofs.Extending.{extends_refl, arrow_extends}
use Rattle.type_reading.proofs.Copied.{itself_changed}
use Rattle.type_reading.proofs.Answering.{arrow_answer, copied_nodes}
use Rattle.type_reading.proofs.copies.Copies.arrow.Goals as goal

pub returns-then-not-is_any_changed-clause-changed : goal.returns-then-not-is_any_changed-clause-changed
returns-then-not-is_any_changed-clause-changed c = λ changes lt at copied.
    let nodes = c.args.at.now.store.nodes in
    let T = table_of c.args.self.now.table in
    itself_changed nodes changes T c.args.n.0 (Arrow c.args.from.0 c.args.to.0) (extends_refl nodes) tt tt at copied
    (c.is_any_changed.ensures c.if-not-is_any_changed.true (copied_nodes nodes (change_by changes) T (c.args.from.0 ∷ c.args.to.0 ∷ []) copied)) refl lt

pub returns-clause-changed : goal.returns-clause-changed
returns-clause-changed c = arrow_answer c.arrow.result c.args.at.now.store c.arrow.new.self.store (table_of c.args.self.now.table) c.args.n.0 c.args.from.0 c.args.to.0 c.image-left.result.0 c.image-right.result.0
    c.image-left.ensures c.image-right.ensures c.arrow.ensures.made

pub returns-clause-extends : goal.returns-clause-extends
returns-clause-extends c = arrow_extends c.arrow.result c.args.at.now.store c.arrow.new.self.store c.image-left.result.0 c.image-right.result.0 _ _ c.arrow.ensures.made c.arrow.ensures.otherwise

pub returns-clause-goes : goal.returns-clause-goes
returns-clause-goes c = c.arrow.ensures.goes

pub returns-then-not-is_any_changed-clause-goes : goal.returns-then-not-is_any_changed-clause-goes
returns-then-not-is_any_changed-clause-goes c = goes_refl c.args.at.now
