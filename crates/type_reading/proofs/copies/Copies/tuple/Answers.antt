use Rattle.typing_state.proofs.Going.{goes_refl}
use Rattle.std.proofs.Common.{refl, ◌∙◌, ap}
use Rattle.type_nodes.specs.Nodes.{Tuple}
use Rattle.type_nodes.specs.Views.{numbers}
use Rattle.level_unify.specs.Copies.{table_of}
use Rattle.type_reading.specs.Copying.{change_by}
use Rattle.type_reading.proofs.Extending.{extends_refl, over_extends}
use Rattle.type_reading.proofs.Copied.{itself_changed}
use Rattle.type_reading.proofs.Answering.{tuple_answer, copied_nodes}
use Rattle.type_reading.proofs.copies.Copies.tuple.Goals as goal

pub returns-then-not-is_any_changed-clause-changed : goal.returns-then-not-is_any_changed-clause-changed
returns-then-not-is_any_changed-clause-changed c = λ changes lt at copied.
    let nodes = c.args.at.now.store.nodes in
    let T = table_of c.args.self.now.table in
    itself_changed nodes changes T c.args.n.0 (Tuple (numbers c.args.parts.now)) (extends_refl nodes) tt tt at copied
    (c.is_any_changed.ensures c.if-not-is_any_changed.true (copied_nodes nodes (change_by changes) T (numbers c.args.parts.now) copied)) refl lt

pub returns-clause-changed : goal.returns-clause-changed
returns-clause-changed c = tuple_answer c.tuple.result c.args.at.now.store c.tuple.new.self.store (table_of c.args.self.now.table) c.args.n.0 (numbers c.args.parts.now) (numbers c.deref.result.now)
    (λ inside. ap numbers c.deref.ensures.value ∙ c.in_ok-images.ensures inside) c.tuple.ensures.made

pub returns-clause-extends : goal.returns-clause-extends
returns-clause-extends c = over_extends c.tuple.result c.args.at.now.store c.tuple.new.self.store (numbers c.deref.result.now) _ _ c.tuple.ensures.made c.tuple.ensures.otherwise

pub returns-clause-goes : goal.returns-clause-goes
returns-clause-goes c = c.tuple.ensures.goes

pub returns-in_err-images-clause-goes : goal.returns-in_err-images-clause-goes
returns-in_err-images-clause-goes c = goes_refl c.args.at.now

pub returns-then-not-is_any_changed-clause-goes : goal.returns-then-not-is_any_changed-clause-goes
returns-then-not-is_any_changed-clause-goes c = goes_refl c.args.at.now
