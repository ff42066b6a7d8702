use Rattle.typing_state.proofs.Going.{goes_refl}
use Rattle.std.proofs.Common.{refl, sym, ◌∙◌, ap, map}
use Rattle.text_terms.specs.Bytes.{str_bytes}
use Rattle.type_nodes.specs.Nodes.{Con}
use Rattle.type_nodes.specs.Views.{numbers}
use Rattle.level_unify.specs.Copies.{table_of, image}
use Rattle.type_reading.specs.Copying.{change_by, AreDeclared}
use Rattle.type_reading.proofs.Extending.{extends_refl, over_extends}
use Rattle.type_reading.proofs.Copied.{itself_changed}
use Rattle.type_reading.proofs.Answering.{con_answer, real_answer, copied_nodes, put_type, put_path, put_itself}
use Rattle.type_reading.proofs.copies.Copies.constructor.Goals as goal

pub returns-in-Type-clause-changed : goal.returns-in-Type-clause-changed
returns-in-Type-clause-changed c =
    let nodes = c.args.at.now.store.nodes in
    let changes = c.args.how.changes.now in
    let put = put_type nodes changes c.args.origin.now.path.items c.in-Type.root c.in-Type.arity c.in-Type.ensures in
    real_answer c.over.result nodes c.over.new.at.store.nodes changes (table_of c.args.self.now.table) c.args.n.0 c.in-Type.root.0 c.in-Type.arity c.args.origin.now.path.items (str_bytes c.args.origin.now.name) (numbers c.args.args.now) (numbers c.deref.result.now)
    put.1 put.0 (λ inside. ap numbers c.deref.ensures.value ∙ c.in_ok-images.ensures inside) c.over.ensures.extends c.over.ensures.over

pub returns-in-Path-clause-changed : goal.returns-in-Path-clause-changed
returns-in-Path-clause-changed c =
    let changes = c.args.how.changes.now in
    let put = put_path changes c.args.origin.now.path.items c.in-Path.number c.in-Path.ensures in
    con_answer c.con.result (AreDeclared c.args.at.now.store.nodes changes.real.items) c.args.at.now.store c.con.new.self.store changes (table_of c.args.self.now.table) c.args.n.0
    c.args.origin.now.path.items c.in_ok-moved-in-Path.moved.path.items (str_bytes c.args.origin.now.name) (str_bytes c.in_ok-moved-in-Path.moved.name) (numbers c.args.args.now) (numbers c.deref-in-Path.result.now)
    (c.in_ok-moved-in-Path.ensures.path ∙ put.0) put.1 c.in_ok-moved-in-Path.ensures.name
    (λ inside. ap numbers c.deref-in-Path.ensures.value ∙ c.in_ok-images.ensures inside) c.con.ensures.made

pub returns-in-Path-clause-extends : goal.returns-in-Path-clause-extends
returns-in-Path-clause-extends c = over_extends c.con.result c.args.at.now.store c.con.new.self.store (numbers c.deref-in-Path.result.now) _ _ c.con.ensures.made c.con.ensures.otherwise

pub returns-then-is_any_changed-clause-changed : goal.returns-then-is_any_changed-clause-changed
returns-then-is_any_changed-clause-changed c =
    let changes = c.args.how.changes.now in
    let put = put_itself changes c.args.origin.now.path.items c.in-Itself.ensures in
    con_answer c.con-then-is_any_changed.result (AreDeclared c.args.at.now.store.nodes changes.real.items) c.args.at.now.store c.con-then-is_any_changed.new.self.store changes (table_of c.args.self.now.table) c.args.n.0
    c.args.origin.now.path.items c.args.origin.now.path.items (str_bytes c.args.origin.now.name) (str_bytes c.args.origin.now.name) (numbers c.args.args.now) (numbers c.deref-then-is_any_changed.result.now)
    put.0 put.1 refl
    (λ inside. ap numbers c.deref-then-is_any_changed.ensures.value ∙ c.in_ok-images.ensures inside) c.con-then-is_any_changed.ensures.made

pub returns-then-is_any_changed-clause-extends : goal.returns-then-is_any_changed-clause-extends
returns-then-is_any_changed-clause-extends c =
    over_extends c.con-then-is_any_changed.result c.args.at.now.store c.con-then-is_any_changed.new.self.store (numbers c.deref-then-is_any_changed.result.now) _ _ c.con-then-is_any_changed.ensures.made c.con-then-is_any_changed.ensures.otherwise

pub returns-clause-changed : goal.returns-clause-changed
returns-clause-changed c = λ known lt at copied.
    let nodes = c.args.at.now.store.nodes in
    let T = table_of c.args.self.now.table in
    let changes = c.args.how.changes.now in
    let o = c.args.origin.now.path.items in
    let name = str_bytes c.args.origin.now.name in
    let ms = numbers c.args.args.now in
    let put = put_itself changes o c.in-Itself.ensures in
    itself_changed nodes changes T c.args.n.0 (Con o name ms) (extends_refl nodes) tt put.1 at copied
    (c.is_any_changed.ensures c.if-is_any_changed.false (copied_nodes nodes (change_by changes) T ms copied))
    (ap (λ p. Con p name (map (image nodes T) ms)) (sym put.0)) lt

pub returns-clause-goes : goal.returns-clause-goes
returns-clause-goes c = goes_refl c.args.at.now

pub returns-in-Path-clause-goes : goal.returns-in-Path-clause-goes
returns-in-Path-clause-goes c = c.con.ensures.goes

pub returns-in-Type-clause-goes : goal.returns-in-Type-clause-goes
returns-in-Type-clause-goes c = c.over.ensures.goes

pub returns-in_err-images-clause-goes : goal.returns-in_err-images-clause-goes
returns-in_err-images-clause-goes c = goes_refl c.args.at.now

pub returns-in_err-moved-in-Path-clause-goes : goal.returns-in_err-moved-in-Path-clause-goes
returns-in_err-moved-in-Path-clause-goes c = goes_refl c.args.at.now

pub returns-then-is_any_changed-clause-goes : goal.returns-then-is_any_changed-clause-goes
returns-then-is_any_changed-clause-goes c = c.con-then-is_any_changed.ensures.goes
