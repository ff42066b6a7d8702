use Rattle.std.proofs.Common.{◌≡◌, ◌<◌, ◌∙◌, sym, Some, length, get_or, rules}
use Rattle.std.specs.Prelude.{slice_get}
use Rattle.syntax_tree.specs.View.{node_view, trees_of}
use Rattle.query_engine.proofs.Items.{numbers_at, get_at, in_item}
use Rattle.query_engine.proofs.inner_nodes.node_with.Goals as goal

pub returns : goal.returns
returns c = λ sized.
    let place = c.in_ok-place.place in
    let inside : place < length c.args.tree.now.items.items = search rules in
    let item : c.in_ok-item.item.now ≡ get_or c.args.tree.now.items.items place c.in_ok-item.item.now = search rules in
    let at : slice_get (trees_of c.args.tree.now) place ≡ Some (node_view c.in_ok-item.item.now.value) = get_at (λ n. node_view n.value) c.args.tree.now.items.items place c.in_ok-item.item.now inside item in
    let here : c.deref-2.result.now ≡ c.in_ok-item.item.now.value = search rules in
    let at' : slice_get (trees_of c.args.tree.now) place ≡ Some (node_view c.deref-2.result.now) = rw here at in
    c.node_in.ensures (numbers_at (trees_of c.args.tree.now) place (node_view c.deref-2.result.now) at' sized)
    ∙ sym (in_item c.args.id.item place c.args.id.pre (trees_of c.args.tree.now) (node_view c.deref-2.result.now) c.in_ok-place.ensures.0 c.in_ok-place.ensures.1 at')
