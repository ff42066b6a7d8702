use Rattle.std.proofs.Common.{rules}
use Rattle.type_nodes.specs.Nodes.{IsNode}
use Rattle.module_steps.proofs.Finding.{finds_none, not_read, found_in_type}
use Rattle.module_steps.proofs.closing.add_in_type.Goals as goal

pub returns-then-is_none : goal.returns-then-is_none
returns-then-is_none c = finds_none c.args.free.now.items (λ there. not_read c.read.result (IsNode c.args.at.now.store.nodes c.args.root.0 → ⊥) c.if-is_none.ensures c.read.ensures.none there.0)

pub returns : goal.returns
returns c =
    let inside : IsNode c.args.at.now.store.nodes c.args.root.0 = search rules in
    found_in_type c.add_open.result c.args.at.now.store.nodes c.args.scope c.args.root c.in_ok-found.found.items c.deref.result.now c.args.free.now.items c.add_open.new.free.items
    c.deref.ensures.value inside c.in_ok-found.ensures.sound c.in_ok-found.ensures.found c.add_open.ensures
