use Rattle.std.proofs.Common.{ap, sym, ◌∙◌}
use Rattle.std.specs.Prelude.{nat_eq}
use Rattle.std.specs.HashSet.{contains}
use Rattle.level_unify.specs.Solutions.{equations_of, is_opened, is_cleared}
use Rattle.level_unify.proofs.Steps.{tied, opened}
use Rattle.level_unify.proofs.Likeness.{apart_by_parts, alike_cleared}
use Rattle.level_unify.proofs.Recording.{tie_recorded}
use Rattle.level_unify.proofs.solve.tie.Goals as goal

pub join-requires-clause-apart : goal.join-requires-clause-apart
join-requires-clause-apart c =
    let (x, y, at, at', head) = c.requires.heads in
    apart_by_parts c.args.store.now.nodes c.args.left.0 c.args.right.0 x y c.requires.sound at at' c.requires.other head (c.have_same_parts.ensures c.if-have_same_parts.true x y at at')

pub returns-then-have_same_parts-clause-stepped : goal.returns-then-have_same_parts-clause-stepped
returns-then-have_same_parts-clause-stepped c =
    let (x, y, at, at', head) = c.requires.heads in
    tied (is_opened c.args.todo.now) (is_opened c.join.new.todo) c.args.store.now.nodes c.join.new.store.nodes c.args.left.0 c.args.right.0 (equations_of c.args.todo.now.pairs.items) (equations_of c.join.new.todo.pairs.items)
    (ap (contains nat_eq) c.in_ok-join.ensures.opened) c.requires.sound c.requires.other x y at at' head c.in_ok-join.ensures.linked (c.in_ok-join.ensures.left_over x y at at')

pub returns-then-have_same_parts-clause-recorded : goal.returns-then-have_same_parts-clause-recorded
returns-then-have_same_parts-clause-recorded c =
    let (x, y, at, at', head) = c.requires.heads in
    tie_recorded c.args.store.now.nodes c.join.new.store.nodes c.args.left.0 c.args.right.0 x y at head c.in_ok-join.ensures.linked

pub returns-then-not-contains-clause-stepped : goal.returns-then-not-contains-clause-stepped
returns-then-not-contains-clause-stepped c =
    let (x, y, at, at', head) = c.requires.heads in
    opened (is_opened c.args.todo.now) (is_opened c.open.new.todo) c.args.store.now.nodes c.args.left.0 c.args.right.0 (equations_of c.args.todo.now.pairs.items) (equations_of c.open.new.todo.pairs.items)
    c.requires.sound c.requires.left c.requires.right x y at at' head (sym c.contains.ensures ∙ c.if-not-contains.true, c.in_ok-open.ensures.opened) (c.in_ok-open.ensures.left_over x y at at')

pub returns-clause-stepped : goal.returns-clause-stepped
returns-clause-stepped c =
    let (x, y, at, at', head) = c.requires.heads in
    tied (is_opened c.args.todo.now) (is_opened c.join-2.new.todo) c.args.store.now.nodes c.join-2.new.store.nodes c.args.left.0 c.args.right.0 (equations_of c.args.todo.now.pairs.items) (equations_of c.join-2.new.todo.pairs.items)
    (ap (contains nat_eq) c.in_ok-join-2.ensures.opened) c.requires.sound c.requires.other x y at at' head c.in_ok-join-2.ensures.linked (c.in_ok-join-2.ensures.left_over x y at at')

pub returns-clause-recorded : goal.returns-clause-recorded
returns-clause-recorded c =
    let (x, y, at, at', head) = c.requires.heads in
    tie_recorded c.args.store.now.nodes c.join-2.new.store.nodes c.args.left.0 c.args.right.0 x y at head c.in_ok-join-2.ensures.linked

pub join-requires-clause-cleared : goal.join-requires-clause-cleared
join-requires-clause-cleared c =
    let (x, y, at, at', head) = c.requires.heads in
    alike_cleared c.args.store.now.nodes (is_cleared c.args.todo.now) (contains nat_eq c.clear_alike.new.cleared) c.args.left.0 c.args.right.0 x y at at' head
    (c.have_same_parts.ensures c.if-have_same_parts.true x y at at') c.requires.cleared c.in_ok-clear_alike.ensures
