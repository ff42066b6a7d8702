use Rattle.std.proofs.Common.{◌+◌, length}
use Rattle.type_nodes.specs.Nodes.{IsSound}
use Rattle.type_nodes.specs.States.{Keeps}
use Rattle.level_unify.specs.Walks.{IsCleared}
use Rattle.level_unify.specs.Solutions.{equations_of, is_opened, is_cleared, work, caps_of, Tracked}
use Rattle.level_unify.proofs.Solving.{Solving}
use Rattle.level_unify.proofs.solve.solve.Given as goal

abbrev pub invariant-loop-pair : goal.invariant-loop-pair
invariant-loop-pair l = Solving l.fn.store.nodes l.store.nodes l.fn.a.0 l.fn.b.0 (equations_of l.todo.pairs.items) × Keeps l.fn.store l.store × Tracked l.fn.store.nodes l.store.nodes l.fn.a.0 l.fn.b.0 (caps_of l.limits.items) × IsSound l.store.nodes × IsCleared l.store.nodes (is_cleared l.todo)

abbrev pub decreases-loop-pair : goal.decreases-loop-pair
decreases-loop-pair l = work (is_opened l.todo) l.store.nodes + length (equations_of l.todo.pairs.items)
