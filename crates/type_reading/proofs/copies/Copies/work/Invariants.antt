use Rattle.std.proofs.Common.{ℕ}
use Rattle.level_unify.specs.Copies.{Extends, table_of}
use Rattle.typing_state.specs.Goes.{Goes, Silent}
use Rattle.type_reading.specs.Copying.{LeavesVariables, Stands}
use Rattle.type_reading.proofs.copies.Copies.work.Given as goal

abbrev pub invariant-loop : goal.invariant-loop
invariant-loop l = record {
  goes : Goes l.fn.at l.at;
  silent : Silent l.fn.at l.at;
  extends : Extends l.fn.at.store.nodes l.at.store.nodes;
  stands : LeavesVariables l.how → (aim : ℕ) → Stands l.fn.at.store.nodes l.how.changes.now (table_of l.fn.self.table) l.fn.self.todo.items aim → Stands l.at.store.nodes l.how.changes.now (table_of l.self.table) l.self.todo.items aim;
}
