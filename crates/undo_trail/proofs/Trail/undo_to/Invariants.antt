use Rattle.std.proofs.Common.{◌≡◌, ◌≤◌, length, take, drop}
use Rattle.undo_trail.specs.Undoing.{all_undone}
use Rattle.undo_trail.proofs.Trail.undo_to.Given as goal

abbrev pub invariant-loop-mark : goal.invariant-loop-mark
invariant-loop-mark g l = record {
  fits : l.mark.0 ≤ length l.self.writes.items;
  kept : take l.mark.0 l.self.writes.items ≡ take l.mark.0 l.initial.self.writes.items;
  rest : all_undone g.T.Undo.undone (drop l.mark.0 l.self.writes.items) (g.T.Undo.cells l.on) ≡ all_undone g.T.Undo.undone (drop l.mark.0 l.initial.self.writes.items) (g.T.Undo.cells l.initial.on);
}

abbrev pub decreases-loop-mark : goal.decreases-loop-mark
decreases-loop-mark g l = length l.self.writes.items
