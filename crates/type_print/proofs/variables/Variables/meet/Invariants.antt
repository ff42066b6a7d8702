use Rattle.std.proofs.Common.{List, ℕ, ◌++◌}
use Rattle.type_print_model.specs.Variables.{variables_of}
use Rattle.type_print.specs.Shown.{shown}
use Rattle.type_print.specs.Meeting.{moves_of, AreMoves, moves_weight, AreNamed, met_of}
use Rattle.type_print.proofs.Meeting.{Going}
use Rattle.type_print.proofs.variables.Variables.meet.Given as goal

abbrev pub invariant-loop-step : goal.invariant-loop-step
invariant-loop-step l =
    AreMoves l.store.nodes (moves_of l.left.items)
    × ((weak all : List ℕ) → AreNamed l.store.nodes weak all (met_of l.fn.self) → Going l.store.nodes weak (all ++ variables_of (shown l.store.nodes l.fn.from.0)) (met_of l.self) (moves_of l.left.items))

abbrev pub decreases-loop-step : goal.decreases-loop-step
decreases-loop-step l = moves_weight l.store.nodes (moves_of l.left.items)
