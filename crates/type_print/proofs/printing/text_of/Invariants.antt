use Rattle.std.proofs.Common.{◌≡◌, ◌++◌}
use Rattle.std.specs.Prelude.{string_bytes}
use Rattle.type_print_model.specs.Printing.{Names, text_of, alone}
use Rattle.type_print.specs.Shown.{shown}
use Rattle.type_print.specs.Pieces.{parts_of, AreParts, parts_weight}
use Rattle.type_print.specs.Texts.{AreKnown, Speaks, parts_text}
use Rattle.type_print.proofs.printing.text_of.Given as goal

abbrev pub invariant-loop-written : goal.invariant-loop-written
invariant-loop-written l =
    AreParts l.store.nodes (parts_of l.written.left)
    × (AreKnown l.store.nodes l.env l.fn.known.items → AreKnown l.store.nodes l.env l.written.known.items)
    × ((ns : Names) → Speaks l.variables l.written.known.items ns →
    (string_bytes l.written.text ++ parts_text l.store.nodes ns (parts_of l.written.left) ≡ text_of ns alone (shown l.store.nodes l.fn.n.0)) × Speaks l.variables l.fn.known.items ns)

abbrev pub decreases-loop-written : goal.decreases-loop-written
decreases-loop-written l = parts_weight l.store.nodes (parts_of l.written.left)
