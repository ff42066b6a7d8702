use Rattle.std.proofs.Common.{sym, ◌∙◌, ap}
use Rattle.std.proofs.lemmas.List.{map-set}
use Rattle.type_nodes.specs.Views.{node_of, nodes_of, change_of}
use Rattle.type_nodes.specs.States.{undone}
use Rattle.type_nodes.proofs.cells.CellsUndo.undo.Goals as goal

pub returns-then-n-len : goal.returns-then-n-len
returns-then-n-len c =
    map-set node_of c.args.self.now.list.items c.in-Was.n.0 c.in-Was.cell ∙ ap (λ w. undone (change_of w) (nodes_of c.args.self.now)) (sym c.in-Was.is)
