use Rattle.type_nodes.specs.Views.{nodes_of}
use Rattle.type_nodes.proofs.Walks.{Walked}
use Rattle.type_nodes.proofs.cells.root_of.Given as goal

abbrev pub invariant-loop-turn : goal.invariant-loop-turn
invariant-loop-turn l = Walked (nodes_of l.cells) l.fn.n.0 l.at.0 l._turn
