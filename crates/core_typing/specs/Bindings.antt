-- What concluding a binding does.
use Rattle.std.specs.Prelude.{◌≡◌, List}
use Rattle.syntax_tree.specs.View.{node_view}
use Rattle.env_table.specs.declared.entries.Entry.{Entry}
use Rattle.typing_state.specs.declared.parts.Parts.{Parts}
use Rattle.expression_steps.specs.Forms.{bound_pattern}
use Rattle.binding_rows.specs.Operands.{AsksWholeOf}
use Rattle.binding_rows.specs.Decided.{JudgesNode}
use Rattle.binding_steps.specs.declared.groups.Opened.{Opened}
use Rattle.binding_steps.specs.declared.groups.RightSide.{RightSide}
use Rattle.binding_steps.specs.declared.groups.Bound.{Bound}

-- A binding whose right side, among the names `within`, and pattern are typed is concluded: its pattern has the type of the whole, and it is found whether it is generalised among the names `env`.
pub record Concludes (a b : Parts) (within env : List Entry) (o : Opened) (side : RightSide) (bound : Bound) : Type 0 where
  pub asked : AsksWholeOf a b within (bound_pattern o.binding.number (node_view o.binding.node.now)) o.matched.ty.0 side.whole.0
  pub matched : bound.matched ≡ o.matched
  pub right : bound.right ≡ side.right
  pub judged : JudgesNode env o.binding.number (node_view o.binding.node.now) bound.generalises
