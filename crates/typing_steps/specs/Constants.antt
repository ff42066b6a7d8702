-- The nodes of the built-in types.
use Rattle.std.specs.Prelude.{◌≡◌, List}
use Rattle.type_model.specs.Types.{Typ}
use Rattle.typing_model.specs.BuiltIns.{int_type, char_type, string_type, float_type, unit_type, bool_type, exn_type}
use Rattle.type_terms.specs.declared.types.NodeRef.{NodeRef}
use Rattle.type_nodes.specs.Nodes.{Node, IsNode}
use Rattle.type_nodes.specs.Readings.{Types}
use Rattle.level_unify.specs.Solutions.{Loose}
use Rattle.typing_state.specs.declared.parts.Parts.{Parts}

-- a node has one type, whatever else the store holds
pub record HasType (nodes : List Node) (n : NodeRef) (t : Typ) : Type 0 where
  pub inside : IsNode nodes n.0
  pub is : (V : Types) → Loose nodes V → V n.0 ≡ t

-- the constants of a state have the built-in types
pub record HasConstants (at : Parts) : Type 0 where
  pub int : HasType at.store.nodes at.constants.int int_type
  pub char : HasType at.store.nodes at.constants.char char_type
  pub string : HasType at.store.nodes at.constants.string string_type
  pub float : HasType at.store.nodes at.constants.float float_type
  pub unit : HasType at.store.nodes at.constants.unit unit_type
  pub bool : HasType at.store.nodes at.constants.bool bool_type
  pub exn : HasType at.store.nodes at.constants.exn exn_type
