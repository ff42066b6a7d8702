-- Values against values, at each reading of the types.
use Rattle.std.specs.Prelude.{List, Option}
use Rattle.std.specs.Option.{is_none}
use Rattle.type_terms.specs.declared.types.NodeRef.{NodeRef}
use Rattle.type_nodes.specs.Nodes.{Node, IsNode}
use Rattle.scheme_match.specs.Covering.{KeepsOutRigid, Compared}
use Rattle.scheme_match.specs.Unknown.{HasUnknown}
use Rattle.signature_model.specs.Failing as rules

-- two nodes in which no rigid variable can come to stand, and no unknown type in the wanted one
pub record AreComparable (nodes : List Node) (actual wanted : NodeRef) : Type 0 where
  pub actual_inside : IsNode nodes actual.0
  pub wanted_inside : IsNode nodes wanted.0
  pub known : HasUnknown nodes wanted.0 → ⊥
  pub actual_keeps : KeepsOutRigid nodes actual.0
  pub wanted_keeps : KeepsOutRigid nodes wanted.0

-- a value is met exactly at the readings at which its scheme covers the wanted one, and these are left
abbrev pub MeetsValue : (old new : List Node) → (actual wanted : NodeRef) → Option rules.Blame → Type 0
MeetsValue old new actual wanted told = AreComparable old actual wanted → Compared old new actual.0 wanted.0 (is_none told)
