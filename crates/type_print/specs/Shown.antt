-- The types that nodes show: each variable is itself, whether it is free, bound or rigid.
use Rattle.std.specs.Prelude.{ℕ, zero, suc, ◌+◌, List, map, length, slice_get, Option, Some, None}
use Rattle.type_model.specs.Types.{Typ, Typs, Nil, Cons, types_of}
use Rattle.type_model.specs.Types.{Typ as type}
use Rattle.type_nodes.specs.Nodes.{Node, Var, Rigid, Link, Arrow, Tuple, Con}
use Rattle.type_nodes.specs.Readings.{Types}

-- a node's type, where its parts have the types that `below` gives
abbrev pub shown_from : Types → ℕ → Option Node → Typ
shown_from below n None = type.Var n
shown_from below n (Some (Var level scope)) = type.Var n
shown_from below n (Some Rigid) = type.Var n
shown_from below n (Some (Link m)) = below m
shown_from below n (Some (Arrow a b)) = type.Arrow (below a) (below b)
shown_from below n (Some (Tuple ms)) = type.Tuple (types_of (map below ms))
shown_from below n (Some (Con path name ms)) = type.Con path (types_of (map below ms))

-- the type that is read from a node in k steps
unfoldable pub shown_in : ℕ → List Node → Types
shown_in zero nodes n = type.Var n
shown_in (suc k) nodes n = shown_from (shown_in k nodes) n (slice_get nodes n)

-- a node's type; no way down has more steps than there are nodes
unfoldable pub shown : List Node → Types
shown nodes n = shown_in (suc (length nodes)) nodes n

-- what is left to do for a type: more than for its parts and what stands between them
abbrev mutual
  pub weight : Typ → ℕ
  weight (type.Var v) = 1
  weight (type.Arrow a b) = weight a + weight b + 5
  weight (type.Tuple ts) = weights ts + 4
  weight (type.Con o ts) = weights ts + 6

  -- the same for several types
  pub weights : Typs → ℕ
  weights Nil = 0
  weights (Cons t ts) = weight t + 1 + weights ts
