-- Following links: what a node reads as.
use Rattle.std.specs.Prelude.{◌≡◌, ◌≢◌, ℕ, zero, suc, ◌<◌, List, length, slice_get, Option, Some, None}
use Rattle.type_nodes.specs.Nodes.{Node, Var, Rigid, Link, Arrow, Tuple, Con, bound_level}

-- where a node leads by one link; any other node stays
abbrev pub linked_from : ℕ → Option Node → ℕ
linked_from n None = n
linked_from n (Some (Var level scope)) = n
linked_from n (Some Rigid) = n
linked_from n (Some (Link m)) = m
linked_from n (Some (Arrow a b)) = n
linked_from n (Some (Tuple ms)) = n
linked_from n (Some (Con path name ms)) = n

-- where a node of a store leads by one link
abbrev pub next : List Node → ℕ → ℕ
next nodes n = linked_from n (slice_get nodes n)

-- so many links further
abbrev pub follow : ℕ → List Node → ℕ → ℕ
follow zero nodes n = n
follow (suc k) nodes n = follow k nodes (next nodes n)

-- the node at the end of the links; in sound nodes no way has more links than there are nodes
abbrev pub root : List Node → ℕ → ℕ
root nodes n = follow (length nodes) nodes n

-- what a node reads as
abbrev pub reading : List Node → ℕ → Option Node
reading nodes n = slice_get nodes (root nodes n)

-- a node that isn't a link
abbrev pub IsNoLink : Node → Type 0
IsNoLink (Var level scope) = Unit {0}
IsNoLink Rigid = Unit {0}
IsNoLink (Link m) = ⊥
IsNoLink (Arrow a b) = Unit {0}
IsNoLink (Tuple ms) = Unit {0}
IsNoLink (Con path name ms) = Unit {0}

-- a node reads as a variable
pub record IsVariable (nodes : List Node) (n : ℕ) : Type 0 where
  pub level : ℕ
  pub scope : ℕ
  pub reads : reading nodes n ≡ Some (Var level scope)

-- a node of the store reads as a variable that isn't bound
pub record IsFree (nodes : List Node) (n : ℕ) : Type 0 where
  pub inside : n < length nodes
  pub level : ℕ
  pub scope : ℕ
  pub reads : reading nodes n ≡ Some (Var level scope)
  pub unbound : level ≢ bound_level

-- a node that has parts: an arrow, a tuple or a type constructor
abbrev pub IsComposite : Node → Type 0
IsComposite (Var level scope) = ⊥
IsComposite Rigid = ⊥
IsComposite (Link m) = ⊥
IsComposite (Arrow a b) = Unit {0}
IsComposite (Tuple ms) = Unit {0}
IsComposite (Con path name ms) = Unit {0}

-- a node of the store reads as an arrow, a tuple or a constructor
pub record ReadsAsComposite (nodes : List Node) (n : ℕ) : Type 0 where
  pub inside : n < length nodes
  pub node : Node
  pub reads : reading nodes n ≡ Some node
  pub composite : IsComposite node
