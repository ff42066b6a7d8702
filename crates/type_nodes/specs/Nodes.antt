-- Type nodes that share and link, as plain lists, and when no node stands in itself.
use Rattle.std.specs.Prelude.{◌≡◌, ℕ, ◌<◌, ◌^◌, ◌-◌, Bool, true, false, List, [], ◌∷◌, All, length, slice_get, Some}
use Rattle.type_model.specs.Types.{Path}

-- A node names its parts by their numbers.
pub data Node : Type 0 where
  -- 'a, with its level and its scope
  Var : ℕ → ℕ → Node
  -- a rigid variable; its number is the node's
  Rigid : Node
  -- another node's type
  Link : ℕ → Node
  -- t -> u
  Arrow : ℕ → ℕ → Node
  -- t * u
  Tuple : List ℕ → Node
  -- (t, u) c: the path and the name of c's origin, and the arguments
  Con : Path → List ℕ → List ℕ → Node

-- the level that is kept for bound variables
abbrev pub bound_level : ℕ
bound_level = 2 ^ 32 - 1

-- a number is that of a node
abbrev pub IsNode : List Node → ℕ → Type 0
IsNode nodes n = n < length nodes

-- the nodes that a node leads to
abbrev pub parts : Node → List ℕ
parts (Var level scope) = []
parts Rigid = []
parts (Link m) = m ∷ []
parts (Arrow a b) = a ∷ b ∷ []
parts (Tuple ms) = ms
parts (Con path name ms) = ms

-- each node's parts are there, and stand lower than it
pub record IsRanked (nodes : List Node) (rank : ℕ → ℕ) : Type 0 where
  pub each : (n : ℕ) (c : Node) → slice_get nodes n ≡ Some c → All (λ m. (m < length nodes) × (rank m < rank n)) (parts c)

-- no node stands in itself
abbrev pub IsSound : List Node → Type 0
IsSound nodes = (rank : ℕ → ℕ) × IsRanked nodes rank

-- a path whose first number is less than 2 ^ 64, as that of each origin in code; the paths of rigid variables and of unknown types begin with a greater one
abbrev pub IsPlainPath : Path → Type 0
IsPlainPath [] = Unit {0}
IsPlainPath (k ∷ path) = k < 2 ^ 64

-- not a constructor that models a rigid variable or an unknown type
abbrev pub IsPlainNode : Node → Type 0
IsPlainNode (Var level scope) = Unit {0}
IsPlainNode Rigid = Unit {0}
IsPlainNode (Link m) = Unit {0}
IsPlainNode (Arrow a b) = Unit {0}
IsPlainNode (Tuple ms) = Unit {0}
IsPlainNode (Con path name ms) = IsPlainPath path

-- no constructor among nodes models a rigid variable or an unknown type
pub record IsPlain (nodes : List Node) : Type 0 where
  pub each : (n : ℕ) (c : Node) → slice_get nodes n ≡ Some c → IsPlainNode c

-- a set of nodes that has the parts of its nodes
pub record IsClosed (nodes : List Node) (A : ℕ → Bool) : Type 0 where
  pub each : (n : ℕ) (c : Node) → A n ≡ true → slice_get nodes n ≡ Some c → All (λ m. A m ≡ true) (parts c)

-- v doesn't occur in n: a set that has the parts of its nodes has n and not v
abbrev pub Apart : List Node → ℕ → ℕ → Type 0
Apart nodes v n = (A : ℕ → Bool) × IsClosed nodes A × (A n ≡ true) × (A v ≡ false)
