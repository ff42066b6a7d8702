-- What making nodes one does to the types that fit, levels and scopes left aside.
use Rattle.std.specs.Prelude.{◌≡◌, ◌≢◌, ◌⊎◌, ℕ, ◌+◌, ◌<◌, ◌≤◌, Bool, true, false, cond, nat_eq, List, [], ◌∷◌, ◌++◌, length, map, slice_get, Some, suc}
use Rattle.type_nodes.specs.Nodes.{Node, Var, Rigid, Link, Arrow, Tuple, Con, bound_level, IsClosed}
use Rattle.std.specs.HashSet.{contains}
use Rattle.type_nodes.specs.Links.{root, IsNoLink}
use Rattle.type_nodes.specs.Readings.{Types, FitsNode}
use Rattle.level_unify.specs.declared.solve.Pair.{Pair}
use Rattle.level_unify.specs.declared.solve.Limit.{Limit}
use Rattle.level_unify.specs.declared.solve.Todo.{Todo}

-- A node's type is built from the types of its parts, and a variable's is any type.
abbrev pub FitsLoosely : Types → ℕ → Node → Type 0
FitsLoosely V n (Var level scope) = Unit {0}
FitsLoosely V n Rigid = FitsNode V n Rigid
FitsLoosely V n (Link m) = FitsNode V n (Link m)
FitsLoosely V n (Arrow a b) = FitsNode V n (Arrow a b)
FitsLoosely V n (Tuple ms) = FitsNode V n (Tuple ms)
FitsLoosely V n (Con path name ms) = FitsNode V n (Con path name ms)

-- types that fit every node, whatever the scopes
pub record Loose (nodes : List Node) (V : Types) : Type 0 where
  pub each : (n : ℕ) (c : Node) → slice_get nodes n ≡ Some c → FitsLoosely V n c

-- each node of before is one still, and the types that fit now fitted before: no type is lost, and none is loosened
pub record Tightens (old new : List Node) : Type 0 where
  pub nodes : length old ≤ length new
  pub types : (V : Types) → Loose new V → Loose old V

-- a variable that was bound, with its level and its scope from before
abbrev pub Cap : Type 0
Cap = ℕ × ℕ × ℕ

-- a limit of the code: the variable that was bound, its level and its scope
abbrev pub cap_of : Limit → Cap
cap_of l = (l.var.0, l.level, l.scope)

-- the limits of the code, in order
abbrev pub caps_of : List Limit → List Cap
caps_of ls = map cap_of ls

-- a limit is one of these
abbrev pub IsListed : List Cap → Cap → Type 0
IsListed caps x = (k : ℕ) × (slice_get caps k ≡ Some x)

-- two nodes that are to have one type
abbrev pub Equation : Type 0
Equation = ℕ × ℕ

-- a pair of the code as an equation
abbrev pub equation_of : Pair → Equation
equation_of p = (p.left.0, p.right.0)

-- the pairs of the code, in order
abbrev pub equations_of : List Pair → List Equation
equations_of ps = map equation_of ps

-- the roots that are opened
abbrev pub is_opened : Todo → ℕ → Bool
is_opened todo = contains nat_eq todo.opened

-- the roots that are cleared
abbrev pub is_cleared : Todo → ℕ → Bool
is_cleared todo = contains nat_eq todo.cleared

-- at most s is cleared in addition, and it is where r is
pub record ClearsAlike (D D' : ℕ → Bool) (r s : ℕ) : Type 0 where
  pub kept : (n : ℕ) → D n ≡ true → D' n ≡ true
  pub new : (n : ℕ) → D' n ≡ true → (D n ≡ true) ⊎ ((n ≡ s) × (D r ≡ true))
  pub alike : D' r ≡ true → D' s ≡ true

-- both sides of each equation have one root
abbrev pub AreOne : List Node → List Equation → Type 0
AreOne nodes [] = Unit {0}
AreOne nodes (e ∷ es) = (root nodes e.0 ≡ root nodes e.1) × AreOne nodes es

-- the parts of two nodes in pairs
abbrev pub paired : List ℕ → List ℕ → List Equation
paired [] ns = []
paired (m ∷ ms) [] = []
paired (m ∷ ms) (n ∷ ns) = (m, n) ∷ paired ms ns

-- the types of the two sides of each equation are one
pub record Solves (V : Types) (es : List Equation) : Type 0 where
  pub each : (k : ℕ) (e : Equation) → slice_get es k ≡ Some e → V e.0 ≡ V e.1

-- both sides of each equation are in a set
pub record AllIn (F : ℕ → Type 0) (es : List Equation) : Type 0 where
  pub each : (k : ℕ) (e : Equation) → slice_get es k ≡ Some e → F e.0 × F e.1

-- what is left to do for the nodes that are no links: each is one, and one for each of its parts
abbrev pub weight_of : Node → ℕ
weight_of (Link m) = 0
weight_of (Var level scope) = 1
weight_of Rigid = 1
weight_of (Arrow a b) = 3
weight_of (Tuple ms) = suc (length ms)
weight_of (Con path name ms) = suc (length ms)

-- what is left to do for all nodes of a store
abbrev pub weight : List Node → ℕ
weight [] = 0
weight (c ∷ nodes) = weight_of c + weight nodes

-- the same for the nodes from a number on that aren't opened
abbrev pub unopened : (ℕ → Bool) → ℕ → List Node → ℕ
unopened O at [] = 0
unopened O at (c ∷ nodes) = cond (O at) 0 (weight_of c) + unopened O (suc at) nodes

-- what is left to do for nodes, some of which are opened
abbrev pub work : (ℕ → Bool) → List Node → ℕ
work O nodes = weight nodes + unopened O 0 nodes

-- the change stays within what r and s lead to, and makes links alone
pub record StaysWithin (old new : List Node) (r s : ℕ) : Type 0 where
  pub closed : (F : ℕ → Bool) → IsClosed old F → F r ≡ true → F s ≡ true → IsClosed new F
  pub outside : (F : ℕ → Bool) → IsClosed old F → F r ≡ true → F s ≡ true → (n : ℕ) → F n ≡ false → slice_get new n ≡ slice_get old n
  pub links : (n : ℕ) (c : Node) → slice_get new n ≡ Some c → IsNoLink c → slice_get old n ≡ Some c

-- r and s were made one as far as they alone go, or opened: equations of their parts are left
pub record Stepped (old new : List Node) (r s : ℕ) (O O' : ℕ → Bool) (extra : List Equation) : Type 0 where
  pub len : length new ≡ length old
  pub smaller : work O' new + length extra ≤ work O old
  pub inside : AllIn (λ n. n < length old) extra
  pub forth : (V : Types) → Loose old V → V r ≡ V s → Loose new V × Solves V extra
  pub back : (V : Types) → Loose new V → Solves V extra → Loose old V × (V r ≡ V s)
  pub stays : StaysWithin old new r s
  pub within : (F : ℕ → Bool) → IsClosed old F → F r ≡ true → F s ≡ true → AllIn (λ n. F n ≡ true) extra

-- the same, with the equations that are left to do before and after
abbrev pub Steps : List Node → List Node → ℕ → ℕ → (ℕ → Bool) → (ℕ → Bool) → List Equation → List Equation → Type 0
Steps old new r s O O' todo todo' = (extra : List Equation) × (todo' ≡ todo ++ extra) × Stepped old new r s O O' extra

-- the variable that became a link, if one did, is listed with its level and its scope
pub record Recorded (old new : List Node) (r s : ℕ) (caps caps' : List Cap) : Type 0 where
  pub kept : (x : Cap) → IsListed caps x → IsListed caps' x
  pub gone : (n level scope : ℕ) → slice_get old n ≡ Some (Var level scope) → (slice_get new n ≡ Some (Var level scope)) ⊎ IsListed caps' (n, level, scope)
  pub was : (x : Cap) → IsListed caps' x → IsListed caps x ⊎ ((slice_get old x.0 ≡ Some (Var x.1 x.2)) × (x.1 ≢ bound_level) × ((x.0 ≡ r) ⊎ (x.0 ≡ s)))

-- each variable from before is there or is listed; what is listed was a free variable that a or b leads to
pub record Tracked (old new : List Node) (a b : ℕ) (caps : List Cap) : Type 0 where
  pub gone : (n level scope : ℕ) → slice_get old n ≡ Some (Var level scope) → (slice_get new n ≡ Some (Var level scope)) ⊎ IsListed caps (n, level, scope)
  pub was : (x : Cap) → IsListed caps x → (slice_get old x.0 ≡ Some (Var x.1 x.2)) × (x.1 ≢ bound_level)
  pub within : (F : ℕ → Bool) → IsClosed old F → F a ≡ true → F b ≡ true → (x : Cap) → IsListed caps x → F x.0 ≡ true

-- after it what fits is what fitted before and gives both nodes one type
pub record Solved (old new : List Node) (a b : ℕ) : Type 0 where
  pub len : length new ≡ length old
  pub forth : (V : Types) → Loose old V → V a ≡ V b → Loose new V
  pub back : (V : Types) → Loose new V → Loose old V × (V a ≡ V b)
  pub stays : StaysWithin old new a b

-- nothing that fits gives both nodes one type
pub record NeverOne (nodes : List Node) (a b : ℕ) : Type 0 where
  pub never : (V : Types) → Loose nodes V → V a ≡ V b → ⊥

-- no bound variable occurs in a and b
pub record HaveNoBound (nodes : List Node) (a b : ℕ) : Type 0 where
  pub set : ℕ → Bool
  pub closed : IsClosed nodes set
  pub left : set a ≡ true
  pub right : set b ≡ true
  pub free : (n level scope : ℕ) → set n ≡ true → slice_get nodes n ≡ Some (Var level scope) → level ≢ bound_level

-- no variable of the store is bound
pub record AllFree (nodes : List Node) : Type 0 where
  pub each : (n level scope : ℕ) → slice_get nodes n ≡ Some (Var level scope) → level ≢ bound_level
