-- Copies of types, with something new for each bound variable.
use Rattle.std.specs.Prelude.{◌≡◌, ◌≢◌, ◌⊎◌, ℕ, ◌<◌, ◌≤◌, List, [], ◌∷◌, ◌++◌, All, length, map, nat_eq, slice_get, Option, Some, None, unwrap_or, option_map}
use Rattle.std.specs.HashMap.{HashMap, get}
use Rattle.text_terms.specs.Bytes.{str_bytes}
use Rattle.type_model.specs.Limits.{no_scope}
use Rattle.type_terms.specs.declared.types.NodeRef.{NodeRef}
use Rattle.type_nodes.specs.Nodes.{Node, Var, Rigid, Link, Arrow, Tuple, Con, parts, bound_level, IsSound}
use Rattle.type_nodes.specs.Links.{root, IsComposite}
use Rattle.type_nodes.specs.Views.{numbers}
use Rattle.level_unify.specs.declared.copies.Fresh.{Fresh}
use Rattle.level_unify.specs.declared.copies.Fresh.TheVariants as fresh
use Rattle.level_unify.specs.declared.copies.Shape.{Shape}
use Rattle.level_unify.specs.declared.copies.Shape.TheVariants as shape
use Rattle.level_unify.specs.Walks.{Reached}

-- new variables have a level below that of the bound ones
abbrev pub IsBelowBound : Fresh → Type 0
IsBelowBound (fresh.Flexible level) = level < bound_level
IsBelowBound fresh.Rigid = Unit {0}

-- what is made for a bound variable
abbrev pub fresh_node : Fresh → Node
fresh_node (fresh.Flexible level) = Var level no_scope
fresh_node fresh.Rigid = Rigid

-- what is made as a shape
abbrev pub shape_node : Node → Shape → Node
shape_node new shape.Fresh = new
shape_node new (shape.Arrow a b) = Arrow a.0 b.0
shape_node new (shape.Tuple ms) = Tuple (numbers ms.items)
shape_node new (shape.Con o ms) = Con o.path.items (str_bytes o.name) (numbers ms.items)

-- the copies of roots
abbrev pub Table : Type 0
Table = ℕ → Option ℕ

-- the code's table, by numbers
abbrev pub table_of : {S : Type 0} → HashMap ℕ NodeRef S → Table
table_of t n = option_map (λ (m : NodeRef). m.0) (get nat_eq t n)

-- a node's copy, or its root where that has none
abbrev pub image : List Node → Table → ℕ → ℕ
image nodes T m = unwrap_or (T (root nodes m)) (root nodes m)

-- the copies are nodes
pub record AreInside (nodes : List Node) (T : Table) : Type 0 where
  pub each : (n m : ℕ) → T n ≡ Some m → m < length nodes

-- a bound variable
abbrev pub IsBoundVar : Node → Type 0
IsBoundVar (Var level scope) = level ≡ bound_level
IsBoundVar Rigid = ⊥
IsBoundVar (Link m) = ⊥
IsBoundVar (Arrow a b) = ⊥
IsBoundVar (Tuple ms) = ⊥
IsBoundVar (Con path name ms) = ⊥

-- a node with other parts
abbrev pub with_parts : (ℕ → ℕ) → Node → Node
with_parts f (Var level scope) = Var level scope
with_parts f Rigid = Rigid
with_parts f (Link m) = Link (f m)
with_parts f (Arrow a b) = Arrow (f a) (f b)
with_parts f (Tuple ms) = Tuple (map f ms)
with_parts f (Con path name ms) = Con path name (map f ms)

-- the root of some node has a copy
abbrev pub IsAnyCopied : List Node → Table → List ℕ → Type 0
IsAnyCopied nodes T ms = (k : ℕ) × (m : ℕ) × (slice_get ms k ≡ Some m) × (T (root nodes m) ≢ None)

-- a node without a copy: it is no bound variable, and its parts have none
abbrev pub IsShared : List Node → Table → Node → Type 0
IsShared nodes T c = (IsBoundVar c → ⊥) × All (λ m. T (root nodes m) ≡ None) (parts c)

-- what stands at a node's copy: what is new for a bound variable, or the node with the images of its parts, some of which are copies
abbrev pub IsCopy : List Node → Table → (new c x : Node) → Type 0
IsCopy nodes T new c x = (IsBoundVar c × (x ≡ new)) ⊎ (IsComposite c × IsAnyCopied nodes T (parts c) × (x ≡ with_parts (image nodes T) c))

-- what is made of a node, if anything
abbrev pub ShapesAs : List Node → Table → Node → Option Shape → Type 0
ShapesAs nodes T c None = IsShared nodes T c
ShapesAs nodes T c (Some s) = (new : Node) → IsCopy nodes T new c (shape_node new s)

-- no copy was made of a root
pub record Shares (old new : List Node) (T T' : Table) (c : Node) : Type 0 where
  pub shared : IsShared old T c
  pub nodes : new ≡ old
  pub table : T' ≡ T

-- a copy was made of the root n
pub record MakesCopy (old new : List Node) (T T' : Table) (made : Node) (n : ℕ) (c : Node) : Type 0 where
  pub node : Node
  pub copy : IsCopy old T made c node
  pub nodes : new ≡ old ++ node ∷ []
  pub roots : (m : ℕ) → m < length old → root new m ≡ root old m
  pub own : T' n ≡ Some (length old)
  pub others : (m : ℕ) → m ≢ n → T' m ≡ T m

-- one or the other
abbrev pub CopiesOne : (old new : List Node) → (T T' : Table) → (made : Node) → ℕ → Type 0
CopiesOne old new T T' made n = (c : Node) → slice_get old n ≡ Some c → Shares old new T T' c ⊎ MakesCopy old new T T' made n c

-- a node that was looked at: it has no copy, or what stands there is one
abbrev pub HasImage : (old new : List Node) → Table → Node → ℕ → Node → Type 0
HasImage old new T made n c = ((T n ≡ None) × IsShared old T c) ⊎ ((m : ℕ) × (x : Node) × (T n ≡ Some m) × (slice_get new m ≡ Some x) × IsCopy old T made c x)

-- the nodes of before are as they were
pub record Extends (old new : List Node) : Type 0 where
  pub longer : length old ≤ length new
  pub node : (n : ℕ) → n < length old → slice_get new n ≡ slice_get old n
  pub roots : (n : ℕ) → n < length old → root new n ≡ root old n

-- where copying stands: the first nodes that were found have images, and each node that was made is the copy of its source
pub record CopiedTo (old new : List Node) (made : Node) (found : List ℕ) (T : Table) (at : ℕ) : Type 0 where
  pub extends : Extends old new
  pub images : (k n : ℕ) (c : Node) → k < at → slice_get found k ≡ Some n → slice_get old n ≡ Some c → HasImage old new T made n c
  pub rest : (k n : ℕ) → at ≤ k → slice_get found k ≡ Some n → T n ≡ None
  pub source : ℕ → ℕ
  pub copies : (m : ℕ) → length old ≤ m → m < length new → (T (source m) ≡ Some m) × ((k : ℕ) × (k < at) × (slice_get found k ≡ Some (source m)))
  pub sources : (n m : ℕ) → T n ≡ Some m → (length old ≤ m) × (m < length new) × (source m ≡ n)

-- m is a copy of r
pub record Copied (old new : List Node) (made : Node) (r m : ℕ) : Type 0 where
  pub inside : r < length old
  pub sound : IsSound old
  pub sound_after : IsSound new
  pub found : List ℕ
  pub table : Table
  pub reached : Reached old r found
  pub copied : CopiedTo old new made found table (length found)
  pub is : m ≡ image old table r
