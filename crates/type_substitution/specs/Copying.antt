-- Copies of roots, each behind those of its parts.
use Rattle.std.specs.Prelude.{◌≡◌, ◌≢◌, ℕ, ◌<◌, List, [], ◌∷◌, All, slice_get, Option, Some, None}
use Rattle.text_terms.specs.Bytes.{str_bytes}
use Rattle.type_model.specs.Types.{Typ as type}
use Rattle.type_nodes.specs.Nodes.{Node, Arrow, Tuple, Con, IsNode, parts}
use Rattle.type_nodes.specs.Links.{root, IsComposite}
use Rattle.type_nodes.specs.Readings.{Types, IsReading}
use Rattle.type_nodes.specs.States.{State}
use Rattle.type_nodes.specs.Changes.{Makes}
use Rattle.type_nodes.specs.Views.{numbers}
use Rattle.level_unify.specs.Copies.{Table, image, IsBoundVar, with_parts}
use Rattle.type_substitution.specs.declared.shapes.Shape.{Shape}
use Rattle.type_substitution.specs.declared.shapes.Shape.TheVariants as shape
use Rattle.type_substitution.specs.Substituting.{by_types, IsSubstituted}

-- each copy is that of a node
pub record AreSubstituted (nodes : List Node) (vs ts : List ℕ) (T : Table) : Type 0 where
  pub each : (n m : ℕ) → T n ≡ Some m → IsNode nodes n × IsSubstituted nodes nodes vs ts n m

-- the roots of some nodes have copies
abbrev pub HaveCopies : List Node → Table → List ℕ → Type 0
HaveCopies nodes T ms = All (λ p. T (root nodes p) ≢ None) ms

-- n gets the copy m, and each other node keeps its own
pub record SetsCopy (T T' : Table) (n m : ℕ) : Type 0 where
  pub own : T' n ≡ Some m
  pub others : (k : ℕ) → k ≢ n → T' k ≡ T k

-- n gets a copy, and no node loses its own
pub record Gains (T T' : Table) (n : ℕ) : Type 0 where
  pub own : T' n ≢ None
  pub others : (k : ℕ) → T k ≢ None → T' k ≢ None

-- a node that is its own copy: it is no bound variable, and each part's copy is its root
abbrev pub IsKept : List Node → Table → Node → Type 0
IsKept nodes T c = (IsBoundVar c → ⊥) × All (λ p. image nodes T p ≡ root nodes p) (parts c)

-- x is a node with the copies of its parts
abbrev pub IsOver : List Node → Table → (c x : Node) → Type 0
IsOver nodes T c x = IsComposite c × (x ≡ with_parts (image nodes T) c)

-- what the copy of a node is made as
abbrev pub ShapesAs : List Node → Table → Node → Shape → Type 0
ShapesAs nodes T c shape.Itself = IsKept nodes T c
ShapesAs nodes T c shape.Bound = IsBoundVar c
ShapesAs nodes T c (shape.Arrow a b) = IsOver nodes T c (Arrow a.0 b.0)
ShapesAs nodes T c (shape.Tuple ms) = IsOver nodes T c (Tuple (numbers ms.items))
ShapesAs nodes T c (shape.Con o ms) = IsOver nodes T c (Con o.path.items (str_bytes o.name) (numbers ms.items))

-- the parts of what is made
abbrev pub shape_parts : Shape → List ℕ
shape_parts shape.Itself = []
shape_parts shape.Bound = []
shape_parts (shape.Arrow a b) = a.0 ∷ b.0 ∷ []
shape_parts (shape.Tuple ms) = numbers ms.items
shape_parts (shape.Con o ms) = numbers ms.items

-- no node given before a place has the root v
abbrev pub NoneBefore : List Node → List ℕ → ℕ → ℕ → Type 0
NoneBefore nodes vs at v = (k p : ℕ) → k < at → slice_get vs k ≡ Some p → root nodes p ≢ v

-- the place of the first node given that has the root v, if any
abbrev pub IsPlace : List Node → List ℕ → ℕ → Option ℕ → Type 0
IsPlace nodes vs v None = All (λ p. root nodes p ≢ v) vs
IsPlace nodes vs v (Some at) = (p : ℕ) × (slice_get vs at ≡ Some p) × (root nodes p ≡ v) × NoneBefore nodes vs at v

-- m has the type that stands in the place of the variable v
pub record StandsFor (old new : List Node) (vs ts : List ℕ) (v m : ℕ) : Type 0 where
  pub inside : IsNode new m
  pub reads : (V : Types) → IsReading new V → V v ≡ type.Var v → V m ≡ by_types old V vs ts v

-- m was made as this shape for the root n
abbrev pub IsMade : (old new : State) → (vs ts : List ℕ) → (n : ℕ) → Shape → ℕ → Type 0
IsMade old new vs ts n shape.Itself m = m ≡ n
IsMade old new vs ts n shape.Bound m = StandsFor old.nodes new.nodes vs ts n m
IsMade old new vs ts n (shape.Arrow a b) m = Makes old new m (Arrow a.0 b.0)
IsMade old new vs ts n (shape.Tuple ms) m = Makes old new m (Tuple (numbers ms.items))
IsMade old new vs ts n (shape.Con o ms) m = Makes old new m (Con o.path.items (str_bytes o.name) (numbers ms.items))
