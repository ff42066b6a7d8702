-- Declarations and exceptions against each other, at each reading of the types (OCaml manual, 11.10; Leroy 1994).
use Rattle.std.specs.Prelude.{◌≡◌, ◌≢◌, Bool, true, false, List, [], ◌∷◌, length}
use Rattle.type_terms.specs.declared.types.NodeRef.{NodeRef}
use Rattle.type_nodes.specs.Nodes.{Node}
use Rattle.scheme_match.specs.Covering.{Compared}
use Rattle.scheme_match.specs.Unknown.{HasUnknown}
use Rattle.env_table.specs.declared.entries.Constructor.{Constructor}
use Rattle.env_table.specs.declared.entries.Label.{Label}
use Rattle.env_table.specs.declared.entries.Declaration.{Declaration}
use Rattle.env_table.specs.declared.entries.Shape.{Shape}
use Rattle.env_table.specs.declared.entries.Shape.TheVariants as shape
use Rattle.signature_match.specs.Shapes.{ConstructorsFit, LabelsFit}
use Rattle.signature_match.specs.Values.{AreComparable}

-- two roots are compared as schemes, where nothing unknown stands in them
abbrev pub ComparesRoots : (old new : List Node) → (actual wanted : NodeRef) → Bool → Type 0
ComparesRoots old new actual wanted met = (HasUnknown old actual.0 → ⊥) → AreComparable old actual wanted → Compared old new actual.0 wanted.0 met

-- two constructors are compared: their names and whether they have an argument, and then, where they have one, their types
pub data ComparesConstructor : (old new : List Node) → (actual wanted : Constructor) → Bool → Type 0 where
  other_constructor : {nodes : List Node} {k l : Constructor} → (ConstructorsFit k l → ⊥) → ComparesConstructor nodes nodes k l false
  no_argument : {nodes : List Node} {k l : Constructor} → ConstructorsFit k l → k.has_argument ≡ false → ComparesConstructor nodes nodes k l true
  arguments : {old new : List Node} {k l : Constructor} {met : Bool} → ConstructorsFit k l → k.has_argument ≡ true → ComparesRoots old new k.root l.root met → ComparesConstructor old new k l met

-- two labels are compared: their names and whether they may be set, and then their types
pub data ComparesLabel : (old new : List Node) → (actual wanted : Label) → Bool → Type 0 where
  other_label : {nodes : List Node} {k l : Label} → (LabelsFit k l → ⊥) → ComparesLabel nodes nodes k l false
  label_types : {old new : List Node} {k l : Label} {met : Bool} → LabelsFit k l → ComparesRoots old new k.root l.root met → ComparesLabel old new k l met

-- two lists are compared, member by member in order, until two differ; lists of other lengths differ
pub data ComparesEach {A : Type 0} (P : (old new : List Node) → A → A → Bool → Type 0) : (old new : List Node) → (actual wanted : List A) → Bool → Type 0 where
  none_left : {nodes : List Node} → ComparesEach P nodes nodes [] [] true
  other_length : {nodes : List Node} {ks ls : List A} → length ks ≢ length ls → ComparesEach P nodes nodes ks ls false
  one_differs : {old new : List Node} {k l : A} {ks ls : List A} → P old new k l false → ComparesEach P old new (k ∷ ks) (l ∷ ls) false
  one_agrees : {old mid new : List Node} {k l : A} {ks ls : List A} {met : Bool} → P old mid k l true → ComparesEach P mid new ks ls met → ComparesEach P old new (k ∷ ks) (l ∷ ls) met

-- constructors in their order
abbrev pub ComparesConstructors : (old new : List Node) → (actual wanted : List Constructor) → Bool → Type 0
ComparesConstructors old new ks ls met = ComparesEach ComparesConstructor old new ks ls met

-- labels in their order
abbrev pub ComparesLabels : (old new : List Node) → (actual wanted : List Label) → Bool → Type 0
ComparesLabels old new ks ls met = ComparesEach ComparesLabel old new ks ls met

-- what two declarations tell of their values is compared; a wanted one that tells nothing asks nothing, and other forms differ
abbrev pub ComparesShapes : (old new : List Node) → (actual wanted : Shape) → Bool → Type 0
ComparesShapes old new actual shape.Opaque met = (met ≡ true) × (new ≡ old)
ComparesShapes old new (shape.Variant ks) (shape.Variant ls) met = ComparesConstructors old new ks.items ls.items met
ComparesShapes old new (shape.Labels ks) (shape.Labels ls) met = ComparesLabels old new ks.items ls.items met
ComparesShapes old new shape.Opaque (shape.Variant ls) met = (met ≡ false) × (new ≡ old)
ComparesShapes old new shape.Opaque (shape.Labels ls) met = (met ≡ false) × (new ≡ old)
ComparesShapes old new (shape.Variant ks) (shape.Labels ls) met = (met ≡ false) × (new ≡ old)
ComparesShapes old new (shape.Labels ks) (shape.Variant ls) met = (met ≡ false) × (new ≡ old)

-- two declarations of as many parameters are compared: their types, and then what they tell of their values
pub data ComparesDeclarations : (old new : List Node) → (actual wanted : Declaration) → Bool → Type 0 where
  types_differ : {old new : List Node} {d e : Declaration} → ComparesRoots old new d.root e.root false → ComparesDeclarations old new d e false
  types_agree : {old mid new : List Node} {d e : Declaration} {met : Bool} → ComparesRoots old mid d.root e.root true → ComparesShapes mid new d.shape e.shape met → ComparesDeclarations old new d e met

-- two exceptions are compared: whether they have an argument, and then their types
pub data ComparesExceptions : (old new : List Node) → (actual wanted : Constructor) → Bool → Type 0 where
  one_has_none : {nodes : List Node} {k l : Constructor} → k.has_argument ≢ l.has_argument → ComparesExceptions nodes nodes k l false
  by_types : {old new : List Node} {k l : Constructor} {met : Bool} → k.has_argument ≡ l.has_argument → ComparesRoots old new k.root l.root met → ComparesExceptions old new k l met
