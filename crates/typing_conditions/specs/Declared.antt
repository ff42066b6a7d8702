-- What a declaration of the code is against one of the definitions. All variables in its roots are bound, so this depends on the store
-- alone: on no typing and on no choice.
use Rattle.std.specs.Prelude.{◌≡◌, ◌≢◌, ℕ, zero, suc, ◌<◌, true, List, [], ◌∷◌, length, slice_get, Option, Some, None, option_map}
use Rattle.text_terms.specs.Bytes.{str_bytes}
use Rattle.type_terms.specs.Views.{path_of}
use Rattle.type_terms.specs.declared.types.Origin.{Origin}
use Rattle.type_model.specs.Types.{Path, Typ, Typs, occurs}
use Rattle.type_model.specs.Types.{Typ as type, Typs as types}
use Rattle.type_model.specs.Substitutions.{apply}
use Rattle.signature_model.specs.Declarations as rules
use Rattle.signature_model.specs.Declarations.{parameters_from, type_of}
use Rattle.signature_model.specs.Matching.{is_unknown, IsKnown}
use Rattle.signature_model.specs.Records.{is_some, origin_of}
use Rattle.typing_model.specs.BuiltIns.{exn_type}
use Rattle.type_nodes.specs.Nodes.{Node, Var, bound_level}
use Rattle.type_nodes.specs.Readings.{Types}
use Rattle.env_table.specs.declared.entries.Constructor.{Constructor}
use Rattle.env_table.specs.declared.entries.Declaration.{Declaration}
use Rattle.env_table.specs.declared.entries.Label.{Label}
use Rattle.env_table.specs.declared.entries.Shape.{Shape}
use Rattle.env_table.specs.declared.entries.Shape.TheVariants as shape
use Rattle.env_table.specs.declared.entries.What.{What}
use Rattle.env_table.specs.declared.entries.What.TheVariants as what
use Rattle.typing_conditions.specs.Locals.{IsOwn}
use Rattle.typing_conditions.specs.Standing.{IsIn}

-- A bound variable of a declaration over so many parameters has its name in N: a parameter is the variable of its number, and an unknown type, whose scope is 0, the
-- constructor of its path.
pub data IsNamed (nodes : List Node) (N : Types) (arity v : ℕ) : Type 0 where
  a_parameter : (scope k : ℕ) → slice_get nodes v ≡ Some (Var bound_level scope) → scope ≢ 0 → k < arity → N v ≡ type.Var k → IsNamed nodes N arity v
  an_unknown : (o : Path) → slice_get nodes v ≡ Some (Var bound_level 0) → is_unknown o ≡ true → N v ≡ type.Con o types.Nil → IsNamed nodes N arity v

-- no two variables have one unknown type as their name
abbrev pub UnknownApart : Types → Type 0
UnknownApart N = (v w : ℕ) (o : Path) → is_unknown o ≡ true → N v ≡ type.Con o types.Nil → N w ≡ type.Con o types.Nil → v ≡ w

-- no variable has an unknown type as its name
abbrev pub NoneUnknown : Types → Type 0
NoneUnknown N = (v : ℕ) (o : Path) → is_unknown o ≡ true → N v ≡ type.Con o types.Nil → ⊥

-- One of the roots C stands for a type of a declaration: that type is its own, with the name of each variable in it; no two have one name.
pub record RootAs (nodes : List Node) (C : List ℕ) (N : Types) (arity r : ℕ) (t : Typ) : Type 0 where
  pub inside : r < length nodes
  pub among : IsIn C r
  pub known : (I : Types) → IsOwn nodes I → IsKnown (I r)
  pub is : (I : Types) → IsOwn nodes I → t ≡ apply N (I r)
  pub named : (I : Types) → IsOwn nodes I → (v : ℕ) → occurs v (I r) ≡ true → IsNamed nodes N arity v
  pub apart : (I : Types) → IsOwn nodes I → (v w : ℕ) → occurs v (I r) ≡ true → occurs w (I r) ≡ true → N v ≡ N w → v ≡ w

-- the type of a constructor: from its argument, where it takes one, to what it builds
abbrev pub building : Typ → Option Typ → Typ
building result None = result
building result (Some t) = type.Arrow t result

-- a constructor's root stands for its type, and it takes an argument where the definitions' does
pub record MakesAs (nodes : List Node) (C : List ℕ) (N : Types) (arity : ℕ) (c : Constructor) (result : Typ) (argument : Option Typ) : Type 0 where
  pub takes : c.has_argument ≡ is_some argument
  pub root : RootAs nodes C N arity c.root.0 (building result argument)

-- a constructor of a declaration whose type is `result`: the same name
pub record ConstructorAs (nodes : List Node) (C : List ℕ) (N : Types) (arity : ℕ) (result : Typ) (c : Constructor) (k : rules.Constructor) : Type 0 where
  pub name : k.name ≡ str_bytes c.name
  pub makes : MakesAs nodes C N arity c result k.argument

-- a label of a declaration whose type is `owner`: the same name, and whether it may be set; its root stands for the arrow from the record to the field
pub record LabelAs (nodes : List Node) (C : List ℕ) (N : Types) (arity : ℕ) (owner : Typ) (l : Label) (k : rules.Label) : Type 0 where
  pub name : k.name ≡ str_bytes l.name
  pub mutable : l.is_mutable ≡ k.is_mutable
  pub root : RootAs nodes C N arity l.root.0 (type.Arrow owner k.body)

-- two lists, one by one
pub data OneByOne {A B : Type 0} (P : A → B → Type 0) : List A → List B → Type 0 where
  no_more : OneByOne P [] []
  one_more : {x : A} {y : B} {xs : List A} {ys : List B} → P x y → OneByOne P xs ys → OneByOne P (x ∷ xs) (y ∷ ys)

-- what is told of the values of a type: nothing, the constructors or the labels, in order
pub data ShapeAs (nodes : List Node) (C : List ℕ) (N : Types) (arity : ℕ) (owner : Typ) : Shape → rules.Shape → Type 0 where
  tell_nothing : {s : Shape} → s ≡ shape.Opaque → ShapeAs nodes C N arity owner s rules.Opaque
  tell_constructors : {s : Shape} {cs : _} {ks : List rules.Constructor} → s ≡ shape.Variant cs → OneByOne (ConstructorAs nodes C N arity owner) cs.items ks → ShapeAs nodes C N arity owner s (rules.Variant ks)
  tell_labels : {s : Shape} {ls : _} {ks : List rules.Label} → s ≡ shape.Labels ls → OneByOne (LabelAs nodes C N arity owner) ls.items ks → ShapeAs nodes C N arity owner s (rules.Labels ks)

-- types with one more behind them
abbrev pub and_last : Typs → Typ → Typs
and_last types.Nil t = types.Cons t types.Nil
and_last (types.Cons u us) t = types.Cons u (and_last us t)

-- what a declaration's root stands for: the tuple of its parameters and its type; without parameters the type alone
abbrev pub with_parameters : ℕ → Typ → Typ
with_parameters zero t = t
with_parameters (suc k) t = type.Tuple (and_last (parameters_from 0 (suc k)) t)

-- a declaration makes an origin exactly where it is a type of its own
abbrev pub OriginAs : Option Origin → rules.Definition → Type 0
OriginAs None (rules.Own o) = ⊥
OriginAs None (rules.Is t) = Unit {0}
OriginAs (Some p) (rules.Own o) = path_of p ≡ o
OriginAs (Some p) (rules.Is t) = ⊥

-- A declaration stands for one of the definitions: over as many parameters, with the same origin, and its roots for its types.
pub record DeclaredAs (nodes : List Node) (C : List ℕ) (N : Types) (d : Declaration) (e : rules.Declaration) : Type 0 where
  pub arity : e.arity ≡ d.arity
  pub origin : OriginAs d.origin e.definition
  pub defines : option_map path_of d.defines ≡ origin_of (type_of e)
  pub root : RootAs nodes C N e.arity d.root.0 (with_parameters e.arity (type_of e))
  pub shape : ShapeAs nodes C N e.arity (type_of e) d.shape e.shape

-- an exception stands for one of the definitions: a constructor of the type of exceptions, which has no parameters
abbrev pub ExceptionAs : (nodes : List Node) (C : List ℕ) (N : Types) → Constructor → Option Typ → Type 0
ExceptionAs nodes C N c argument = MakesAs nodes C N 0 c exn_type argument

-- the constructor of a shape of the code at a place
abbrev pub constructor_at : Shape → ℕ → Option Constructor
constructor_at (shape.Variant cs) k = slice_get cs.items k
constructor_at _ k = None

-- the label of a shape of the code at a place
abbrev pub label_at : Shape → ℕ → Option Label
label_at (shape.Labels ls) k = slice_get ls.items k
label_at _ k = None

-- the constructor that something is
abbrev pub constructor_in : What → Option Constructor
constructor_in (what.Constructor d k) = constructor_at d.value.shape k
constructor_in (what.Exception c) = Some c.value
constructor_in _ = None

-- the label that something is
abbrev pub label_in : What → Option Label
label_in (what.Label d k) = label_at d.value.shape k
label_in _ = None
