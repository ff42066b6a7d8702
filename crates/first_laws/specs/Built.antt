-- What typing does to declare the built-in types.
use Rattle.std.specs.Prelude.{◌≡◌, ℕ, zero, suc, List, [], ◌∷◌, Option, Some}
use Rattle.std.specs.declared.rc.Rc.{Rc}
use Rattle.std.specs.declared.alloc.Global.{Global}
use Rattle.text_terms.specs.Bytes.{str_bytes}
use Rattle.type_terms.specs.Views.{path_of}
use Rattle.type_terms.specs.declared.types.Origin.{Origin}
use Rattle.type_model.specs.Types.{Path}
use Rattle.signature_model.specs.Entries.{Environment}
use Rattle.signature_model.specs.Entries.{Entry as Named}
use Rattle.typing_model.specs.BuiltIns.{built_in_origin, built_in_entry}
use Rattle.type_nodes.specs.Nodes.{Var, Tuple, Con, IsSound}
use Rattle.type_nodes.specs.States.{State}
use Rattle.type_nodes.specs.Changes.{Makes}
use Rattle.level_unify.specs.Generalising.{Generalised}
use Rattle.env_table.specs.declared.entries.Declaration.{Declaration}
use Rattle.env_table.specs.declared.entries.Entry.{Entry}
use Rattle.env_table.specs.declared.entries.Kind.TheVariants as kind
use Rattle.env_table.specs.declared.entries.Place.TheVariants as place
use Rattle.env_table.specs.declared.entries.Shape.TheVariants as shape
use Rattle.env_table.specs.declared.entries.What.TheVariants as what
use Rattle.typing_state.specs.declared.built_ins.BuiltIn.{BuiltIn}
use Rattle.typing_state.specs.declared.built_ins.BuiltIn.TheVariants as built
use Rattle.typing_state.specs.BuiltIns.{name_of, number_of}
use Rattle.typing_state.specs.Goes.{OnlyStore}
use Rattle.typing_state.specs.Types.{any_scope}
use Rattle.typing_state.specs.declared.parts.Parts.{Parts}

-- how many parameters a built-in type has
abbrev pub arity_of : BuiltIn → ℕ
arity_of built.Int = 0
arity_of built.Char = 0
arity_of built.Str = 0
arity_of built.Float = 0
arity_of built.Unit = 0
arity_of built.Bool = 0
arity_of built.Exn = 0
arity_of built.List = 1

-- The root of a type of this path over so many parameters is made: its constructor alone, or the tuple of a parameter, a new variable of the level 1, and of the constructor of it.
pub data MakesRoot (path : Path) (old new : State) (r : ℕ) : ℕ → Type 0 where
  alone : (name : List ℕ) → Makes old new r (Con path name []) → MakesRoot path old new r zero
  over_one : (name : List ℕ) (v m : ℕ) (first second : State) → Makes old first v (Var 1 any_scope) → Makes first second m (Con path name (v ∷ [])) → Makes second new r (Tuple (v ∷ m ∷ [])) → MakesRoot path old new r (suc zero)

-- an origin of the code has this path
abbrev pub HasPath : Option Origin → Path → Type 0
HasPath given path = (o : Origin) × (given ≡ Some o) × (path_of o ≡ path)

-- from the lowest level on, the declaration of a built-in type was made: its root was made one level further in, and generalised
pub record DeclaresBuiltIn (a b : Parts) (which : BuiltIn) (d : Declaration) : Type 0 where
  pub between : State
  pub root : MakesRoot (built_in_origin (number_of which)) a.store between d.root.0 (arity_of which)
  pub closed : Generalised between.nodes b.store.nodes d.root.0 0
  pub sound : IsSound b.store.nodes
  pub rest : OnlyStore a b
  pub arity : d.arity ≡ arity_of which
  pub origin : HasPath d.origin (built_in_origin (number_of which))
  pub defines : HasPath d.defines (built_in_origin (number_of which))
  pub shape : d.shape ≡ shape.Opaque

-- the same with its entry
pub record EntersBuiltIn (a b : Parts) (which : BuiltIn) (e : Entry) : Type 0 where
  pub name : str_bytes e.name ≡ name_of which
  pub kind : e.kind ≡ kind.TypeName
  pub place : e.place ≡ place.BuiltIn (number_of which)
  pub declaration : Rc Declaration Global
  pub is : e.what ≡ what.Type declaration
  pub declared : DeclaresBuiltIn a b which declaration.value

-- the same of several in turn, the last one newest, after the entries of before
abbrev pub EntersAll : List BuiltIn → Parts → (before : List Entry) → Parts → (env : List Entry) → Type 0
EntersAll [] a before b env = (b ≡ a) × (env ≡ before)
EntersAll (w ∷ ws) a before b env = (c : Parts) × (e : Entry) × EntersBuiltIn a c w e × EntersAll ws c (e ∷ before) b env

-- the entry of a built-in type in the definitions
abbrev pub entry_of : BuiltIn → Named
entry_of w = built_in_entry (number_of w) (arity_of w) (name_of w)

-- an environment with the entries of built-in types, the last one newest
abbrev pub with_built_ins : List BuiltIn → Environment → Environment
with_built_ins [] E = E
with_built_ins (w ∷ ws) E = with_built_ins ws (entry_of w ∷ E)
