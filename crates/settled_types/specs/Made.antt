-- Types, and names in scope, that are made of some constructors alone.
use Rattle.std.specs.Prelude.{◌≡◌, ℕ, ◌<◌, Bool, true, ◌&&◌, List, [], ◌∷◌, Option, Some, None}
use Rattle.type_model.specs.Types.{Path, Typ, Typs, Var, Arrow, Tuple, Con, Nil, Cons}
use Rattle.signature_model.specs.Declarations.{Constructor, Label, Shape, Opaque, Variant, Labels, Declaration, type_of}
use Rattle.signature_model.specs.Signatures.{Signature, Hole, Structure, Functor, Components, Done, Component, Meaning, Value, TypeName, Exception, Module, ModuleType}
use Rattle.signature_model.specs.Changes.{among}
use Rattle.signature_model.specs.Entries.{Referent, a_value, a_constructor, an_exception, a_label, a_type, a_module, a_module_type, Environment}
use Rattle.typing_model.specs.BuiltIns.{built_in_origin}

-- whether each constructor in a type is one of these
abbrev mutual
  pub is_made_of : List Path → Typ → Bool
  is_made_of os (Var v) = true
  is_made_of os (Arrow a b) = is_made_of os a && is_made_of os b
  is_made_of os (Tuple ts) = are_made_of os ts
  is_made_of os (Con o ts) = among o os && are_made_of os ts

  -- the same of several types
  pub are_made_of : List Path → Typs → Bool
  are_made_of os Nil = true
  are_made_of os (Cons t ts) = is_made_of os t && are_made_of os ts

-- the same of a type that may be absent
abbrev pub option_made_of : List Path → Option Typ → Bool
option_made_of os None = true
option_made_of os (Some t) = is_made_of os t

-- the same of the arguments of constructors
abbrev pub constructors_made_of : List Path → List Constructor → Bool
constructors_made_of os [] = true
constructors_made_of os (k ∷ ks) = option_made_of os k.argument && constructors_made_of os ks

-- the same of the types of labels
abbrev pub labels_made_of : List Path → List Label → Bool
labels_made_of os [] = true
labels_made_of os (l ∷ ls) = is_made_of os l.body && labels_made_of os ls

-- the same of what a declaration tells of its values
abbrev pub shape_made_of : List Path → Shape → Bool
shape_made_of os Opaque = true
shape_made_of os (Variant ks) = constructors_made_of os ks
shape_made_of os (Labels ls) = labels_made_of os ls

-- the same of a declaration
abbrev pub declaration_made_of : List Path → Declaration → Bool
declaration_made_of os d = is_made_of os (type_of d) && shape_made_of os d.shape

-- the same of what is in scope inside a signature; in a functor nothing is
abbrev mutual
  pub signature_made_of : List Path → Signature → Bool
  signature_made_of os Hole = true
  signature_made_of os (Structure cs) = components_made_of os cs
  signature_made_of os (Functor pm p bm b) = true

  -- the same of components
  pub components_made_of : List Path → Components → Bool
  components_made_of os Done = true
  components_made_of os (Component n at m cs) = meaning_made_of os m && components_made_of os cs

  -- the same of what a component stands for
  pub meaning_made_of : List Path → Meaning → Bool
  meaning_made_of os (Value s) = is_made_of os s.body
  meaning_made_of os (TypeName d) = declaration_made_of os d
  meaning_made_of os (Exception o) = option_made_of os o
  meaning_made_of os (Module s) = signature_made_of os s
  meaning_made_of os (ModuleType made s) = true

-- the same of what a name in scope stands for
abbrev pub referent_made_of : List Path → Referent → Bool
referent_made_of os (a_value s) = is_made_of os s.body
referent_made_of os (a_constructor d k) = is_made_of os (type_of d) && option_made_of os k.argument
referent_made_of os (an_exception o) = option_made_of os o
referent_made_of os (a_label d l) = declaration_made_of os d && is_made_of os l.body
referent_made_of os (a_type d) = declaration_made_of os d
referent_made_of os (a_module s) = signature_made_of os s
referent_made_of os (a_module_type t) = true

-- the same of an environment
abbrev pub names_made_of : List Path → Environment → Bool
names_made_of os [] = true
names_made_of os (e ∷ es) = referent_made_of os e.stands_for && names_made_of os es

-- some constructors, among which are those of the built-in types
pub record Constructors : Type 0 where
  pub all : List Path
  pub built_in : (k : ℕ) → k < 8 → among (built_in_origin k) all ≡ true
