-- Other paths and types in place of origins, everywhere in a signature (Leroy 2000, A modular module system, for substitutions of paths).
use Rattle.std.specs.Prelude.{ℕ, zero, suc, Bool, false, ◌||◌, List, [], ◌∷◌, map, Option, Some, None, option_map, if◌then◌else◌}
use Rattle.type_model.specs.Types.{Path, Typ, Typs, Var, Arrow, Tuple, Con, Nil, Cons}
use Rattle.type_model.specs.Substitutions.{Subst, apply}
use Rattle.type_model.specs.Schemes.{Scheme}
use Rattle.type_model.specs.Origins.{same_path}
use Rattle.signature_model.specs.Declarations.{Definition, Own, Is, Constructor, Label, Shape, Opaque, Variant, Labels, Declaration}
use Rattle.signature_model.specs.Signatures.{Signature, Hole, Structure, Functor, Components, Done, Component, Meaning, Value, TypeName, Exception, Module, ModuleType}

-- whether a path is one of a list
abbrev pub among : Path → List Path → Bool
among o [] = false
among o (p ∷ ps) = same_path o p || among o ps

-- what stands in place of an origin: a type over the constructor's arguments, or else another path
pub record Change : Type 0 where
  pub path : Path → Path
  pub real : Path → Option Typ

-- the arguments in place of the variables 0, 1 and so on; past the last one the empty tuple
abbrev pub argument : Typs → Subst
argument Nil k = Tuple Nil
argument (Cons t ts) zero = t
argument (Cons t ts) (suc k) = argument ts k

-- a constructor with these arguments, or the type that stands in its place
abbrev pub put : Path → Option Typ → Typs → Typ
put o None ts = Con o ts
put o (Some t) ts = apply (argument ts) t

-- a type after the change
abbrev mutual
  pub change : Change → Typ → Typ
  change c (Var v) = Var v
  change c (Arrow a b) = Arrow (change c a) (change c b)
  change c (Tuple ts) = Tuple (change_all c ts)
  change c (Con o ts) = put (c.path o) (c.real o) (change_all c ts)

  -- each of several types after the change
  pub change_all : Change → Typs → Typs
  change_all c Nil = Nil
  change_all c (Cons t ts) = Cons (change c t) (change_all c ts)

-- a scheme after the change; it binds the variables that it bound
abbrev pub change_scheme : Change → Scheme → Scheme
change_scheme c s = record s { body = change c s.body }

-- a constructor after the change of its argument
abbrev pub change_constructor : Change → Constructor → Constructor
change_constructor c k = record k { argument = option_map (change c) k.argument }

-- a label after the change of its type
abbrev pub change_label : Change → Label → Label
change_label c l = record l { body = change c l.body }

-- what a declaration tells of its values, after the change
abbrev pub change_shape : Change → Shape → Shape
change_shape c Opaque = Opaque
change_shape c (Variant ks) = Variant (map (change_constructor c) ks)
change_shape c (Labels ls) = Labels (map (change_label c) ls)

-- a type of its own becomes one of another path, or the type that stands in its place
abbrev pub own_after : Path → Option Typ → Definition
own_after o None = Own o
own_after o (Some t) = Is t

-- what a declaration stands for, after the change
abbrev pub change_definition : Change → Definition → Definition
change_definition c (Own o) = own_after (c.path o) (c.real o)
change_definition c (Is t) = Is (change c t)

-- a declaration after the change
abbrev pub change_declaration : Change → Declaration → Declaration
change_declaration c d = record { arity = d.arity; definition = change_definition c d.definition; shape = change_shape c d.shape }

-- a signature after the change; nothing is renamed to keep origins apart
abbrev mutual
  pub change_signature : Change → Signature → Signature
  change_signature c Hole = Hole
  change_signature c (Structure cs) = Structure (change_components c cs)
  change_signature c (Functor pm p bm b) = Functor (map c.path pm) (change_signature c p) (map c.path bm) (change_signature c b)

  -- components after the change, with their names and places as they were
  pub change_components : Change → Components → Components
  change_components c Done = Done
  change_components c (Component n at m cs) = Component n at (change_meaning c m) (change_components c cs)

  -- what a name of a component stands for, after the change
  pub change_meaning : Change → Meaning → Meaning
  change_meaning c (Value s) = Value (change_scheme c s)
  change_meaning c (TypeName d) = TypeName (change_declaration c d)
  change_meaning c (Exception o) = Exception (option_map (change c) o)
  change_meaning c (Module s) = Module (change_signature c s)
  change_meaning c (ModuleType made s) = ModuleType (map c.path made) (change_signature c s)

-- a number in front of the origins of a list
abbrev pub in_front : List Path → ℕ → Change
in_front made u = record { path = λ o. if among o made then u ∷ o else o; real = λ o. None }

-- types in place of some origins (Milner, Tofte, Harper and MacQueen 1997, The Definition of Standard ML, for realisations)
abbrev pub Realisation : Type 0
Realisation = Path → Option Typ

-- the change that puts a realisation's types in place of its origins and leaves every other path as it is
abbrev pub realised : Realisation → Change
realised r = record { path = λ o. o; real = r }
