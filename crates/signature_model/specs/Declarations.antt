-- Declarations of types, constructors and labels (OCaml manual, 11.8).
use Rattle.std.specs.Prelude.{ℕ, zero, suc, ◌+◌, ◌^◌, Bool, List, ◌∷◌, Option}
use Rattle.tree_model.specs.Trees as tree
use Rattle.type_model.specs.Types.{Path, Typ, Typs, Var, Con, Nil, Cons}

-- a name, as its bytes
abbrev pub Name : Type 0
Name = List ℕ

-- where a name is defined: at a span of the text, at one of the prelude, or as the built-in type of this number
pub data Place : Type 0 where
  in_text : tree.Place → Place
  in_prelude : tree.Place → Place
  built_in : ℕ → Place

-- what a declaration stands for; its parameters are the variables 0, 1 and so on
pub data Definition : Type 0 where
  -- a type of its own
  Own : Path → Definition
  -- another type
  Is : Typ → Definition

-- A, A of t
pub record Constructor : Type 0 where
  pub name : Name
  pub place : Place
  pub argument : Option Typ

-- l : t, mutable l : t
pub record Label : Type 0 where
  pub name : Name
  pub place : Place
  pub is_mutable : Bool
  pub body : Typ

-- what a declaration tells of its values: nothing, its constructors, or its labels
pub data Shape : Type 0 where
  Opaque : Shape
  Variant : List Constructor → Shape
  Labels : List Label → Shape

-- a declaration: how many parameters it has, what it stands for, and what it tells of its values
pub record Declaration : Type 0 where
  pub arity : ℕ
  pub definition : Definition
  pub shape : Shape

-- the variables k, k + 1 and so on, as many as are wanted
abbrev pub parameters_from : ℕ → ℕ → Typs
parameters_from k zero = Nil
parameters_from k (suc n) = Cons (Var k) (parameters_from (k + 1) n)

-- what a definition is as a type over so many parameters
abbrev pub defined_type : ℕ → Definition → Typ
defined_type arity (Own o) = Con o (parameters_from 0 arity)
defined_type arity (Is t) = t

-- the type that a declaration defines, over its parameters
abbrev pub type_of : Declaration → Typ
type_of d = defined_type d.arity d.definition

-- an unknown type, as a constructor whose path no origin has; `o` tells it from others
abbrev pub unknown : Path → Typ
unknown o = Con ((2 ^ 64 + 1) ∷ o) Nil
