-- Signatures and templates (OCaml manual, 11.10; Leroy 1994, Manifest types, modules, and separate compilation).
use Rattle.std.specs.Prelude.{List, Option}
use Rattle.type_model.specs.Types.{Path, Typ}
use Rattle.type_model.specs.Schemes.{Scheme}
use Rattle.signature_model.specs.Declarations.{Name, Place, Declaration}

mutual
  -- a signature: what is known of a module
  pub data Signature : Type 0 where
    -- of a module that isn't known
    Hole : Signature
    -- sig .. end
    Structure : Components → Signature
    -- functor (X : P) -> B: the origins that the parameter makes, the parameter, the origins that the body makes, the body
    Functor : List Path → Signature → List Path → Signature → Signature

  -- components in order, each with its name and where it is defined
  pub data Components : Type 0 where
    Done : Components
    Component : Name → Place → Meaning → Components → Components

  -- what a name of a component stands for
  pub data Meaning : Type 0 where
    -- val x : t
    Value : Scheme → Meaning
    -- type t, type t = ..
    TypeName : Declaration → Meaning
    -- exception A, exception A of t
    Exception : Option Typ → Meaning
    -- module M : S
    Module : Signature → Meaning
    -- module type S = T: the origins that it makes, and the signature
    ModuleType : List Path → Signature → Meaning

-- a signature with the origins that it makes anew at each place where it is used
pub record Template : Type 0 where
  pub made : List Path
  pub signature : Signature

-- the template of a signature and the origins that it makes
abbrev pub template : List Path → Signature → Template
template made s = record { made = made; signature = s }

-- the components of a structure; a hole and a functor have none
abbrev pub components_of : Signature → Components
components_of Hole = Done
components_of (Structure cs) = cs
components_of (Functor pm p bm b) = Done
