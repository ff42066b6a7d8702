-- Which component of a wanted signature is the one that fails, and why.
use Rattle.std.specs.Prelude.{ℕ, zero, suc, ◌+◌, ◌-◌, ◌==◌, nat_lt, List, [], ◌∷◌, Option, Some, None, option_map, if◌then◌else◌}
use Rattle.signature_model.specs.Declarations.{Name, Declaration}
use Rattle.signature_model.specs.Signatures.{Signature, Hole, Structure, Functor, Components, Done, Component, Meaning, Value, TypeName, Exception, Module, ModuleType}
use Rattle.signature_model.specs.Components.{newest, as_value, as_type, as_exception, as_module, as_module_type}
use Rattle.signature_model.specs.Matching.{components_in}

-- how many components there are, those of the modules among them included
abbrev mutual
  pub count_signature : Signature → ℕ
  count_signature Hole = 0
  count_signature (Structure cs) = count cs
  count_signature (Functor pm p bm b) = 0

  -- how many components these are
  pub count : Components → ℕ
  count Done = 0
  count (Component n at m cs) = suc (count_within m + count cs)

  -- how many components stand in a component
  pub count_within : Meaning → ℕ
  count_within (Value s) = 0
  count_within (TypeName d) = 0
  count_within (Exception o) = 0
  count_within (Module s) = count_signature s
  count_within (ModuleType made s) = 0

-- the first components, so many of them; a module comes before what is in it
abbrev mutual
  pub first_in : ℕ → Signature → Signature
  first_in m Hole = Hole
  first_in m (Structure cs) = Structure (first m cs)
  first_in m (Functor pm p bm b) = Functor pm p bm b

  -- the first of several components, so many of them
  pub first : ℕ → Components → Components
  first m Done = Done
  first zero (Component n at what cs) = Done
  first (suc m) (Component n at what cs) = Component n at (first_within m what) (first (m - count_within what) cs)

  -- a component with the first ones of its module, so many of them; one that is no module stays whole
  pub first_within : ℕ → Meaning → Meaning
  first_within m (Value s) = Value s
  first_within m (TypeName d) = TypeName d
  first_within m (Exception o) = Exception o
  first_within m (Module s) = Module (first_in m s)
  first_within m (ModuleType made s) = ModuleType made s

-- why a component fails: it is absent, it is a type with another number of parameters, or it differs
pub data Cause : Type 0 where
  Absent : Cause
  TypeArity : Cause
  TypeDiffers : Cause
  ValueDiffers : Cause
  ExceptionDiffers : Cause
  KindDiffers : Cause
  ModuleTypeDiffers : Cause

-- a path of names from the signature inward, and the cause
pub record Blame : Type 0 where
  pub path : List Name
  pub cause : Cause

-- a path of names with the cause at its end
abbrev pub blame : List Name → Cause → Blame
blame path cause = record { path = path; cause = cause }

-- the cause where a component is there and fails, or else its absence
abbrev pub unless_absent : {A : Type 0} → Cause → Option A → Cause
unless_absent c None = Absent
unless_absent c (Some a) = c

-- why a wanted type fails: it is absent, has another number of parameters, or differs
abbrev pub type_cause : Declaration → Option Declaration → Cause
type_cause wanted None = Absent
type_cause wanted (Some a) = if a.arity == wanted.arity then TypeDiffers else TypeArity

-- why a component of this name fails itself
abbrev pub cause_of : Components → Name → Meaning → Cause
cause_of A n (Value s) = unless_absent ValueDiffers (newest as_value n A)
cause_of A n (TypeName d) = type_cause d (newest as_type n A)
cause_of A n (Exception o) = unless_absent ExceptionDiffers (newest as_exception n A)
cause_of A n (Module s) = unless_absent KindDiffers (newest as_module n A)
cause_of A n (ModuleType made s) = unless_absent ModuleTypeDiffers (newest as_module_type n A)

-- one name more in front of a path
abbrev pub inside : Name → Blame → Blame
inside n b = blame (n ∷ b.path) b.cause

-- the path and the cause where the component of this number, counted from 0, is the one that fails
abbrev mutual
  pub blamed_in : ℕ → Components → Signature → Option Blame
  blamed_in m A Hole = None
  blamed_in m A (Structure W) = blamed m A W
  blamed_in m A (Functor pm p bm b) = None

  -- the same among wanted components
  pub blamed : ℕ → Components → Components → Option Blame
  blamed m A Done = None
  blamed zero A (Component n at what W) = Some (blame (n ∷ []) (cause_of A n what))
  blamed (suc m) A (Component n at what W) = if nat_lt m (count_within what) then option_map (inside n) (blamed_within m A n what) else blamed (m - count_within what) A W

  -- the same within a wanted component, where it is a module
  pub blamed_within : ℕ → Components → Name → Meaning → Option Blame
  blamed_within m A n (Value s) = None
  blamed_within m A n (TypeName d) = None
  blamed_within m A n (Exception o) = None
  blamed_within m A n (Module s) = blamed_in m (components_in (newest as_module n A)) s
  blamed_within m A n (ModuleType made s) = None
