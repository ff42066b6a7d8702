-- What a substitution makes of schemes, signatures and environments. It is told by the instances of schemes, so that no variable is renamed to keep others apart (Damas and Milner 1982, section 5).
use Rattle.std.specs.Prelude.{◌≡◌, ℕ, Bool, true, false, ◌||◌, List, [], ◌∷◌, Option}
use Rattle.type_model.specs.Types.{Path, Typ, Var, occurs}
use Rattle.type_model.specs.Substitutions.{Subst, apply}
use Rattle.type_model.specs.Schemes.{Scheme, free_in_scheme, HasInstance}
use Rattle.signature_model.specs.Declarations.{Name, Place, Declaration, Constructor, Label}
use Rattle.signature_model.specs.Signatures.{Signature, Hole, Structure, Functor, Components, Done, Component, Meaning, Value, TypeName, Exception, Module, ModuleType, Template}
use Rattle.signature_model.specs.Entries.{Referent, a_value, a_constructor, an_exception, a_label, a_type, a_module, a_module_type, entry, Environment, free_in}
use Rattle.typing_model.specs.Contexts.{occurs_in}

-- an instance of s of a scheme: s at the variables that are free in it, any types at its own
abbrev pub HasInstanceUnder : Subst → Scheme → Typ → Type 0
HasInstanceUnder s sc x = (r : Subst) × ((v : ℕ) → free_in_scheme v sc ≡ true → r v ≡ s v) × (x ≡ apply r sc.body)

-- a scheme is s of another where its instances are those of s of it
pub record IsSchemeUnder (s : Subst) (before behind : Scheme) : Type 0 where
  pub each : (x : Typ) → HasInstance behind x → HasInstanceUnder s before x
  pub all : (x : Typ) → HasInstanceUnder s before x → HasInstance behind x

-- a signature is s of another where its values' schemes are those of the other, and all else is the same: no variable is free in it
mutual
  pub data IsSignatureUnder (s : Subst) : Signature → Signature → Type 0 where
    of_hole : IsSignatureUnder s Hole Hole
    of_structure : {A B : Components} → AreUnder s A B → IsSignatureUnder s (Structure A) (Structure B)
    of_functor : {pm bm : List Path} {P Q B C : Signature} → IsSignatureUnder s P Q → IsSignatureUnder s B C → IsSignatureUnder s (Functor pm P bm B) (Functor pm Q bm C)

  -- the same of components, one by one
  pub data AreUnder (s : Subst) : Components → Components → Type 0 where
    no_components : AreUnder s Done Done
    component : {n : Name} {at : Place} {m k : Meaning} {A B : Components} → IsMeaningUnder s m k → AreUnder s A B → AreUnder s (Component n at m A) (Component n at k B)

  -- the same of what a component stands for
  pub data IsMeaningUnder (s : Subst) : Meaning → Meaning → Type 0 where
    of_value : {before behind : Scheme} → IsSchemeUnder s before behind → IsMeaningUnder s (Value before) (Value behind)
    of_type : {d : Declaration} → IsMeaningUnder s (TypeName d) (TypeName d)
    of_exception : {o : Option Typ} → IsMeaningUnder s (Exception o) (Exception o)
    of_module : {S T : Signature} → IsSignatureUnder s S T → IsMeaningUnder s (Module S) (Module T)
    of_module_type : {made : List Path} {S : Signature} → IsMeaningUnder s (ModuleType made S) (ModuleType made S)

-- what a name stands for is s of what it stood for
pub data IsReferentUnder (s : Subst) : Referent → Referent → Type 0 where
  value : {before behind : Scheme} → IsSchemeUnder s before behind → IsReferentUnder s (a_value before) (a_value behind)
  constructor : {d : Declaration} {k : Constructor} → IsReferentUnder s (a_constructor d k) (a_constructor d k)
  exception : {o : Option Typ} → IsReferentUnder s (an_exception o) (an_exception o)
  label : {d : Declaration} {l : Label} → IsReferentUnder s (a_label d l) (a_label d l)
  type_name : {d : Declaration} → IsReferentUnder s (a_type d) (a_type d)
  module_name : {S T : Signature} → IsSignatureUnder s S T → IsReferentUnder s (a_module S) (a_module T)
  module_type : {t : Template} → IsReferentUnder s (a_module_type t) (a_module_type t)

-- an environment is s of another where each name stands for s of what it stood for
pub data IsUnder (s : Subst) : Environment → Environment → Type 0 where
  no_names : IsUnder s [] []
  newest : {n : Name} {at : Place} {r q : Referent} {E F : Environment} → IsReferentUnder s r q → IsUnder s E F → IsUnder s (entry n at r ∷ E) (entry n at q ∷ F)

-- whether generalising in an environment, with types held, leaves a variable free
abbrev pub stays_free : Environment → List Typ → ℕ → Bool
stays_free env held v = free_in v env || occurs_in v held

-- a substitution changes only variables that generalising a type leaves free, and puts in none that it binds
pub record IsApart (env : Environment) (held : List Typ) (t : Typ) (s : Subst) : Type 0 where
  pub changes : (v : ℕ) → stays_free env held v ≡ false → s v ≡ Var v
  pub puts : (v w : ℕ) → stays_free env held v ≡ true → occurs w (s v) ≡ true → occurs w t ≡ true → stays_free env held w ≡ true
