-- Environments in which the names of types and of modules have one byte for each character.
use Rattle.std.specs.Prelude.{ℕ, nat_lt, Bool, true, ◌&&◌, List, [], ◌∷◌}
use Rattle.std.specs.List.{list_all}
use Rattle.signature_model.specs.Declarations.{Name}
use Rattle.signature_model.specs.Signatures.{Signature, Hole, Structure, Functor, Components, Done, Component, Meaning, Value, TypeName, Exception, Module, ModuleType}
use Rattle.signature_model.specs.Entries.{Referent, a_value, a_constructor, an_exception, a_label, a_type, a_module, a_module_type, Environment}

-- whether each character has one byte
abbrev pub is_ascii : List ℕ → Bool
is_ascii bs = list_all (λ b. nat_lt b 128) bs

-- whether the names of the types and modules in a signature are such, those in its modules included; in a functor nothing is named
abbrev mutual
  pub signature_ascii : Signature → Bool
  signature_ascii Hole = true
  signature_ascii (Structure cs) = components_ascii cs
  signature_ascii (Functor pm p bm b) = true

  -- the same of components
  pub components_ascii : Components → Bool
  components_ascii Done = true
  components_ascii (Component n at m cs) = meaning_ascii n m && components_ascii cs

  -- the same of a component by its name and what it stands for
  pub meaning_ascii : Name → Meaning → Bool
  meaning_ascii n (Value s) = true
  meaning_ascii n (TypeName d) = is_ascii n
  meaning_ascii n (Exception o) = true
  meaning_ascii n (Module s) = is_ascii n && signature_ascii s
  meaning_ascii n (ModuleType made s) = true

-- the same of a name in scope and what it stands for
abbrev pub referent_ascii : Name → Referent → Bool
referent_ascii n (a_value s) = true
referent_ascii n (a_constructor d k) = true
referent_ascii n (an_exception o) = true
referent_ascii n (a_label d l) = true
referent_ascii n (a_type d) = is_ascii n
referent_ascii n (a_module s) = is_ascii n && signature_ascii s
referent_ascii n (a_module_type t) = true

-- whether the names of the types and modules in an environment are such
abbrev pub names_ascii : Environment → Bool
names_ascii [] = true
names_ascii (e ∷ es) = referent_ascii e.name e.stands_for && names_ascii es
