-- Environments: the names in scope, newest first (OCaml manual, 11.3; Damas and Milner 1982, for the variables that are free in assumptions).
use Rattle.std.specs.Prelude.{ℕ, Bool, false, ◌||◌, List, [], ◌∷◌, ◌++◌, map, reverse, Option}
use Rattle.type_model.specs.Types.{Typ}
use Rattle.type_model.specs.Schemes.{Scheme, free_in_scheme}
use Rattle.signature_model.specs.Declarations.{Name, Place, Constructor, Label, Shape, Opaque, Variant, Labels, Declaration}
use Rattle.signature_model.specs.Signatures.{Signature, Hole, Structure, Functor, Components, Done, Component, Meaning, Value, TypeName, Exception, Module, ModuleType, Template, template}

-- the kinds of names
pub data Kind : Type 0 where
  value_kind : Kind
  constructor_kind : Kind
  label_kind : Kind
  type_kind : Kind
  module_kind : Kind
  module_type_kind : Kind

-- what a name in scope stands for
pub data Referent : Type 0 where
  -- x
  a_value : Scheme → Referent
  -- A, of this declaration
  a_constructor : Declaration → Constructor → Referent
  -- A, an exception
  an_exception : Option Typ → Referent
  -- l, of this declaration
  a_label : Declaration → Label → Referent
  -- t
  a_type : Declaration → Referent
  -- M
  a_module : Signature → Referent
  -- S
  a_module_type : Template → Referent

-- a name, where it is defined, and what it stands for
pub record Entry : Type 0 where
  pub name : Name
  pub place : Place
  pub stands_for : Referent

-- the entry of a name that is defined at a place and stands for this
abbrev pub entry : Name → Place → Referent → Entry
entry n at r = record { name = n; place = at; stands_for = r }

-- the names in scope, newest first
abbrev pub Environment : Type 0
Environment = List Entry

-- the kind of a name that stands for this; an exception is a constructor
abbrev pub kind_of : Referent → Kind
kind_of (a_value s) = value_kind
kind_of (a_constructor d k) = constructor_kind
kind_of (an_exception o) = constructor_kind
kind_of (a_label d l) = label_kind
kind_of (a_type d) = type_kind
kind_of (a_module s) = module_kind
kind_of (a_module_type t) = module_type_kind

-- the entries of a declaration's constructors or labels, in order
abbrev pub entries_of_shape : Declaration → Shape → List Entry
entries_of_shape d Opaque = []
entries_of_shape d (Variant ks) = map (λ k. entry k.name k.place (a_constructor d k)) ks
entries_of_shape d (Labels ls) = map (λ l. entry l.name l.place (a_label d l)) ls

-- the entries of one component, in order: a type's name stands before its constructors or labels
abbrev pub entries_of : Name → Place → Meaning → List Entry
entries_of n at (Value s) = entry n at (a_value s) ∷ []
entries_of n at (TypeName d) = entry n at (a_type d) ∷ entries_of_shape d d.shape
entries_of n at (Exception o) = entry n at (an_exception o) ∷ []
entries_of n at (Module s) = entry n at (a_module s) ∷ []
entries_of n at (ModuleType made s) = entry n at (a_module_type (template made s)) ∷ []

-- the entries of components, in order
abbrev pub entries_in : Components → List Entry
entries_in Done = []
entries_in (Component n at m cs) = entries_of n at m ++ entries_in cs

-- what stands in scope inside a module; in a hole and in a functor nothing does
abbrev pub scope_of : Signature → Environment
scope_of Hole = []
scope_of (Structure cs) = reverse (entries_in cs)
scope_of (Functor pm p bm b) = []

-- the environment behind `open` of a module with this signature (OCaml manual, 11.11.2)
abbrev pub opened : Signature → Environment → Environment
opened s env = scope_of s ++ env

-- whether a variable is free in the schemes of the values of a signature, those of its modules and of its functors' bodies included
abbrev mutual
  pub free_in_signature : ℕ → Signature → Bool
  free_in_signature v Hole = false
  free_in_signature v (Structure cs) = free_in_components v cs
  free_in_signature v (Functor pm p bm b) = free_in_signature v p || free_in_signature v b

  -- whether it is free in one of several components
  pub free_in_components : ℕ → Components → Bool
  free_in_components v Done = false
  free_in_components v (Component n at m cs) = free_in_meaning v m || free_in_components v cs

  -- whether it is free in what a component stands for
  pub free_in_meaning : ℕ → Meaning → Bool
  free_in_meaning v (Value s) = free_in_scheme v s
  free_in_meaning v (TypeName d) = false
  free_in_meaning v (Exception o) = false
  free_in_meaning v (Module s) = free_in_signature v s
  free_in_meaning v (ModuleType made s) = false

-- whether a variable is free in what a name in scope stands for
abbrev pub free_in_referent : ℕ → Referent → Bool
free_in_referent v (a_value s) = free_in_scheme v s
free_in_referent v (a_constructor d k) = false
free_in_referent v (an_exception o) = false
free_in_referent v (a_label d l) = false
free_in_referent v (a_type d) = false
free_in_referent v (a_module s) = free_in_signature v s
free_in_referent v (a_module_type t) = false

-- whether a variable is free in an environment
abbrev pub free_in : ℕ → Environment → Bool
free_in v [] = false
free_in v (e ∷ env) = free_in_referent v e.stands_for || free_in v env
