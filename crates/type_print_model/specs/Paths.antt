-- The path by which a type is named: the shortest one that reaches its origin, and of these the newest (OCaml manual, 11.3 for paths; "Batch compilation (ocamlc)", option -short-paths, for the shortest). Stated over any entries of which some make an origin.
use Rattle.std.specs.Prelude.{◌≡◌, ℕ, suc, ◌+◌, ◌<◌, ◌⊎◌, Bool, length, List, [], ◌∷◌, ◌++◌, codes, Option, Some, None, if◌then◌else◌}
use Rattle.type_model.specs.Types.{Path}
use Rattle.signature_model.specs.Declarations.{Name, Definition, Own, Is}
use Rattle.signature_model.specs.Entries.{Kind, type_kind, module_kind, Referent, a_value, a_constructor, an_exception, a_label, a_type, a_module, a_module_type, Entry}
use Rattle.signature_model.specs.Lookups.{an_entry, ScopeOf, known, unknown_scope, no_scope, scope_by, lookup_by, is_named, inside}

-- a path of names: the modules, and the last name
pub record NamePath : Type 0 where
  pub modules : List Name
  pub name : Name

-- what the entries of an environment are for this: their names, what is in scope in them, and the origin that they make, where they are such a declaration
pub record Naming (E : Type 0) : Type 0 where
  pub is_named : Kind → Name → E → Bool
  pub inside : E → ScopeOf E
  pub makes : E → Option Path

-- a path reaches the type of an origin where it finds the declaration that makes it; one that is another type names no origin
pub record Reaches {E : Type 0} (N : Naming E) (env : List E) (o : Path) (p : NamePath) : Type 0 where
  pub entry : E
  pub found : lookup_by N.is_named N.inside env p.modules type_kind p.name ≡ an_entry entry
  pub makes : N.makes entry ≡ Some o

-- how many names a path has
abbrev pub length_of : NamePath → ℕ
length_of p = length p.modules + 1

-- how many entries are newer than the newest that a test holds of
abbrev pub age : {E : Type 0} → (E → Bool) → List E → ℕ
age test [] = 0
age test (e ∷ env) = if test e then 0 else suc (age test env)

-- the same in a scope; in one that isn't known or isn't there it is 0
abbrev pub age_in : {E : Type 0} → (E → Bool) → ScopeOf E → ℕ
age_in test (known env) = age test env
age_in test unknown_scope = 0
age_in test no_scope = 0

-- the ages of what a path names, from the outermost module inward
abbrev pub ages : {E : Type 0} → Naming E → List E → List Name → List Name → Name → List ℕ
ages N env outer [] n = age_in (N.is_named type_kind n) (scope_by N.is_named N.inside env outer) ∷ []
ages N env outer (m ∷ ms) n = age_in (N.is_named module_kind m) (scope_by N.is_named N.inside env outer) ∷ ages N env (outer ++ m ∷ []) ms n

-- the ages of what a path of names reaches
abbrev pub ages_of : {E : Type 0} → Naming E → List E → NamePath → List ℕ
ages_of N env p = ages N env [] p.modules p.name

-- the first of two lists of ages is newer where it is less at the first place at which they differ
abbrev pub IsNewer : List ℕ → List ℕ → Type 0
IsNewer [] js = ⊥
IsNewer (i ∷ is) [] = ⊥
IsNewer (i ∷ is) (j ∷ js) = (i < j) ⊎ ((i ≡ j) × IsNewer is js)

-- one path goes before another: it is shorter, or as long and newer
abbrev pub GoesBefore : {E : Type 0} → Naming E → List E → NamePath → NamePath → Type 0
GoesBefore N env p q = (length_of p < length_of q) ⊎ ((length_of p ≡ length_of q) × IsNewer (ages_of N env p) (ages_of N env q))

-- the path by which the type of an origin is named
pub record IsShown {E : Type 0} (N : Naming E) (env : List E) (o : Path) (p : NamePath) : Type 0 where
  pub reaches : Reaches N env o p
  pub first : (q : NamePath) → Reaches N env o q → GoesBefore N env q p → ⊥

-- names with points between them
abbrev pub dotted : List Name → Name → List ℕ
dotted [] n = n
dotted (m ∷ ms) n = m ++ codes "." ++ dotted ms n

-- the text of a path of names
abbrev pub spelled : NamePath → List ℕ
spelled p = dotted p.modules p.name

-- the name of an origin: by its path, or, where no path reaches it, the name that its declaration gives it and a mark
pub data IsNameOf {E : Type 0} (N : Naming E) (env : List E) (declared : Path → Name) (o : Path) : List ℕ → Type 0 where
  shown : {p : NamePath} → IsShown N env o p → IsNameOf N env declared o (spelled p)
  hidden : ((p : NamePath) → Reaches N env o p → ⊥) → IsNameOf N env declared o (declared o ++ codes "/hidden")

-- the origin that a definition makes, where it is a type of its own
abbrev pub own_origin : Definition → Option Path
own_origin (Own o) = Some o
own_origin (Is t) = None

-- the origin that a name in scope makes: that of a type of its own
abbrev pub origin_made : Referent → Option Path
origin_made (a_value s) = None
origin_made (a_constructor d k) = None
origin_made (an_exception o) = None
origin_made (a_label d l) = None
origin_made (a_type d) = own_origin d.definition
origin_made (a_module s) = None
origin_made (a_module_type t) = None

-- the naming of the entries of an environment
abbrev pub naming : Naming Entry
naming = record { is_named = is_named; inside = inside; makes = λ e. origin_made e.stands_for }
