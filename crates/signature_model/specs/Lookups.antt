-- What a name stands for in an environment (OCaml manual, 11.3). The rules are stated over any entries that have a kind and a name, and of which some are modules.
use Rattle.std.specs.Prelude.{Bool, true, false, ◌&&◌, List, [], ◌∷◌, Option, Some, None, if◌then◌else◌}
use Rattle.signature_model.specs.Declarations.{Name}
use Rattle.signature_model.specs.Signatures.{Signature, Hole, Structure, Functor}
use Rattle.signature_model.specs.Components.{same_name}
use Rattle.signature_model.specs.Entries.{Kind, value_kind, constructor_kind, label_kind, type_kind, module_kind, module_type_kind, Referent, a_value, a_constructor, an_exception, a_label, a_type, a_module, a_module_type, Entry, Environment, kind_of, scope_of}

-- whether two kinds are the same
abbrev pub same_kind : Kind → Kind → Bool
same_kind value_kind value_kind = true
same_kind constructor_kind constructor_kind = true
same_kind label_kind label_kind = true
same_kind type_kind type_kind = true
same_kind module_kind module_kind = true
same_kind module_type_kind module_type_kind = true
same_kind _ _ = false

-- what a name comes to: an entry, something in a module that isn't known, or nothing
pub data FoundAmong (E : Type 0) : Type 0 where
  an_entry : E → FoundAmong E
  a_hole : FoundAmong E
  nothing : FoundAmong E

-- the names that stand in scope inside a module, the newest first, if they are known
pub data ScopeOf (E : Type 0) : Type 0 where
  known : List E → ScopeOf E
  unknown_scope : ScopeOf E
  no_scope : ScopeOf E

-- the newest entry that a test holds of
abbrev pub newest_by : {E : Type 0} → (E → Bool) → List E → Option E
newest_by test [] = None
newest_by test (e ∷ env) = if test e then Some e else newest_by test env

-- what a search comes to: the entry, or nothing
abbrev pub found : {E : Type 0} → Option E → FoundAmong E
found None = nothing
found (Some e) = an_entry e

-- what the newest entry in a scope that a test holds of comes to
abbrev pub found_in : {E : Type 0} → (E → Bool) → ScopeOf E → FoundAmong E
found_in test (known env) = found (newest_by test env)
found_in test unknown_scope = a_hole
found_in test no_scope = nothing

-- what a scope comes to behind a function of the names in it
abbrev pub through : {E : Type 0} → ScopeOf E → (List E → ScopeOf E) → ScopeOf E
through (known env) go = go env
through unknown_scope go = unknown_scope
through no_scope go = no_scope

-- the scope behind a path of modules: the newest module of each name in turn; `inside` is what stands in scope in an entry
abbrev pub scope_by : {E : Type 0} → (Kind → Name → E → Bool) → (E → ScopeOf E) → List E → List Name → ScopeOf E
scope_by is_named inside env [] = known env
scope_by is_named inside env (m ∷ ms) =
    elim (newest_by (is_named module_kind m) env) [ None ↦ no_scope | Some e ↦ through (inside e) (λ inner. scope_by is_named inside inner ms) ]

-- the newest entry of a kind and a name behind a path of modules
abbrev pub lookup_by : {E : Type 0} → (Kind → Name → E → Bool) → (E → ScopeOf E) → List E → List Name → Kind → Name → FoundAmong E
lookup_by is_named inside env path k n = found_in (is_named k n) (scope_by is_named inside env path)

-- the same for the entries of an environment

-- what a name comes to in an environment
abbrev pub Found : Type 0
Found = FoundAmong Entry

-- what stands in scope inside a module, as entries of an environment
abbrev pub Scope : Type 0
Scope = ScopeOf Entry

-- whether an entry has this kind and this name
abbrev pub is_named : Kind → Name → Entry → Bool
is_named k n e = same_kind k (kind_of e.stands_for) && same_name n e.name

-- the newest entry of a kind and a name
abbrev pub newest_entry : Kind → Name → Environment → Option Entry
newest_entry k n env = newest_by (is_named k n) env

-- what is in scope in a module with this signature; in a functor nothing is
abbrev pub inside_signature : Signature → Scope
inside_signature Hole = unknown_scope
inside_signature (Structure cs) = known (scope_of (Structure cs))
inside_signature (Functor pm p bm b) = known []

-- what is in scope in what a name stands for: only a module has a scope
abbrev pub inside_referent : Referent → Scope
inside_referent (a_value s) = no_scope
inside_referent (a_constructor d k) = no_scope
inside_referent (an_exception o) = no_scope
inside_referent (a_label d l) = no_scope
inside_referent (a_type d) = no_scope
inside_referent (a_module s) = inside_signature s
inside_referent (a_module_type t) = no_scope

-- what is in scope in an entry
abbrev pub inside : Entry → Scope
inside e = inside_referent e.stands_for

-- the scope behind a path of modules in an environment
abbrev pub scope_behind : Environment → List Name → Scope
scope_behind env path = scope_by is_named inside env path

-- what a path of modules with a name of a kind behind it finds in an environment
abbrev pub lookup : Environment → List Name → Kind → Name → Found
lookup env path k n = lookup_by is_named inside env path k n
