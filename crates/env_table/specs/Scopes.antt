-- The scopes and the walks of the code, as the rules tell them.
use Rattle.std.specs.Prelude.{ℕ, ◌+◌, Bool, true, false, List, [], ◌∷◌, ◌++◌, Option, Some, None, if◌then◌else◌}
use Rattle.signature_model.specs.Declarations.{Name}
use Rattle.signature_model.specs.Entries.{module_kind}
use Rattle.signature_model.specs.Lookups.{ScopeOf, known, unknown_scope, no_scope, FoundAmong, an_entry, a_hole, nothing, scope_by, lookup_by}
use Rattle.env_table.specs.declared.entries.Entry.{Entry}
use Rattle.env_table.specs.declared.lookup.Scope.{Scope}
use Rattle.env_table.specs.declared.lookup.Scope.TheVariants as scope
use Rattle.env_table.specs.Views.{names_of, is_named, inside}

-- a scope of the code, as the rules have it
abbrev pub scope_view : Scope → ScopeOf Entry
scope_view (scope.Env env) = known env.now
scope_view (scope.Inside es) = known (names_of es)
scope_view scope.Unknown = unknown_scope
scope_view scope.Absent = no_scope

-- what is in scope in what a name comes to
abbrev pub scope_in : FoundAmong Entry → ScopeOf Entry
scope_in (an_entry e) = inside e
scope_in a_hole = unknown_scope
scope_in nothing = no_scope

-- whether a path led to no module, so that there is no scope
abbrev pub is_no_scope : ScopeOf Entry → Bool
is_no_scope (known env) = false
is_no_scope unknown_scope = false
is_no_scope no_scope = true

-- the place of the first of some names that leads to no module, behind the names of a path, where the first of them has this place
abbrev pub lost_behind : List Entry → List Name → ℕ → List Name → Option ℕ
lost_behind env path at [] = None
lost_behind env path at (m ∷ ms) =
    if is_no_scope (scope_by is_named inside env (path ++ m ∷ [])) then Some at else lost_behind env (path ++ m ∷ []) (at + 1) ms

-- what the last of some modules is, behind those before it
abbrev pub module_behind : List Entry → List Name → List Name → FoundAmong Entry
module_behind env path [] = nothing
module_behind env path (m ∷ []) = lookup_by is_named inside env path module_kind m
module_behind env path (m ∷ n ∷ ms) = module_behind env (path ++ m ∷ []) (n ∷ ms)

-- what each of some modules is, behind the names of a path and those before it
abbrev pub modules_along : List Entry → List Name → List Name → List (FoundAmong Entry)
modules_along env path [] = []
modules_along env path (m ∷ ms) = lookup_by is_named inside env path module_kind m ∷ modules_along env (path ++ m ∷ []) ms
