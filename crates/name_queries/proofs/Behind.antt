-- What stands behind the last of some modules.
use Rattle.std.proofs.Common.{◌≡◌, ◌==◌, List, [], ◌∷◌, ◌++◌, false, refl, ap, sym, ◌∙◌, Option, Some, None, append_assoc, length, map}
use Rattle.text_terms.specs.Bytes.{str_bytes}
use Rattle.text_terms.specs.declared.RcStr.{RcStr}
use Rattle.signature_model.specs.Declarations.{Name}
use Rattle.signature_model.specs.Entries.{module_kind}
use Rattle.signature_model.specs.Lookups.{ScopeOf, known, unknown_scope, no_scope, through, newest_by, scope_by, found_in, found, FoundAmong, an_entry, a_hole, nothing}
use Rattle.env_table.specs.declared.entries.Entry.{Entry}
use Rattle.env_table.specs.Views.{is_named, inside, module_scope}
use Rattle.env_table.specs.Scopes.{module_behind}
use Rattle.name_queries.specs.Environments.{known_names, names_behind}

-- ---- the scope behind one module more

itself : (s : ScopeOf Entry) → through s (λ inner. known inner) ≡ s
itself (known env) = refl
itself unknown_scope = refl
itself no_scope = refl

first_module : (r : Option Entry) → elim r as (λ x. ScopeOf Entry) [ None ↦ no_scope | Some e ↦ through (inside e) (λ inner. known inner) ] ≡ elim r as (λ x. ScopeOf Entry) [ None ↦ no_scope | Some e ↦ inside e ]
first_module None = refl
first_module (Some e) = itself (inside e)

behind : (s : ScopeOf Entry) (path : List Name) (m : Name) → ((env : List Entry) → scope_by is_named inside env (path ++ m ∷ []) ≡ through (scope_by is_named inside env path) (module_scope m))
    → through s (λ inner. scope_by is_named inside inner (path ++ m ∷ [])) ≡ through (through s (λ inner. scope_by is_named inside inner path)) (module_scope m)
behind (known env) path m h = h env
behind unknown_scope path m h = refl
behind no_scope path m h = refl

next_module : (r : Option Entry) (path : List Name) (m : Name) → ((env : List Entry) → scope_by is_named inside env (path ++ m ∷ []) ≡ through (scope_by is_named inside env path) (module_scope m))
    → elim r as (λ x. ScopeOf Entry) [ None ↦ no_scope | Some e ↦ through (inside e) (λ inner. scope_by is_named inside inner (path ++ m ∷ [])) ]
    ≡ through (elim r as (λ x. ScopeOf Entry) [ None ↦ no_scope | Some e ↦ through (inside e) (λ inner. scope_by is_named inside inner path) ]) (module_scope m)
next_module None path m h = refl
next_module (Some e) path m h = behind (inside e) path m h

scope_more : (path : List Name) (m : Name) (env : List Entry) → scope_by is_named inside env (path ++ m ∷ []) ≡ through (scope_by is_named inside env path) (module_scope m)
scope_more [] m env = first_module (newest_by (is_named module_kind m) env)
scope_more (n ∷ path) m env = next_module (newest_by (is_named module_kind n) env) path m (scope_more path m)

-- ---- the names behind modules, by what the last of them is

abbrev pub known_in : FoundAmong Entry → Option (List Entry)
known_in (an_entry e) = known_names (inside e)
known_in a_hole = Some []
known_in nothing = None

one_entry : (r : Option Entry) → known_names (elim r as (λ x. ScopeOf Entry) [ None ↦ no_scope | Some e ↦ inside e ]) ≡ known_in (found r)
one_entry None = refl
one_entry (Some e) = refl

one_module : (s : ScopeOf Entry) (m : Name) → known_names (through s (module_scope m)) ≡ known_in (found_in (is_named module_kind m) s)
one_module (known env) m = one_entry (newest_by (is_named module_kind m) env)
one_module unknown_scope m = refl
one_module no_scope m = refl

behind_all : (env : List Entry) (path : List Name) (m : Name) (ms : List Name) → known_names (scope_by is_named inside env (path ++ m ∷ ms)) ≡ known_in (module_behind env path (m ∷ ms))
behind_all env path m [] = ap known_names (scope_more path m env) ∙ one_module (scope_by is_named inside env path) m
behind_all env path m (n ∷ ns) = ap (λ (p : List Name). known_names (scope_by is_named inside env p)) (sym (append_assoc path (m ∷ []) (n ∷ ns))) ∙ behind_all env (path ++ m ∷ []) n ns

-- behind one module at least
pub names_at : (env : List Entry) (ms : List RcStr) → false ≡ (length ms == 0) → names_behind env (map str_bytes ms) ≡ known_in (module_behind env [] (map str_bytes ms))
names_at env [] h = cc
names_at env (m ∷ ms) h = behind_all env [] (str_bytes m) (map str_bytes ms)
