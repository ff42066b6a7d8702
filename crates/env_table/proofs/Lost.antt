-- Scopes behind one module more.
use Rattle.std.proofs.Common.{◌≡◌, ℕ, ◌+◌, List, [], ◌∷◌, ◌++◌, true, false, refl, ◌∙◌, Option, Some, None, append_assoc, ◌<◌, length, get_or, take, drop, map}
use Rattle.std.proofs.lemmas.List.{append-nil, take_more, drop_more, map-append}
use Rattle.text_terms.specs.declared.RcStr.{RcStr}
use Rattle.text_terms.specs.Bytes.{str_bytes}
use Rattle.signature_model.specs.Declarations.{Name}
use Rattle.signature_model.specs.Entries.{module_kind}
use Rattle.signature_model.specs.Lookups.{FoundAmong, ScopeOf, known, unknown_scope, no_scope, found, found_in, through, newest_by, scope_by, lookup_by}
use Rattle.env_table.specs.declared.entries.Entry.{Entry}
use Rattle.env_table.specs.Views.{is_named, inside, module_scope}
use Rattle.env_table.specs.Scopes.{module_behind, modules_along, lost_behind, is_no_scope, scope_in}

itself : (s : ScopeOf Entry) → through s (λ inner. known inner) ≡ s
itself (known env) = refl
itself unknown_scope = refl
itself no_scope = refl

first_module : (r : Option Entry) → elim r as (λ x. ScopeOf Entry) [ None ↦ no_scope | Some e ↦ through (inside e) (λ inner. known inner) ] ≡ elim r as (λ x. ScopeOf Entry) [ None ↦ no_scope | Some e ↦ inside e ]
first_module None = refl
first_module (Some e) = itself (inside e)

behind : (s : ScopeOf Entry) (path : List Name) (m : Name) → ((env : List Entry) → scope_by is_named inside env (path ++ m ∷ []) ≡ through (scope_by is_named inside env path) (module_scope m))
    → through s (λ inner. scope_by is_named inside inner (path ++ m ∷ [])) ≡ through (through s (λ inner. scope_by is_named inside inner path)) (module_scope m)
behind (known env) path m h = h env
behind unknown_scope path m h = refl
behind no_scope path m h = refl

next_module : (r : Option Entry) (path : List Name) (m : Name) → ((env : List Entry) → scope_by is_named inside env (path ++ m ∷ []) ≡ through (scope_by is_named inside env path) (module_scope m))
    → elim r as (λ x. ScopeOf Entry) [ None ↦ no_scope | Some e ↦ through (inside e) (λ inner. scope_by is_named inside inner (path ++ m ∷ [])) ]
    ≡ through (elim r as (λ x. ScopeOf Entry) [ None ↦ no_scope | Some e ↦ through (inside e) (λ inner. scope_by is_named inside inner path) ]) (module_scope m)
next_module None path m h = refl
next_module (Some e) path m h = behind (inside e) path m h

pub scope_more : (path : List Name) (m : Name) (env : List Entry) → scope_by is_named inside env (path ++ m ∷ []) ≡ through (scope_by is_named inside env path) (module_scope m)
scope_more [] m env = first_module (newest_by (is_named module_kind m) env)
scope_more (n ∷ path) m env = next_module (newest_by (is_named module_kind n) env) path m (scope_more path m)

taken : (ms : List RcStr) (i : ℕ) (r : RcStr) → i < length ms → r ≡ get_or ms i r → map str_bytes (take (i + 1) ms) ≡ map str_bytes (take i ms) ++ str_bytes r ∷ []
taken ms i r h is = rw (take_more ms i r h, map-append, ← is)

left : (ms : List RcStr) (i : ℕ) (r : RcStr) → i < length ms → r ≡ get_or ms i r → map str_bytes (drop i ms) ≡ str_bytes r ∷ map str_bytes (drop (i + 1) ms)
left ms i r h is = rw (drop_more ms i r h, ← is)

-- the scope behind one module more
pub scope_on : (env : List Entry) (ms : List RcStr) (i : ℕ) (r : RcStr) (s : ScopeOf Entry) → i < length ms → r ≡ get_or ms i r → s ≡ scope_by is_named inside env (map str_bytes (take i ms))
    → through s (module_scope (str_bytes r)) ≡ scope_by is_named inside env (map str_bytes (take (i + 1) ms))
scope_on env ms i r s h is e = rw (taken ms i r h is, scope_more (map str_bytes (take i ms)) (str_bytes r) env, e)

-- where it is none, its place is the one
pub lost_here : (env : List Entry) (ms : List RcStr) (i : ℕ) (r : RcStr) → i < length ms → r ≡ get_or ms i r → is_no_scope (scope_by is_named inside env (map str_bytes (take (i + 1) ms))) ≡ true
    → lost_behind env (map str_bytes (take i ms)) i (map str_bytes (drop i ms)) ≡ Some i
lost_here env ms i r h is e = rw (left ms i r h is, ← taken ms i r h is, e)

-- and where there is one, the place is among those behind
pub lost_later : (env : List Entry) (ms : List RcStr) (i : ℕ) (r : RcStr) → i < length ms → r ≡ get_or ms i r → is_no_scope (scope_by is_named inside env (map str_bytes (take (i + 1) ms))) ≡ false
    → lost_behind env (map str_bytes (take i ms)) i (map str_bytes (drop i ms)) ≡ lost_behind env (map str_bytes (take (i + 1) ms)) (i + 1) (map str_bytes (drop (i + 1) ms))
lost_later env ms i r h is e = rw (left ms i r h is, ← taken ms i r h is, e)

pub last_behind : (env : List Entry) (path outer : List Name) (m : Name) → module_behind env path (outer ++ m ∷ []) ≡ lookup_by is_named inside env (path ++ outer) module_kind m
last_behind env path [] m = rw (append-nil path)
last_behind env path (o ∷ []) m = refl
last_behind env path (o ∷ p ∷ outer) m = last_behind env (path ++ o ∷ []) (p ∷ outer) m ∙ rw append_assoc

found_scope : (r : Option Entry) → scope_in (found r) ≡ elim r as (λ x. ScopeOf Entry) [ None ↦ no_scope | Some e ↦ inside e ]
found_scope None = refl
found_scope (Some e) = refl

-- what is in scope in the module that a name comes to in a scope
pub through_found : (s : ScopeOf Entry) (m : Name) → scope_in (found_in (is_named module_kind m) s) ≡ through s (module_scope m)
through_found (known env) m = found_scope (newest_by (is_named module_kind m) env)
through_found unknown_scope m = refl
through_found no_scope m = refl

-- one module more is found, behind those before it
pub along_more : (env : List Entry) (ms : List RcStr) (i : ℕ) (r : RcStr) (s : ScopeOf Entry) (before all : List (FoundAmong Entry)) → i < length ms → r ≡ get_or ms i r → s ≡ scope_by is_named inside env (map str_bytes (take i ms))
    → before ++ modules_along env (map str_bytes (take i ms)) (map str_bytes (drop i ms)) ≡ all
    → (before ++ found_in (is_named module_kind (str_bytes r)) s ∷ []) ++ modules_along env (map str_bytes (take (i + 1) ms)) (map str_bytes (drop (i + 1) ms)) ≡ all
along_more env ms i r s before all h is e so_far = rw (append_assoc, taken ms i r h is, e) (rw (left ms i r h is) at so_far)
