-- What is still to be searched.
use Rattle.std.specs.Prelude.{◌≡◌, ℕ, Bool, List, [], ◌++◌, map, Option, Some, None}
use Rattle.std.specs.Str.{bytes_eq}
use Rattle.std.specs.HashSet.{HashSet, contains_by}
use denote.Ref.{Bor}
use Rattle.text_terms.specs.Bytes.{str_bytes}
use Rattle.type_model.specs.Types.{Path}
use Rattle.signature_model.specs.Declarations.{Name}
use Rattle.env_table.specs.declared.entries.Entry.{Entry}
use Rattle.env_table.specs.Views.{names_of}
use Rattle.type_print.specs.declared.scopes.Scope.{Scope}
use Rattle.type_print.specs.declared.scopes.Scope.TheVariants as scope
use Rattle.type_print.specs.declared.paths.Inside.{Inside}
use Rattle.type_print.specs.declared.paths.Reached.{Reached}
use Rattle.type_print.specs.Ways.{way_view}
use Rattle.type_print.specs.Paths.{Scoped, Found, name_for, modules_behind}

-- the entries of a scope, the newest first
abbrev pub in_scope : Scope → List Entry
in_scope (scope.All env) = env.now
in_scope (scope.Module es) = names_of es

-- a module of the code that is still to be searched: the way to it, and what is in scope in it
abbrev pub scope_of : Inside → Scoped
scope_of i = (way_view i.way, in_scope i.names)

-- the modules that are still to be searched, in order
abbrev pub scopes_of : List Inside → List Scoped
scopes_of xs = map scope_of xs

-- how the code found a type
abbrev pub reached_view : Reached → Found
reached_view r = (way_view r.way, str_bytes r.name)

-- whether a name is in a set
abbrev pub has : {S : Type 0} → HashSet (Bor (List ℕ)) S → Name → Bool
has s n = contains_by (λ k. bytes_eq n k.now) s

-- a module was looked at: the origin has a name in it, or what is left has the modules in it besides
abbrev pub Looks : Path → Scoped → (old new : List Scoped) → Option Found → Type 0
Looks o s old new None = (name_for o s.1 ≡ None) × (new ≡ old ++ modules_behind s.0 [] s.1)
Looks o s old new (Some f) = (name_for o s.1 ≡ Some f.1) × (s.0 ≡ f.0)
