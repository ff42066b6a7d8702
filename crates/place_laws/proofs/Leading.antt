-- Where the names lead that are found among those of the code, which stand for the names of an environment.
use Rattle.std.proofs.Common.{◌≡◌, ◌∙◌, ℕ, Bool, List, Option, Some, refl, sym, ap}
use Rattle.tree_model.specs.Trees.{Tree}
use Rattle.type_model.specs.Types.{Typ}
use Rattle.type_model.specs.Schemes.{Scheme}
use Rattle.signature_model.specs.Declarations as rules
use Rattle.signature_model.specs.Declarations.{Name, Place}
use Rattle.signature_model.specs.Entries.{Kind, Environment}
use Rattle.signature_model.specs.Entries.{Entry as Named}
use Rattle.signature_model.specs.Lookups.{FoundAmong, lookup_by}
use Rattle.type_nodes.specs.Readings.{Types}
use Rattle.env_table.specs.declared.entries.Constructor.{Constructor}
use Rattle.env_table.specs.declared.entries.Declaration.{Declaration}
use Rattle.env_table.specs.declared.entries.Entry.{Entry}
use Rattle.env_table.specs.Views.{is_named, inside}
use Rattle.typed_model.specs.Shown.{IsToldTyped, IsTypingOf, asked}
use Rattle.typing_conditions.specs.Assumptions.{SchemeReads}
use Rattle.typing_conditions.specs.Declared.{DeclaredAs, ExceptionAs}
use Rattle.typing_conditions.specs.Environments.{defined_at, EntryAs, entry_as, EnvAs}
use Rattle.typing_conditions.specs.Seeing.{StandsFor, IsSeen}
use Rattle.typing_conditions.specs.Sights.{Scopes, Recorded}
use Rattle.typing_conditions.specs.Standing.{IsIn}
use Rattle.typing_conditions.proofs.Environments.{ComesTo, to_entry, to_hole, to_nothing, lookup_alike}
use Rattle.named_model.specs.Leading.{place_found, leads_to, Leads}

-- where the entry is defined that a path finds among names of the code
abbrev pub found_at : List Entry → List Name → Kind → Name → Option Place
found_at env path k n = place_found (λ (e : Entry). defined_at e.place) (lookup_by is_named inside env path k n)

module _ (R : ℕ → Scheme → Type 0) (D : Declaration → rules.Declaration → Type 0) (X : Constructor → Option Typ → Type 0) where
  -- an entry is defined where the one is for which it stands
  same_place : {e : Entry} {f : Named} → EntryAs R D X e f → defined_at e.place ≡ f.place
  same_place (entry_as name kind place w) = place

  -- so what is found is
  same_found : {x : FoundAmong Entry} {y : FoundAmong Named} → ComesTo R D X x y → place_found (λ (e : Entry). defined_at e.place) x ≡ place_found (λ (f : Named). f.place) y
  same_found (to_entry h) = ap (λ p. Some p) (same_place h)
  same_found to_hole = refl
  same_found to_nothing = refl

  pub leads_alike : (path : List Name) (k : Kind) (n : Name) {env : List Entry} {E : Environment} → EnvAs R D X env E → found_at env path k n ≡ leads_to E path k n
  leads_alike path k n h = same_found (lookup_alike R D X path k n h)

-- A path finds among names that stand for an environment what it finds there, defined at the same place.
pub stands_leads : {V : Types} {env : List Entry} {E : Environment} → StandsFor V env E → (path : List Name) (k : Kind) (n : Name) → found_at env path k n ≡ leads_to E path k n
stands_leads {V} s path k n = leads_alike (λ r sc. SchemeReads s.nodes V r sc × IsIn s.roots r) (DeclaredAs s.nodes s.roots s.names) (ExceptionAs s.nodes s.roots s.names) path k n s.are

-- So it does among the names that are recorded for a node of a text.
pub seen_leads : {scopes : Scopes} {types : Recorded} {V : Types} {node : ℕ} {E : Environment} {is_typed : Bool} (s : IsSeen scopes types V node E is_typed) (path : List Name) (k : Kind) (n : Name) → found_at s.env path k n ≡ leads_to E path k n
seen_leads s = stands_leads s.stands

-- Where these names were seen for a typed node in each environment in which it may be treated, what is found among them is where the name leads.
pub found_leads : {items : List Tree} (t : IsTypingOf items) (node : ℕ) (env : List Entry) {V : Types} → ((E : Environment) (u : Typ) → IsToldTyped node E u (asked t) → StandsFor V env E) → (path : List Name) (k : Kind) (n : Name) → Leads t node path k n (found_at env path k n)
found_leads t node env stands path k n = record { each = λ E u told. stands_leads (stands E u told) path k n }
