-- The newest names of a scope, in the order in which they are told.
use Rattle.std.specs.Prelude.{◌≡◌, ℕ, Bool, List, [], ◌∷◌, map, codes, nat_eq}
use Rattle.std.specs.List.{starts_with, filter}
use Rattle.std.specs.List.Sorted.{IsStrictlySortedBy}
use Rattle.std.specs.Ordering.{nat_cmp, ordering_then}
use Rattle.std.specs.Cmp.Lexicographic.{slice_cmp}
use Rattle.std.specs.declared.cmp.Ordering.{Ordering}
use Rattle.std.specs.declared.rc.Rc.{Rc}
use Rattle.std.specs.declared.alloc.Global.{Global}
use denote.Ref.{Bor}
use Rattle.text_terms.specs.Bytes.{str_bytes}
use Rattle.signature_model.specs.Declarations.{Name}
use Rattle.signature_model.specs.Entries as rules
use Rattle.signature_model.specs.Lookups.{newest_by}
use Rattle.env_table.specs.declared.entries.Kind.{Kind}
use Rattle.env_table.specs.declared.entries.Kind.TheVariants as kind
use Rattle.env_table.specs.declared.entries.Entry.{Entry}
use Rattle.env_table.specs.Views.{is_named}
use Rattle.name_queries.specs.declared.newest_names.CompletionKind.{CompletionKind}
use Rattle.name_queries.specs.declared.newest_names.Key.{Key}
use Rattle.name_queries.specs.declared.newest_names.CompletionKind.TheVariants as told

-- the kind by which a kind of entries is told
abbrev pub told_kind : Kind → CompletionKind
told_kind kind.Value = told.Value
told_kind kind.Constructor = told.Constructor
told_kind kind.Label = told.Label
told_kind kind.TypeName = told.Type
told_kind kind.Module = told.Module
told_kind kind.ModuleType = told.ModuleType

-- the printed name of a kind
abbrev pub printed : CompletionKind → List ℕ
printed told.Constructor = codes "Constructor"
printed told.Label = codes "Label"
printed told.Module = codes "Module"
printed told.ModuleType = codes "ModuleType"
printed told.Type = codes "Type"
printed told.Value = codes "Value"

-- the order of entries: by the bytes of their names, and then by the printed names of their kinds
abbrev pub entry_cmp : Entry → Entry → Ordering
entry_cmp e f = ordering_then (slice_cmp nat_cmp (str_bytes e.name) (str_bytes f.name)) (slice_cmp nat_cmp (printed (told_kind e.kind)) (printed (told_kind f.kind)))

-- whether an entry's name begins so
abbrev pub begins_with : Name → Entry → Bool
begins_with beginning e = starts_with nat_eq (str_bytes e.name) beginning

-- of each kind and name, the newest of some entries is that of others
abbrev pub SameNewest : List Entry → List Entry → Type 0
SameNewest all es = (k : rules.Kind) (n : Name) → newest_by (is_named k n) all ≡ newest_by (is_named k n) es

-- The newest entries of each kind and name that begins so, each once, in their order: as they rise, no two have one kind and one name.
pub record AreNewest (es : List Entry) (beginning : Name) (all : List Entry) : Type 0 where
  pub order : IsStrictlySortedBy entry_cmp all
  pub newest : SameNewest all (filter (begins_with beginning) es)

-- what stands in a map at a name and a kind
abbrev pub Kept : Type 0
Kept = Key × Bor (Rc Entry Global)

-- the entry that is kept
abbrev pub entry_of : Kept → Entry
entry_of p = p.1.now.value

-- the entries that stand in a map, in its order
abbrev pub listed : List Kept → List Entry
listed ps = map entry_of ps

-- a key is the name and the kind of an entry
abbrev pub IsKeyOf : Key → Entry → Type 0
IsKeyOf key e = (key.name.now ≡ str_bytes e.name) × (key.kind ≡ told_kind e.kind)

-- each entry is kept under its own key
abbrev pub AreKeyed : List Kept → Type 0
AreKeyed [] = Unit {0}
AreKeyed (p ∷ ps) = IsKeyOf p.0 (entry_of p) × AreKeyed ps

-- each entry stands at its name and its kind, and they are in order
pub record AreKept (ps : List Kept) : Type 0 where
  pub keyed : AreKeyed ps
  pub order : IsStrictlySortedBy entry_cmp (listed ps)
