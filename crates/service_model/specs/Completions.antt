-- What is said to a prefix, as far as the prefix alone determines it.
use Rattle.std.specs.Prelude.{◌≡◌, ◌≢◌, ◌≤◌, ◌⊎◌, ℕ, Bool, true, false, List, [], ◌∷◌, All, Contains, length, codes, nat_eq}
use Rattle.std.specs.List.{starts_with}
use Rattle.std.specs.List.Sorted.{IsStrictlySortedBy}
use Rattle.std.specs.Ordering.{nat_cmp, ordering_then}
use Rattle.std.specs.Cmp.Lexicographic.{slice_cmp}
use Rattle.std.specs.declared.cmp.Ordering.{Ordering}
use Rattle.query_model.specs.PrefixParts.{modules_of, beginning_of, path_of}
use Rattle.service_model.specs.Replies as said

-- the words for the kinds of names
abbrev pub kind_words : List (List ℕ)
kind_words = codes "Constructor" ∷ codes "Label" ∷ codes "Module" ∷ codes "ModuleType" ∷ codes "Type" ∷ codes "Value" ∷ []

-- an entry that a beginning may become: its name begins so, and its kind is one of the six
pub record MayBecome (beginning : List ℕ) (e : said.Entry) : Type 0 where
  pub name : starts_with nat_eq e.name beginning ≡ true
  pub kind : Contains kind_words e.kind

-- the order of entries: by the bytes of their names, and then by those of their kinds
abbrev pub entry_cmp : said.Entry → said.Entry → Ordering
entry_cmp e f = ordering_then (slice_cmp nat_cmp e.name f.name) (slice_cmp nat_cmp e.kind f.kind)

-- Entries that a beginning may become: they rise, so no two have one name and one kind; there are at most 200, and others only behind 200.
pub record ArePage (beginning : List ℕ) (es : List said.Entry) (more : Bool) : Type 0 where
  pub each : All (MayBecome beginning) es
  pub order : IsStrictlySortedBy entry_cmp es
  pub few : length es ≤ 200
  pub full : more ≡ true → length es ≡ 200

-- the modules of the prefix, of which there are some, aren't bound
abbrev pub IsUnbound : List ℕ → said.Said → Type 0
IsUnbound prefix s = (modules_of prefix ≢ []) × (s ≡ said.unbound (path_of prefix))

-- names that the prefix may become; which these are, and their types, stays open
abbrev pub AreNames : List ℕ → said.Said → Type 0
AreNames prefix s = (es : List said.Entry) × (more : Bool) × ArePage (beginning_of prefix) es more × (s ≡ said.entries es more)

-- what is said of a prefix, by whether it has the form of one
abbrev pub CompletedBy : Bool → List ℕ → said.Said → Type 0
CompletedBy false prefix s = s ≡ said.not_a_name
CompletedBy true prefix s = IsUnbound prefix s ⊎ AreNames prefix s
