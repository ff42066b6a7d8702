-- What is answered to a prefix.
use Rattle.std.specs.Prelude.{◌≡◌, ℕ, true, false, List, [], length, take, nat_lt, slice_get, Option, Some, None, option_map, MatchOption, IsSomeAnd, Result, Ok, Err}
use Rattle.std.specs.List.{AllZip, join_with_byte}
use Rattle.text_terms.specs.Bytes.{str_bytes}
use Rattle.signature_model.specs.Declarations.{Name}
use Rattle.env_table.specs.declared.entries.Entry.{Entry}
use Rattle.env_table.specs.declared.entries.Shape.{Shape}
use Rattle.env_table.specs.declared.entries.Shape.TheVariants as shape
use Rattle.env_table.specs.declared.entries.What.{What}
use Rattle.env_table.specs.declared.entries.What.TheVariants as what
use Rattle.query_model.specs.Prefixes.{is_name_prefix}
use Rattle.query_model.specs.PrefixParts.{modules_of, beginning_of, path_of}
use Rattle.query_engine.specs.declared.asked.Asked.{Asked}
use Rattle.query_engine.specs.declared.asked.QueryFault.{QueryFault}
use Rattle.query_engine.specs.declared.asked.QueryFault.TheVariants.{NoNode, NotAName, Unbound, NoMemory}
use Rattle.name_queries.specs.declared.completions.Completions.{Completions}
use Rattle.name_queries.specs.declared.shown_entries.Completion.{Completion}
use Rattle.name_queries.specs.Environments.{env_at, names_behind}
use Rattle.name_queries.specs.NewestNames.{told_kind, AreNewest}
use Rattle.query_engine.specs.Texts.{IsTextOf}

-- the type of a variant's constructor: from its argument, if it has one, to the variant
abbrev pub constructor_type : Shape → ℕ → Option ℕ
constructor_type (shape.Variant cs) k = option_map (λ c. c.root.0) (slice_get cs.items k)
constructor_type _ k = None

-- the type of a record's label: from the record to the field
abbrev pub label_type : Shape → ℕ → Option ℕ
label_type (shape.Labels ls) k = option_map (λ l. l.root.0) (slice_get ls.items k)
label_type _ k = None

-- the node of the type that is told of a name: of a value, a constructor or a label; others have none
abbrev pub type_of : What → Option ℕ
type_of (what.Scheme n) = Some n.0
type_of (what.Constructor d k) = constructor_type d.value.shape k
type_of (what.Exception c) = Some c.value.root.0
type_of (what.Label d k) = label_type d.value.shape k
type_of _ = None

-- an entry as it is told: its name, its kind, and the text of its type, if it has one
pub record IsTold (a : Asked) (env : List Entry) (e : Entry) (c : Completion) : Type 0 where
  pub name : str_bytes c.name ≡ str_bytes e.name
  pub kind : c.kind ≡ told_kind e.kind
  pub desc : MatchOption (type_of e.what) (str_bytes c.desc ≡ []) (λ n. IsTextOf a env n (str_bytes c.desc))

-- the most names that are told
abbrev pub most_told : ℕ
most_told = 200

-- the first of some names are told, and whether there are others
pub record AreTold (a : Asked) (env : List Entry) (all : List Entry) (c : Completions) : Type 0 where
  pub first : AllZip (IsTold a env) (take most_told all) c.entries.items
  pub more : c.more ≡ nat_lt most_told (length all)

-- of the names in a scope, the newest that begin so are told
pub record Completes (a : Asked) (env : List Entry) (beginning : Name) (c : Completions) (scope : List Entry) : Type 0 where
  pub all : List Entry
  pub newest : AreNewest scope beginning all
  pub told : AreTold a env all c

-- the path of modules is told, unless memory is short
abbrev pub TellsPath : List Name → QueryFault → Type 0
TellsPath ms (Unbound ident) = str_bytes ident ≡ join_with_byte 46 ms
TellsPath ms NotAName = ⊥
TellsPath ms NoNode = ⊥
TellsPath ms NoMemory = Unit {0}

-- What is answered to a prefix at an offset.
abbrev pub MeetsPrefix : Asked → ℕ → List ℕ → Result Completions QueryFault → Type 0
MeetsPrefix a o prefix (Ok c) = (is_name_prefix prefix ≡ true) × IsSomeAnd (names_behind (env_at a o) (modules_of prefix)) (Completes a (env_at a o) (beginning_of prefix) c)
MeetsPrefix a o prefix (Err NotAName) = is_name_prefix prefix ≡ false
MeetsPrefix a o prefix (Err (Unbound ident)) = (is_name_prefix prefix ≡ true) × (names_behind (env_at a o) (modules_of prefix) ≡ None) × (str_bytes ident ≡ path_of prefix)
MeetsPrefix a o prefix (Err NoNode) = ⊥
MeetsPrefix a o prefix (Err NoMemory) = Unit {0}
