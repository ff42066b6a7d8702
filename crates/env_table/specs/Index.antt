-- The two indexes of an environment: its entries by the bits of their hashes, those of their kinds and names, and those of the origins that they make.
use Rattle.std.specs.Prelude.{ℕ, zero, suc, ◌+◌, ◌*◌, ◌/◌, ◌%◌, ◌^◌, ◌==◌, Bool, true, false, List, [], ◌∷◌, Option, Some, None, option_map, if◌then◌else◌, ◌≡◌}
use Rattle.std.specs.List.{filter}
use Rattle.std.specs.declared.rc.Rc.{Rc}
use Rattle.std.specs.declared.alloc.Global.{Global}
use Rattle.text_terms.specs.Bytes.{str_bytes}
use Rattle.type_model.specs.Types.{Path}
use Rattle.signature_model.specs.Declarations.{Name}
use Rattle.signature_model.specs.Entries as rules
use Rattle.env_table.specs.declared.entries.Entry.{Entry}
use Rattle.env_table.specs.declared.links.Link.{Link}
use Rattle.env_table.specs.declared.index.Fork.{Fork, fold-Fork}
use Rattle.env_table.specs.declared.index.Fork.TheOpen.{Fork-F}
use Rattle.env_table.specs.Views.{links_view, kind_of, makes}

-- a number for each kind
abbrev pub code_of : rules.Kind → ℕ
code_of rules.value_kind = 0
code_of rules.constructor_kind = 1
code_of rules.label_kind = 2
code_of rules.type_kind = 3
code_of rules.module_kind = 4
code_of rules.module_type_kind = 5

-- a hash, after these bytes as well
abbrev pub hash_from : ℕ → List ℕ → ℕ
hash_from h [] = h
hash_from h (b ∷ bs) = hash_from ((h * 403 + b) % 65536) bs

-- the hash of a name of a kind, of 16 bits
abbrev pub hash_of : rules.Kind → Name → ℕ
hash_of k n = hash_from (code_of k) n

-- the hash of an entry, by its kind and its name
abbrev pub hash_of_entry : Entry → ℕ
hash_of_entry e = hash_of (kind_of e.kind) (str_bytes e.name)

-- a hash, after these numbers of a path as well: of each the number of its item and that in its item
abbrev pub path_hash_from : ℕ → Path → ℕ
path_hash_from h [] = h
path_hash_from h (n ∷ ns) = path_hash_from ((h * 403 + (n / 2 ^ 32 + n % 2 ^ 32) % 65536) % 65536) ns

-- the hash of an origin, of 16 bits
abbrev pub hash_of_path : Path → ℕ
hash_of_path o = path_hash_from 0 o

-- the hash by which an index has an entry; it has no entry without one
abbrev pub Key : Type 0
Key = Entry → Option ℕ

-- by kind and name each entry has one
abbrev pub named_key : Key
named_key e = Some (hash_of_entry e)

-- by origin those that make one
abbrev pub origin_key : Key
origin_key e = option_map hash_of_path (makes e)

-- the lowest bits of a number, so many of them
unfoldable pub bits_of : ℕ → ℕ → List Bool
bits_of zero h = []
bits_of (suc n) h = (h % 2 == 1) ∷ bits_of n (h / 2)

-- whether two lists of bits are the same
abbrev pub same_bits : List Bool → List Bool → Bool
same_bits [] [] = true
same_bits [] (k ∷ ks) = false
same_bits (j ∷ js) [] = false
same_bits (true ∷ js) (true ∷ ks) = same_bits js ks
same_bits (true ∷ js) (false ∷ ks) = false
same_bits (false ∷ js) (true ∷ ks) = false
same_bits (false ∷ js) (false ∷ ks) = same_bits js ks

-- the entries behind bits, in an index behind a shared pointer
abbrev pub shared_at : Option (Rc (List Bool → List Entry) Global) → List Bool → List Entry
shared_at None ks = []
shared_at (Some r) ks = r.value ks

-- the entries behind bits in a fork: its bucket at their end, or what its half for the next bit has
abbrev pub fork_step : Fork-F (List Bool → List Entry) → List Bool → List Entry
fork_step f [] = links_view f.bucket
fork_step f (true ∷ ks) = shared_at f.odd ks
fork_step f (false ∷ ks) = shared_at f.even ks

-- the entries behind bits in a fork
abbrev pub fork_at : Fork → List Bool → List Entry
fork_at = fold-Fork (List Bool → List Entry) fork_step

-- an index of the code, empty or a fork
abbrev pub Index : Type 0
Index = Option (Rc Fork Global)

-- the entries behind bits in an index
abbrev pub index_at : Index → List Bool → List Entry
index_at None ks = []
index_at (Some r) ks = fork_at r.value ks

-- an index with an entry more behind some bits, the newest there
abbrev pub Adds : (List Bool → List Entry) → List Bool → Entry → (List Bool → List Entry) → Type 0
Adds before key e after = (ks : List Bool) → after ks ≡ (if same_bits ks key then e ∷ before ks else before ks)

-- whether these bits are those of a hash
abbrev pub are_bits : List Bool → Option ℕ → Bool
are_bits ks None = false
are_bits ks (Some h) = same_bits ks (bits_of 16 h)

-- whether an entry stands behind these bits
abbrev pub stands_by : Key → List Bool → Entry → Bool
stands_by key ks e = are_bits ks (key e)

-- an index with an entry more behind the bits of its hash, the newest there; as it was where the entry has none
abbrev pub AddsBy : Key → (List Bool → List Entry) → Entry → (List Bool → List Entry) → Type 0
AddsBy key before e after = (ks : List Bool) → after ks ≡ (if stands_by key ks e then e ∷ before ks else before ks)

-- whether an entry stands behind these bits by its kind and its name
abbrev pub stands_at : List Bool → Entry → Bool
stands_at ks e = stands_by named_key ks e

-- an index of entries has behind each bits the entries that stand there, in order
unfoldable pub IsIndex : Key → Index → Option (Rc Link Global) → Type 0
IsIndex key index links = (ks : List Bool) → index_at index ks ≡ filter (stands_by key ks) (links_view links)

-- the entries that may make an origin: those with its hash
abbrev pub makers : Path → List Entry → List Entry
makers o env = filter (stands_by origin_key (bits_of 16 (hash_of_path o))) env
