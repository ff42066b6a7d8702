-- The newest entry of a list stands among those with its hash.
use Rattle.std.proofs.Common.{◌≡◌, List, [], ◌∷◌, Bool, true, false, refl, Option, Some, None}
use Rattle.std.specs.Prelude.{◌&&◌}
use Rattle.std.specs.List.{filter}
use Rattle.std.specs.Str.{bytes_eq}
use Rattle.std.proofs.lemmas.Slice.Eq.{bytes_eq-Decides}
use Rattle.text_terms.specs.Bytes.{str_bytes}
use Rattle.type_model.specs.Types.{Path}
use Rattle.signature_model.specs.Declarations.{Name}
use Rattle.signature_model.specs.Entries as rules
use Rattle.signature_model.specs.Lookups.{newest_by, same_kind, ScopeOf}
use Rattle.signature_model.specs.Records.{Written, is_label_of, belongs_to, is_of_type}
use Rattle.env_table.specs.declared.entries.Kind.{Kind}
use Rattle.env_table.specs.declared.entries.Kind.TheVariants as kind
use Rattle.env_table.specs.declared.entries.What.{What}
use Rattle.env_table.specs.declared.entries.Entry.{Entry}
use Rattle.env_table.specs.Views.{is_named, kind_of}
use Rattle.env_table.specs.Index.{stands_at, bits_of, hash_of}
use Rattle.env_table.specs.Labels.{labelled, record_of, record_by_kind, scope_for, has_all, candidates}
use Rattle.env_table.proofs.Bits.{same_bits_itself}

newest_step : (p q : Entry → Bool) (e : Entry) (es : List Entry) (a b : Bool) → p e ≡ a → q e ≡ b → (a ≡ true → b ≡ true) → newest_by p (filter q es) ≡ newest_by p es
    → newest_by p (filter q (e ∷ es)) ≡ newest_by p (e ∷ es)
newest_step p q e es a true pa qb h ih = rw (qb, ih)
newest_step p q e es true false pa qb h ih = let no : false ≡ true = h refl in cc
newest_step p q e es false false pa qb h ih = rw (qb, pa) ih

-- a test that holds only where another does finds the same among those where the other holds
pub newest_among : (p q : Entry → Bool) → ((e : Entry) → p e ≡ true → q e ≡ true) → (es : List Entry) → newest_by p (filter q es) ≡ newest_by p es
newest_among p q h [] = refl
newest_among p q h (e ∷ es) = newest_step p q e es (p e) (q e) refl refl (h e) (newest_among p q h es)

both : (a b : Bool) → (a && b) ≡ true → (a ≡ true) × (b ≡ true)
both true b h = (refl, h)
both false b h = cc

kinds_same : (j k : rules.Kind) → same_kind j k ≡ true → j ≡ k
kinds_same rules.value_kind rules.value_kind h = refl
kinds_same rules.constructor_kind rules.constructor_kind h = refl
kinds_same rules.label_kind rules.label_kind h = refl
kinds_same rules.type_kind rules.type_kind h = refl
kinds_same rules.module_kind rules.module_kind h = refl
kinds_same rules.module_type_kind rules.module_type_kind h = refl
kinds_same _ _ h = cc

same_name : (n m : Name) → bytes_eq n m ≡ true → n ≡ m
same_name n m h = (bytes_eq-Decides n m).0 h

same_stands : (k : rules.Kind) (n : Name) (e : Entry) → k ≡ kind_of e.kind → n ≡ str_bytes e.name → stands_at (bits_of 16 (hash_of k n)) e ≡ true
same_stands k n e p q = rw (p, q) (same_bits_itself (bits_of 16 (hash_of (kind_of e.kind) (str_bytes e.name))))

-- an entry of a kind and a name has their hash
pub named_stands : (k : rules.Kind) (n : Name) (e : Entry) → is_named k n e ≡ true → stands_at (bits_of 16 (hash_of k n)) e ≡ true
named_stands k n e h =
    let (p, q) = both (same_kind k (kind_of e.kind)) (bytes_eq n (str_bytes e.name)) h in
    same_stands k n e (kinds_same k (kind_of e.kind) p) (same_name n (str_bytes e.name) q)

pub newest_named : (k : rules.Kind) (n : Name) (es : List Entry) → newest_by (is_named k n) (filter (stands_at (bits_of 16 (hash_of k n))) es) ≡ newest_by (is_named k n) es
newest_named k n es = newest_among (is_named k n) (stands_at (bits_of 16 (hash_of k n))) (named_stands k n) es

of_label : (k : Kind) (w : What) (o : Path) → record_by_kind k w ≡ Some o → rules.label_kind ≡ kind_of k
of_label kind.Label w o h = refl
of_label kind.Value w o h = cc
of_label kind.Constructor w o h = cc
of_label kind.TypeName w o h = cc
of_label kind.Module w o h = cc
of_label kind.ModuleType w o h = cc

type_there : (o : Path) (r : Option Path) → is_of_type o r ≡ true → (p : Path) × (r ≡ Some p)
type_there o None h = cc
type_there o (Some p) h = (p, refl)

label_stands : (o : Path) (n : Name) (e : Entry) → is_label_of labelled o n e ≡ true → stands_at (bits_of 16 (hash_of rules.label_kind n)) e ≡ true
label_stands o n e h =
    let (p, q) = both (bytes_eq n (str_bytes e.name)) (is_of_type o (record_of e)) h in
    let there = type_there o (record_of e) q in
    same_stands rules.label_kind n e (of_label e.kind e.what there.0 there.1) (same_name n (str_bytes e.name) p)

pub newest_label_of : (o : Path) (n : Name) (es : List Entry) → newest_by (is_label_of labelled o n) (candidates (Some n) es) ≡ newest_by (is_label_of labelled o n) es
newest_label_of o n es = newest_among (is_label_of labelled o n) (stands_at (bits_of 16 (hash_of rules.label_kind n))) (label_stands o n) es

record_there : (scope : Written → ScopeOf Entry) (ls : List Written) (r : Option Path) → belongs_to labelled scope ls r ≡ true → (p : Path) × (r ≡ Some p)
record_there scope ls None h = cc
record_there scope ls (Some p) h = (p, refl)

with_all_stands : (env : List Entry) (ls : List Written) (n : Name) (e : Entry) → has_all env ls (Some n) e ≡ true → stands_at (bits_of 16 (hash_of rules.label_kind n)) e ≡ true
with_all_stands env ls n e h =
    let (p, q) = both (bytes_eq n (str_bytes e.name)) (belongs_to labelled (scope_for env ls) ls (record_of e)) h in
    let there = record_there (scope_for env ls) ls (record_of e) q in
    same_stands rules.label_kind n e (of_label e.kind e.what there.0 there.1) (same_name n (str_bytes e.name) p)

pub newest_with_all : (env : List Entry) (ls : List Written) (n : Option Name) (es : List Entry) → newest_by (has_all env ls n) (candidates n es) ≡ newest_by (has_all env ls n) es
newest_with_all env ls None es = refl
newest_with_all env ls (Some n) es = newest_among (has_all env ls (Some n)) (stands_at (bits_of 16 (hash_of rules.label_kind n))) (with_all_stands env ls n) es
