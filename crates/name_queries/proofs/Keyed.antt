-- Entries that stand at their names and their kinds.
use Rattle.std.proofs.Common.{◌≡◌, ℕ, List, [], ◌∷◌, ◌++◌, Bool, true, false, cond, refl, sym, ◌∙◌, ap, subst, Option, Some, None, option_map, is_some, if◌then◌else◌, append_assoc, Bor, Global}
use Rattle.std.specs.declared.rc.Rc.{Rc}
use Rattle.std.specs.Prelude.{◌&&◌}
use Rattle.std.specs.List.{AllByRecursion, filter}
use Rattle.std.specs.Option.{option_or}
use Rattle.std.specs.Map.{lookup, keys_of}
use Rattle.std.specs.BTreeMap.{is_at, insert_entry}
use Rattle.std.specs.List.Sorted.{IsStrictlySortedBy}
use Rattle.std.specs.Str.{bytes_eq}
use Rattle.std.specs.Ordering.{nat_cmp, is_eq, ordering_then, match_ordering}
use Rattle.std.specs.declared.cmp.Ordering.{Ordering}
use Rattle.std.specs.declared.cmp.Ordering.TheVariants.{Less, Equal, Greater}
use Rattle.std.specs.Cmp.Lexicographic.{slice_cmp}
use Rattle.std.proofs.lemmas.Map.Text.{is_eq-slice_cmp}
use Rattle.std.proofs.lemmas.Slice.Eq.{bytes_eq-Decides}
use Rattle.text_terms.specs.Bytes.{str_bytes}
use Rattle.signature_model.specs.Entries.{Kind}
use Rattle.signature_model.specs.Entries as rules
use Rattle.signature_model.specs.Lookups.{same_kind, newest_by}
use Rattle.env_table.specs.declared.entries.Entry.{Entry}
use Rattle.env_table.specs.declared.entries.Kind.{Kind as CodeKind}
use Rattle.env_table.specs.declared.entries.Kind.TheVariants as kind
use Rattle.env_table.specs.Views.{kind_of, is_named}
use Rattle.name_queries.specs.declared.newest_names.CompletionKind.{CompletionKind}
use Rattle.name_queries.specs.declared.newest_names.CompletionKind.TheVariants as told
use Rattle.name_queries.specs.declared.newest_names.Key.{Key}
use Rattle.name_queries.specs.NewestNames.{told_kind, entry_cmp, SameNewest, Kept, entry_of, listed, IsKeyOf, AreKeyed, AreKept}
use Rattle.name_queries.specs.contracts.newest_names.CompletionKindOrd.TheImpl.{ghosts}
use Rattle.name_queries.proofs.KindOrder.{in_order}

-- ---- keys

-- the order of the keys, by the parts of the first
abbrev at_name : List ℕ → CompletionKind → Key → Ordering
at_name n k y = ordering_then (slice_cmp nat_cmp n y.name.now) (ghosts.cmp k y.kind)

abbrev key_cmp : Key → Key → Ordering
key_cmp x y = at_name x.name.now x.kind y

-- the kind by which a kind is told
abbrev told_of : Kind → CompletionKind
told_of rules.value_kind = told.Value
told_of rules.constructor_kind = told.Constructor
told_of rules.label_kind = told.Label
told_of rules.type_kind = told.Type
told_of rules.module_kind = told.Module
told_of rules.module_type_kind = told.ModuleType

both : (a b : Bool) → (a && b) ≡ true → (a ≡ true) × (b ≡ true)
both true b h = (refl, h)
both false b h = cc

same_test : (a b : Bool) → (a ≡ true → b ≡ true) → (b ≡ true → a ≡ true) → a ≡ b
same_test true b h i = sym (h refl)
same_test false true h i = i refl
same_test false false h i = refl

both_equal : (a b : Ordering) → is_eq (ordering_then a b) ≡ true → (is_eq a ≡ true) × (is_eq b ≡ true)
both_equal Less b h = cc
both_equal Equal b h = (refl, h)
both_equal Greater b h = cc

then_equal : (a b : Ordering) → is_eq a ≡ true → is_eq b ≡ true → is_eq (ordering_then a b) ≡ true
then_equal Less b h i = cc
then_equal Equal b h i = i
then_equal Greater b h i = cc

kind_exact : (a b : CompletionKind) → is_eq (ghosts.cmp a b) ≡ true → a ≡ b
kind_exact told.Constructor told.Constructor h = refl
kind_exact told.Label told.Label h = refl
kind_exact told.Module told.Module h = refl
kind_exact told.ModuleType told.ModuleType h = refl
kind_exact told.Type told.Type h = refl
kind_exact told.Value told.Value h = refl
kind_exact _ _ h = cc

kind_itself : (a : CompletionKind) → is_eq (ghosts.cmp a a) ≡ true
kind_itself told.Constructor = refl
kind_itself told.Label = refl
kind_itself told.Module = refl
kind_itself told.ModuleType = refl
kind_itself told.Type = refl
kind_itself told.Value = refl

kinds_told : (k : Kind) (j : CodeKind) → same_kind k (kind_of j) ≡ true → told_of k ≡ told_kind j
kinds_told rules.value_kind kind.Value h = refl
kinds_told rules.constructor_kind kind.Constructor h = refl
kinds_told rules.label_kind kind.Label h = refl
kinds_told rules.type_kind kind.TypeName h = refl
kinds_told rules.module_kind kind.Module h = refl
kinds_told rules.module_type_kind kind.ModuleType h = refl
kinds_told _ _ h = cc

kinds_same : (k : Kind) (j : CodeKind) → told_of k ≡ told_kind j → same_kind k (kind_of j) ≡ true
kinds_same rules.value_kind kind.Value h = refl
kinds_same rules.constructor_kind kind.Constructor h = refl
kinds_same rules.label_kind kind.Label h = refl
kinds_same rules.type_kind kind.TypeName h = refl
kinds_same rules.module_kind kind.Module h = refl
kinds_same rules.module_type_kind kind.ModuleType h = refl
kinds_same _ _ h = cc

names_itself : (n m : List ℕ) → n ≡ m → is_eq (slice_cmp nat_cmp n m) ≡ true
names_itself n m h = is_eq-slice_cmp n m ∙ (bytes_eq-Decides n m).1 h

names_exact : (n m : List ℕ) → is_eq (slice_cmp nat_cmp n m) ≡ true → n ≡ m
names_exact n m h = (bytes_eq-Decides n m).0 (sym (is_eq-slice_cmp n m) ∙ h)

-- equal keys have the same parts
key_exact : (n : List ℕ) (k : CompletionKind) (y : Key) → is_eq (at_name n k y) ≡ true → (n ≡ y.name.now) × (k ≡ y.kind)
key_exact n k y h =
    let (p, q) = both_equal (slice_cmp nat_cmp n y.name.now) (ghosts.cmp k y.kind) h in
    (names_exact n y.name.now p, kind_exact k y.kind q)

key_same : (n : List ℕ) (k : CompletionKind) (y : Key) → n ≡ y.name.now → k ≡ y.kind → is_eq (at_name n k y) ≡ true
key_same n k y p q = then_equal (slice_cmp nat_cmp n y.name.now) (ghosts.cmp k y.kind) (names_itself n y.name.now p) (subst (λ j. is_eq (ghosts.cmp k j) ≡ true) q (kind_itself k))

-- an entry has a kind and a name where its parts are these
named_exact : (k : Kind) (n : List ℕ) (e : Entry) → is_named k n e ≡ true → (n ≡ str_bytes e.name) × (told_of k ≡ told_kind e.kind)
named_exact k n e h =
    let (p, q) = both (same_kind k (kind_of e.kind)) (bytes_eq n (str_bytes e.name)) h in
    ((bytes_eq-Decides n (str_bytes e.name)).0 q, kinds_told k e.kind p)

named_same : (k : Kind) (n : List ℕ) (e : Entry) → n ≡ str_bytes e.name → told_of k ≡ told_kind e.kind → is_named k n e ≡ true
named_same k n e p q = rw (kinds_same k e.kind q) ((bytes_eq-Decides n (str_bytes e.name)).1 p)

-- an entry has a kind and a name where its key is equal to them
named_at : (k : Kind) (n : List ℕ) (y : Key) (e : Entry) → IsKeyOf y e → is_named k n e ≡ is_eq (at_name n (told_of k) y)
named_at k n y e is = same_test (is_named k n e) (is_eq (at_name n (told_of k) y))
    (λ h. let (p, q) = named_exact k n e h in key_same n (told_of k) y (p ∙ sym is.0) (q ∙ sym is.1))
    (λ h. let (p, q) = key_exact n (told_of k) y h in named_same k n e (p ∙ is.0) (q ∙ is.1))

-- ---- what stands at a key

found_step : (k : Kind) (n : List ℕ) (p : Kept) (ps : List Kept) (a b : Bool) → a ≡ b
    → newest_by (is_named k n) (listed ps) ≡ option_map (λ v. v.now.value) (lookup (is_at (at_name n (told_of k))) ps)
    → (if a then Some (entry_of p) else newest_by (is_named k n) (listed ps)) ≡ option_map (λ v. v.now.value) (cond b (Some p.1) (lookup (is_at (at_name n (told_of k))) ps))
found_step k n p ps true true h ih = refl
found_step k n p ps false false h ih = ih
found_step k n p ps true false h ih = cc
found_step k n p ps false true h ih = cc

-- the newest of a kind and a name stands at them
found_at : (k : Kind) (n : List ℕ) (es : List Kept) → AreKeyed es → newest_by (is_named k n) (listed es) ≡ option_map (λ v. v.now.value) (lookup (is_at (at_name n (told_of k))) es)
found_at k n [] h = refl
found_at k n (p ∷ ps) h = found_step k n p ps (is_named k n (entry_of p)) (is_at (at_name n (told_of k)) p.0) (named_at k n p.0 (entry_of p) h.0) (found_at k n ps h.1)

-- ---- one entry more

or_step : (b : Bool) (d : Entry) (x y z : Option Entry) → x ≡ option_or y z → (if b then Some d else x) ≡ option_or (if b then Some d else y) z
or_step true d x y z h = refl
or_step false d x y z h = h

or_none : (x : Option Entry) → x ≡ option_or x None
or_none None = refl
or_none (Some e) = refl

or_some : {A : Type 0} (f : A → Entry) (x : Option A) (z : Option Entry) → is_some x ≡ true → option_map f x ≡ option_or (option_map f x) z
or_some f None z h = cc
or_some f (Some e) z h = refl

-- the newest of two lists, the second of which is older
newest_append : (t : Entry → Bool) (es fs : List Entry) → newest_by t (es ++ fs) ≡ option_or (newest_by t es) (newest_by t fs)
newest_append t [] fs = refl
newest_append t (e ∷ es) fs = or_step (t e) e (newest_by t (es ++ fs)) (newest_by t es) (newest_by t fs) (newest_append t es fs)

-- what stands at the key of an entry with this kind and this name
found_there : (k : Kind) (n : List ℕ) (es : List Kept) (key : Key) (e : Entry) → AreKeyed es → IsKeyOf key e → is_named k n e ≡ true
    → newest_by (is_named k n) (listed es) ≡ option_map (λ v. v.now.value) (lookup (is_at (key_cmp key)) es)
found_there k n es key e keyed is h =
    let (p, q) = named_exact k n e h in
    found_at k n es keyed
    ∙ ap (λ m. option_map (λ v. v.now.value) (lookup (is_at (at_name m (told_of k))) es)) (p ∙ sym is.0)
    ∙ ap (λ j. option_map (λ v. v.now.value) (lookup (is_at (at_name key.name.now j)) es)) (q ∙ sym is.1)

-- one more of a name and a kind that are there changes no newest
pub stays : (es : List Kept) (key : Key) (e : Entry) → AreKept es → IsKeyOf key e → is_some (lookup (is_at (key_cmp key)) es) ≡ true → SameNewest (listed es) (listed es ++ e ∷ [])
stays es key e kept is there = λ k n. stays_at k n (is_named k n e) refl
  where
    stays_at : (k : Kind) (n : List ℕ) (b : Bool) → is_named k n e ≡ b → newest_by (is_named k n) (listed es) ≡ newest_by (is_named k n) (listed es ++ e ∷ [])
    stays_at k n true h =
        let at = found_there k n es key e kept.keyed is h in
        at ∙ or_some (λ v. v.now.value) (lookup (is_at (key_cmp key)) es) (newest_by (is_named k n) (e ∷ [])) there
        ∙ ap (λ o. option_or o (newest_by (is_named k n) (e ∷ []))) (sym at) ∙ sym (newest_append (is_named k n) (listed es) (e ∷ []))
    stays_at k n false h =
        or_none (newest_by (is_named k n) (listed es)) ∙ ap (option_or (newest_by (is_named k n) (listed es))) (sym (rw h)) ∙ sym (newest_append (is_named k n) (listed es) (e ∷ []))

absent : (f : Bor (Rc Entry Global) → Entry) (x : Option (Bor (Rc Entry Global))) → is_some x ≡ false → option_map f x ≡ None
absent f None h = refl
absent f (Some e) h = cc

not_equal : (b : Bool) → (b ≡ true → false ≡ true) → b ≡ false
not_equal true h = let no : false ≡ true = h refl in cc
not_equal false h = refl

-- the first of a name and a kind is the newest of them
pub put : (old new : List Kept) (key : Key) (v : Bor (Rc Entry Global)) → AreKept old → AreKeyed new → IsKeyOf key v.now.value → is_some (lookup (is_at (key_cmp key)) old) ≡ false
    → lookup (is_at (key_cmp key)) new ≡ Some v → ((q : Key) → is_at (key_cmp key) q ≡ false → lookup (is_at (key_cmp q)) new ≡ lookup (is_at (key_cmp q)) old)
    → SameNewest (listed new) (listed old ++ v.now.value ∷ [])
put old new key v kept keyed is none there others = λ k n. put_at k n (is_named k n v.now.value) refl
  where
    put_at : (k : Kind) (n : List ℕ) (b : Bool) → is_named k n v.now.value ≡ b → newest_by (is_named k n) (listed new) ≡ newest_by (is_named k n) (listed old ++ v.now.value ∷ [])
    put_at k n true h =
        let after = found_there k n new key v.now.value keyed is h in
        let before = found_there k n old key v.now.value kept.keyed is h ∙ absent (λ w. w.now.value) (lookup (is_at (key_cmp key)) old) none in
        after ∙ ap (option_map (λ w. w.now.value)) there
        ∙ sym (newest_append (is_named k n) (listed old) (v.now.value ∷ []) ∙ rw (before, h) refl)
    put_at k n false h =
        let q : Key = record { name = record { ref_ptr = key.name.ref_ptr; now = n }; kind = told_of k } in
        let apart : is_at (key_cmp key) q ≡ false = not_equal (is_eq (at_name key.name.now key.kind q)) (λ e.
        let (p, j) = key_exact key.name.now key.kind q e in
        sym h ∙ named_same k n v.now.value (sym p ∙ is.0) (sym j ∙ is.1)) in
        found_at k n new keyed ∙ ap (option_map (λ w. w.now.value)) (others q apart) ∙ sym (found_at k n old kept.keyed)
        ∙ or_none (newest_by (is_named k n) (listed old)) ∙ ap (option_or (newest_by (is_named k n) (listed old))) (sym (rw h)) ∙ sym (newest_append (is_named k n) (listed old) (v.now.value ∷ []))

keyed_step : (key : Key) (v : Bor (Rc Entry Global)) (p : Kept) (ps : List Kept) (o : Ordering) → key_cmp key p.0 ≡ o → IsKeyOf key v.now.value → AreKeyed (p ∷ ps) → AreKeyed (insert_entry key_cmp ps key v)
    → AreKeyed (match_ordering o ((key, v) ∷ p ∷ ps) ((p.0, v) ∷ ps) (p ∷ insert_entry key_cmp ps key v))
keyed_step key v p ps Less h is keyed ih = (is, keyed)
keyed_step key v p ps Equal h is keyed ih =
    let (m, j) = key_exact key.name.now key.kind p.0 (rw h refl) in
    ((sym m ∙ is.0, sym j ∙ is.1), keyed.1)
keyed_step key v p ps Greater h is keyed ih = (keyed.0, ih)

-- one entry more at its name and its kind
pub keyed_in : (es : List Kept) (key : Key) (v : Bor (Rc Entry Global)) → IsKeyOf key v.now.value → AreKeyed es → AreKeyed (insert_entry key_cmp es key v)
keyed_in [] key v is keyed = (is, tt)
keyed_in (p ∷ ps) key v is keyed = keyed_step key v p ps (key_cmp key p.0) refl is keyed (keyed_in ps key v is keyed.1)

cmp_same : (p q : Kept) → IsKeyOf p.0 (entry_of p) → IsKeyOf q.0 (entry_of q) → key_cmp p.0 q.0 ≡ entry_cmp (entry_of p) (entry_of q)
cmp_same p q h i = rw (h.0, h.1, i.0, i.1) (ap (ordering_then (slice_cmp nat_cmp (str_bytes (entry_of p).name) (str_bytes (entry_of q).name))) (in_order (told_kind (entry_of p).kind) (told_kind (entry_of q).kind)))

behind : (p : Kept) (ps : List Kept) → IsKeyOf p.0 (entry_of p) → AreKeyed ps → AllByRecursion (λ y. key_cmp p.0 y ≡ Less) (keys_of ps) → AllByRecursion (λ f. entry_cmp (entry_of p) f ≡ Less) (listed ps)
behind p [] h keyed less = tt
behind p (q ∷ qs) h keyed less = (sym (cmp_same p q h keyed.0) ∙ less.0, behind p qs h keyed.1 less.1)

-- entries whose keys are in order
pub ordered : (es : List Kept) → AreKeyed es → IsStrictlySortedBy key_cmp (keys_of es) → IsStrictlySortedBy entry_cmp (listed es)
unfolding IsStrictlySortedBy
ordered [] keyed h = tt
ordered (p ∷ ps) keyed h = (behind p ps keyed.0 keyed.1 h.0, ordered ps keyed.1 h.1)

-- at first none is there
pub none_kept : (es : List Kept) → es ≡ [] → AreKept es
unfolding IsStrictlySortedBy
none_kept es h = subst AreKept (sym h) (record { keyed = tt; order = tt })

-- ---- the walk over entries

newest_on : (xs ys zs : List Entry) → SameNewest xs ys → SameNewest (xs ++ zs) (ys ++ zs)
newest_on xs ys zs h = λ k n. newest_append (is_named k n) xs zs ∙ ap (λ o. option_or o (newest_by (is_named k n) zs)) (h k n) ∙ sym (newest_append (is_named k n) ys zs)

-- an entry that begins so was kept, if it is the newest
pub kept_turn : (test : Entry → Bool) (old new : List Kept) (e : Entry) (left older all : List Entry) → left ≡ e ∷ older → test e ≡ true → SameNewest (listed new) (listed old ++ e ∷ [])
    → SameNewest (listed old ++ filter test left) all → SameNewest (listed new ++ filter test older) all
kept_turn test old new e left older all is begins one inv = λ k n.
    newest_on (listed new) (listed old ++ e ∷ []) (filter test older) one k n
    ∙ ap (newest_by (is_named k n)) (append_assoc (listed old) (e ∷ []) (filter test older))
    ∙ ap (λ (es : List Entry). newest_by (is_named k n) (listed old ++ es)) (sym (rw (is, begins) refl))
    ∙ inv k n

-- one that doesn't is passed over
pub passed_turn : (test : Entry → Bool) (old : List Kept) (e : Entry) (left older all : List Entry) → left ≡ e ∷ older → test e ≡ false
    → SameNewest (listed old ++ filter test left) all → SameNewest (listed old ++ filter test older) all
passed_turn test old e left older all is begins inv = λ k n.
    ap (λ (es : List Entry). newest_by (is_named k n) (listed old ++ es)) (sym (rw (is, begins) refl)) ∙ inv k n
