-- What is said of a prefix.
use Rattle.std.proofs.Common.{◌≡◌, ◌≢◌, ◌<◌, inl, inr, ℕ, zero, suc, Bool, true, false, cond, List, [], ◌∷◌, All, Contains, length, map, take, min, refl, sym, ◌∙◌, ap, subst, arith, Ok, Err, Option, Some, None, is_some, IsSomeAnd, if◌then◌else◌, slice_index_or, nat_eq}
use Rattle.std.specs.Prelude.{◌&&◌}
use Rattle.std.specs.List.{AllZip, AllByRecursion, filter, starts_with}
use Rattle.std.specs.List.Sorted.{IsStrictlySortedBy}
use Rattle.std.specs.Str.{bytes_eq}
use Rattle.std.specs.declared.cmp.Ordering.{Ordering}
use Rattle.std.specs.declared.cmp.Ordering.TheVariants.{Less}
use Rattle.std.proofs.lemmas.Bool.{ltb-true}
use Rattle.std.proofs.lemmas.List.{length-take, length-map}
use Rattle.std.proofs.lemmas.Slice.Zip.{AllZip-long}
use Rattle.std.proofs.lemmas.Slice.Eq.{bytes_eq-Decides}
use Rattle.std.proofs.lemmas.List.Elements.{All-from_recursion, recursion_from_All}
use Rattle.text_terms.specs.Bytes.{str_bytes}
use Rattle.query_model.specs.Prefixes.{is_name_prefix}
use Rattle.query_model.specs.PrefixParts.{modules_of, beginning_of}
use Rattle.service_model.specs.Replies as said
use Rattle.service_model.specs.Completions.{kind_words, MayBecome, ArePage, CompletedBy}
use Rattle.service_model.specs.Completions as model
use Rattle.env_table.specs.declared.entries.Entry.{Entry}
use Rattle.env_table.specs.declared.entries.Kind.{Kind}
use Rattle.env_table.specs.declared.entries.Kind.TheVariants as kind
use Rattle.env_table.specs.Views.{is_named, kind_of}
use Rattle.name_queries.specs.NewestNames.{printed, entry_cmp, begins_with, SameNewest}
use Rattle.name_queries.specs.Environments.{env_at, names_behind}
use Rattle.name_queries.specs.Completions.{IsTold, Completes, MeetsPrefix}
use Rattle.query_engine.specs.declared.asked.Asked.{Asked}
use Rattle.query_engine.specs.declared.asked.QueryFault.{QueryFault}
use Rattle.query_engine.specs.declared.asked.QueryFault.TheVariants as fault
use Rattle.name_queries.specs.declared.completions.Completions.{Completions}
use Rattle.name_queries.specs.declared.newest_names.CompletionKind.{CompletionKind}
use Rattle.name_queries.specs.declared.newest_names.CompletionKind.TheVariants as told
use Rattle.name_queries.specs.declared.shown_entries.Completion.{Completion}
use Rattle.session.specs.Lines.{failure_in}
use Rattle.session.specs.Queries.{said_entry}

-- ---- where a prefix has no entries

-- names stand behind no module at all
some_modules : (a : Asked) (o : ℕ) (ms : List (List ℕ)) → names_behind (env_at a o) ms ≡ None → ms ≢ []
some_modules a o [] none = λ e. cc
some_modules a o (m ∷ ms) none = λ e. cc

pub prefix_fails : (a : Asked) (o : ℕ) (prefix : List ℕ) (e : QueryFault) (s : said.Said) → MeetsPrefix a o prefix (Err e) → failure_in e ≡ Some s → CompletedBy (is_name_prefix prefix) prefix s
prefix_fails a o prefix fault.NotAName s meets is = let same : said.not_a_name ≡ s = cc in subst (λ b. CompletedBy b prefix s) (sym meets) (sym same)
prefix_fails a o prefix (fault.Unbound ident) s meets is =
    let same : said.unbound (str_bytes ident) ≡ s = cc in
    subst (λ b. CompletedBy b prefix s) (sym meets.0) (inl (some_modules a o (modules_of prefix) meets.1, sym same ∙ ap said.unbound meets.2))
prefix_fails a o prefix fault.NoNode s meets is = absurd meets
prefix_fails a o prefix fault.NoMemory s meets is = cc

-- ---- names that begin so

right_holds : (a b : Bool) → (a && b) ≡ true → b ≡ true
right_holds true b h = h
right_holds false b h = cc

-- an entry has its own kind and name
named_itself : (e : Entry) (k : Kind) → e.kind ≡ k → is_named (kind_of e.kind) (str_bytes e.name) e ≡ true
named_itself e kind.Value h = rw (h) ((bytes_eq-Decides (str_bytes e.name) (str_bytes e.name)).1 refl)
named_itself e kind.Constructor h = rw (h) ((bytes_eq-Decides (str_bytes e.name) (str_bytes e.name)).1 refl)
named_itself e kind.Label h = rw (h) ((bytes_eq-Decides (str_bytes e.name) (str_bytes e.name)).1 refl)
named_itself e kind.TypeName h = rw (h) ((bytes_eq-Decides (str_bytes e.name) (str_bytes e.name)).1 refl)
named_itself e kind.Module h = rw (h) ((bytes_eq-Decides (str_bytes e.name) (str_bytes e.name)).1 refl)
named_itself e kind.ModuleType h = rw (h) ((bytes_eq-Decides (str_bytes e.name) (str_bytes e.name)).1 refl)

found_step : (e : Entry) (b : Bool) (o : Option Entry) → is_some o ≡ true → is_some (if b then Some e else o) ≡ true
found_step e true o h = refl
found_step e false o h = h

-- the first entry that passes a test
abbrev first_of : (Entry → Bool) → List Entry → Option Entry
first_of test [] = None
first_of test (e ∷ es) = if test e then Some e else first_of test es

-- where an entry passes a test, one is found
found_among : (test : Entry → Bool) (es : List Entry) (k : ℕ) (d : Entry) → k < length es → test (slice_index_or es k d) ≡ true → is_some (first_of test es) ≡ true
found_among test [] k d lt h = absurd (omega (arith, lt))
found_among test (e ∷ es) zero d lt h = rw (h) refl
found_among test (e ∷ es) (suc k) d lt h = found_step e (test e) (first_of test es) (found_among test es k d (omega (arith, lt)) h)

-- an entry that passes a test and another
abbrev Passes : (Entry → Bool) → (Entry → Bool) → Type 0
Passes test p = (f : Entry) × (test f ≡ true) × (p f ≡ true)

passes_step : (test p : Entry → Bool) (e : Entry) (es : List Entry) (b c : Bool) → p e ≡ b → test e ≡ c → (is_some (first_of test es) ≡ true → Passes test p)
    → is_some (cond b (if c then Some e else first_of test es) (first_of test es)) ≡ true → Passes test p
passes_step test p e es true true so passes later h = (e, passes, so)
passes_step test p e es true false so passes later h = later h
passes_step test p e es false c so passes later h = later h

first_cond : (test : Entry → Bool) (e : Entry) (es : List Entry) (b : Bool) → first_of test (cond b (e ∷ es) es) ≡ cond b (if test e then Some e else first_of test es) (first_of test es)
first_cond test e es true = refl
first_cond test e es false = refl

-- what is found among those that pass one test passes both
found_begins : (test p : Entry → Bool) (es : List Entry) → is_some (first_of test (filter p es)) ≡ true → Passes test p
found_begins test p [] h = cc
found_begins test p (e ∷ es) h =
    passes_step test p e (filter p es) (p e) (test e) refl refl (found_begins test p es) (subst (λ o. is_some o ≡ true) (first_cond test e (filter p es) (p e)) h)

-- an entry of a name begins as the name does
begins_alike : (beginning n : List ℕ) (f : Entry) → n ≡ str_bytes f.name → begins_with beginning f ≡ true → starts_with nat_eq n beginning ≡ true
begins_alike beginning n f is h = subst (λ m. starts_with nat_eq m beginning ≡ true) (sym is) h

-- each of the newest begins so
all_begin : (beginning : List ℕ) (all es : List Entry) → SameNewest all (filter (begins_with beginning) es) → All (λ e. begins_with beginning e ≡ true) all
all_begin beginning all es same k d lt =
    let e = slice_index_or all k d in
    let test : Entry → Bool = is_named (kind_of e.kind) (str_bytes e.name) in
    let there : is_some (first_of test all) ≡ true = found_among test all k d lt (named_itself e e.kind refl) in
    let (f, named, begins) = found_begins test (begins_with beginning) es (subst (λ o. is_some o ≡ true) (same (kind_of e.kind) (str_bytes e.name)) there) in
    begins_alike beginning (str_bytes e.name) f ((bytes_eq-Decides (str_bytes e.name) (str_bytes f.name)).0 (right_holds _ (bytes_eq (str_bytes e.name) (str_bytes f.name)) named)) begins

-- ---- names as they are said

-- a kind has its word
has_word : (k : CompletionKind) → Contains kind_words (printed k)
has_word told.Constructor = (0, omega arith, refl)
has_word told.Label = (1, omega arith, refl)
has_word told.Module = (2, omega arith, refl)
has_word told.ModuleType = (3, omega arith, refl)
has_word told.Type = (4, omega arith, refl)
has_word told.Value = (5, omega arith, refl)

module _ (a : Asked) (env : List Entry) where
  -- names that are told may be said
  each_said : (beginning : List ℕ) (es : List Entry) (cs : List Completion) → AllZip (IsTold a env) es cs → AllByRecursion (λ e. begins_with beginning e ≡ true) es → AllByRecursion (MayBecome beginning) (map said_entry cs)
  each_said beginning [] [] h begins = tt
  each_said beginning [] (c ∷ cs) h begins = absurd h
  each_said beginning (e ∷ es) [] h begins = absurd h
  each_said beginning (e ∷ es) (c ∷ cs) h begins = (record { name = begins_alike beginning (str_bytes c.name) e h.0.name begins.0; kind = has_word c.kind }, each_said beginning es cs h.1 begins.1)

  same_order : (e f : Entry) (c d : Completion) → IsTold a env e c → IsTold a env f d → model.entry_cmp (said_entry c) (said_entry d) ≡ entry_cmp e f
  same_order e f c d h i = rw (h.name, h.kind, i.name, i.kind) refl

  behind_said : (e : Entry) (c : Completion) (es : List Entry) (cs : List Completion) → IsTold a env e c → AllZip (IsTold a env) es cs → AllByRecursion (λ f. entry_cmp e f ≡ Less) es
      → AllByRecursion (λ s. model.entry_cmp (said_entry c) s ≡ Less) (map said_entry cs)
  behind_said e c [] [] is h less = tt
  behind_said e c [] (d ∷ ds) is h less = absurd h
  behind_said e c (f ∷ fs) [] is h less = absurd h
  behind_said e c (f ∷ fs) (d ∷ ds) is h less = (same_order e f c d is h.0 ∙ less.0, behind_said e c fs ds is h.1 less.1)

  -- they keep their order
  order_said : (es : List Entry) (cs : List Completion) → AllZip (IsTold a env) es cs → IsStrictlySortedBy entry_cmp es → IsStrictlySortedBy model.entry_cmp (map said_entry cs)
  unfolding IsStrictlySortedBy
  order_said [] [] h rise = tt
  order_said [] (c ∷ cs) h rise = absurd h
  order_said (e ∷ es) [] h rise = absurd h
  order_said (e ∷ es) (c ∷ cs) h rise = (behind_said e c es cs h.0 h.1 rise.0, order_said es cs h.1 rise.1)

-- ---- the first of a list

first_all : {A : Type 0} (P : A → Type 0) (n : ℕ) (xs : List A) → AllByRecursion P xs → AllByRecursion P (take n xs)
first_all P zero xs h = tt
first_all P (suc n) [] h = tt
first_all P (suc n) (x ∷ xs) h = (h.0, first_all P n xs h.1)

first_rise : {A : Type 0} (cmp : A → A → Ordering) (n : ℕ) (xs : List A) → IsStrictlySortedBy cmp xs → IsStrictlySortedBy cmp (take n xs)
unfolding IsStrictlySortedBy
first_rise cmp zero xs h = tt
first_rise cmp (suc n) [] h = tt
first_rise cmp (suc n) (x ∷ xs) h = (first_all (λ y. cmp x y ≡ Less) n xs h.0, first_rise cmp n xs h.1)

-- ---- the entries of a prefix

page : (a : Asked) (env : List Entry) (beginning : List ℕ) (c : Completions) (scope : List Entry) → Completes a env beginning c scope → ArePage beginning (map said_entry c.entries.items) c.more
page a env beginning c scope h =
    let told = h.told.first in
    let begins = recursion_from_All (λ e. begins_with beginning e ≡ true) h.all (all_begin beginning h.all scope h.newest.newest) in
    let long : length c.entries.items ≡ length (take 200 h.all) = AllZip-long (IsTold a env) (take 200 h.all) c.entries.items told in
    let count : length (take 200 h.all) ≡ min 200 (length h.all) = length-take 200 h.all in
    let same : length (map said_entry c.entries.items) ≡ length c.entries.items = length-map c.entries.items said_entry in
    record {
      each = All-from_recursion (MayBecome beginning) (map said_entry c.entries.items) (each_said a env beginning (take 200 h.all) c.entries.items told (first_all (λ e. begins_with beginning e ≡ true) 200 h.all begins));
      order = order_said a env (take 200 h.all) c.entries.items told (first_rise entry_cmp 200 h.all h.newest.order);
      few = omega (arith, long, count, same);
      full = λ more. let past : 200 < length h.all = ltb-true 200 (length h.all) (sym h.told.more ∙ more) in omega (arith, long, count, same, past);
    }

page_of : (a : Asked) (env : List Entry) (beginning : List ℕ) (c : Completions) (o : Option (List Entry)) → IsSomeAnd o (Completes a env beginning c) → ArePage beginning (map said_entry c.entries.items) c.more
page_of a env beginning c None h = absurd h
page_of a env beginning c (Some scope) h = page a env beginning c scope h

pub prefix_completed : (a : Asked) (o : ℕ) (prefix : List ℕ) (c : Completions) (es : List said.Entry) → MeetsPrefix a o prefix (Ok c) → es ≡ map said_entry c.entries.items → CompletedBy (is_name_prefix prefix) prefix (said.entries es c.more)
prefix_completed a o prefix c es meets is =
    let found = page_of a (env_at a o) (beginning_of prefix) c (names_behind (env_at a o) (modules_of prefix)) meets.1 in
    subst (λ b. CompletedBy b prefix (said.entries es c.more)) (sym meets.0)
    (inr (es, c.more, subst (λ (xs : List said.Entry). ArePage (beginning_of prefix) xs c.more) (sym is) found, refl))
