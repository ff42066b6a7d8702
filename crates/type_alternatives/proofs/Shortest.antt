-- What the search by levels finds is the path by which a part is written.
use Rattle.std.proofs.Common.{◌≡◌, ◌⊎◌, inl, inr, ℕ, zero, suc, ◌+◌, ◌<◌, Bool, true, false, List, [], ◌∷◌, ◌++◌, map, length, codes, Option, Some, None, option_map, append_assoc, refl, sym, ◌∙◌, ap, subst, arith}
use Rattle.std.specs.Prelude.{if◌then◌else◌}
use Rattle.std.specs.Str.{bytes_eq}
use Rattle.std.proofs.lemmas.Slice.Eq.{bytes_eq-Decides}
use Rattle.text_terms.specs.Bytes.{str_bytes}
use Rattle.type_model.specs.Types.{Path}
use Rattle.signature_model.specs.Declarations.{Name}
use Rattle.signature_model.specs.Entries as rules
use Rattle.signature_model.specs.Lookups.{ScopeOf, known, unknown_scope, no_scope, newest_by, through, scope_by}
use Rattle.signature_model.specs.Records.{is_of_type}
use Rattle.type_print_model.specs.Paths.{NamePath, Reaches, IsNewer, GoesBefore, age_in, ages}
use Rattle.env_table.specs.declared.entries.Entry.{Entry}
use Rattle.env_table.specs.Views.{is_named, inside}
use Rattle.type_print.specs.Paths.{is_module, among, contents, Scoped, modules_behind, way_text}
use Rattle.type_print.proofs.Ranks.{tells, opt_tells, both}
use Rattle.type_print.proofs.Levels.{IsIn, outward, onto, out_onto, onto_out, length_onto, length_out, ages_behind, newer_more, newer_not, newer_self, Ascends, children, IsSo, level, level_is, spelled_way, comes_found}
use Rattle.type_alternatives.specs.Parts.{part_at, part_of, part_naming, IsWritten}
use Rattle.type_alternatives.specs.Levels.{Searched, finds, first_path, modules_among, next_level}

-- ---- the levels of the code are those of the definition, with the text of each way

abbrev pub shown_one : Scoped → Searched
shown_one s = (way_text s.0, s.1)

abbrev pub shown : List Scoped → List Searched
shown q = map shown_one q

shown_more : (q r : List Scoped) → shown (q ++ r) ≡ shown q ++ shown r
shown_more [] r = refl
shown_more (s ∷ q) r = ap (λ xs. shown_one s ∷ xs) (shown_more q r)

shown_modules : (way seen : List Name) (es : List Entry) → shown (modules_behind way seen es) ≡ modules_among (way_text way) seen es
shown_modules way seen [] = refl
shown_modules way seen (e ∷ es) = with_entry way seen e es (is_module e) (among (str_bytes e.name) seen) (shown_modules way seen es) (shown_modules way (str_bytes e.name ∷ seen) es) where
  with_entry : (way seen : List Name) (e : Entry) (es : List Entry) (m a : Bool) → shown (modules_behind way seen es) ≡ modules_among (way_text way) seen es → shown (modules_behind way (str_bytes e.name ∷ seen) es) ≡ modules_among (way_text way) (str_bytes e.name ∷ seen) es →
      shown (if m then (if a then modules_behind way seen es else (str_bytes e.name ∷ way, contents e) ∷ modules_behind way (str_bytes e.name ∷ seen) es) else modules_behind way seen es)
      ≡ (if m then (if a then modules_among (way_text way) seen es else (way_text way ++ str_bytes e.name ++ codes ".", contents e) ∷ modules_among (way_text way) (str_bytes e.name ∷ seen) es) else modules_among (way_text way) seen es)
  with_entry way seen e es true true h i = h
  with_entry way seen e es true false h i = ap (λ xs. (way_text way ++ str_bytes e.name ++ codes ".", contents e) ∷ xs) i
  with_entry way seen e es false a h i = h

-- the modules in those of a level
pub shown_next : (q : List Scoped) → next_level (shown q) ≡ shown (children q)
shown_next [] = refl
shown_next (s ∷ q) =
    let here = shown_modules s.0 [] s.1 in
    let later = shown_next q in
    rw (later, ← here) (sym (shown_more (modules_behind s.0 [] s.1) (children q)))

-- the way to the first module in which a test holds
abbrev pub first_way : (List Entry → Bool) → List Scoped → Option (List Name)
first_way test [] = None
first_way test (s ∷ q) = if test s.1 then Some s.0 else first_way test q

pub shown_first : (test : List Entry → Bool) (q : List Scoped) → first_path test (shown q) ≡ option_map way_text (first_way test q)
shown_first test [] = refl
shown_first test (s ∷ q) = of_test (test s.1) s.0 (first_path test (shown q)) (first_way test q) (shown_first test q) where
  of_test : (b : Bool) (way : List Name) (f : Option (List ℕ)) (g : Option (List Name)) → f ≡ option_map way_text g → (if b then Some (way_text way) else f) ≡ option_map way_text (if b then Some way else g)
  of_test true way f g h = refl
  of_test false way f g h = h

-- ---- parts are looked for in the same modules as types

through_same : (s : ScopeOf Entry) (go to : List Entry → ScopeOf Entry) → ((es : List Entry) → go es ≡ to es) → through s go ≡ through s to
through_same (known es) go to h = h es
through_same unknown_scope go to h = refl
through_same no_scope go to h = refl

behind_newest : (o : Option Entry) (go to : List Entry → ScopeOf Entry) → ((es : List Entry) → go es ≡ to es) →
    ◌≡◌ {A = ScopeOf Entry} (elim o [ None ↦ no_scope | Some e ↦ through (inside e) go ]) (elim o [ None ↦ no_scope | Some e ↦ through (inside e) to ])
behind_newest None go to h = refl
behind_newest (Some e) go to h = through_same (inside e) go to h

same_scope : (kind : rules.Kind) (n : Name) (k : ℕ) (ms : List Name) (env : List Entry) → scope_by (part_naming kind n k).is_named inside env ms ≡ scope_by is_named inside env ms
same_scope kind n k [] env = refl
same_scope kind n k (m ∷ ms) env =
    behind_newest (newest_by (is_named rules.module_kind m) env) (λ es. scope_by (part_naming kind n k).is_named inside es ms) (λ es. scope_by is_named inside es ms) (same_scope kind n k ms)

-- the ages of a path to a part are those of its modules and that of the part
ages_end : (kind : rules.Kind) (n : Name) (k : ℕ) (env : List Entry) (way ms : List Name) (last : Name) →
    ages_behind env way ++ ages (part_naming kind n k) env (outward way) ms last ≡ ages_behind env (onto ms way) ++ age_in (is_named kind last) (scope_by is_named inside env (outward (onto ms way))) ∷ []
ages_end kind n k env way [] last = ap (λ s. ages_behind env way ++ age_in (is_named kind last) s ∷ []) (same_scope kind n k (outward way) env)
ages_end kind n k env way (m ∷ ms) last =
    ap (λ s. ages_behind env way ++ age_in (is_named rules.module_kind m) s ∷ ages (part_naming kind n k) env (outward way ++ m ∷ []) ms last) (same_scope kind n k (outward way) env)
    ∙ (sym (append_assoc (ages_behind env way) (age_in (is_named rules.module_kind m) (scope_by is_named inside env (outward way)) ∷ []) (ages (part_naming kind n k) env (outward way ++ m ∷ []) ms last))
    ∙ ages_end kind n k env (m ∷ way) ms last)

ages_are : (kind : rules.Kind) (n : Name) (k : ℕ) (env : List Entry) (way ms : List Name) (last : Name) → onto ms [] ≡ way →
    ages (part_naming kind n k) env [] ms last ≡ ages_behind env way ++ age_in (is_named kind last) (scope_by is_named inside env (outward way)) ∷ []
ages_are kind n k env way ms last e = ages_end kind n k env [] ms last ∙ ap (λ w. ages_behind env w ++ age_in (is_named kind last) (scope_by is_named inside env (outward w)) ∷ []) e

-- ---- where a part is found, a path reaches it, and the other way round

-- the newest passes the test
newest_passes : (test : Entry → Bool) (es : List Entry) (e : Entry) → newest_by test es ≡ Some e → test e ≡ true
newest_passes test [] e h = absurd (cc)
newest_passes test (x ∷ es) e h = elim (tells (test x)) [
  | inl t ↦ let same : Some x ≡ Some e = rw t at h in let is : x ≡ e = cc in subst (λ y. test y ≡ true) is t
  | inr f ↦ newest_passes test es e (rw f at h)
]

-- what is of an origin is it
origin_is : (o : Path) (m : Option Path) → is_of_type o m ≡ true → m ≡ Some o
origin_is o None h = absurd (cc)
origin_is o (Some p) h = ap Some (sym ((bytes_eq-Decides o p).0 h))

is_origin : (o : Path) → is_of_type o (Some o) ≡ true
is_origin o = (bytes_eq-Decides o o).1 refl

-- an entry of the kind and name that is the part at the place is the part of this name
part_named : (kind : rules.Kind) (n : Name) (k : ℕ) (e : Entry) → is_named kind n e ≡ true → part_of n k e ≡ part_at k e
part_named kind n k e h = let named = (both _ (bytes_eq n (str_bytes e.name)) h).1 in rw named refl

-- a part of this name has it, and is the part at the place
has_name : (n : Name) (k : ℕ) (o : Path) (e : Entry) → part_of n k e ≡ Some o → (n ≡ str_bytes e.name) × (part_at k e ≡ Some o)
has_name n k o e h = elim (tells (bytes_eq n (str_bytes e.name))) [
  | inl t ↦ ((bytes_eq-Decides n (str_bytes e.name)).0 t, rw t at h)
  | inr f ↦ let none : None ≡ Some o = rw f at h in absurd (cc)
]

-- a path that reaches a part ends with its name, and finds it in what its modules come to
record Comes (kind : rules.Kind) (n : Name) (k : ℕ) (env : List Entry) (o : Path) (p : NamePath) : Type 0 where
  pub ends : p.name ≡ n
  pub inner : List Entry
  pub scope : scope_by is_named inside env p.modules ≡ known inner
  pub found : finds kind n k o inner ≡ true

comes : (kind : rules.Kind) (n : Name) (k : ℕ) (env : List Entry) (o : Path) (p : NamePath) → Reaches (part_naming kind n k) env o p → Comes kind n k env o p
comes kind n k env o p r =
    let (inner, scope, newest) = comes_found (scope_by (part_naming kind n k).is_named inside env p.modules) (is_named kind p.name) r.entry r.found in
    let part = has_name n k o r.entry r.makes in
    let own = (bytes_eq-Decides p.name (str_bytes r.entry.name)).0 (both _ _ (newest_passes (is_named kind p.name) inner r.entry newest)).1 in
    let ends : p.name ≡ n = own ∙ sym part.0 in
    let its : newest_by (is_named kind n) inner ≡ Some r.entry = subst (λ m. newest_by (is_named kind m) inner ≡ Some r.entry) ends newest in
    record { ends = ends; inner = inner; scope = sym (same_scope kind n k p.modules env) ∙ scope; found = rw (its, part.1) (is_origin o) }

reaches : (kind : rules.Kind) (n : Name) (k : ℕ) (env : List Entry) (o : Path) (ms : List Name) (inner : List Entry) → scope_by is_named inside env ms ≡ known inner → finds kind n k o inner ≡ true →
    Reaches (part_naming kind n k) env o (record { modules = ms; name = n })
reaches kind n k env o ms inner scope h = elim (opt_tells (newest_by (is_named kind n) inner)) [
  | inl none ↦ let bad : is_of_type o None ≡ true = rw none at h in absurd (cc)
  | inr (e, some) ↦
      let is : is_of_type o (part_at k e) ≡ true = rw some at h in
      let its = same_scope kind n k ms env ∙ scope in
      record { entry = e; found = rw (its, some) refl; makes = part_named kind n k e (newest_passes (is_named kind n) inner e some) ∙ origin_is o (part_at k e) is }
]

-- ---- the first level in which it is found

none_found : (test : List Entry → Bool) (q : List Scoped) (t : Scoped) → first_way test q ≡ None → IsIn t q → test t.1 ≡ true → ⊥
none_found test [] t h i f = i
none_found test (s ∷ q) t h i f = elim (tells (test s.1)) [
  | inl there ↦ let bad : Some s.0 ≡ None = rw there at h in absurd (cc)
  | inr away ↦ elim i [
    | inl e ↦ let also : test s.1 ≡ true = subst (λ (u : Scoped). test u.1 ≡ true) e f in absurd (cc)
    | inr later ↦ none_found test q t (rw away at h) later f
  ]
]

-- the first in which it is found goes before each other
record IsFirst (test : List Entry → Bool) (env : List Entry) (q : List Scoped) (way : List Name) : Type 0 where
  pub inner : List Entry
  pub stands : IsIn (way, inner) q
  pub found : test inner ≡ true
  pub first : (t : Scoped) → IsIn t q → test t.1 ≡ true → (t.0 ≡ way) ⊎ IsNewer (ages_behind env way) (ages_behind env t.0)

first_is : (test : List Entry → Bool) (env : List Entry) (q : List Scoped) (way : List Name) → Ascends env q → first_way test q ≡ Some way → IsFirst test env q way
first_is test env [] way h e = absurd (cc)
first_is test env (s ∷ q) way h e = elim (tells (test s.1)) [
  | inl there ↦
      let same : s.0 ≡ way = (let some : Some s.0 ≡ Some way = rw there at e in cc) in
      record {
        inner = s.1;
        stands = inl (ap (λ w. (w, s.1)) (sym same));
        found = there;
        first = λ t i f. elim i [ inl is ↦ inl (ap (λ (u : Scoped). u.0) is ∙ same) | inr later ↦ inr (subst (λ w. IsNewer (ages_behind env w) (ages_behind env t.0)) same (h.0 t later)) ];
      }
  | inr away ↦
      let r = first_is test env q way h.1 (rw away at e) in
      record {
        inner = r.inner;
        stands = inr r.stands;
        found = r.found;
        first = λ t i f. elim i [ inl is ↦ (let also : test s.1 ≡ true = subst (λ (u : Scoped). test u.1 ≡ true) is f in absurd (cc)) | inr later ↦ r.first t later f ];
      }
]

-- a path that reaches a part stands in its level
in_level : (kind : rules.Kind) (n : Name) (k : ℕ) (env : List Entry) (o : Path) (q : NamePath) → Reaches (part_naming kind n k) env o q →
    (inner : List Entry) × IsIn (onto q.modules [], inner) (level env (length q.modules)) × (finds kind n k o inner ≡ true)
in_level kind n k env o q r =
    let c = comes kind n k env o q r in
    let size : length (onto q.modules []) ≡ length q.modules = (let h = length_onto q.modules [] in omega arith) in
    (c.inner, (level_is env (length q.modules)).whole (onto q.modules []) c.inner size (ap (scope_by is_named inside env) (out_onto q.modules []) ∙ c.scope), c.found)

-- what is found in an inner list is known, since something is found in it
known_inner : (kind : rules.Kind) (n : Name) (k : ℕ) (env : List Entry) (o : Path) (way : List Name) (inner : List Entry) → IsSo env (way, inner) → finds kind n k o inner ≡ true → scope_by is_named inside env (outward way) ≡ known inner
known_inner kind n k env o way inner (inr e) f = e
known_inner kind n k env o way inner (inl none) f = let bad : finds kind n k o [] ≡ true = subst (λ es. finds kind n k o es ≡ true) none f in absurd (cc)

-- no path that reaches the part goes before the one that is found
none_before : (kind : rules.Kind) (n : Name) (k : ℕ) (env : List Entry) (o : Path) (at : ℕ) (way : List Name) → ((j : ℕ) → j < at → first_way (finds kind n k o) (level env j) ≡ None) → IsFirst (finds kind n k o) env (level env at) way → length way ≡ at →
    (q : NamePath) → Reaches (part_naming kind n k) env o q → GoesBefore (part_naming kind n k) env q (record { modules = outward way; name = n }) → ⊥
none_before kind n k env o at way before first size q r (inl shorter) =
    let (inner, stands, f) = in_level kind n k env o q r in
    let l = length_out way in
    none_found (finds kind n k o) (level env (length q.modules)) (onto q.modules [], inner) (before (length q.modules) (omega arith)) stands f
none_before kind n k env o at way before first size q r (inr (long, newer)) =
    let (inner, stands, f) = in_level kind n k env o q r in
    let l = length_out way in
    let same : length q.modules ≡ at = omega arith in
    let way_of_q = onto q.modules [] in
    let mine = ages_are kind n k env way (outward way) n (onto_out way) in
    let its = ages_are kind n k env way_of_q q.modules q.name refl in
    let ordered : IsNewer (ages_behind env way_of_q ++ age_in (is_named kind q.name) (scope_by is_named inside env (outward way_of_q)) ∷ []) (ages_behind env way ++ age_in (is_named kind n) (scope_by is_named inside env (outward way)) ∷ []) =
    subst (λ is. IsNewer is (ages_behind env way ++ age_in (is_named kind n) (scope_by is_named inside env (outward way)) ∷ [])) its (subst (λ js. IsNewer (ages (part_naming kind n k) env [] q.modules q.name) js) mine newer) in
    let c = comes kind n k env o q r in
    elim (first.first (way_of_q, inner) (subst (λ j. IsIn (way_of_q, inner) (level env j)) same stands) f) [
      | inl one ↦ newer_self (ages_behind env way ++ age_in (is_named kind n) (scope_by is_named inside env (outward way)) ∷ [])
          (subst (λ m. IsNewer (ages_behind env way ++ age_in (is_named kind m) (scope_by is_named inside env (outward way)) ∷ []) (ages_behind env way ++ age_in (is_named kind n) (scope_by is_named inside env (outward way)) ∷ [])) c.ends
          (subst (λ w. IsNewer (ages_behind env w ++ age_in (is_named kind q.name) (scope_by is_named inside env (outward w)) ∷ []) (ages_behind env way ++ age_in (is_named kind n) (scope_by is_named inside env (outward way)) ∷ [])) one ordered))
      | inr other ↦ newer_not _ _ ordered (newer_more (ages_behind env way) (ages_behind env way_of_q) _ _ other)
    ]

-- ---- the answer of the search

-- what is found first in a level, and in none before it, is the path
pub written_found : (kind : rules.Kind) (n : Name) (k : ℕ) (env : List Entry) (o : Path) (at : ℕ) (path : List ℕ) → first_path (finds kind n k o) (shown (level env at)) ≡ Some path → ((j : ℕ) → j < at → first_way (finds kind n k o) (level env j) ≡ None) →
    IsWritten (part_naming kind n k) env o (Some (path ++ n))
written_found kind n k env o at path e before = elim (opt_tells (first_way (finds kind n k o) (level env at))) [
  | inl none ↦ let bad : option_map way_text None ≡ Some path = rw none at (sym (shown_first (finds kind n k o) (level env at)) ∙ e) in absurd (cc)
  | inr (way, some) ↦
      let text : Some (way_text way) ≡ Some path = rw some at (sym (shown_first (finds kind n k o) (level env at)) ∙ e) in
      let same : path ≡ way_text way = cc in
      let l = level_is env at in
      let first = first_is (finds kind n k o) env (level env at) way l.ascends some in
      let scope = known_inner kind n k env o way first.inner (l.so (way, first.inner) first.stands) first.found in (
        record { modules = outward way; name = n },
        record {
          reaches = reaches kind n k env o (outward way) first.inner scope first.found;
          first = λ q r goes. none_before kind n k env o at way before first (l.sizes (way, first.inner) first.stands) q r goes;
        },
        ap (λ t. t ++ n) same ∙ spelled_way way n,
      )
]

-- behind an empty level all are empty
empty_on : (env : List Entry) (at i : ℕ) → level env at ≡ [] → level env (i + at) ≡ []
empty_on env at zero h = let e : at ≡ 0 + at = omega arith in subst (λ m. level env m ≡ []) e h
empty_on env at (suc i) h = let e : suc (i + at) ≡ suc i + at = omega arith in subst (λ m. level env m ≡ []) e (ap children (empty_on env at i h))

no_shown : (q : List Scoped) → shown q ≡ [] → q ≡ []
no_shown [] h = refl
no_shown (s ∷ q) h = absurd (cc)

-- where nothing was found up to an empty level, no path reaches the part
pub written_nowhere : (kind : rules.Kind) (n : Name) (k : ℕ) (env : List Entry) (o : Path) (at : ℕ) → shown (level env at) ≡ [] → ((j : ℕ) → j < at → first_way (finds kind n k o) (level env j) ≡ None) → IsWritten (part_naming kind n k) env o None
written_nowhere kind n k env o at empty before p r =
    let (inner, stands, f) = in_level kind n k env o p r in
    elim (below_or_from (length p.modules) at) [
      | inl less ↦ none_found (finds kind n k o) (level env (length p.modules)) (onto p.modules [], inner) (before (length p.modules) less) stands f
      | inr (i, from) ↦ subst (λ q. IsIn (onto p.modules [], inner) q) (ap (level env) from ∙ empty_on env at i (no_shown (level env at) empty)) stands
    ] where
      below_or_from : (j at : ℕ) → (j < at) ⊎ ((i : ℕ) × (j ≡ i + at))
      below_or_from j zero = inr (j, omega arith)
      below_or_from zero (suc at) = inl (omega arith)
      below_or_from (suc j) (suc at) = elim (below_or_from j at) [ inl less ↦ inl (omega arith) | inr (i, from) ↦ inr (i, omega arith) ]

-- one level more in which nothing is found
pub one_more : (test : List Entry → Bool) (env : List Entry) (at : ℕ) → ((j : ℕ) → j < at → first_way test (level env j) ≡ None) → first_path test (shown (level env at)) ≡ None → (j : ℕ) → j < suc at → first_way test (level env j) ≡ None
one_more test env at before none j less = elim (below_or_at j at less) [
  | inl lower ↦ before j lower
  | inr same ↦ subst (λ i. first_way test (level env i) ≡ None) (sym same) (nothing (first_way test (level env at)) (sym (shown_first test (level env at)) ∙ none))
] where
  nothing : (o : Option (List Name)) → option_map way_text o ≡ None → o ≡ None
  nothing None h = refl
  nothing (Some w) h = absurd (cc)

  below_or_at : (j at : ℕ) → j < suc at → (j < at) ⊎ (j ≡ at)
  below_or_at zero zero h = inr refl
  below_or_at zero (suc at) h = inl (omega arith)
  below_or_at (suc j) zero h = absurd (omega arith)
  below_or_at (suc j) (suc at) h = elim (below_or_at j at (omega arith)) [ inl less ↦ inl (omega arith) | inr same ↦ inr (ap suc same) ]
