-- The search goes by levels, modules of fewer names first and of these the newer first; so what it finds is the path by which an origin is named.
use Rattle.std.proofs.Common.{◌≡◌, ◌≢◌, ◌⊎◌, inl, inr, ℕ, zero, suc, ◌+◌, ◌<◌, ◌≤◌, Bool, true, false, List, [], ◌∷◌, ◌++◌, length, codes, Option, Some, None, append_assoc, append-nil, refl, sym, ◌∙◌, ap, subst, arith}
use Rattle.std.proofs.lemmas.Bool.Decides.{eqb_tells}
use Rattle.std.specs.Str.{bytes_eq}
use Rattle.std.proofs.lemmas.Slice.Eq.{bytes_eq-Decides}
use Rattle.text_terms.specs.Bytes.{str_bytes}
use Rattle.type_model.specs.Types.{Path, Typ}
use Rattle.type_nodes.specs.Nodes.{Node}
use Rattle.signature_model.specs.Declarations.{Name}
use Rattle.signature_model.specs.Entries as rules
use Rattle.signature_model.specs.Lookups.{an_entry, nothing, ScopeOf, known, unknown_scope, no_scope, newest_by, found_in, through, scope_by}
use Rattle.signature_model.specs.Records.{is_of_type}
use Rattle.type_print_model.specs.Paths.{NamePath, Reaches, IsNameOf, shown, hidden, IsNewer, GoesBefore, age, age_in, ages, dotted}
use Rattle.env_table.specs.declared.entries.Entry.{Entry}
use Rattle.env_table.specs.Views.{is_named, inside, names_in, module_scope, makes}
use Rattle.type_print.specs.Paths.{naming, finds, name_for, is_module, among, contents, Scoped, Found, found_or, modules_behind, queue_weight, way_among, way_text, named, name_in}
use Rattle.type_print_model.specs.Variables.{variable_name}
use Rattle.type_print.specs.Texts.{PrintsWith, PrintsBy}
use Rattle.type_print.proofs.Makers.{name_finds, HasName, has_name}
use Rattle.type_print.proofs.Ranks.{tells, opt_tells, both, both_true}
use Rattle.type_print.proofs.Searching.{modules_weight, weight_append, way_step, way_none}

-- an entry is the module of a name where it is a module and has the name
named_is : (m : Name) (e : Entry) → is_named rules.module_kind m e ≡ true → (is_module e ≡ true) × (m ≡ str_bytes e.name)
named_is m e h = let (a, b) = both (is_module e) (bytes_eq m (str_bytes e.name)) h in (a, (bytes_eq-Decides m (str_bytes e.name)).0 b)

-- and the other way round
own_name : (m : Name) (e : Entry) → is_module e ≡ true → m ≡ str_bytes e.name → is_named rules.module_kind m e ≡ true
own_name m e h same = both_true (is_module e) (bytes_eq m (str_bytes e.name)) h ((bytes_eq-Decides m (str_bytes e.name)).1 same)

-- what is no module is none of this name
no_module : (m : Name) (e : Entry) → is_module e ≡ false → is_named rules.module_kind m e ≡ false
no_module m e h = elim (tells (is_named rules.module_kind m e)) [ inl t ↦ let is = (named_is m e t).0 in absurd (cc) | inr f ↦ f ]

-- nor is what has another name
other_name : (m : Name) (e : Entry) → (m ≡ str_bytes e.name → ⊥) → is_named rules.module_kind m e ≡ false
other_name m e h = elim (tells (is_named rules.module_kind m e)) [ inl t ↦ absurd (h (named_is m e t).1) | inr f ↦ f ]

-- a name that is not among names is another than the first and not among the rest
unseen : (n m : Name) (ms : List Name) → among n (m ∷ ms) ≡ false → (n ≡ m → ⊥) × (among n ms ≡ false)
unseen n m ms h = elim (tells (bytes_eq m n)) [
  | inl t ↦ let no_way : true ≡ false = rw t at h in absurd (cc)
  | inr f ↦ (λ e. let t = (bytes_eq-Decides m n).1 (sym e) in absurd (cc), rw f at h)
]

-- and the other way round
unseen_more : (n m : Name) (ms : List Name) → (n ≡ m → ⊥) → among n ms ≡ false → among n (m ∷ ms) ≡ false
unseen_more n m ms h i = elim (tells (bytes_eq m n)) [
  | inl t ↦ absurd (h (sym ((bytes_eq-Decides m n).0 t)))
  | inr f ↦ rw f i
]

-- the newest is the first entry where it passes the test
newest_here : (test : Entry → Bool) (x : Entry) (es : List Entry) → test x ≡ true → newest_by test (x ∷ es) ≡ Some x
newest_here test x es h = rw h refl

-- and otherwise the newest of the rest
newest_later : (test : Entry → Bool) (x : Entry) (es : List Entry) → test x ≡ false → newest_by test (x ∷ es) ≡ newest_by test es
newest_later test x es h = rw h refl

abbrev pub IsIn : Scoped → List Scoped → Type 0
IsIn t [] = ⊥
IsIn t (s ∷ q) = (t ≡ s) ⊎ IsIn t q

-- what is in the first list is in both
in_left : (t : Scoped) (q r : List Scoped) → IsIn t q → IsIn t (q ++ r)
in_left t [] r h = absurd h
in_left t (s ∷ q) r (inl e) = inl e
in_left t (s ∷ q) r (inr h) = inr (in_left t q r h)

-- what is in the second list is in both
in_right : (t : Scoped) (q r : List Scoped) → IsIn t r → IsIn t (q ++ r)
in_right t [] r h = h
in_right t (s ∷ q) r h = inr (in_right t q r h)

-- what is in both is in the first or in the second
in_either : (t : Scoped) (q r : List Scoped) → IsIn t (q ++ r) → IsIn t q ⊎ IsIn t r
in_either t [] r h = inr h
in_either t (s ∷ q) r (inl e) = inl (inl e)
in_either t (s ∷ q) r (inr h) = elim (in_either t q r h) [ inl i ↦ inl (inr i) | inr i ↦ inr i ]

-- one of the modules behind a way: the newest of its name, which wasn't seen
record Newest (way seen : List Name) (es : List Entry) (t : Scoped) : Type 0 where
  pub entry : Entry
  pub is : t ≡ (str_bytes entry.name ∷ way, contents entry)
  pub newest : newest_by (is_named rules.module_kind (str_bytes entry.name)) es ≡ Some entry
  pub new : among (str_bytes entry.name) seen ≡ false

-- each module behind a way is such a one
behind_is : (way seen : List Name) (es : List Entry) (t : Scoped) → IsIn t (modules_behind way seen es) → Newest way seen es t
behind_is way seen [] t h = absurd h
behind_is way seen (x ∷ es) t h = elim (tells (is_module x)) [
  | inr other ↦
      let i = behind_is way seen es t (rw other at h) in
      record { entry = i.entry; is = i.is; newest = newest_later (is_named rules.module_kind (str_bytes i.entry.name)) x es (no_module (str_bytes i.entry.name) x other) ∙ i.newest; new = i.new }
  | inl is ↦ elim (tells (among (str_bytes x.name) seen)) [
    | inl was ↦
        let i = behind_is way seen es t (rw (is, was) at h) in
        let differs : str_bytes i.entry.name ≡ str_bytes x.name → ⊥ = λ e. (let same : among (str_bytes i.entry.name) seen ≡ true = subst (λ k. among k seen ≡ true) (sym e) was in let new = i.new in absurd (cc)) in
        record { entry = i.entry; is = i.is; newest = newest_later (is_named rules.module_kind (str_bytes i.entry.name)) x es (other_name (str_bytes i.entry.name) x differs) ∙ i.newest; new = i.new }
    | inr new ↦
        let one : (t ≡ (str_bytes x.name ∷ way, contents x)) ⊎ IsIn t (modules_behind way (str_bytes x.name ∷ seen) es) = rw (is, new) at h in
        elim one [
          | inl e ↦ record { entry = x; is = e; newest = newest_here (is_named rules.module_kind (str_bytes x.name)) x es (own_name (str_bytes x.name) x is refl); new = new }
          | inr later ↦
              let i = behind_is way (str_bytes x.name ∷ seen) es t later in
              let u = unseen (str_bytes i.entry.name) (str_bytes x.name) seen i.new in
              record { entry = i.entry; is = i.is; newest = newest_later (is_named rules.module_kind (str_bytes i.entry.name)) x es (other_name (str_bytes i.entry.name) x u.0) ∙ i.newest; new = u.1 }
        ]
  ]
]

-- a module depends on its name and its entry
same_module : (way : List Name) (m k : Name) (e x : Entry) → m ≡ k → x ≡ e → ◌≡◌ {A = Scoped} (m ∷ way, contents e) (k ∷ way, contents x)
same_module way m k e x h i = cc

-- each newest module that wasn't seen is there
behind_has : (way seen : List Name) (es : List Entry) (m : Name) (e : Entry) → newest_by (is_named rules.module_kind m) es ≡ Some e → among m seen ≡ false → IsIn (m ∷ way, contents e) (modules_behind way seen es)
behind_has way seen [] m e h s = absurd (cc)
behind_has way seen (x ∷ es) m e h s = elim (tells (is_named rules.module_kind m x)) [
  | inl t ↦
      let i = named_is m x t in
      let is = i.0 in
      let same : x ≡ e = (let here : Some x ≡ Some e = sym (newest_here (is_named rules.module_kind m) x es t) ∙ h in cc) in
      let new : among (str_bytes x.name) seen ≡ false = subst (λ k. among k seen ≡ false) i.1 s in
      let name = i.1 in
      let head = same_module way m (str_bytes x.name) e x name same in
      rw (is, new) (inl head)
  | inr f ↦
      let later = sym (newest_later (is_named rules.module_kind m) x es f) ∙ h in
      elim (tells (is_module x)) [
        | inr other ↦ rw other (behind_has way seen es m e later s)
        | inl is ↦ elim (tells (among (str_bytes x.name) seen)) [
          | inl was ↦ rw (is, was) (behind_has way seen es m e later s)
          | inr new ↦ rw (is, new) (inr (behind_has way (str_bytes x.name ∷ seen) es m e later (unseen_more m (str_bytes x.name) seen (λ same. let t = own_name m x is same in absurd (cc)) s)))
        ]
      ]
]

-- names from the outermost inward, of a way that has the innermost first, and the other way round
abbrev pub outward : List Name → List Name
outward [] = []
outward (m ∷ way) = outward way ++ m ∷ []

abbrev pub onto : List Name → List Name → List Name
onto [] way = way
onto (m ∷ ms) way = onto ms (m ∷ way)

-- names that are put on a way, from the outermost inward, follow it
pub out_onto : (ms way : List Name) → outward (onto ms way) ≡ outward way ++ ms
out_onto [] way = sym (append-nil (outward way))
out_onto (m ∷ ms) way = out_onto ms (m ∷ way) ∙ append_assoc (outward way) (m ∷ []) ms

-- names are put on a way one after the other
onto_append : (xs ys way : List Name) → onto (xs ++ ys) way ≡ onto ys (onto xs way)
onto_append [] ys way = refl
onto_append (x ∷ xs) ys way = onto_append xs ys (x ∷ way)

-- the names of a way, put on none, are the way
pub onto_out : (way : List Name) → onto (outward way) [] ≡ way
onto_out [] = refl
onto_out (m ∷ way) = onto_append (outward way) (m ∷ []) [] ∙ ap (λ w. m ∷ w) (onto_out way)

-- a way has as many names as were put on it
pub length_onto : (ms way : List Name) → length (onto ms way) ≡ length ms + length way
length_onto [] way = omega arith
length_onto (m ∷ ms) way = let h = length_onto ms (m ∷ way) in omega arith

-- the ages of the modules on a way
abbrev pub ages_behind : List Entry → List Name → List ℕ
ages_behind env [] = []
ages_behind env (m ∷ way) = ages_behind env way ++ age_in (is_named rules.module_kind m) (scope_by is_named inside env (outward way)) ∷ []

-- the ages of a path are those of its modules and that of its type
ages_end : (env : List Entry) (way ms : List Name) (n : Name) →
    ages_behind env way ++ ages naming env (outward way) ms n ≡ ages_behind env (onto ms way) ++ age_in (is_named rules.type_kind n) (scope_by is_named inside env (outward (onto ms way))) ∷ []
ages_end env way [] n = refl
ages_end env way (m ∷ ms) n =
    sym (append_assoc (ages_behind env way) (age_in (is_named rules.module_kind m) (scope_by is_named inside env (outward way)) ∷ []) (ages naming env (outward way ++ m ∷ []) ms n)) ∙ ages_end env (m ∷ way) ms n

-- the order of ages
pub newer_more : (is js xs ys : List ℕ) → IsNewer is js → IsNewer (is ++ xs) (js ++ ys)
newer_more [] js xs ys h = absurd h
newer_more (i ∷ is) [] xs ys h = absurd h
newer_more (i ∷ is) (j ∷ js) xs ys (inl h) = inl h
newer_more (i ∷ is) (j ∷ js) xs ys (inr (e, h)) = inr (e, newer_more is js xs ys h)

-- what differs in the last age goes by that
newer_last : (is : List ℕ) (i j : ℕ) → i < j → IsNewer (is ++ i ∷ []) (is ++ j ∷ [])
newer_last [] i j h = inl h
newer_last (k ∷ is) i j h = inr (refl, newer_last is i j h)

-- no two are each newer than the other
pub newer_not : (is js : List ℕ) → IsNewer is js → IsNewer js is → ⊥
newer_not [] js h g = h
newer_not (i ∷ is) [] h g = h
newer_not (i ∷ is) (j ∷ js) (inl h) (inl g) = omega arith
newer_not (i ∷ is) (j ∷ js) (inl h) (inr (e, g)) = omega arith
newer_not (i ∷ is) (j ∷ js) (inr (d, h)) (inl g) = omega arith
newer_not (i ∷ is) (j ∷ js) (inr (d, h)) (inr (e, g)) = newer_not is js h g

-- none is newer than itself
pub newer_self : (is : List ℕ) → IsNewer is is → ⊥
newer_self is h = newer_not is is h h

-- each goes before all that follow
abbrev pub Ascends : List Entry → List Scoped → Type 0
Ascends env [] = Unit {0}
Ascends env (s ∷ q) = ((t : Scoped) → IsIn t q → IsNewer (ages_behind env s.0) (ages_behind env t.0)) × Ascends env q

-- two lists are in order where each is, and all of the first go before all of the second
ascends_append : (env : List Entry) (q r : List Scoped) → Ascends env q → Ascends env r → ((s t : Scoped) → IsIn s q → IsIn t r → IsNewer (ages_behind env s.0) (ages_behind env t.0)) → Ascends env (q ++ r)
ascends_append env [] r h g b = g
ascends_append env (s ∷ q) r h g b =
    (λ t i. elim (in_either t q r i) [ inl j ↦ h.0 t j | inr j ↦ b s t (inl refl) j ], ascends_append env q r h.1 g (λ u t i j. b u t (inr i) j))

-- an entry that does not pass makes older ones one older
age_skip : (g d : ℕ) (test : Entry → Bool) (x : Entry) (es : List Entry) → test x ≡ false → g ≡ d + age test (x ∷ es) → g ≡ suc d + age test es
age_skip g d test x es f e = let s : age test (x ∷ es) ≡ suc (age test es) = rw f refl in omega arith

-- one that passes is the newest
age_own : (g d : ℕ) (test : Entry → Bool) (x : Entry) (es : List Entry) → test x ≡ true → g ≡ d + age test (x ∷ es) → g ≡ d
age_own g d test x es f e = let s : age test (x ∷ es) ≡ 0 = rw f refl in omega arith

-- the modules in another, from a place on
mods_ascend : (env : List Entry) (way seen : List Name) (es : List Entry) (d : ℕ) → ((n : Name) → among n seen ≡ false → age_in (is_named rules.module_kind n) (scope_by is_named inside env (outward way)) ≡ d + age (is_named rules.module_kind n) es) →
    Ascends env (modules_behind way seen es)
mods_ascend env way seen [] d at = tt
mods_ascend env way seen (x ∷ es) d at = elim (tells (is_module x)) [
  | inr other ↦ rw other (mods_ascend env way seen es (suc d) (λ n u. age_skip _ d (is_named rules.module_kind n) x es (no_module n x other) (at n u)))
  | inl is ↦ elim (tells (among (str_bytes x.name) seen)) [
    | inl was ↦ rw (is, was) (mods_ascend env way seen es (suc d) (λ n u. age_skip _ d (is_named rules.module_kind n) x es
        (other_name n x (λ e. let same : among n seen ≡ true = subst (λ k. among k seen ≡ true) (sym e) was in absurd (cc))) (at n u)))
    | inr new ↦
        let next : (n : Name) → among n (str_bytes x.name ∷ seen) ≡ false → age_in (is_named rules.module_kind n) (scope_by is_named inside env (outward way)) ≡ suc d + age (is_named rules.module_kind n) es =
        λ n u. age_skip _ d (is_named rules.module_kind n) x es (other_name n x (unseen n (str_bytes x.name) seen u).0) (at n (unseen n (str_bytes x.name) seen u).1) in
        let here = age_own _ d (is_named rules.module_kind (str_bytes x.name)) x es (own_name (str_bytes x.name) x is refl) (at (str_bytes x.name) new) in
        rw (is, new) (
          λ t h.
              let i = behind_is way (str_bytes x.name ∷ seen) es t h in
              let later = next (str_bytes i.entry.name) i.new in
              subst (λ w. IsNewer (ages_behind env (str_bytes x.name ∷ way)) (ages_behind env w.0)) (sym i.is) (newer_last (ages_behind env way) _ _ (omega arith)),
          mods_ascend env way (str_bytes x.name ∷ seen) es (suc d) next,
        )
  ]
]

-- the modules in some modules
abbrev pub children : List Scoped → List Scoped
children [] = []
children (s ∷ q) = modules_behind s.0 [] s.1 ++ children q

-- a module in some modules is in one of them
in_children : (t : Scoped) (q : List Scoped) → IsIn t (children q) → (s : Scoped) × IsIn s q × IsIn t (modules_behind s.0 [] s.1)
in_children t [] h = absurd h
in_children t (s ∷ q) h = elim (in_either t (modules_behind s.0 [] s.1) (children q) h) [
  | inl i ↦ (s, inl refl, i)
  | inr i ↦ let (u, j, k) = in_children t q i in (u, inr j, k)
]

-- and the other way round
of_children : (t s : Scoped) (q : List Scoped) → IsIn s q → IsIn t (modules_behind s.0 [] s.1) → IsIn t (children q)
of_children t s [] h i = absurd h
of_children t s (u ∷ q) (inl e) i = in_left t (modules_behind u.0 [] u.1) (children q) (subst (λ v. IsIn t (modules_behind v.0 [] v.1)) e i)
of_children t s (u ∷ q) (inr h) i = in_right t (modules_behind u.0 [] u.1) (children q) (of_children t s q h i)

-- what stands in a module is what its way comes to, if anything is known to
abbrev pub IsSo : List Entry → Scoped → Type 0
IsSo env s = (s.1 ≡ []) ⊎ (scope_by is_named inside env (outward s.0) ≡ known s.1)

-- the modules in a module are in order
mods_in : (env : List Entry) (s : Scoped) → IsSo env s → Ascends env (modules_behind s.0 [] s.1)
mods_in env s (inl none) = subst (λ es. Ascends env (modules_behind s.0 [] es)) (sym none) tt
mods_in env s (inr e) = mods_ascend env s.0 [] s.1 0
    (λ n u.
    let f : age_in (is_named rules.module_kind n) (scope_by is_named inside env (outward s.0)) ≡ age (is_named rules.module_kind n) s.1 = ap (age_in (is_named rules.module_kind n)) e in
    omega arith)

-- so are those in modules that are in order
children_ascend : (env : List Entry) (q : List Scoped) → Ascends env q → ((s : Scoped) → IsIn s q → IsSo env s) → Ascends env (children q)
children_ascend env [] h so = tt
children_ascend env (s ∷ q) h so =
    ascends_append env (modules_behind s.0 [] s.1) (children q) (mods_in env s (so s (inl refl))) (children_ascend env q h.1 (λ u i. so u (inr i)))
    (λ t u i j.
    let a = behind_is s.0 [] s.1 t i in
    let (v, k, l) = in_children u q j in
    let b = behind_is v.0 [] v.1 u l in
    subst (λ w. IsNewer (ages_behind env w.0) (ages_behind env u.0)) (sym a.is)
    (subst (λ w. IsNewer (ages_behind env (str_bytes a.entry.name ∷ s.0)) (ages_behind env w.0)) (sym b.is) (newer_more (ages_behind env s.0) (ages_behind env v.0) _ _ (h.0 v k))))

-- what a scope comes to behind one more module
through_known : (s : ScopeOf Entry) (go : List Entry → ScopeOf Entry) (es : List Entry) → through s go ≡ known es → (inner : List Entry) × (s ≡ known inner) × (go inner ≡ known es)
through_known (known inner) go es h = (inner, refl, h)
through_known unknown_scope go es h = absurd (cc)
through_known no_scope go es h = absurd (cc)

-- and in one module alone
one_scope : (es : List Entry) (m : Name) (e : Entry) → newest_by (is_named rules.module_kind m) es ≡ Some e → module_scope m es ≡ inside e
one_scope es m e h = rw (h, module_scope) refl

-- and where there is no module of a name, none
lost_scope : (es : List Entry) (m : Name) → newest_by (is_named rules.module_kind m) es ≡ None → module_scope m es ≡ no_scope
lost_scope es m h = rw (h, module_scope) refl

-- what a scope comes to where nothing is done with it
itself : (s : ScopeOf Entry) → through s (λ inner. known inner) ≡ s
itself (known es) = refl
itself unknown_scope = refl
itself no_scope = refl

-- the scope behind one module is that of the newest of its name
one_more : (es : List Entry) (m : Name) → scope_by is_named inside es (m ∷ []) ≡ module_scope m es
one_more es m = elim (opt_tells (newest_by (is_named rules.module_kind m) es)) [
  | inl none ↦ (let lost : scope_by is_named inside es (m ∷ []) ≡ no_scope = rw (none, scope_by) refl in lost ∙ sym (lost_scope es m none))
  | inr (e, some) ↦ (let there : scope_by is_named inside es (m ∷ []) ≡ through (inside e) (λ inner. known inner) = rw (some, scope_by) refl in there ∙ (itself (inside e) ∙ sym (one_scope es m e some)))
]

-- behind a scope the same holds as in what is known in it
through_after : (s : ScopeOf Entry) (ms : List Name) (m : Name) → ((es : List Entry) → scope_by is_named inside es (ms ++ m ∷ []) ≡ through (scope_by is_named inside es ms) (module_scope m)) →
    through s (λ es. scope_by is_named inside es (ms ++ m ∷ [])) ≡ through (through s (λ es. scope_by is_named inside es ms)) (module_scope m)
through_after (known es) ms m h = h es
through_after unknown_scope ms m h = refl
through_after no_scope ms m h = refl

-- the scope behind one module more
scope_more : (ms : List Name) (m : Name) (env : List Entry) → scope_by is_named inside env (ms ++ m ∷ []) ≡ through (scope_by is_named inside env ms) (module_scope m)
scope_more [] m env = one_more env m
scope_more (x ∷ ms) m env = elim (opt_tells (newest_by (is_named rules.module_kind x) env)) [
  | inl none ↦ rw (none, scope_by) refl
  | inr (e, some) ↦ rw (some, scope_by) (through_after (inside e) ms m (scope_more ms m))
]

-- a level: all modules behind so many names whose contents are known, the newer first
pub record IsLevel (env : List Entry) (k : ℕ) (q : List Scoped) : Type 0 where
  pub ascends : Ascends env q
  pub so : (s : Scoped) → IsIn s q → IsSo env s
  pub sizes : (s : Scoped) → IsIn s q → length s.0 ≡ k
  pub whole : (way : List Name) (es : List Entry) → length way ≡ k → scope_by is_named inside env (outward way) ≡ known es → IsIn (way, es) q

abbrev pub level : List Entry → ℕ → List Scoped
level env zero = ([], env) ∷ []
level env (suc k) = children (level env k)

-- the first level is what is in scope
first_level : (env : List Entry) → IsLevel env 0 (([], env) ∷ [])
first_level env = record {
  ascends = (λ t h. absurd h, tt);
  so = so;
  sizes = sizes;
  whole = whole;
} where
  so : (s : Scoped) → IsIn s (([], env) ∷ []) → IsSo env s
  so s (inl e) = subst (IsSo env) (sym e) (inr refl)
  so s (inr h) = absurd h

  sizes : (s : Scoped) → IsIn s (([], env) ∷ []) → length s.0 ≡ 0
  sizes s (inl e) = ap (λ (u : Scoped). length u.0) e
  sizes s (inr h) = absurd h

  whole : (way : List Name) (es : List Entry) → length way ≡ 0 → scope_by is_named inside env (outward way) ≡ known es → IsIn (way, es) (([], env) ∷ [])
  whole [] es z e = inl (let same : es ≡ env = cc in ap (λ xs. ([], xs)) same)
  whole (m ∷ way) es z e = absurd (omega arith)

-- a scope is known, or no names are known in it
known_or_none : (s : ScopeOf Entry) → (names_in s ≡ []) ⊎ (s ≡ known (names_in s))
known_or_none (known es) = inr refl
known_or_none unknown_scope = inl refl
known_or_none no_scope = inl refl

-- what stands in a module of known contents is known too, or nothing is
behind_so : (env : List Entry) (s : Scoped) (e : Entry) → newest_by (is_named rules.module_kind (str_bytes e.name)) s.1 ≡ Some e → IsSo env s → IsSo env (str_bytes e.name ∷ s.0, contents e)
behind_so env s e newest (inl none) = let h : newest_by (is_named rules.module_kind (str_bytes e.name)) [] ≡ Some e = subst (λ es. newest_by (is_named rules.module_kind (str_bytes e.name)) es ≡ Some e) none newest in absurd (cc)
behind_so env s e newest (inr so) = elim (known_or_none (inside e)) [
  | inl none ↦ inl none
  | inr is ↦ inr (scope_more (outward s.0) (str_bytes e.name) env ∙ (ap (λ (t : ScopeOf Entry). through t (module_scope (str_bytes e.name))) so ∙ (one_scope s.1 (str_bytes e.name) e newest ∙ is)))
]

-- the modules in a level are the next level
next_level_is : (env : List Entry) (k : ℕ) (q : List Scoped) → IsLevel env k q → IsLevel env (suc k) (children q)
next_level_is env k q l = record {
  ascends = children_ascend env q l.ascends l.so;
  so = λ t h. let (s, i, j) = in_children t q h in let b = behind_is s.0 [] s.1 t j in subst (IsSo env) (sym b.is) (behind_so env s b.entry b.newest (l.so s i));
  sizes = λ t h. let (s, i, j) = in_children t q h in let b = behind_is s.0 [] s.1 t j in ap (λ (u : Scoped). length u.0) b.is ∙ ap suc (l.sizes s i);
  whole = whole;
} where
  whole : (way : List Name) (es : List Entry) → length way ≡ suc k → scope_by is_named inside env (outward way) ≡ known es → IsIn (way, es) (children q)
  whole [] es z e = absurd (omega arith)
  whole (m ∷ way) es z e =
      let (inner, is, goes) = through_known (scope_by is_named inside env (outward way)) (module_scope m) es (sym (scope_more (outward way) m env) ∙ e) in
      elim (opt_tells (newest_by (is_named rules.module_kind m) inner)) [
        | inl none ↦ let bad : no_scope ≡ known es = sym (lost_scope inner m none) ∙ goes in absurd (cc)
        | inr (x, some) ↦
            let has : contents x ≡ es = ap names_in (sym (one_scope inner m x some) ∙ goes) in
            of_children (m ∷ way, es) (way, inner) q (l.whole way inner (omega arith) is)
            (subst (λ xs. IsIn (m ∷ way, xs) (modules_behind way [] inner)) has (behind_has way [] inner m x some refl))
      ]

-- so each level is one
pub level_is : (env : List Entry) (k : ℕ) → IsLevel env k (level env k)
level_is env zero = first_level env
level_is env (suc k) = next_level_is env k (level env k) (level_is env k)

-- how an origin is found in the first of some modules in which it has a name
abbrev first_found : Path → List Scoped → Option Found
first_found o [] = None
first_found o (s ∷ q) = found_or s.0 (name_for o s.1) (first_found o q)

abbrev or_else : Option Found → Option Found → Option Found
or_else None r = r
or_else (Some f) r = Some f

-- a choice before another
found_or_else : (way : List Name) (m : Option Name) (f g : Option Found) → found_or way m (or_else f g) ≡ or_else (found_or way m f) g
found_or_else way None f g = refl
found_or_else way (Some n) f g = refl

-- the search goes through a level, and on to the modules in it
level_step : (o : Path) (q r : List Scoped) → way_among o (q ++ r) ≡ or_else (first_found o q) (way_among o (r ++ children q))
level_step o [] r = ap (way_among o) (sym (append-nil r))
level_step o (s ∷ q) r =
    let mods = modules_behind s.0 [] s.1 in
    way_step o s (q ++ r)
    ∙ (ap (found_or s.0 (name_for o s.1)) (ap (way_among o) (append_assoc q r mods) ∙ (level_step o q (r ++ mods) ∙ ap (λ xs. or_else (first_found o q) (way_among o xs)) (append_assoc r mods (children q))))
    ∙ found_or_else s.0 (name_for o s.1) (first_found o q) (way_among o (r ++ (mods ++ children q))))

-- the search through a level alone
next_level : (o : Path) (q : List Scoped) → way_among o q ≡ or_else (first_found o q) (way_among o (children q))
next_level o q = ap (way_among o) (sym (append-nil q)) ∙ level_step o q []

-- neither has something where both together have nothing
or_none : (f g : Option Found) → or_else f g ≡ None → (f ≡ None) × (g ≡ None)
or_none None g h = (refl, h)
or_none (Some f) g h = absurd (cc)

-- where the search finds nothing no level has it
none_levels : (o : Path) (env : List Entry) → way_among o (level env 0) ≡ None → (k : ℕ) → (way_among o (level env k) ≡ None) × (first_found o (level env k) ≡ None)
none_levels o env h zero = let (a, b) = or_none _ _ (sym (next_level o (level env 0)) ∙ h) in (h, a)
none_levels o env h (suc k) =
    let before = none_levels o env h k in
    let (a, b) = or_none _ _ (sym (next_level o (level env k)) ∙ before.0) in
    let (c, d) = or_none _ _ (sym (next_level o (level env (suc k))) ∙ b) in
    (b, c)

-- the first level that has it
record FirstAt (o : Path) (env : List Entry) (f : Found) : Type 0 where
  pub at : ℕ
  pub here : first_found o (level env at) ≡ Some f
  pub before : (j : ℕ) → j < at → first_found o (level env j) ≡ None

-- a level leaves at least one less for each of its modules
children_weight : (q : List Scoped) → queue_weight (children q) + length q ≤ queue_weight q
children_weight [] = omega arith
children_weight (s ∷ q) = let h = children_weight q in let i = modules_weight s.0 [] s.1 in let a = weight_append (modules_behind s.0 [] s.1) (children q) in omega arith

-- what holds below a number and at it holds below the next
before_more : (o : Path) (env : List Entry) (k : ℕ) → ((j : ℕ) → j < k → first_found o (level env j) ≡ None) → first_found o (level env k) ≡ None → (j : ℕ) → j < suc k → first_found o (level env j) ≡ None
before_more o env k h e j lt = elim (eqb_tells j k) [ inl (t, same) ↦ subst (λ i. first_found o (level env i) ≡ None) (sym same) e | inr (t, other) ↦ h j (below j k lt other) ] where
  below : (j k : ℕ) → j < suc k → j ≢ k → j < k
  below j k lt other = omega arith

-- a list is empty or has something
empty_or_some : (q : List Scoped) → (q ≡ []) ⊎ (0 < length q)
empty_or_some [] = inl refl
empty_or_some (s ∷ q) = inr (omega arith)

-- what the search finds stands in a first level
found_levels : (o : Path) (env : List Entry) (f : Found) (fuel k : ℕ) → queue_weight (level env k) < fuel → way_among o (level env k) ≡ Some f → ((j : ℕ) → j < k → first_found o (level env j) ≡ None) → FirstAt o env f
found_levels o env f zero k h e before = absurd (omega arith)
found_levels o env f (suc fuel) k h e before =
    let steps : or_else (first_found o (level env k)) (way_among o (level env (suc k))) ≡ Some f = sym (next_level o (level env k)) ∙ e in
    elim (opt_tells (first_found o (level env k))) [
      | inr (g, some) ↦ record { at = k; here = some ∙ rw some at steps; before = before }
      | inl none ↦ elim (empty_or_some (level env k)) [
        | inl empty ↦ let bad : None ≡ Some f = sym (way_none o) ∙ (ap (way_among o) (sym empty) ∙ e) in absurd (cc)
        | inr some ↦ let w = children_weight (level env k) in found_levels o env f fuel (suc k) (omega arith) (rw none at steps) (before_more o env k before none)
      ]
    ]

-- where nothing is found in a list, it has no name in any of it
none_found : (o : Path) (q : List Scoped) (t : Scoped) (m : Name) → first_found o q ≡ None → IsIn t q → name_for o t.1 ≡ Some m → ⊥
none_found o [] t m h i f = i
none_found o (s ∷ q) t m h i f = elim (opt_tells (name_for o s.1)) [
  | inr (n, there) ↦ let bad : ◌≡◌ {A = Option Found} (Some (s.0, n)) None = rw there at h in absurd (cc)
  | inl away ↦ elim i [
    | inl e ↦ let also : name_for o s.1 ≡ Some m = subst (λ (u : Scoped). name_for o u.1 ≡ Some m) e f in absurd (cc)
    | inr later ↦ none_found o q t m (rw away at h) later f
  ]
]

-- the first module in which it has a name goes before each other
record IsFirst (env : List Entry) (o : Path) (q : List Scoped) (f : Found) : Type 0 where
  pub inner : List Entry
  pub stands : IsIn (f.0, inner) q
  pub found : name_for o inner ≡ Some f.1
  pub first : (t : Scoped) (m : Name) → IsIn t q → name_for o t.1 ≡ Some m → (t.0 ≡ f.0) ⊎ IsNewer (ages_behind env f.0) (ages_behind env t.0)

-- what is found first in a list that is in order is such a one
first_is : (env : List Entry) (o : Path) (q : List Scoped) (f : Found) → Ascends env q → first_found o q ≡ Some f → IsFirst env o q f
first_is env o [] f h e = absurd (cc)
first_is env o (s ∷ q) f h e = elim (opt_tells (name_for o s.1)) [
  | inr (n, there) ↦
      let is : ◌≡◌ {A = Found} (s.0, n) f = (let some : Some (s.0, n) ≡ Some f = rw there at e in cc) in
      let same : s.0 ≡ f.0 = ap (λ (g : Found). g.0) is in
      record {
        inner = s.1;
        stands = inl (ap (λ w. (w, s.1)) (sym same));
        found = there ∙ ap (λ (g : Found). Some g.1) is;
        first = λ t m i g. elim i [ inl one ↦ inl (ap (λ (u : Scoped). u.0) one ∙ same) | inr later ↦ inr (subst (λ w. IsNewer (ages_behind env w) (ages_behind env t.0)) same (h.0 t later)) ];
      }
  | inl away ↦
      let r = first_is env o q f h.1 (rw away at e) in
      record {
        inner = r.inner;
        stands = inr r.stands;
        found = r.found;
        first = λ t m i g. elim i [ inl one ↦ (let also : name_for o s.1 ≡ Some m = subst (λ (u : Scoped). name_for o u.1 ≡ Some m) one g in absurd (cc)) | inr later ↦ r.first t m later g ];
      }
]

-- a path that reaches an origin finds it in what it comes to
record Comes (env : List Entry) (o : Path) (p : NamePath) : Type 0 where
  pub inner : List Entry
  pub scope : scope_by is_named inside env p.modules ≡ known inner
  pub found : finds o p.name inner ≡ true

-- what is found in a scope is the newest in what is known
pub comes_found : (s : ScopeOf Entry) (test : Entry → Bool) (e : Entry) → found_in test s ≡ an_entry e → (inner : List Entry) × (s ≡ known inner) × (newest_by test inner ≡ Some e)
comes_found (known es) test e h = elim (opt_tells (newest_by test es)) [
  | inl none ↦ let bad : nothing ≡ an_entry e = rw none at h in absurd (cc)
  | inr (x, some) ↦ let same : an_entry x ≡ an_entry e = rw some at h in (es, refl, some ∙ (let y : x ≡ e = cc in ap Some y))
]
comes_found unknown_scope test e h = absurd (cc)
comes_found no_scope test e h = absurd (cc)

-- so it is where a path reaches an origin
comes : (env : List Entry) (o : Path) (p : NamePath) → Reaches naming env o p → Comes env o p
comes env o p r =
    let (inner, scope, newest) = comes_found (scope_by is_named inside env p.modules) (is_named rules.type_kind p.name) r.entry r.found in
    record { inner = inner; scope = scope; found = rw (newest, r.makes) ((bytes_eq-Decides o o).1 refl) }

-- what is of an origin is it
origin_is : (o : Path) (m : Option Path) → is_of_type o m ≡ true → m ≡ Some o
origin_is o None h = absurd (cc)
origin_is o (Some p) h = ap Some (sym ((bytes_eq-Decides o p).0 h))

-- and the other way round
reaches : (env : List Entry) (o : Path) (n : Name) (ms : List Name) (inner : List Entry) → scope_by is_named inside env ms ≡ known inner → finds o n inner ≡ true → Reaches naming env o (record { modules = ms; name = n })
reaches env o n ms inner scope h = elim (opt_tells (newest_by (is_named rules.type_kind n) inner)) [
  | inl none ↦ let bad : is_of_type o None ≡ true = rw none at h in absurd (cc)
  | inr (e, some) ↦ let is : is_of_type o (makes e) ≡ true = rw some at h in record { entry = e; found = rw (scope, some) refl; makes = origin_is o (makes e) is }
]

-- texts of paths
dotted_end : (ms : List Name) (m n : Name) → dotted (ms ++ m ∷ []) n ≡ dotted ms (m ++ (codes "." ++ n))
dotted_end [] m n = simp append_assoc
dotted_end (x ∷ ms) m n = let h = dotted_end ms m n in rw h refl

-- the text of a way and a name is that of the path
pub spelled_way : (way : List Name) (n : Name) → way_text way ++ n ≡ dotted (outward way) n
spelled_way [] n = refl
spelled_way (m ∷ way) n = let a : way_text (m ∷ way) ++ n ≡ way_text way ++ (m ++ (codes "." ++ n)) = simp append_assoc in a ∙ (spelled_way way (m ++ (codes "." ++ n)) ∙ sym (dotted_end (outward way) m n))

-- the ages of what a path by a way names
ages_are : (env : List Entry) (way ms : List Name) (n : Name) → onto ms [] ≡ way → ages naming env [] ms n ≡ ages_behind env way ++ age_in (is_named rules.type_kind n) (scope_by is_named inside env (outward way)) ∷ []
ages_are env way ms n e = ages_end env [] ms n ∙ ap (λ w. ages_behind env w ++ age_in (is_named rules.type_kind n) (scope_by is_named inside env (outward w)) ∷ []) e

-- it has as many names
pub length_out : (way : List Name) → length (outward way) ≡ length way
length_out way = let a = length_onto (outward way) [] in let b : length (onto (outward way) []) ≡ length way = ap (λ (w : List Name). length w) (onto_out way) in omega arith

-- a path that reaches an origin stands in its level
record InLevel (env : List Entry) (o : Path) (q : NamePath) : Type 0 where
  pub inner : List Entry
  pub scope : scope_by is_named inside env q.modules ≡ known inner
  pub stands : IsIn (onto q.modules [], inner) (level env (length q.modules))
  pub has : HasName o q.name inner

-- and the origin has a name there
in_level : (env : List Entry) (o : Path) (q : NamePath) → Reaches naming env o q → InLevel env o q
in_level env o q r =
    let c = comes env o q r in
    let size : length (onto q.modules []) ≡ length q.modules = (let h = length_onto q.modules [] in omega arith) in
    record {
      inner = c.inner;
      scope = c.scope;
      stands = (level_is env (length q.modules)).whole (onto q.modules []) c.inner size (ap (scope_by is_named inside env) (out_onto q.modules []) ∙ c.scope);
      has = has_name o q.name c.inner c.found;
    }

-- of two lists that differ in the last age alone the newer is less there
last_newer : (is : List ℕ) (i j : ℕ) → IsNewer (is ++ i ∷ []) (is ++ j ∷ []) → i < j
last_newer [] i j (inl h) = h
last_newer [] i j (inr (e, h)) = absurd h
last_newer (k ∷ is) i j (inl h) = absurd (omega arith)
last_newer (k ∷ is) i j (inr (e, h)) = last_newer is i j h

-- what is known of a scope is one list
known_same : (s : ScopeOf Entry) (xs ys : List Entry) → s ≡ known xs → s ≡ known ys → xs ≡ ys
known_same s xs ys h i = let same : known xs ≡ known ys = sym h ∙ i in cc

-- no path by the same modules as the one that the search finds has a newer type at its end
none_newer : (env : List Entry) (o : Path) (f : Found) (inner : List Entry) (q : NamePath) (l : InLevel env o q) → scope_by is_named inside env (outward f.0) ≡ known inner → name_for o inner ≡ Some f.1 → onto q.modules [] ≡ f.0 →
    age_in (is_named rules.type_kind q.name) (scope_by is_named inside env (outward f.0)) < age_in (is_named rules.type_kind f.1) (scope_by is_named inside env (outward f.0)) → ⊥
none_newer env o f inner q l scope found one less =
    let out : outward f.0 ≡ q.modules = ap outward (sym one) ∙ out_onto q.modules [] in
    let same : l.inner ≡ inner = known_same (scope_by is_named inside env (outward f.0)) l.inner inner (ap (scope_by is_named inside env) out ∙ l.scope) scope in
    let names : Some l.has.name ≡ Some f.1 = sym l.has.is ∙ (ap (name_for o) same ∙ found) in
    let name : l.has.name ≡ f.1 = cc in
    let its : age_in (is_named rules.type_kind q.name) (scope_by is_named inside env (outward f.0)) ≡ age (is_named rules.type_kind q.name) inner = ap (age_in (is_named rules.type_kind q.name)) scope in
    let mine : age_in (is_named rules.type_kind f.1) (scope_by is_named inside env (outward f.0)) ≡ age (is_named rules.type_kind f.1) inner = ap (age_in (is_named rules.type_kind f.1)) scope in
    let no_older : age (is_named rules.type_kind f.1) inner ≤ age (is_named rules.type_kind q.name) inner =
    subst (λ es. age (is_named rules.type_kind f.1) es ≤ age (is_named rules.type_kind q.name) es) same (subst (λ m. age (is_named rules.type_kind m) l.inner ≤ age (is_named rules.type_kind q.name) l.inner) name l.has.no_older) in
    omega arith

-- no path that reaches an origin goes before the one that the search finds
none_before : (env : List Entry) (o : Path) (f : Found) → (at : FirstAt o env f) → (first : IsFirst env o (level env at.at) f) → scope_by is_named inside env (outward f.0) ≡ known first.inner → length f.0 ≡ at.at → (q : NamePath) → Reaches naming env o q → GoesBefore naming env q (record { modules = outward f.0; name = f.1 }) → ⊥
none_before env o f at first scope size q r (inl shorter) =
    let its = in_level env o q r in
    let l = length_out f.0 in
    none_found o (level env (length q.modules)) (onto q.modules [], its.inner) its.has.name (at.before (length q.modules) (omega arith)) its.stands its.has.is
none_before env o f at first scope size q r (inr (long, newer)) =
    let its = in_level env o q r in
    let l = length_out f.0 in
    let same : length q.modules ≡ at.at = omega arith in
    let way_of_q = onto q.modules [] in
    let mine_are = ages_are env f.0 (outward f.0) f.1 (onto_out f.0) in
    let its_are = ages_are env way_of_q q.modules q.name refl in
    let ordered : IsNewer (ages_behind env way_of_q ++ age_in (is_named rules.type_kind q.name) (scope_by is_named inside env (outward way_of_q)) ∷ []) (ages_behind env f.0 ++ age_in (is_named rules.type_kind f.1) (scope_by is_named inside env (outward f.0)) ∷ []) =
    subst (λ is. IsNewer is (ages_behind env f.0 ++ age_in (is_named rules.type_kind f.1) (scope_by is_named inside env (outward f.0)) ∷ [])) its_are (subst (λ js. IsNewer (ages naming env [] q.modules q.name) js) mine_are newer) in
    elim (first.first (way_of_q, its.inner) its.has.name (subst (λ k. IsIn (way_of_q, its.inner) (level env k)) same its.stands) its.has.is) [
      | inl one ↦ none_newer env o f first.inner q its scope first.found one
          (last_newer (ages_behind env f.0) _ _
          (subst (λ w. IsNewer (ages_behind env w ++ age_in (is_named rules.type_kind q.name) (scope_by is_named inside env (outward w)) ∷ []) (ages_behind env f.0 ++ age_in (is_named rules.type_kind f.1) (scope_by is_named inside env (outward f.0)) ∷ [])) one ordered))
      | inr other ↦ newer_not _ _ ordered (newer_more (ages_behind env f.0) (ages_behind env way_of_q) _ _ other)
    ]

-- what is found in an inner list is known, since something is found in it
known_inner : (env : List Entry) (o : Path) (n : Name) (way : List Name) (inner : List Entry) → IsSo env (way, inner) → finds o n inner ≡ true → scope_by is_named inside env (outward way) ≡ known inner
known_inner env o n way inner (inr e) f = e
known_inner env o n way inner (inl none) f = let bad : finds o n [] ≡ true = subst (λ es. finds o n es ≡ true) none f in absurd (cc)

-- The name that the search gives an origin is its name by the definition.
pub named_right : (env : List Entry) (o : Path) (n : Name) (declared : Path → Name) → declared o ≡ n → IsNameOf naming env declared o (name_in env o n)
named_right env o n declared e = elim (opt_tells (way_among o (([], env) ∷ []))) [
  | inl none ↦
      let text : declared o ++ codes "/hidden" ≡ name_in env o n = ap (λ (m : Name). m ++ codes "/hidden") e ∙ ap (named n) (sym none) in
      subst (IsNameOf naming env declared o) text
      (hidden (λ p r.
      let its = in_level env o p r in
      none_found o (level env (length p.modules)) (onto p.modules [], its.inner) its.has.name (none_levels o env none (length p.modules)).1 its.stands its.has.is))
  | inr (f, some) ↦
      let at = found_levels o env f (suc (queue_weight (level env 0))) 0 (omega arith) some (λ j lt. absurd (omega arith)) in
      let l = level_is env at.at in
      let first = first_is env o (level env at.at) f l.ascends at.here in
      let found = name_finds o f.1 first.inner first.found in
      let scope = known_inner env o f.1 f.0 first.inner (l.so (f.0, first.inner) first.stands) found in
      let text : dotted (outward f.0) f.1 ≡ name_in env o n = sym (spelled_way f.0 f.1) ∙ ap (named n) (sym some) in
      subst (IsNameOf naming env declared o) text
      (shown (record {
        reaches = reaches env o f.1 (outward f.0) first.inner scope found;
        first = λ q r before. none_before env o f at first scope (l.sizes (f.0, first.inner) first.stands) q r before;
      }))
]

-- With these names of variables and of what the search finds, a text is that of the definition.
pub printed_by : (nodes : List Node) (env : List Entry) (weak all : List ℕ) (t : Typ) (text : List ℕ) → PrintsWith nodes env (variable_name weak all) t text → PrintsBy nodes env weak all t text
printed_by nodes env weak all t text prints declared declares cuttable = record {
  origin = λ o. name_in env o (declared o);
  named = λ o h. named_right env o (declared o) declared refl;
  text = prints (record { variable = variable_name weak all; origin = λ o. name_in env o (declared o) }) (λ v. refl) (λ n p name ms e. ap (name_in env p) (declares n p name ms e)) cuttable;
}
