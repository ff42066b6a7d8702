-- Names in scope, and the same with other types of values in front: what is found in them is made of some constructors alone, where all that is behind the values is.
use Rattle.std.proofs.Common.{◌≡◌, ◌∙◌, ℕ, Bool, true, false, not, ◌&&◌, List, [], ◌∷◌, ◌++◌, reverse, map, Option, Some, None, refl, sym, ap, subst, inl, inr, if◌then◌else◌}
use Rattle.std.proofs.lemmas.Grind.{reverse_onto}
use Rattle.type_model.specs.Types.{Path, occurs}
use Rattle.type_model.specs.Schemes.{Scheme, free_in_scheme}
use Rattle.type_model.proofs.Applying.{or_left, or_right, or_cases}
use Rattle.signature_model.specs.Declarations.{Name, Declaration, Constructor, Label, Shape, Opaque, Variant, Labels, type_of}
use Rattle.signature_model.specs.Declarations as declarations
use Rattle.signature_model.specs.Components.{same_name}
use Rattle.signature_model.specs.Signatures.{Signature, Hole, Structure, Functor, Components, Done, Component, Meaning, Value, TypeName, Exception, Module, ModuleType}
use Rattle.signature_model.specs.Entries.{Kind, value_kind, module_kind, Referent, a_value, a_constructor, an_exception, a_label, a_type, a_module, a_module_type, Entry, entry, Environment, entries_in, entries_of, entries_of_shape, free_in}
use Rattle.signature_model.specs.Lookups.{same_kind, Found, an_entry, a_hole, nothing, ScopeOf, known, unknown_scope, no_scope, newest_by, found, found_in, through, scope_by, scope_behind, is_named, inside, inside_signature, inside_referent, lookup}
use Rattle.signature_model.specs.Records.{Written, path_for, belongs_to, has_name, newest_label, is_there, is_known, each_scope, first_label, record_of_label, label_entries, scope_for, record_of}
use Rattle.typing_laws.proofs.Bools.{no_yes, and_cases, and_both}
use Rattle.settled_types.specs.Made.{is_made_of, option_made_of, constructors_made_of, labels_made_of, shape_made_of, declaration_made_of, signature_made_of, components_made_of, meaning_made_of, referent_made_of, names_made_of}
use Rattle.settled_types.proofs.Erasing.{erase, occurs_left}

-- a scheme of what is left of a type: it binds each variable that the type's scheme binds, so its own ones are among the others'
pub record ErasedScheme (os : List Path) (s z : Scheme) : Type 0 where
  pub body : z.body ≡ erase os s.body
  pub bound : (v : ℕ) → z.bound v ≡ false → s.bound v ≡ false

-- two environments that have schemes of such types for the values in front, among exceptions without an argument, and are one behind them, which is made of these constructors alone
pub data ErasedNames (os : List Path) : Environment → Environment → Type 0 where
  as_made : {E : Environment} → names_made_of os E ≡ true → ErasedNames os E E
  next : {n : Name} {at : declarations.Place} {s z : Scheme} {E F : Environment} → ErasedScheme os s z → ErasedNames os E F → ErasedNames os (entry n at (a_value s) ∷ E) (entry n at (a_value z) ∷ F)
  next_exception : {n : Name} {at : declarations.Place} {E F : Environment} → ErasedNames os E F → ErasedNames os (entry n at (an_exception None) ∷ E) (entry n at (an_exception None) ∷ F)

module _ (os : List Path) where
  -- the entries of a made signature are made
  made_append : (xs ys : Environment) → names_made_of os xs ≡ true → names_made_of os ys ≡ true → names_made_of os (xs ++ ys) ≡ true
  made_append [] ys h g = g
  made_append (x ∷ xs) ys h g = let (p, q) = and_cases (referent_made_of os x.stands_for) (names_made_of os xs) h in and_both (referent_made_of os x.stands_for) (names_made_of os (xs ++ ys)) p (made_append xs ys q g)

  made_reverse : (xs : Environment) → names_made_of os xs ≡ true → names_made_of os (reverse xs) ≡ true
  made_reverse [] h = refl
  made_reverse (x ∷ xs) h =
      let (p, q) = and_cases (referent_made_of os x.stands_for) (names_made_of os xs) h in
      subst (λ z. names_made_of os z ≡ true) (sym (reverse_onto xs x [])) (made_append (reverse xs) (x ∷ []) (made_reverse xs q) (and_both (referent_made_of os x.stands_for) true p refl))

  constructors_made : (d : Declaration) → is_made_of os (type_of d) ≡ true → (ks : List Constructor) → constructors_made_of os ks ≡ true → names_made_of os (map (λ k. entry k.name k.place (a_constructor d k)) ks) ≡ true
  constructors_made d t [] h = refl
  constructors_made d t (k ∷ ks) h =
      let (p, q) = and_cases (option_made_of os k.argument) (constructors_made_of os ks) h in
      and_both (is_made_of os (type_of d) && option_made_of os k.argument) (names_made_of os (map (λ k. entry k.name k.place (a_constructor d k)) ks)) (and_both (is_made_of os (type_of d)) (option_made_of os k.argument) t p) (constructors_made d t ks q)

  labels_made : (d : Declaration) → declaration_made_of os d ≡ true → (ls : List Label) → labels_made_of os ls ≡ true → names_made_of os (map (λ l. entry l.name l.place (a_label d l)) ls) ≡ true
  labels_made d t [] h = refl
  labels_made d t (l ∷ ls) h =
      let (p, q) = and_cases (is_made_of os l.body) (labels_made_of os ls) h in
      and_both (declaration_made_of os d && is_made_of os l.body) (names_made_of os (map (λ l. entry l.name l.place (a_label d l)) ls)) (and_both (declaration_made_of os d) (is_made_of os l.body) t p) (labels_made d t ls q)

  shape_made : (d : Declaration) → declaration_made_of os d ≡ true → (s : Shape) → shape_made_of os s ≡ true → names_made_of os (entries_of_shape d s) ≡ true
  shape_made d t Opaque h = refl
  shape_made d t (Variant ks) h = constructors_made d (and_cases (is_made_of os (type_of d)) (shape_made_of os d.shape) t).0 ks h
  shape_made d t (Labels ls) h = labels_made d t ls h

  meaning_made : (n : Name) (at : declarations.Place) (m : Meaning) → meaning_made_of os m ≡ true → names_made_of os (entries_of n at m) ≡ true
  meaning_made n at (Value s) h = and_both (is_made_of os s.body) true h refl
  meaning_made n at (TypeName d) h = and_both (declaration_made_of os d) (names_made_of os (entries_of_shape d d.shape)) h (shape_made d h d.shape (and_cases (is_made_of os (type_of d)) (shape_made_of os d.shape) h).1)
  meaning_made n at (Exception o) h = and_both (option_made_of os o) true h refl
  meaning_made n at (Module s) h = and_both (signature_made_of os s) true h refl
  meaning_made n at (ModuleType made s) h = refl

  entries_made : (cs : Components) → components_made_of os cs ≡ true → names_made_of os (entries_in cs) ≡ true
  entries_made Done h = refl
  entries_made (Component n at m cs) h = let (p, q) = and_cases (meaning_made_of os m) (components_made_of os cs) h in made_append (entries_of n at m) (entries_in cs) (meaning_made n at m p) (entries_made cs q)

  -- a scope is made of these, where it is known
  abbrev ScopeIsMade : ScopeOf Entry → Type 0
  ScopeIsMade (known es) = names_made_of os es ≡ true
  ScopeIsMade unknown_scope = Unit {0}
  ScopeIsMade no_scope = Unit {0}

  inside_made : (s : Signature) → signature_made_of os s ≡ true → ScopeIsMade (inside_signature s)
  inside_made Hole h = tt
  inside_made (Structure cs) h = made_reverse (entries_in cs) (entries_made cs h)
  inside_made (Functor pm p bm b) h = refl

  referent_inside : (r : Referent) → referent_made_of os r ≡ true → ScopeIsMade (inside_referent r)
  referent_inside (a_value s) h = tt
  referent_inside (a_constructor d k) h = tt
  referent_inside (an_exception o) h = tt
  referent_inside (a_label d l) h = tt
  referent_inside (a_type d) h = tt
  referent_inside (a_module s) h = inside_made s h
  referent_inside (a_module_type t) h = tt

  -- the newest entry of a made environment is made
  newest_by_test : (test : Entry → Bool) (x e : Entry) (es : Environment) → referent_made_of os x.stands_for ≡ true → (newest_by test es ≡ Some e → referent_made_of os e.stands_for ≡ true) → (b : Bool) →
      (if b then Some x else newest_by test es) ≡ Some e → referent_made_of os e.stands_for ≡ true
  newest_by_test test x e es p go true is = let same : x ≡ e = cc in subst (λ (z : Entry). referent_made_of os z.stands_for ≡ true) same p
  newest_by_test test x e es p go false is = go is

  newest_made : (test : Entry → Bool) (E : Environment) → names_made_of os E ≡ true → (e : Entry) → newest_by test E ≡ Some e → referent_made_of os e.stands_for ≡ true
  newest_made test [] h e is = absurd (cc)
  newest_made test (x ∷ es) h e is = let (p, q) = and_cases (referent_made_of os x.stands_for) (names_made_of os es) h in newest_by_test test x e es p (newest_made test es q e) (test x) is

  -- what the newest entries of a scope are for the tests that no value passes
  abbrev FindsMade : ScopeOf Entry → Type 0
  FindsMade (known es) = (test : Entry → Bool) → ((n : Name) (at : declarations.Place) (s : Scheme) → test (entry n at (a_value s)) ≡ false) → (e : Entry) → newest_by test es ≡ Some e → referent_made_of os e.stands_for ≡ true
  FindsMade unknown_scope = Unit {0}
  FindsMade no_scope = Unit {0}

  made_finds : (x : ScopeOf Entry) → ScopeIsMade x → FindsMade x
  made_finds (known es) h = λ test none e is. newest_made test es h e is
  made_finds unknown_scope h = tt
  made_finds no_scope h = tt

  pub names_find : {E F : Environment} → ErasedNames os E F → FindsMade (known E)
  names_find (as_made {E = E} h) = λ test none e is. newest_made test E h e is
  names_find (next {n = n} {at = at} {s = s} {E = E} h g) = λ test none e is. names_find g test none e (sym (ap (λ b. if b then Some (entry n at (a_value s)) else newest_by test E) (none n at s)) ∙ is)
  names_find (next_exception {n = n} {at = at} {E = E} g) = λ test none e is. newest_by_test test (entry n at (an_exception None)) e E refl (names_find g test none e) (test (entry n at (an_exception None))) is

  -- the scope behind modules is made
  through_made : (x : ScopeOf Entry) (ms : List Name) → ScopeIsMade x → ((es : Environment) → names_made_of os es ≡ true → ScopeIsMade (scope_by is_named inside es ms)) → ScopeIsMade (through x (λ inner. scope_by is_named inside inner ms))
  through_made (known es) ms h go = go es h
  through_made unknown_scope ms h go = tt
  through_made no_scope ms h go = tt

  abbrev pub module_scope : List Name → Option Entry → ScopeOf Entry
  module_scope ms o = elim o [ None ↦ no_scope | Some e ↦ through (inside e) (λ inner. scope_by is_named inside inner ms) ]

  scope_made : (ms : List Name) (es : Environment) → names_made_of os es ≡ true → ScopeIsMade (scope_by is_named inside es ms)
  scope_made [] es h = h
  scope_made (m ∷ ms) es h = by (scope_made ms) (newest_by (is_named module_kind m) es) (newest_made (is_named module_kind m) es h)
    where
      by : ((fs : Environment) → names_made_of os fs ≡ true → ScopeIsMade (scope_by is_named inside fs ms)) → (o : Option Entry) → ((e : Entry) → o ≡ Some e → referent_made_of os e.stands_for ≡ true) → ScopeIsMade (module_scope ms o)
      by go None h = tt
      by go (Some e) h = through_made (inside e) ms (referent_inside e.stands_for (h e refl)) go

  -- behind a module it is so with values in front as well
  pub module_made : {E F : Environment} → ErasedNames os E F → (m : Name) (ms : List Name) → ScopeIsMade (scope_behind E (m ∷ ms))
  module_made {E = E} h m ms = by (newest_by (is_named module_kind m) E) (names_find h (is_named module_kind m) (λ n at s. refl))
    where
      by : (o : Option Entry) → ((e : Entry) → o ≡ Some e → referent_made_of os e.stands_for ≡ true) → ScopeIsMade (module_scope ms o)
      by None h = tt
      by (Some e) h = through_made (inside e) ms (referent_inside e.stands_for (h e refl)) (scope_made ms)

  scopes_find : {E F : Environment} → ErasedNames os E F → (path : List Name) → FindsMade (scope_behind E path)
  scopes_find h [] = names_find h
  scopes_find {E = E} h (m ∷ ms) = made_finds (scope_behind E (m ∷ ms)) (module_made h m ms)

  -- an entry that is found is made
  abbrev pub IsMade : Found → Type 0
  IsMade (an_entry e) = referent_made_of os e.stands_for ≡ true
  IsMade a_hole = Unit {0}
  IsMade nothing = Unit {0}

  found_made : (o : Option Entry) → ((e : Entry) → o ≡ Some e → referent_made_of os e.stands_for ≡ true) → IsMade (found o)
  found_made None h = tt
  found_made (Some e) h = h e refl

  in_scope_made : (test : Entry → Bool) → ((n : Name) (at : declarations.Place) (s : Scheme) → test (entry n at (a_value s)) ≡ false) → (x : ScopeOf Entry) → FindsMade x → IsMade (found_in test x)
  in_scope_made test none (known es) h = found_made (newest_by test es) (h test none)
  in_scope_made test none unknown_scope h = tt
  in_scope_made test none no_scope h = tt

  -- where its kind isn't that of values
  pub lookup_made : {E F : Environment} → ErasedNames os E F → (path : List Name) (k : Kind) (n : Name) → same_kind k value_kind ≡ false → IsMade (lookup E path k n)
  lookup_made {E = E} h path k n apart = in_scope_made (is_named k n) (λ m at s. ap (λ b. b && same_name n m) apart) (scope_behind E path) (scopes_find h path)

  no_label : (b : Bool) → (b && false) ≡ false
  no_label true = refl
  no_label false = refl

  label_made : (s : Written → ScopeOf Entry) (ls : List Written) (n : Option Name) (x : ScopeOf Entry) → FindsMade x → IsMade (newest_label label_entries s ls n x)
  label_made s ls n (known es) h = found_made (newest_by (λ (e : Entry). has_name n e.name && belongs_to label_entries s ls (record_of_label e.stands_for)) es)
      (h (λ (e : Entry). has_name n e.name && belongs_to label_entries s ls (record_of_label e.stands_for)) (λ m at z. no_label (has_name n m)))
  label_made s ls n unknown_scope h = tt
  label_made s ls n no_scope h = tt

  first_made : (E : Environment) (s : Written → ScopeOf Entry) → FindsMade (known E) → ((l : Written) → FindsMade (s l)) → (all ls : List Written) → IsMade (first_label label_entries E s all ls)
  first_made E s h g all [] = label_made s all None (known E) h
  first_made E s h g all (l ∷ ls) = label_made s all (Some l.name) (s l) (g l)

  if_made : (a b : Bool) (f : Found) → IsMade f → IsMade (if a then (if b then f else a_hole) else nothing)
  if_made true true f h = h
  if_made true false f h = tt
  if_made false b f h = tt

  -- and so is the label by which a record is found
  pub record_made : {E F : Environment} → ErasedNames os E F → (ls : List Written) → IsMade (record_of E ls)
  record_made {E = E} h ls =
      if_made (each_scope is_there (scope_for E ls) ls) (each_scope is_known (scope_for E ls) ls) (first_label label_entries E (scope_for E ls) ls ls)
      (first_made E (scope_for E ls) (names_find h) (λ l. scopes_find h (path_for ls l)) ls ls)

  -- what is found of a value in both: schemes of a type and of what is left of it, or one thing
  pub data ErasedFound : Found → Found → Type 0 where
    two_values : {n : Name} {at : declarations.Place} {s z : Scheme} → ErasedScheme os s z → ErasedFound (an_entry (entry n at (a_value s))) (an_entry (entry n at (a_value z)))
    one_thing : {f : Found} → IsMade f → ErasedFound f f

  value_in_front : {E F : Environment} → ErasedNames os E F → (n : Name) → ErasedFound (found (newest_by (is_named value_kind n) E)) (found (newest_by (is_named value_kind n) F))
  value_in_front (as_made {E = E} h) n = one_thing (found_made (newest_by (is_named value_kind n) E) (newest_made (is_named value_kind n) E h))
  value_in_front (next {n = m} {at = at} {s = s} {z = z} {E = E} {F = F} h g) n = by (same_name n m) (value_in_front g n)
    where
      by : (b : Bool) → ErasedFound (found (newest_by (is_named value_kind n) E)) (found (newest_by (is_named value_kind n) F)) →
          ErasedFound (found (if b then Some (entry m at (a_value s)) else newest_by (is_named value_kind n) E)) (found (if b then Some (entry m at (a_value z)) else newest_by (is_named value_kind n) F))
      by true r = two_values h
      by false r = r
  value_in_front (next_exception g) n = value_in_front g n

  any_in_scope_made : (test : Entry → Bool) (x : ScopeOf Entry) → ScopeIsMade x → IsMade (found_in test x)
  any_in_scope_made test (known es) h = found_made (newest_by test es) (newest_made test es h)
  any_in_scope_made test unknown_scope h = tt
  any_in_scope_made test no_scope h = tt

  -- what finds no value finds the same in both
  pub same_newest : (test : Entry → Bool) → ((n : Name) (at : declarations.Place) (s : Scheme) → test (entry n at (a_value s)) ≡ false) → {E F : Environment} → ErasedNames os E F → newest_by test E ≡ newest_by test F
  same_newest test none (as_made h) = refl
  same_newest test none (next {n = n} {at = at} {s = s} {z = z} {E = E} {F = F} h g) =
      ap (λ b. if b then Some (entry n at (a_value s)) else newest_by test E) (none n at s) ∙ same_newest test none g ∙ sym (ap (λ b. if b then Some (entry n at (a_value z)) else newest_by test F) (none n at z))
  same_newest test none (next_exception {n = n} {at = at} g) = ap (λ o. if test (entry n at (an_exception None)) then Some (entry n at (an_exception None)) else o) (same_newest test none g)

  pub value_found : {E F : Environment} → ErasedNames os E F → (path : List Name) (n : Name) → ErasedFound (lookup E path value_kind n) (lookup F path value_kind n)
  value_found h [] n = value_in_front h n
  value_found {E = E} {F = F} h (m ∷ ms) n =
      subst (λ f. ErasedFound (lookup E (m ∷ ms) value_kind n) f) (ap (λ o. found_in (is_named value_kind n) (module_scope ms o)) (same_newest (is_named module_kind m) (λ k at s. refl) h))
      (one_thing (any_in_scope_made (is_named value_kind n) (scope_behind E (m ∷ ms)) (module_made h m ms)))

  -- each variable that is free in what is left was free before
  pub free_left : {E F : Environment} → ErasedNames os E F → (v : ℕ) → free_in v F ≡ true → free_in v E ≡ true
  free_left (as_made h) v f = f
  free_left (next_exception g) v f = free_left g v f
  free_left (next {n = n} {at = at} {s = s} {z = z} {E = E} {F = F} h g) v f =
      elim (or_cases (free_in_scheme v z) (free_in v F) f) [ inl i ↦ or_left (free_in_scheme v s) (free_in v E) (scheme_left i) | inr i ↦ or_right (free_in_scheme v s) (free_in v E) (free_left g v i) ]
    where
      not_bound : (b : Bool) → not b ≡ true → b ≡ false
      not_bound true e = absurd (no_yes e)
      not_bound false e = refl

      unbound : (b : Bool) → b ≡ false → not b ≡ true
      unbound true e = absurd (no_yes (sym e))
      unbound false e = refl

      scheme_left : free_in_scheme v z ≡ true → free_in_scheme v s ≡ true
      scheme_left i =
          let (o, b) = and_cases (occurs v z.body) (not (z.bound v)) i in
          and_both (occurs v s.body) (not (s.bound v)) (occurs_left os v s.body (subst (λ t. occurs v t ≡ true) h.body o)) (unbound (s.bound v) (h.bound v (not_bound (z.bound v) b)))
