-- The names of origins don't depend on the values in scope, wherever they are: these make no origin, no path goes through them, and which of two other entries is newer is the same without them.
use Rattle.std.proofs.Common.{◌≡◌, ◌⊎◌, inl, inr, ℕ, suc, ◌<◌, Bool, true, false, ◌&&◌, List, [], ◌∷◌, ◌++◌, Some, None, refl, sym, ◌∙◌, ap, subst, arith, if◌then◌else◌}
use Rattle.type_model.specs.Types.{Path, Typ}
use Rattle.signature_model.specs.Declarations.{Name}
use Rattle.signature_model.specs.Components.{same_name}
use Rattle.signature_model.specs.Entries.{Kind, Referent, a_value, a_constructor, an_exception, a_label, a_type, a_module, a_module_type, Entry, Environment, kind_of, value_kind, type_kind, module_kind}
use Rattle.signature_model.specs.Lookups.{same_kind, no_scope, newest_by, found, found_in, through, scope_by, lookup_by, is_named, inside}
use Rattle.type_print_model.specs.Paths.{NamePath, Reaches, age, age_in, ages, ages_of, GoesBefore, IsNewer, IsNameOf, shown, hidden, naming}
use Rattle.type_print_model.specs.Printing.{PrintsAmong}
use Rattle.typing_conditions.specs.Carrying.{without_values, unless_value}
use Rattle.print_laws.specs.Ascii.{referent_ascii, names_ascii}

-- the test of a name of a kind that isn't that of values
pub record IsOther (test : Entry → Bool) : Type 0 where
  pub kind : Kind
  pub name : Name
  pub is : test ≡ is_named kind name
  pub apart : same_kind kind value_kind ≡ false

-- it fails at a value
fails_at : {test : Entry → Bool} → IsOther test → (e : Entry) → kind_of e.stands_for ≡ value_kind → test e ≡ false
fails_at o e value = ap (λ (t : Entry → Bool). t e) o.is ∙ ap (λ k. same_kind o.kind k && same_name o.name e.name) value ∙ ap (λ b. b && same_name o.name e.name) o.apart

-- the newest entry is a value, or one that is left
first_entry : (e : Entry) (es : Environment) → ((without_values (e ∷ es) ≡ without_values es) × (kind_of e.stands_for ≡ value_kind)) ⊎ (without_values (e ∷ es) ≡ e ∷ without_values es)
first_entry e es = by e.stands_for refl
  where
    by : (r : Referent) → e.stands_for ≡ r → ((without_values (e ∷ es) ≡ without_values es) × (kind_of e.stands_for ≡ value_kind)) ⊎ (without_values (e ∷ es) ≡ e ∷ without_values es)
    by (a_value s) is = inl (ap (λ r. unless_value e r (without_values es)) is, ap kind_of is)
    by (a_constructor d k) is = inr (ap (λ r. unless_value e r (without_values es)) is)
    by (an_exception o) is = inr (ap (λ r. unless_value e r (without_values es)) is)
    by (a_label d l) is = inr (ap (λ r. unless_value e r (without_values es)) is)
    by (a_type d) is = inr (ap (λ r. unless_value e r (without_values es)) is)
    by (a_module s) is = inr (ap (λ r. unless_value e r (without_values es)) is)
    by (a_module_type t) is = inr (ap (λ r. unless_value e r (without_values es)) is)

-- so the newest entry that such a test holds of is the same
newest_left : {test : Entry → Bool} → IsOther test → (E : Environment) → newest_by test E ≡ newest_by test (without_values E)
newest_left o [] = refl
newest_left {test} o (e ∷ es) = elim (first_entry e es) [
  | inl (is, value) ↦ (λ i. if fails_at o e value i then Some e else newest_by test es) ∙ newest_left o es ∙ ap (newest_by test) (sym is)
  | inr is ↦ ap (λ z. if test e then Some e else z) (newest_left o es) ∙ ap (newest_by test) (sym is)
]

-- two numbers are in the order of two others
record AreOrdered (i j k l : ℕ) : Type 0 where
  less : i < j → k < l
  less_back : k < l → i < j
  same : i ≡ j → k ≡ l
  same_back : k ≡ l → i ≡ j

first_ordered : (i j k l : ℕ) → AreOrdered i j k l → AreOrdered (suc i) (suc j) k l
first_ordered i j k l h = record { less = λ lt. h.less (omega arith); less_back = λ lt. (let m = h.less_back lt in omega arith); same = λ e. h.same (omega arith); same_back = λ e. (let m = h.same_back e in omega arith) }

both_ordered : (i j k l : ℕ) → AreOrdered i j k l → AreOrdered (suc i) (suc j) (suc k) (suc l)
both_ordered i j k l h = record { less = λ lt. (let m = h.less (omega arith) in omega arith); less_back = λ lt. (let m = h.less_back (omega arith) in omega arith); same = λ e. (let m = h.same (omega arith) in omega arith); same_back = λ e. (let m = h.same_back (omega arith) in omega arith) }

none_ordered : AreOrdered 0 0 0 0
none_ordered = record { less = λ lt. lt; less_back = λ lt. lt; same = λ e. e; same_back = λ e. e }

newer_ordered : (j l : ℕ) → AreOrdered 0 (suc j) 0 (suc l)
newer_ordered j l = record { less = λ lt. omega arith; less_back = λ lt. omega arith; same = λ e. absurd (omega arith); same_back = λ e. absurd (omega arith) }

older_ordered : (i k : ℕ) → AreOrdered (suc i) 0 (suc k) 0
older_ordered i k = record { less = λ lt. absurd (omega arith); less_back = λ lt. absurd (omega arith); same = λ e. absurd (omega arith); same_back = λ e. absurd (omega arith) }

-- the ages of two entries are in the order of those without values
ages_ordered : {p q : Entry → Bool} → IsOther p → IsOther q → (E : Environment) → AreOrdered (age p E) (age q E) (age p (without_values E)) (age q (without_values E))
ages_ordered o u [] = none_ordered
ages_ordered {p} {q} o u (e ∷ es) = elim (first_entry e es) [
  | inl (is, value) ↦
      subst (λ z. AreOrdered (age p (e ∷ es)) (age q (e ∷ es)) (age p z) (age q z)) (sym is)
      (subst (λ i. AreOrdered i (age q (e ∷ es)) (age p (without_values es)) (age q (without_values es))) (sym (later p (fails_at o e value)))
      (subst (λ j. AreOrdered (suc (age p es)) j (age p (without_values es)) (age q (without_values es))) (sym (later q (fails_at u e value))) (first_ordered _ _ _ _ (ages_ordered o u es))))
  | inr is ↦ subst (λ z. AreOrdered (age p (e ∷ es)) (age q (e ∷ es)) (age p z) (age q z)) (sym is) (by (p e) (q e) (ages_ordered o u es))
]
  where
    later : (test : Entry → Bool) → test e ≡ false → age test (e ∷ es) ≡ suc (age test es)
    later test h = ap (λ b. if b then 0 else suc (age test es)) h

    by : (b c : Bool) → AreOrdered (age p es) (age q es) (age p (without_values es)) (age q (without_values es)) →
        AreOrdered (if b then 0 else suc (age p es)) (if c then 0 else suc (age q es)) (if b then 0 else suc (age p (without_values es))) (if c then 0 else suc (age q (without_values es)))
    by true true h = none_ordered
    by true false h = newer_ordered _ _
    by false true h = older_ordered _ _
    by false false h = both_ordered _ _ _ _ h

-- the scope after a module
scope_left : (E : Environment) (m : Name) (ms : List Name) → scope_by is_named inside E (m ∷ ms) ≡ scope_by is_named inside (without_values E) (m ∷ ms)
scope_left E m ms = ap (λ x. elim x [ None ↦ no_scope | Some e ↦ through (inside e) (λ inner. scope_by is_named inside inner ms) ]) (newest_left (record { kind = module_kind; name = m; is = refl; apart = refl }) E)

-- a path finds the same types
found_left : (E : Environment) (ms : List Name) (n : Name) → lookup_by is_named inside E ms type_kind n ≡ lookup_by is_named inside (without_values E) ms type_kind n
found_left E [] n = ap found (newest_left (record { kind = type_kind; name = n; is = refl; apart = refl }) E)
found_left E (m ∷ ms) n = ap (found_in (is_named type_kind n)) (scope_left E m ms)

-- the test of the first name of a path, and the ages of what comes after it
abbrev first_test : List Name → Name → Entry → Bool
first_test [] n = is_named type_kind n
first_test (m ∷ ms) n = is_named module_kind m

first_other : (ms : List Name) (n : Name) → IsOther (first_test ms n)
first_other [] n = record { kind = type_kind; name = n; is = refl; apart = refl }
first_other (m ∷ ms) n = record { kind = module_kind; name = m; is = refl; apart = refl }

abbrev ages_after : Environment → List Name → Name → List ℕ
ages_after E [] n = []
ages_after E (m ∷ ms) n = ages naming E (m ∷ []) ms n

ages_are : (E : Environment) (ms : List Name) (n : Name) → ages naming E [] ms n ≡ age (first_test ms n) E ∷ ages_after E ms n
ages_are E [] n = refl
ages_are E (m ∷ ms) n = refl

-- behind a module nothing is older
ages_inside : (E : Environment) (m : Name) (outer ms : List Name) (n : Name) → ages naming E (m ∷ outer) ms n ≡ ages naming (without_values E) (m ∷ outer) ms n
ages_inside E m outer [] n = ap (λ s. age_in (is_named type_kind n) s ∷ []) (scope_left E m outer)
ages_inside E m outer (x ∷ ms) n = (let p = ap (age_in (is_named module_kind x)) (scope_left E m outer) in let q = ages_inside E m (outer ++ x ∷ []) ms n in (λ i. p i ∷ q i))

after_left : (E : Environment) (ms : List Name) (n : Name) → ages_after E ms n ≡ ages_after (without_values E) ms n
after_left E [] n = refl
after_left E (m ∷ ms) n = ages_inside E m [] ms n

-- So the order of two paths is the same.
newer_left : (E : Environment) (p q : NamePath) → IsNewer (ages_of naming E p) (ages_of naming E q) → IsNewer (ages_of naming (without_values E) p) (ages_of naming (without_values E) q)
newer_left E p q h =
    subst (λ is. IsNewer is (ages_of naming (without_values E) q)) (sym (ages_are (without_values E) p.modules p.name)) (subst (IsNewer (age (first_test p.modules p.name) (without_values E) ∷ ages_after (without_values E) p.modules p.name)) (sym (ages_are (without_values E) q.modules q.name))
    (by (subst (λ is. IsNewer is (age (first_test q.modules q.name) E ∷ ages_after E q.modules q.name)) (ages_are E p.modules p.name) (subst (IsNewer (ages_of naming E p)) (ages_are E q.modules q.name) h))))
  where
    order : AreOrdered (age (first_test p.modules p.name) E) (age (first_test q.modules q.name) E) (age (first_test p.modules p.name) (without_values E)) (age (first_test q.modules q.name) (without_values E))
    order = ages_ordered (first_other p.modules p.name) (first_other q.modules q.name) E

    by : IsNewer (age (first_test p.modules p.name) E ∷ ages_after E p.modules p.name) (age (first_test q.modules q.name) E ∷ ages_after E q.modules q.name) →
        IsNewer (age (first_test p.modules p.name) (without_values E) ∷ ages_after (without_values E) p.modules p.name) (age (first_test q.modules q.name) (without_values E) ∷ ages_after (without_values E) q.modules q.name)
    by (inl lt) = inl (order.less lt)
    by (inr (e, later)) = inr (order.same e, subst (IsNewer (ages_after (without_values E) p.modules p.name)) (after_left E q.modules q.name) (subst (λ is. IsNewer is (ages_after E q.modules q.name)) (after_left E p.modules p.name) later))

newer_back : (E : Environment) (p q : NamePath) → IsNewer (ages_of naming (without_values E) p) (ages_of naming (without_values E) q) → IsNewer (ages_of naming E p) (ages_of naming E q)
newer_back E p q h =
    subst (λ is. IsNewer is (ages_of naming E q)) (sym (ages_are E p.modules p.name)) (subst (IsNewer (age (first_test p.modules p.name) E ∷ ages_after E p.modules p.name)) (sym (ages_are E q.modules q.name))
    (by (subst (λ is. IsNewer is (age (first_test q.modules q.name) (without_values E) ∷ ages_after (without_values E) q.modules q.name)) (ages_are (without_values E) p.modules p.name) (subst (IsNewer (ages_of naming (without_values E) p)) (ages_are (without_values E) q.modules q.name) h))))
  where
    order : AreOrdered (age (first_test p.modules p.name) E) (age (first_test q.modules q.name) E) (age (first_test p.modules p.name) (without_values E)) (age (first_test q.modules q.name) (without_values E))
    order = ages_ordered (first_other p.modules p.name) (first_other q.modules q.name) E

    by : IsNewer (age (first_test p.modules p.name) (without_values E) ∷ ages_after (without_values E) p.modules p.name) (age (first_test q.modules q.name) (without_values E) ∷ ages_after (without_values E) q.modules q.name) →
        IsNewer (age (first_test p.modules p.name) E ∷ ages_after E p.modules p.name) (age (first_test q.modules q.name) E ∷ ages_after E q.modules q.name)
    by (inl lt) = inl (order.less_back lt)
    by (inr (e, later)) = inr (order.same_back e, subst (IsNewer (ages_after E p.modules p.name)) (sym (after_left E q.modules q.name)) (subst (λ is. IsNewer is (ages_after (without_values E) q.modules q.name)) (sym (after_left E p.modules p.name)) later))

before_left : (E : Environment) (p q : NamePath) → GoesBefore naming E p q → GoesBefore naming (without_values E) p q
before_left E p q (inl shorter) = inl shorter
before_left E p q (inr (long, newer)) = inr (long, newer_left E p q newer)

before_back : (E : Environment) (p q : NamePath) → GoesBefore naming (without_values E) p q → GoesBefore naming E p q
before_back E p q (inl shorter) = inl shorter
before_back E p q (inr (long, newer)) = inr (long, newer_back E p q newer)

reaches_left : (E : Environment) (o : Path) (p : NamePath) → Reaches naming E o p → Reaches naming (without_values E) o p
reaches_left E o p r = record { entry = r.entry; found = sym (found_left E p.modules p.name) ∙ r.found; makes = r.makes }

reaches_back : (E : Environment) (o : Path) (p : NamePath) → Reaches naming (without_values E) o p → Reaches naming E o p
reaches_back E o p r = record { entry = r.entry; found = found_left E p.modules p.name ∙ r.found; makes = r.makes }

-- an origin has the same names with values and without them
names_left : (E : Environment) (declared : Path → Name) (o : Path) (s : List ℕ) → IsNameOf naming E declared o s → IsNameOf naming (without_values E) declared o s
names_left E declared o _ (shown {p = p} is) = shown (record { reaches = reaches_left E o p is.reaches; first = λ q r before. is.first q (reaches_back E o q r) (before_back E q p before) })
names_left E declared o _ (hidden none) = hidden (λ p r. none p (reaches_back E o p r))

names_back : (E : Environment) (declared : Path → Name) (o : Path) (s : List ℕ) → IsNameOf naming (without_values E) declared o s → IsNameOf naming E declared o s
names_back E declared o _ (shown {p = p} is) = shown (record { reaches = reaches_back E o p is.reaches; first = λ q r before. is.first q (reaches_left E o q r) (before_left E q p before) })
names_back E declared o _ (hidden none) = hidden (λ p r. none p (reaches_left E o p r))

-- So it has the same names in two environments that are one but for values.
pub names_but_values : {E F : Environment} → without_values E ≡ without_values F → (declared : Path → Name) (o : Path) (s : List ℕ) → IsNameOf naming E declared o s → IsNameOf naming F declared o s
names_but_values {E} {F} alike declared o s is = names_back F declared o s (subst (λ z. IsNameOf naming z declared o s) alike (names_left E declared o s is))

-- and a path reaches it in one where one does in the other
pub reaches_but_values : {E F : Environment} → without_values E ≡ without_values F → (o : Path) (p : NamePath) → Reaches naming E o p → Reaches naming F o p
reaches_but_values {E} {F} alike o p r = reaches_back F o p (subst (λ z. Reaches naming z o p) alike (reaches_left E o p r))

-- and a type is printed as the same.
pub prints_but_values : {E F : Environment} → without_values E ≡ without_values F → (declared : Path → Name) (weak all : List ℕ) (t : Typ) (s : List ℕ) → PrintsAmong naming E declared weak all t s → PrintsAmong naming F declared weak all t s
prints_but_values alike declared weak all t s p = record { origin = p.origin; named = λ o m. names_but_values alike declared o (p.origin o) (p.named o m); text = p.text }

-- The names of types and modules have one byte a character with values and without them.
ascii_left : (E : Environment) → names_ascii E ≡ names_ascii (without_values E)
ascii_left [] = refl
ascii_left (e ∷ es) = by e.stands_for refl (ascii_left es)
  where
    stays : without_values (e ∷ es) ≡ e ∷ without_values es → names_ascii es ≡ names_ascii (without_values es) → names_ascii (e ∷ es) ≡ names_ascii (without_values (e ∷ es))
    stays is rest = ap (λ b. referent_ascii e.name e.stands_for && b) rest ∙ ap names_ascii (sym is)

    by : (r : Referent) → e.stands_for ≡ r → names_ascii es ≡ names_ascii (without_values es) → names_ascii (e ∷ es) ≡ names_ascii (without_values (e ∷ es))
    by (a_value s) is rest = ap (λ r. referent_ascii e.name r && names_ascii es) is ∙ rest ∙ ap names_ascii (sym (ap (λ r. unless_value e r (without_values es)) is))
    by (a_constructor d k) is rest = stays (ap (λ r. unless_value e r (without_values es)) is) rest
    by (an_exception o) is rest = stays (ap (λ r. unless_value e r (without_values es)) is) rest
    by (a_label d l) is rest = stays (ap (λ r. unless_value e r (without_values es)) is) rest
    by (a_type d) is rest = stays (ap (λ r. unless_value e r (without_values es)) is) rest
    by (a_module s) is rest = stays (ap (λ r. unless_value e r (without_values es)) is) rest
    by (a_module_type t) is rest = stays (ap (λ r. unless_value e r (without_values es)) is) rest

pub ascii_but_values : (E F : Environment) → without_values E ≡ without_values F → names_ascii F ≡ true → names_ascii E ≡ true
ascii_but_values E F alike ascii = ascii_left E ∙ ap names_ascii alike ∙ sym (ascii_left F) ∙ ascii
