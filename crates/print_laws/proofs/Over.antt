-- The names of origins don't depend on the values and exceptions in front: these make no origin, no path goes through them, and all that a path begins with gets older by as many.
use Rattle.std.proofs.Common.{◌≡◌, inl, inr, ℕ, suc, ◌+◌, Bool, false, ◌&&◌, List, [], ◌∷◌, ◌++◌, length, Some, None, refl, sym, ◌∙◌, ap, subst, arith, if◌then◌else◌}
use Rattle.type_model.specs.Types.{Path, Typ}
use Rattle.signature_model.specs.Declarations.{Name}
use Rattle.signature_model.specs.Components.{same_name}
use Rattle.signature_model.specs.Entries.{Kind, Referent, a_value, an_exception, Entry, Environment, kind_of, value_kind, constructor_kind, type_kind, module_kind}
use Rattle.signature_model.specs.Lookups.{same_kind, no_scope, newest_by, found, found_in, through, scope_by, lookup_by, is_named, inside}
use Rattle.type_print_model.specs.Paths.{NamePath, Reaches, age, age_in, ages, ages_of, GoesBefore, IsNewer, IsNameOf, shown, hidden, naming}
use Rattle.type_print_model.specs.Variables.{variables_of}
use Rattle.type_print_model.specs.Printing.{PrintsAmong, Prints}
use Rattle.typed_model.specs.Over.{IsNoType, AreNoTypes, IsOver}
use Rattle.print_laws.specs.Environments.{IsHidden}

-- the newest entry where the first doesn't pass the test
newest_later : (test : Entry → Bool) (e : Entry) (es : Environment) → test e ≡ false → newest_by test (e ∷ es) ≡ newest_by test es
newest_later test e es h = (λ i. if h i then Some e else newest_by test es)

-- and how old it is
age_later : (test : Entry → Bool) (e : Entry) (es : Environment) → test e ≡ false → age test (e ∷ es) ≡ suc (age test es)
age_later test e es h = (λ i. if h i then 0 else suc (age test es))

module _ (k : Kind) (other : same_kind k value_kind ≡ false) (apart : same_kind k constructor_kind ≡ false) where
  -- values and exceptions have no names of another kind
  no_such_kind : (r : Referent) → IsNoType r → same_kind k (kind_of r) ≡ false
  no_such_kind (a_value s) h = other
  no_such_kind (an_exception o) h = apart
  no_such_kind _ h = absurd h

  no_value : (vs : Environment) (e : Entry) → AreNoTypes (e ∷ vs) → (n : Name) → is_named k n e ≡ false
  no_value vs e h n = ap (λ b. b && same_name n e.name) (no_such_kind e.stands_for h.0)

  -- so the newest of such a name is the same
  newest_over : (vs E : Environment) → AreNoTypes vs → (n : Name) → newest_by (is_named k n) (vs ++ E) ≡ newest_by (is_named k n) E
  newest_over [] E h n = refl
  newest_over (e ∷ vs) E h n = newest_later (is_named k n) e (vs ++ E) (no_value vs e h n) ∙ newest_over vs E h.1 n

  -- and it is older by as many as there are such names
  age_over : (vs E : Environment) → AreNoTypes vs → (n : Name) → age (is_named k n) (vs ++ E) ≡ length vs + age (is_named k n) E
  age_over [] E h n = omega arith
  age_over (e ∷ vs) E h n = let s = age_later (is_named k n) e (vs ++ E) (no_value vs e h n) in let t = age_over vs E h.1 n in omega arith

-- the scope after a module
scope_over : (vs E : Environment) → AreNoTypes vs → (m : Name) (ms : List Name) → scope_by is_named inside (vs ++ E) (m ∷ ms) ≡ scope_by is_named inside E (m ∷ ms)
scope_over vs E h m ms = ap (λ x. elim x [ None ↦ no_scope | Some e ↦ through (inside e) (λ inner. scope_by is_named inside inner ms) ]) (newest_over module_kind refl refl vs E h m)

-- a path finds the same types
found_over : (vs E : Environment) → AreNoTypes vs → (ms : List Name) (n : Name) → lookup_by is_named inside (vs ++ E) ms type_kind n ≡ lookup_by is_named inside E ms type_kind n
found_over vs E h [] n = ap found (newest_over type_kind refl refl vs E h n)
found_over vs E h (m ∷ ms) n = ap (found_in (is_named type_kind n)) (scope_over vs E h m ms)

-- the ages of a path, the first of which is greater by some number
abbrev raised : ℕ → List ℕ → List ℕ
raised k [] = []
raised k (i ∷ is) = (k + i) ∷ is

-- behind a module nothing is older
ages_inside : (vs E : Environment) → AreNoTypes vs → (m : Name) (outer ms : List Name) (n : Name) → ages naming (vs ++ E) (m ∷ outer) ms n ≡ ages naming E (m ∷ outer) ms n
ages_inside vs E h m outer [] n = ap (λ s. age_in (is_named type_kind n) s ∷ []) (scope_over vs E h m outer)
ages_inside vs E h m outer (x ∷ ms) n =
    (let p = ap (age_in (is_named module_kind x)) (scope_over vs E h m outer) in let q = ages_inside vs E h m (outer ++ x ∷ []) ms n in (λ i. p i ∷ q i))

-- so all that a path names is as old as before but for the first
ages_over : (vs E : Environment) → AreNoTypes vs → (ms : List Name) (n : Name) → ages naming (vs ++ E) [] ms n ≡ raised (length vs) (ages naming E [] ms n)
ages_over vs E h [] n = ap (λ a. a ∷ []) (age_over type_kind refl refl vs E h n)
ages_over vs E h (m ∷ ms) n = (let p = age_over module_kind refl refl vs E h m in let q = ages_inside vs E h m [] ms n in (λ i. p i ∷ q i))

-- the order of ages doesn't depend on it
newer_raised : (k : ℕ) (is js : List ℕ) → IsNewer is js → IsNewer (raised k is) (raised k js)
newer_raised k [] js h = absurd h
newer_raised k (i ∷ is) [] h = absurd h
newer_raised k (i ∷ is) (j ∷ js) (inl less) = inl (omega arith)
newer_raised k (i ∷ is) (j ∷ js) (inr (same, rest)) = inr (ap (λ x. k + x) same, rest)

newer_lowered : (k : ℕ) (is js : List ℕ) → IsNewer (raised k is) (raised k js) → IsNewer is js
newer_lowered k [] js h = absurd h
newer_lowered k (i ∷ is) [] h = absurd h
newer_lowered k (i ∷ is) (j ∷ js) (inl less) = inl (omega arith)
newer_lowered k (i ∷ is) (j ∷ js) (inr (same, rest)) = inr (omega arith, rest)

-- one path goes before another as without these names
before_over : (vs E : Environment) → AreNoTypes vs → (p q : NamePath) → GoesBefore naming (vs ++ E) p q → GoesBefore naming E p q
before_over vs E h p q (inl shorter) = inl shorter
before_over vs E h p q (inr (long, newer)) = inr (
  long,
  newer_lowered (length vs) (ages_of naming E p) (ages_of naming E q)
      (subst (λ js. IsNewer (raised (length vs) (ages_of naming E p)) js) (ages_over vs E h q.modules q.name)
      (subst (λ is. IsNewer is (ages_of naming (vs ++ E) q)) (ages_over vs E h p.modules p.name) newer)),
)

before_under : (vs E : Environment) → AreNoTypes vs → (p q : NamePath) → GoesBefore naming E p q → GoesBefore naming (vs ++ E) p q
before_under vs E h p q (inl shorter) = inl shorter
before_under vs E h p q (inr (long, newer)) = inr (
  long,
  subst (λ js. IsNewer (ages_of naming (vs ++ E) p) js) (sym (ages_over vs E h q.modules q.name))
      (subst (λ is. IsNewer is (raised (length vs) (ages_of naming E q))) (sym (ages_over vs E h p.modules p.name)) (newer_raised (length vs) (ages_of naming E p) (ages_of naming E q) newer)),
)

-- a path reaches an origin as without these names
pub reaches_over : (vs E : Environment) → AreNoTypes vs → (o : Path) (p : NamePath) → Reaches naming (vs ++ E) o p → Reaches naming E o p
reaches_over vs E h o p r = record { entry = r.entry; found = sym (found_over vs E h p.modules p.name) ∙ r.found; makes = r.makes }

pub reaches_under : (vs E : Environment) → AreNoTypes vs → (o : Path) (p : NamePath) → Reaches naming E o p → Reaches naming (vs ++ E) o p
reaches_under vs E h o p r = record { entry = r.entry; found = found_over vs E h p.modules p.name ∙ r.found; makes = r.makes }

-- so one that no path reaches with them is reached by none without them
pub hidden_over : {env E : Environment} → IsOver env E → (o : Path) → IsHidden E o → IsHidden env o
hidden_over {env = env} over o none p r = none p (subst (λ z. Reaches naming z o p) (sym over.is) (reaches_under over.front env over.are_no_types o p r))

-- so an origin has the same names with these names and without them
pub names_over : (vs E : Environment) → AreNoTypes vs → (declared : Path → Name) (o : Path) (s : List ℕ) → IsNameOf naming (vs ++ E) declared o s → IsNameOf naming E declared o s
names_over vs E h declared o _ (shown {p = p} is) = shown (record {
  reaches = reaches_over vs E h o p is.reaches;
  first = λ q r before. is.first q (reaches_under vs E h o q r) (before_under vs E h q p before);
})
names_over vs E h declared o _ (hidden none) = hidden (λ p r. none p (reaches_under vs E h o p r))

pub names_under : (vs E : Environment) → AreNoTypes vs → (declared : Path → Name) (o : Path) (s : List ℕ) → IsNameOf naming E declared o s → IsNameOf naming (vs ++ E) declared o s
names_under vs E h declared o _ (shown {p = p} is) = shown (record {
  reaches = reaches_under vs E h o p is.reaches;
  first = λ q r before. is.first q (reaches_over vs E h o q r) (before_over vs E h q p before);
})
names_under vs E h declared o _ (hidden none) = hidden (λ p r. none p (reaches_over vs E h o p r))

-- two environments that have values and exceptions alone over one give an origin the same names
pub names_beside : {env E F : Environment} → IsOver env E → IsOver env F → (declared : Path → Name) (o : Path) (s : List ℕ) → IsNameOf naming E declared o s → IsNameOf naming F declared o s
names_beside {env = env} one two declared o s is =
    subst (λ z. IsNameOf naming z declared o s) (sym two.is) (names_under two.front env two.are_no_types declared o s
    (names_over one.front env one.are_no_types declared o s (subst (λ z. IsNameOf naming z declared o s) one.is is)))

-- so a type among others with these variables is printed as the same in both
pub prints_among_over : {env E F : Environment} → IsOver env E → IsOver env F → (declared : Path → Name) (weak all : List ℕ) (t : Typ) (s : List ℕ) → PrintsAmong naming E declared weak all t s → PrintsAmong naming F declared weak all t s
prints_among_over one two declared weak all t s p = record { origin = p.origin; named = λ o m. names_beside one two declared o (p.origin o) (p.named o m); text = p.text }

-- and so is a type by itself
pub prints_over : {env E F : Environment} → IsOver env E → IsOver env F → (declared : Path → Name) (weak : List ℕ) (t : Typ) (s : List ℕ) → Prints naming E declared weak t s → Prints naming F declared weak t s
prints_over one two declared weak t s p = prints_among_over one two declared weak (variables_of t) t s p
