-- An origin has one name in an environment, and so a type is printed as one text.
use Rattle.std.proofs.Common.{◌≡◌, ◌<◌, ◌⊎◌, inl, inr, ℕ, zero, suc, ◌+◌, Bool, true, false, List, [], ◌∷◌, ◌++◌, append_assoc, length, codes, Option, Some, None, refl, sym, ◌∙◌, ap, subst, arith}
use Rattle.std.proofs.lemmas.Slice.Eq.{bytes_eq-Decides}
use Rattle.type_model.specs.Types.{Path, Typ, Typs, Var, Arrow, Tuple, Con, Nil, Cons}
use Rattle.type_model.specs.Origins.{same_path}
use Rattle.type_model.proofs.Applying.{or_left, or_right}
use Rattle.signature_model.specs.Declarations.{Name}
use Rattle.signature_model.specs.Components.{same_name}
use Rattle.signature_model.specs.Entries.{Kind, Entry, Environment, kind_of, type_kind, module_kind}
use Rattle.signature_model.specs.Lookups.{same_kind, an_entry, ScopeOf, known, unknown_scope, no_scope, newest_by, found, found_in, through, scope_by, is_named, inside}
use Rattle.type_print_model.specs.Paths.{NamePath, age, age_in, ages, ages_of, length_of, IsNewer, IsShown, IsNameOf, shown, hidden, dotted, spelled, naming}
use Rattle.type_print_model.specs.Variables.{variable_name}
use Rattle.type_print_model.specs.Printing.{Within, alone, left_of_arrow, inner, wrapped, wraps_arrow, wraps_tuple, text_of, separated, rest_of, arguments_of, mentions, mentions_any, cut, PrintsAmong}
use Rattle.type_print.proofs.Ranks.{tells, both}
use Rattle.print_laws.specs.Environments.{IsHidden}

-- the newest entries of two tests are one where they are as old
same_age : (t u : Entry → Bool) (es : Environment) (x y : Entry) → newest_by t es ≡ Some x → newest_by u es ≡ Some y → age t es ≡ age u es → x ≡ y
same_age t u [] x y h k a = absurd (cc)
same_age t u (e ∷ es) x y h k a = elim (tells (t e)) [
  | inl p ↦ elim (tells (u e)) [
    | inl q ↦ let i : Some e ≡ Some x = rw p at h in let j : Some e ≡ Some y = rw q at k in cc
    | inr q ↦ let bad : 0 ≡ suc (age u es) = rw (p, q) at a in absurd (omega arith)
  ]
  | inr p ↦ elim (tells (u e)) [
    | inl q ↦ let bad : suc (age t es) ≡ 0 = rw (p, q) at a in absurd (omega arith)
    | inr q ↦
        let more : suc (age t es) ≡ suc (age u es) = rw (p, q) at a in
        same_age t u es x y (rw p at h) (rw q at k) (omega arith)
  ]
]

-- the newest entry of a name has it
newest_named : (k : Kind) (n : Name) (es : Environment) (e : Entry) → newest_by (is_named k n) es ≡ Some e → n ≡ e.name
newest_named k n [] e h = absurd (cc)
newest_named k n (x ∷ es) e h = elim (tells (is_named k n x)) [
  | inl t ↦
      let same : Some x ≡ Some e = rw t at h in
      let y : x ≡ e = cc in
      (bytes_eq-Decides n x.name).0 (both (same_kind k (kind_of x.stands_for)) (same_name n x.name) t).1 ∙ ap (λ (z : Entry). z.name) y
  | inr f ↦ newest_named k n es e (rw f at h)
]

-- so names of which the newest entries are as old are one
same_named : (k : Kind) (m n : Name) (es : Environment) (x y : Entry) → newest_by (is_named k m) es ≡ Some x → newest_by (is_named k n) es ≡ Some y → age (is_named k m) es ≡ age (is_named k n) es → m ≡ n
same_named k m n es x y h i a = newest_named k m es x h ∙ ap (λ (z : Entry). z.name) (same_age (is_named k m) (is_named k n) es x y h i a) ∙ sym (newest_named k n es y i)

-- the scope after two paths, one after the other
through_twice : (x : ScopeOf Entry) (ms ns : List Name) → ((es : Environment) → scope_by is_named inside es (ms ++ ns) ≡ through (scope_by is_named inside es ms) (λ fs. scope_by is_named inside fs ns)) →
    through x (λ es. scope_by is_named inside es (ms ++ ns)) ≡ through (through x (λ es. scope_by is_named inside es ms)) (λ fs. scope_by is_named inside fs ns)
through_twice (known es) ms ns h = h es
through_twice unknown_scope ms ns h = refl
through_twice no_scope ms ns h = refl

scope_join : (ms ns : List Name) (es : Environment) → scope_by is_named inside es (ms ++ ns) ≡ through (scope_by is_named inside es ms) (λ fs. scope_by is_named inside fs ns)
scope_join [] ns es = refl
scope_join (m ∷ ms) ns es = at (newest_by (is_named module_kind m) es) (scope_join ms ns)
  where
    at : (o : Option Entry) → ((fs : Environment) → scope_by is_named inside fs (ms ++ ns) ≡ through (scope_by is_named inside fs ms) (λ gs. scope_by is_named inside gs ns)) →
        elim o as (λ (x : Option Entry). ScopeOf Entry) [ None ↦ no_scope | Some e ↦ through (inside e) (λ fs. scope_by is_named inside fs (ms ++ ns)) ] ≡
        through (elim o as (λ (x : Option Entry). ScopeOf Entry) [ None ↦ no_scope | Some e ↦ through (inside e) (λ fs. scope_by is_named inside fs ms) ]) (λ gs. scope_by is_named inside gs ns)
    at None go = refl
    at (Some e) go = through_twice (inside e) ms ns go

-- the ages after a path are those in its scope
scope_from : (outer more : List Name) (E es : Environment) → scope_by is_named inside E outer ≡ known es → scope_by is_named inside E (outer ++ more) ≡ scope_by is_named inside es more
scope_from outer more E es h = scope_join outer more E ∙ ap (λ x. through x (λ fs. scope_by is_named inside fs more)) h

ages_from : (outer more ms : List Name) (n : Name) (E es : Environment) → scope_by is_named inside E outer ≡ known es → ages naming E (outer ++ more) ms n ≡ ages naming es more ms n
ages_from outer more [] n E es h = ap (λ x. age_in (is_named type_kind n) x ∷ []) (scope_from outer more E es h)
ages_from outer more (m ∷ ms) n E es h =
    (let p = ap (age_in (is_named module_kind m)) (scope_from outer more E es h) in
    let q = ap (λ ks. ages naming E ks ms n) (append_assoc outer more (m ∷ [])) ∙ ages_from outer (more ++ m ∷ []) ms n E es h in
    (λ i. p i ∷ q i))

-- what a path that begins with a module passes through: the module and its scope
record Passes (m : Name) (ms : List Name) (n : Name) (es : Environment) (e : Entry) : Type 0 where
  pub entry : Entry
  pub newest : newest_by (is_named module_kind m) es ≡ Some entry
  pub in_it : Environment
  pub scope : scope_by is_named inside es (m ∷ []) ≡ known in_it
  pub found : found_in (is_named type_kind n) (scope_by is_named inside in_it ms) ≡ an_entry e

passes_in : (m : Name) (ms : List Name) (n : Name) (es : Environment) (e x : Entry) → newest_by (is_named module_kind m) es ≡ Some x → (y : ScopeOf Entry) → inside x ≡ y →
    found_in (is_named type_kind n) (through y (λ fs. scope_by is_named inside fs ms)) ≡ an_entry e → Passes m ms n es e
passes_in m ms n es e x is (known fs) s h = record {
  entry = x;
  newest = is;
  in_it = fs;
  scope = ap (λ (o : Option Entry). elim o as (λ (z : Option Entry). ScopeOf Entry) [ None ↦ no_scope | Some z ↦ through (inside z) (λ gs. known gs) ]) is ∙ ap (λ y. through y (λ gs. known gs)) s;
  found = h;
}
passes_in m ms n es e x is unknown_scope s h = absurd (cc)
passes_in m ms n es e x is no_scope s h = absurd (cc)

passes : (m : Name) (ms : List Name) (n : Name) (es : Environment) (e : Entry) → found_in (is_named type_kind n) (scope_by is_named inside es (m ∷ ms)) ≡ an_entry e → Passes m ms n es e
passes m ms n es e h = at (newest_by (is_named module_kind m) es) refl
  where
    at : (o : Option Entry) → newest_by (is_named module_kind m) es ≡ o → Passes m ms n es e
    at None q =
        let none : found_in {E = Entry} (is_named type_kind n) no_scope ≡ an_entry e =
        ap (λ (o : Option Entry). found_in (is_named type_kind n) (elim o [ None ↦ no_scope | Some x ↦ through (inside x) (λ fs. scope_by is_named inside fs ms) ])) (sym q) ∙ h in absurd (cc)
    at (Some x) q = passes_in m ms n es e x q (inside x) refl (ap (λ (o : Option Entry). found_in (is_named type_kind n) (elim o [ None ↦ no_scope | Some y ↦ through (inside y) (λ fs. scope_by is_named inside fs ms) ])) (sym q) ∙ h)

entry_in : (o : Option Entry) (e : Entry) → found o ≡ an_entry e → o ≡ Some e
entry_in None e h = absurd (cc)
entry_in (Some x) e h = cc

-- the first of some numbers
abbrev first_of : List ℕ → ℕ
first_of [] = 0
first_of (i ∷ is) = i

-- those after it
abbrev rest_after : List ℕ → List ℕ
rest_after [] = []
rest_after (i ∷ is) = is

-- the ages of a path aren't none
some_ages : (E : Environment) (outer ms : List Name) (n : Name) → ages naming E outer ms n ≡ [] → ⊥
some_ages E outer [] n h = cc h
some_ages E outer (m ∷ ms) n h = cc h

-- ages have one for each name of the path
ages_length : (E : Environment) (outer ms : List Name) (n : Name) → length (ages naming E outer ms n) ≡ length ms + 1
ages_length E outer [] n = omega arith
ages_length E outer (m ∷ ms) n = let h = ages_length E (outer ++ m ∷ []) ms n in omega arith

-- paths that find types and are as old are spelled alike
spelled_alike : (ms ks : List Name) (n l : Name) (es : Environment) (x y : Entry) → found_in (is_named type_kind n) (scope_by is_named inside es ms) ≡ an_entry x → found_in (is_named type_kind l) (scope_by is_named inside es ks) ≡ an_entry y →
    ages naming es [] ms n ≡ ages naming es [] ks l → dotted ms n ≡ dotted ks l
spelled_alike [] [] n l es x y h k a = same_named type_kind n l es x y (entry_in (newest_by (is_named type_kind n) es) x h) (entry_in (newest_by (is_named type_kind l) es) y k) (ap first_of a)
spelled_alike [] (k ∷ ks) n l es x y h j a = absurd (some_ages es (k ∷ []) ks l (sym (ap rest_after a)))
spelled_alike (m ∷ ms) [] n l es x y h j a = absurd (some_ages es (m ∷ []) ms n (ap rest_after a))
spelled_alike (m ∷ ms) (k ∷ ks) n l es x y h j a =
    let p = passes m ms n es x h in
    let q = passes k ks l es y j in
    let name : m ≡ k = same_named module_kind m k es p.entry q.entry p.newest q.newest (ap first_of a) in
    let scopes : known p.in_it ≡ known q.in_it = sym p.scope ∙ ap (λ z. scope_by is_named inside es (z ∷ [])) name ∙ q.scope in
    let one : q.in_it ≡ p.in_it = cc in
    let older : ages naming p.in_it [] ms n ≡ ages naming p.in_it [] ks l =
    sym (ages_from (m ∷ []) [] ms n es p.in_it p.scope) ∙ ap rest_after a ∙ ages_from (k ∷ []) [] ks l es q.in_it q.scope ∙ ap (λ z. ages naming z [] ks l) one in
    let rest = spelled_alike ms ks n l p.in_it x y p.found (subst (λ z. found_in (is_named type_kind l) (scope_by is_named inside z ks) ≡ an_entry y) one q.found) older in
    (λ i. name i ++ codes "." ++ rest i)

-- of two numbers one is less, or they are one
ordered : (a b : ℕ) → (a < b) ⊎ ((b < a) ⊎ (a ≡ b))
ordered zero zero = inr (inr refl)
ordered zero (suc b) = inl (omega arith)
ordered (suc a) zero = inr (inl (omega arith))
ordered (suc a) (suc b) = elim (ordered a b) [ inl h ↦ inl (omega arith) | inr r ↦ elim r [ inl h ↦ inr (inl (omega arith)) | inr h ↦ inr (inr (ap (λ k. suc k) h)) ] ]

-- of as many ages the ones are newer, or the others, or they are one
aged : (is js : List ℕ) → length is ≡ length js → IsNewer is js ⊎ (IsNewer js is ⊎ (is ≡ js))
aged [] [] h = inr (inr refl)
aged [] (j ∷ js) h = absurd (omega arith)
aged (i ∷ is) [] h = absurd (omega arith)
aged (i ∷ is) (j ∷ js) h = elim (ordered i j) [
  | inl less ↦ inl (inl less)
  | inr r ↦ elim r [
    | inl more ↦ inr (inl (inl more))
    | inr same ↦ elim (aged is js (omega arith)) [
      | inl newer ↦ inl (inr (same, newer))
      | inr s ↦ elim s [ inl older ↦ inr (inl (inr (sym same, older))) | inr rest ↦ inr (inr (λ k. same k ∷ rest k)) ]
    ]
  ]
]

-- so an origin is shown by paths of one spelling
one_path : (E : Environment) (o : Path) (p q : NamePath) → IsShown naming E o p → IsShown naming E o q → spelled p ≡ spelled q
one_path E o p q h k = elim (ordered (length_of p) (length_of q)) [
  | inl less ↦ absurd (k.first p h.reaches (inl less))
  | inr r ↦ elim r [
    | inl more ↦ absurd (h.first q k.reaches (inl more))
    | inr same ↦
        let long : length (ages_of naming E p) ≡ length (ages_of naming E q) = ages_length E [] p.modules p.name ∙ same ∙ sym (ages_length E [] q.modules q.name) in
        elim (aged (ages_of naming E p) (ages_of naming E q) long) [
          | inl newer ↦ absurd (k.first p h.reaches (inr (same, newer)))
          | inr s ↦ elim s [
            | inl older ↦ absurd (h.first q k.reaches (inr (sym same, older)))
            | inr one ↦ spelled_alike p.modules q.modules p.name q.name E h.reaches.entry k.reaches.entry h.reaches.found k.reaches.found one
          ]
        ]
  ]
]

-- an origin has one name
pub one_name : (E : Environment) (declared : Path → Name) (o : Path) (s u : List ℕ) → IsNameOf naming E declared o s → IsNameOf naming E declared o u → s ≡ u
one_name E declared o _ _ (shown {p = p} h) (shown {p = q} k) = one_path E o p q h k
one_name E declared o _ _ (shown {p = p} h) (hidden none) = absurd (none p h.reaches)
one_name E declared o _ _ (hidden none) (shown {p = q} k) = absurd (none q k.reaches)
one_name E declared o _ _ (hidden none) (hidden neither) = refl

-- a text depends on the names of the origins that stand in the type alone
module _ (variable : ℕ → List ℕ) (f g : Path → List ℕ) where
  mutual
    text_same : (w : Within) (t : Typ) → ((o : Path) → mentions o t ≡ true → f o ≡ g o) → text_of (record { variable = variable; origin = f }) w t ≡ text_of (record { variable = variable; origin = g }) w t
    text_same w (Var v) h = refl
    text_same w (Arrow a b) h =
        (let p = text_same left_of_arrow a (λ o m. h o (or_left (mentions o a) (mentions o b) m)) in
        let q = text_same alone b (λ o m. h o (or_right (mentions o a) (mentions o b) m)) in
        (λ i. wrapped (wraps_arrow w) (p i ++ codes " -> " ++ q i)))
    text_same w (Tuple ts) h = ap (wrapped (wraps_tuple w)) (separated_same inner (codes " * ") ts h)
    text_same w (Con o ts) h =
        (let p = arguments_same ts (λ x m. h x (or_right (same_path x o) (mentions_any x ts) m)) in
        let q = h o (or_left (same_path o o) (mentions_any o ts) ((bytes_eq-Decides o o).1 refl)) in
        (λ i. p i ++ q i))

    separated_same : (w : Within) (between : List ℕ) (ts : Typs) → ((o : Path) → mentions_any o ts ≡ true → f o ≡ g o) → separated (record { variable = variable; origin = f }) w between ts ≡ separated (record { variable = variable; origin = g }) w between ts
    separated_same w between Nil h = refl
    separated_same w between (Cons t ts) h =
        (let p = text_same w t (λ o m. h o (or_left (mentions o t) (mentions_any o ts) m)) in
        let q = rest_same w between ts (λ o m. h o (or_right (mentions o t) (mentions_any o ts) m)) in
        (λ i. p i ++ q i))

    rest_same : (w : Within) (between : List ℕ) (ts : Typs) → ((o : Path) → mentions_any o ts ≡ true → f o ≡ g o) → rest_of (record { variable = variable; origin = f }) w between ts ≡ rest_of (record { variable = variable; origin = g }) w between ts
    rest_same w between Nil h = refl
    rest_same w between (Cons t ts) h =
        (let p = text_same w t (λ o m. h o (or_left (mentions o t) (mentions_any o ts) m)) in
        let q = rest_same w between ts (λ o m. h o (or_right (mentions o t) (mentions_any o ts) m)) in
        (λ i. between ++ p i ++ q i))

    arguments_same : (ts : Typs) → ((o : Path) → mentions_any o ts ≡ true → f o ≡ g o) → arguments_of (record { variable = variable; origin = f }) ts ≡ arguments_of (record { variable = variable; origin = g }) ts
    arguments_same Nil h = refl
    arguments_same (Cons t Nil) h = ap (λ z. z ++ codes " ") (text_same inner t (λ o m. h o (or_left (mentions o t) false m)))
    arguments_same (Cons t (Cons u us)) h =
        (let p = text_same alone t (λ o m. h o (or_left (mentions o t) (mentions_any o (Cons u us)) m)) in
        let q = text_same alone u (λ o m. h o (or_right (mentions o t) (mentions_any o (Cons u us)) (or_left (mentions o u) (mentions_any o us) m))) in
        let r = rest_same alone (codes ", ") us (λ o m. h o (or_right (mentions o t) (mentions_any o (Cons u us)) (or_right (mentions o u) (mentions_any o us) m))) in
        (λ i. codes "(" ++ p i ++ codes ", " ++ q i ++ r i ++ codes ") "))

-- a type is printed as one text
pub one_text : (E : Environment) (declared : Path → Name) (weak all : List ℕ) (t : Typ) (s u : List ℕ) → PrintsAmong naming E declared weak all t s → PrintsAmong naming E declared weak all t u → s ≡ u
one_text E declared weak all t s u p q =
    p.text ∙ ap cut (text_same (variable_name weak all) p.origin q.origin alone t (λ o m. one_name E declared o (p.origin o) (q.origin o) (p.named o m) (q.named o m))) ∙ sym q.text

-- where a path reaches an origin, its name doesn't depend on the declared one
pub name_reached : (E : Environment) (declared others : Path → Name) (o : Path) (s : List ℕ) → (IsHidden E o → ⊥) → IsNameOf naming E declared o s → IsNameOf naming E others o s
name_reached E declared others o _ reached (shown is) = shown is
name_reached E declared others o _ reached (hidden none) = absurd (reached none)

-- so a type is printed with any declared names where a path reaches each of its origins
pub prints_reached : (E : Environment) (declared others : Path → Name) (weak all : List ℕ) (t : Typ) (s : List ℕ) → ((o : Path) → mentions o t ≡ true → IsHidden E o → ⊥) → PrintsAmong naming E declared weak all t s → PrintsAmong naming E others weak all t s
prints_reached E declared others weak all t s reached p = record { origin = p.origin; named = λ o m. name_reached E declared others o (p.origin o) (reached o m) (p.named o m); text = p.text }
