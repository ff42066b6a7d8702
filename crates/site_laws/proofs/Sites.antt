-- Sets of sites, and conditions whose demands are made in a set, each once.
use Rattle.std.proofs.Common.{◌≡◌, ◌∙◌, ◌⊎◌, inl, inr, ℕ, ◌+◌, ◌≤◌, ◌<◌, ◌==◌, Bool, true, false, List, [], ◌∷◌, ◌++◌, Option, Some, None, refl, sym, ap, subst, arith}
use Rattle.std.proofs.lemmas.Bool.{eqb-true}
use Rattle.type_model.proofs.Applying.{or_cases, or_left, or_right}
use Rattle.tree_model.specs.Trees.{Place}
use Rattle.type_model.specs.Types.{Typ}
use Rattle.signature_model.specs.Entries.{Environment}
use Rattle.typing_model.specs.Demands.{Site, site, same_site, Demand, Condition, same, instance, made, known, demand, treated, sites_of}
use Rattle.typing_model.specs.Contexts.{ask}
use Rattle.typing_model.specs.Typings.{is_site_among}
use Rattle.typing_laws.proofs.Bools.{no_yes, and_cases}

-- each of some sites stands once among them
abbrev pub Distinct : List Site → Type 0
Distinct [] = Unit {0}
Distinct (s ∷ ss) = (is_site_among s ss ≡ false) × Distinct ss

-- the demands of conditions are made at sites of a set, each once
pub record Within (P : Site → Type 0) (cs : List Condition) : Type 0 where
  pub inside : (x : Site) → is_site_among x (sites_of cs) ≡ true → P x
  pub once : Distinct (sites_of cs)

-- no site is in both of two sets
abbrev pub Apart : (P Q : Site → Type 0) → Type 0
Apart P Q = (x : Site) → P x → Q x → ⊥

-- either of two sets
abbrev pub Either : (P Q : Site → Type 0) → Site → Type 0
Either P Q x = P x ⊎ Q x

-- a set that lies in another
abbrev pub Lies : (P Q : Site → Type 0) → Type 0
Lies P Q = (x : Site) → P x → Q x

sites_all : (xs ys : List Condition) → sites_of (xs ++ ys) ≡ sites_of xs ++ sites_of ys
sites_all [] ys = refl
sites_all (same t u ∷ xs) ys = sites_all xs ys
sites_all (instance s t ∷ xs) ys = sites_all xs ys
sites_all (made n t ∷ xs) ys = sites_all xs ys
sites_all (known t ∷ xs) ys = sites_all xs ys
sites_all (demand s at d ∷ xs) ys = ap (λ ss. s ∷ ss) (sites_all xs ys)
sites_all (treated n env ∷ xs) ys = sites_all xs ys

among_all : (x : Site) (ss ts : List Site) → is_site_among x (ss ++ ts) ≡ true → (is_site_among x ss ≡ true) ⊎ (is_site_among x ts ≡ true)
among_all x [] ts h = inr h
among_all x (s ∷ ss) ts h = elim (or_cases (same_site x s) (is_site_among x (ss ++ ts)) h) [
  | inl i ↦ inl (or_left (same_site x s) (is_site_among x ss) i)
  | inr i ↦ elim (among_all x ss ts i) [ inl j ↦ inl (or_right (same_site x s) (is_site_among x ss) j) | inr j ↦ inr j ]
]

not_true : (b : Bool) → (b ≡ true → ⊥) → b ≡ false
not_true true f = absurd (f refl)
not_true false f = refl

distinct_all : (ss ts : List Site) → Distinct ss → Distinct ts → ((x : Site) → is_site_among x ss ≡ true → is_site_among x ts ≡ true → ⊥) → Distinct (ss ++ ts)
distinct_all [] ts d e apart = e
distinct_all (s ∷ ss) ts d e apart = (
  not_true (is_site_among s (ss ++ ts)) (λ h. elim (among_all s ss ts h) [
    | inl i ↦ no_yes (sym d.0 ∙ i)
    | inr i ↦ apart s (or_left (same_site s s) (is_site_among s ss) (itself s)) i
  ]),
  distinct_all ss ts d.1 e (λ x i j. apart x (or_right (same_site x s) (is_site_among x ss) i) j),
)
  where
    itself : (s : Site) → same_site s s ≡ true
    itself s = grind arith

pub none_within : {P : Site → Type 0} → Within P []
none_within = record { inside = λ x h. absurd (no_yes h); once = tt }

pub widen : {P Q : Site → Type 0} {cs : List Condition} → Lies P Q → Within P cs → Within Q cs
widen f h = record { inside = λ x i. f x (h.inside x i); once = h.once }

-- conditions behind others, in a set apart
pub join : {P Q : Site → Type 0} {xs ys : List Condition} → Within P xs → Within Q ys → Apart P Q → Within (Either P Q) (xs ++ ys)
join {P} {Q} {xs} {ys} h g apart = record {
  inside = λ x i. elim (among_all x (sites_of xs) (sites_of ys) (subst (λ ss. is_site_among x ss ≡ true) (sites_all xs ys) i)) [ inl j ↦ inl (h.inside x j) | inr j ↦ inr (g.inside x j) ];
  once = subst Distinct (sym (sites_all xs ys)) (distinct_all (sites_of xs) (sites_of ys) h.once g.once (λ x i j. apart x (h.inside x i) (g.inside x j)));
}

-- conditions in a set that two sets lie in
pub both_in : {P Q R : Site → Type 0} → Lies P R → Lies Q R → Lies (Either P Q) R
both_in f g x (inl i) = f x i
both_in f g x (inr i) = g x i

-- what is apart from two sets is apart from either
pub apart_both : {P Q R : Site → Type 0} → Apart P R → Apart Q R → Apart (Either P Q) R
apart_both f g x (inl i) j = f x i j
apart_both f g x (inr i) j = g x i j

pub apart_from_both : {P Q R : Site → Type 0} → Apart R P → Apart R Q → Apart R (Either P Q)
apart_from_both f g x j (inl i) = f x j i
apart_from_both f g x j (inr i) = g x j i

pub apart_turned : {P Q : Site → Type 0} → Apart P Q → Apart Q P
apart_turned f x i j = f x j i

pub apart_within : {P Q R S : Site → Type 0} → Lies P R → Lies Q S → Apart R S → Apart P Q
apart_within f g apart x i j = apart x (f x i) (g x j)

-- the demands of a node
abbrev pub At : ℕ → Site → Type 0
At n x = x.node ≡ n

-- those with numbers from a to below b, and those from a number on
abbrev pub Span : ℕ → ℕ → ℕ → Site → Type 0
Span n a b x = (x.node ≡ n) × (a ≤ x.number) × (x.number < b)

abbrev pub From : ℕ → ℕ → Site → Type 0
From n a x = (x.node ≡ n) × (a ≤ x.number)

-- those of nodes from lo to below hi
abbrev pub Range : ℕ → ℕ → Site → Type 0
Range lo hi x = (lo ≤ x.node) × (x.node < hi)

-- those of other nodes
abbrev pub Others : ℕ → Site → Type 0
Others n x = x.node ≡ n → ⊥

pub span_in : {n a b : ℕ} → Lies (Span n a b) (At n)
span_in x h = h.0

pub from_in : {n a : ℕ} → Lies (From n a) (At n)
from_in x h = h.0

-- what a node asks itself is apart from what other nodes ask
pub own_apart : {n : ℕ} {P Q : Site → Type 0} → Lies P (At n) → Lies Q (Others n) → Apart P Q
own_apart f g x i j = g x j (f x i)

pub spans_apart : {n a b c d : ℕ} → b ≤ c → Apart (Span n a b) (Span n c d)
spans_apart h x (e, i, j) (f, k, l) = omega (arith, h, i, j, k, l)

pub span_from_apart : {n a b c : ℕ} → b ≤ c → Apart (Span n a b) (From n c)
span_from_apart h x (e, i, j) (f, k) = omega (arith, h, i, j, k)

pub span_from : {n a b c : ℕ} → c ≤ a → Lies (Span n a b) (From n c)
span_from h x (e, i, j) = (e, omega (arith, h, i))

pub from_from : {n a b : ℕ} → b ≤ a → Lies (From n a) (From n b)
from_from h x (e, i) = (e, omega (arith, h, i))

pub span_wider : {n a b c d : ℕ} → c ≤ a → b ≤ d → Lies (Span n a b) (Span n c d)
span_wider h g x (e, i, j) = (e, omega (arith, h, i), omega (arith, g, j))

-- one demand
pub asked : {n k : ℕ} {p : Place} {d : Demand} → Within (Span n k (k + 1)) (ask n k p d)
asked {n} {k} = record { inside = inside; once = (refl, tt) }
  where
    inside : (x : Site) → is_site_among x (site n k ∷ []) ≡ true → Span n k (k + 1) x
    inside x h = elim (or_cases (same_site x (site n k)) false h) [
      | inl i ↦ let (a, b) = and_cases (x.node == n) (x.number == k) i in let e = eqb-true x.number k b in (eqb-true x.node n a, omega (arith, e), omega (arith, e))
      | inr i ↦ absurd (no_yes i)
    ]

-- a node that is treated, and one whose type is known, make no demand
pub told : {P : Site → Type 0} {i : ℕ} {e : Environment} {cs : List Condition} → Within P cs → Within P (treated i e ∷ cs)
told h = record { inside = h.inside; once = h.once }

pub known_too : {P : Site → Type 0} {t : Typ} {cs : List Condition} → Within P cs → Within P (known t ∷ cs)
known_too h = record { inside = h.inside; once = h.once }

-- conditions that make no demand
pub silent : {P : Site → Type 0} (cs : List Condition) → sites_of cs ≡ [] → Within P cs
silent cs e = record { inside = λ x h. absurd (no_yes (subst (λ ss. is_site_among x ss ≡ true) e h)); once = subst Distinct (sym e) tt }

pub quiet : {P : Site → Type 0} {xs : List Condition} (ys : List Condition) → sites_of ys ≡ [] → Within P xs → Within P (xs ++ ys)
quiet {P} {xs} ys e h = widen (both_in (λ x i. i) (λ x i. absurd (i))) (join {P = P} {Q = λ x. ⊥} h (silent ys e) (λ x i j. j))

-- conditions one after another that lie in one set
pub then_within : {P Q R : Site → Type 0} {xs ys : List Condition} → Within P xs → Within Q ys → Apart P Q → Lies P R → Lies Q R → Within R (xs ++ ys)
then_within h g apart f k = widen (both_in f k) (join h g apart)

-- what may be none has a property if it is there
pub data IfHere {X : Type 0} (Q : X → Type 1) : Option X → Type 1 where
  gone : IfHere Q None
  here : {x : X} → Q x → IfHere Q (Some x)

-- each of a list asks within a set of its own, apart from those of the others
pub data Every {X : Type 0} (Q : (Site → Type 0) → X → Type 0) : (P : Site → Type 0) → List X → Type 1 where
  none_of : {P : Site → Type 0} → Every Q P []
  one_of : {P A B : Site → Type 0} {x : X} {xs : List X} → Q A x → Every Q B xs → Apart A B → Lies A P → Lies B P → Every Q P (x ∷ xs)

pub every_in : {X : Type 0} {Q : (Site → Type 0) → X → Type 0} {P R : Site → Type 0} {xs : List X} → Lies P R → Every Q P xs → Every Q R xs
every_in f none_of = none_of
every_in f (one_of q rest apart a b) = one_of q rest apart (λ x i. f x (a x i)) (λ x i. f x (b x i))

-- two lists, whose sets are apart
pub every_both : {X : Type 0} {Q : (Site → Type 0) → X → Type 0} {P R : Site → Type 0} {xs ys : List X} → Every Q P xs → Every Q R ys → Apart P R → Every Q (Either P R) (xs ++ ys)
every_both none_of g apart = every_in (λ x i. inr i) g
every_both (one_of q rest split a b) g apart = one_of q (every_both rest g (apart_within b (λ x i. i) apart)) (apart_from_both split (apart_within a (λ x i. i) apart)) (λ x i. inl (a x i)) (both_in (λ x i. inl (b x i)) (λ x i. inr i))
