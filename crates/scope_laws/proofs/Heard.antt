-- Conditions that tell the typed nodes of a list: each of them is treated in some environment, and has its type there.
use Rattle.std.proofs.Common.{◌≡◌, ◌∙◌, ℕ, List, [], ◌∷◌, ◌++◌, map, filter_map, Option, Some, None, refl, sym, ap, subst, append_assoc}
use Rattle.std.specs.Prelude.{slice_get, zero, suc}
use Rattle.std.specs.List.{cons_option}
use Rattle.query_model.specs.TypedNodes.{Typed}
use Rattle.type_model.specs.Types.{Typ, Var}
use Rattle.signature_model.specs.Entries.{Environment}
use Rattle.typing_model.specs.Demands.{Condition, known, treated}
use Rattle.typing_model.specs.Contexts.{Context, tell_typed}
use Rattle.typed_model.specs.Shown.{number_of, IsToldTyped}

-- the types that a context's choice gives nodes
abbrev pub types_in : Context → ℕ → Typ
types_in c = c.chosen.type_at

-- conditions tell the node of a number with its type, in some environment
pub record IsTold (types : ℕ → Typ) (m : ℕ) (cs : List Condition) : Type 0 where
  pub env : Environment
  pub told : IsToldTyped m env (types m) cs

-- an empty list has nothing in it
none_within : {A : Type 0} (xs : List A) (x : A) (ys : List A) → [] ≡ xs ++ x ∷ ys → ⊥
none_within [] x ys e = cc e
none_within (z ∷ xs) x ys e = cc e

-- what is told is told among more
told_left : {m : ℕ} {E : Environment} {t : Typ} (xs ys : List Condition) → IsToldTyped m E t xs → IsToldTyped m E t (xs ++ ys)
told_left {m} {E} {t} xs ys h = record { before = h.before; after = h.after ++ ys; is = ap (λ zs. zs ++ ys) h.is ∙ append_assoc h.before (treated m E ∷ known t ∷ h.after) ys }

-- also behind others
told_right : {m : ℕ} {E : Environment} {t : Typ} (xs ys : List Condition) → IsToldTyped m E t ys → IsToldTyped m E t (xs ++ ys)
told_right {m} {E} {t} xs ys h = record { before = xs ++ h.before; after = h.after; is = ap (λ zs. xs ++ zs) h.is ∙ sym (append_assoc xs h.before (treated m E ∷ known t ∷ h.after)) }

-- a node that is told first is told, whatever is behind it
pub told_first : (m : ℕ) (c : Context) (cs : List Condition) → IsTold (types_in c) m (tell_typed m c ++ cs)
told_first m c cs = record { env = c.env; told = record { before = []; after = cs; is = refl } }

-- what conditions tell, others tell too
pub record Includes (xs ys : List Condition) : Type 0 where
  pub tells : (m : ℕ) (E : Environment) (t : Typ) → IsToldTyped m E t xs → IsToldTyped m E t ys

-- conditions include themselves
pub within_itself : {xs : List Condition} → Includes xs xs
within_itself = record { tells = λ m E t h. h }

-- and what others stand behind
pub within_left : {xs ys : List Condition} (zs : List Condition) → Includes xs ys → Includes xs (ys ++ zs)
within_left {xs} {ys} zs h = record { tells = λ m E t i. told_left ys zs (h.tells m E t i) }

-- and what others stand in front of
pub within_right : {xs zs : List Condition} (ys : List Condition) → Includes xs zs → Includes xs (ys ++ zs)
within_right {xs} {zs} ys h = record { tells = λ m E t i. told_right ys zs (h.tells m E t i) }

-- also behind a node that is treated
pub within_behind : {xs ys : List Condition} {n : ℕ} {E : Environment} → Includes xs ys → Includes xs (treated n E ∷ ys)
within_behind {ys = ys} {n = n} {E = E} h = record { tells = λ m F t i. told_right (treated n E ∷ []) ys (h.tells m F t i) }

-- what is included is included in what includes more
pub within_within : {xs ys zs : List Condition} → Includes xs ys → Includes ys zs → Includes xs zs
within_within h g = record { tells = λ m E t i. g.tells m E t (h.tells m E t i) }

-- each typed node of a list is told with its type
abbrev pub AreTold : (ℕ → Typ) → List Condition → List Typed → Type 0
AreTold types cs [] = Unit {0}
AreTold types cs (t ∷ ts) = IsTold types (number_of t.id) cs × AreTold types cs ts

-- conditions tell each typed node of a list
pub record Tells (types : ℕ → Typ) (ts : List Typed) (cs : List Condition) : Type 0 where
  pub all : AreTold types cs ts

-- whatever the types are
abbrev pub AlwaysTells : List Typed → List Condition → Type 0
AlwaysTells ts cs = (types : ℕ → Typ) → Tells types ts cs

-- none at all is told by any
pub nothing : {types : ℕ → Typ} {cs : List Condition} → Tells types [] cs
nothing = record { all = tt }

-- what tells typed nodes by what it includes
pub through : {types : ℕ → Typ} {ts : List Typed} {xs ys : List Condition} → Includes xs ys → Tells types ts xs → Tells types ts ys
through {types} {ts} {xs} {ys} i h = record { all = by ts h.all }
  where
    by : (us : List Typed) → AreTold types xs us → AreTold types ys us
    by [] g = tt
    by (u ∷ us) g = (record { env = g.0.env; told = i.tells (number_of u.id) g.0.env (types (number_of u.id)) g.0.told }, by us g.1)

-- conditions with others behind
pub left : {types : ℕ → Typ} {ts : List Typed} {xs : List Condition} (ys : List Condition) → Tells types ts xs → Tells types ts (xs ++ ys)
left ys h = through (within_left ys within_itself) h

-- conditions with others in front
pub behind : {types : ℕ → Typ} {ts : List Typed} {ys : List Condition} (xs : List Condition) → Tells types ts ys → Tells types ts (xs ++ ys)
behind xs h = through (within_right xs within_itself) h

-- conditions with one in front
pub skip : {types : ℕ → Typ} {ts : List Typed} {c : Condition} {cs : List Condition} → Tells types ts cs → Tells types ts (c ∷ cs)
skip {c = c} h = behind (c ∷ []) h

-- two lists of typed nodes
pub both : {types : ℕ → Typ} {ts us : List Typed} {cs : List Condition} → Tells types ts cs → Tells types us cs → Tells types (ts ++ us) cs
both {types} {ts} {us} {cs} h g = record { all = by ts h.all }
  where
    by : (vs : List Typed) → AreTold types cs vs → AreTold types cs (vs ++ us)
    by [] i = g.all
    by (v ∷ vs) i = (i.0, by vs i.1)

-- the first of two lists of typed nodes
pub front : {types : ℕ → Typ} {cs : List Condition} (ts us : List Typed) → Tells types (ts ++ us) cs → Tells types ts cs
front {types} {cs} ts us h = record { all = by ts h.all }
  where
    by : (vs : List Typed) → AreTold types cs (vs ++ us) → AreTold types cs vs
    by [] i = tt
    by (v ∷ vs) i = (i.0, by vs i.1)

-- and the second
pub back : {types : ℕ → Typ} {cs : List Condition} (ts us : List Typed) → Tells types (ts ++ us) cs → Tells types us cs
back {types} {cs} ts us h = record { all = by ts h.all }
  where
    by : (vs : List Typed) → AreTold types cs (vs ++ us) → AreTold types cs us
    by [] i = i
    by (v ∷ vs) i = by vs i.1

-- conditions behind others, each of their own typed nodes
pub join : {types : ℕ → Typ} {ts us : List Typed} {xs ys : List Condition} → Tells types ts xs → Tells types us ys → Tells types (ts ++ us) (xs ++ ys)
join {xs = xs} {ys = ys} h g = both (left ys h) (behind xs g)

-- where no condition is, no typed node is told
pub none_told : (ts : List Typed) → AlwaysTells ts [] → ts ≡ []
none_told [] h = refl
none_told (t ∷ ts) h =
    let first = (h Var).all.0 in
    absurd (none_within first.told.before (treated (number_of t.id) first.env) (known (Var (number_of t.id)) ∷ first.told.after) first.told.is)

-- what nothing tells, anything does
pub untold : {types : ℕ → Typ} {ts : List Typed} {cs : List Condition} → AlwaysTells ts [] → Tells types ts cs
untold {types} {cs = cs} h = left cs (h types)

-- each typed node of a list is one node
abbrev pub AreAt : ℕ → List Typed → Type 0
AreAt n [] = Unit {0}
AreAt n (t ∷ ts) = (number_of t.id ≡ n) × AreAt n ts

-- two lists of one node
pub at_both : (n : ℕ) (ts us : List Typed) → AreAt n ts → AreAt n us → AreAt n (ts ++ us)
at_both n [] us h g = g
at_both n (t ∷ ts) us h g = (h.0, at_both n ts us h.1 g)

-- conditions that tell the node
pub at_told : {types : ℕ → Typ} {ts : List Typed} {cs : List Condition} (n : ℕ) → AreAt n ts → IsTold types n cs → Tells types ts cs
at_told {types} {ts} {cs} n h told = record { all = by ts h }
  where
    by : (us : List Typed) → AreAt n us → AreTold types cs us
    by [] g = tt
    by (u ∷ us) g = (subst (λ m. IsTold types m cs) (sym g.0) told, by us g.1)

-- each of a list has typed nodes, which stand in order
pub data Heards {X : Type 0} (Q : List Typed → X → Type 0) : List Typed → List X → Type 0 where
  no_one : Heards Q [] []
  one_and : {ts us : List Typed} {x : X} {xs : List X} → Q ts x → Heards Q us xs → Heards Q (ts ++ us) (x ∷ xs)

-- what may be none has typed nodes if it is there
pub data MayBe {X : Type 0} (Q : List Typed → X → Type 0) : List Typed → Option X → Type 0 where
  absent : MayBe Q [] None
  there : {ts : List Typed} {x : X} → Q ts x → MayBe Q ts (Some x)

-- each in other words
pub heards_as : {X Y : Type 0} {Q : List Typed → X → Type 0} {R : List Typed → Y → Type 0} (f : X → Y) → ((ts : List Typed) (x : X) → Q ts x → R ts (f x)) → {ts : List Typed} {xs : List X} → Heards Q ts xs → Heards R ts (map f xs)
heards_as f g no_one = no_one
heards_as f g (one_and {ts = ts} {x = x} q rest) = one_and (g ts x q) (heards_as f g rest)

-- the same of those that may be none
pub heards_some : {X Y : Type 0} {Q : List Typed → X → Type 0} {R : List Typed → Y → Type 0} (f : X → Option Y) → ((ts : List Typed) (x : X) → Q ts x → MayBe R ts (f x)) → {ts : List Typed} {xs : List X} → Heards Q ts xs → Heards R ts (filter_map f xs)
heards_some f g no_one = no_one
heards_some {Y = Y} {R = R} f g (one_and {ts = ts} {us = us} {x = x} {xs = xs} q rest) = by ts (f x) (g ts x q) (heards_some f g rest)
  where
    by : (vs : List Typed) (o : Option Y) → MayBe R vs o → Heards R us (filter_map f xs) → Heards R (vs ++ us) (cons_option o (filter_map f xs))
    by vs None absent others = others
    by vs (Some y) (there r) others = one_and r others

-- two lists of them
pub heards_both : {X : Type 0} {Q : List Typed → X → Type 0} {ts us : List Typed} {xs ys : List X} → Heards Q ts xs → Heards Q us ys → (vs : List Typed) × ((types : ℕ → Typ) (cs : List Condition) → Tells types vs cs → Tells types (ts ++ us) cs) × Heards Q vs (xs ++ ys)
heards_both {us = us} no_one g = (us, (λ types cs h. h), g)
heards_both {us = us} (one_and {ts = ts} {us = rs} q rest) g =
    let (vs, into, h) = heards_both rest g in
    (ts ++ vs, (λ types cs k. let r = into types cs (back ts vs k) in both (both (front ts vs k) (front rs us r)) (back rs us r)), one_and q h)

-- at most one
abbrev pub AtMostOne : {X : Type 0} → List X → Type 0
AtMostOne [] = Unit {0}
AtMostOne (x ∷ []) = Unit {0}
AtMostOne (x ∷ y ∷ ys) = ⊥

-- a typed node that is one of a list is told with its type
pub told_among : (types : ℕ → Typ) (ts : List Typed) (cs : List Condition) (k : ℕ) (t : Typed) → AreTold types cs ts → slice_get ts k ≡ Some t → IsTold types (number_of t.id) cs
told_among types [] cs k t h e = absurd (cc)
told_among types (u ∷ ts) cs zero t h e = subst (λ v. IsTold types (number_of v.id) cs) (one e) h.0
  where
    one : {A : Type 0} {x y : A} → Some x ≡ Some y → x ≡ y
    one p = cc
told_among types (u ∷ ts) cs (suc k) t h e = told_among types ts cs k t h.1 e
