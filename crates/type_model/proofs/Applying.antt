-- Substitutions: which variables they look at, how two of them follow one another, and which variables they leave.
use Rattle.std.proofs.Common.{◌≡◌, ℕ, Bool, true, false, ◌||◌, eqb, List, [], ◌∷◌, map, refl, ◌∙◌, ap, ◌⊎◌, inl, inr}
use Rattle.std.proofs.lemmas.Bool.{eq-eqb, eqb-true}
use Rattle.type_model.specs.Types.{Typ, Typs, Var, Arrow, Tuple, Con, Nil, Cons, occurs, occurs_any, types_of}
use Rattle.type_model.specs.Substitutions.{Subst, apply, apply_all, after}

-- either side of a disjunction makes it true
pub or_left : (a b : Bool) → a ≡ true → (a || b) ≡ true
or_left true b h = refl
or_left false b h = cc

pub or_right : (a b : Bool) → b ≡ true → (a || b) ≡ true
or_right true b h = refl
or_right false b h = h

-- a true disjunction has a true side
pub or_cases : (a b : Bool) → (a || b) ≡ true → (a ≡ true) ⊎ (b ≡ true)
or_cases true b h = inl refl
or_cases false b h = inr h

-- a number is itself
pub eqb_same : (n : ℕ) → eqb n n ≡ true
eqb_same n = eq-eqb n n refl

-- two substitutions give the same type for each variable of t
abbrev pub AgreeOn : Subst → Subst → Typ → Type 0
AgreeOn s r t = (v : ℕ) → occurs v t ≡ true → s v ≡ r v

abbrev pub AgreeOnAll : Subst → Subst → Typs → Type 0
AgreeOnAll s r ts = (v : ℕ) → occurs_any v ts ≡ true → s v ≡ r v

-- a substitution looks at the variables of the type alone
mutual
  pub apply_agree : (s r : Subst) (t : Typ) → AgreeOn s r t → apply s t ≡ apply r t
  apply_agree s r (Var w) h = h w (eqb_same w)
  apply_agree s r (Arrow a b) h =
      let p = apply_agree s r a (λ v o. h v (or_left _ _ o)) in
      let q = apply_agree s r b (λ v o. h v (or_right (occurs v a) _ o)) in cc
  apply_agree s r (Tuple ts) h = ap Tuple (apply_all_agree s r ts h)
  apply_agree s r (Con o ts) h = ap (Con o) (apply_all_agree s r ts h)

  pub apply_all_agree : (s r : Subst) (ts : Typs) → AgreeOnAll s r ts → apply_all s ts ≡ apply_all r ts
  apply_all_agree s r Nil h = refl
  apply_all_agree s r (Cons t ts) h =
      let p = apply_agree s r t (λ v o. h v (or_left _ _ o)) in
      let q = apply_all_agree s r ts (λ v o. h v (or_right (occurs v t) _ o)) in cc

-- one substitution after another is one
mutual
  pub apply-apply : (r s : Subst) (t : Typ) → apply r (apply s t) ≡ apply (after r s) t
  apply-apply r s (Var w) = refl
  apply-apply r s (Arrow a b) = let p = apply-apply r s a in let q = apply-apply r s b in cc
  apply-apply r s (Tuple ts) = ap Tuple (apply_all-apply_all r s ts)
  apply-apply r s (Con o ts) = ap (Con o) (apply_all-apply_all r s ts)

  pub apply_all-apply_all : (r s : Subst) (ts : Typs) → apply_all r (apply_all s ts) ≡ apply_all (after r s) ts
  apply_all-apply_all r s Nil = refl
  apply_all-apply_all r s (Cons t ts) = let p = apply-apply r s t in let q = apply_all-apply_all r s ts in cc

-- each variable for itself leaves every type
mutual
  pub apply_Var : (t : Typ) → apply Var t ≡ t
  apply_Var (Var w) = refl
  apply_Var (Arrow a b) = let p = apply_Var a in let q = apply_Var b in cc
  apply_Var (Tuple ts) = ap Tuple (apply_all_Var ts)
  apply_Var (Con o ts) = ap (Con o) (apply_all_Var ts)

  pub apply_all_Var : (ts : Typs) → apply_all Var ts ≡ ts
  apply_all_Var Nil = refl
  apply_all_Var (Cons t ts) = let p = apply_Var t in let q = apply_all_Var ts in cc

-- a substitution that changes no variable of t leaves t
pub apply_leaves : (s : Subst) (t : Typ) → ((v : ℕ) → occurs v t ≡ true → s v ≡ Var v) → apply s t ≡ t
apply_leaves s t h = apply_agree s Var t h ∙ apply_Var t

-- what is put in for a variable of the type brings its variables
mutual
  pub occurs_put : (s : Subst) (u v : ℕ) (t : Typ) → occurs u t ≡ true → occurs v (s u) ≡ true → occurs v (apply s t) ≡ true
  occurs_put s u v (Var w) h k = let e = eqb-true u w h in rw (← e) k
  occurs_put s u v (Arrow a b) h k =
      elim (or_cases (occurs u a) (occurs u b) h) [ inl i ↦ or_left (occurs v (apply s a)) (occurs v (apply s b)) (occurs_put s u v a i k) | inr i ↦ or_right (occurs v (apply s a)) (occurs v (apply s b)) (occurs_put s u v b i k) ]
  occurs_put s u v (Tuple ts) h k = occurs_any_put s u v ts h k
  occurs_put s u v (Con o ts) h k = occurs_any_put s u v ts h k

  pub occurs_any_put : (s : Subst) (u v : ℕ) (ts : Typs) → occurs_any u ts ≡ true → occurs v (s u) ≡ true → occurs_any v (apply_all s ts) ≡ true
  occurs_any_put s u v Nil h k = absurd (cc)
  occurs_any_put s u v (Cons t ts) h k =
      elim (or_cases (occurs u t) (occurs_any u ts) h) [ inl i ↦ or_left (occurs v (apply s t)) (occurs_any v (apply_all s ts)) (occurs_put s u v t i k) | inr i ↦ or_right (occurs v (apply s t)) (occurs_any v (apply_all s ts)) (occurs_any_put s u v ts i k) ]

-- a variable that stands in what is put in for one of these
abbrev pub ComesFrom : Subst → ℕ → (ℕ → Bool) → Type 0
ComesFrom s v among = (u : ℕ) × (among u ≡ true) × (occurs v (s u) ≡ true)

-- each variable of the changed type comes from one of the type
mutual
  pub occurs_from : (s : Subst) (v : ℕ) (t : Typ) → occurs v (apply s t) ≡ true → ComesFrom s v (λ u. occurs u t)
  occurs_from s v (Var w) h = (w, eqb_same w, h)
  occurs_from s v (Arrow a b) h =
      elim (or_cases (occurs v (apply s a)) (occurs v (apply s b)) h) [
        | inl i ↦ let (u, p, q) = occurs_from s v a i in (u, or_left (occurs u a) (occurs u b) p, q)
        | inr i ↦ let (u, p, q) = occurs_from s v b i in (u, or_right (occurs u a) (occurs u b) p, q)
      ]
  occurs_from s v (Tuple ts) h = occurs_any_from s v ts h
  occurs_from s v (Con o ts) h = occurs_any_from s v ts h

  pub occurs_any_from : (s : Subst) (v : ℕ) (ts : Typs) → occurs_any v (apply_all s ts) ≡ true → ComesFrom s v (λ u. occurs_any u ts)
  occurs_any_from s v Nil h = absurd (cc)
  occurs_any_from s v (Cons t ts) h =
      elim (or_cases (occurs v (apply s t)) (occurs_any v (apply_all s ts)) h) [
        | inl i ↦ let (u, p, q) = occurs_from s v t i in (u, or_left (occurs u t) (occurs_any u ts) p, q)
        | inr i ↦ let (u, p, q) = occurs_any_from s v ts i in (u, or_right (occurs u t) (occurs_any u ts) p, q)
      ]

-- a substitution of a list of types is that of each
pub apply_all-types_of : (s : Subst) (ts : List Typ) → apply_all s (types_of ts) ≡ types_of (map (apply s) ts)
apply_all-types_of s [] = refl
apply_all-types_of s (t ∷ ts) = ap (Cons (apply s t)) (apply_all-types_of s ts)
