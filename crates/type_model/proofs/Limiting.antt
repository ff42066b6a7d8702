-- Limits under substitutions, and two limits as one.
use Rattle.std.proofs.Common.{◌≡◌, ℕ, min, Bool, true, arith, ◌⊎◌, inl, inr}
use Rattle.std.proofs.lemmas.Bool.{eqb-true}
use Rattle.type_model.specs.Types.{Path, Typ, Typs, Var, Arrow, Tuple, Con, Nil, Cons, occurs, occurs_any}
use Rattle.type_model.specs.Substitutions.{Subst, apply, apply_all}
use Rattle.type_model.specs.Limits.{in_scope, IsInScope, AreInScope, IsUnder, AreUnder}
use Rattle.type_model.proofs.Applying.{or_left, or_right, or_cases, eqb_same}

-- what is put in for the variables is under the limit, and so are the origins: this is what lowering each variable of a type does
mutual
  pub under_apply : (L : ℕ → ℕ) (level scope : ℕ) (s : Subst) (t : Typ) → IsInScope scope t → ((v : ℕ) → occurs v t ≡ true → IsUnder L level scope (s v)) → IsUnder L level scope (apply s t)
  under_apply L level scope s (Var w) m h = h w (eqb_same w)
  under_apply L level scope s (Arrow a b) m h =
      (under_apply L level scope s a m.0 (λ v o. h v (or_left (occurs v a) (occurs v b) o)), under_apply L level scope s b m.1 (λ v o. h v (or_right (occurs v a) (occurs v b) o)))
  under_apply L level scope s (Tuple ts) m h = under_apply_all L level scope s ts m h
  under_apply L level scope s (Con o ts) m h = (m.0, under_apply_all L level scope s ts m.1 h)

  pub under_apply_all : (L : ℕ → ℕ) (level scope : ℕ) (s : Subst) (ts : Typs) → AreInScope scope ts → ((v : ℕ) → occurs_any v ts ≡ true → IsUnder L level scope (s v)) → AreUnder L level scope (apply_all s ts)
  under_apply_all L level scope s Nil m h = tt
  under_apply_all L level scope s (Cons t ts) m h =
      (under_apply L level scope s t m.0 (λ v o. h v (or_left (occurs v t) (occurs_any v ts) o)), under_apply_all L level scope s ts m.1 (λ v o. h v (or_right (occurs v t) (occurs_any v ts) o)))

-- what stands for these variables is under the limit
abbrev pub PutsUnder : (L : ℕ → ℕ) (level scope : ℕ) (s : Subst) (among : ℕ → Bool) → Type 0
PutsUnder L level scope s among = (v : ℕ) → among v ≡ true → IsUnder L level scope (s v)

-- and the other way: a changed type under the limit has its origins and what was put in under it
mutual
  pub apply_under : (L : ℕ → ℕ) (level scope : ℕ) (s : Subst) (t : Typ) → IsUnder L level scope (apply s t) → IsInScope scope t × PutsUnder L level scope s (λ v. occurs v t)
  apply_under L level scope s (Var w) h = (tt, λ v o. let e = eqb-true v w o in rw e h)
  apply_under L level scope s (Arrow a b) h =
      let p = apply_under L level scope s a h.0 in let q = apply_under L level scope s b h.1 in
      ((p.0, q.0), λ v o. elim (or_cases (occurs v a) (occurs v b) o) [ inl i ↦ p.1 v i | inr i ↦ q.1 v i ])
  apply_under L level scope s (Tuple ts) h = apply_all_under L level scope s ts h
  apply_under L level scope s (Con o ts) h = let p = apply_all_under L level scope s ts h.1 in ((h.0, p.0), p.1)

  pub apply_all_under : (L : ℕ → ℕ) (level scope : ℕ) (s : Subst) (ts : Typs) → AreUnder L level scope (apply_all s ts) → AreInScope scope ts × PutsUnder L level scope s (λ v. occurs_any v ts)
  apply_all_under L level scope s Nil h = (tt, λ v o. absurd (cc))
  apply_all_under L level scope s (Cons t ts) h =
      let p = apply_under L level scope s t h.0 in let q = apply_all_under L level scope s ts h.1 in
      ((p.0, q.0), λ v o. elim (or_cases (occurs v t) (occurs_any v ts) o) [ inl i ↦ p.1 v i | inr i ↦ q.1 v i ])

-- the lower of two numbers is one of them
pub min_cases : (s s' : ℕ) → (min s s' ≡ s) ⊎ (min s s' ≡ s')
min_cases s s' = grind arith

-- an origin in two scopes is in the lower one
pub in_both : (s s' : ℕ) (o : Path) → in_scope s o ≡ true → in_scope s' o ≡ true → in_scope (min s s') o ≡ true
in_both s s' o h h' = elim (min_cases s s') [ inl e ↦ rw e h | inr e ↦ rw e h' ]

-- two limits are the lower one of each
mutual
  pub under_both : (L : ℕ → ℕ) (l s l' s' : ℕ) (t : Typ) → IsUnder L l s t → IsUnder L l' s' t → IsUnder L (min l l') (min s s') t
  under_both L l s l' s' (Var w) h h' = omega arith
  under_both L l s l' s' (Arrow a b) h h' = (under_both L l s l' s' a h.0 h'.0, under_both L l s l' s' b h.1 h'.1)
  under_both L l s l' s' (Tuple ts) h h' = under_both_all L l s l' s' ts h h'
  under_both L l s l' s' (Con o ts) h h' = (in_both s s' o h.0 h'.0, under_both_all L l s l' s' ts h.1 h'.1)

  pub under_both_all : (L : ℕ → ℕ) (l s l' s' : ℕ) (ts : Typs) → AreUnder L l s ts → AreUnder L l' s' ts → AreUnder L (min l l') (min s s') ts
  under_both_all L l s l' s' Nil h h' = tt
  under_both_all L l s l' s' (Cons t ts) h h' = (under_both L l s l' s' t h.0 h'.0, under_both_all L l s l' s' ts h.1 h'.1)
