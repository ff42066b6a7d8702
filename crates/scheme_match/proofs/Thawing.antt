-- Types in place of some rigid variables, and types that have none of these.
use Rattle.std.proofs.Common.{◌≡◌, ◌≢◌, ℕ, zero, suc, ◌<◌, ◌≤◌, ◌^◌, Bool, true, false, ◌&&◌, [], ◌∷◌, Option, Some, None, refl, sym, ◌∙◌, ap, subst, arith, if◌then◌else◌, inl, inr}
use Rattle.std.specs.Prelude.{nat_le, nat_lt}
use Rattle.std.proofs.lemmas.Slice.Eq.{bytes_eq-Decides}
use Rattle.std.proofs.lemmas.Bool.{leb-true, ltb-true}
use Rattle.type_model.specs.Types.{Path, Typ, Typs, Var, Arrow, Tuple, Con, Nil, Cons}
use Rattle.type_model.specs.Substitutions.{Subst, apply, apply_all}
use Rattle.type_model.specs.Origins.{same_path, is_built_in, made_before, put_for, replaced_by, all_replaced_by}
use Rattle.type_model.specs.Limits.{no_scope, in_scope, IsInScope, AreInScope}
use Rattle.type_model.proofs.Applying.{or_cases}

-- no constructor of a type has something in its place
abbrev mutual
  pub Leaves : (Path → Option Typ) → Typ → Type 0
  Leaves find (Var v) = Unit {0}
  Leaves find (Arrow a b) = Leaves find a × Leaves find b
  Leaves find (Tuple ts) = AllLeft find ts
  Leaves find (Con o ts) = (find o ≡ None) × AllLeft find ts

  pub AllLeft : (Path → Option Typ) → Typs → Type 0
  AllLeft find Nil = Unit {0}
  AllLeft find (Cons t ts) = Leaves find t × AllLeft find ts

-- what is put in place of the constructors of an instance of such a type stands in the types of its variables
mutual
  pub replaced_apply : (find : Path → Option Typ) (s : Subst) (t : Typ) → Leaves find t → replaced_by find (apply s t) ≡ apply (λ v. replaced_by find (s v)) t
  replaced_apply find s (Var v) h = refl
  replaced_apply find s (Arrow a b) h = λ i. Arrow (replaced_apply find s a h.0 i) (replaced_apply find s b h.1 i)
  replaced_apply find s (Tuple ts) h = ap Tuple (all_replaced_apply find s ts h)
  replaced_apply find s (Con o ts) h = ap (λ f. put_for o f (all_replaced_by find (apply_all s ts))) h.0 ∙ ap (Con o) (all_replaced_apply find s ts h.1)

  all_replaced_apply : (find : Path → Option Typ) (s : Subst) (ts : Typs) → AllLeft find ts → all_replaced_by find (apply_all s ts) ≡ apply_all (λ v. replaced_by find (s v)) ts
  all_replaced_apply find s Nil h = refl
  all_replaced_apply find s (Cons t ts) h = λ i. Cons (replaced_apply find s t h.0 i) (all_replaced_apply find s ts h.1 i)

-- something in place of paths that begin as those of rigid variables, alone
pub record IsOfRigid (find : Path → Option Typ) : Type 0 where
  pub none : find [] ≡ None
  pub others : (k : ℕ) (rest : Path) → k ≢ 2 ^ 64 → find (k ∷ rest) ≡ None

no_built_in : is_built_in (2 ^ 64) ≡ false
no_built_in = refl

-- a scope keeps out the paths of rigid variables
scope_keeps_out : (scope : ℕ) (rest : Path) → scope < no_scope → in_scope scope ((2 ^ 64) ∷ rest) ≡ true → ⊥
scope_keeps_out scope rest lt h = elim (or_cases (nat_le no_scope scope) (made_before scope ((2 ^ 64) ∷ rest)) h) [
  | inl all ↦ let le : no_scope ≤ scope = leb-true no_scope scope all in absurd (omega arith)
  | inr before ↦ elim (or_cases (is_built_in (2 ^ 64)) (nat_lt (2 ^ 64) scope) before) [
    | inl b ↦ absurd (let n = no_built_in in let m : true ≡ false = sym b ∙ n in cc)
    | inr l ↦ let low : 2 ^ 64 < scope = ltb-true (2 ^ 64) scope l in absurd (omega arith)
  ]
]

left_in_scope : (find : Path → Option Typ) (scope : ℕ) (o : Path) → IsOfRigid find → scope < no_scope → in_scope scope o ≡ true → find o ≡ None
left_in_scope find scope [] is lt h = is.none
left_in_scope find scope (k ∷ rest) is lt h = is.others k rest (λ e. scope_keeps_out scope rest lt (subst (λ x. in_scope scope (x ∷ rest) ≡ true) e h))

-- so a type that keeps to a scope has none of them
mutual
  pub scoped_leaves : (find : Path → Option Typ) (scope : ℕ) (t : Typ) → IsOfRigid find → scope < no_scope → IsInScope scope t → Leaves find t
  scoped_leaves find scope (Var v) is lt h = tt
  scoped_leaves find scope (Arrow a b) is lt h = (scoped_leaves find scope a is lt h.0, scoped_leaves find scope b is lt h.1)
  scoped_leaves find scope (Tuple ts) is lt h = all_scoped_left find scope ts is lt h
  scoped_leaves find scope (Con o ts) is lt h = (left_in_scope find scope o is lt h.0, all_scoped_left find scope ts is lt h.1)

  all_scoped_left : (find : Path → Option Typ) (scope : ℕ) (ts : Typs) → IsOfRigid find → scope < no_scope → AreInScope scope ts → AllLeft find ts
  all_scoped_left find scope Nil is lt h = tt
  all_scoped_left find scope (Cons t ts) is lt h = (scoped_leaves find scope t is lt h.0, all_scoped_left find scope ts is lt h.1)

-- q's types in place of the rigid variables that stand for some of the numbers below k
abbrev pub thaw : (stands : ℕ → Bool) → (image : ℕ → ℕ) → Subst → ℕ → Path → Option Typ
thaw stands image q zero o = None
thaw stands image q (suc b) o = if same_path o ((2 ^ 64) ∷ image b ∷ []) && stands b then Some (q b) else thaw stands image q b o

pub both_true : (a b : Bool) → a && b ≡ true → (a ≡ true) × (b ≡ true)
both_true true true h = (refl, refl)
both_true true false h = absurd cc
both_true false b h = absurd cc

true_both : (a b : Bool) → a ≡ true → b ≡ true → a && b ≡ true
true_both true true h g = refl
true_both true false h g = absurd cc
true_both false b h g = absurd cc

-- nothing is put in place of another path
pub thaw_none : (stands : ℕ → Bool) (image : ℕ → ℕ) (q : Subst) (k : ℕ) (o : Path) → ((b : ℕ) → b < k → stands b ≡ true → o ≢ (2 ^ 64) ∷ image b ∷ []) → thaw stands image q k o ≡ None
thaw_none stands image q zero o h = refl
thaw_none stands image q (suc b) o h = here (same_path o ((2 ^ 64) ∷ image b ∷ []) && stands b) refl (thaw_none stands image q b o (λ c lt on. h c (omega arith) on))
  where
    here : (t : Bool) → same_path o ((2 ^ 64) ∷ image b ∷ []) && stands b ≡ t → thaw stands image q b o ≡ None → thaw stands image q (suc b) o ≡ None
    here true e rest =
        let (same, on) = both_true (same_path o ((2 ^ 64) ∷ image b ∷ [])) (stands b) e in
        absurd (h b (omega arith) on ((bytes_eq-Decides o ((2 ^ 64) ∷ image b ∷ [])).0 same))
    here false e rest = ap (λ x. if x then Some (q b) else thaw stands image q b o) e ∙ rest

abbrev pub second : Path → ℕ
second [] = 0
second (a ∷ []) = 0
second (a ∷ b ∷ rest) = b

-- the type of a number is put in place of its rigid variable, where it has it alone
pub thaw_some : (stands : ℕ → Bool) (image : ℕ → ℕ) (q : Subst) (k b : ℕ) → b < k → stands b ≡ true → ((c : ℕ) → stands c ≡ true → image c ≡ image b → c ≡ b) → thaw stands image q k ((2 ^ 64) ∷ image b ∷ []) ≡ Some (q b)
thaw_some stands image q zero b lt on alone = absurd (omega arith)
thaw_some stands image q (suc c) b lt on alone = here (same_path ((2 ^ 64) ∷ image b ∷ []) ((2 ^ 64) ∷ image c ∷ []) && stands c) refl (λ low. thaw_some stands image q c b low on alone)
  where
    here : (t : Bool) → same_path ((2 ^ 64) ∷ image b ∷ []) ((2 ^ 64) ∷ image c ∷ []) && stands c ≡ t → (b < c → thaw stands image q c ((2 ^ 64) ∷ image b ∷ []) ≡ Some (q b)) → thaw stands image q (suc c) ((2 ^ 64) ∷ image b ∷ []) ≡ Some (q b)
    here true e rest =
        let (same, there) = both_true (same_path ((2 ^ 64) ∷ image b ∷ []) ((2 ^ 64) ∷ image c ∷ [])) (stands c) e in
        let images : image b ≡ image c = ap second ((bytes_eq-Decides ((2 ^ 64) ∷ image b ∷ []) ((2 ^ 64) ∷ image c ∷ [])).0 same) in
        ap (λ x. if x then Some (q c) else thaw stands image q c ((2 ^ 64) ∷ image b ∷ [])) e ∙ ap (λ x. Some (q x)) (alone c there (sym images))
    here false e rest =
        let other : b ≢ c = λ is. (let t : true ≡ false = sym (true_both (same_path ((2 ^ 64) ∷ image b ∷ []) ((2 ^ 64) ∷ image c ∷ [])) (stands c) ((bytes_eq-Decides ((2 ^ 64) ∷ image b ∷ []) ((2 ^ 64) ∷ image c ∷ [])).1 (ap (λ x. (2 ^ 64) ∷ image x ∷ []) is)) (subst (λ x. stands x ≡ true) is on)) ∙ e in cc) in
        ap (λ x. if x then Some (q c) else thaw stands image q c ((2 ^ 64) ∷ image b ∷ [])) e ∙ rest (omega arith)
