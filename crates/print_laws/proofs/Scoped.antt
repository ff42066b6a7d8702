-- No rigid variable stands in a type whose origins were made before a point.
use Rattle.std.proofs.Common.{◌≡◌, inl, inr, ℕ, ◌<◌, ◌≤◌, ◌^◌, true, false, ◌&&◌, ◌||◌, [], ◌∷◌, refl, arith}
use Rattle.std.specs.Prelude.{nat_le, nat_lt}
use Rattle.std.proofs.lemmas.Bool.{leb-true, ltb-true}
use Rattle.std.proofs.lemmas.Slice.Eq.{bytes_eq-Decides}
use Rattle.type_model.specs.Types.{Path, Typ, Typs}
use Rattle.type_model.specs.Types.{Typ as type, Typs as types}
use Rattle.type_model.specs.Limits.{no_scope, in_scope, IsInScope, AreInScope}
use Rattle.type_model.proofs.Applying.{or_cases}
use Rattle.type_print.proofs.Ranks.{tells, both}
use Rattle.print_laws.specs.Rigid.{is_rigid, HasNoRigid, HaveNoRigid}

-- a first number as great as that of a rigid variable's path is in no scope
none_in : (a b c k scope : ℕ) → scope < a → c ≤ k → scope ≤ k → (nat_le a scope || ((nat_le b k && nat_lt k c) || nat_lt k scope)) ≡ true → ⊥
none_in a b c k scope low built later h = elim (or_cases (nat_le a scope) ((nat_le b k && nat_lt k c) || nat_lt k scope) h) [
  | inl i ↦ (let le = leb-true a scope i in omega arith)
  | inr i ↦ elim (or_cases (nat_le b k && nat_lt k c) (nat_lt k scope) i) [
    | inl j ↦ (let lt = ltb-true k c (both (nat_le b k) (nat_lt k c) j).1 in omega arith)
    | inr j ↦ (let lt = ltb-true k scope j in omega arith)
  ]
]

path_clean : (o : Path) (scope : ℕ) → scope < no_scope → in_scope scope o ≡ true → is_rigid o ≡ false
path_clean [] scope low h = refl
path_clean (k ∷ o) scope low h = elim (tells (is_rigid (k ∷ o))) [
  | inl t ↦
      let first : (k ∷ []) ≡ ((2 ^ 64) ∷ []) = (bytes_eq-Decides (k ∷ []) ((2 ^ 64) ∷ [])).0 t in
      let is : k ≡ 2 ^ 64 = cc in
      absurd (none_in no_scope (2 ^ 63) (2 ^ 64) k scope low (omega arith) (omega arith) h)
  | inr f ↦ f
]

-- so no rigid variable stands in a type whose origins are in a scope
mutual
  pub clean_in_scope : (t : Typ) (scope : ℕ) → scope < no_scope → IsInScope scope t → HasNoRigid t
  clean_in_scope (type.Var v) scope low h = tt
  clean_in_scope (type.Arrow a b) scope low h = (clean_in_scope a scope low h.0, clean_in_scope b scope low h.1)
  clean_in_scope (type.Tuple ts) scope low h = all_clean_in_scope ts scope low h
  clean_in_scope (type.Con o ts) scope low h = (path_clean o scope low h.0, all_clean_in_scope ts scope low h.1)

  all_clean_in_scope : (ts : Typs) (scope : ℕ) → scope < no_scope → AreInScope scope ts → HaveNoRigid ts
  all_clean_in_scope types.Nil scope low h = tt
  all_clean_in_scope (types.Cons t ts) scope low h = (clean_in_scope t scope low h.0, all_clean_in_scope ts scope low h.1)
