-- The comparison of types is equality.
use Rattle.std.proofs.Common.{◌≡◌, ◌≢◌, ℕ, Bool, true, false, ◌&&◌, List, [], ◌∷◌, length, refl, sym, ap, suc}
use Rattle.std.specs.Prelude.{IsTrue, ◌↔◌}
use Rattle.std.specs.Cmp.Lexicographic.{same_text}
use Rattle.std.proofs.lemmas.Bool.{eq-eqb, eqb-true}
use Rattle.type_model.specs.Types.{Typ, Typs, Var, Arrow, Tuple, Con, Nil, Cons, types_of}
use Rattle.type_model.specs.Origins.{same_path}
use Rattle.type_terms.specs.Same.{same, same_all}

-- lists of other lengths aren't the same
pub other_lengths : (ts us : List Typ) → length ts ≢ length us → same_all (types_of ts) (types_of us) ≡ false
other_lengths [] [] h = absurd (h refl)
other_lengths [] (u ∷ us) h = refl
other_lengths (t ∷ ts) [] h = refl
other_lengths (t ∷ ts) (u ∷ us) h = at (same t u) (other_lengths ts us (λ e. h (ap suc e)))
  where
    at : (b : Bool) → same_all (types_of ts) (types_of us) ≡ false → (b && same_all (types_of ts) (types_of us)) ≡ false
    at true e = e
    at false e = refl

-- both sides of a true conjunction are true
and_both : (a b : Bool) → (a && b) ≡ true → (a ≡ true) × (b ≡ true)
and_both true b h = (refl, h)
and_both false b h = absurd (cc)

-- the same path is an equal list
path_same : (p q : List ℕ) → same_path p q ≡ true → p ≡ q
path_same p q h = same_text p q (sym h)

path_itself : (p : List ℕ) → same_path p p ≡ true
path_itself [] = refl
path_itself (i ∷ p) = let e = eq-eqb i i refl in let f = path_itself p in rw (e, f) refl

-- types that are the same part by part are equal
mutual
  pub same_equal : (t u : Typ) → same t u ≡ true → t ≡ u
  same_equal (Var v) (Var w) h = ap Var (eqb-true v w h)
  same_equal (Arrow a b) (Arrow c d) h = let (p, q) = and_both (same a c) (same b d) h in let e = same_equal a c p in let f = same_equal b d q in cc
  same_equal (Tuple ts) (Tuple us) h = ap Tuple (all_same_equal ts us h)
  same_equal (Con o ts) (Con p us) h = let (e, f) = and_both (same_path o p) (same_all ts us) h in let g = path_same o p e in let k = all_same_equal ts us f in cc
  same_equal _ _ h = absurd (cc)

  pub all_same_equal : (ts us : Typs) → same_all ts us ≡ true → ts ≡ us
  all_same_equal Nil Nil h = refl
  all_same_equal (Cons t ts) (Cons u us) h = let (p, q) = and_both (same t u) (same_all ts us) h in let e = same_equal t u p in let f = all_same_equal ts us q in cc
  all_same_equal _ _ h = absurd (cc)

-- a type is the same as itself
mutual
  pub same_itself : (t : Typ) → same t t ≡ true
  same_itself (Var v) = eq-eqb v v refl
  same_itself (Arrow a b) = let e = same_itself a in let f = same_itself b in rw (e, f) refl
  same_itself (Tuple ts) = all_same_itself ts
  same_itself (Con o ts) = let e = path_itself o in let f = all_same_itself ts in rw (e, f) refl

  pub all_same_itself : (ts : Typs) → same_all ts ts ≡ true
  all_same_itself Nil = refl
  all_same_itself (Cons t ts) = let e = same_itself t in let f = all_same_itself ts in rw (e, f) refl

-- equal types are the same
pub equal_same : (t u : Typ) → t ≡ u → same t u ≡ true
equal_same t u e = rw (← e) (same_itself t)

-- the comparison's answer tells whether two types are equal
pub told : (t u : Typ) (b : Bool) → b ≡ same t u → IsTrue b ↔ (t ≡ u)
told t u true e = (λ h. same_equal t u (sym e), λ h. refl)
told t u false e = (λ h. absurd (cc), λ h. absurd (let f = equal_same t u h in cc))
