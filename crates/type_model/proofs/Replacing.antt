-- Arguments of schemes and types in place of origins.
use Rattle.std.proofs.Common.{Option, None, ◌≡◌, ℕ, ◌≤◌, false, ltb, length, List, [], ◌∷◌, map, refl, ap, arith, zero, suc}
use Rattle.std.specs.Prelude.{slice_get, unwrap_or}
use Rattle.type_model.specs.Types.{Path, Typ, Typs, Var, Arrow, Tuple, Con, Nil, Cons, types_of}
use Rattle.type_model.specs.Substitutions.{apply, with_arguments}
use Rattle.type_model.specs.Schemes.{HasInstance}
use Rattle.type_model.specs.Origins.{list_of, replaced_by, all_replaced_by}

-- a variable behind the arguments is itself
pub behind_arguments : (ts : List Typ) (v w : ℕ) → length ts ≤ v → unwrap_or (slice_get ts v) (Var w) ≡ Var w
behind_arguments [] v w h = refl
behind_arguments (t ∷ ts) zero w h = absurd (omega arith)
behind_arguments (t ∷ ts) (suc v) w h = behind_arguments ts v w (omega arith)

-- as many arguments as a scheme has variables of its own give an instance of it
pub arguments_give_instance : (bound : ℕ) (body : Typ) (ts : List Typ) → length ts ≡ bound →
    HasInstance (record { body = body; bound = λ v. ltb v bound }) (apply (with_arguments ts) body)
arguments_give_instance bound body ts e = (with_arguments ts, λ v f. at v f, refl)
  where
    not_below : (v n : ℕ) → ltb v n ≡ false → n ≤ v
    not_below v n f = grind arith

    at : (v : ℕ) → ltb v bound ≡ false → with_arguments ts v ≡ Var v
    at v f = behind_arguments ts v v (let h = not_below v bound f in omega arith)

-- the list of types is the list
pub list_of-types_of : (ts : List Typ) → list_of (types_of ts) ≡ ts
list_of-types_of [] = refl
list_of-types_of (t ∷ ts) = ap (λ l. t ∷ l) (list_of-types_of ts)

-- where nothing is found, every type stays
mutual
  pub replaced_by_nothing : (t : Typ) → replaced_by (λ o. None) t ≡ t
  replaced_by_nothing (Var v) = refl
  replaced_by_nothing (Arrow a b) = let p = replaced_by_nothing a in let q = replaced_by_nothing b in cc
  replaced_by_nothing (Tuple ts) = ap Tuple (all_replaced_by_nothing ts)
  replaced_by_nothing (Con o ts) = ap (Con o) (all_replaced_by_nothing ts)

  pub all_replaced_by_nothing : (ts : Typs) → all_replaced_by (λ o. None) ts ≡ ts
  all_replaced_by_nothing Nil = refl
  all_replaced_by_nothing (Cons t ts) = let p = replaced_by_nothing t in let q = all_replaced_by_nothing ts in cc

-- the replacements in a list of types are those in each
pub all_replaced_by-types_of : (find : Path → Option Typ) (ts : List Typ) → all_replaced_by find (types_of ts) ≡ types_of (map (replaced_by find) ts)
all_replaced_by-types_of find [] = refl
all_replaced_by-types_of find (t ∷ ts) = ap (Cons (replaced_by find t)) (all_replaced_by-types_of find ts)
