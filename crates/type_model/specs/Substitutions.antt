-- Substitutions: types in place of variables (Baader and Nipkow, Term Rewriting and All That, 3.1).
use Rattle.std.specs.Prelude.{◌≡◌, ℕ, List, slice_get, unwrap_or}
use Rattle.type_model.specs.Types.{Typ, Typs, Var, Arrow, Tuple, Con, Nil, Cons}

-- a type for each variable
abbrev pub Subst : Type 0
Subst = ℕ → Typ

-- a type with its variables replaced
abbrev mutual
  pub apply : Subst → Typ → Typ
  apply s (Var v) = s v
  apply s (Arrow a b) = Arrow (apply s a) (apply s b)
  apply s (Tuple ts) = Tuple (apply_all s ts)
  apply s (Con o ts) = Con o (apply_all s ts)

  -- each of several types with its variables replaced
  pub apply_all : Subst → Typs → Typs
  apply_all s Nil = Nil
  apply_all s (Cons t ts) = Cons (apply s t) (apply_all s ts)

-- first s, then r
abbrev pub after : Subst → Subst → Subst
after r s = λ v. apply r (s v)

-- one substitution of the variables of t gives x
abbrev pub IsInstance : Typ → Typ → Type 0
IsInstance x t = (s : Subst) × (x ≡ apply s t)

-- the arguments in place of the variables 0, 1 and so on; every other variable is itself
abbrev pub with_arguments : List Typ → Subst
with_arguments ts v = unwrap_or (slice_get ts v) (Var v)
