-- What a variable's level and scope allow: one limit on the types that it may stand for (Rémy 1992 for levels).
use Rattle.std.specs.Prelude.{◌≡◌, ℕ, ◌-◌, ◌^◌, ◌≤◌, Bool, true, ◌||◌, nat_le}
use Rattle.type_model.specs.Types.{Path, Typ, Typs, Var, Arrow, Tuple, Con, Nil, Cons}
use Rattle.type_model.specs.Origins.{made_before}

-- the scope that limits nothing
abbrev pub no_scope : ℕ
no_scope = 2 ^ 64 - 1

-- whether a scope lets an origin in
abbrev pub in_scope : ℕ → Path → Bool
in_scope scope o = nat_le no_scope scope || made_before scope o

-- each origin of a type is in the scope
abbrev mutual
  pub IsInScope : ℕ → Typ → Type 0
  IsInScope scope (Var v) = Unit {0}
  IsInScope scope (Arrow a b) = IsInScope scope a × IsInScope scope b
  IsInScope scope (Tuple ts) = AreInScope scope ts
  IsInScope scope (Con o ts) = (in_scope scope o ≡ true) × AreInScope scope ts

  -- each origin of several types is in the scope
  pub AreInScope : ℕ → Typs → Type 0
  AreInScope scope Nil = Unit {0}
  AreInScope scope (Cons t ts) = IsInScope scope t × AreInScope scope ts

-- where variables have the levels L, each variable of a type has at most this level, and each origin is in the scope
abbrev mutual
  pub IsUnder : (L : ℕ → ℕ) (level scope : ℕ) → Typ → Type 0
  IsUnder L level scope (Var v) = L v ≤ level
  IsUnder L level scope (Arrow a b) = IsUnder L level scope a × IsUnder L level scope b
  IsUnder L level scope (Tuple ts) = AreUnder L level scope ts
  IsUnder L level scope (Con o ts) = (in_scope scope o ≡ true) × AreUnder L level scope ts

  -- the same of each of several types
  pub AreUnder : (L : ℕ → ℕ) (level scope : ℕ) → Typs → Type 0
  AreUnder L level scope Nil = Unit {0}
  AreUnder L level scope (Cons t ts) = IsUnder L level scope t × AreUnder L level scope ts
