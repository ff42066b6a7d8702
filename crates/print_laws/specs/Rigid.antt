-- Types in which no rigid variable stands.
use Rattle.std.specs.Prelude.{◌≡◌, ◌^◌, Bool, false, [], ◌∷◌}
use Rattle.type_model.specs.Types.{Path, Typ, Typs, Var, Arrow, Tuple, Con, Nil, Cons}
use Rattle.type_model.specs.Origins.{same_path}

-- whether a path is that of a rigid variable
abbrev pub is_rigid : Path → Bool
is_rigid [] = false
is_rigid (k ∷ o) = same_path (k ∷ []) ((2 ^ 64) ∷ [])

-- no rigid variable stands in a type
abbrev mutual
  pub HasNoRigid : Typ → Type 0
  HasNoRigid (Var v) = Unit {0}
  HasNoRigid (Arrow a b) = HasNoRigid a × HasNoRigid b
  HasNoRigid (Tuple ts) = HaveNoRigid ts
  HasNoRigid (Con o ts) = (is_rigid o ≡ false) × HaveNoRigid ts

  -- none stands in any of several types
  pub HaveNoRigid : Typs → Type 0
  HaveNoRigid Nil = Unit {0}
  HaveNoRigid (Cons t ts) = HasNoRigid t × HaveNoRigid ts
