-- Whether two types are equal, part by part.
use Rattle.std.specs.Prelude.{Bool, true, false, ◌&&◌, ◌==◌}
use Rattle.type_model.specs.Types.{Typ, Typs, Var, Arrow, Tuple, Con, Nil, Cons}
use Rattle.type_model.specs.Origins.{same_path}

-- two types have the same form, with the same variables and origins
abbrev mutual
  pub same : Typ → Typ → Bool
  same (Var v) (Var w) = v == w
  same (Arrow a b) (Arrow c d) = same a c && same b d
  same (Tuple ts) (Tuple us) = same_all ts us
  same (Con o ts) (Con p us) = same_path o p && same_all ts us
  same _ _ = false

  -- the same of lists of types, which have one length
  pub same_all : Typs → Typs → Bool
  same_all Nil Nil = true
  same_all (Cons t ts) (Cons u us) = same t u && same_all ts us
  same_all _ _ = false
