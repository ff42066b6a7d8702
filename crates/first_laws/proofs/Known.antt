-- Whether an unknown type stands in a type, by computation.
use Rattle.std.proofs.Common.{◌≡◌, ◌&&◌, Bool, true, false, not, Option, None, Some, refl}
use Rattle.type_model.specs.Types.{Typ, Typs, Var, Arrow, Tuple, Con, Nil, Cons}
use Rattle.signature_model.specs.Matching.{is_unknown, IsKnown, AreKnown}
use Rattle.typing_laws.proofs.Bools.{and_cases}
use Rattle.typing_conditions.specs.Declared.{building}

-- whether no unknown type stands in a type
abbrev mutual
  pub is_known_type : Typ → Bool
  is_known_type (Var v) = true
  is_known_type (Arrow a b) = is_known_type a && is_known_type b
  is_known_type (Tuple ts) = are_known_types ts
  is_known_type (Con o ts) = not (is_unknown o) && are_known_types ts

  -- the same of several
  pub are_known_types : Typs → Bool
  are_known_types Nil = true
  are_known_types (Cons t ts) = is_known_type t && are_known_types ts

-- the same of a type that may be there
abbrev pub knows_option : Option Typ → Bool
knows_option None = true
knows_option (Some t) = is_known_type t

not_true : (b : Bool) → not b ≡ true → b ≡ false
not_true true h = absurd (cc)
not_true false h = refl

mutual
  pub type_known : (t : Typ) → is_known_type t ≡ true → IsKnown t
  type_known (Var v) h = tt
  type_known (Arrow a b) h = let r = and_cases (is_known_type a) (is_known_type b) h in (type_known a r.0, type_known b r.1)
  type_known (Tuple ts) h = types_known ts h
  type_known (Con o ts) h = let r = and_cases (not (is_unknown o)) (are_known_types ts) h in (not_true (is_unknown o) r.0, types_known ts r.1)

  types_known : (ts : Typs) → are_known_types ts ≡ true → AreKnown ts
  types_known Nil h = tt
  types_known (Cons t ts) h = let r = and_cases (is_known_type t) (are_known_types ts) h in (type_known t r.0, types_known ts r.1)

-- the type of a constructor is known where what it builds is, and its argument
pub building_known : (result : Typ) (o : Option Typ) → IsKnown result → knows_option o ≡ true → IsKnown (building result o)
building_known result None known h = known
building_known result (Some t) known h = (type_known t h, known)
