-- Types that aren't one.
use Rattle.std.proofs.Common.{◌≡◌, ℕ, Bool, true, false, sym, ◌∙◌, ap}
use Rattle.type_model.specs.Types.{Path, Typ, Typs, Var, Arrow, Tuple, Con}
use Rattle.type_model.specs.Origins.{same_path}
use Rattle.typing_model.specs.BuiltIns.{int_type, string_type, built_in_origin}

-- whether a type is the built-in type int
abbrev is_int : Typ → Bool
is_int (Var v) = false
is_int (Arrow a b) = false
is_int (Tuple ts) = false
is_int (Con o ts) = same_path o (built_in_origin 0)

-- no test both fails and holds
pub no_yes : false ≡ true → ⊥
no_yes e = cc e

-- no test both holds and fails
pub yes_no : true ≡ false → ⊥
yes_no e = cc e

-- a string is no int
pub string_is_no_int : (t u : Typ) → t ≡ string_type → u ≡ int_type → t ≡ u → ⊥
string_is_no_int t u s i e = no_yes (ap is_int (sym s ∙ e ∙ i))

abbrev is_variable : Typ → Bool
is_variable (Var v) = true
is_variable (Arrow a b) = false
is_variable (Tuple ts) = false
is_variable (Con o ts) = false

-- an arrow, and a constructor, is no variable
pub arrow_is_no_variable : (a b : Typ) (v : ℕ) → Arrow a b ≡ Var v → ⊥
arrow_is_no_variable a b v e = no_yes (ap is_variable e)

pub con_is_no_variable : (o : Path) (ts : Typs) (v : ℕ) → Con o ts ≡ Var v → ⊥
con_is_no_variable o ts v e = no_yes (ap is_variable e)
