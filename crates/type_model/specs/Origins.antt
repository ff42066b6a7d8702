-- Origins: when a type constructor was made (OCaml manual, 11.8.1, for the definitions that make a new type), and types in place of constructors.
use Rattle.std.specs.Prelude.{ℕ, ◌^◌, Bool, true, ◌&&◌, ◌||◌, nat_le, nat_lt, List, [], ◌∷◌, Option, Some, None, if◌then◌else◌}
use Rattle.std.specs.Str.{bytes_eq}
use Rattle.type_model.specs.Types.{Path, Typ, Typs, Var, Arrow, Tuple, Con, Nil, Cons}
use Rattle.type_model.specs.Substitutions.{apply, with_arguments}

-- whether two paths are the same list of numbers
abbrev pub same_path : Path → Path → Bool
same_path = bytes_eq

-- the first numbers of the paths of built-in types
abbrev pub is_built_in : ℕ → Bool
is_built_in k = nat_le (2 ^ 63) k && nat_lt k (2 ^ 64)

-- whether an origin was made before a point; a built-in type was made before everything
abbrev pub made_before : ℕ → Path → Bool
made_before point [] = true
made_before point (k ∷ path) = is_built_in k || nat_lt k point

-- a rigid variable, as a constructor whose path no origin has
abbrev pub rigid : ℕ → Typ
rigid j = Con ((2 ^ 64) ∷ j ∷ []) Nil

-- a type for some origins, over the variables 0, 1 and so on for the constructor's arguments
abbrev pub Replacements : Type 0
Replacements = List (Path × Typ)

-- the first one for an origin
abbrev pub replacement_for : Path → Replacements → Option Typ
replacement_for o [] = None
replacement_for o ((p, t) ∷ rest) = if same_path o p then Some t else replacement_for o rest

-- types in order, as a list
abbrev pub list_of : Typs → List Typ
list_of Nil = []
list_of (Cons t ts) = t ∷ list_of ts

-- a constructor with these arguments, or what stands in its place
abbrev pub put_for : Path → Option Typ → Typs → Typ
put_for o None ts = Con o ts
put_for o (Some body) ts = apply (with_arguments (list_of ts)) body

-- a type with what `find` has in place of the constructors; what it puts in isn't looked through again
abbrev mutual
  pub replaced_by : (Path → Option Typ) → Typ → Typ
  replaced_by find (Var v) = Var v
  replaced_by find (Arrow a b) = Arrow (replaced_by find a) (replaced_by find b)
  replaced_by find (Tuple ts) = Tuple (all_replaced_by find ts)
  replaced_by find (Con o ts) = put_for o (find o) (all_replaced_by find ts)

  -- each of several types with what `find` has in place of its constructors
  pub all_replaced_by : (Path → Option Typ) → Typs → Typs
  all_replaced_by find Nil = Nil
  all_replaced_by find (Cons t ts) = Cons (replaced_by find t) (all_replaced_by find ts)

-- a type with the replacements in place of their origins
abbrev pub replaced : Replacements → Typ → Typ
replaced m = replaced_by (λ o. replacement_for o m)
