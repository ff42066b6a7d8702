-- The built-in types.
use Rattle.std.specs.Prelude.{ℕ, ◌-◌, ◌^◌, List, codes}
use Rattle.typing_state.specs.declared.built_ins.BuiltIn.{BuiltIn}
use Rattle.typing_state.specs.declared.built_ins.BuiltIn.TheVariants as built

-- their numbers, from 0
abbrev pub number_of : BuiltIn → ℕ
number_of built.Int = 0
number_of built.Char = 1
number_of built.Str = 2
number_of built.Float = 3
number_of built.Unit = 4
number_of built.Bool = 5
number_of built.Exn = 6
number_of built.List = 7

-- their names
abbrev pub name_of : BuiltIn → List ℕ
name_of built.Int = codes "int"
name_of built.Char = codes "char"
name_of built.Str = codes "string"
name_of built.Float = codes "float"
name_of built.Unit = codes "unit"
name_of built.Bool = codes "bool"
name_of built.Exn = codes "exn"
name_of built.List = codes "list"

-- the one number of the path of its origin
abbrev pub first_of : BuiltIn → ℕ
first_of b = 2 ^ 64 - 1 - number_of b
