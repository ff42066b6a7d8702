-- Types for the nodes of a text, given for some of them.
use Rattle.std.specs.Prelude.{ℕ, ◌+◌, ◌==◌, List, [], ◌∷◌, if◌then◌else◌}
use Rattle.type_model.specs.Types.{Typ, Var}
use Rattle.typing_model.specs.Contexts.{Choice}
use Rattle.typing_model.specs.Meanings.{item_base}

-- the node of a number in the first item
abbrev pub first : ℕ → ℕ
first k = item_base 1 + k

-- the node of a number in the third, in the fourth, and in the fifth item
abbrev pub third : ℕ → ℕ
third k = item_base 3 + k

-- in the fourth
abbrev pub fourth : ℕ → ℕ
fourth k = item_base 4 + k

-- in the fifth
abbrev pub fifth : ℕ → ℕ
fifth k = item_base 5 + k

-- the node of a number in the second item
abbrev pub second : ℕ → ℕ
second k = item_base 2 + k

-- the types of some numbers; every other number has a variable of its own
abbrev pub types_from : List (ℕ × Typ) → ℕ → Typ
types_from [] n = Var n
types_from ((k, t) ∷ rest) n = if n == k then t else types_from rest n

-- a choice of these types, and of one type for the letters of each row
abbrev pub choice_of : List (ℕ × Typ) → (ℕ → ℕ → Typ) → Choice
choice_of table letters = record { type_at = types_from table; letter = letters; written = λ n x. Var 0; filled = λ n o. Var 0 }
