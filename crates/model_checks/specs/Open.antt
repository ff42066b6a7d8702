-- Most general choices: a variable of its own for each type that a typing leaves open.
use Rattle.std.specs.Prelude.{ℕ, zero, suc, ◌+◌, ◌*◌, ◌==◌, ◌&&◌, List, [], ◌∷◌, if◌then◌else◌}
use Rattle.type_model.specs.Types.{Path, Typ, Var}
use Rattle.typing_model.specs.Contexts.{Choice}

-- a number in front of a coded list
abbrev pub coded : ℕ → ℕ → ℕ
coded zero m = 2 * m + 1
coded (suc n) m = 2 * coded n m

-- a list as a number, another one for each
abbrev pub code : List ℕ → ℕ
code [] = 0
code (n ∷ ns) = coded n (code ns)

-- the variable of a node, of a letter of a row, and of an unknown type at a node
unfoldable pub of_node : ℕ → ℕ
of_node n = code (0 ∷ n ∷ [])

-- the variable of a letter of a row
unfoldable pub of_letter : ℕ → ℕ → ℕ
of_letter n k = code (1 ∷ n ∷ k ∷ [])

-- the variable of an unknown type at a node
unfoldable pub of_unknown : ℕ → Path → ℕ
of_unknown n o = code (2 ∷ n ∷ o)

-- the types of some nodes, and every other node's own variable
abbrev pub open_types : List (ℕ × Typ) → ℕ → Typ
open_types [] n = Var (of_node n)
open_types ((k, t) ∷ rest) n = if n == k then t else open_types rest n

-- the same for letters
abbrev pub open_letters : List (ℕ × ℕ × Typ) → ℕ → ℕ → Typ
open_letters [] n k = Var (of_letter n k)
open_letters ((m, j, t) ∷ rest) n k = if n == m && k == j then t else open_letters rest n k

-- a choice of these types and letters, all others open
abbrev pub open_choice : List (ℕ × Typ) → List (ℕ × ℕ × Typ) → Choice
open_choice types letters = record { type_at = open_types types; letter = open_letters letters; written = λ n x. Var 0; filled = λ n o. Var (of_unknown n o) }
