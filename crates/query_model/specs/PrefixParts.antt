-- The parts of a prefix: the names of modules, each with its point behind it, and the beginning of a name.
use Rattle.std.specs.Prelude.{ℕ, ◌==◌, Bool, List, [], ◌∷◌, unwrap_or}
use Rattle.std.specs.List.{slice_split, join_with_byte}
use Rattle.tree_model.specs.Nodes.{last_of}

-- whether a byte is a point
abbrev pub is_point : ℕ → Bool
is_point b = b == 46

-- what stands between the points
abbrev pub parts_of : List ℕ → List (List ℕ)
parts_of prefix = slice_split is_point prefix

-- all of a list but its last
abbrev pub all_but_last : {A : Type 0} → List A → List A
all_but_last [] = []
all_but_last (x ∷ []) = []
all_but_last (x ∷ y ∷ ys) = x ∷ all_but_last (y ∷ ys)

-- the names of modules: the parts with a point behind them
abbrev pub modules_of : List ℕ → List (List ℕ)
modules_of prefix = all_but_last (parts_of prefix)

-- the beginning of a name: what stands behind the last point
abbrev pub beginning_of : List ℕ → List ℕ
beginning_of prefix = unwrap_or (last_of (parts_of prefix)) []

-- the path of the modules: their names with a point between each two
abbrev pub path_of : List ℕ → List ℕ
path_of prefix = join_with_byte 46 (modules_of prefix)
