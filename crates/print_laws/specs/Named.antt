-- The names that nodes have for origins.
use Rattle.std.specs.Prelude.{◌≡◌, ℕ, List, [], ◌∷◌, slice_get, Some, if◌then◌else◌}
use Rattle.type_model.specs.Types.{Path}
use Rattle.type_model.specs.Origins.{same_path}
use Rattle.signature_model.specs.Declarations.{Name}
use Rattle.type_nodes.specs.Nodes.{Node, Var, Rigid, Link, Arrow, Tuple, Con}

-- nodes of one origin have one name for it
pub record AreNamedOnce (nodes : List Node) : Type 0 where
  pub each : (m n : ℕ) (o : Path) (x y ms ns : List ℕ) → slice_get nodes m ≡ Some (Con o x ms) → slice_get nodes n ≡ Some (Con o y ns) → x ≡ y

-- the name that the first node of an origin has for it
abbrev pub name_among : Path → List Node → Name
name_among o [] = []
name_among o (Var level scope ∷ nodes) = name_among o nodes
name_among o (Rigid ∷ nodes) = name_among o nodes
name_among o (Link m ∷ nodes) = name_among o nodes
name_among o (Arrow a b ∷ nodes) = name_among o nodes
name_among o (Tuple ms ∷ nodes) = name_among o nodes
name_among o (Con p x ms ∷ nodes) = if same_path o p then x else name_among o nodes
