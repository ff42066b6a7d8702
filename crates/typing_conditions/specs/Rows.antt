-- What a row carries from its start on, of what it may touch and of the nodes that it works on.
use Rattle.std.specs.Prelude.{◌≡◌, ℕ, List, slice_get, Some}
use Rattle.type_nodes.specs.Nodes.{Node}
use Rattle.type_nodes.specs.Readings.{Types}
use Rattle.typing_conditions.specs.Locals.{IsOwn, Local, IsContext, IsResult}

-- From `start` to `now` only what stands in the roots, and what was made, was touched; the nodes rs are open: new, or of the roots,
-- with free variables alone, of at most the level.
pub record Row (start now : List Node) (I J : Types) (roots : List ℕ) (held : ℕ → List ℕ) (level : ℕ) (rs : List ℕ) : Type 0 where
  pub before : IsOwn start I
  pub own : IsOwn now J
  pub context : IsContext start I roots level
  pub local : Local start now I J roots held level
  pub open_nodes : (k r : ℕ) → slice_get rs k ≡ Some r → IsResult start now J roots level r
