-- Type expressions by their numbers, for each of which something is recorded.
use Rattle.std.specs.Prelude.{◌≡◌, ℕ, ◌<◌, ◌^◌, List, Some}
use Rattle.env_table.specs.declared.seen.Seen.{Seen}
use Rattle.typed_index.specs.Seen.{seen_at}
use Rattle.typing_state.specs.declared.parts.Parts.{Parts}
use Rattle.typing_conditions.specs.Standing.{IsIn}
use Rattle.typing_conditions.specs.Sights.{number_in}

-- something is recorded for the node with this number among those of all items
pub record IsNoted (k : ℕ) (a : Parts) : Type 0 where
  pub item : ℕ
  pub place : ℕ
  pub small : place < 2 ^ 32
  pub number : k ≡ number_in item place
  pub seen : Seen
  pub at : seen_at a.index item place ≡ Some seen

-- the same of each of some nodes
abbrev pub AreNoted : List ℕ → Parts → Type 0
AreNoted U a = (k : ℕ) → IsIn U k → IsNoted k a
