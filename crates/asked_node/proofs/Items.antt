-- The items of a text by their numbers.
use Rattle.std.proofs.Common.{◌≡◌, ℕ, zero, suc, ◌-◌, List, slice_get, refl, ap, arith}
use Rattle.tree_model.specs.Trees.{Tree}
use Rattle.asked_node.specs.Rows.{item_at}

-- the item of a number is at the place before it
pub item_behind : (ts : List Tree) (i : ℕ) → (i ≡ 0 → ⊥) → item_at ts i ≡ slice_get ts (i - 1)
item_behind ts zero h = absurd (h refl)
item_behind ts (suc i) h = let e : i ≡ suc i - 1 = omega arith in ap (slice_get ts) e
