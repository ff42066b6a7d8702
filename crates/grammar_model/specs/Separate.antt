-- The row of a sort that a key begins or grows by, and that there is one at most.
use Rattle.std.specs.Prelude.{◌≡◌, ℕ, Bool, true, false, nat_eq, Option, Some, None, List, [], ◌∷◌, if◌then◌else◌}
use Rattle.grammar_model.specs.Tables.{Table, plain, takes}
use Rattle.grammar_model.specs.Grammar.{MayCome}
use Rattle.grammar_model.specs.Rows.{Left, no_left, level, named, Row, row_at, Sizes, chain_of, grower_of}

-- the key may stand first in the row: at its start, or directly behind its left operand
abbrev pub StartsWith : Table → ℕ → ℕ → Type 0
StartsWith G r k = (p : ℕ) × MayCome (G.next r 0) plain p × (takes G (G.what r p) k ≡ true)

-- no sort has two rows of one key at one place
abbrev pub AreSeparate : Table → Type 0
AreSeparate G = (r q k : ℕ) → G.sort r ≡ G.sort q → G.has_left r ≡ G.has_left q → StartsWith G r k → StartsWith G q k → r ≡ q

-- the row has this sort, this left operand and this key
pub record IsRowFor (G : Table) (R : List Row) (s : ℕ) (l : Left) (k : ℕ) (r : ℕ) : Type 0 where
  pub sort : G.sort r ≡ s
  pub left : (row_at R r).left ≡ l
  pub key : StartsWith G r k

-- the first of some rows
abbrev pub head_of : List ℕ → Option ℕ
head_of [] = None
head_of (r ∷ rs) = Some r

-- two left operands are the same
abbrev pub is_same_left : Left → Left → Bool
is_same_left no_left no_left = true
is_same_left no_left (level m) = false
is_same_left no_left (named m) = false
is_same_left (level n) no_left = false
is_same_left (level n) (level m) = nat_eq n m
is_same_left (level n) (named m) = false
is_same_left (named n) no_left = false
is_same_left (named n) (level m) = false
is_same_left (named n) (named m) = nat_eq n m

-- a row that may be none, where it has this left operand
abbrev pub with_left : List Row → Left → Option ℕ → Option ℕ
with_left R l None = None
with_left R l (Some r) = if is_same_left (row_at R r).left l then Some r else None

-- the number of the row of a sort, a left operand and a key
unfoldable pub row_for : Sizes → List Row → ℕ → Left → ℕ → Option ℕ
row_for z R s no_left k = head_of (chain_of z R s k)
row_for z R s (level n) k = with_left R (level n) (grower_of z R s k)
row_for z R s (named n) k = with_left R (named n) (grower_of z R s k)
