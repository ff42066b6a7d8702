-- The count of typed items, and which items stay.
use Rattle.std.specs.Prelude.{◌≡◌, ◌≤◌, ◌+◌, ℕ, zero, suc, List, length, take}
use Rattle.tree_model.specs.Trees.{Tree}
use Rattle.syntax_tree.specs.Tallies.{counted}

-- a count after this many more, one after the other
abbrev pub more_typed : ℕ → ℕ → ℕ
more_typed zero n = n
more_typed (suc k) n = counted (more_typed k n)

-- two texts have their first n items alike
pub record SameFront (xs ys : List Tree) (n : ℕ) : Type 0 where
  pub left : n ≤ length xs
  pub right : n ≤ length ys
  pub same : take n xs ≡ take n ys

-- two texts have their first n items alike, and no more than these
pub record LongestFront (xs ys : List Tree) (n : ℕ) : Type 0 where
  pub front : SameFront xs ys n
  pub longest : (m : ℕ) → SameFront xs ys m → m ≤ n

-- What a call has done that held some items and is given those of a text, by the items that it holds now and the count of typed items before and now: of the text's items it holds those that
-- it held already, with nothing else before them, and some after these, each of which it has typed and counted once.
pub record GoesOn (olds items news : List Tree) (before now : ℕ) : Type 0 where
  pub same : ℕ
  pub front : LongestFront olds items same
  pub more : ℕ
  pub within : same + more ≤ length items
  pub holds : news ≡ take (same + more) items
  pub typed : now ≡ more_typed more before
