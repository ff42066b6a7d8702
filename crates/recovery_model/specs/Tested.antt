-- A list of rows that meets the conditions under which the grammar is exact.
use Rattle.std.specs.Prelude.{◌≡◌, ℕ, Bool, true, false, ◌&&◌, not, nat_le, nat_eq, List, if◌then◌else◌}
use Rattle.grammar_model.specs.Tables.{Table, is_text, row}
use Rattle.grammar_model.specs.Rows.{Spot, Row, spot_at, row_at, is_left, left_takes, first_what, Sizes, table_of}
use Rattle.grammar_model.specs.Checks.{each, each_spot, each_below, each_edge, is_nothing, begins_alone, grows_alone, one_or_none, no_text, must_fine, chain_fine, grower_fine}
use Rattle.recovery_model.specs.Steps.{ends_within, most_parts}

-- a row begins at one spot
abbrev pub starts_once : ℕ → Row → Bool
starts_once i w = is_nothing (spot_at w 0).what && one_or_none (spot_at w 0).next

-- a row of an operand has a part
abbrev pub is_never_empty : ℕ → Row → Bool
is_never_empty i w = if (spot_at w 0).ends then is_text w.sort else true

-- no other row of the sort has one of the row's first keys at the same place, the start or behind an operand
abbrev pub is_alone : Table → ℕ → ℕ → Row → Bool
is_alone G keys i w = if is_left w.left then grows_alone G keys i w.sort (first_what w) else begins_alone G keys i w.sort (first_what w)

-- a left operand may stand wherever the row itself may
abbrev pub left_stands : List Row → ℕ → Row → Bool
left_stands all i w = if is_left w.left then not (nat_eq w.sort 0) && each 0 all (λ q v. if left_takes all w.left w.sort (row q) then nat_le w.stand v.stand else true) else true

-- the spot of an operand has an operand's sort; where the row can't end, a part must come, and after at most 16 such parts it ends
abbrev pub spot_fine : Table → Row → ℕ → ℕ → Spot → Bool
spot_fine G w i p s = no_text s.what && each_edge s.next (λ q. not (is_nothing (spot_at w q).what)) && (if s.ends then true else must_fine s.next && ends_within most_parts G i p)

-- each spot of a row is fine
abbrev pub spots_fine : Table → ℕ → Row → Bool
spots_fine G i w = each_spot 0 w.spots (spot_fine G w i)

-- the rows pass each test
pub record Tested (root : ℕ) (z : Sizes) (R : List Row) : Type 0 where
  pub starts : each 0 R starts_once ≡ true
  pub never_empty : each 0 R is_never_empty ≡ true
  pub alone : each 0 R (is_alone (table_of root z R) z.keys) ≡ true
  pub lefts : each 0 R (left_stands R) ≡ true
  pub spots : each 0 R (spots_fine (table_of root z R)) ≡ true
  pub chains : each_below z.sorts (λ s. each_below z.keys (λ k. chain_fine (table_of root z R) s k ((table_of root z R).chain s k))) ≡ true
  pub growers : each_below z.sorts (λ s. each_below z.keys (λ k. grower_fine (table_of root z R) s k ((table_of root z R).grower s k))) ≡ true
  pub whole : is_left (row_at R root).left ≡ false
