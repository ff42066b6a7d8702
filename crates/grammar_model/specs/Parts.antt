-- Rows as they are written, with their parts in order, and the spots that they come to.
use Rattle.std.specs.Prelude.{ℕ, zero, suc, ◌+◌, Bool, true, false, nat_eq, List, [], ◌∷◌, ◌++◌, max, if◌then◌else◌}
use Rattle.grammar_model.specs.Tables.{nothing, token, Edge}
use Rattle.grammar_model.specs.Tables as what
use Rattle.grammar_model.specs.Rows.{Left, Spot, Row, edge, edge_behind, spot, a_row, no_spot}

infixr 50 ◌▸◌
mutual
  -- a part as it is written, with the number of its slot: `keys slot keys`, a token with one of the keys; `operand slot sort level`; `optional`, `either` and `repeated` parts, which begin with a token or an operand of their own; `parameters slot sort level row`, operands that may stand behind an operand of this row alone; `separated slot sort level slot key`, operands with the key between them, of which the last may have one behind it; `maybe_separated`, the same or none
  pub data Piece : Type 0 where
    keys : ℕ → List ℕ → Piece
    operand : ℕ → ℕ → ℕ → Piece
    optional : Pieces → Piece
    either : Pieces → Pieces → Piece
    repeated : Pieces → Piece
    parameters : ℕ → ℕ → ℕ → ℕ → Piece
    separated : ℕ → ℕ → ℕ → ℕ → ℕ → Piece
    maybe_separated : ℕ → ℕ → ℕ → ℕ → ℕ → Piece

  -- parts in order
  pub data Pieces : Type 0 where
    stop : Pieces
    ◌▸◌ : Piece → Pieces → Pieces

-- the first spot of pieces of which the first must be there
abbrev pub head_edges : Pieces → List Edge
head_edges stop = []
head_edges (keys s ks ▸ ps) = edge (s + 1) ∷ []
head_edges (operand s t n ▸ ps) = edge (s + 1) ∷ []
head_edges (_ ▸ ps) = []

-- the spots that may come first, where `rest` may come behind the pieces
abbrev pub firsts : Pieces → List Edge → List Edge
firsts stop rest = rest
firsts (keys s ks ▸ ps) rest = edge (s + 1) ∷ []
firsts (operand s t n ▸ ps) rest = edge (s + 1) ∷ []
firsts (optional qs ▸ ps) rest = head_edges qs ++ firsts ps rest
firsts (either qs rs ▸ ps) rest = head_edges qs ++ head_edges rs ++ firsts ps rest
firsts (repeated qs ▸ ps) rest = head_edges qs ++ firsts ps rest
firsts (parameters s t n r ▸ ps) rest = edge_behind (s + 1) r ∷ firsts ps rest
firsts (separated s t n u k ▸ ps) rest = edge (s + 1) ∷ []
firsts (maybe_separated s t n u k ▸ ps) rest = edge (s + 1) ∷ firsts ps rest

-- the row may end in front of these parts, where it may end behind them
abbrev pub may_end : Pieces → Bool → Bool
may_end stop b = b
may_end (keys s ks ▸ ps) b = false
may_end (operand s t n ▸ ps) b = false
may_end (optional qs ▸ ps) b = may_end ps b
may_end (either qs rs ▸ ps) b = may_end ps b
may_end (repeated qs ▸ ps) b = may_end ps b
may_end (parameters s t n r ▸ ps) b = may_end ps b
may_end (separated s t n u k ▸ ps) b = false
may_end (maybe_separated s t n u k ▸ ps) b = may_end ps b

-- spots with their numbers
abbrev pub Numbered : Type 0
Numbered = List (ℕ × Spot)

-- the spots of operands and of the keys between them
abbrev pub separated_spots : ℕ → ℕ → ℕ → ℕ → ℕ → List Edge → Bool → Numbered
separated_spots s t n u k es b = (s + 1, spot (what.operand t n) (edge (u + 1) ∷ es) b) ∷ (u + 1, spot (token (k ∷ [])) (edge (s + 1) ∷ es) b) ∷ []

abbrev mutual
  -- the spots of a part, where these may come behind it
  pub piece_spots : Piece → List Edge → Bool → Numbered
  piece_spots (keys s ks) es b = (s + 1, spot (token ks) es b) ∷ []
  piece_spots (operand s t n) es b = (s + 1, spot (what.operand t n) es b) ∷ []
  piece_spots (optional qs) es b = spots_of qs es b
  piece_spots (either qs rs) es b = spots_of qs es b ++ spots_of rs es b
  piece_spots (repeated qs) es b = spots_of qs (head_edges qs ++ es) b
  piece_spots (parameters s t n r) es b = (s + 1, spot (what.operand t n) (edge (s + 1) ∷ es) b) ∷ []
  piece_spots (separated s t n u k) es b = separated_spots s t n u k es b
  piece_spots (maybe_separated s t n u k) es b = separated_spots s t n u k es b

  -- the spots of parts in order
  pub spots_of : Pieces → List Edge → Bool → Numbered
  spots_of stop rest b = []
  spots_of (p ▸ ps) rest b = piece_spots p (firsts ps rest) (may_end ps b) ++ spots_of ps rest b

-- the spot of a number
abbrev pub find_spot : ℕ → Numbered → Spot
find_spot p [] = no_spot
find_spot p ((q, s) ∷ ss) = if nat_eq q p then s else find_spot p ss

-- the largest number of a spot
abbrev pub highest : Numbered → ℕ
highest [] = 0
highest ((q, s) ∷ ss) = max q (highest ss)

-- as many spots, from this number on
abbrev pub spot_list : ℕ → ℕ → Numbered → List Spot
spot_list zero p ss = []
spot_list (suc n) p ss = find_spot p ss ∷ spot_list n (p + 1) ss

-- one token with this key
abbrev pub key : ℕ → ℕ → Piece
key s k = keys s (k ∷ [])

-- a row with these parts that may stand in slots up to a level
abbrev pub row_up_to : ℕ → ℕ → ℕ → Left → ℕ → Pieces → Row
row_up_to stand name sort left level ps =
    let ss = spots_of ps [] true in
    a_row name sort left level stand (spot nothing (firsts ps []) (may_end ps true) ∷ spot_list (highest ss) 1 ss)

-- a row as it is written: its name, sort, left what.operand, level and parts; it may stand in slots up to its level
abbrev pub row : ℕ → ℕ → Left → ℕ → Pieces → Row
row name sort left level ps = row_up_to level name sort left level ps

-- one of the rows that may begin in every slot up to the level 15
abbrev pub open_row : ℕ → ℕ → Left → ℕ → Pieces → Row
open_row name sort left level ps = row_up_to 15 name sort left level ps
