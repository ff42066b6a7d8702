-- Where a token fits, by the frames' numbers, spots and newest operands alone.
use Rattle.std.specs.Prelude.{ℕ, zero, suc, List, [], ◌∷◌, Option, Some, None, ◌&&◌, if◌then◌else◌}
use Rattle.grammar_model.specs.Tables.{Table, What, nothing, token, operand, Edge, Last, plain, hole, row, allowed, Place, nowhere, growth, at_spot, first_place}
use Rattle.grammar_model.specs.Machine.{Stack}
use Rattle.recovery_model.specs.Steps.{is_operand, last_edge, on_edge, most_parts}

-- what an operand of this row is as the last part
abbrev pub last_row : What → ℕ → Last
last_row (operand s n) r = row r
last_row (token ks) r = plain
last_row nothing r = plain

-- how many frames are closed, and the place in the one that takes the token
pub data Found : Type 0 where
  none : Found
  found : ℕ → Place → Found

-- one frame more is closed
abbrev pub further : Found → Found
further none = none
further (found k p) = found (suc k) p

-- a place in this frame, and otherwise another finding
abbrev pub here : Place → Found → Found
here nowhere other = other
here growth other = found zero growth
here (at_spot p) other = found zero (at_spot p)

-- frames as numbers and spots
abbrev pub find_fit : Table → ℕ → ℕ → Last → Stack → ℕ → Found
find_fit G r at last [] k = here (first_place G r at last k) none
find_fit G r at last (F ∷ S) k = here (first_place G r at last k) (if G.ends r at then further (find_fit G F.number F.at (last_row (G.what F.number F.at) r) S k) else none)

-- how a frame comes to take a token: so many parts that must come are missing, then an operand that may come is, if any, and then the token has this place
pub record Way : Type 0 where
  pub musts : ℕ
  pub past : Option ℕ
  pub place : Place

-- the way past so many missing parts, and past this operand, if any, to this place
abbrev pub way : ℕ → Option ℕ → Place → Way
way n o p = record { musts = n; past = o; place = p }

-- what a missing part is as the last one
abbrev pub hole_in : What → Last
hole_in (operand s n) = hole
hole_in (token ks) = plain
hole_in nothing = plain

-- the way to a place, and otherwise another way
abbrev pub way_by : Option ℕ → Place → Option Way → Option Way
way_by o nowhere other = other
way_by o growth other = Some (way 0 o growth)
way_by o (at_spot p) other = Some (way 0 o (at_spot p))

-- the way past one of the operands that may come
abbrev pub past_way : Table → ℕ → Last → ℕ → List Edge → Option Way
past_way G r last k [] = None
past_way G r last k (e ∷ es) =
    if is_operand (G.what r e.spot) && allowed e.behind last
    then way_by (Some e.spot) (first_place G r e.spot (hole_in (G.what r e.spot)) k) (past_way G r last k es)
    else past_way G r last k es

-- the first of two ways
abbrev pub or_way : Option Way → Option Way → Option Way
or_way None w = w
or_way (Some v) w = Some v

-- one part more that must come is missing
abbrev pub more_must : Option Way → Option Way
more_must None = None
more_must (Some w) = Some (way (suc w.musts) w.past w.place)

-- the spot that must come next, where the row can't end
abbrev pub must_at : Table → ℕ → ℕ → Option Edge
must_at G r at = if G.ends r at then None else last_edge (G.next r at)

-- the way of a key in one frame
abbrev pub find_way : ℕ → Table → ℕ → ℕ → Last → ℕ → Option Way
find_way zero G r at last k = None
find_way (suc fuel) G r at last k =
    way_by None (first_place G r at last k)
    (or_way (past_way G r last k (G.next r at)) (on_edge (must_at G r at) None (λ e. more_must (find_way fuel G r e.spot (hole_in (G.what r e.spot)) k))))

-- a way in this frame, and otherwise one where one frame more is closed
abbrev pub out_by : Option Way → Option (ℕ × Way) → Option (ℕ × Way)
out_by (Some w) other = Some (0, w)
out_by None None = None
out_by None (Some f) = Some (suc f.0, f.1)

-- how many frames are closed, and the way of a key in the one that takes it
abbrev pub find_out : Table → ℕ → ℕ → Last → Stack → ℕ → Option (ℕ × Way)
find_out G r at last [] k = out_by (find_way most_parts G r at last k) None
find_out G r at last (F ∷ S) k = out_by (find_way most_parts G r at last k) (find_out G F.number F.at (last_row (G.what F.number F.at) r) S k)
