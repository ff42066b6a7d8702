-- What the table of the code is as a table of the definition.
use Rattle.std.specs.Prelude.{◌≡◌, ℕ, List, map, take, drop, Option, Some, None, Bool, ◌&&◌, not, nat_eq}
use Rattle.grammar_model.specs.Tables as t
use Rattle.grammar_model.specs.Rows as w
use Rattle.grammar_model.specs.Ocaml as o
use Rattle.recovery_model.specs.Numbers as n
use Rattle.grammar_model.specs.Separate.{IsRowFor}
use Rattle.syntax_tree.specs.Names as names
use Rattle.syntax_tree.specs.declared.rows.RowName.{RowName}
use Rattle.syntax_rows.specs.Numbers.{key_number, sort_number, name_number}
use Rattle.syntax_rows.specs.declared.keys.Key.{Key}
use Rattle.syntax_rows.specs.declared.rows.What.{What}
use Rattle.syntax_rows.specs.declared.rows.What.TheVariants.{Nothing, Token, Operand}
use Rattle.syntax_rows.specs.declared.rows.Edge.{Edge}
use Rattle.syntax_rows.specs.declared.rows.Spot.{Spot}
use Rattle.syntax_rows.specs.declared.rows.Left.{Left}
use Rattle.syntax_rows.specs.declared.rows.Left.TheVariants as left
use Rattle.syntax_rows.specs.declared.rows.Row.{Row}
use Rattle.syntax_rows.specs.declared.rows.Table.{Table}
use Rattle.syntax_rows.specs.declared.places.Last.{Last}
use Rattle.syntax_rows.specs.declared.places.Last.TheVariants as last
use Rattle.syntax_rows.specs.declared.places.Place.{Place}
use Rattle.syntax_rows.specs.declared.places.Place.TheVariants.{Nowhere, Growth, AtSpot}
use Rattle.syntax_rows.specs.declared.ways.Way.{Way}
use Rattle.syntax_rows.specs.declared.ocaml.Text.{Text}
use Rattle.syntax_rows.specs.declared.ocaml.Text.TheVariants as text

-- what stands at a spot, over the table's keys
abbrev pub what_over : List Key → What → t.What
what_over keys Nothing = t.nothing
what_over keys (Token first count) = t.token (map key_number (take count (drop first keys)))
what_over keys (Operand sort level) = t.operand (sort_number sort) level

-- a spot that may come next
abbrev pub edge_of : Edge → t.Edge
edge_of e = record { spot = e.spot; behind = e.behind }

-- a spot, over the table's keys and edges
abbrev pub spot_over : List Key → List Edge → Spot → w.Spot
spot_over keys edges s = w.spot (what_over keys s.what) (map edge_of (take s.count (drop s.first edges))) s.ends

-- what a row needs on its left
abbrev pub left_of : Left → w.Left
left_of left.None = w.no_left
left_of (left.Level n) = w.level n
left_of (left.Row n) = w.named (name_number n)

-- a row, over the table's keys, edges and spots
abbrev pub row_over : List Key → List Edge → List Spot → Row → w.Row
row_over keys edges spots r = w.a_row (name_number r.name) (sort_number r.sort) (left_of r.left) r.level r.stand (map (spot_over keys edges) (take r.count (drop r.first spots)))

-- the same in a table

-- what stands at a spot of the table
abbrev pub what_of : Table → What → t.What
what_of t w = what_over t.keys.now w

-- a spot of the table
abbrev pub spot_of : Table → Spot → w.Spot
spot_of t s = spot_over t.keys.now t.edges.now s

-- a row of the table
abbrev pub row_of : Table → Row → w.Row
row_of t r = row_over t.keys.now t.edges.now t.spots.now r

-- the rows of a table
abbrev pub rows_of : Table → List w.Row
rows_of t = map (row_of t) t.rows.now

-- a table as one of the definition
abbrev pub table_of : Table → t.Table
table_of t = w.table_of t.root o.sizes (rows_of t)

-- the newest part
abbrev pub last_of : Last → t.Last
last_of last.Plain = t.plain
last_of last.Hole = t.hole
last_of (last.Row r) = t.row r

-- a place in a row
abbrev pub place_of : Place → t.Place
place_of Nowhere = t.nowhere
place_of Growth = t.growth
place_of (AtSpot p) = t.at_spot p

-- a way in a row
abbrev pub way_of : Way → n.Way
way_of w = n.way w.musts w.past (place_of w.place)

-- a kind of text
abbrev pub text_of : Text → o.Text
text_of text.Program = o.program_text
text_of text.Signature = o.interface_text

-- the name of the row of a sort, a left operand and a key, and none where there is no such row
abbrev pub IsNamedRow : Option RowName → ℕ → w.Left → ℕ → Type 0
IsNamedRow None s l k = (r : ℕ) → IsRowFor (o.grammar o.program_text) o.rows s l k r → ⊥
IsNamedRow (Some name) s l k = (r : ℕ) × IsRowFor (o.grammar o.program_text) o.rows s l k r × (names.row_of name ≡ o.row_name r)

-- the row begins with the key, by these chains
abbrev pub is_begun : List w.Row → (ℕ → ℕ → List ℕ) → w.Row → ℕ → ℕ → Bool
is_begun all deeper r s k = nat_eq r.sort s && not (w.is_left r.left) && w.what_takes all deeper (w.first_what r) k

-- the row goes on with the key behind its left operand, by these chains
abbrev pub is_grown : List w.Row → (ℕ → ℕ → List ℕ) → w.Row → ℕ → ℕ → Bool
is_grown all deeper r s k = nat_eq r.sort s && w.is_left r.left && w.what_takes all deeper (w.first_what r) k
