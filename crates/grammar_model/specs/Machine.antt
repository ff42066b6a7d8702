-- The parser over plain frames.
use Rattle.std.specs.Prelude.{ℕ, ◌+◌, nat_le, List, [], ◌∷◌, length, Option, Some, None, if◌then◌else◌}
use Rattle.token_model.specs.Kinds.{Tok}
use Rattle.grammar_model.specs.Keys.{key_of}
use Rattle.grammar_model.specs.Trees.{Tree, Forest, Part, node, no_parts, part, taken, inner, part_height}
use Rattle.grammar_model.specs.Tables.{Table, What, nothing, token, operand, Edge, Last, plain, Place, nowhere, growth, at_spot, first_place}
use Rattle.grammar_model.specs.Grammar.{last_in}

-- a row in progress: its row, the spot of its last part, and its parts, the newest first;
-- of a frame that is not the innermost the part at `at` is in the frames further in
pub record Frame : Type 0 where
  pub number : ℕ
  pub at : ℕ
  pub done : List (ℕ × Part)

-- a row in progress: its number, the spot of its last part, and its parts
abbrev pub frame : ℕ → ℕ → List (ℕ × Part) → Frame
frame r at done = record { number = r; at = at; done = done }

-- the innermost frame first
abbrev pub Stack : Type 0
Stack = List Frame

-- parts, the newest first, put before others
abbrev pub onto : List (ℕ × Part) → Forest → Forest
onto [] f = f
onto (d ∷ ds) f = onto ds (part d.0 d.1 f)

-- the node of a frame that is closed
abbrev pub node_of : Frame → Tree
node_of f = node f.number (onto f.done no_parts)

-- a closed frame is the next part of the frame below
abbrev pub put : Frame → Frame → Frame
put f g = frame g.number g.at ((g.at, inner (node_of f)) ∷ g.done)

-- what the newest part is as the last one
abbrev pub last_done : What → List (ℕ × Part) → Last
last_done w [] = plain
last_done w (d ∷ ds) = last_in w d.1

-- the first of spots
abbrev pub spot_of : List Edge → ℕ
spot_of [] = 0
spot_of (e ∷ es) = e.spot

-- the spot with which a row begins
abbrev pub first_of : Table → ℕ → ℕ
first_of G r = spot_of (G.next r 0)

-- the frames of the rows that a token begins
abbrev pub opened : Table → List ℕ → Tok → Stack → Stack
opened G [] t S = S
opened G (r ∷ []) t S = frame r (first_of G r) ((first_of G r, taken t) ∷ []) ∷ S
opened G (r ∷ q ∷ rs) t S = opened G (q ∷ rs) t (frame r (first_of G r) [] ∷ S)

-- a token stands at, or begins, the part at a spot of a frame
abbrev pub start_in : Table → What → Frame → ℕ → Tok → Stack → Stack
start_in G nothing f p t S = f ∷ S
start_in G (token ks) f p t S = frame f.number p ((p, taken t) ∷ f.done) ∷ S
start_in G (operand s n) f p t S = opened G (G.chain s (key_of t)) t (frame f.number p f.done ∷ S)

-- a token stands at, or begins, the part at a spot of a frame
abbrev pub start_at : Table → Frame → ℕ → Tok → Stack → Stack
start_at G f p t S = start_in G (G.what f.number p) f p t S

-- how a token fits: not at all, too deep, or with these frames after it
pub data Fit : Type 0 where
  no_fit : Fit
  deep : Fit
  fit : Stack → Fit

-- frames up to this number were opened
abbrev pub within : ℕ → Stack → Fit
within n S = if nat_le n 512 then (if nat_le (length S) 512 then fit S else deep) else deep

-- the row by which a key grows the operand at a spot
abbrev pub grower_in : Table → What → ℕ → Option ℕ
grower_in G (operand s n) k = G.grower s k
grower_in G (token ks) k = None
grower_in G nothing k = None

-- the newest operand of the frame becomes the left operand of the row that the token grows it by
abbrev pub grown : Table → Option ℕ → Frame → List (ℕ × Part) → Tok → Stack → Fit
grown G None f ds t S = no_fit
grown G (Some g) f [] t S = no_fit
grown G (Some g) f (d ∷ ds) t S = within (length S + 2 + part_height d.1) (start_at G (frame g 0 ((0, d.1) ∷ [])) (first_of G g) t (frame f.number f.at ds ∷ S))

-- `other` is what is done where the frame has no place for the token
abbrev pub take_at : Table → Place → Frame → Stack → Tok → Fit → Fit
take_at G nowhere f S t other = other
take_at G growth f S t other = grown G (grower_in G (G.what f.number f.at) (key_of t)) f f.done t S
take_at G (at_spot p) f S t other = within 0 (start_at G f p t S)

-- the first place that may take the token in a frame
abbrev pub place_in : Table → Frame → Tok → Place
place_in G f t = first_place G f.number f.at (last_done (G.what f.number f.at) f.done) (key_of t)

-- the token is taken in the innermost frame f, or where f can end in those below
abbrev pub fits_at : Table → Frame → Stack → Tok → Fit
fits_at G f [] t = take_at G (place_in G f t) f [] t no_fit
fits_at G f (g ∷ S) t = take_at G (place_in G f t) f (g ∷ S) t (if G.ends f.number f.at then fits_at G (put f g) S t else no_fit)

-- the token on a stack (rule Fit)
abbrev pub fits : Table → Stack → Tok → Fit
fits G [] t = no_fit
fits G (f ∷ S) t = fits_at G f S t

-- what is done with the stack of a token that fits
abbrev pub on_fit : Fit → (Stack → Option Stack) → Option Stack
on_fit no_fit go = None
on_fit deep go = None
on_fit (fit S) go = go S

-- a token list that fits as a whole
abbrev pub play : Table → List Tok → Stack → Option Stack
play G [] S = Some S
play G (t ∷ ts) S = on_fit (fits G S t) (play G ts)

-- all frames are closed, where each can end
abbrev pub closed_at : Table → Frame → Stack → Option Tree
closed_at G f [] = if G.ends f.number f.at then Some (node_of f) else None
closed_at G f (g ∷ S) = if G.ends f.number f.at then closed_at G (put f g) S else None

-- the tree of a stack in which each frame can end
abbrev pub closed : Table → Stack → Option Tree
closed G [] = Some (node G.root no_parts)
closed G (f ∷ S) = closed_at G f S

-- the tree of a stack that may be none
abbrev pub close_all : Table → Option Stack → Option Tree
close_all G None = None
close_all G (Some S) = closed G S

-- the tree of a token list that the rules Take and Fit give, where they do
unfoldable pub parsed : Table → List Tok → Option Tree
parsed G ts = close_all G (play G ts (frame G.root 0 [] ∷ []))
