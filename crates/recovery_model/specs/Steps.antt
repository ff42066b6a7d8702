-- The parser with its recovery, over plain frames.
use Rattle.std.specs.Prelude.{◌≡◌, ℕ, zero, suc, ◌+◌, ◌≤◌, Bool, true, false, ◌&&◌, ◌⊎◌, List, [], ◌∷◌, Option, Some, None, if◌then◌else◌}
use Rattle.token_model.specs.Kinds.{Tok}
use Rattle.grammar_model.specs.Trees.{Tree, node, no_parts, missing, row_of, height_of}
use Rattle.grammar_model.specs.Tables.{Table, What, nothing, token, operand, Edge, allowed, Place, nowhere, growth, at_spot}
use Rattle.grammar_model.specs.Grammar.{WellFormed}
use Rattle.grammar_model.specs.Machine.{Frame, frame, Stack, node_of, put, last_done, Fit, no_fit, deep, fit, take_at, place_in, fits}

-- a token of the text at which the parser added parts, one that it left out, or a place at which it ended an item that lacks no part
pub data Fault : Type 0 where
  added : ℕ → ℕ → Fault
  skipped : Tok → Fault
  too_deep : Tok → Fault
  cut : ℕ → Fault

-- an operand stands there
abbrev pub is_operand : What → Bool
is_operand (operand s n) = true
is_operand (token ks) = false
is_operand nothing = false

-- a frame with the part at a spot missing, at a place of the text
abbrev pub missing_at : Frame → ℕ → ℕ → Frame
missing_at f p place = frame f.number p ((p, missing place) ∷ f.done)

-- the last of the spots that may come next must come where the row can't end
abbrev pub last_edge : List Edge → Option Edge
last_edge [] = None
last_edge (e ∷ []) = Some e
last_edge (e ∷ d ∷ es) = last_edge (d ∷ es)

-- the spot that must come next in a frame, where it can't end
abbrev pub must_of : Table → Frame → Option Edge
must_of G f = if G.ends f.number f.at then None else last_edge (G.next f.number f.at)

-- how a token was reached with this many parts passed as missing
pub data Reach : Type 0 where
  unreached : Reach
  reached : Fit → ℕ → Reach

-- where the frame has a place for the token it is taken there
abbrev pub at_frame : Table → Place → Frame → Stack → Tok → ℕ → Reach → Reach
at_frame G nowhere f S t h other = other
at_frame G growth f S t h other = reached (take_at G growth f S t no_fit) h
at_frame G (at_spot p) f S t h other = reached (take_at G (at_spot p) f S t no_fit) h

-- an operand that may come next is passed as missing, and the token is taken behind it
abbrev pub past_operand : Table → Frame → Stack → Tok → ℕ → ℕ → List Edge → Reach
past_operand G f S t place h [] = unreached
past_operand G f S t place h (e ∷ es) =
    if is_operand (G.what f.number e.spot) && allowed e.behind (last_done (G.what f.number f.at) f.done)
    then at_frame G (place_in G (missing_at f e.spot place) t) (missing_at f e.spot place) S t (h + 1) (past_operand G f S t place h es)
    else past_operand G f S t place h es

-- the first of two ways
abbrev pub or_reach : Reach → Reach → Reach
or_reach unreached other = other
or_reach (reached x n) other = reached x n

-- what is done with a spot that may be none
abbrev pub on_edge : {A : Type 0} → Option Edge → A → (Edge → A) → A
on_edge None a g = a
on_edge (Some e) a g = g e

-- a token at one frame: its places, then behind an operand that is passed, then behind the part that must come
abbrev pub reach_in : ℕ → Table → Frame → Stack → Tok → ℕ → ℕ → Reach
reach_in zero G f S t place h = unreached
reach_in (suc fuel) G f S t place h =
    at_frame G (place_in G f t) f S t h
    (or_reach (past_operand G f S t place h (G.next f.number f.at)) (on_edge (must_of G f) unreached (λ e. reach_in fuel G (missing_at f e.spot place) S t place (h + 1))))

-- one missing part more
abbrev pub one_more : Frame × ℕ → Frame × ℕ
one_more r = (r.0, r.1 + 1)

-- the frame with each part that must be there, and their number
abbrev pub filled : ℕ → Table → Frame → ℕ → Frame × ℕ
filled zero G f place = (f, 0)
filled (suc fuel) G f place = on_edge (must_of G f) (f, 0) (λ e. one_more (filled fuel G (missing_at f e.spot place) place))

-- no row has more parts that must be there
abbrev pub most_parts : ℕ
most_parts = 16

-- at most this many parts must come until the row can end
abbrev pub ends_within : ℕ → Table → ℕ → ℕ → Bool
ends_within zero G r at = G.ends r at
ends_within (suc n) G r at = if G.ends r at then true else on_edge (last_edge (G.next r at)) false (λ e. ends_within n G r e.spot)

-- a token at the frames from the innermost outward, as if those further in were closed
abbrev pub reach_out : Table → Frame → Stack → Tok → ℕ → ℕ → Reach
reach_out G f [] t place h = reach_in most_parts G f [] t place h
reach_out G f (g ∷ S) t place h =
    or_reach (reach_in most_parts G f (g ∷ S) t place h) (reach_out G (put (filled most_parts G f place).0 g) S t place (h + (filled most_parts G f place).1))

-- the token at the frames of a stack (rule Reach outward)
abbrev pub reach_from : Table → Stack → Tok → ℕ → Reach
reach_from G [] t place = unreached
reach_from G (f ∷ S) t place = reach_out G f S t place 0

-- the frames, the end of the last token taken, and the fault
pub record Stepped : Type 0 where
  pub stack : Stack
  pub place : ℕ
  pub fault : Option Fault

-- frames, place and fault together
abbrev pub stepped : Stack → ℕ → Option Fault → Stepped
stepped S place fault = record { stack = S; place = place; fault = fault }

-- behind a token that didn't fit: skipped, too deep, or taken behind parts that are missing (rule Skip, rule Too deep)
abbrev pub after_reach : Stack → ℕ → Tok → Reach → Stepped
after_reach S place t unreached = stepped S place (Some (skipped t))
after_reach S place t (reached no_fit h) = stepped S place (Some (skipped t))
after_reach S place t (reached deep h) = stepped S place (Some (too_deep t))
after_reach S place t (reached (fit U) h) = stepped U t.end (Some (added place h))

-- behind a token that fits, is too deep, or is to be reached
abbrev pub after_fit : Table → Stack → ℕ → Tok → Fit → Stepped
after_fit G S place t (fit U) = stepped U t.end None
after_fit G S place t deep = stepped S place (Some (too_deep t))
after_fit G S place t no_fit = after_reach S place t (reach_from G S t place)

-- one token
unfoldable pub step : Table → Stack → ℕ → Tok → Stepped
step G S place t = after_fit G S place t (fits G S t)

-- all frames are closed, with their missing parts (rule Close at the end)
abbrev pub closed_up : Table → Frame → Stack → ℕ → Tree × ℕ
closed_up G f [] place = let r = filled most_parts G f place in (node_of r.0, r.1)
closed_up G f (g ∷ S) place = let r = filled most_parts G f place in let q = closed_up G (put r.0 g) S place in (q.0, r.1 + q.1)

-- the tree of a stack, and how many parts it adds
abbrev pub close_up : Table → Stack → ℕ → Tree × ℕ
close_up G [] place = (node G.root no_parts, 0)
close_up G (f ∷ S) place = closed_up G f S place

-- a fault that may be none, in front of others
abbrev pub some_fault : Option Fault → List Fault → List Fault
some_fault None fs = fs
some_fault (Some f) fs = f ∷ fs

-- the fault at the end, if a part is missing
abbrev pub last_fault : ℕ → ℕ → List Fault
last_fault zero place = []
last_fault (suc h) place = added place (suc h) ∷ []

-- the tree and the faults of the tokens behind a stack
abbrev pub recovered : Table → List Tok → Stack → ℕ → Tree × List Fault
recovered G [] S place = let r = close_up G S place in (r.0, last_fault r.1 place)
recovered G (t ∷ ts) S place = let r = step G S place t in let q = recovered G ts r.stack r.place in (q.0, some_fault r.fault q.1)

-- the tree and the faults of a token list
unfoldable pub recover : Table → List Tok → Tree × List Fault
recover G ts = recovered G ts (frame G.root 0 [] ∷ []) 0

-- the text's tokens are those of the tree and those left out, in order
abbrev pub Merged : List Tok → List Tok → List Tok → Type 0
Merged [] ys zs = (ys ≡ []) × (zs ≡ [])
Merged (t ∷ ts) ys zs = ((u : List Tok) × (ys ≡ t ∷ u) × Merged ts u zs) ⊎ ((v : List Tok) × (zs ≡ t ∷ v) × Merged ts ys v)

-- the tokens that the faults left out
abbrev pub left_out : List Fault → List Tok
left_out [] = []
left_out (added place h ∷ fs) = left_out fs
left_out (skipped t ∷ fs) = t ∷ left_out fs
left_out (too_deep t ∷ fs) = t ∷ left_out fs
left_out (cut place ∷ fs) = left_out fs

-- the number of missing parts that the faults tell
abbrev pub added_in : List Fault → ℕ
added_in [] = 0
added_in (added place h ∷ fs) = h + added_in fs
added_in (skipped t ∷ fs) = added_in fs
added_in (too_deep t ∷ fs) = added_in fs
added_in (cut place ∷ fs) = added_in fs

-- a tree of a whole text that is well formed apart from its missing parts, and at most 512 high
pub record IsRecovered (G : Table) (T : Tree) : Type 0 where
  pub root : row_of T ≡ G.root
  pub formed : WellFormed G T
  pub low : height_of T ≤ 512
