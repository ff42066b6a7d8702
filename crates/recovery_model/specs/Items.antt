-- The item `let` that is in progress: what is known of it, and how it ends at a `let` that would otherwise be taken into it.
use Rattle.std.specs.Prelude.{ℕ, zero, suc, ◌+◌, Bool, true, false, ◌&&◌, nat_eq, nat_le, List, [], ◌∷◌, ◌++◌, Option, Some, None, if◌then◌else◌}
use Rattle.token_model.specs.Kinds.{Tok}
use Rattle.grammar_model.specs.Keys.{key_of, let_key}
use Rattle.grammar_model.specs.Tables.{Table}
use Rattle.grammar_model.specs.Machine.{Frame, Stack, put}
use Rattle.recovery_model.specs.Steps as rules
use Rattle.recovery_model.specs.Steps.{Fault, added, skipped, too_deep, cut, filled, most_parts, some_fault}

-- the row `let` of a structure
abbrev pub item_row : ℕ
item_row = 1

-- the spot of its first token
abbrev pub item_spot : ℕ
item_spot = 1

-- the row `let .. in ..` of an expression
abbrev pub local_row : ℕ
local_row = 90

-- frames, and the end of the last token taken
pub record State : Type 0 where
  pub stack : Stack
  pub place : ℕ

-- frames behind a token that ends at this place
abbrev pub state : Stack → ℕ → State
state S place = record { stack = S; place = place }

-- what is known of an item in progress
pub data Mark : Type 0 where
  sound : Mark  -- it has no fault and no cut token
  held : State → List Tok → Mark  -- no fault, but cut tokens: the state before the first of them, and the tokens from there on
  marked : Mark  -- it has a fault

-- the open item: the column of its first token, and what is known of it
pub record Item : Type 0 where
  pub col : ℕ
  pub mark : Mark

-- an item whose first token is in this column
abbrev pub item : ℕ → Mark → Item
item col mark = record { col = col; mark = mark }

-- the parser between two tokens; an item is open where it has a frame
pub record Parser : Type 0 where
  pub state : State
  pub item : Option Item

-- frames, and the open item if there is one
abbrev pub parser : State → Option Item → Parser
parser s i = record { state = s; item = i }

-- the parser behind a token, and the faults that came with it
pub record Stepped : Type 0 where
  pub parser : Parser
  pub faults : List Fault

-- the parser and the faults together
abbrev pub stepped : Parser → List Fault → Stepped
stepped p fs = record { parser = p; faults = fs }

-- an item `let` has a frame
abbrev pub has_item : Stack → Bool
has_item [] = false
has_item (f ∷ S) = if nat_eq f.number item_row then true else has_item S

-- the innermost frame is an item `let` behind its first token
abbrev pub begins_item : Stack → Bool
begins_item [] = false
begins_item (f ∷ S) = nat_eq f.number item_row && nat_eq f.at item_spot

-- the innermost frame is a local `let`
abbrev pub is_local : Stack → Bool
is_local [] = false
is_local (f ∷ S) = nat_eq f.number local_row

-- the open item behind a token that was taken: the one that it begins, or the one before, unless that was closed
abbrev pub item_behind : Stack → Tok → Option Item → Option Item
item_behind S t before = if begins_item S then Some (item t.col sound) else (if has_item S then before else None)

-- the `let` of a step begins a local `let`, or would if it were not nested too deeply
abbrev pub begins_local : Stack → Option Fault → Bool
begins_local S None = is_local S
begins_local S (Some (added place n)) = is_local S
begins_local S (Some (skipped t)) = false
begins_local S (Some (too_deep t)) = true
begins_local S (Some (cut place)) = false

-- a cut token of an item: a `let` that would be taken as the first token of a local `let`, in no greater column than the item's first token
abbrev pub is_cut : ℕ → Tok → rules.Stepped → Bool
is_cut col t r = nat_eq (key_of t) let_key && nat_le t.col col && begins_local r.stack r.fault

-- so many missing parts more
abbrev pub more_holes : ℕ → Stack × ℕ → Stack × ℕ
more_holes n r = (r.0, n + r.1)

-- the frames from the innermost out to the item's are closed, each with its missing parts, and how many these are
abbrev pub closed_out : Table → Frame → Stack → ℕ → Stack × ℕ
closed_out G f [] place = (f ∷ [], 0)
closed_out G f (g ∷ S) place =
    let r = filled most_parts G f place in
    if nat_eq f.number item_row then (put r.0 g ∷ S, r.1) else more_holes r.1 (closed_out G (put r.0 g) S place)

-- the same for frames that may be none
abbrev pub closed_item : Table → Stack → ℕ → Stack × ℕ
closed_item G [] place = ([], 0)
closed_item G (f ∷ S) place = closed_out G f S place

-- the fault of an item that ends at a place where so many parts are missing
abbrev pub end_fault : ℕ → ℕ → Fault
end_fault place zero = cut place
end_fault place (suc n) = added place (suc n)

-- behind the first token of the next item
abbrev pub behind_cut : ℕ → ℕ → Tok → rules.Stepped → Stepped
behind_cut place n t r = stepped (parser (state r.stack r.place) (item_behind r.stack t None)) (end_fault place n ∷ some_fault r.fault [])

-- the open item ends, and the token is taken (rule Cut)
abbrev pub cut_step : Table → State → Tok → Stepped
cut_step G s t = let c = closed_item G s.stack s.place in behind_cut s.place c.1 t (rules.step G c.0 s.place t)
