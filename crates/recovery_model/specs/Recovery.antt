-- The parser with its recovery, whole: what it makes of a list of tokens.
use Rattle.std.specs.Prelude.{ℕ, zero, suc, Bool, true, false, ◌&&◌, List, [], ◌∷◌, ◌++◌, Option, Some, None, if◌then◌else◌}
use Rattle.token_model.specs.Kinds.{Tok}
use Rattle.grammar_model.specs.Trees.{Tree}
use Rattle.grammar_model.specs.Tables.{Table}
use Rattle.grammar_model.specs.Machine.{Stack, frame}
use Rattle.recovery_model.specs.Steps as rules
use Rattle.recovery_model.specs.Steps.{Fault, added, skipped, too_deep, cut, close_up, some_fault, last_fault}
use Rattle.recovery_model.specs.Items.{State, state, Mark, sound, held, marked, Item, item, Parser, parser, Stepped, stepped, item_behind, is_cut, cut_step}

-- an item of which a token had a fault
abbrev pub faulted : Option Item → Option Item
faulted None = None
faulted (Some i) = Some (item i.col marked)

-- the open item behind a token with this fault, or none; a token that was left out is none of an item's
abbrev pub item_after : Stack → Tok → Option Fault → Option Item → Option Item
item_after S t None i = item_behind S t i
item_after S t (Some (added place n)) i = item_behind S t (faulted i)
item_after S t (Some (skipped u)) i = faulted i
item_after S t (Some (too_deep u)) i = faulted i
item_after S t (Some (cut place)) i = faulted i

-- behind a token that neither cuts nor goes back (rules Take to Too deep)
abbrev pub go_on : Option Item → Tok → rules.Stepped → Stepped
go_on i t r = stepped (parser (state r.stack r.place) (item_after r.stack t r.fault i)) (some_fault r.fault [])

-- a token that is taken again, where each cut token cuts
abbrev pub retake_by : Table → State → Option Item → Tok → rules.Stepped → Stepped
retake_by G s None t r = go_on None t r
retake_by G s (Some i) t r = if is_cut i.col t r then cut_step G s t else go_on (Some i) t r

-- a token that is taken again
abbrev pub retake : Table → Parser → Tok → Stepped
retake G p t = retake_by G p.state p.item t (rules.step G p.state.stack p.state.place t)

-- faults in front of those of a step
abbrev pub with_faults : List Fault → Stepped → Stepped
with_faults fs r = stepped r.parser (fs ++ r.faults)

-- tokens that are taken again
abbrev pub retake_all : Table → List Tok → Parser → Stepped
retake_all G [] p = stepped p []
retake_all G (t ∷ ts) p = let r = retake G p t in with_faults r.faults (retake_all G ts r.parser)

-- from these frames, in an item whose first token is in this column, the tokens are taken again (rule Go back)
abbrev pub go_back : Table → ℕ → State → List Tok → Stepped
go_back G col s ts = retake_all G ts (parser s (Some (item col sound)))

-- what is known of an item behind a token that is a cut token or not, put on these frames
abbrev pub with_token : State → Tok → Bool → Mark → Mark
with_token s t true sound = held s (t ∷ [])
with_token s t false sound = sound
with_token s t c (held q ts) = held q (ts ++ t ∷ [])
with_token s t c marked = marked

-- a token in an item of which this is known with the token: a fault goes back to before the first cut token
abbrev pub step_sound : Table → ℕ → Tok → rules.Stepped → Option Fault → Mark → Stepped
step_sound G col t r None mark = go_on (Some (item col mark)) t r
step_sound G col t r (Some f) sound = go_on (Some (item col sound)) t r
step_sound G col t r (Some f) marked = go_on (Some (item col marked)) t r
step_sound G col t r (Some f) (held q ts) = go_back G col q ts

-- the item has a fault
abbrev pub is_marked : Mark → Bool
is_marked sound = false
is_marked (held q ts) = false
is_marked marked = true

-- a token in an open item, which may be a cut token
abbrev pub step_item : Table → State → ℕ → Tok → rules.Stepped → Bool → Mark → Stepped
step_item G s col t r c mark = if c && is_marked mark then cut_step G s t else step_sound G col t r r.fault (with_token s t c mark)

-- a token where an item may be open
abbrev pub step_by : Table → State → Option Item → Tok → rules.Stepped → Stepped
step_by G s None t r = go_on None t r
step_by G s (Some i) t r = step_item G s i.col t r (is_cut i.col t r) i.mark

-- one token
unfoldable pub step : Table → Parser → Tok → Stepped
step G p t = step_by G p.state p.item t (rules.step G p.state.stack p.state.place t)

-- the tree of frames, and the faults with that of the parts that are missing at the end behind them
abbrev pub ended : Table → State → List Fault → Tree × List Fault
ended G s fs = let r = close_up G s.stack s.place in (r.0, fs ++ last_fault r.1 s.place)

-- the tree behind tokens that were taken again
abbrev pub ended_by : Table → Stepped → Tree × List Fault
ended_by G r = ended G r.parser.state r.faults

-- the end where parts are missing, in an item of which this is known
abbrev pub close_mark : Table → State → ℕ → Mark → Tree × List Fault
close_mark G s col sound = ended G s []
close_mark G s col marked = ended G s []
close_mark G s col (held q ts) = ended_by G (go_back G col q ts)

-- the end, where so many parts are missing
abbrev pub close_item : Table → State → ℕ → Option Item → Tree × List Fault
close_item G s zero i = ended G s []
close_item G s (suc n) None = ended G s []
close_item G s (suc n) (Some i) = close_mark G s i.col i.mark

-- the end of the text
unfoldable pub close : Table → Parser → Tree × List Fault
close G p = close_item G p.state (close_up G p.state.stack p.state.place).1 p.item

-- the tree and the faults of the tokens that follow
abbrev pub recovered : Table → List Tok → Parser → Tree × List Fault
recovered G [] p = close G p
recovered G (t ∷ ts) p = let r = step G p t in let q = recovered G ts r.parser in (q.0, r.faults ++ q.1)

-- the parser of a text without tokens
abbrev pub start : Table → Parser
start G = parser (state (frame G.root 0 [] ∷ []) 0) None

-- the tree and the faults of a list of tokens
unfoldable pub recover : Table → List Tok → Tree × List Fault
recover G ts = recovered G ts (start G)
