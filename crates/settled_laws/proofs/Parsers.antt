-- What a step of the parser leaves of the frames of which nothing is undone.
use Rattle.std.proofs.Common.{◌≡◌, ℕ, zero, suc, Bool, true, false, ◌&&◌, List, [], ◌∷◌, ◌++◌, Option, Some, None, refl, if◌then◌else◌}
use Rattle.token_model.specs.Kinds.{Tok}
use Rattle.grammar_model.specs.Trees.{Tree}
use Rattle.grammar_model.specs.Tables.{Table}
use Rattle.grammar_model.specs.Machine.{Frame, frame, Stack, node_of}
use Rattle.recovery_model.specs.Steps as rules
use Rattle.recovery_model.specs.Steps.{Fault, added, skipped, too_deep, cut, close_up}
use Rattle.recovery_model.specs.Items.{State, Mark, sound, held, marked, Item, item, Parser, parser, has_item, begins_item, item_behind, is_cut, closed_item, cut_step}
use Rattle.recovery_model.specs.Recovery.{faulted, item_after, go_on, retake_by, retake, retake_all, go_back, with_token, is_marked, step_sound, step_by, step, close_mark, close_item, close}
use Rattle.settled_laws.specs.Settled.{inners, outer, back_to, back_by, kept_frames, behind_all}
use Rattle.settled_laws.proofs.Frames.{Keeps, Still, keeps_same, keeps_on, still_on, keeps_step, keeps_item, closes}

-- a parser that kept these frames and keeps all that it may go back to
pub record Forward (B : Stack) (p : Parser) : Type 0 where
  pub kept : Keeps B (kept_frames p)
  pub on : Keeps (kept_frames p) p.state.stack

-- the same of frames with an item
abbrev Onward : Stack → Stack → Option Item → Type 0
Onward B U i = Keeps B (back_by U i) × Keeps (back_by U i) U

-- an item that holds nothing
onward_free : (B U : Stack) → Keeps B U → (i : Option Item) → back_by U i ≡ U → Onward B U i
onward_free B U k i e = (rw e k, rw e (keeps_same U))

onward_faulted : (B U : Stack) (i : Option Item) → Keeps B U → Onward B U (faulted i)
onward_faulted B U None k = (k, keeps_same U)
onward_faulted B U (Some i) k = (k, keeps_same U)

onward_behind : (B U : Stack) (t : Tok) (i : Option Item) → Keeps B U → Onward B U i → Onward B U (item_behind U t i)
onward_behind B U t i k h = by (begins_item U) (has_item U)
  where
    by : (a b : Bool) → Onward B U (if a then Some (item t.col sound) else (if b then i else None))
    by true b = (k, keeps_same U)
    by false true = h
    by false false = (k, keeps_same U)

onward_after : (B U : Stack) (t : Tok) (f : Option Fault) (i : Option Item) → Keeps B U → Onward B U i → Onward B U (item_after U t f i)
onward_after B U t None i k h = onward_behind B U t i k h
onward_after B U t (Some (added place n)) i k h = onward_behind B U t (faulted i) k (onward_faulted B U i k)
onward_after B U t (Some (skipped u)) i k h = onward_faulted B U i k
onward_after B U t (Some (too_deep u)) i k h = onward_faulted B U i k
onward_after B U t (Some (cut place)) i k h = onward_faulted B U i k

-- frames further on, with the same item
onward_on : (B S U : Stack) (i : Option Item) → Onward B S i → Keeps S U → Onward B U i
onward_on B S U None h k = (keeps_on B S U h.0 k, keeps_same U)
onward_on B S U (Some i) h k = by i.mark h
  where
    by : (m : Mark) → Keeps B (back_to S m) × Keeps (back_to S m) S → Keeps B (back_to U m) × Keeps (back_to U m) U
    by sound h = (keeps_on B S U h.0 k, keeps_same U)
    by marked h = (keeps_on B S U h.0 k, keeps_same U)
    by (held q ts) h = (h.0, keeps_on q.stack S U h.1 k)

-- behind a token that neither cuts nor goes back
forward_go_on : (B S : Stack) (t : Tok) (i : Option Item) (r : rules.Stepped) → Onward B S i → Keeps S r.stack → Forward B (go_on i t r).parser
forward_go_on B S t i r h k =
    let o = onward_on B S r.stack i h k in
    let a = onward_after B r.stack t r.fault i (keeps_on B (back_by r.stack i) r.stack o.0 o.1) o in
    record { kept = a.0; on = a.1 }

-- behind a token that cuts
forward_cut : (G : Table) (B : Stack) (s : State) (t : Tok) → Still G (outer s.stack).number → Keeps B s.stack → Forward B (cut_step G s t).parser
forward_cut G B s t still k =
    let c = closed_item G s.stack s.place in
    let a = keeps_item G s.stack s.place in
    let r = rules.step G c.0 s.place t in
    let b = keeps_step G c.0 s.place t (still_on G s.stack c.0 a still) in
    let U = r.stack in
    let o = onward_behind B U t None (keeps_on B c.0 U (keeps_on B s.stack c.0 k a) b) (keeps_on B c.0 U (keeps_on B s.stack c.0 k a) b, keeps_same U) in
    record { kept = o.0; on = o.1 }

-- a token that is taken again
forward_retake : (G : Table) (B : Stack) (p : Parser) (t : Tok) → Still G (outer B).number → Forward B p → Forward B (retake G p t).parser
forward_retake G B p t still h = by p.item (h.kept, h.on)
  where
    r : rules.Stepped
    r = rules.step G p.state.stack p.state.place t

    all : Keeps B p.state.stack
    all = keeps_on B (kept_frames p) p.state.stack h.kept h.on

    here : Still G (outer p.state.stack).number
    here = still_on G B p.state.stack all still

    step : Keeps p.state.stack r.stack
    step = keeps_step G p.state.stack p.state.place t here

    by : (i : Option Item) → Onward B p.state.stack i → Forward B (retake_by G p.state i t r).parser
    by None o = forward_go_on B p.state.stack t None r o step
    by (Some i) o = cuts (is_cut i.col t r)
      where
        cuts : (b : Bool) → Forward B (if b then cut_step G p.state t else go_on (Some i) t r).parser
        cuts true = forward_cut G B p.state t here all
        cuts false = forward_go_on B p.state.stack t (Some i) r o step

forward_retakes : (G : Table) (B : Stack) (ts : List Tok) (p : Parser) → Still G (outer B).number → Forward B p → Forward B (retake_all G ts p).parser
forward_retakes G B [] p still h = h
forward_retakes G B (t ∷ ts) p still h = forward_retakes G B ts (retake G p t).parser still (forward_retake G B p t still h)

-- from the frames that an item holds
forward_back : (G : Table) (B : Stack) (col : ℕ) (q : State) (ts : List Tok) → Still G (outer B).number → Keeps B q.stack → Forward B (go_back G col q ts).parser
forward_back G B col q ts still k = forward_retakes G B ts (parser q (Some (item col sound))) still (record { kept = k; on = keeps_same q.stack })

-- an item with one token more
onward_token : (B : Stack) (s : State) (t : Tok) (c : Bool) (m : Mark) → Keeps B (back_to s.stack m) × Keeps (back_to s.stack m) s.stack → Keeps B (back_to s.stack (with_token s t c m)) × Keeps (back_to s.stack (with_token s t c m)) s.stack
onward_token B s t true sound h = h
onward_token B s t false sound h = h
onward_token B s t true (held q ts) h = h
onward_token B s t false (held q ts) h = h
onward_token B s t true marked h = h
onward_token B s t false marked h = h

-- one token
pub forward_step : (G : Table) (B : Stack) (p : Parser) (t : Tok) → Still G (outer B).number → Forward B p → Forward B (step G p t).parser
unfolding step
forward_step G B p t still h = by p.item (h.kept, h.on)
  where
    S : Stack
    S = p.state.stack

    r : rules.Stepped
    r = rules.step G S p.state.place t

    all : Keeps B S
    all = keeps_on B (kept_frames p) S h.kept h.on

    here : Still G (outer S).number
    here = still_on G B S all still

    next : Keeps S r.stack
    next = keeps_step G S p.state.place t here

    in_item : (col : ℕ) (f : Option Fault) (m : Mark) → Keeps B (back_to S m) × Keeps (back_to S m) S → Forward B (step_sound G col t r f m).parser
    in_item col None m o = forward_go_on B S t (Some (item col m)) r o next
    in_item col (Some f) sound o = forward_go_on B S t (Some (item col sound)) r o next
    in_item col (Some f) marked o = forward_go_on B S t (Some (item col marked)) r o next
    in_item col (Some f) (held q ts) o = forward_back G B col q ts still o.0

    by : (i : Option Item) → Onward B S i → Forward B (step_by G p.state i t r).parser
    by None o = forward_go_on B S t None r o next
    by (Some i) o = cuts (is_cut i.col t r && is_marked i.mark)
      where
        cuts : (b : Bool) → Forward B (if b then cut_step G p.state t else step_sound G i.col t r r.fault (with_token p.state t (is_cut i.col t r) i.mark)).parser
        cuts true = forward_cut G B p.state t here all
        cuts false = in_item i.col r.fault (with_token p.state t (is_cut i.col t r) i.mark) (onward_token B p.state t (is_cut i.col t r) i.mark o)

-- tokens that follow
pub forward_all : (G : Table) (B : Stack) (ts : List Tok) (p : Parser) → Still G (outer B).number → Forward B p → Forward B (behind_all G ts p)
forward_all G B [] p still h = h
forward_all G B (t ∷ ts) p still h = forward_all G B ts (step G p t).parser still (forward_step G B p t still h)

-- a tree whose items begin with the nodes of these frames
pub record Holds (B : Stack) (T : Tree) : Type 0 where
  pub last : Frame
  pub is : T ≡ node_of last
  pub more : List Tree
  pub items : inners last.done ≡ more ++ inners (outer B).done

holds_up : (G : Table) (B S : Stack) (place : ℕ) → Keeps B S → Holds B (close_up G S place).0
holds_up G B [] place k = record { last = frame G.root 0 []; is = refl; more = k.more; items = k.items }
holds_up G B (f ∷ S) place k =
    let c = closes G place S f in
    let a = keeps_on B (f ∷ S) (c.last ∷ []) k c.keeps in
    record { last = c.last; is = c.is; more = a.more; items = a.items }

-- the end of the text
pub holds_close : (G : Table) (B : Stack) (p : Parser) → Still G (outer B).number → Forward B p → Holds B (close G p).0
unfolding close
holds_close G B p still h = by (close_up G p.state.stack p.state.place).1 p.item (h.kept, h.on)
  where
    here : Holds B (close_up G p.state.stack p.state.place).0
    here = holds_up G B p.state.stack p.state.place (keeps_on B (kept_frames p) p.state.stack h.kept h.on)

    in_item : (col : ℕ) (m : Mark) → Keeps B (back_to p.state.stack m) → Holds B (close_mark G p.state col m).0
    in_item col sound k = here
    in_item col marked k = here
    in_item col (held q ts) k =
        let b = forward_back G B col q ts still k in
        let r = (go_back G col q ts).parser in
        holds_up G B r.state.stack r.state.place (keeps_on B (kept_frames r) r.state.stack b.kept b.on)

    by : (n : ℕ) (i : Option Item) → Onward B p.state.stack i → Holds B (close_item G p.state n i).0
    by zero i o = here
    by (suc n) None o = here
    by (suc n) (Some i) o = in_item i.col i.mark o.0
