-- A tree is well formed apart from its missing parts, and at most 512 high, also where tokens are taken again.
use Rattle.std.proofs.Common.{◌≡◌, ℕ, zero, suc, ◌+◌, Bool, true, false, ◌&&◌, nat_eq, List, [], ◌∷◌, ◌++◌, Option, Some, None, refl, if◌then◌else◌}
use Rattle.token_model.specs.Kinds.{Tok}
use Rattle.grammar_model.specs.Trees.{Tree}
use Rattle.grammar_model.specs.Tables.{Table}
use Rattle.grammar_model.specs.Machine.{Frame, Stack, put}
use Rattle.recovery_model.specs.Steps as rules
use Rattle.recovery_model.specs.Steps.{Fault, added, skipped, too_deep, cut, filled, most_parts, close_up, IsRecovered}
use Rattle.grammar_laws.proofs.Laws.{Found}
use Rattle.grammar_laws.proofs.Formed.{Passes, TopOf, top_frame, top_step, top_begun, top_filled, filled_put, closed_formed}
use Rattle.recovery_model.specs.Items.{State, state, Mark, sound, held, marked, Item, item, Parser, parser, Stepped, stepped, item_row, item_behind, begins_item, has_item, is_cut, more_holes, closed_out, closed_item, cut_step}
use Rattle.recovery_model.specs.Recovery.{faulted, item_after, go_on, retake_by, retake, retake_all, go_back, with_token, step_sound, is_marked, step_item, step_by, step, ended, close_mark, close_item, close, recovered, start, recover}

-- the frames that an item may go back to are well formed
abbrev IsFine : Table → Mark → Type 0
IsFine G sound = Unit {0}
IsFine G (held q ts) = TopOf G q.stack
IsFine G marked = Unit {0}

abbrev Fine : Table → Option Item → Type 0
Fine G None = Unit {0}
Fine G (Some i) = IsFine G i.mark

-- so are those of the parser itself
record AllFine (G : Table) (p : Parser) : Type 0 where
  frames : TopOf G p.state.stack
  item : Fine G p.item

behind_fine : (G : Table) (S : Stack) (t : Tok) (i : Option Item) → Fine G i → Fine G (item_behind S t i)
behind_fine G S t i h = by (begins_item S) (has_item S)
  where
    by : (b c : Bool) → Fine G (if b then Some (item t.col sound) else (if c then i else None))
    by true c = tt
    by false true = h
    by false false = tt

faulted_fine : (G : Table) (i : Option Item) → Fine G (faulted i)
faulted_fine G None = tt
faulted_fine G (Some i) = tt

after_fine : (G : Table) (S : Stack) (t : Tok) (o : Option Fault) (i : Option Item) → Fine G i → Fine G (item_after S t o i)
after_fine G S t None i h = behind_fine G S t i h
after_fine G S t (Some (added p n)) i h = behind_fine G S t (faulted i) (faulted_fine G i)
after_fine G S t (Some (skipped u)) i h = faulted_fine G i
after_fine G S t (Some (too_deep u)) i h = faulted_fine G i
after_fine G S t (Some (cut p)) i h = faulted_fine G i

go_on_fine : (G : Table) → Found G → Passes G → (s : State) (i : Option Item) (t : Tok) → TopOf G s.stack → Fine G i → AllFine G (go_on i t (rules.step G s.stack s.place t)).parser
go_on_fine G L P s i t top h =
    let r = rules.step G s.stack s.place t in
    record { frames = top_step G L P s.stack s.place t top; item = after_fine G r.stack t r.fault i h }

-- the item's frames are closed
pub closed_fine : (G : Table) → Passes G → (place : ℕ) (S : Stack) (f : Frame) → top_frame G f S → TopOf G (closed_out G f S place).0
closed_fine G P place [] f top = top
closed_fine G P place (g ∷ S) f top = by (nat_eq f.number item_row) one (closed_fine G P place S (put F g) one)
  where
    F : Frame
    F = (filled most_parts G f place).0

    one : top_frame G (put F g) S
    one = filled_put G F g S (top_filled G P most_parts f.number f.at f.done (g ∷ S) place (P.soon f.number f.at) top)

    by : (b : Bool) → top_frame G (put F g) S → TopOf G (closed_out G (put F g) S place).0
        → TopOf G (if b then (put F g ∷ S, (filled most_parts G f place).1) else more_holes (filled most_parts G f place).1 (closed_out G (put F g) S place)).0
    by true a go = a
    by false a go = go

cut_fine : (G : Table) → Found G → Passes G → (s : State) (t : Tok) → TopOf G s.stack → AllFine G (cut_step G s t).parser
cut_fine G L P s t top =
    let c = closed_item G s.stack s.place in
    let r = rules.step G c.0 s.place t in
    record { frames = top_step G L P c.0 s.place t (closed s.stack top); item = behind_fine G r.stack t None tt }
  where
    closed : (S : Stack) → TopOf G S → TopOf G (closed_item G S s.place).0
    closed [] top = absurd top
    closed (f ∷ S) top = closed_fine G P s.place S f top

retake_fine : (G : Table) → Found G → Passes G → (p : Parser) (t : Tok) → AllFine G p → AllFine G (retake G p t).parser
retake_fine G L P p t h = by p.item h.item
  where
    r : rules.Stepped
    r = rules.step G p.state.stack p.state.place t

    by : (o : Option Item) → Fine G o → AllFine G (retake_by G p.state o t r).parser
    by None f = go_on_fine G L P p.state None t h.frames tt
    by (Some i) f = whether (is_cut i.col t r)
      where
        whether : (b : Bool) → AllFine G (if b then cut_step G p.state t else go_on (Some i) t r).parser
        whether true = cut_fine G L P p.state t h.frames
        whether false = go_on_fine G L P p.state (Some i) t h.frames f

all_fine : (G : Table) → Found G → Passes G → (ts : List Tok) (p : Parser) → AllFine G p → AllFine G (retake_all G ts p).parser
all_fine G L P [] p h = h
all_fine G L P (t ∷ ts) p h = all_fine G L P ts (retake G p t).parser (retake_fine G L P p t h)

-- what is known of an item with one token more
with_fine : (G : Table) (s : State) (t : Tok) (c : Bool) (m : Mark) → TopOf G s.stack → IsFine G m → IsFine G (with_token s t c m)
with_fine G s t true sound top h = top
with_fine G s t false sound top h = tt
with_fine G s t true (held q ts) top h = h
with_fine G s t false (held q ts) top h = h
with_fine G s t true marked top h = tt
with_fine G s t false marked top h = tt

sound_fine : (G : Table) → Found G → Passes G → (s : State) (col : ℕ) (t : Tok) (o : Option Fault) (m : Mark) → TopOf G s.stack → IsFine G m → AllFine G (step_sound G col t (rules.step G s.stack s.place t) o m).parser
sound_fine G L P s col t None m top h = go_on_fine G L P s (Some (item col m)) t top h
sound_fine G L P s col t (Some f) sound top h = go_on_fine G L P s (Some (item col sound)) t top tt
sound_fine G L P s col t (Some f) marked top h = go_on_fine G L P s (Some (item col marked)) t top tt
sound_fine G L P s col t (Some f) (held q ts) top h = all_fine G L P ts (parser q (Some (item col sound))) (record { frames = h; item = tt })

step_fine : (G : Table) → Found G → Passes G → (p : Parser) (t : Tok) → AllFine G p → AllFine G (step G p t).parser
unfolding step
step_fine G L P p t h = by p.item h.item
  where
    r : rules.Stepped
    r = rules.step G p.state.stack p.state.place t

    by : (o : Option Item) → Fine G o → AllFine G (step_by G p.state o t r).parser
    by None f = go_on_fine G L P p.state None t h.frames tt
    by (Some i) f = whether (is_cut i.col t r && is_marked i.mark)
      where
        m : Mark
        m = with_token p.state t (is_cut i.col t r) i.mark

        whether : (b : Bool) → AllFine G (if b then cut_step G p.state t else step_sound G i.col t r r.fault m).parser
        whether true = cut_fine G L P p.state t h.frames
        whether false = sound_fine G L P p.state i.col t r.fault m h.frames (with_fine G p.state t (is_cut i.col t r) i.mark h.frames f)

-- the tree at the end
ended_formed : (G : Table) → Passes G → (s : State) (fs : List Fault) → TopOf G s.stack → IsRecovered G (ended G s fs).0
ended_formed G P s fs top = by s.stack top
  where
    by : (S : Stack) → TopOf G S → IsRecovered G (close_up G S s.place).0
    by [] top = absurd top
    by (f ∷ S) top = closed_formed G P s.place S f top

close_formed : (G : Table) → Found G → Passes G → (p : Parser) → AllFine G p → IsRecovered G (close G p).0
unfolding close
close_formed G L P p h = by (close_up G p.state.stack p.state.place).1 p.item h.item
  where
    in_item : (col : ℕ) (m : Mark) → IsFine G m → IsRecovered G (close_mark G p.state col m).0
    in_item col sound f = ended_formed G P p.state [] h.frames
    in_item col marked f = ended_formed G P p.state [] h.frames
    in_item col (held q ts) f =
        ended_formed G P (go_back G col q ts).parser.state (go_back G col q ts).faults (all_fine G L P ts (parser q (Some (item col sound))) (record { frames = f; item = tt })).frames

    by : (n : ℕ) (o : Option Item) → Fine G o → IsRecovered G (close_item G p.state n o).0
    by zero o f = ended_formed G P p.state [] h.frames
    by (suc n) None f = ended_formed G P p.state [] h.frames
    by (suc n) (Some i) f = in_item i.col i.mark f

run_formed : (G : Table) → Found G → Passes G → (ts : List Tok) (p : Parser) → AllFine G p → IsRecovered G (recovered G ts p).0
run_formed G L P [] p h = close_formed G L P p h
run_formed G L P (t ∷ ts) p h = run_formed G L P ts (step G p t).parser (step_fine G L P p t h)

-- every tree of the parser is well formed but for its missing parts, and at most 512 high
pub formed : (G : Table) → Found G → Passes G → (ts : List Tok) → IsRecovered G (recover G ts).0
unfolding recover
formed G L P ts = run_formed G L P ts (start G) (record { frames = top_begun G L; item = tt })
