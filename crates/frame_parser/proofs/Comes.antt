-- How many tokens lead to a parser, and to the frames to which its item goes back.
use Rattle.std.proofs.Common.{◌≡◌, ℕ, zero, suc, ◌+◌, ◌-◌, ◌≤◌, Bool, true, false, ◌&&◌, List, [], ◌∷◌, length, Option, Some, None, subst, arith, if◌then◌else◌}
use Rattle.std.proofs.lemmas.List.{length-append}
use Rattle.token_model.specs.Kinds.{Tok}
use Rattle.grammar_model.specs.Machine.{Stack}
use Rattle.recovery_model.specs.Steps as rules
use Rattle.recovery_model.specs.Steps.{Fault, added, skipped, too_deep, cut}
use Rattle.grammar_model.specs.Ocaml.{Text, grammar}
use Rattle.recovery_model.specs.Items.{State, state, Mark, sound, held, marked, Item, item, Parser, parser, item_behind, begins_item, has_item, is_cut, closed_item, cut_step}
use Rattle.recovery_model.specs.Recovery.{faulted, item_after, go_on, retake_by, retake, retake_all, go_back, with_token, step_sound, is_marked, step_by, step, start}
use Rattle.recovery_laws.proofs.Counted.{IsSettled, Settled, all_settle}
use Rattle.frame_steps.proofs.Chains.{laws}
use Rattle.frame_steps.specs.Reached.{begun, taken, longer, ended}
use Rattle.frame_parser.specs.Run.{run_on, run}
use Rattle.frame_parser.specs.Shown.{IsReached, KeepsFew, ItemKeepsFew, Comes}

-- more tokens may lead there
pub reached_more : (text : Text) (k n : ℕ) (s : State) → IsReached text n s → IsReached text (k + n) s
reached_more text zero n s h = subst (λ n. IsReached text n s) (omega arith) h
reached_more text (suc k) n s h = subst (λ n. IsReached text n s) (omega arith) (longer (reached_more text k n s h))

pub reached_within : (text : Text) (n m : ℕ) (s : State) → IsReached text n s → n ≤ m → IsReached text m s
reached_within text n m s h le = by (m - n) (omega arith)
  where
    by : (k : ℕ) → k + n ≡ m → IsReached text m s
    by k e = subst (λ m. IsReached text m s) e (reached_more text k n s h)

-- one token by the rules for one token
pub put_reached : (text : Text) (n : ℕ) (s : State) (t : Tok) → IsReached text n s
    → IsReached text (suc n) (state (rules.step (grammar text) s.stack s.place t).stack (rules.step (grammar text) s.stack s.place t).place)
put_reached text n s t h = taken t h

-- a token behind an item that is closed
pub cut_reached : (text : Text) (n : ℕ) (s : State) (t : Tok) → IsReached text n s → IsReached text (suc n) (cut_step (grammar text) s t).parser.state
cut_reached text n s t h = taken t (ended h)

-- a token that is taken again
pub retake_reached : (text : Text) (n : ℕ) (p : Parser) (t : Tok) → IsReached text n p.state → IsReached text (suc n) (retake (grammar text) p t).parser.state
retake_reached text n p t h = by p.item
  where
    r : rules.Stepped
    r = rules.step (grammar text) p.state.stack p.state.place t

    by : (o : Option Item) → IsReached text (suc n) (retake_by (grammar text) p.state o t r).parser.state
    by None = put_reached text n p.state t h
    by (Some i) = whether (is_cut i.col t r)
      where
        whether : (b : Bool) → IsReached text (suc n) (if b then cut_step (grammar text) p.state t else go_on (Some i) t r).parser.state
        whether true = cut_reached text n p.state t h
        whether false = put_reached text n p.state t h

-- tokens that are taken again
pub all_reached : (text : Text) (ts : List Tok) (n : ℕ) (p : Parser) → IsReached text n p.state → IsReached text (n + length ts) (retake_all (grammar text) ts p).parser.state
all_reached text [] n p h = subst (λ n. IsReached text n p.state) (omega arith) h
all_reached text (t ∷ ts) n p h =
    subst (λ n. IsReached text n (retake_all (grammar text) ts (retake (grammar text) p t).parser).parser.state) (omega arith)
    (all_reached text ts (suc n) (retake (grammar text) p t).parser (retake_reached text n p t h))

behind_few : (text : Text) (n : ℕ) (S : Stack) (t : Tok) (i : Option Item) → ItemKeepsFew text n i → ItemKeepsFew text n (item_behind S t i)
behind_few text n S t i h = by (begins_item S) (has_item S)
  where
    by : (b c : Bool) → ItemKeepsFew text n (if b then Some (item t.col sound) else (if c then i else None))
    by true c = tt
    by false true = h
    by false false = tt

faulted_few : (text : Text) (n : ℕ) (i : Option Item) → ItemKeepsFew text n (faulted i)
faulted_few text n None = tt
faulted_few text n (Some i) = tt

after_few : (text : Text) (n : ℕ) (S : Stack) (t : Tok) (o : Option Fault) (i : Option Item) → ItemKeepsFew text n i → ItemKeepsFew text n (item_after S t o i)
after_few text n S t None i h = behind_few text n S t i h
after_few text n S t (Some (added p k)) i h = behind_few text n S t (faulted i) (faulted_few text n i)
after_few text n S t (Some (skipped u)) i h = faulted_few text n i
after_few text n S t (Some (too_deep u)) i h = faulted_few text n i
after_few text n S t (Some (cut p)) i h = faulted_few text n i

-- one token more is kept
pub with_few : (text : Text) (n : ℕ) (s : State) (t : Tok) (c : Bool) (m : Mark) → IsReached text n s → KeepsFew text n m → KeepsFew text (suc n) (with_token s t c m)
with_few text n s t true sound r h = (n, r, omega arith)
with_few text n s t false sound r h = tt
with_few text n s t true (held q ts) r h = let (m, q', le) = h in (m, q', let e = length-append ts (t ∷ []) in omega arith)
with_few text n s t false (held q ts) r h = let (m, q', le) = h in (m, q', let e = length-append ts (t ∷ []) in omega arith)
with_few text n s t true marked r h = tt
with_few text n s t false marked r h = tt

-- behind a token that neither cuts nor goes back
go_on_comes : (text : Text) (n : ℕ) (s : State) (i : Option Item) (t : Tok) → IsReached text n s → ItemKeepsFew text (suc n) i → Comes text (suc n) (go_on i t (rules.step (grammar text) s.stack s.place t)).parser
go_on_comes text n s i t r h =
    let x = rules.step (grammar text) s.stack s.place t in
    record { frames = put_reached text n s t r; item = after_few text (suc n) x.stack t x.fault i h }

-- an item that keeps no tokens keeps few
settled_few : (text : Text) (n : ℕ) (i : Option Item) → Settled i → ItemKeepsFew text n i
settled_few text n None h = tt
settled_few text n (Some i) h = by i.mark h
  where
    by : (m : Mark) → IsSettled m → KeepsFew text n m
    by sound h = tt
    by (held q ts) h = absurd h
    by marked h = tt

back_comes : (text : Text) (n col : ℕ) (q : State) (ts : List Tok) → KeepsFew text n (held q ts) → Comes text n (go_back (grammar text) col q ts).parser
back_comes text n col q ts (m, r, le) =
    let p = parser q (Some (item col sound)) in
    record {
      frames = reached_within text (m + length ts) n (retake_all (grammar text) ts p).parser.state (all_reached text ts m p r) le;
      item = settled_few text n (retake_all (grammar text) ts p).parser.item (all_settle (grammar text) (laws text) ts p tt).settled;
    }

cut_comes : (text : Text) (n : ℕ) (s : State) (t : Tok) → IsReached text n s → Comes text (suc n) (cut_step (grammar text) s t).parser
cut_comes text n s t r =
    let c = closed_item (grammar text) s.stack s.place in
    let x = rules.step (grammar text) c.0 s.place t in
    record { frames = cut_reached text n s t r; item = behind_few text (suc n) x.stack t None tt }

-- a token in an item of which this is known with it
sound_comes : (text : Text) (n : ℕ) (s : State) (col : ℕ) (t : Tok) (o : Option Fault) (m : Mark) → IsReached text n s → KeepsFew text (suc n) m
    → Comes text (suc n) (step_sound (grammar text) col t (rules.step (grammar text) s.stack s.place t) o m).parser
sound_comes text n s col t None m r h = go_on_comes text n s (Some (item col m)) t r h
sound_comes text n s col t (Some f) sound r h = go_on_comes text n s (Some (item col sound)) t r tt
sound_comes text n s col t (Some f) marked r h = go_on_comes text n s (Some (item col marked)) t r tt
sound_comes text n s col t (Some f) (held q ts) r h = back_comes text (suc n) col q ts h

-- one token
pub step_comes : (text : Text) (n : ℕ) (p : Parser) (t : Tok) → Comes text n p → Comes text (suc n) (step (grammar text) p t).parser
unfolding step
step_comes text n p t h = by p.item h.item
  where
    r : rules.Stepped
    r = rules.step (grammar text) p.state.stack p.state.place t

    by : (o : Option Item) → ItemKeepsFew text n o → Comes text (suc n) (step_by (grammar text) p.state o t r).parser
    by None k = go_on_comes text n p.state None t h.frames tt
    by (Some i) k = whether (is_cut i.col t r && is_marked i.mark)
      where
        m : Mark
        m = with_token p.state t (is_cut i.col t r) i.mark

        whether : (b : Bool) → Comes text (suc n) (if b then cut_step (grammar text) p.state t else step_sound (grammar text) i.col t r r.fault m).parser
        whether true = cut_comes text n p.state t h.frames
        whether false = sound_comes text n p.state i.col t r.fault m h.frames (with_few text n p.state t (is_cut i.col t r) i.mark h.frames k)

on_comes : (text : Text) (ts : List Tok) (n : ℕ) (p : Parser) → Comes text n p → Comes text (n + length ts) (run_on (grammar text) ts p)
on_comes text [] n p h = subst (λ n. Comes text n p) (omega arith) h
on_comes text (t ∷ ts) n p h = subst (λ n. Comes text n (run_on (grammar text) ts (step (grammar text) p t).parser)) (omega arith) (on_comes text ts (suc n) (step (grammar text) p t).parser (step_comes text n p t h))

-- as many tokens as there are lead to the parser behind them
pub run_comes : (text : Text) (ts : List Tok) → Comes text (length ts) (run text ts)
unfolding run
run_comes text ts = subst (λ n. Comes text n (run_on (grammar text) ts (start (grammar text)))) (omega arith) (on_comes text ts 0 (start (grammar text)) (record { frames = begun; item = tt }))
