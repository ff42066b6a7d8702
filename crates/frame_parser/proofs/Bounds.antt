-- The steps of a text take each token at most twice.
use Rattle.std.proofs.Common.{◌≡◌, ℕ, ◌+◌, ◌*◌, ◌≤◌, Bool, true, false, ◌&&◌, List, [], ◌∷◌, length, Option, Some, None, refl, arith, if◌then◌else◌}
use Rattle.std.proofs.lemmas.List.{length-append}
use Rattle.token_model.specs.Kinds.{Tok}
use Rattle.grammar_model.specs.Machine.{Stack}
use Rattle.recovery_model.specs.Steps as rules
use Rattle.recovery_model.specs.Steps.{Fault, added, skipped, too_deep, cut}
use Rattle.grammar_model.specs.Ocaml.{Text, grammar}
use Rattle.recovery_model.specs.Items.{State, Mark, sound, held, marked, Item, item, Parser, parser, item_behind, begins_item, has_item, is_cut, closed_item, cut_step}
use Rattle.recovery_model.specs.Recovery.{faulted, item_after, retake_all, with_token, step_sound, is_marked, step_item, step_by, step, start}
use Rattle.recovery_laws.proofs.Counted.{IsSettled, Settled, all_settle}
use Rattle.frame_steps.proofs.Chains.{laws}
use Rattle.frame_parser.specs.Run.{run_on, kept_of, kept_in, shifts_sound, shifts_item, shifts_by, shifts, shifts_on, all_shifts}

kept_on : (S : Stack) (t : Tok) (i : Option Item) → kept_in (item_behind S t i) ≤ kept_in i
kept_on S t i = by (begins_item S) (has_item S)
  where
    by : (b c : Bool) → kept_in (if b then Some (item t.col sound) else (if c then i else None)) ≤ kept_in i
    by true c = omega arith
    by false true = omega arith
    by false false = omega arith

kept_faulted : (i : Option Item) → kept_in (faulted i) ≤ kept_in i
kept_faulted None = omega arith
kept_faulted (Some i) = omega arith

kept_after : (S : Stack) (t : Tok) (o : Option Fault) (i : Option Item) → kept_in (item_after S t o i) ≤ kept_in i
kept_after S t None i = kept_on S t i
kept_after S t (Some (added p k)) i = let a = kept_on S t (faulted i) in let b = kept_faulted i in omega arith
kept_after S t (Some (skipped u)) i = kept_faulted i
kept_after S t (Some (too_deep u)) i = kept_faulted i
kept_after S t (Some (cut p)) i = kept_faulted i

kept_with : (s : State) (t : Tok) (c : Bool) (m : Mark) → kept_of (with_token s t c m) ≤ kept_of m + 1
kept_with s t true sound = omega arith
kept_with s t false sound = omega arith
kept_with s t true (held q ts) = let e = length-append ts (t ∷ []) in omega arith
kept_with s t false (held q ts) = let e = length-append ts (t ∷ []) in omega arith
kept_with s t true marked = omega arith
kept_with s t false marked = omega arith

kept_settled : (i : Option Item) → Settled i → kept_in i ≡ 0
kept_settled None h = refl
kept_settled (Some i) h = by i.mark h
  where
    by : (m : Mark) → IsSettled m → kept_of m ≡ 0
    by sound h = refl
    by (held q ts) h = absurd h
    by marked h = refl

-- what a step takes and what is kept after it are at most two more than what was kept before it
sound_bound : (text : Text) (col : ℕ) (t : Tok) (x : rules.Stepped) (o : Option Fault) (m : Mark) → shifts_sound o m + kept_in (step_sound (grammar text) col t x o m).parser.item ≤ kept_of m + 1
sound_bound text col t x None m = let a = kept_after x.stack t x.fault (Some (item col m)) in omega arith
sound_bound text col t x (Some f) sound = let a = kept_after x.stack t x.fault (Some (item col sound)) in omega arith
sound_bound text col t x (Some f) marked = let a = kept_after x.stack t x.fault (Some (item col marked)) in omega arith
sound_bound text col t x (Some f) (held q ts) =
    let p = parser q (Some (item col sound)) in
    let e = kept_settled (retake_all (grammar text) ts p).parser.item (all_settle (grammar text) (laws text) ts p tt).settled in omega arith

item_bound : (text : Text) (s : State) (col : ℕ) (t : Tok) (x : rules.Stepped) (c : Bool) (m : Mark) → shifts_item s t c x.fault m + kept_in (step_item (grammar text) s col t x c m).parser.item ≤ kept_of m + 2
item_bound text s col t x c m = by (c && is_marked m)
  where
    n : Mark
    n = with_token s t c m

    by : (b : Bool) → (if b then 1 else shifts_sound x.fault n) + kept_in (if b then cut_step (grammar text) s t else step_sound (grammar text) col t x x.fault n).parser.item ≤ kept_of m + 2
    by true = let k = closed_item (grammar text) s.stack s.place in let a = kept_on (rules.step (grammar text) k.0 s.place t).stack t None in omega arith
    by false = let a = sound_bound text col t x x.fault n in let b = kept_with s t c m in omega arith

step_bound : (text : Text) (p : Parser) (t : Tok) → shifts (grammar text) p t + kept_in (step (grammar text) p t).parser.item ≤ kept_in p.item + 2
unfolding step shifts
step_bound text p t = by p.item
  where
    x : rules.Stepped
    x = rules.step (grammar text) p.state.stack p.state.place t

    by : (o : Option Item) → shifts_by p.state o t x + kept_in (step_by (grammar text) p.state o t x).parser.item ≤ kept_in o + 2
    by None = let a = kept_after x.stack t x.fault None in omega arith
    by (Some i) = item_bound text p.state i.col t x (is_cut i.col t x) i.mark

-- the steps of tokens and what is kept after them are at most twice as many as there are, and what was kept before
pub on_bound : (text : Text) (ts : List Tok) (p : Parser) → shifts_on (grammar text) ts p + kept_in (run_on (grammar text) ts p).item ≤ kept_in p.item + 2 * length ts
on_bound text [] p = omega arith
on_bound text (t ∷ ts) p = let a = step_bound text p t in let b = on_bound text ts (step (grammar text) p t).parser in omega arith

-- all steps take at most twice as many tokens as there are
pub twice_at_most : (text : Text) (ts : List Tok) → all_shifts text ts ≤ 2 * length ts
unfolding all_shifts
twice_at_most text ts = let a = on_bound text ts (start (grammar text)) in omega arith
