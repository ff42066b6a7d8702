-- The frames that the tokens of a text lead to are in order.
use Rattle.std.proofs.Common.{◌≡◌, ℕ, zero, suc, ◌+◌, ◌*◌, ◌^◌, ◌≤◌, ◌<◌, Bool, true, false, ◌&&◌, List, [], ◌∷◌, length, Option, Some, None, refl, sym, ap, subst, arith, if◌then◌else◌, inl, inr}
use Rattle.std.proofs.lemmas.Bool.{cases_lt}
use Rattle.token_model.specs.Kinds.{Tok}
use Rattle.grammar_model.specs.Keys.{key_of}
use Rattle.grammar_model.specs.Trees.{Part}
use Rattle.grammar_model.specs.Tables.{Table, What, nothing, token, operand, Edge, Last, allowed, Place, nowhere, growth, at_spot, first_place}
use Rattle.recovery_model.specs.Numbers as numbers
use Rattle.recovery_model.specs.Numbers.{last_row, Found, none, found, Way, way, hole_in, way_by, or_way, more_must, must_at, find_way, out_by, find_out}
use Rattle.grammar_model.specs.Machine.{Frame, frame, Stack, last_done, put, first_of, opened, start_in}
use Rattle.recovery_model.specs.Steps.{is_operand, missing_at, must_of, on_edge, filled, most_parts, Fault, step}
use Rattle.grammar_model.specs.Ocaml.{Text, grammar}
use Rattle.grammar_laws.proofs.Formed as formed
use Rattle.grammar_laws.proofs.Formed.{TopOf, Below, top_step, top_begun}
use Rattle.grammar_laws.proofs.Instance.{passes}
use Rattle.grammar_laws.proofs.Promises.{rows_tested}
use Rattle.grammar_model.specs.Ocaml.{rows, sizes, root_of}
use Rattle.recovery_model.specs.Items.{closed_out, closed_item}
use Rattle.recovery_laws.proofs.Formed.{closed_fine}
use Rattle.frame_steps.specs.Reached.{Reached, begun, taken, longer, ended, to_close}
use Rattle.frame_steps.specs.Order.{done_nodes, highest, weight, AllWait, AllLow, InOrder}
use Rattle.frame_steps.specs.Course.{fit_of, out_of, course_of, out, past_musts, past_operand, past_way, depth_of, grown_to, taken_to, course_frames}
use Rattle.frame_steps.proofs.Chains.{laws, chain_few}
use Rattle.frame_steps.proofs.Orders.{put_light}
use Rattle.frame_steps.proofs.ItemFrames.{closed_is}
use Rattle.frame_steps.proofs.OneStep.{Steps, fit_steps, out_steps, no_steps}

-- frames that are closed make no more nodes than their weight
out_light : (n : ℕ) (G : Table) (f : Frame) (S : Stack) (at : ℕ) → weight ((out n G f S at).0 ∷ (out n G f S at).1) ≤ weight (f ∷ S)
out_light zero G f S at = omega arith
out_light (suc n) G f [] at = omega arith
out_light (suc n) G f (g ∷ S) at = let a = put_light most_parts (omega arith) G f g S at in let b = out_light n G (put (filled most_parts G f at).0 g) S at in omega arith

-- parts that must come are as many as there are steps
musts_light : (n : ℕ) (G : Table) (f : Frame) (at : ℕ) → done_nodes (past_musts n G f at).done ≤ done_nodes f.done + n
musts_light zero G f at = omega arith
musts_light (suc n) G f at = by (must_of G f) (λ e. musts_light n G (missing_at f e.spot at) at)
  where
    by : (o : Option Edge) → ((e : Edge) → done_nodes (past_musts n G (missing_at f e.spot at) at).done ≤ done_nodes (missing_at f e.spot at).done + n) → done_nodes (on_edge o f (λ e. past_musts n G (missing_at f e.spot at) at)).done ≤ done_nodes f.done + suc n
    by None ih = omega arith
    by (Some e) ih = let h = ih e in omega arith

past_light : (w : Way) (G : Table) (f : Frame) (at : ℕ) → done_nodes (past_way w G f at).done ≤ done_nodes f.done + w.musts + 1
past_light w G f at = by w.past (musts_light w.musts G f at)
  where
    by : (o : Option ℕ) → done_nodes (past_musts w.musts G f at).done ≤ done_nodes f.done + w.musts → done_nodes (past_operand o (past_musts w.musts G f at) at).done ≤ done_nodes f.done + w.musts + 1
    by None h = omega arith
    by (Some p) h = omega arith

-- a token opens as many frames as its chain has rows
opened_light : (G : Table) (xs : List ℕ) (t : Tok) (S : Stack) → weight (opened G xs t S) ≤ weight S + 18 * length xs
opened_light G [] t S = omega arith
opened_light G (r ∷ []) t S = omega arith
opened_light G (r ∷ q ∷ rs) t S = let h = opened_light G (q ∷ rs) t (frame r (first_of G r) [] ∷ S) in omega arith

start_light : (text : Text) (w : What) (f : Frame) (p : ℕ) (t : Tok) (S : Stack) → weight (start_in (grammar text) w f p t S) ≤ weight (f ∷ S) + 72
start_light text nothing f p t S = omega arith
start_light text (token ks) f p t S = omega arith
start_light text (operand s n) f p t S =
    let h = opened_light (grammar text) ((grammar text).chain s (key_of t)) t (frame f.number p f.done ∷ S) in
    let l = chain_few text s (key_of t) in omega arith

grown_light : (text : Text) (o : Option ℕ) (f : Frame) (ds : List (ℕ × Part)) (t : Tok) (S : Stack) → ds ≡ f.done → weight (grown_to (grammar text) o f ds t S) ≤ weight (f ∷ S) + 90
grown_light text None f ds t S e = omega arith
grown_light text (Some g) f [] t S e = omega arith
grown_light text (Some g) f (d ∷ ds) t S e =
    let h = start_light text ((grammar text).what g (first_of (grammar text) g)) (frame g 0 ((0, d.1) ∷ [])) (first_of (grammar text) g) t (frame f.number f.at ds ∷ S) in
    let l : done_nodes (d ∷ ds) ≡ done_nodes f.done = ap done_nodes e in omega arith

taken_light : (text : Text) (p : Place) (f : Frame) (S : Stack) (t : Tok) → weight (taken_to (grammar text) p f S t) ≤ weight (f ∷ S) + 90
taken_light text nowhere f S t = omega arith
taken_light text growth f S t = grown_light text _ f f.done t S refl
taken_light text (at_spot p) f S t = let h = start_light text ((grammar text).what f.number p) f p t S in omega arith

-- a way past missing parts passes at most 16 that must come
by_few : (m : ℕ) (o : Option ℕ) (q : Place) (other : Option Way) (w : Way) → (other ≡ Some w → w.musts ≤ m) → way_by o q other ≡ Some w → w.musts ≤ m
by_few m o nowhere other w on i = on i
by_few m o growth other w on i = let e : way 0 o growth ≡ w = cc in let d : 0 ≡ w.musts = ap (λ w. w.musts) e in omega arith
by_few m o (at_spot s) other w on i = let e : way 0 o (at_spot s) ≡ w = cc in let d : 0 ≡ w.musts = ap (λ w. w.musts) e in omega arith

or_few : (m : ℕ) (v other : Option Way) (w : Way) → (v ≡ Some w → w.musts ≤ m) → (other ≡ Some w → w.musts ≤ m) → or_way v other ≡ Some w → w.musts ≤ m
or_few m None other w a b i = b i
or_few m (Some v) other w a b i = a i

past_few : (m : ℕ) (G : Table) (r : ℕ) (last : Last) (k : ℕ) (es : List Edge) (w : Way) → numbers.past_way G r last k es ≡ Some w → w.musts ≤ m
past_few m G r last k [] w i = absurd (cc)
past_few m G r last k (e ∷ es) w i = by (is_operand (G.what r e.spot) && allowed e.behind last) (past_few m G r last k es w) i
  where
    by : (b : Bool) → (numbers.past_way G r last k es ≡ Some w → w.musts ≤ m) →
        (if b then way_by (Some e.spot) (first_place G r e.spot (hole_in (G.what r e.spot)) k) (numbers.past_way G r last k es) else numbers.past_way G r last k es) ≡ Some w → w.musts ≤ m
    by false go i = go i
    by true go i = by_few m (Some e.spot) _ _ w go i

more_few : (m : ℕ) (v : Option Way) (w : Way) → ((u : Way) → v ≡ Some u → u.musts ≤ m) → more_must v ≡ Some w → w.musts ≤ suc m
more_few m None w go i = absurd (cc)
more_few m (Some u) w go i = let e : way (suc u.musts) u.past u.place ≡ w = cc in let d : suc u.musts ≡ w.musts = ap (λ w. w.musts) e in let h = go u refl in omega arith

way_few : (fuel : ℕ) (G : Table) (r at : ℕ) (last : Last) (k : ℕ) (w : Way) → find_way fuel G r at last k ≡ Some w → w.musts ≤ fuel
way_few zero G r at last k w i = absurd (cc)
way_few (suc fuel) G r at last k w i =
    by_few (suc fuel) None _ _ w (or_few (suc fuel) _ _ w (past_few (suc fuel) G r last k (G.next r at) w) (must (must_at G r at) (λ e u. way_few fuel G r e.spot (hole_in (G.what r e.spot)) k u))) i
  where
    must : (o : Option Edge) → ((e : Edge) (u : Way) → find_way fuel G r e.spot (hole_in (G.what r e.spot)) k ≡ Some u → u.musts ≤ fuel) → on_edge o None (λ e. more_must (find_way fuel G r e.spot (hole_in (G.what r e.spot)) k)) ≡ Some w → w.musts ≤ suc fuel
    must None go i = absurd (cc)
    must (Some e) go i = more_few fuel _ w (go e) i

abbrev musts_in : Option (ℕ × Way) → ℕ
musts_in None = 0
musts_in (Some c) = c.1.musts

out_by_few : (m : ℕ) (v : Option Way) (other : Option (ℕ × Way)) → ((u : Way) → v ≡ Some u → u.musts ≤ m) → musts_in other ≤ m → musts_in (out_by v other) ≤ m
out_by_few m (Some v) other go h = go v refl
out_by_few m None None go h = h
out_by_few m None (Some c) go h = h

out_few : (G : Table) (S : Stack) (r at : ℕ) (last : Last) (k : ℕ) → musts_in (find_out G r at last S k) ≤ 16
out_few G [] r at last k = out_by_few 16 (find_way most_parts G r at last k) None (λ u i. way_few most_parts G r at last k u i) (omega arith)
out_few G (g ∷ S) r at last k = out_by_few 16 (find_way most_parts G r at last k) _ (λ u i. way_few most_parts G r at last k u i) (out_few G S g.number g.at (last_row (G.what g.number g.at) r) k)

-- a token that is taken by a course with few missing parts
course_light : (text : Text) (c : ℕ × Way) (f : Frame) (S : Stack) (at : ℕ) (t : Tok) → c.1.musts ≤ 16 →
    weight (taken_to (grammar text) c.1.place (course_frames (grammar text) c f S at).0 (course_frames (grammar text) c f S at).1 t) ≤ weight (f ∷ S) + 107
course_light text c f S at t m =
    let o = out c.0 (grammar text) f S at in
    let a = out_light c.0 (grammar text) f S at in
    let b = past_light c.1 (grammar text) o.0 at in
    let d = taken_light text c.1.place (course_frames (grammar text) c f S at).0 (course_frames (grammar text) c f S at).1 t in omega arith

steps_light : (text : Text) (c : ℕ × Way) (f : Frame) (S : Stack) (at : ℕ) (t : Tok) (o : Option Fault) → c.1.musts ≤ 16 → Steps (grammar text) c f S at t o → weight (step (grammar text) (f ∷ S) at t).stack ≤ weight (f ∷ S) + 107
steps_light text c f S at t o m s = elim (cases_lt 512 (depth_of (grammar text) c f S at (key_of t))) [
  | inl h ↦ let e : weight (step (grammar text) (f ∷ S) at t).stack ≡ weight (f ∷ S) = ap (λ r. weight r.stack) (s.too_deep h) in omega arith
  | inr h ↦
      let e : weight (step (grammar text) (f ∷ S) at t).stack ≡ weight (taken_to (grammar text) c.1.place (course_frames (grammar text) c f S at).0 (course_frames (grammar text) c f S at).1 t) = ap (λ r. weight r.stack) (s.taken h) in
      let l = course_light text c f S at t m in omega arith
]

-- a step adds little weight
step_light : (text : Text) (f : Frame) (S : Stack) (at : ℕ) (t : Tok) → weight (step (grammar text) (f ∷ S) at t).stack ≤ weight (f ∷ S) + 107
step_light text f S at t = by (fit_of (grammar text) f S t) refl
  where
    out_by : (x : Option (ℕ × Way)) → out_of (grammar text) f S t ≡ x → None ≡ course_of (fit_of (grammar text) f S t) → weight (step (grammar text) (f ∷ S) at t).stack ≤ weight (f ∷ S) + 107
    out_by None e n = let d : weight (step (grammar text) (f ∷ S) at t).stack ≡ weight (f ∷ S) = ap (λ r. weight r.stack) (no_steps (grammar text) f S at t n (sym e)) in omega arith
    out_by (Some c) e n =
        let few : c.1.musts ≤ 16 = subst (λ x. musts_in x ≤ 16) e (out_few (grammar text) S f.number f.at (last_done ((grammar text).what f.number f.at) f.done) (key_of t)) in
        steps_light text c f S at t _ few (out_steps (grammar text) (laws text) f S at t c n (sym e))

    by : (x : Found) → fit_of (grammar text) f S t ≡ x → weight (step (grammar text) (f ∷ S) at t).stack ≤ weight (f ∷ S) + 107
    by (found n p) e = steps_light text (n, way 0 None p) f S at t None (omega arith) (fit_steps (grammar text) (laws text) f S at t (n, way 0 None p) (sym (ap course_of e)))
    by none e = out_by (out_of (grammar text) f S t) refl (sym (ap course_of e))

-- frames that are well formed and of little weight
record Good (text : Text) (n : ℕ) (S : Stack) : Type 0 where
  top : TopOf (grammar text) S
  light : weight S ≤ n

good_step : (text : Text) (n : ℕ) (S : Stack) (place : ℕ) (t : Tok) → Good text n S → Good text (n + 107) (step (grammar text) S place t).stack
good_step text n S place t g = record {
  top = top_step (grammar text) (laws text) (passes (root_of text) sizes rows (rows_tested text)) S place t g.top;
  light = by S g.top g.light;
}
  where
    by : (S : Stack) → TopOf (grammar text) S → weight S ≤ n → weight (step (grammar text) S place t).stack ≤ n + 107
    by [] top l = absurd top
    by (f ∷ S) top l = let h = step_light text f S place t in omega arith

-- an item that is closed makes no more nodes than the weight of its frames
ended_light : (G : Table) (place : ℕ) (S : Stack) (f : Frame) → weight (closed_out G f S place).0 ≤ weight (f ∷ S)
ended_light G place S f =
    let e : weight (closed_out G f S place).0 ≡ weight ((out (to_close f.number S) G f S place).0 ∷ (out (to_close f.number S) G f S place).1) = ap (λ c. weight c.0) (closed_is G place S f) in
    let h = out_light (to_close f.number S) G f S place in omega arith

good_ended : (text : Text) (n : ℕ) (S : Stack) (place : ℕ) → Good text n S → Good text n (closed_item (grammar text) S place).0
good_ended text n [] place g = absurd g.top
good_ended text n (f ∷ S) place g = record {
  top = closed_fine (grammar text) (passes (root_of text) sizes rows (rows_tested text)) place S f g.top;
  light = let h = ended_light (grammar text) place S f in let l = g.light in omega arith;
}

reached_good : (text : Text) (n : ℕ) (S : Stack) (place : ℕ) → Reached text n S place → Good text (18 + 107 * n) S
reached_good text n S place begun = record { top = top_begun (grammar text) (laws text); light = omega arith }
reached_good text n S place (taken {n = m} {S = U} {place = at} t r) =
    let g = good_step text (18 + 107 * m) U at t (reached_good text m U at r) in
    record { top = g.top; light = let l = g.light in omega arith }
reached_good text n S place (longer {n = m} {S = U} {place = at} r) =
    let g = reached_good text m U at r in
    record { top = g.top; light = let l = g.light in omega arith }
reached_good text n S place (ended {n = m} {S = U} {place = at} r) = good_ended text (18 + 107 * m) U at (reached_good text m U at r)

low_highest : (d : ℕ) (ds : List (ℕ × Part)) → formed.AllLow d ds → d ≤ 512 → highest ds + d ≤ 512
low_highest d [] l h = omega arith
low_highest d (x ∷ xs) l h = let a = l.0 in let b = low_highest d xs l.1 h in omega arith

below_low : (text : Text) (r : ℕ) (S : Stack) → Below (grammar text) r S → length S ≤ 512 → AllLow S × AllWait (grammar text) S
below_low text r [] b l = (tt, tt)
below_low text r (f ∷ S) b l =
    let (s, n, w, sort, le, waits, low, below) = b in
    let h = low_highest (length S + 1) f.done low (omega arith) in
    let (c, d) = below_low text f.number S below (omega arith) in
    ((omega arith, c), (s, n, w, d))

top_order : (text : Text) (S : Stack) → TopOf (grammar text) S → weight S < 2 ^ 31 → InOrder (grammar text) S
top_order text [] top l = absurd top
top_order text (f ∷ S) top l =
    let few = top.few in
    let (c, d) = below_low text f.number S top.below (omega arith) in
    let h = low_highest (length S + 1) f.done top.low few in
    record { wait = d; low = (omega arith, c); light = l }

-- the frames that as many tokens lead to as a text may have are in order
pub reached_order : (text : Text) (n : ℕ) (S : Stack) (place : ℕ) → Reached text n S place → n ≤ 1048576 → InOrder (grammar text) S
reached_order text n S place r l = let g = reached_good text n S place r in top_order text S g.top (let h = g.light in omega arith)
