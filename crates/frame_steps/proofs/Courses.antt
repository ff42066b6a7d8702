-- The numbers of the frames tell where a token is taken.
use Rattle.std.proofs.Common.{◌≡◌, ℕ, zero, suc, ◌+◌, Bool, true, false, ◌&&◌, List, [], ◌∷◌, map, Option, Some, None, refl, sym, ◌∙◌, ap, subst, arith, if◌then◌else◌}
use Rattle.token_model.specs.Kinds.{Tok}
use Rattle.tree_model.specs.Rows as names
use Rattle.grammar_model.specs.Keys.{key_of}
use Rattle.grammar_model.specs.Trees.{Part, missing}
use Rattle.grammar_model.specs.Tables.{Table, What, nothing, token, operand, Edge, Last, allowed, Place, nowhere, growth, at_spot, first_place}
use Rattle.recovery_model.specs.Numbers as numbers
use Rattle.recovery_model.specs.Numbers.{last_row, Found, none, found, further, here, find_fit, Way, way, hole_in, way_by, or_way, more_must, find_way, out_by, find_out}
use Rattle.grammar_model.specs.Machine.{Frame, Stack, put, last_done, no_fit, take_at, place_in, fits_at}
use Rattle.recovery_model.specs.Steps.{is_operand, missing_at, must_of, unreached, reached, at_frame, on_edge, filled, most_parts, reach_out}
use Rattle.grammar_laws.proofs.ByNumbers.{take_found, last_closed, fits_by}
use Rattle.grammar_laws.proofs.ReachByNumbers.{take_way, take_out, reaches_by}
use Rattle.parse_frames.specs.Named.{named_frame}
use Rattle.frame_steps.specs.Course.{bare, out, out_holes, past_musts, past_operand, past_way, past_holes, IsPlaced}
use Rattle.frame_steps.proofs.Orders.{filled_row}

-- where a token fits isn't told by the parts of the frames below
pub fit_bare : (G : Table) (name : ℕ → names.Row) (S : Stack) (r at : ℕ) (last : Last) (k : ℕ) → find_fit G r at last (bare (map (named_frame name) S)) k ≡ find_fit G r at last S k
fit_bare G name [] r at last k = refl
fit_bare G name (g ∷ S) r at last k = ap (λ x. here (first_place G r at last k) (if G.ends r at then further x else none)) (fit_bare G name S g.number g.at (last_row (G.what g.number g.at) r) k)

-- where it is reached isn't either
pub out_bare : (G : Table) (name : ℕ → names.Row) (S : Stack) (r at : ℕ) (last : Last) (k : ℕ) → find_out G r at last (bare (map (named_frame name) S)) k ≡ find_out G r at last S k
out_bare G name [] r at last k = refl
out_bare G name (g ∷ S) r at last k = ap (out_by (find_way most_parts G r at last k)) (out_bare G name S g.number g.at (last_row (G.what g.number g.at) r) k)

-- a frame that can end has no part that must come
filled_end : (G : Table) (f : Frame) (at : ℕ) → G.ends f.number f.at ≡ true → filled most_parts G f at ≡ (f, 0)
filled_end G f at e = rw e refl

-- the place in the innermost frame, where a finding has it there
here_zero : (q : Place) (other : Found) (p : Place) → ((r : Place) → other ≡ found zero r → ⊥) → here q other ≡ found zero p → (q ≡ p) × (p ≡ nowhere → ⊥)
here_zero nowhere other p not_there h = absurd (not_there p h)
here_zero growth other p not_there h = let e : growth ≡ p = cc in (e, λ z. let x : growth ≡ nowhere = e ∙ z in cc)
here_zero (at_spot s) other p not_there h = let e : at_spot s ≡ p = cc in (e, λ z. let x : at_spot s ≡ nowhere = e ∙ z in cc)

-- what is found further out isn't found here
here_more : (q : Place) (other : Found) (n : ℕ) (p : Place) → here q other ≡ found (suc n) p → other ≡ found (suc n) p
here_more nowhere other n p h = h
here_more growth other n p h = absurd (cc)
here_more (at_spot s) other n p h = absurd (cc)

further_not : (b : Bool) (x : Found) (r : Place) → (if b then further x else none) ≡ found zero r → ⊥
further_not true none r h = cc
further_not true (found k q) r h = cc
further_not false x r h = cc

further_is : (b : Bool) (x : Found) (n : ℕ) (p : Place) → (if b then further x else none) ≡ found (suc n) p → (b ≡ true) × (x ≡ found n p)
further_is true none n p h = absurd (cc)
further_is true (found k q) n p h = (refl, cc)
further_is false x n p h = absurd (cc)

-- a token that fits is taken in a frame when those further in are closed, which can end
pub record Fits (G : Table) (f : Frame) (S : Stack) (t : Tok) (at n : ℕ) (p : Place) : Type 0 where
  pub taken : take_found G (found n p) f S t ≡ take_at G p (out n G f S at).0 (out n G f S at).1 t no_fit
  pub placed : IsPlaced G (out n G f S at).0 t p

fit_course : (G : Table) (t : Tok) (at : ℕ) (S : Stack) (f : Frame) (n : ℕ) (p : Place) → find_fit G f.number f.at (last_done (G.what f.number f.at) f.done) S (key_of t) ≡ found n p → Fits G f S t at n p
fit_course G t at [] f zero p h = let (e, s) = here_zero (place_in G f t) none p (λ r z. cc) h in record { taken = refl; placed = record { placed = e; some = s } }
fit_course G t at [] f (suc n) p h = let z : none ≡ found (suc n) p = here_more (place_in G f t) none n p h in absurd (cc)
fit_course G t at (g ∷ S) f zero p h =
    let (e, s) = here_zero (place_in G f t) _ p (further_not (G.ends f.number f.at) (find_fit G g.number g.at (last_row (G.what g.number g.at) f.number) S (key_of t))) h in
    record { taken = refl; placed = record { placed = e; some = s } }
fit_course G t at (g ∷ S) f (suc n) p h =
    let (ends, rest) = further_is (G.ends f.number f.at) (find_fit G g.number g.at (last_row (G.what g.number g.at) f.number) S (key_of t)) n p (here_more (place_in G f t) _ n p h) in
    let ih = fit_course G t at S (put f g) n p (ap (λ l. find_fit G g.number g.at l S (key_of t)) (last_closed (G.what g.number g.at) f g.done g.at) ∙ rest) in
    let same : put (filled most_parts G f at).0 g ≡ put f g = ap (λ r. put r.0 g) (filled_end G f at ends) in
    record {
      taken = subst (λ q. take_found G (found n p) (put f g) S t ≡ take_at G p (out n G q S at).0 (out n G q S at).1 t no_fit) (sym same) ih.taken;
      placed = subst (λ q. IsPlaced G (out n G q S at).0 t p) (sym same) ih.placed;
    }

-- a token that fits, by its course
pub fits_taken : (G : Table) (t : Tok) (at : ℕ) (S : Stack) (f : Frame) (n : ℕ) (p : Place) → find_fit G f.number f.at (last_done (G.what f.number f.at) f.done) S (key_of t) ≡ found n p →
    (fits_at G f S t ≡ take_at G p (out n G f S at).0 (out n G f S at).1 t no_fit) × IsPlaced G (out n G f S at).0 t p
fits_taken G t at S f n p h =
    let c = fit_course G t at S f n p h in
    (fits_by G t S f ∙ ap (λ x. take_found G x f S t) h ∙ c.taken, c.placed)

-- a token that is found nowhere doesn't fit
pub fits_not : (G : Table) (t : Tok) (S : Stack) (f : Frame) → find_fit G f.number f.at (last_done (G.what f.number f.at) f.done) S (key_of t) ≡ none → fits_at G f S t ≡ no_fit
fits_not G t S f h = fits_by G t S f ∙ ap (λ x. take_found G x f S t) h

-- a token that is taken by a way in a frame
pub record Reaches (G : Table) (f : Frame) (S : Stack) (t : Tok) (at h : ℕ) (w : Way) : Type 0 where
  pub taken : take_way w.musts w.past w.place G f S t at h ≡ reached (take_at G w.place (past_way w G f at) S t no_fit) (h + w.musts + past_holes w.past)
  pub placed : IsPlaced G (past_way w G f at) t w.place

-- what a missing part is as the last one
pub last_missing : (w : What) (p at : ℕ) (ds : List (ℕ × Part)) → last_done w ((p, missing at) ∷ ds) ≡ hole_in w
last_missing nothing p at ds = refl
last_missing (token ks) p at ds = refl
last_missing (operand s n) p at ds = refl

-- a place that isn't nowhere is reached
at_reached : (G : Table) (p : Place) (f : Frame) (S : Stack) (t : Tok) (h k : ℕ) → (p ≡ nowhere → ⊥) → h ≡ k → at_frame G p f S t h unreached ≡ reached (take_at G p f S t no_fit) k
at_reached G nowhere f S t h k some e = absurd (some refl)
at_reached G growth f S t h k some e = ap (reached (take_at G growth f S t no_fit)) e
at_reached G (at_spot p) f S t h k some e = ap (reached (take_at G (at_spot p) f S t no_fit)) e

-- the way to a place of the frame itself
way_here : (G : Table) (f : Frame) (S : Stack) (t : Tok) (at h : ℕ) (q : Place) → place_in G f t ≡ q → (q ≡ nowhere → ⊥) → Reaches G f S t at h (way 0 None q)
way_here G f S t at h q e some = record { taken = at_reached G q f S t h (h + 0 + 0) some (omega arith); placed = record { placed = e; some = some } }

-- the way to a place behind a missing operand
way_past : (G : Table) (f : Frame) (S : Stack) (t : Tok) (at h s : ℕ) (q : Place) → place_in G (missing_at f s at) t ≡ q → (q ≡ nowhere → ⊥) → Reaches G f S t at h (way 0 (Some s) q)
way_past G f S t at h s q e some = record { taken = at_reached G q (missing_at f s at) S t (h + 1) (h + 0 + 1) some (omega arith); placed = record { placed = e; some = some } }

-- a way by a place, or another one
by_is : (P : Way → Type 0) (o : Option ℕ) (q : Place) (other : Option Way) (w : Way) → ((q ≡ nowhere → ⊥) → P (way 0 o q)) → (other ≡ Some w → P w) → way_by o q other ≡ Some w → P w
by_is P o nowhere other w go on i = on i
by_is P o growth other w go on i = let e : way 0 o growth ≡ w = cc in subst P e (go (λ z. cc))
by_is P o (at_spot s) other w go on i = let e : way 0 o (at_spot s) ≡ w = cc in subst P e (go (λ z. cc))

-- the first of two ways
or_is : (P : Way → Type 0) (v other : Option Way) (w : Way) → (v ≡ Some w → P w) → (other ≡ Some w → P w) → or_way v other ≡ Some w → P w
or_is P None other w a b i = b i
or_is P (Some v) other w a b i = a i

-- a way past an operand
past_is : (G : Table) (f : Frame) (S : Stack) (t : Tok) (at h : ℕ) (es : List Edge) (w : Way) → numbers.past_way G f.number (last_done (G.what f.number f.at) f.done) (key_of t) es ≡ Some w → Reaches G f S t at h w
past_is G f S t at h [] w i = absurd (cc)
past_is G f S t at h (e ∷ es) w i = by (is_operand (G.what f.number e.spot) && allowed e.behind (last_done (G.what f.number f.at) f.done)) (past_is G f S t at h es w) i
  where
    by : (b : Bool) → (numbers.past_way G f.number (last_done (G.what f.number f.at) f.done) (key_of t) es ≡ Some w → Reaches G f S t at h w) → (if b then way_by (Some e.spot) (first_place G f.number e.spot (hole_in (G.what f.number e.spot)) (key_of t)) (numbers.past_way G f.number (last_done (G.what f.number f.at) f.done) (key_of t) es)
        else numbers.past_way G f.number (last_done (G.what f.number f.at) f.done) (key_of t) es) ≡ Some w → Reaches G f S t at h w
    by false go i = go i
    by true go i = by_is (Reaches G f S t at h) (Some e.spot) _ _ w
        (λ some. way_past G f S t at h e.spot _ (ap (λ l. first_place G f.number e.spot l (key_of t)) (last_missing (G.what f.number e.spot) e.spot at f.done)) some)
        go i

-- the way behind one part more that must come
more_is : (G : Table) (f : Frame) (S : Stack) (t : Tok) (at h : ℕ) (e : Edge) → must_of G f ≡ Some e → (v : Option Way) (w : Way) →
    ((u : Way) → v ≡ Some u → Reaches G (missing_at f e.spot at) S t at (h + 1) u) → more_must v ≡ Some w → Reaches G f S t at h w
more_is G f S t at h e is None w go i = absurd (cc)
more_is G f S t at h e is (Some u) w go i =
    let same : way (suc u.musts) u.past u.place ≡ w = cc in
    let r = go u refl in
    subst (Reaches G f S t at h) same (record {
      taken = ap (λ o. on_edge o unreached (λ e. take_way u.musts u.past u.place G (missing_at f e.spot at) S t at (h + 1))) is ∙ r.taken
          ∙ ap (reached (take_at G u.place (past_operand u.past (past_musts u.musts G (missing_at f e.spot at) at) at) S t no_fit)) (omega arith)
          ∙ ap (λ F. reached (take_at G u.place (past_operand u.past F at) S t no_fit) (h + suc u.musts + past_holes u.past)) (sym (past_more is));
      placed = subst (λ F. IsPlaced G (past_operand u.past F at) t u.place) (sym (past_more is)) r.placed;
    })
  where
    past_more : must_of G f ≡ Some e → past_musts (suc u.musts) G f at ≡ past_musts u.musts G (missing_at f e.spot at) at
    past_more is = ap (λ o. on_edge o f (λ e. past_musts u.musts G (missing_at f e.spot at) at)) is

-- a way in one frame leads there
way_course : (fuel : ℕ) (G : Table) (f : Frame) (S : Stack) (t : Tok) (at h : ℕ) (w : Way) → find_way fuel G f.number f.at (last_done (G.what f.number f.at) f.done) (key_of t) ≡ Some w → Reaches G f S t at h w
way_course zero G f S t at h w i = absurd (cc)
way_course (suc fuel) G f S t at h w i =
    by_is (Reaches G f S t at h) None (place_in G f t) _ w (λ some. way_here G f S t at h (place_in G f t) refl some)
    (or_is (Reaches G f S t at h) (numbers.past_way G f.number (last_done (G.what f.number f.at) f.done) (key_of t) (G.next f.number f.at)) _ w
    (past_is G f S t at h (G.next f.number f.at) w) (must (must_of G f) refl (λ e u j. way_course fuel G (missing_at f e.spot at) S t at (h + 1) u (ap (λ l. find_way fuel G f.number e.spot l (key_of t)) (last_missing (G.what f.number e.spot) e.spot at f.done) ∙ j)))) i
  where
    must : (o : Option Edge) → must_of G f ≡ o → ((e : Edge) (u : Way) → find_way fuel G f.number e.spot (hole_in (G.what f.number e.spot)) (key_of t) ≡ Some u → Reaches G (missing_at f e.spot at) S t at (h + 1) u) → on_edge o None (λ e. more_must (find_way fuel G f.number e.spot (hole_in (G.what f.number e.spot)) (key_of t))) ≡ Some w → Reaches G f S t at h w
    must None is go i = absurd (cc)
    must (Some e) is go i = more_is G f S t at h e is _ w (go e) i

-- a token that is taken in a frame when those further in are closed
pub record ReachesOut (G : Table) (f : Frame) (S : Stack) (t : Tok) (at h n : ℕ) (w : Way) : Type 0 where
  pub taken : take_out G (Some (n, w)) f S t at h ≡ reached (take_at G w.place (past_way w G (out n G f S at).0 at) (out n G f S at).1 t no_fit) (h + out_holes n G f S at + w.musts + past_holes w.past)
  pub placed : IsPlaced G (past_way w G (out n G f S at).0 at) t w.place

-- in the innermost frame
out_here : (G : Table) (f : Frame) (S : Stack) (t : Tok) (at h : ℕ) (w : Way) → Reaches G f S t at h w → ReachesOut G f S t at h 0 w
out_here G f S t at h w r = record { taken = r.taken ∙ ap (reached (take_at G w.place (past_way w G f at) S t no_fit)) (omega arith); placed = r.placed }

abbrev count_in : Option (ℕ × Way) → ℕ
count_in None = 0
count_in (Some f) = f.0

abbrev way_in : Way → Option (ℕ × Way) → Way
way_in w None = w
way_in w (Some f) = f.1

-- an outer finding is one here, or one where one frame less is closed
out_is : (P : ℕ → Way → Type 0) (v : Option Way) (other : Option (ℕ × Way)) (n : ℕ) (w : Way) → ((u : Way) → v ≡ Some u → P 0 u) → ((m : ℕ) (u : Way) → other ≡ Some (m, u) → P (suc m) u) → out_by v other ≡ Some (n, w) → P n w
out_is P (Some v) other n w go on i = subst (λ n. P n w) (ap count_in i) (go w (ap (λ v. Some v) (ap (way_in w) i)))
out_is P None None n w go on i = absurd (cc)
out_is P None (Some f) n w go on i = subst (λ n. P n w) (ap count_in i) (on f.0 w (ap (λ u. Some (f.0, u)) (ap (way_in w) i)))

out_course : (G : Table) (t : Tok) (at : ℕ) (S : Stack) (f : Frame) (h n : ℕ) (w : Way) → find_out G f.number f.at (last_done (G.what f.number f.at) f.done) S (key_of t) ≡ Some (n, w) → ReachesOut G f S t at h n w
out_course G t at [] f h n w i = out_is (ReachesOut G f [] t at h) _ None n w (λ u j. out_here G f [] t at h u (way_course most_parts G f [] t at h u j)) (λ m u j. absurd (cc)) i
out_course G t at (g ∷ S) f h n w i =
    out_is (ReachesOut G f (g ∷ S) t at h) _ (find_out G g.number g.at (last_row (G.what g.number g.at) f.number) S (key_of t)) n w
    (λ u j. out_here G f (g ∷ S) t at h u (way_course most_parts G f (g ∷ S) t at h u j))
    (λ m u j. outer m u (out_course G t at S (put (filled most_parts G f at).0 g) (h + (filled most_parts G f at).1) m u
    (ap (λ l. find_out G g.number g.at l S (key_of t)) (last_closed (G.what g.number g.at) (filled most_parts G f at).0 g.done g.at ∙ ap (last_row (G.what g.number g.at)) (filled_row most_parts G f at)) ∙ j))) i
  where
    outer : (m : ℕ) (u : Way) → ReachesOut G (put (filled most_parts G f at).0 g) S t at (h + (filled most_parts G f at).1) m u → ReachesOut G f (g ∷ S) t at h (suc m) u
    outer m u r = record {
      taken = r.taken ∙ ap (reached (take_at G u.place (past_way u G (out m G (put (filled most_parts G f at).0 g) S at).0 at) (out m G (put (filled most_parts G f at).0 g) S at).1 t no_fit))
          (sums h (filled most_parts G f at).1 (out_holes m G (put (filled most_parts G f at).0 g) S at) u.musts (past_holes u.past));
      placed = r.placed;
    }
      where
        sums : (a b c d e : ℕ) → a + b + c + d + e ≡ a + (b + c) + d + e
        sums a b c d e = omega arith

-- a token that is reached, by its course
pub reach_taken : (G : Table) (t : Tok) (at : ℕ) (S : Stack) (f : Frame) (n : ℕ) (w : Way) → find_out G f.number f.at (last_done (G.what f.number f.at) f.done) S (key_of t) ≡ Some (n, w) →
    (reach_out G f S t at 0 ≡ reached (take_at G w.place (past_way w G (out n G f S at).0 at) (out n G f S at).1 t no_fit) (out_holes n G f S at + w.musts + past_holes w.past))
    × IsPlaced G (past_way w G (out n G f S at).0 at) t w.place
reach_taken G t at S f n w h =
    let c = out_course G t at S f 0 n w h in (
      reaches_by G t at S f 0 ∙ ap (λ x. take_out G x f S t at 0) h ∙ c.taken
          ∙ ap (reached (take_at G w.place (past_way w G (out n G f S at).0 at) (out n G f S at).1 t no_fit)) (omega arith),
      c.placed,
    )

-- a token that no frame takes isn't reached
pub reach_not : (G : Table) (t : Tok) (at : ℕ) (S : Stack) (f : Frame) → find_out G f.number f.at (last_done (G.what f.number f.at) f.done) S (key_of t) ≡ None → reach_out G f S t at 0 ≡ unreached
reach_not G t at S f h = reaches_by G t at S f 0 ∙ ap (λ x. take_out G x f S t at 0) h
