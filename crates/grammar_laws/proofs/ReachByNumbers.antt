-- Where a token that doesn't fit is reached is told by the frames' numbers, spots and newest operands alone.
use Rattle.std.proofs.Common.{◌≡◌, ℕ, zero, suc, ◌+◌, Bool, true, false, ◌&&◌, List, [], ◌∷◌, Option, Some, None, refl, sym, ◌∙◌, ap, subst, if◌then◌else◌}
use Rattle.token_model.specs.Kinds.{Tok}
use Rattle.grammar_model.specs.Keys.{key_of}
use Rattle.grammar_model.specs.Trees.{Part, missing}
use Rattle.grammar_model.specs.Tables.{Table, What, nothing, token, operand, Edge, allowed, Place, nowhere, growth, at_spot, first_place}
use Rattle.grammar_model.specs.Machine.{Frame, Stack, put, last_done, Fit, no_fit, take_at, place_in}
use Rattle.recovery_model.specs.Steps.{is_operand, missing_at, must_of, Reach, unreached, reached, at_frame, past_operand, or_reach, on_edge, reach_in, one_more, filled, most_parts, reach_out}
use Rattle.recovery_model.specs.Numbers.{last_row, Way, hole_in, way_by, past_way, or_way, more_must, find_way, out_by, find_out}
use Rattle.grammar_laws.proofs.ByNumbers.{last_closed}

-- the token taken in a frame by a way
abbrev pub take_way : ℕ → Option ℕ → Place → Table → Frame → Stack → Tok → ℕ → ℕ → Reach
take_way (suc n) o p G f S t place h = on_edge (must_of G f) unreached (λ e. take_way n o p G (missing_at f e.spot place) S t place (h + 1))
take_way zero None p G f S t place h = at_frame G p f S t h unreached
take_way zero (Some s) p G f S t place h = at_frame G p (missing_at f s place) S t (h + 1) unreached

abbrev taken_by : Table → Frame → Stack → Tok → ℕ → ℕ → Way → Reach
taken_by G f S t place h w = take_way w.musts w.past w.place G f S t place h

-- the token taken where frames are closed first
abbrev pub take_out : Table → Option (ℕ × Way) → Frame → Stack → Tok → ℕ → ℕ → Reach
take_out G None f S t place h = unreached
take_out G (Some (zero, w)) f S t place h = taken_by G f S t place h w
take_out G (Some (suc n, w)) f [] t place h = unreached
take_out G (Some (suc n, w)) f (g ∷ S) t place h = take_out G (Some (n, w)) (put (filled most_parts G f place).0 g) S t place (h + (filled most_parts G f place).1)

-- a way is found exactly where the token is reached, and leads there
abbrev Agrees : Reach → Option Way → (Way → Reach) → Type 0
Agrees R None T = R ≡ unreached
Agrees R (Some w) T = (x : Fit) × (n : ℕ) × (R ≡ reached x n) × (T w ≡ reached x n)

-- the first place of a frame
at_agrees : (G : Table) (f F : Frame) (S : Stack) (t : Tok) (place h n : ℕ) (o : Option ℕ) → ((q : Place) → take_way zero o q G f S t place h ≡ at_frame G q F S t n unreached) →
    (q : Place) (R : Reach) (w : Option Way) → Agrees R w (taken_by G f S t place h) → Agrees (at_frame G q F S t n R) (way_by o q w) (taken_by G f S t place h)
at_agrees G f F S t place h n o same nowhere R w a = a
at_agrees G f F S t place h n o same growth R w a = (take_at G growth F S t no_fit, n, refl, same growth)
at_agrees G f F S t place h n o same (at_spot p) R w a = (take_at G (at_spot p) F S t no_fit, n, refl, same (at_spot p))

-- the first of two ways
or_agrees : (R Q : Reach) (v w : Option Way) (T : Way → Reach) → Agrees R v T → Agrees Q w T → Agrees (or_reach R Q) (or_way v w) T
or_agrees R Q None w T a b = subst (λ R. Agrees (or_reach R Q) w T) (sym a) b
or_agrees R Q (Some v) w T (x, n, e, i) b = (x, n, ap (λ R. or_reach R Q) e, i)

-- what a missing part is as the last one
last_missing : (w : What) (p place : ℕ) (ds : List (ℕ × Part)) → last_done w ((p, missing place) ∷ ds) ≡ hole_in w
last_missing nothing p place ds = refl
last_missing (token ks) p place ds = refl
last_missing (operand s n) p place ds = refl

-- the ways past an operand
past_agrees : (G : Table) (f : Frame) (S : Stack) (t : Tok) (place h : ℕ) (es : List Edge) →
    Agrees (past_operand G f S t place h es) (past_way G f.number (last_done (G.what f.number f.at) f.done) (key_of t) es) (taken_by G f S t place h)
past_agrees G f S t place h [] = refl
past_agrees G f S t place h (e ∷ es) = by (is_operand (G.what f.number e.spot) && allowed e.behind (last_done (G.what f.number f.at) f.done)) (past_agrees G f S t place h es)
  where
    by : (b : Bool) → Agrees (past_operand G f S t place h es) (past_way G f.number (last_done (G.what f.number f.at) f.done) (key_of t) es) (taken_by G f S t place h) →
        Agrees (if b then at_frame G (place_in G (missing_at f e.spot place) t) (missing_at f e.spot place) S t (h + 1) (past_operand G f S t place h es) else past_operand G f S t place h es)
        (if b then way_by (Some e.spot) (first_place G f.number e.spot (hole_in (G.what f.number e.spot)) (key_of t)) (past_way G f.number (last_done (G.what f.number f.at) f.done) (key_of t) es)
        else past_way G f.number (last_done (G.what f.number f.at) f.done) (key_of t) es)
        (taken_by G f S t place h)
    by false a = a
    by true a =
        subst (λ l. Agrees (at_frame G (place_in G (missing_at f e.spot place) t) (missing_at f e.spot place) S t (h + 1) (past_operand G f S t place h es))
        (way_by (Some e.spot) (first_place G f.number e.spot l (key_of t)) (past_way G f.number (last_done (G.what f.number f.at) f.done) (key_of t) es)) (taken_by G f S t place h))
        (last_missing (G.what f.number e.spot) e.spot place f.done)
        (at_agrees G f (missing_at f e.spot place) S t place h (h + 1) (Some e.spot) (λ q. refl) (place_in G (missing_at f e.spot place) t) (past_operand G f S t place h es)
        (past_way G f.number (last_done (G.what f.number f.at) f.done) (key_of t) es) a)

-- a way behind one part more that is missing
more_agrees : (G : Table) (f : Frame) (S : Stack) (t : Tok) (place h : ℕ) (e : Edge) → must_of G f ≡ Some e → (R : Reach) (w : Option Way) →
    Agrees R w (taken_by G (missing_at f e.spot place) S t place (h + 1)) → Agrees R (more_must w) (taken_by G f S t place h)
more_agrees G f S t place h e is R None a = a
more_agrees G f S t place h e is R (Some w) (x, n, i, j) =
    (x, n, i, ap (λ o. on_edge o unreached (λ e. take_way w.musts w.past w.place G (missing_at f e.spot place) S t place (h + 1))) is ∙ j)

-- the ways in one frame
in_agrees : (fuel : ℕ) (G : Table) (f : Frame) (S : Stack) (t : Tok) (place h : ℕ) →
    Agrees (reach_in fuel G f S t place h) (find_way fuel G f.number f.at (last_done (G.what f.number f.at) f.done) (key_of t)) (taken_by G f S t place h)
in_agrees zero G f S t place h = refl
in_agrees (suc fuel) G f S t place h =
    at_agrees G f f S t place h h None (λ q. refl) (place_in G f t) _ _
    (or_agrees (past_operand G f S t place h (G.next f.number f.at)) _ (past_way G f.number (last_done (G.what f.number f.at) f.done) (key_of t) (G.next f.number f.at)) _ (taken_by G f S t place h)
    (past_agrees G f S t place h (G.next f.number f.at)) (by (must_of G f) refl (λ e. in_agrees fuel G (missing_at f e.spot place) S t place (h + 1))))
  where
    by : (o : Option Edge) → must_of G f ≡ o →
        ((e : Edge) → Agrees (reach_in fuel G (missing_at f e.spot place) S t place (h + 1))
        (find_way fuel G f.number e.spot (last_done (G.what f.number e.spot) ((e.spot, missing place) ∷ f.done)) (key_of t)) (taken_by G (missing_at f e.spot place) S t place (h + 1))) →
        Agrees (on_edge o unreached (λ e. reach_in fuel G (missing_at f e.spot place) S t place (h + 1)))
        (on_edge o None (λ e. more_must (find_way fuel G f.number e.spot (hole_in (G.what f.number e.spot)) (key_of t)))) (taken_by G f S t place h)
    by None is ih = refl
    by (Some e) is ih =
        more_agrees G f S t place h e is (reach_in fuel G (missing_at f e.spot place) S t place (h + 1)) (find_way fuel G f.number e.spot (hole_in (G.what f.number e.spot)) (key_of t))
        (subst (λ l. Agrees (reach_in fuel G (missing_at f e.spot place) S t place (h + 1)) (find_way fuel G f.number e.spot l (key_of t)) (taken_by G (missing_at f e.spot place) S t place (h + 1)))
        (last_missing (G.what f.number e.spot) e.spot place f.done) (ih e))

-- a frame with its missing parts keeps its row
filled_number : (fuel : ℕ) (G : Table) (f : Frame) (place : ℕ) → (filled fuel G f place).0.number ≡ f.number
filled_number zero G f place = refl
filled_number (suc fuel) G f place = by (must_of G f) (λ e. filled_number fuel G (missing_at f e.spot place) place)
  where
    by : (o : Option Edge) → ((e : Edge) → (filled fuel G (missing_at f e.spot place) place).0.number ≡ f.number) →
        (on_edge o (f, 0) (λ e. one_more (filled fuel G (missing_at f e.spot place) place))).0.number ≡ f.number
    by None ih = refl
    by (Some e) ih = ih e

-- the token is reached as the numbers tell
pub reaches_by : (G : Table) (t : Tok) (place : ℕ) (S : Stack) (f : Frame) (h : ℕ) →
    reach_out G f S t place h ≡ take_out G (find_out G f.number f.at (last_done (G.what f.number f.at) f.done) S (key_of t)) f S t place h
reaches_by G t place [] f h = by (reach_in most_parts G f [] t place h) (find_way most_parts G f.number f.at (last_done (G.what f.number f.at) f.done) (key_of t)) (in_agrees most_parts G f [] t place h)
  where
    by : (R : Reach) (w : Option Way) → Agrees R w (taken_by G f [] t place h) → R ≡ take_out G (out_by w None) f [] t place h
    by R None a = a
    by R (Some w) (x, n, i, j) = i ∙ sym j
reaches_by G t place (g ∷ S) f h =
    by (reach_in most_parts G f (g ∷ S) t place h) (find_way most_parts G f.number f.at (last_done (G.what f.number f.at) f.done) (key_of t)) (in_agrees most_parts G f (g ∷ S) t place h)
    (find_out G g.number g.at (last_row (G.what g.number g.at) f.number) S (key_of t))
    (reaches_by G t place S (put F g) (h + (filled most_parts G f place).1) ∙
    ap (λ l. take_out G (find_out G g.number g.at l S (key_of t)) (put F g) S t place (h + (filled most_parts G f place).1))
    (last_closed (G.what g.number g.at) F g.done g.at ∙ ap (last_row (G.what g.number g.at)) (filled_number most_parts G f place)))
  where
    F : Frame
    F = (filled most_parts G f place).0

    by : (R : Reach) (w : Option Way) → Agrees R w (taken_by G f (g ∷ S) t place h) → (o : Option (ℕ × Way)) →
        reach_out G (put F g) S t place (h + (filled most_parts G f place).1) ≡ take_out G o (put F g) S t place (h + (filled most_parts G f place).1) →
        or_reach R (reach_out G (put F g) S t place (h + (filled most_parts G f place).1)) ≡ take_out G (out_by w o) f (g ∷ S) t place h
    by R (Some w) (x, n, i, j) o ih = ap (λ R. or_reach R (reach_out G (put F g) S t place (h + (filled most_parts G f place).1))) i ∙ sym j
    by R None a None ih = ap (λ R. or_reach R (reach_out G (put F g) S t place (h + (filled most_parts G f place).1))) a ∙ ih
    by R None a (Some p) ih = ap (λ R. or_reach R (reach_out G (put F g) S t place (h + (filled most_parts G f place).1))) a ∙ ih
