-- What a step leaves of the outermost frame: its row and its nodes, on which others may be put.
use Rattle.std.proofs.Common.{◌≡◌, ℕ, zero, suc, ◌+◌, Bool, true, false, ◌&&◌, nat_eq, nat_le, List, [], ◌∷◌, ◌++◌, length, Option, Some, None, refl, sym, ◌∙◌, ap, subst, append_assoc, if◌then◌else◌}
use Rattle.token_model.specs.Kinds.{Tok}
use Rattle.grammar_model.specs.Keys.{key_of}
use Rattle.grammar_model.specs.Trees.{Tree, Part, part_height}
use Rattle.grammar_model.specs.Tables.{Table, What, nothing, token, operand, Edge, allowed, Place, nowhere, growth, at_spot}
use Rattle.grammar_model.specs.Machine.{Frame, frame, Stack, node_of, put, last_done, first_of, opened, start_in, start_at, Fit, no_fit, deep, fit, within, grower_in, grown, take_at, place_in, fits_at, fits}
use Rattle.recovery_model.specs.Steps.{is_operand, missing_at, must_of, Reach, unreached, reached, at_frame, past_operand, or_reach, on_edge, reach_in, one_more, filled, most_parts, reach_out, reach_from, after_reach, after_fit, step, closed_up}
use Rattle.recovery_model.specs.Items.{item_row, closed_out, more_holes, closed_item}
use Rattle.settled_laws.specs.Settled.{inners, outer}

-- the outermost frame has the same row, and on its nodes others may have been put
pub record Keeps (S U : Stack) : Type 0 where
  pub number : (outer U).number ≡ (outer S).number
  pub more : List Tree
  pub items : inners (outer U).done ≡ more ++ inners (outer S).done

-- no token grows a part of this row
abbrev pub Still : Table → ℕ → Type 0
Still G r = (at k : ℕ) → grower_in G (G.what r at) k ≡ None

pub keeps_same : (S : Stack) → Keeps S S
keeps_same S = record { number = refl; more = []; items = refl }

pub keeps_on : (S T U : Stack) → Keeps S T → Keeps T U → Keeps S U
keeps_on S T U a b = record {
  number = b.number ∙ a.number;
  more = b.more ++ a.more;
  items = b.items ∙ ap (λ x. b.more ++ x) a.items ∙ sym (append_assoc b.more a.more (inners (outer S).done));
}

-- the rows stay, so what holds of one holds of the other
pub still_on : (G : Table) (S U : Stack) → Keeps S U → Still G (outer S).number → Still G (outer U).number
still_on G S U k still = subst (Still G) (sym k.number) still

keeps_put : (F g : Frame) (S : Stack) → Keeps (g ∷ S) (put F g ∷ S)
keeps_put F g [] = record { number = refl; more = node_of F ∷ []; items = refl }
keeps_put F g (h ∷ S) = record { number = refl; more = []; items = refl }

-- a frame is closed
keeps_closed : (f F g : Frame) (S : Stack) → Keeps (f ∷ g ∷ S) (put F g ∷ S)
keeps_closed f F g S = let k = keeps_put F g S in record { number = k.number; more = k.more; items = k.items }

-- the frame at another spot
keeps_spot : (f : Frame) (p : ℕ) (S : Stack) → Keeps (f ∷ S) (frame f.number p f.done ∷ S)
keeps_spot f p [] = record { number = refl; more = []; items = refl }
keeps_spot f p (g ∷ S) = record { number = refl; more = []; items = refl }

keeps_missing : (f : Frame) (p place : ℕ) (S : Stack) → Keeps (f ∷ S) (missing_at f p place ∷ S)
keeps_missing f p place [] = record { number = refl; more = []; items = refl }
keeps_missing f p place (g ∷ S) = record { number = refl; more = []; items = refl }

keeps_opened : (G : Table) (rs : List ℕ) (t : Tok) (h : Frame) (S : Stack) → Keeps (h ∷ S) (opened G rs t (h ∷ S))
keeps_opened G [] t h S = keeps_same (h ∷ S)
keeps_opened G (r ∷ []) t h S = record { number = refl; more = []; items = refl }
keeps_opened G (r ∷ q ∷ rs) t h S =
    let F = frame r (first_of G r) [] in
    keeps_on (h ∷ S) (F ∷ h ∷ S) (opened G (q ∷ rs) t (F ∷ h ∷ S)) (record { number = refl; more = []; items = refl }) (keeps_opened G (q ∷ rs) t F (h ∷ S))

keeps_start : (G : Table) (w : What) (f : Frame) (p : ℕ) (t : Tok) (S : Stack) → Keeps (f ∷ S) (start_in G w f p t S)
keeps_start G nothing f p t S = keeps_same (f ∷ S)
keeps_start G (token ks) f p t [] = record { number = refl; more = []; items = refl }
keeps_start G (token ks) f p t (g ∷ S) = record { number = refl; more = []; items = refl }
keeps_start G (operand s n) f p t S =
    let F = frame f.number p f.done in
    keeps_on (f ∷ S) (F ∷ S) (opened G (G.chain s (key_of t)) t (F ∷ S)) (keeps_spot f p S) (keeps_opened G (G.chain s (key_of t)) t F S)

-- where a token fits, the frames are kept
abbrev pub FitKeeps : Stack → Fit → Type 0
FitKeeps S no_fit = Unit {0}
FitKeeps S deep = Unit {0}
FitKeeps S (fit U) = Keeps S U

fit_on : (S T : Stack) → Keeps S T → (x : Fit) → FitKeeps T x → FitKeeps S x
fit_on S T k no_fit h = tt
fit_on S T k deep h = tt
fit_on S T k (fit U) h = keeps_on S T U k h

fit_within : (n : ℕ) (S U : Stack) → Keeps S U → FitKeeps S (within n U)
fit_within n S U k = by (nat_le n 512) (nat_le (length U) 512)
  where
    by : (a b : Bool) → FitKeeps S (if a then (if b then fit U else deep) else deep)
    by true true = k
    by true false = tt
    by false b = tt

-- a growth takes a part of a frame that isn't the outermost
fit_grown : (G : Table) (f : Frame) (t : Tok) (S : Stack) → Still G (outer (f ∷ S)).number → FitKeeps (f ∷ S) (grown G (grower_in G (G.what f.number f.at) (key_of t)) f f.done t S)
fit_grown G f t [] still = subst (λ o. FitKeeps (f ∷ []) (grown G o f f.done t [])) (sym (still f.at (key_of t))) tt
fit_grown G f t (h ∷ S) still = by (grower_in G (G.what f.number f.at) (key_of t)) f.done
  where
    by : (o : Option ℕ) (ds : List (ℕ × Part)) → FitKeeps (f ∷ h ∷ S) (grown G o f ds t (h ∷ S))
    by None ds = tt
    by (Some g) [] = tt
    by (Some g) (d ∷ ds) =
        let F = frame g 0 ((0, d.1) ∷ []) in
        let B = frame f.number f.at ds in
        fit_within (length (h ∷ S) + 2 + part_height d.1) (f ∷ h ∷ S) (start_at G F (first_of G g) t (B ∷ h ∷ S))
        (keeps_on (f ∷ h ∷ S) (F ∷ B ∷ h ∷ S) (start_at G F (first_of G g) t (B ∷ h ∷ S)) (record { number = refl; more = []; items = refl })
        (keeps_start G (G.what g (first_of G g)) F (first_of G g) t (B ∷ h ∷ S)))

fit_take : (G : Table) (B : Stack) (place : Place) (f : Frame) (S : Stack) (t : Tok) (other : Fit) → Still G (outer (f ∷ S)).number → Keeps B (f ∷ S) → FitKeeps B other → FitKeeps B (take_at G place f S t other)
fit_take G B nowhere f S t other still k h = h
fit_take G B growth f S t other still k h = fit_on B (f ∷ S) k (grown G (grower_in G (G.what f.number f.at) (key_of t)) f f.done t S) (fit_grown G f t S still)
fit_take G B (at_spot p) f S t other still k h =
    fit_within 0 B (start_at G f p t S) (keeps_on B (f ∷ S) (start_at G f p t S) k (keeps_start G (G.what f.number p) f p t S))

fit_fits : (G : Table) (t : Tok) (S : Stack) (f : Frame) → Still G (outer (f ∷ S)).number → FitKeeps (f ∷ S) (fits_at G f S t)
fit_fits G t [] f still = fit_take G (f ∷ []) (place_in G f t) f [] t no_fit still (keeps_same (f ∷ [])) tt
fit_fits G t (g ∷ S) f still =
    fit_take G (f ∷ g ∷ S) (place_in G f t) f (g ∷ S) t (if G.ends f.number f.at then fits_at G (put f g) S t else no_fit) still (keeps_same (f ∷ g ∷ S))
    (by (G.ends f.number f.at) (fit_on (f ∷ g ∷ S) (put f g ∷ S) (keeps_closed f f g S) (fits_at G (put f g) S t) (fit_fits G t S (put f g) (still_on G (f ∷ g ∷ S) (put f g ∷ S) (keeps_closed f f g S) still))))
  where
    by : (b : Bool) → FitKeeps (f ∷ g ∷ S) (fits_at G (put f g) S t) → FitKeeps (f ∷ g ∷ S) (if b then fits_at G (put f g) S t else no_fit)
    by true h = h
    by false h = tt

-- where a token is reached, the frames are kept
abbrev pub ReachKeeps : Stack → Reach → Type 0
ReachKeeps S unreached = Unit {0}
ReachKeeps S (reached x n) = FitKeeps S x

reach_on : (S T : Stack) → Keeps S T → (x : Reach) → ReachKeeps T x → ReachKeeps S x
reach_on S T k unreached h = tt
reach_on S T k (reached x n) h = fit_on S T k x h

reach_or : (S : Stack) (a b : Reach) → ReachKeeps S a → ReachKeeps S b → ReachKeeps S (or_reach a b)
reach_or S unreached b h i = i
reach_or S (reached x n) b h i = h

reach_at : (G : Table) (B : Stack) (place : Place) (f : Frame) (S : Stack) (t : Tok) (h : ℕ) (other : Reach) → Still G (outer (f ∷ S)).number → Keeps B (f ∷ S) → ReachKeeps B other → ReachKeeps B (at_frame G place f S t h other)
reach_at G B nowhere f S t h other still k o = o
reach_at G B growth f S t h other still k o = fit_take G B growth f S t no_fit still k tt
reach_at G B (at_spot p) f S t h other still k o = fit_take G B (at_spot p) f S t no_fit still k tt

reach_past : (G : Table) (f : Frame) (S : Stack) (t : Tok) (place h : ℕ) (es : List Edge) → Still G (outer (f ∷ S)).number → ReachKeeps (f ∷ S) (past_operand G f S t place h es)
reach_past G f S t place h [] still = tt
reach_past G f S t place h (e ∷ es) still = by (is_operand (G.what f.number e.spot) && allowed e.behind (last_done (G.what f.number f.at) f.done)) (reach_past G f S t place h es still)
  where
    by : (b : Bool) → ReachKeeps (f ∷ S) (past_operand G f S t place h es) → ReachKeeps (f ∷ S) (if b then at_frame G (place_in G (missing_at f e.spot place) t) (missing_at f e.spot place) S t (h + 1) (past_operand G f S t place h es) else past_operand G f S t place h es)
    by true rest =
        let F = missing_at f e.spot place in
        let k = keeps_missing f e.spot place S in
        reach_at G (f ∷ S) (place_in G F t) F S t (h + 1) (past_operand G f S t place h es) (still_on G (f ∷ S) (F ∷ S) k still) k rest
    by false rest = rest

reach_here : (fuel : ℕ) (G : Table) (f : Frame) (S : Stack) (t : Tok) (place h : ℕ) → Still G (outer (f ∷ S)).number → ReachKeeps (f ∷ S) (reach_in fuel G f S t place h)
reach_here zero G f S t place h still = tt
reach_here (suc fuel) G f S t place h still =
    let rest = on_edge (must_of G f) unreached (λ e. reach_in fuel G (missing_at f e.spot place) S t place (h + 1)) in
    reach_at G (f ∷ S) (place_in G f t) f S t h (or_reach (past_operand G f S t place h (G.next f.number f.at)) rest) still (keeps_same (f ∷ S))
    (reach_or (f ∷ S) (past_operand G f S t place h (G.next f.number f.at)) rest (reach_past G f S t place h (G.next f.number f.at) still) (by (must_of G f) (λ F k. reach_here fuel G F S t place (h + 1) (still_on G (f ∷ S) (F ∷ S) k still))))
  where
    by : (o : Option Edge) → ((F : Frame) → Keeps (f ∷ S) (F ∷ S) → ReachKeeps (F ∷ S) (reach_in fuel G F S t place (h + 1))) → ReachKeeps (f ∷ S) (on_edge o unreached (λ e. reach_in fuel G (missing_at f e.spot place) S t place (h + 1)))
    by None go = tt
    by (Some e) go =
        let F = missing_at f e.spot place in
        let k = keeps_missing f e.spot place S in
        reach_on (f ∷ S) (F ∷ S) k (reach_in fuel G F S t place (h + 1)) (go F k)

reach_further : (G : Table) (t : Tok) (place : ℕ) (S : Stack) (f : Frame) (h : ℕ) → Still G (outer (f ∷ S)).number → ReachKeeps (f ∷ S) (reach_out G f S t place h)
reach_further G t place [] f h still = reach_here most_parts G f [] t place h still
reach_further G t place (g ∷ S) f h still =
    let r = filled most_parts G f place in
    let k = keeps_closed f r.0 g S in
    reach_or (f ∷ g ∷ S) (reach_in most_parts G f (g ∷ S) t place h) (reach_out G (put r.0 g) S t place (h + r.1)) (reach_here most_parts G f (g ∷ S) t place h still)
    (reach_on (f ∷ g ∷ S) (put r.0 g ∷ S) k (reach_out G (put r.0 g) S t place (h + r.1)) (reach_further G t place S (put r.0 g) (h + r.1) (still_on G (f ∷ g ∷ S) (put r.0 g ∷ S) k still)))

-- a token's step
pub keeps_step : (G : Table) (S : Stack) (place : ℕ) (t : Tok) → Still G (outer S).number → Keeps S (step G S place t).stack
unfolding step
keeps_step G S place t still = by (fits G S t) (fitted S still)
  where
    fitted : (S : Stack) → Still G (outer S).number → FitKeeps S (fits G S t)
    fitted [] still = tt
    fitted (f ∷ S) still = fit_fits G t S f still

    from : (S : Stack) → Still G (outer S).number → ReachKeeps S (reach_from G S t place)
    from [] still = tt
    from (f ∷ S) still = reach_further G t place S f 0 still

    out : (r : Reach) → ReachKeeps S r → Keeps S (after_reach S place t r).stack
    out unreached h = keeps_same S
    out (reached no_fit n) h = keeps_same S
    out (reached deep n) h = keeps_same S
    out (reached (fit U) n) h = h

    by : (x : Fit) → FitKeeps S x → Keeps S (after_fit G S place t x).stack
    by no_fit h = out (reach_from G S t place) (from S still)
    by deep h = keeps_same S
    by (fit U) h = h

-- an item is closed
keeps_out : (G : Table) (place : ℕ) (S : Stack) (f : Frame) → Keeps (f ∷ S) (closed_out G f S place).0
keeps_out G place [] f = keeps_same (f ∷ [])
keeps_out G place (g ∷ S) f = by (nat_eq f.number item_row) (keeps_out G place S (put (filled most_parts G f place).0 g))
  where
    by : (b : Bool) → Keeps (put (filled most_parts G f place).0 g ∷ S) (closed_out G (put (filled most_parts G f place).0 g) S place).0 → Keeps (f ∷ g ∷ S) (if b then (put (filled most_parts G f place).0 g ∷ S, (filled most_parts G f place).1) else more_holes (filled most_parts G f place).1 (closed_out G (put (filled most_parts G f place).0 g) S place)).0
    by true k = keeps_closed f (filled most_parts G f place).0 g S
    by false k =
        let F = put (filled most_parts G f place).0 g in
        keeps_on (f ∷ g ∷ S) (F ∷ S) (closed_out G F S place).0 (keeps_closed f (filled most_parts G f place).0 g S) k

pub keeps_item : (G : Table) (S : Stack) (place : ℕ) → Keeps S (closed_item G S place).0
keeps_item G [] place = keeps_same []
keeps_item G (f ∷ S) place = keeps_out G place S f

keeps_filled : (n : ℕ) (G : Table) (f : Frame) (place : ℕ) → Keeps (f ∷ []) ((filled n G f place).0 ∷ [])
keeps_filled zero G f place = keeps_same (f ∷ [])
keeps_filled (suc n) G f place = by (must_of G f) (λ F. keeps_filled n G F place)
  where
    by : (o : Option Edge) → ((F : Frame) → Keeps (F ∷ []) ((filled n G F place).0 ∷ [])) → Keeps (f ∷ []) ((on_edge o (f, 0) (λ e. one_more (filled n G (missing_at f e.spot place) place))).0 ∷ [])
    by None go = keeps_same (f ∷ [])
    by (Some e) go =
        let F = missing_at f e.spot place in
        keeps_on (f ∷ []) (F ∷ []) ((filled n G F place).0 ∷ []) (keeps_missing f e.spot place []) (go F)

-- all frames are closed into this one
pub record Closes (G : Table) (f : Frame) (S : Stack) (place : ℕ) : Type 0 where
  pub last : Frame
  pub is : (closed_up G f S place).0 ≡ node_of last
  pub keeps : Keeps (f ∷ S) (last ∷ [])

pub closes : (G : Table) (place : ℕ) (S : Stack) (f : Frame) → Closes G f S place
closes G place [] f = record { last = (filled most_parts G f place).0; is = refl; keeps = keeps_filled most_parts G f place }
closes G place (g ∷ S) f =
    let F = (filled most_parts G f place).0 in
    let c = closes G place S (put F g) in
    record { last = c.last; is = c.is; keeps = keeps_on (f ∷ g ∷ S) (put F g ∷ S) (c.last ∷ []) (keeps_closed f F g S) c.keeps }
