-- Where the outermost item `let` that is open starts, through the steps of the parser.
use Rattle.std.proofs.Common.{◌≡◌, ℕ, zero, suc, ◌+◌, Bool, true, false, ◌&&◌, nat_eq, nat_le, List, [], ◌∷◌, ◌++◌, length, Option, Some, None, refl, sym, ◌∙◌, ap, subst, ◌⊎◌, inl, inr, append-nil, if◌then◌else◌}
use Rattle.std.proofs.lemmas.Bool.{eqb-true}
use Rattle.token_model.specs.Kinds.{Tok}
use Rattle.grammar_model.specs.Keys.{key_of}
use Rattle.grammar_model.specs.Trees.{Part, taken, inner, missing, yield_of, part_yield, part_height}
use Rattle.grammar_model.specs.Tables.{Table, What, nothing, token, operand, Edge, plain, grows, grows_by, allowed, Place, nowhere, growth, at_spot}
use Rattle.grammar_model.specs.Grammar.{last_in}
use Rattle.grammar_model.specs.Machine.{Frame, frame, Stack, node_of, put, last_done, first_of, opened, start_in, start_at, Fit, no_fit, deep, fit, within, grower_in, grown, take_at, place_in, fits_at, fits}
use Rattle.recovery_model.specs.Steps.{is_operand, missing_at, must_of, Reach, unreached, reached, at_frame, past_operand, or_reach, on_edge, reach_in, filled, most_parts, reach_out, reach_from, after_reach, after_fit, step}
use Rattle.recovery_model.specs.Items.{item_row, item_spot, has_item, begins_item, closed_out, more_holes, closed_item}
use Rattle.grammar_laws.proofs.Laws.{Found}
use Rattle.grammar_laws.proofs.Sound.{place_grows}
use Rattle.grammar_laws.proofs.Counted.{rev_yield, moved_put, grower_operand}
use Rattle.work_model.specs.Work.{start_of, open_start}

-- what is known of the item's row: it begins with a token, and no operand is on its left
pub record IsItemRow (G : Table) : Type 0 where
  pub first : first_of G item_row ≡ item_spot
  pub token : (s n : ℕ) → G.what item_row (first_of G item_row) ≡ operand s n → ⊥
  pub left : G.has_left item_row ≡ false

-- the part is a token that starts here
abbrev IsTaken : ℕ → Part → Type 0
IsTaken n (taken t) = n ≡ t.start
IsTaken n (inner T) = ⊥
IsTaken n (missing place) = ⊥

-- the oldest of parts is one
abbrev StartsAt : ℕ → List (ℕ × Part) → Type 0
StartsAt n [] = ⊥
StartsAt n (d ∷ []) = IsTaken n d.1
StartsAt n (d ∷ e ∷ ds) = StartsAt n (e ∷ ds)

-- one part more changes nothing
starts_more : (n : ℕ) (d : ℕ × Part) (ds : List (ℕ × Part)) → StartsAt n ds → StartsAt n (d ∷ ds)
starts_more n d [] h = absurd h
starts_more n d (e ∷ ds) h = h

start_on : (n : ℕ) (xs ys : List Tok) → start_of xs ≡ Some n → start_of (xs ++ ys) ≡ Some n
start_on n [] ys h = absurd (cc)
start_on n (x ∷ xs) ys h = h

starts_first : (n : ℕ) (ds : List (ℕ × Part)) → StartsAt n ds → start_of (rev_yield ds) ≡ Some n
starts_first n [] h = absurd h
starts_first n (d ∷ []) h = by d.1 h
  where
    by : (c : Part) → IsTaken n c → start_of (part_yield c) ≡ Some n
    by (taken t) h = ap Some (sym h)
    by (inner T) h = absurd h
    by (missing place) h = absurd h
starts_first n (d ∷ e ∷ ds) h = start_on n (rev_yield (e ∷ ds)) (part_yield d.1) (starts_first n (e ∷ ds) h)

-- so the frame starts there
frame_starts : (n : ℕ) (f : Frame) → StartsAt n f.done → start_of (yield_of (node_of f)) ≡ Some n
frame_starts n f h = ap start_of ((moved_put f (frame 0 0 []) []).yields ∙ append-nil (rev_yield f.done)) ∙ starts_first n f.done h

-- a frame of an item has its first token
abbrev Begun : Frame → Type 0
Begun f = nat_eq f.number item_row ≡ true → (n : ℕ) × StartsAt n f.done

abbrev pub AllBegun : Stack → Type 0
AllBegun [] = Unit {0}
AllBegun (f ∷ S) = Begun f × AllBegun S

-- an open item has a start
pub opens : (S : Stack) → AllBegun S → has_item S ≡ true → (n : ℕ) × (open_start S ≡ Some n)
opens [] b h = absurd (cc)
opens (f ∷ S) b h = by (has_item S) refl (nat_eq f.number item_row) refl h (opens S b.1)
  where
    by : (c : Bool) → has_item S ≡ c → (i : Bool) → nat_eq f.number item_row ≡ i → (if i then true else c) ≡ true → (has_item S ≡ true → (n : ℕ) × (open_start S ≡ Some n))
        → (n : ℕ) × ((if c then open_start S else (if i then start_of (yield_of (node_of f)) else None)) ≡ Some n)
    by true has i is h further = further has
    by false has true is h further = let (n, s) = b.0 is in (n, frame_starts n f s)
    by false has false is h further = absurd (cc)

-- frames that come of others without a token: an item that is open then was open, and starts where it did
pub record Moves (S U : Stack) : Type 0 where
  pub begun : AllBegun U
  pub start : has_item U ≡ true → (has_item S ≡ true) × (open_start U ≡ open_start S)

-- and with a token: or the token begins it
pub record Takes (S : Stack) (t : Tok) (U : Stack) : Type 0 where
  pub begun : AllBegun U
  pub start : has_item U ≡ true → ((has_item S ≡ true) × (open_start U ≡ open_start S)) ⊎ ((begins_item U ≡ true) × (open_start U ≡ Some t.start))

pub moves_none : (S : Stack) → AllBegun S → Moves S S
moves_none S b = record { begun = b; start = λ h. (h, refl) }

moves_on : (S T U : Stack) → Moves S T → Moves T U → Moves S U
moves_on S T U a b = record {
  begun = b.begun;
  start = λ h. let (there, same) = b.start h in let (here, so) = a.start there in (here, same ∙ so);
}

takes_moved : (S U : Stack) (t : Tok) → Moves S U → Takes S t U
takes_moved S U t m = record { begun = m.begun; start = λ h. inl (m.start h) }

pub takes_on : (S T U : Stack) (t : Tok) → Moves S T → Takes T t U → Takes S t U
takes_on S T U t a b = record {
  begun = b.begun;
  start = λ h. elim (b.start h) [ inl x ↦ let (here, so) = a.start x.0 in inl (here, x.1 ∙ so) | inr y ↦ inr y ];
}

-- the innermost frame goes on with its first part
moves_top : (r at p : ℕ) (ds es : List (ℕ × Part)) (S : Stack) → ((n : ℕ) → StartsAt n ds → StartsAt n es) → AllBegun (frame r at ds ∷ S) → Moves (frame r at ds ∷ S) (frame r p es ∷ S)
moves_top r at p ds es S keeps b = record { begun = (λ is. let (n, s) = b.0 is in (n, keeps n s), b.1); start = λ h. (h, by (has_item S) (nat_eq r item_row) refl) }
  where
    by : (c i : Bool) → nat_eq r item_row ≡ i → (if c then open_start S else (if i then start_of (yield_of (node_of (frame r p es))) else None)) ≡ (if c then open_start S else (if i then start_of (yield_of (node_of (frame r at ds))) else None))
    by true i is = refl
    by false true is = let (n, s) = b.0 is in frame_starts n (frame r p es) (keeps n s) ∙ sym (frame_starts n (frame r at ds) s)
    by false false is = refl

-- a frame of another row is opened
moves_opened : (f : Frame) (S : Stack) → nat_eq f.number item_row ≡ false → AllBegun S → Moves S (f ∷ S)
moves_opened f S not b = record { begun = (λ is. let bad : true ≡ false = sym is ∙ not in absurd (cc), b); start = λ h. let has = there h in (has, by (has_item S) has) }
  where
    there : (if nat_eq f.number item_row then true else has_item S) ≡ true → has_item S ≡ true
    there = subst (λ i. (if i then true else has_item S) ≡ true → has_item S ≡ true) (sym not) (λ h. h)

    by : (c : Bool) → c ≡ true → (if c then open_start S else (if nat_eq f.number item_row then start_of (yield_of (node_of f)) else None)) ≡ open_start S
    by true h = refl
    by false h = absurd (cc)

-- the innermost frame is closed
moves_closed : (F f g : Frame) (S : Stack) → AllBegun (f ∷ g ∷ S) → Moves (f ∷ g ∷ S) (put F g ∷ S)
moves_closed F f g S b = moves_on (f ∷ g ∷ S) (g ∷ S) (put F g ∷ S) dropped (moves_top g.number g.at g.at g.done ((g.at, inner (node_of F)) ∷ g.done) S (λ n. starts_more n (g.at, inner (node_of F)) g.done) b.1)
  where
    by : (i c : Bool) → c ≡ true → ((if i then true else c) ≡ true) × ((if c then open_start (g ∷ S) else (if nat_eq f.number item_row then start_of (yield_of (node_of f)) else None)) ≡ open_start (g ∷ S))
    by true true h = (refl, refl)
    by false true h = (refl, refl)
    by i false h = absurd (cc)

    dropped : Moves (f ∷ g ∷ S) (g ∷ S)
    dropped = record { begun = b.1; start = λ h. let (has, same) = by (nat_eq f.number item_row) (has_item (g ∷ S)) h in (has, sym same) }

moves_missing : (f : Frame) (p place : ℕ) (S : Stack) → AllBegun (f ∷ S) → Moves (f ∷ S) (missing_at f p place ∷ S)
moves_missing f p place S b = moves_top f.number f.at p f.done ((p, missing place) ∷ f.done) S (λ n. starts_more n (p, missing place) f.done) b

-- in a chain of rows an item can only be the last one
abbrev Apart : List ℕ → Type 0
Apart [] = Unit {0}
Apart (r ∷ []) = Unit {0}
Apart (r ∷ q ∷ qs) = (nat_eq r item_row ≡ false) × Apart (q ∷ qs)

not_item : (G : Table) → (P : ℕ → Type 0) → (r : ℕ) → P r → (P item_row → ⊥) → nat_eq r item_row ≡ false
not_item G P r p not = by (nat_eq r item_row) refl
  where
    by : (b : Bool) → nat_eq r item_row ≡ b → b ≡ false
    by true is = absurd (not (subst P (eqb-true r item_row is) p))
    by false is = refl

apart : (G : Table) → Found G → IsItemRow G → (s k : ℕ) (rs : List ℕ) → G.chain s k ≡ rs → Apart rs
apart G L I s k [] e = tt
apart G L I s k (r ∷ []) e = tt
apart G L I s k (r ∷ q ∷ qs) e =
    let (sort, left, may, more) = L.chain_more s k r q qs e in
    let (s', n', what, rest, begins) = more in
    (not_item G (λ r. (s : ℕ) × (n : ℕ) × (G.what r (first_of G r) ≡ operand s n)) r (s', n', what) (λ h. I.token h.0 h.1 h.2), apart G L I s' k (q ∷ qs) rest)

takes_opened : (G : Table) → IsItemRow G → (rs : List ℕ) (t : Tok) (S : Stack) → Apart rs → AllBegun S → Takes S t (opened G rs t S)
takes_opened G I [] t S a b = takes_moved S S t (moves_none S b)
takes_opened G I (r ∷ []) t S a b = by (nat_eq r item_row) refl
  where
    p : ℕ
    p = first_of G r

    F : Frame
    F = frame r p ((p, taken t) ∷ [])

    starts : (c i : Bool) → has_item S ≡ c → nat_eq r item_row ≡ i → i ≡ true → (begins_item (F ∷ S) ≡ true)
        → ((has_item S ≡ true) × ((if c then open_start S else (if i then start_of (yield_of (node_of F)) else None)) ≡ open_start S)) ⊎ ((begins_item (F ∷ S) ≡ true) × ((if c then open_start S else (if i then start_of (yield_of (node_of F)) else None)) ≡ Some t.start))
    starts true i has is here begins = inl (has, refl)
    starts false true has is here begins = inr (begins, frame_starts t.start F refl)
    starts false false has is here begins = absurd (cc)

    by : (i : Bool) → nat_eq r item_row ≡ i → Takes S t (F ∷ S)
    by true is =
        let there : nat_eq (first_of G r) item_spot ≡ true = subst (λ q. nat_eq (first_of G q) item_spot ≡ true) (sym (eqb-true r item_row is)) (rw I.first refl) in
        record { begun = (λ h. (t.start, refl), b); start = λ h. starts (has_item S) (nat_eq r item_row) refl refl is (rw (is, there) refl) }
    by false is = takes_moved S (F ∷ S) t (moves_opened F S is b)
takes_opened G I (r ∷ q ∷ qs) t S a b =
    let F = frame r (first_of G r) [] in
    let m = moves_opened F S a.0 b in
    takes_on S (F ∷ S) (opened G (q ∷ qs) t (F ∷ S)) t m (takes_opened G I (q ∷ qs) t (F ∷ S) a.1 m.begun)

takes_start : (G : Table) → Found G → IsItemRow G → (w : What) (f : Frame) (p : ℕ) (t : Tok) (S : Stack) → AllBegun (f ∷ S) → Takes (f ∷ S) t (start_in G w f p t S)
takes_start G L I nothing f p t S b = takes_moved (f ∷ S) (f ∷ S) t (moves_none (f ∷ S) b)
takes_start G L I (token ks) f p t S b =
    takes_moved (f ∷ S) (frame f.number p ((p, taken t) ∷ f.done) ∷ S) t (moves_top f.number f.at p f.done ((p, taken t) ∷ f.done) S (λ n. starts_more n (p, taken t) f.done) b)
takes_start G L I (operand s n) f p t S b =
    let F = frame f.number p f.done in
    let m = moves_top f.number f.at p f.done f.done S (λ n h. h) b in
    takes_on (f ∷ S) (F ∷ S) (opened G (G.chain s (key_of t)) t (F ∷ S)) t m (takes_opened G I (G.chain s (key_of t)) t (F ∷ S) (apart G L I s (key_of t) (G.chain s (key_of t)) refl) m.begun)

-- where a token fits
abbrev FitTakes : Stack → Tok → Fit → Type 0
FitTakes S t no_fit = Unit {0}
FitTakes S t deep = Unit {0}
FitTakes S t (fit U) = Takes S t U

fit_on : (S T : Stack) (t : Tok) → Moves S T → (x : Fit) → FitTakes T t x → FitTakes S t x
fit_on S T t m no_fit h = tt
fit_on S T t m deep h = tt
fit_on S T t m (fit U) h = takes_on S T U t m h

fit_within : (n : ℕ) (S : Stack) (t : Tok) (U : Stack) → Takes S t U → FitTakes S t (within n U)
fit_within n S t U h = by (nat_le n 512) (nat_le (length U) 512)
  where
    by : (a b : Bool) → FitTakes S t (if a then (if b then fit U else deep) else deep)
    by true true = h
    by true false = tt
    by false b = tt

-- no token grows a part that is a token
plain_stays : (G : Table) → Found G → (w : What) (k : ℕ) → grows G w plain k ≡ true → ⊥
plain_stays G L nothing k h = cc
plain_stays G L (token ks) k h = cc
plain_stays G L (operand s n) k h = by (G.grower s k) h
  where
    by : (o : Option ℕ) → grows_by G n plain o ≡ true → ⊥
    by None h = cc
    by (Some g) h = side (nat_le n (G.stand g)) h
      where
        side : (b : Bool) → (if b then G.left_ok g plain else false) ≡ true → ⊥
        side true h = L.left_plain g h
        side false h = cc

taken_stays : (G : Table) → Found G → (w : What) (x : Tok) (k : ℕ) → grows G w (last_in w (taken x)) k ≡ true → ⊥
taken_stays G L nothing x k h = plain_stays G L nothing k h
taken_stays G L (token ks) x k h = plain_stays G L (token ks) k h
taken_stays G L (operand s n) x k h = plain_stays G L (operand s n) k h

-- where a token grows the newest part, the oldest one stays
starts_less : (G : Table) → Found G → (w : What) (k n : ℕ) (d : ℕ × Part) (ds : List (ℕ × Part)) → grows G w (last_done w (d ∷ ds)) k ≡ true → StartsAt n (d ∷ ds) → StartsAt n ds
starts_less G L w k n d [] g h = by d.1 g h
  where
    by : (c : Part) → grows G w (last_in w c) k ≡ true → IsTaken n c → ⊥
    by (taken x) g h = taken_stays G L w x k g
    by (inner T) g h = h
    by (missing place) g h = h
starts_less G L w k n d (e ∷ ds) g h = h

fit_grown : (G : Table) → Found G → IsItemRow G → (f : Frame) (t : Tok) (S : Stack) → grows G (G.what f.number f.at) (last_done (G.what f.number f.at) f.done) (key_of t) ≡ true → AllBegun (f ∷ S)
    → FitTakes (f ∷ S) t (grown G (grower_in G (G.what f.number f.at) (key_of t)) f f.done t S)
fit_grown G L I f t S g b = by (grower_in G (G.what f.number f.at) (key_of t)) refl f.done refl
  where
    by : (o : Option ℕ) → grower_in G (G.what f.number f.at) (key_of t) ≡ o → (ds : List (ℕ × Part)) → f.done ≡ ds → FitTakes (f ∷ S) t (grown G o f ds t S)
    by None e ds is = tt
    by (Some q) e [] is = tt
    by (Some q) e (d ∷ ds) is =
        let (s, found) = grower_operand G (G.what f.number f.at) (key_of t) q e in
        let other : nat_eq q item_row ≡ false = not_item G (λ r. G.has_left r ≡ true) q (L.grower_left s (key_of t) q found).1 (λ h. let bad : true ≡ false = sym h ∙ I.left in cc) in
        let F = frame q 0 ((0, d.1) ∷ []) in
        let B = frame f.number f.at ds in
        let less : (n : ℕ) → StartsAt n f.done → StartsAt n ds
        = λ n h. starts_less G L (G.what f.number f.at) (key_of t) n d ds (subst (λ xs. grows G (G.what f.number f.at) (last_done (G.what f.number f.at) xs) (key_of t) ≡ true) is g) (subst (StartsAt n) is h) in
        let m = moves_top f.number f.at f.at f.done ds S less b in
        let o = moves_opened F (B ∷ S) other m.begun in
        let a = moves_on (f ∷ S) (B ∷ S) (F ∷ B ∷ S) m o in
        fit_within (length S + 2 + part_height d.1) (f ∷ S) t (start_at G F (first_of G q) t (B ∷ S))
        (takes_on (f ∷ S) (F ∷ B ∷ S) (start_at G F (first_of G q) t (B ∷ S)) t a (takes_start G L I (G.what q (first_of G q)) F (first_of G q) t (B ∷ S) a.begun))

fit_take : (G : Table) → Found G → IsItemRow G → (place : Place) (f : Frame) (S : Stack) (t : Tok) (other : Fit) → place_in G f t ≡ place → AllBegun (f ∷ S) → FitTakes (f ∷ S) t other → FitTakes (f ∷ S) t (take_at G place f S t other)
fit_take G L I nowhere f S t other e b h = h
fit_take G L I growth f S t other e b h = fit_grown G L I f t S (place_grows G f.number f.at (key_of t) (last_done (G.what f.number f.at) f.done) e) b
fit_take G L I (at_spot p) f S t other e b h = fit_within 0 (f ∷ S) t (start_at G f p t S) (takes_start G L I (G.what f.number p) f p t S b)

fit_fits : (G : Table) → Found G → IsItemRow G → (t : Tok) (S : Stack) (f : Frame) → AllBegun (f ∷ S) → FitTakes (f ∷ S) t (fits_at G f S t)
fit_fits G L I t [] f b = fit_take G L I (place_in G f t) f [] t no_fit refl b tt
fit_fits G L I t (g ∷ S) f b =
    let m = moves_closed f f g S b in
    fit_take G L I (place_in G f t) f (g ∷ S) t (if G.ends f.number f.at then fits_at G (put f g) S t else no_fit) refl b
    (by (G.ends f.number f.at) (fit_on (f ∷ g ∷ S) (put f g ∷ S) t m (fits_at G (put f g) S t) (fit_fits G L I t S (put f g) m.begun)))
  where
    by : (c : Bool) → FitTakes (f ∷ g ∷ S) t (fits_at G (put f g) S t) → FitTakes (f ∷ g ∷ S) t (if c then fits_at G (put f g) S t else no_fit)
    by true h = h
    by false h = tt

-- where a token is reached
abbrev ReachTakes : Stack → Tok → Reach → Type 0
ReachTakes S t unreached = Unit {0}
ReachTakes S t (reached x n) = FitTakes S t x

reach_on : (S T : Stack) (t : Tok) → Moves S T → (x : Reach) → ReachTakes T t x → ReachTakes S t x
reach_on S T t m unreached h = tt
reach_on S T t m (reached x n) h = fit_on S T t m x h

reach_or : (S : Stack) (t : Tok) (a b : Reach) → ReachTakes S t a → ReachTakes S t b → ReachTakes S t (or_reach a b)
reach_or S t unreached b h i = i
reach_or S t (reached x n) b h i = h

reach_at : (G : Table) → Found G → IsItemRow G → (place : Place) (f : Frame) (S : Stack) (t : Tok) (h : ℕ) (other : Reach) → place_in G f t ≡ place → AllBegun (f ∷ S) → ReachTakes (f ∷ S) t other → ReachTakes (f ∷ S) t (at_frame G place f S t h other)
reach_at G L I nowhere f S t h other e b o = o
reach_at G L I growth f S t h other e b o = fit_take G L I growth f S t no_fit e b tt
reach_at G L I (at_spot p) f S t h other e b o = fit_take G L I (at_spot p) f S t no_fit e b tt

reach_past : (G : Table) → Found G → IsItemRow G → (f : Frame) (S : Stack) (t : Tok) (place h : ℕ) (es : List Edge) → AllBegun (f ∷ S) → ReachTakes (f ∷ S) t (past_operand G f S t place h es)
reach_past G L I f S t place h [] b = tt
reach_past G L I f S t place h (e ∷ es) b = by (is_operand (G.what f.number e.spot) && allowed e.behind (last_done (G.what f.number f.at) f.done)) (reach_past G L I f S t place h es b)
  where
    F : Frame
    F = missing_at f e.spot place

    m : Moves (f ∷ S) (F ∷ S)
    m = moves_missing f e.spot place S b

    there : (x : Reach) → ReachTakes (f ∷ S) t x → (p : Place) → place_in G F t ≡ p → ReachTakes (f ∷ S) t (at_frame G p F S t (h + 1) x)
    there x rest nowhere is = rest
    there x rest growth is = fit_on (f ∷ S) (F ∷ S) t m (take_at G growth F S t no_fit) (fit_take G L I growth F S t no_fit is m.begun tt)
    there x rest (at_spot p) is = fit_on (f ∷ S) (F ∷ S) t m (take_at G (at_spot p) F S t no_fit) (fit_take G L I (at_spot p) F S t no_fit is m.begun tt)

    by : (c : Bool) → ReachTakes (f ∷ S) t (past_operand G f S t place h es) → ReachTakes (f ∷ S) t (if c then at_frame G (place_in G F t) F S t (h + 1) (past_operand G f S t place h es) else past_operand G f S t place h es)
    by true rest = there (past_operand G f S t place h es) rest (place_in G F t) refl
    by false rest = rest

reach_here : (fuel : ℕ) (G : Table) → Found G → IsItemRow G → (f : Frame) (S : Stack) (t : Tok) (place h : ℕ) → AllBegun (f ∷ S) → ReachTakes (f ∷ S) t (reach_in fuel G f S t place h)
reach_here zero G L I f S t place h b = tt
reach_here (suc fuel) G L I f S t place h b =
    let rest = on_edge (must_of G f) unreached (λ e. reach_in fuel G (missing_at f e.spot place) S t place (h + 1)) in
    reach_at G L I (place_in G f t) f S t h (or_reach (past_operand G f S t place h (G.next f.number f.at)) rest) refl b
    (reach_or (f ∷ S) t (past_operand G f S t place h (G.next f.number f.at)) rest (reach_past G L I f S t place h (G.next f.number f.at) b) (by (must_of G f) (λ F c. reach_here fuel G L I F S t place (h + 1) c)))
  where
    by : (o : Option Edge) → ((F : Frame) → AllBegun (F ∷ S) → ReachTakes (F ∷ S) t (reach_in fuel G F S t place (h + 1))) → ReachTakes (f ∷ S) t (on_edge o unreached (λ e. reach_in fuel G (missing_at f e.spot place) S t place (h + 1)))
    by None go = tt
    by (Some e) go =
        let F = missing_at f e.spot place in
        let m = moves_missing f e.spot place S b in
        reach_on (f ∷ S) (F ∷ S) t m (reach_in fuel G F S t place (h + 1)) (go F m.begun)

reach_further : (G : Table) → Found G → IsItemRow G → (t : Tok) (place : ℕ) (S : Stack) (f : Frame) (h : ℕ) → AllBegun (f ∷ S) → ReachTakes (f ∷ S) t (reach_out G f S t place h)
reach_further G L I t place [] f h b = reach_here most_parts G L I f [] t place h b
reach_further G L I t place (g ∷ S) f h b =
    let r = filled most_parts G f place in
    let m = moves_closed r.0 f g S b in
    reach_or (f ∷ g ∷ S) t (reach_in most_parts G f (g ∷ S) t place h) (reach_out G (put r.0 g) S t place (h + r.1)) (reach_here most_parts G L I f (g ∷ S) t place h b)
    (reach_on (f ∷ g ∷ S) (put r.0 g ∷ S) t m (reach_out G (put r.0 g) S t place (h + r.1)) (reach_further G L I t place S (put r.0 g) (h + r.1) m.begun))

-- one token
pub takes_step : (G : Table) → Found G → IsItemRow G → (S : Stack) (place : ℕ) (t : Tok) → AllBegun S → Takes S t (step G S place t).stack
unfolding step
takes_step G L I S place t b = by (fits G S t) (fitted S b)
  where
    same : Takes S t S
    same = takes_moved S S t (moves_none S b)

    fitted : (S : Stack) → AllBegun S → FitTakes S t (fits G S t)
    fitted [] b = tt
    fitted (f ∷ S) b = fit_fits G L I t S f b

    from : (S : Stack) → AllBegun S → ReachTakes S t (reach_from G S t place)
    from [] b = tt
    from (f ∷ S) b = reach_further G L I t place S f 0 b

    out : (r : Reach) → ReachTakes S t r → Takes S t (after_reach S place t r).stack
    out unreached h = same
    out (reached no_fit n) h = same
    out (reached deep n) h = same
    out (reached (fit U) n) h = h

    by : (x : Fit) → FitTakes S t x → Takes S t (after_fit G S place t x).stack
    by no_fit h = out (reach_from G S t place) (from S b)
    by deep h = same
    by (fit U) h = h

-- an item is closed
moves_out : (G : Table) (place : ℕ) (S : Stack) (f : Frame) → AllBegun (f ∷ S) → Moves (f ∷ S) (closed_out G f S place).0
moves_out G place [] f b = moves_none (f ∷ []) b
moves_out G place (g ∷ S) f b = by (nat_eq f.number item_row) (moves_out G place S F m.begun)
  where
    F : Frame
    F = put (filled most_parts G f place).0 g

    m : Moves (f ∷ g ∷ S) (F ∷ S)
    m = moves_closed (filled most_parts G f place).0 f g S b

    by : (c : Bool) → Moves (F ∷ S) (closed_out G F S place).0 → Moves (f ∷ g ∷ S) (if c then (F ∷ S, (filled most_parts G f place).1) else more_holes (filled most_parts G f place).1 (closed_out G F S place)).0
    by true h = m
    by false h = moves_on (f ∷ g ∷ S) (F ∷ S) (closed_out G F S place).0 m h

pub moves_item : (G : Table) (S : Stack) (place : ℕ) → AllBegun S → Moves S (closed_item G S place).0
moves_item G [] place b = moves_none [] b
moves_item G (f ∷ S) place b = moves_out G place S f b
