-- What the machine gives without a fault is in the grammar.
use Rattle.std.proofs.Common.{◌≡◌, ℕ, ◌+◌, ◌≤◌, Bool, true, false, List, [], ◌∷◌, ◌++◌, length, Option, Some, None, refl, sym, ◌∙◌, ap, subst, arith, inl, inr, if◌then◌else◌, append_assoc, append-nil}
use Rattle.std.proofs.lemmas.Bool.{leb-true}
use Rattle.std.specs.Prelude.{nat_le}
use Rattle.token_model.specs.Kinds.{Tok}
use Rattle.grammar_model.specs.Keys.{key_of}
use Rattle.grammar_model.specs.Trees.{Tree, Forest, Part, node, no_parts, part, taken, inner, missing, row_of, yield_of, part_yield, forest_yield, height_of, part_height, holes_of, forest_holes, part_holes}
use Rattle.grammar_model.specs.Tables.{Table, What, nothing, token, operand, Edge, Last, plain, row, has, begins_by, takes, grows, grows_by, allowed, Place, nowhere, growth, at_spot, first_place, first_spot}
use Rattle.grammar_model.specs.Grammar.{last_in, MayCome, StandsIn, left_last, BeginsWith, WellFormed, IsFilled, Follows, IsPartFormed, is_end, OnlyIf, Free, NodeFree, ForestFree, PartFree, Leads, Proper, ProperNode, ProperPart, ProperParts, Grows, Roomy, RoomyNode, RoomyParts, RoomyPart, InGrammar}
use Rattle.grammar_model.specs.Machine.{Frame, frame, Stack, onto, put, last_done, first_of, opened, start_in, start_at, Fit, no_fit, deep, fit, within, grower_in, grown, take_at, fits_at, fits, on_fit, play, closed_at, closed, close_all, parsed}
use Rattle.grammar_laws.proofs.Laws.{Found}

pub record TreeOk (G : Table) (d : ℕ) (T : Tree) (ts : List Tok) : Type 0 where
  pub formed : WellFormed G T
  pub proper : Proper G T
  pub roomy : Roomy G d T
  pub tokens : yield_of T ≡ ts

-- all parts of a row
pub record Holds (G : Table) (r d : ℕ) (f : Forest) : Type 0 where
  pub formed : IsFilled G r f
  pub proper : ProperNode G r (G.has_left r) f
  pub roomy : RoomyNode G d (G.has_left r) f

abbrev pub FreeRest : Table → ℕ → ℕ → ℕ → Part → Forest → Type 0
FreeRest G k r at c f = OnlyIf (is_end f) (PartFree G k c × (first_place G r at (last_in (G.what r at) c) k ≡ nowhere)) × ForestFree G k r f

-- the parts so far of a row, the newest c: whatever may follow them completes them
pub record Going (G : Table) (r at : ℕ) (c : Part) (ds : List (ℕ × Part)) (d : ℕ) (ts : List Tok) : Type 0 where
  pub whole : (f : Forest) → Follows G r at (last_in (G.what r at) c) f → ProperParts G r at c f → RoomyParts G (d + 1) f → Holds G r d (onto ((at, c) ∷ ds) f)
  pub tokens : (f : Forest) → forest_yield (onto ((at, c) ∷ ds) f) ≡ ts ++ forest_yield f
  pub free : (k : ℕ) (f : Forest) → FreeRest G k r at c f → NodeFree G k r (onto ((at, c) ∷ ds) f)

-- the parts so far of a row that waits at a spot for an operand that begins with t
pub record Waiting (G : Table) (r at : ℕ) (ds : List (ℕ × Part)) (d : ℕ) (ts : List Tok) (s n : ℕ) (t : Tok) : Type 0 where
  pub is : G.what r at ≡ operand s n
  pub filled : (T : Tree) (u : List Tok) → TreeOk G (d + 1) T (t ∷ u) → G.sort (row_of T) ≡ s → n ≤ G.stand (row_of T) → Going G r at (inner T) ds d (ts ++ (t ∷ u))

abbrev pub first_or : List Tok → Tok → Tok
first_or [] t = t
first_or (x ∷ xs) t = x

-- a frame of this row whose first token is t may stand on these frames, which have the tokens before it
abbrev pub Under : Table → ℕ → Tok → List Tok → Stack → Type 0
Under G r t before [] = (r ≡ G.root) × (before ≡ [])
Under G r t before (F ∷ S) = (s : ℕ) × (n : ℕ) × (own : List Tok) × (outer : List Tok) × (G.sort r ≡ s) × (n ≤ G.stand r) × (before ≡ outer ++ own) ×
    Waiting G F.number F.at F.done (length S + 1) own s n t × Under G F.number (first_or own t) outer S

-- how the newest part came
abbrev pub Back : Table → ℕ → ℕ → Part → List (ℕ × Part) → ℕ → List Tok → Type 0
Back G r at (taken t) ds d ts = Unit {0}
Back G r at (missing place) ds d ts = ⊥
Back G r at (inner T) ds d ts = (s : ℕ) × (n : ℕ) × (own : List Tok) × (t : Tok) × (u : List Tok) × Waiting G r at ds d own s n t × TreeOk G (d + 1) T (t ∷ u) × (G.sort (row_of T) ≡ s) × (n ≤ G.stand (row_of T)) ×
    (ts ≡ own ++ (t ∷ u))

pub record State (G : Table) (all : List Tok) (r at : ℕ) (c : Part) (ds : List (ℕ × Part)) (S : Stack) : Type 0 where
  pub first : Tok
  pub more : List Tok
  pub before : List Tok
  pub tokens : all ≡ before ++ (first ∷ more)
  pub going : Going G r at c ds (length S + 1) (first ∷ more)
  pub under : Under G r first before S
  pub back : Back G r at c ds (length S + 1) (first ∷ more)

-- a stack whose newest part is a token
pub record Fresh (G : Table) (all : List Tok) (U : Stack) : Type 0 where
  pub number : ℕ
  pub at : ℕ
  pub last : Tok
  pub ds : List (ℕ × Part)
  pub below : Stack
  pub is : U ≡ frame number at ((at, taken last) ∷ ds) ∷ below
  pub state : State G all number at (taken last) ds below

push : (G : Table) (r at p d : ℕ) (c c' : Part) (ds : List (ℕ × Part)) (ts us : List Tok) → Going G r at c ds d ts → MayCome (G.next r at) (last_in (G.what r at) c) p → StandsIn G (G.what r p) c' → IsPartFormed G c' →
    ProperPart G c' → RoomyPart G (d + 1) c' → Leads (part_yield c') (λ t. PartFree G (key_of t) c × (first_place G r at (last_in (G.what r at) c) (key_of t) ≡ at_spot p)) → part_yield c' ≡ us → Going G r p c' ((at, c) ∷ ds) d (ts ++ us)
push G r at p d c c' ds ts us g may st formed proper room lead is = record {
  whole = λ f fol pr ro. g.whole (part p c' f) (may, st, formed, fol) (lead, proper, pr) (room, ro);
  tokens = λ f. g.tokens (part p c' f) ∙ ap (λ y. ts ++ (y ++ forest_yield f)) is ∙ sym (append_assoc ts us (forest_yield f));
  free = λ k f h. g.free k (part p c' f) (tt, h);
}

-- the first part of a row without a left operand
first_part : (G : Table) (r p d : ℕ) (c : Part) (ts : List Tok) → G.has_left r ≡ false → MayCome (G.next r 0) plain p → StandsIn G (G.what r p) c → IsPartFormed G c → ProperPart G c → d ≤ 512 → RoomyPart G (d + 1) c → part_yield c ≡ ts →
    Going G r p c [] d ts
first_part G r p d c ts e may st formed proper le room is = record {
  whole = λ f fol pr ro. record {
    formed = (subst (λ b. BeginsWith G r b p c) (sym e) (may, st), formed, fol);
    proper = subst (λ b. ProperNode G r b (part p c f)) (sym e) (proper, pr);
    roomy = subst (λ b. RoomyNode G d b (part p c f)) (sym e) (le, room, ro);
  };
  tokens = λ f. ap (λ y. y ++ forest_yield f) is;
  free = λ k f h. h;
}

-- the first part behind a left operand
left_part : (G : Table) → Found G → (r p d : ℕ) (l c : Part) (ts us : List Tok) → G.has_left r ≡ true → G.left_ok r (left_last l) ≡ true → IsPartFormed G l → ProperPart G l → d + part_height l ≤ 512 → RoomyPart G d l → part_yield l ≡ ts →
    MayCome (G.next r 0) plain p → StandsIn G (G.what r p) c → IsPartFormed G c → ProperPart G c → RoomyPart G (d + 1) c → Leads (part_yield c) (λ t. PartFree G (key_of t) l) → part_yield c ≡ us → Going G r p c ((0, l) ∷ []) d (ts ++ us)
left_part G L r p d l c ts us e ok lf lp high lr lis may st formed proper room lead is = record {
  whole = λ f fol pr ro. record {
    formed = (subst (λ b. BeginsWith G r b 0 l) (sym e) (refl, ok), lf, subst (λ w. Follows G r 0 (last_in w l) (part p c f)) (sym (L.start r)) (may, st, formed, fol));
    proper = subst (λ b. ProperNode G r b (part 0 l (part p c f))) (sym e) (lp, (lead, proper, pr));
    roomy = subst (λ b. RoomyNode G d b (part 0 l (part p c f))) (sym e) (high, lr, (room, ro));
  };
  tokens = λ f. ap (λ y. y ++ (part_yield c ++ forest_yield f)) lis ∙ ap (λ y. ts ++ (y ++ forest_yield f)) is ∙ sym (append_assoc ts us (forest_yield f));
  free = λ k f h. (tt, h);
}

pub within_parts : (n : ℕ) (S U : Stack) → within n S ≡ fit U → (S ≡ U) × (n ≤ 512) × (length S ≤ 512)
within_parts n S U e = at (nat_le n 512) (nat_le (length S) 512) refl refl e
  where
    at : (a b : Bool) → nat_le n 512 ≡ a → nat_le (length S) 512 ≡ b → (if a then (if b then fit S else deep) else deep) ≡ fit U → (S ≡ U) × (n ≤ 512) × (length S ≤ 512)
    at true true ea eb h = (cc, leb-true n 512 ea, leb-true (length S) 512 eb)
    at true false ea eb h = absurd (cc)
    at false b ea eb h = absurd (cc)

pub opened_le : (G : Table) (xs : List ℕ) (t : Tok) (F : Frame) (S : Stack) → length (opened G xs t (F ∷ S)) ≤ 512 → length S + 1 ≤ 512
opened_le G [] t F S le = omega arith
opened_le G (r ∷ []) t F S le = omega arith
opened_le G (r ∷ q ∷ qs) t F S le = let h = opened_le G (q ∷ qs) t (frame r (first_of G r) []) (F ∷ S) le in omega arith

-- the frames that a token opens where an operand begins
opens : (G : Table) → Found G → (all : List Tok) (t : Tok) (s n : ℕ) (F : Frame) (S : Stack) (own outer : List Tok) (xs : List ℕ) → G.chain s (key_of t) ≡ xs → begins_by G n xs ≡ true →
    Waiting G F.number F.at F.done (length S + 1) own s n t → Under G F.number (first_or own t) outer S → all ≡ outer ++ own → length (opened G xs t (F ∷ S)) ≤ 512 → Fresh G (all ++ (t ∷ [])) (opened G xs t (F ∷ S))
opens G L all t s n F S own outer [] e b w under split le = absurd (cc)
opens G L all t s n F S own outer (r ∷ []) e b w under split le =
    let (is, left, may, (ks, wh, has)) = L.chain_one s (key_of t) r e in
    record {
      number = r;
      at = first_of G r;
      last = t;
      ds = [];
      below = F ∷ S;
      is = refl;
      state = record {
        first = t;
        more = [];
        before = all;
        tokens = refl;
        going = first_part G r (first_of G r) (length (F ∷ S) + 1) (taken t) (t ∷ []) left may (rw wh has) tt tt (omega arith) tt refl;
        under = (s, n, own, outer, is, leb-true n (G.stand r) b, split, w, under);
        back = tt;
      };
    }
opens G L all t s n F S own outer (r ∷ q ∷ qs) e b w under split le =
    let (is, left, may, (s', n', wh, deeper, b')) = L.chain_more s (key_of t) r q qs e in
    let high : length (F ∷ S) + 1 ≤ 512 = opened_le G (q ∷ qs) t (frame r (first_of G r) []) (F ∷ S) le in
    let w' : Waiting G r (first_of G r) [] (length (F ∷ S) + 1) [] s' n' t = record {
      is = wh;
      filled = λ T u ok same stands. first_part G r (first_of G r) (length (F ∷ S) + 1) (inner T) (t ∷ u) left may (rw wh (same, stands)) ok.formed ok.proper high ok.roomy ok.tokens;
    } in
    opens G L all t s' n' (frame r (first_of G r) []) (F ∷ S) [] all (q ∷ qs) deeper b' w' (s, n, own, outer, is, leb-true n (G.stand r) b, split, w, under) (sym (append-nil all)) le

-- what a place tells
spot_may : (G : Table) (r k p : ℕ) (last : Last) (es : List Edge) → first_spot G r last k es ≡ at_spot p → MayCome es last p × (takes G (G.what r p) k ≡ true)
spot_may G r k p last [] h = absurd (cc)
spot_may G r k p last (e ∷ es) h = at (allowed e.behind last) (takes G (G.what r e.spot) k) refl refl (spot_may G r k p last es) h
  where
    at : (a b : Bool) → allowed e.behind last ≡ a → takes G (G.what r e.spot) k ≡ b → (first_spot G r last k es ≡ at_spot p → MayCome es last p × (takes G (G.what r p) k ≡ true)) →
        (if a then (if b then at_spot e.spot else first_spot G r last k es) else first_spot G r last k es) ≡ at_spot p → MayCome (e ∷ es) last p × (takes G (G.what r p) k ≡ true)
    at true true ea eb more h = let same : e.spot ≡ p = cc in (inl (same, ea), subst (λ q. takes G (G.what r q) k ≡ true) same eb)
    at true false ea eb more h = let m = more h in (inr m.0, m.1)
    at false b ea eb more h = let m = more h in (inr m.0, m.1)

pub place_may : (G : Table) (r at k p : ℕ) (last : Last) → first_place G r at last k ≡ at_spot p → MayCome (G.next r at) last p × (takes G (G.what r p) k ≡ true)
unfolding first_place
place_may G r at k p last h = go (grows G (G.what r at) last k) h
  where
    go : (b : Bool) → (if b then growth else first_spot G r last k (G.next r at)) ≡ at_spot p → MayCome (G.next r at) last p × (takes G (G.what r p) k ≡ true)
    go true h = absurd (cc)
    go false h = spot_may G r k p last (G.next r at) h

spot_not : (G : Table) (r k : ℕ) (last : Last) (es : List Edge) → first_spot G r last k es ≡ growth → ⊥
spot_not G r k last [] h = cc
spot_not G r k last (e ∷ es) h = at (allowed e.behind last) (takes G (G.what r e.spot) k) (spot_not G r k last es) h
  where
    at : (a b : Bool) → (first_spot G r last k es ≡ growth → ⊥) → (if a then (if b then at_spot e.spot else first_spot G r last k es) else first_spot G r last k es) ≡ growth → ⊥
    at true true more h = cc
    at true false more h = more h
    at false b more h = more h

pub place_grows : (G : Table) (r at k : ℕ) (last : Last) → first_place G r at last k ≡ growth → grows G (G.what r at) last k ≡ true
unfolding first_place
place_grows G r at k last h = go (grows G (G.what r at) last k) refl h
  where
    go : (b : Bool) → grows G (G.what r at) last k ≡ b → (if b then growth else first_spot G r last k (G.next r at)) ≡ growth → grows G (G.what r at) last k ≡ true
    go true e h = e
    go false e h = absurd (spot_not G r k last (G.next r at) h)

pub grows_parts : (G : Table) (n : ℕ) (last : Last) (g : Option ℕ) → grows_by G n last g ≡ true → (q : ℕ) × (g ≡ Some q) × (n ≤ G.stand q) × (G.left_ok q last ≡ true)
grows_parts G n last None h = absurd (cc)
grows_parts G n last (Some q) h = at (nat_le n (G.stand q)) refl h
  where
    at : (b : Bool) → nat_le n (G.stand q) ≡ b → (if b then G.left_ok q last else false) ≡ true → (q' : ℕ) × (Some q ≡ Some q') × (n ≤ G.stand q') × (G.left_ok q' last ≡ true)
    at true e h = (q, refl, leb-true n (G.stand q) e, h)
    at false e h = absurd (cc)

-- a token at a spot of a frame, or beginning the operand there
starts : (G : Table) → Found G → (all : List Tok) (t : Tok) (r at p : ℕ) (ds : List (ℕ × Part)) (S : Stack) (own outer : List Tok) (w : What) → G.what r p ≡ w → takes G w (key_of t) ≡ true →
    (StandsIn G (G.what r p) (taken t) → Going G r p (taken t) ds (length S + 1) (own ++ (t ∷ []))) →
    ((s n : ℕ) → w ≡ operand s n → (T : Tree) (u : List Tok) → TreeOk G (length S + 1 + 1) T (t ∷ u) → G.sort (row_of T) ≡ s → n ≤ G.stand (row_of T) → Going G r p (inner T) ds (length S + 1) (own ++ (t ∷ u))) →
    Under G r (first_or own t) outer S → all ≡ outer ++ own → length (start_in G w (frame r at ds) p t S) ≤ 512 → Fresh G (all ++ (t ∷ [])) (start_in G w (frame r at ds) p t S)
starts G L all t r at p ds S own outer nothing is h one more under split le = absurd (cc)
starts G L all t r at p ds S own outer (token ks) is h one more under split le = record {
  number = r;
  at = p;
  last = t;
  ds = ds;
  below = S;
  is = refl;
  state = stated own (one (rw is h)) under split;
}
  where
    stated : (own : List Tok) → Going G r p (taken t) ds (length S + 1) (own ++ (t ∷ [])) → Under G r (first_or own t) outer S → all ≡ outer ++ own → State G (all ++ (t ∷ [])) r p (taken t) ds S
    stated [] g under split = record { first = t; more = []; before = outer; tokens = ap (λ a. a ++ (t ∷ [])) (split ∙ append-nil outer); going = g; under = under; back = tt }
    stated (x ∷ xs) g under split = record {
      first = x;
      more = xs ++ (t ∷ []);
      before = outer;
      tokens = ap (λ a. a ++ (t ∷ [])) split ∙ append_assoc outer (x ∷ xs) (t ∷ []);
      going = g;
      under = under;
      back = tt;
    }
starts G L all t r at p ds S own outer (operand s n) is h one more under split le =
    opens G L all t s n (frame r p ds) S own outer (G.chain s (key_of t)) refl h (record { is = is; filled = more s n refl }) under split le

first_is : (own : List Tok) (t x : Tok) (xs u : List Tok) → x ∷ xs ≡ own ++ (t ∷ u) → x ≡ first_or own t
first_is [] t x xs u e = cc
first_is (y ∷ own) t x xs u e = cc

-- a frame that can end gives its node to the one below
finish : (G : Table) (all : List Tok) (r at : ℕ) (c : Part) (ds : List (ℕ × Part)) (F : Frame) (S : Stack) → State G all r at c ds (F ∷ S) → G.ends r at ≡ true →
    State G all F.number F.at (inner (node r (onto ((at, c) ∷ ds) no_parts))) F.done S
finish G all r at c ds F S st e =
    let (s, n, own, outer, is, le, split, w, under) = st.under in
    let h = st.going.whole no_parts e tt tt in
    let ok : TreeOk G (length S + 1 + 1) (node r (onto ((at, c) ∷ ds) no_parts)) (st.first ∷ st.more) = record {
      formed = h.formed;
      proper = h.proper;
      roomy = subst (λ d. RoomyNode G d (G.has_left r) (onto ((at, c) ∷ ds) no_parts)) (omega arith) h.roomy;
      tokens = st.going.tokens no_parts ∙ append-nil (st.first ∷ st.more);
    } in
    stated s n outer own w (w.filled (node r (onto ((at, c) ∷ ds) no_parts)) st.more ok is le) under (st.tokens ∙ ap (λ b. b ++ (st.first ∷ st.more)) split ∙ append_assoc outer own (st.first ∷ st.more)) ok is le
  where
    stated : (s n : ℕ) (outer : List Tok) (own : List Tok) → Waiting G F.number F.at F.done (length S + 1) own s n st.first → Going G F.number F.at (inner (node r (onto ((at, c) ∷ ds) no_parts))) F.done (length S + 1) (own ++ (st.first ∷ st.more)) →
        Under G F.number (first_or own st.first) outer S → all ≡ outer ++ (own ++ (st.first ∷ st.more)) → TreeOk G (length S + 1 + 1) (node r (onto ((at, c) ∷ ds) no_parts)) (st.first ∷ st.more) → G.sort r ≡ s → n ≤ G.stand r →
        State G all F.number F.at (inner (node r (onto ((at, c) ∷ ds) no_parts))) F.done S
    stated s n outer [] w g under split ok is le = record {
      first = st.first;
      more = st.more;
      before = outer;
      tokens = split;
      going = g;
      under = under;
      back = (s, n, [], st.first, st.more, w, ok, is, le, refl);
    }
    stated s n outer (x ∷ xs) w g under split ok is le = record {
      first = x;
      more = xs ++ (st.first ∷ st.more);
      before = outer;
      tokens = split;
      going = g;
      under = under;
      back = (s, n, x ∷ xs, st.first, st.more, w, ok, is, le, refl);
    }

spotted : (G : Table) → Found G → (t : Tok) (all : List Tok) (r at p : ℕ) (c : Part) (ds : List (ℕ × Part)) (S U : Stack) → State G all r at c ds S → PartFree G (key_of t) c →
    first_place G r at (last_in (G.what r at) c) (key_of t) ≡ at_spot p → within 0 (start_at G (frame r at ((at, c) ∷ ds)) p t S) ≡ fit U → Fresh G (all ++ (t ∷ [])) U
spotted G L t all r at p c ds S U st free e h =
    let (same, low, le) = within_parts 0 (start_at G (frame r at ((at, c) ∷ ds)) p t S) U h in
    let (may, can) = place_may G r at (key_of t) p (last_in (G.what r at) c) e in
    subst (Fresh G (all ++ (t ∷ []))) same
    (starts G L all t r at p ((at, c) ∷ ds) S (st.first ∷ st.more) st.before (G.what r p) refl can
    (λ stands. push G r at p (length S + 1) c (taken t) ds (st.first ∷ st.more) (t ∷ []) st.going may stands tt tt tt (free, e) refl)
    (λ s n is T u ok sort stands. push G r at p (length S + 1) c (inner T) ds (st.first ∷ st.more) (t ∷ u) st.going may (rw is (sort, stands)) ok.formed ok.proper ok.roomy
    (subst (λ y. Leads y (λ t. PartFree G (key_of t) c × (first_place G r at (last_in (G.what r at) c) (key_of t) ≡ at_spot p))) (sym ok.tokens) (free, e)) ok.tokens)
    st.under st.tokens le)

grew : (G : Table) → Found G → (t : Tok) (all : List Tok) (r at : ℕ) (c : Part) (ds : List (ℕ × Part)) (S U : Stack) → State G all r at c ds S → PartFree G (key_of t) c →
    first_place G r at (last_in (G.what r at) c) (key_of t) ≡ growth → grown G (grower_in G (G.what r at) (key_of t)) (frame r at ((at, c) ∷ ds)) ((at, c) ∷ ds) t S ≡ fit U → Fresh G (all ++ (t ∷ [])) U
grew G L t all r at (missing place) ds S U st free e h = absurd st.back
grew G L t all r at (taken x) ds S U st free e h = absurd (no (G.what r at) (place_grows G r at (key_of t) (last_in (G.what r at) (taken x)) e))
  where
    no : (w : What) → grows G w (last_in w (taken x)) (key_of t) ≡ true → ⊥
    no nothing h = cc
    no (token ks) h = cc
    no (operand s n) h = let (q, e, le, ok) = grows_parts G n plain (G.grower s (key_of t)) h in L.left_plain q ok
grew G L t all r at (inner T) ds S U st free e h =
    let (s, n, own, t1, u, w, ok, is, stands, toks) = st.back in
    let can : grows_by G n (row (row_of T)) (G.grower s (key_of t)) ≡ true = subst (λ w. grows G w (last_in w (inner T)) (key_of t) ≡ true) w.is (place_grows G r at (key_of t) (last_in (G.what r at) (inner T)) e) in
    let (g, by, le, left) = grows_parts G n (row (row_of T)) (G.grower s (key_of t)) can in
    let (sort, lefty, may, takes) = L.grower_left s (key_of t) g by in
    let h' : within (length S + 2 + height_of T) (start_at G (frame g 0 ((0, inner T) ∷ [])) (first_of G g) t (frame r at ds ∷ S)) ≡ fit U =
    subst (λ o. grown G o (frame r at ((at, inner T) ∷ ds)) ((at, inner T) ∷ ds) t S ≡ fit U) by (subst (λ w. grown G (grower_in G w (key_of t)) (frame r at ((at, inner T) ∷ ds)) ((at, inner T) ∷ ds) t S ≡ fit U) w.is h) in
    let (same, high, few) = within_parts (length S + 2 + height_of T) (start_at G (frame g 0 ((0, inner T) ∷ [])) (first_of G g) t (frame r at ds ∷ S)) U h' in
    let room : Roomy G (length (frame r at ds ∷ S) + 1) T = subst (λ d. Roomy G d T) (omega arith) ok.roomy in
    let high' : length (frame r at ds ∷ S) + 1 + height_of T ≤ 512 = omega arith in
    let under : Under G r (first_or own t1) st.before S = subst (λ x. Under G r x st.before S) (first_is own t1 st.first st.more u toks) st.under in
    subst (Fresh G (all ++ (t ∷ []))) same
    (starts G L all t g 0 (first_of G g) ((0, inner T) ∷ []) (frame r at ds ∷ S) (t1 ∷ u) (st.before ++ own) (G.what g (first_of G g)) refl takes
    (λ stands. left_part G L g (first_of G g) (length (frame r at ds ∷ S) + 1) (inner T) (taken t) (t1 ∷ u) (t ∷ []) lefty left ok.formed ok.proper high' room ok.tokens may stands tt tt tt free refl)
    (λ s' n' is' T' u' ok' sort' stands'. left_part G L g (first_of G g) (length (frame r at ds ∷ S) + 1) (inner T) (inner T') (t1 ∷ u) (t ∷ u') lefty left ok.formed ok.proper high' room ok.tokens may (rw is' (sort', stands')) ok'.formed ok'.proper ok'.roomy
    (subst (λ y. Leads y (λ t. Free G (key_of t) T)) (sym ok'.tokens) free) ok'.tokens)
    (s, n, own, st.before, sort, le, refl, w, under) (st.tokens ∙ ap (λ y. st.before ++ y) toks ∙ sym (append_assoc st.before own (t1 ∷ u))) few)

step : (G : Table) → Found G → (t : Tok) (all : List Tok) (S : Stack) (r at : ℕ) (c : Part) (ds : List (ℕ × Part)) (U : Stack) → State G all r at c ds S → PartFree G (key_of t) c →
    fits_at G (frame r at ((at, c) ∷ ds)) S t ≡ fit U → Fresh G (all ++ (t ∷ [])) U
step G L t all [] r at c ds U st free h = by (first_place G r at (last_in (G.what r at) c) (key_of t)) refl h
  where
    by : (place : Place) → first_place G r at (last_in (G.what r at) c) (key_of t) ≡ place → take_at G place (frame r at ((at, c) ∷ ds)) [] t no_fit ≡ fit U → Fresh G (all ++ (t ∷ [])) U
    by nowhere e h = absurd (cc)
    by growth e h = grew G L t all r at c ds [] U st free e h
    by (at_spot p) e h = spotted G L t all r at p c ds [] U st free e h
step G L t all (F ∷ S) r at c ds U st free h =
    by (first_place G r at (last_in (G.what r at) c) (key_of t)) refl (G.ends r at) refl
    (λ e nowhere. step G L t all S F.number F.at (inner (node r (onto ((at, c) ∷ ds) no_parts))) F.done U (finish G all r at c ds F S st e) (st.going.free (key_of t) no_parts ((free, nowhere), tt))) h
  where
    by : (place : Place) → first_place G r at (last_in (G.what r at) c) (key_of t) ≡ place → (b : Bool) → G.ends r at ≡ b →
        (G.ends r at ≡ true → first_place G r at (last_in (G.what r at) c) (key_of t) ≡ nowhere → fits_at G (put (frame r at ((at, c) ∷ ds)) F) S t ≡ fit U → Fresh G (all ++ (t ∷ [])) U) →
        take_at G place (frame r at ((at, c) ∷ ds)) (F ∷ S) t (if b then fits_at G (put (frame r at ((at, c) ∷ ds)) F) S t else no_fit) ≡ fit U → Fresh G (all ++ (t ∷ [])) U
    by nowhere e true en deeper h = deeper en e h
    by nowhere e false en deeper h = absurd (cc)
    by growth e b en deeper h = grew G L t all r at c ds (F ∷ S) U st free e h
    by (at_spot p) e b en deeper h = spotted G L t all r at p c ds (F ∷ S) U st free e h

fresh_step : (G : Table) → Found G → (t : Tok) (all : List Tok) (U V : Stack) → Fresh G all U → fits G U t ≡ fit V → Fresh G (all ++ (t ∷ [])) V
fresh_step G L t all U V f h =
    step G L t all f.below f.number f.at (taken f.last) f.ds V f.state tt (subst (λ U. fits G U t ≡ fit V) f.is h)

plays : (G : Table) → Found G → (ts all : List Tok) (U V : Stack) → Fresh G all U → play G ts U ≡ Some V → Fresh G (all ++ ts) V
plays G L [] all U V f h = let same : U ≡ V = cc in subst (λ a. Fresh G a V) (sym (append-nil all)) (subst (Fresh G all) same f)
plays G L (t ∷ ts) all U V f h = by (fits G U t) refl (λ W e i. plays G L ts (all ++ (t ∷ [])) W V (fresh_step G L t all U W f e) i) h
  where
    by : (x : Fit) → fits G U t ≡ x → ((W : Stack) → fits G U t ≡ fit W → play G ts W ≡ Some V → Fresh G ((all ++ (t ∷ [])) ++ ts) V) → on_fit x (play G ts) ≡ Some V → Fresh G (all ++ (t ∷ ts)) V
    by no_fit e go i = absurd (cc)
    by deep e go i = absurd (cc)
    by (fit W) e go i = subst (λ a. Fresh G a V) (append_assoc all (t ∷ []) ts) (go W e i)

-- the first token
root_step : (G : Table) → Found G → (t : Tok) (V : Stack) → fits G (frame G.root 0 [] ∷ []) t ≡ fit V → Fresh G (t ∷ []) V
root_step G L t V h = by (first_place G G.root 0 (last_done (G.what G.root 0) []) (key_of t)) refl h
  where
    by : (place : Place) → first_place G G.root 0 (last_done (G.what G.root 0) []) (key_of t) ≡ place → take_at G place (frame G.root 0 []) [] t no_fit ≡ fit V → Fresh G (t ∷ []) V
    by nowhere e h = absurd (cc)
    by growth e h = absurd (let g : grows G nothing plain (key_of t) ≡ true = subst (λ w. grows G w plain (key_of t) ≡ true) (L.start G.root) (place_grows G G.root 0 (key_of t) plain e) in cc)
    by (at_spot p) e h =
        let (same, low, le) = within_parts 0 (start_at G (frame G.root 0 []) p t []) V h in
        let (may, can) = place_may G G.root 0 (key_of t) p plain e in
        subst (Fresh G (t ∷ [])) same
        (starts G L [] t G.root 0 p [] [] [] [] (G.what G.root p) refl can
        (λ stands. first_part G G.root p 1 (taken t) (t ∷ []) L.root_left may stands tt tt (omega arith) tt refl)
        (λ s n is T u ok sort stands. first_part G G.root p 1 (inner T) (t ∷ u) L.root_left may (rw is (sort, stands)) ok.formed ok.proper (omega arith) ok.roomy ok.tokens)
        (refl, refl) refl le)

mutual
  whole_tree : (G : Table) (T : Tree) → Proper G T → holes_of T ≡ 0
  whole_tree G (node r f) pr = whole_node G r (G.has_left r) f pr

  whole_node : (G : Table) (r : ℕ) (b : Bool) (f : Forest) → ProperNode G r b f → forest_holes f ≡ 0
  whole_node G r b no_parts pr = refl
  whole_node G r true (part p c f) pr = let a = whole_part G c pr.0 in let b = whole_behind G r c f pr.1 in omega arith
  whole_node G r false (part p c f) pr = let a = whole_part G c pr.0 in let b = whole_parts G r p c f pr.1 in omega arith

  whole_behind : (G : Table) (r : ℕ) (before : Part) (f : Forest) → Grows G r before f → forest_holes f ≡ 0
  whole_behind G r before no_parts pr = refl
  whole_behind G r before (part p c f) pr = let a = whole_part G c pr.1 in let b = whole_parts G r p c f pr.2 in omega arith

  whole_parts : (G : Table) (r at : ℕ) (before : Part) (f : Forest) → ProperParts G r at before f → forest_holes f ≡ 0
  whole_parts G r at before no_parts pr = refl
  whole_parts G r at before (part p c f) pr = let a = whole_part G c pr.1 in let b = whole_parts G r p c f pr.2 in omega arith

  whole_part : (G : Table) (c : Part) → ProperPart G c → part_holes c ≡ 0
  whole_part G (taken t) pr = refl
  whole_part G (inner T) pr = whole_tree G T pr
  whole_part G (missing place) pr = absurd pr

-- the end
closes_in : (G : Table) (all : List Tok) (S : Stack) (r at : ℕ) (c : Part) (ds : List (ℕ × Part)) (T : Tree) → State G all r at c ds S → closed_at G (frame r at ((at, c) ∷ ds)) S ≡ Some T → InGrammar G all T
closes_in G all [] r at c ds T st h = by (G.ends r at) refl h
  where
    by : (b : Bool) → G.ends r at ≡ b → (if b then Some (node r (onto ((at, c) ∷ ds) no_parts)) else None) ≡ Some T → InGrammar G all T
    by false e h = absurd (cc)
    by true e h =
        let w = st.going.whole no_parts e tt tt in
        let same : node r (onto ((at, c) ∷ ds) no_parts) ≡ T = cc in
        subst (InGrammar G all) same (record {
          root = st.under.0;
          formed = w.formed;
          proper = w.proper;
          roomy = w.roomy;
          whole = whole_tree G (node r (onto ((at, c) ∷ ds) no_parts)) w.proper;
          tokens = st.going.tokens no_parts ∙ append-nil (st.first ∷ st.more) ∙ sym (st.tokens ∙ ap (λ b. b ++ (st.first ∷ st.more)) st.under.1);
        })
closes_in G all (F ∷ S) r at c ds T st h =
    by (G.ends r at) refl (λ e i. closes_in G all S F.number F.at (inner (node r (onto ((at, c) ∷ ds) no_parts))) F.done T (finish G all r at c ds F S st e) i) h
  where
    by : (b : Bool) → G.ends r at ≡ b → (G.ends r at ≡ true → closed_at G (put (frame r at ((at, c) ∷ ds)) F) S ≡ Some T → InGrammar G all T) →
        (if b then closed_at G (put (frame r at ((at, c) ∷ ds)) F) S else None) ≡ Some T → InGrammar G all T
    by false e go h = absurd (cc)
    by true e go h = go e h

fresh_closes : (G : Table) (all : List Tok) (U : Stack) (T : Tree) → Fresh G all U → closed G U ≡ Some T → InGrammar G all T
fresh_closes G all U T f h = closes_in G all f.below f.number f.at (taken f.last) f.ds T f.state (subst (λ U. closed G U ≡ Some T) f.is h)

empty_closes : (G : Table) → Found G → (T : Tree) → closed G (frame G.root 0 [] ∷ []) ≡ Some T → InGrammar G [] T
empty_closes G L T h = by (G.ends G.root 0) refl h
  where
    by : (b : Bool) → G.ends G.root 0 ≡ b → (if b then Some (node G.root no_parts) else None) ≡ Some T → InGrammar G [] T
    by false e h = absurd (cc)
    by true e h = let same : node G.root no_parts ≡ T = cc in
        subst (InGrammar G []) same (record { root = refl; formed = (L.root_left, e); proper = tt; roomy = omega arith; whole = refl; tokens = refl })

pub sound : (G : Table) → Found G → (ts : List Tok) (T : Tree) → parsed G ts ≡ Some T → InGrammar G ts T
unfolding parsed
sound G L [] T h = empty_closes G L T h
sound G L (t ∷ ts) T h = by (fits G (frame G.root 0 [] ∷ []) t) refl h
  where
    ends : (o : Option Stack) → close_all G o ≡ Some T → (V : Stack) × (o ≡ Some V) × (closed G V ≡ Some T)
    ends None i = absurd (cc)
    ends (Some V) i = (V, refl, i)

    by : (x : Fit) → fits G (frame G.root 0 [] ∷ []) t ≡ x → close_all G (on_fit x (play G ts)) ≡ Some T → InGrammar G (t ∷ ts) T
    by no_fit e i = absurd (cc)
    by deep e i = absurd (cc)
    by (fit W) e i = let (V, a, b) = ends (play G ts W) i in fresh_closes G (t ∷ ts) V T (plays G L ts (t ∷ []) W V (root_step G L t W e) a) b
