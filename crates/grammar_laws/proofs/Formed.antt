-- A recovered tree is well formed apart from its missing parts, and at most 512 high.
use Rattle.std.proofs.Common.{◌≡◌, ◌≢◌, ℕ, zero, suc, ◌+◌, ◌≤◌, Bool, true, false, ◌&&◌, List, [], ◌∷◌, length, Option, Some, None, refl, sym, subst, arith, ◌⊎◌, inl, inr, if◌then◌else◌}
use Rattle.std.proofs.lemmas.Bool.{leb-true}
use Rattle.token_model.specs.Kinds.{Tok}
use Rattle.grammar_model.specs.Keys.{key_of}
use Rattle.grammar_model.specs.Trees.{Forest, Part, node, no_parts, part, taken, inner, missing, forest_height, part_height}
use Rattle.grammar_model.specs.Tables.{Table, What, nothing, token, operand, Edge, Last, plain, has, begins_by, takes, grows, allowed, Place, nowhere, growth, at_spot}
use Rattle.grammar_model.specs.Grammar.{last_in, MayCome, StandsIn, left_last, BeginsWith, IsFilled, Follows, IsPartFormed}
use Rattle.grammar_model.specs.Machine.{Frame, frame, Stack, onto, node_of, put, last_done, first_of, opened, start_in, start_at, Fit, no_fit, deep, fit, within, grower_in, grown, take_at, place_in, fits_at, fits}
use Rattle.recovery_model.specs.Steps.{is_operand, missing_at, last_edge, must_of, at_frame, past_operand, or_reach, on_edge, reach_in, one_more, filled, most_parts, reach_out, reach_from, Reach, unreached, reached, after_reach, after_fit, step, closed_up, recovered, recover, ends_within, IsRecovered}
use Rattle.grammar_laws.proofs.Laws.{Found}
use Rattle.grammar_laws.proofs.Sound.{within_parts, place_may, place_grows, grows_parts}
use Rattle.grammar_laws.proofs.Counted.{moved_or}
use Rattle.grammar_laws.proofs.Faultless.{step_is}

pub record Passes (G : Table) : Type 0 where
  pub must_open : (r at : ℕ) (last : Last) (e : Edge) → G.ends r at ≡ false → last_edge (G.next r at) ≡ Some e → MayCome (G.next r at) last e.spot
  pub edge_some : (r at p : ℕ) (last : Last) → MayCome (G.next r at) last p → G.what r p ≢ nothing
  pub soon : (r at : ℕ) → ends_within most_parts G r at ≡ true

abbrev pub Shaped : Table → ℕ → ℕ → List (ℕ × Part) → Type 0
Shaped G r at done = (f : Forest) → Follows G r at (last_done (G.what r at) done) f → IsFilled G r (onto done f)

pub record Awaits (G : Table) (r at : ℕ) (ds : List (ℕ × Part)) : Type 0 where
  pub filled : (c : Part) → StandsIn G (G.what r at) c → IsPartFormed G c → Shaped G r at ((at, c) ∷ ds)

abbrev pub AllLow : ℕ → List (ℕ × Part) → Type 0
AllLow d [] = Unit {0}
AllLow d (x ∷ xs) = (part_height x.1 + d ≤ 512) × AllLow d xs

abbrev pub Newest : Table → ℕ → ℕ → List (ℕ × Part) → Type 0
Newest G r at [] = Unit {0}
Newest G r at (x ∷ ds) = Awaits G r at ds × StandsIn G (G.what r at) x.1 × IsPartFormed G x.1

abbrev pub Below : Table → ℕ → Stack → Type 0
Below G r [] = r ≡ G.root
Below G r (F ∷ S) = (s : ℕ) × (n : ℕ) × (G.what F.number F.at ≡ operand s n) × (G.sort r ≡ s) × (n ≤ G.stand r) × Awaits G F.number F.at F.done × AllLow (length S + 1) F.done × Below G F.number S

pub record Top (G : Table) (r at : ℕ) (done : List (ℕ × Part)) (S : Stack) : Type 0 where
  pub shaped : Shaped G r at done
  pub newest : Newest G r at done
  pub low : AllLow (length S + 1) done
  pub few : length S + 1 ≤ 512
  pub below : Below G r S

abbrev pub TopOf : Table → Stack → Type 0
TopOf G [] = ⊥
TopOf G (f ∷ S) = Top G f.number f.at f.done S

onto_low : (d : ℕ) (ds : List (ℕ × Part)) (f : Forest) → AllLow d ds → forest_height f + d ≤ 512 → forest_height (onto ds f) + d ≤ 512
onto_low d [] f low h = h
onto_low d (x ∷ xs) f low h = onto_low d xs (part x.0 x.1 f) low.1 (let a = low.0 in omega arith)

waits_next : (G : Table) (r at p : ℕ) (done : List (ℕ × Part)) → Shaped G r at done → MayCome (G.next r at) (last_done (G.what r at) done) p → Awaits G r p done
waits_next G r at p done sh may = record { filled = λ c st fm f fol. sh (part p c f) (may, st, fm, fol) }

pushed : (G : Table) (r at p : ℕ) (c : Part) (done : List (ℕ × Part)) (S : Stack) → Top G r at done S → MayCome (G.next r at) (last_done (G.what r at) done) p → StandsIn G (G.what r p) c → IsPartFormed G c →
    part_height c + (length S + 1) ≤ 512 → Top G r p ((p, c) ∷ done) S
pushed G r at p c done S t may st fm low =
    let w = waits_next G r at p done t.shaped may in
    record { shaped = w.filled c st fm; newest = (w, st, fm); low = (low, t.low); few = t.few; below = t.below }

first_waits : (G : Table) (r p : ℕ) → G.has_left r ≡ false → MayCome (G.next r 0) plain p → Awaits G r p []
first_waits G r p e may = record { filled = λ c st fm f fol. (subst (λ b. BeginsWith G r b p c) (sym e) (may, st), fm, fol) }

left_waits : (G : Table) → Found G → (r p : ℕ) (l : Part) → G.has_left r ≡ true → G.left_ok r (left_last l) ≡ true → IsPartFormed G l → MayCome (G.next r 0) plain p → Awaits G r p ((0, l) ∷ [])
left_waits G L r p l e ok lf may = record {
  filled = λ c st fm f fol.
      (subst (λ b. BeginsWith G r b 0 l) (sym e) (refl, ok), lf, subst (λ w. Follows G r 0 (last_in w l) (part p c f)) (sym (L.start r)) (may, st, fm, fol));
}

top_opened : (G : Table) → Found G → (t : Tok) (s n : ℕ) (F : Frame) (S : Stack) (xs : List ℕ) → G.chain s (key_of t) ≡ xs → begins_by G n xs ≡ true → G.what F.number F.at ≡ operand s n → Awaits G F.number F.at F.done →
    AllLow (length S + 1) F.done → Below G F.number S → length (opened G xs t (F ∷ S)) ≤ 512 → TopOf G (opened G xs t (F ∷ S))
top_opened G L t s n F S [] e b is w low below le = absurd (cc)
top_opened G L t s n F S (r ∷ []) e b is w low below le =
    let (sort, left, may, (ks, wh, has)) = L.chain_one s (key_of t) r e in
    let v = first_waits G r (first_of G r) left may in
    let st : StandsIn G (G.what r (first_of G r)) (taken t) = rw wh has in
    record { shaped = v.filled (taken t) st tt; newest = (v, st, tt); low = (omega arith, tt); few = omega arith; below = (s, n, is, sort, leb-true n (G.stand r) b, w, low, below) }
top_opened G L t s n F S (r ∷ q ∷ qs) e b is w low below le =
    let (sort, left, may, (s', n', wh, deeper, b')) = L.chain_more s (key_of t) r q qs e in
    top_opened G L t s' n' (frame r (first_of G r) []) (F ∷ S) (q ∷ qs) deeper b' wh (first_waits G r (first_of G r) left may) tt (s, n, is, sort, leb-true n (G.stand r) b, w, low, below) le

top_start : (G : Table) → Found G → (t : Tok) (r at p : ℕ) (done : List (ℕ × Part)) (S : Stack) (w : What) → G.what r p ≡ w → takes G w (key_of t) ≡ true → Awaits G r p done → AllLow (length S + 1) done → Below G r S →
    length (start_in G w (frame r at done) p t S) ≤ 512 → TopOf G (start_in G w (frame r at done) p t S)
top_start G L t r at p done S nothing is h v low below le = absurd (cc)
top_start G L t r at p done S (token ks) is h v low below le =
    let st : StandsIn G (G.what r p) (taken t) = rw is h in
    record { shaped = v.filled (taken t) st tt; newest = (v, st, tt); low = (omega arith, low); few = omega arith; below = below }
top_start G L t r at p done S (operand s n) is h v low below le = top_opened G L t s n (frame r p done) S (G.chain s (key_of t)) refl h is v low below le

last_left : (s n : ℕ) (c : Part) → last_in (operand s n) c ≡ left_last c
last_left s n (taken t) = refl
last_left s n (inner t) = refl
last_left s n (missing place) = refl

top_grown : (G : Table) → Found G → (t : Tok) (r at : ℕ) (w : What) → G.what r at ≡ w → (done : List (ℕ × Part)) (S U : Stack) → Top G r at done S → grows G w (last_done w done) (key_of t) ≡ true →
    grown G (grower_in G w (key_of t)) (frame r at done) done t S ≡ fit U → TopOf G U
top_grown G L t r at nothing is done S U top g h = absurd (cc)
top_grown G L t r at (token ks) is done S U top g h = absurd (cc)
top_grown G L t r at (operand s n) is [] S U top g h = by (G.grower s (key_of t)) h
  where
    by : (o : Option ℕ) → grown G o (frame r at []) [] t S ≡ fit U → TopOf G U
    by None h = absurd (cc)
    by (Some g) h = absurd (cc)
top_grown G L t r at (operand s n) is (x ∷ ds) S U top g h =
    let (q, by, le, ok) = grows_parts G n (last_in (operand s n) x.1) (G.grower s (key_of t)) g in
    let (sort, lefty, may, takes) = L.grower_left s (key_of t) q by in
    let h' : within (length S + 2 + part_height x.1) (start_at G (frame q 0 ((0, x.1) ∷ [])) (first_of G q) t (frame r at ds ∷ S)) ≡ fit U = subst (λ o. grown G o (frame r at (x ∷ ds)) (x ∷ ds) t S ≡ fit U) by h in
    let (same, high, few) = within_parts (length S + 2 + part_height x.1) (start_at G (frame q 0 ((0, x.1) ∷ [])) (first_of G q) t (frame r at ds ∷ S)) U h' in
    let (w, st, fm) = top.newest in
    subst (TopOf G) same (top_start G L t q 0 (first_of G q) ((0, x.1) ∷ []) (frame r at ds ∷ S) (G.what q (first_of G q)) refl takes
    (left_waits G L q (first_of G q) x.1 lefty (subst (λ l. G.left_ok q l ≡ true) (last_left s n x.1) ok) fm may) (omega arith, tt) (s, n, is, sort, le, w, top.low.1, top.below) few)

top_take : (G : Table) → Found G → (place : Place) (r at : ℕ) (done : List (ℕ × Part)) (S : Stack) (t : Tok) (U : Stack) → Top G r at done S → place_in G (frame r at done) t ≡ place → take_at G place (frame r at done) S t no_fit ≡ fit U → TopOf G U
top_take G L nowhere r at done S t U top e h = absurd (cc)
top_take G L growth r at done S t U top e h =
    top_grown G L t r at (G.what r at) refl done S U top (place_grows G r at (key_of t) (last_done (G.what r at) done) e) h
top_take G L (at_spot p) r at done S t U top e h =
    let (same, low, few) = within_parts 0 (start_at G (frame r at done) p t S) U h in
    let (may, can) = place_may G r at (key_of t) p (last_done (G.what r at) done) e in
    subst (TopOf G) same (top_start G L t r at p done S (G.what r p) refl can (waits_next G r at p done top.shaped may) top.low top.below few)

finished : (G : Table) (r at : ℕ) (done : List (ℕ × Part)) (F : Frame) (S : Stack) → Top G r at done (F ∷ S) → G.ends r at ≡ true → Top G F.number F.at ((F.at, inner (node r (onto done no_parts))) ∷ F.done) S
finished G r at done F S top e =
    let (s, n, is, sort, le, w, low, below) = top.below in
    let h = onto_low (length (F ∷ S) + 1) done no_parts top.low (let a = top.few in omega arith) in
    let st : StandsIn G (G.what F.number F.at) (inner (node r (onto done no_parts))) = rw is (sort, le) in
    record { shaped = w.filled (inner (node r (onto done no_parts))) st (top.shaped no_parts e); newest = (w, st, top.shaped no_parts e); low = (omega arith, low); few = let a = top.few in omega arith; below = below }

top_fits : (G : Table) → Found G → (t : Tok) (S : Stack) (r at : ℕ) (done : List (ℕ × Part)) (U : Stack) → Top G r at done S → fits_at G (frame r at done) S t ≡ fit U → TopOf G U
top_fits G L t [] r at done U top h = top_take G L (place_in G (frame r at done) t) r at done [] t U top refl h
top_fits G L t (F ∷ S) r at done U top h =
    by (place_in G (frame r at done) t) refl (G.ends r at) refl (λ e. top_fits G L t S F.number F.at ((F.at, inner (node r (onto done no_parts))) ∷ F.done) U (finished G r at done F S top e)) h
  where
    by : (place : Place) → place_in G (frame r at done) t ≡ place → (b : Bool) → G.ends r at ≡ b → (G.ends r at ≡ true → fits_at G (put (frame r at done) F) S t ≡ fit U → TopOf G U) →
        take_at G place (frame r at done) (F ∷ S) t (if b then fits_at G (put (frame r at done) F) S t else no_fit) ≡ fit U → TopOf G U
    by nowhere e true en go h = go en h
    by nowhere e false en go h = absurd (cc)
    by growth e b en go h = top_take G L growth r at done (F ∷ S) t U top e h
    by (at_spot p) e b en go h = top_take G L (at_spot p) r at done (F ∷ S) t U top e h

missing_stands : (G : Table) (w : What) (place : ℕ) → w ≢ nothing → StandsIn G w (missing place)
missing_stands G nothing place ne = absurd (ne refl)
missing_stands G (token ks) place ne = tt
missing_stands G (operand s n) place ne = tt

top_missing : (G : Table) → Passes G → (r at p place : ℕ) (done : List (ℕ × Part)) (S : Stack) → Top G r at done S → MayCome (G.next r at) (last_done (G.what r at) done) p → Top G r p ((p, missing place) ∷ done) S
top_missing G P r at p place done S top may = pushed G r at p (missing place) done S top may (missing_stands G (G.what r p) place (P.edge_some r at p (last_done (G.what r at) done) may)) tt (let a = top.few in omega arith)

top_at : (G : Table) → Found G → (place : Place) (r at : ℕ) (done : List (ℕ × Part)) (S : Stack) (t : Tok) (h n : ℕ) (other : Reach) (U : Stack) → Top G r at done S → place_in G (frame r at done) t ≡ place →
    at_frame G place (frame r at done) S t h other ≡ reached (fit U) n → TopOf G U ⊎ (other ≡ reached (fit U) n)
top_at G L nowhere r at done S t h n other U top e i = inr i
top_at G L growth r at done S t h n other U top e i = let a : take_at G growth (frame r at done) S t no_fit ≡ fit U = cc in inl (top_take G L growth r at done S t U top e a)
top_at G L (at_spot p) r at done S t h n other U top e i = let a : take_at G (at_spot p) (frame r at done) S t no_fit ≡ fit U = cc in inl (top_take G L (at_spot p) r at done S t U top e a)

and_both : (a b : Bool) → (a && b) ≡ true → b ≡ true
and_both true b h = h
and_both false b h = absurd (cc)

top_past : (G : Table) → Found G → Passes G → (r at : ℕ) (done : List (ℕ × Part)) (S : Stack) (t : Tok) (place h n : ℕ) (es : List Edge) (U : Stack) → Top G r at done S →
    ((p : ℕ) → MayCome es (last_done (G.what r at) done) p → MayCome (G.next r at) (last_done (G.what r at) done) p) → past_operand G (frame r at done) S t place h es ≡ reached (fit U) n → TopOf G U
top_past G L P r at done S t place h n [] U top inc i = absurd (cc)
top_past G L P r at done S t place h n (e ∷ es) U top inc i =
    by (is_operand (G.what r e.spot) && allowed e.behind (last_done (G.what r at) done)) refl (top_past G L P r at done S t place h n es U top (λ p m. inc p (inr m))) i
  where
    by : (b : Bool) → (is_operand (G.what r e.spot) && allowed e.behind (last_done (G.what r at) done)) ≡ b → (past_operand G (frame r at done) S t place h es ≡ reached (fit U) n → TopOf G U) →
        (if b then at_frame G (place_in G (missing_at (frame r at done) e.spot place) t) (missing_at (frame r at done) e.spot place) S t (h + 1) (past_operand G (frame r at done) S t place h es)
        else past_operand G (frame r at done) S t place h es) ≡ reached (fit U) n → TopOf G U
    by false eb go i = go i
    by true eb go i =
        let may = inc e.spot (inl (refl, and_both (is_operand (G.what r e.spot)) (allowed e.behind (last_done (G.what r at) done)) eb)) in
        elim (top_at G L (place_in G (missing_at (frame r at done) e.spot place) t) r e.spot ((e.spot, missing place) ∷ done) S t (h + 1) n (past_operand G (frame r at done) S t place h es) U
        (top_missing G P r at e.spot place done S top may) refl i) [ inl a ↦ a | inr o ↦ go o ]

must_may : (G : Table) → Passes G → (r at : ℕ) (last : Last) (done : List (ℕ × Part)) (e : Edge) → must_of G (frame r at done) ≡ Some e → (G.ends r at ≡ false) × (last_edge (G.next r at) ≡ Some e) × MayCome (G.next r at) last e.spot
must_may G P r at last done e h = by (G.ends r at) refl h
  where
    by : (b : Bool) → G.ends r at ≡ b → (if b then None else last_edge (G.next r at)) ≡ Some e → (G.ends r at ≡ false) × (last_edge (G.next r at) ≡ Some e) × MayCome (G.next r at) last e.spot
    by true en h = absurd (cc)
    by false en h = (en, h, P.must_open r at last e en h)

top_in : (G : Table) → Found G → Passes G → (fuel : ℕ) (r at : ℕ) (done : List (ℕ × Part)) (S : Stack) (t : Tok) (place h n : ℕ) (U : Stack) → Top G r at done S → reach_in fuel G (frame r at done) S t place h ≡ reached (fit U) n → TopOf G U
top_in G L P zero r at done S t place h n U top i = absurd (cc)
top_in G L P (suc fuel) r at done S t place h n U top i =
    elim (top_at G L (place_in G (frame r at done) t) r at done S t h n
    (or_reach (past_operand G (frame r at done) S t place h (G.next r at)) (on_edge (must_of G (frame r at done)) unreached (λ e. reach_in fuel G (missing_at (frame r at done) e.spot place) S t place (h + 1)))) U top refl i) [
      | inl a ↦ a
      | inr o ↦ moved_or (TopOf G U) (past_operand G (frame r at done) S t place h (G.next r at)) (on_edge (must_of G (frame r at done)) unreached (λ e. reach_in fuel G (missing_at (frame r at done) e.spot place) S t place (h + 1))) U n o
          (top_past G L P r at done S t place h n (G.next r at) U top (λ p m. m))
          (must (must_of G (frame r at done)) refl (λ e may. top_in G L P fuel r e.spot ((e.spot, missing place) ∷ done) S t place (h + 1) n U (top_missing G P r at e.spot place done S top may)))
    ]
  where
    must : (o : Option Edge) → must_of G (frame r at done) ≡ o → ((e : Edge) → MayCome (G.next r at) (last_done (G.what r at) done) e.spot → reach_in fuel G (missing_at (frame r at done) e.spot place) S t place (h + 1) ≡ reached (fit U) n → TopOf G U) →
        on_edge o unreached (λ e. reach_in fuel G (missing_at (frame r at done) e.spot place) S t place (h + 1)) ≡ reached (fit U) n → TopOf G U
    must None is go i = absurd (cc)
    must (Some e) is go i = go e (must_may G P r at (last_done (G.what r at) done) done e is).2 i

-- a frame that can end
pub record Full (G : Table) (S : Stack) (f : Frame) : Type 0 where
  pub top : Top G f.number f.at f.done S
  pub ends : G.ends f.number f.at ≡ true

pub top_filled : (G : Table) → Passes G → (fuel : ℕ) (r at : ℕ) (done : List (ℕ × Part)) (S : Stack) (place : ℕ) → ends_within fuel G r at ≡ true → Top G r at done S → Full G S (filled fuel G (frame r at done) place).0
top_filled G P zero r at done S place e top = record { top = top; ends = e }
top_filled G P (suc fuel) r at done S place e top = by (must_of G (frame r at done)) refl (λ d may en. top_filled G P fuel r d.spot ((d.spot, missing place) ∷ done) S place en (top_missing G P r at d.spot place done S top may))
  where
    ended : (b : Bool) → G.ends r at ≡ b → (if b then None else last_edge (G.next r at)) ≡ None → (if b then true else on_edge (last_edge (G.next r at)) false (λ e. ends_within fuel G r e.spot)) ≡ true → G.ends r at ≡ true
    ended true en h e = en
    ended false en h e = let x : on_edge None false (λ e. ends_within fuel G r e.spot) ≡ true = subst (λ o. on_edge o false (λ e. ends_within fuel G r e.spot) ≡ true) h e in absurd (cc)

    goes_on : (d : Edge) (b : Bool) → G.ends r at ≡ b → b ≡ false → last_edge (G.next r at) ≡ Some d → (if b then true else on_edge (last_edge (G.next r at)) false (λ e. ends_within fuel G r e.spot)) ≡ true → ends_within fuel G r d.spot ≡ true
    goes_on d true en b h e = absurd (cc)
    goes_on d false en b h e = subst (λ o. on_edge o false (λ e. ends_within fuel G r e.spot) ≡ true) h e

    by : (o : Option Edge) → must_of G (frame r at done) ≡ o → ((d : Edge) → MayCome (G.next r at) (last_done (G.what r at) done) d.spot → ends_within fuel G r d.spot ≡ true → Full G S (filled fuel G (missing_at (frame r at done) d.spot place) place).0) →
        Full G S (on_edge o (frame r at done, 0) (λ e. one_more (filled fuel G (missing_at (frame r at done) e.spot place) place))).0
    by None is go = record { top = top; ends = ended (G.ends r at) refl is e }
    by (Some d) is go = let (not_end, last, may) = must_may G P r at (last_done (G.what r at) done) done d is in go d may (goes_on d (G.ends r at) refl not_end last e)

abbrev pub top_frame : Table → Frame → Stack → Type 0
top_frame G f S = Top G f.number f.at f.done S

pub filled_put : (G : Table) (f F : Frame) (S : Stack) → Full G (F ∷ S) f → top_frame G (put f F) S
filled_put G f F S full = finished G f.number f.at f.done F S full.top full.ends

top_out : (G : Table) → Found G → Passes G → (t : Tok) (place : ℕ) (S : Stack) (f : Frame) (h n : ℕ) (U : Stack) → top_frame G f S → reach_out G f S t place h ≡ reached (fit U) n → TopOf G U
top_out G L P t place [] f h n U top i = top_in G L P most_parts f.number f.at f.done [] t place h n U top i
top_out G L P t place (F ∷ S) f h n U top i =
    moved_or (TopOf G U) (reach_in most_parts G f (F ∷ S) t place h) (reach_out G (put (filled most_parts G f place).0 F) S t place (h + (filled most_parts G f place).1)) U n i
    (top_in G L P most_parts f.number f.at f.done (F ∷ S) t place h n U top)
    (top_out G L P t place S (put (filled most_parts G f place).0 F) (h + (filled most_parts G f place).1) n U
    (filled_put G (filled most_parts G f place).0 F S (top_filled G P most_parts f.number f.at f.done (F ∷ S) place (P.soon f.number f.at) top)))

-- a step keeps the frames well formed
pub top_step : (G : Table) → Found G → Passes G → (S : Stack) (place : ℕ) (t : Tok) → TopOf G S → TopOf G (step G S place t).stack
top_step G L P S place t top = subst (λ r. TopOf G r.stack) (sym (step_is G S place t)) (by (fits G S t) refl)
  where
    fitted : (S U : Stack) → TopOf G S → fits G S t ≡ fit U → TopOf G U
    fitted [] U top h = absurd top
    fitted (f ∷ S) U top h = top_fits G L t S f.number f.at f.done U top h

    from : (S U : Stack) (n : ℕ) → TopOf G S → reach_from G S t place ≡ reached (fit U) n → TopOf G U
    from [] U n top h = absurd top
    from (f ∷ S) U n top h = top_out G L P t place S f 0 n U top h

    out : (x : Reach) → reach_from G S t place ≡ x → TopOf G (after_reach S place t x).stack
    out unreached e = top
    out (reached no_fit n) e = top
    out (reached deep n) e = top
    out (reached (fit U) n) e = from S U n top e

    by : (x : Fit) → fits G S t ≡ x → TopOf G (after_fit G S place t x).stack
    by (fit U) e = fitted S U top e
    by deep e = top
    by no_fit e = out (reach_from G S t place) refl

full_tree : (G : Table) (f : Frame) → Full G [] f → IsRecovered G (node_of f)
full_tree G f full = record {
  root = full.top.below;
  formed = full.top.shaped no_parts full.ends;
  low = let h = onto_low 1 f.done no_parts full.top.low (omega arith) in omega arith;
}

pub closed_formed : (G : Table) → Passes G → (place : ℕ) (S : Stack) (f : Frame) → top_frame G f S → IsRecovered G (closed_up G f S place).0
closed_formed G P place [] f top = full_tree G (filled most_parts G f place).0 (top_filled G P most_parts f.number f.at f.done [] place (P.soon f.number f.at) top)
closed_formed G P place (F ∷ S) f top =
    closed_formed G P place S (put (filled most_parts G f place).0 F)
    (filled_put G (filled most_parts G f place).0 F S (top_filled G P most_parts f.number f.at f.done (F ∷ S) place (P.soon f.number f.at) top))

run_formed : (G : Table) → Found G → Passes G → (ts : List Tok) (S : Stack) (place : ℕ) → TopOf G S → IsRecovered G (recovered G ts S place).0
run_formed G L P [] [] place top = absurd top
run_formed G L P [] (f ∷ S) place top = closed_formed G P place S f top
run_formed G L P (t ∷ ts) S place top = run_formed G L P ts (step G S place t).stack (step G S place t).place (top_step G L P S place t top)

-- the frames of a text without tokens are well formed
pub top_begun : (G : Table) → Found G → TopOf G (frame G.root 0 [] ∷ [])
top_begun G L = record { shaped = start; newest = tt; low = tt; few = omega arith; below = refl }
  where
    start : Shaped G G.root 0 []
    start no_parts fol = (L.root_left, fol)
    start (part p c f) fol = (subst (λ b. BeginsWith G G.root b p c) (sym L.root_left) (plain_start (G.what G.root 0) (L.start G.root) fol.0, fol.1), fol.2, fol.3)
      where
        plain_start : (w : What) → w ≡ nothing → MayCome (G.next G.root 0) (last_done w []) p → MayCome (G.next G.root 0) plain p
        plain_start w e m = m

-- every recovered tree is well formed but for its missing parts, and at most 512 high
pub formed : (G : Table) → Found G → Passes G → (ts : List Tok) → IsRecovered G (recover G ts).0
unfolding recover
formed G L P ts = run_formed G L P ts (frame G.root 0 [] ∷ []) 0 (top_begun G L)
