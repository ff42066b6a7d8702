-- No token is lost, and the faults count the missing parts.
use Rattle.std.proofs.Common.{◌≡◌, ℕ, zero, suc, ◌+◌, Bool, true, false, ◌&&◌, List, [], ◌∷◌, ◌++◌, length, Option, Some, None, refl, sym, ◌∙◌, ap, subst, arith, ◌⊎◌, inl, inr, if◌then◌else◌, append_assoc, append-nil}
use Rattle.token_model.specs.Kinds.{Tok}
use Rattle.grammar_model.specs.Keys.{key_of}
use Rattle.grammar_model.specs.Trees.{Tree, Forest, Part, no_parts, part, yield_of, part_yield, forest_yield, part_height, holes_of, forest_holes, part_holes}
use Rattle.grammar_model.specs.Tables.{Table, What, nothing, token, operand, Edge, begins_by, takes, allowed, Place, nowhere, growth, at_spot}
use Rattle.grammar_model.specs.Machine.{Frame, frame, Stack, onto, put, last_done, first_of, opened, start_in, start_at, Fit, no_fit, deep, fit, grower_in, grown, take_at, place_in, fits_at, fits}
use Rattle.recovery_model.specs.Steps.{Fault, added, skipped, too_deep, cut, is_operand, missing_at, must_of, at_frame, past_operand, or_reach, on_edge, reach_in, one_more, filled, most_parts, reach_out, reach_from, Reach, unreached, reached, Stepped, after_reach, after_fit, step, closed_up, close_up, some_fault, last_fault, recovered, recover, Merged, left_out, added_in}
use Rattle.grammar_laws.proofs.Sound.{within_parts, place_may}
use Rattle.grammar_laws.proofs.Faultless.{step_is}
use Rattle.grammar_laws.proofs.Laws.{Found}

abbrev pub rev_yield : List (ℕ × Part) → List Tok
rev_yield [] = []
rev_yield (d ∷ ds) = rev_yield ds ++ part_yield d.1

abbrev pub stack_yield : Stack → List Tok
stack_yield [] = []
stack_yield (f ∷ S) = stack_yield S ++ rev_yield f.done

abbrev pub rev_holes : List (ℕ × Part) → ℕ
rev_holes [] = 0
rev_holes (d ∷ ds) = rev_holes ds + part_holes d.1

abbrev pub stack_holes : Stack → ℕ
stack_holes [] = 0
stack_holes (f ∷ S) = stack_holes S + rev_holes f.done

onto_yield : (ds : List (ℕ × Part)) (f : Forest) → forest_yield (onto ds f) ≡ rev_yield ds ++ forest_yield f
onto_yield [] f = refl
onto_yield (d ∷ ds) f = onto_yield ds (part d.0 d.1 f) ∙ sym (append_assoc (rev_yield ds) (part_yield d.1) (forest_yield f))

onto_holes : (ds : List (ℕ × Part)) (f : Forest) → forest_holes (onto ds f) ≡ rev_holes ds + forest_holes f
onto_holes [] f = omega arith
onto_holes (d ∷ ds) f = let h = onto_holes ds (part d.0 d.1 f) in omega arith

-- what a change of the frames gives: these more tokens, and so many more missing parts
pub record Moved (S U : Stack) (ts : List Tok) (h : ℕ) : Type 0 where
  pub yields : stack_yield U ≡ stack_yield S ++ ts
  pub holes : stack_holes U ≡ stack_holes S + h

pub moved_on : (S U V : Stack) (ts : List Tok) (h k : ℕ) → Moved S U [] h → Moved U V ts k → Moved S V ts (h + k)
moved_on S U V ts h k a b = record {
  yields = b.yields ∙ ap (λ y. y ++ ts) (a.yields ∙ append-nil (stack_yield S));
  holes = let x = a.holes in let y = b.holes in omega arith;
}

pub moved_after : (S U V : Stack) (ts : List Tok) (k : ℕ) → Moved S U [] 0 → Moved U V ts k → Moved S V ts k
moved_after S U V ts k a b = record {
  yields = b.yields ∙ ap (λ y. y ++ ts) (a.yields ∙ append-nil (stack_yield S));
  holes = let x = a.holes in let y = b.holes in omega arith;
}

pub moved_put : (f g : Frame) (S : Stack) → Moved (f ∷ g ∷ S) (put f g ∷ S) [] 0
moved_put f g S = record {
  yields = ap (λ y. stack_yield S ++ (rev_yield g.done ++ y)) (onto_yield f.done no_parts ∙ append-nil (rev_yield f.done)) ∙ sym (append_assoc (stack_yield S) (rev_yield g.done) (rev_yield f.done))
      ∙ sym (append-nil ((stack_yield S ++ rev_yield g.done) ++ rev_yield f.done));
  holes = let h = onto_holes f.done no_parts in omega arith;
}

moved_missing : (f : Frame) (p place : ℕ) (S : Stack) → Moved (f ∷ S) (missing_at f p place ∷ S) [] 1
moved_missing f p place S = record { yields = ap (λ y. stack_yield S ++ y) (append-nil (rev_yield f.done)) ∙ sym (append-nil (stack_yield S ++ rev_yield f.done)); holes = omega arith }

moved_opened : (G : Table) (xs : List ℕ) (t : Tok) (S : Stack) → (xs ≡ [] → ⊥) → Moved S (opened G xs t S) (t ∷ []) 0
moved_opened G [] t S ne = absurd (ne refl)
moved_opened G (r ∷ []) t S ne = record { yields = refl; holes = omega arith }
moved_opened G (r ∷ q ∷ qs) t S ne =
    moved_on S (frame r (first_of G r) [] ∷ S) (opened G (q ∷ qs) t (frame r (first_of G r) [] ∷ S)) (t ∷ []) 0 0
    (record { yields = refl; holes = omega arith }) (moved_opened G (q ∷ qs) t (frame r (first_of G r) [] ∷ S) (λ z. cc))

moved_start : (G : Table) (w : What) (f : Frame) (p : ℕ) (t : Tok) (S : Stack) → takes G w (key_of t) ≡ true → Moved (f ∷ S) (start_in G w f p t S) (t ∷ []) 0
moved_start G nothing f p t S h = absurd (cc)
moved_start G (token ks) f p t S h = record { yields = sym (append_assoc (stack_yield S) (rev_yield f.done) (t ∷ [])); holes = omega arith }
moved_start G (operand s n) f p t S h =
    moved_on (f ∷ S) (frame f.number p f.done ∷ S) (opened G (G.chain s (key_of t)) t (frame f.number p f.done ∷ S)) (t ∷ []) 0 0
    (record { yields = sym (append-nil (stack_yield S ++ rev_yield f.done)); holes = omega arith })
    (moved_opened G (G.chain s (key_of t)) t (frame f.number p f.done ∷ S) (λ z. let x : begins_by G n [] ≡ true = subst (λ xs. begins_by G n xs ≡ true) z h in cc))

pub grower_operand : (G : Table) (w : What) (k g : ℕ) → grower_in G w k ≡ Some g → (s : ℕ) × (G.grower s k ≡ Some g)
grower_operand G nothing k g h = absurd (cc)
grower_operand G (token ks) k g h = absurd (cc)
grower_operand G (operand s n) k g h = (s, h)

moved_grown : (G : Table) → Found G → (o : Option ℕ) (r at : ℕ) (done : List (ℕ × Part)) (t : Tok) (S U : Stack) → ((g : ℕ) → o ≡ Some g → takes G (G.what g (first_of G g)) (key_of t) ≡ true) →
    grown G o (frame r at done) done t S ≡ fit U → Moved (frame r at done ∷ S) U (t ∷ []) 0
moved_grown G L None r at done t S U can h = absurd (cc)
moved_grown G L (Some g) r at [] t S U can h = absurd (cc)
moved_grown G L (Some g) r at (d ∷ ds) t S U can h =
    let (same, high, few) = within_parts (length S + 2 + part_height d.1) (start_at G (frame g 0 ((0, d.1) ∷ [])) (first_of G g) t (frame r at ds ∷ S)) U h in
    let m = moved_start G (G.what g (first_of G g)) (frame g 0 ((0, d.1) ∷ [])) (first_of G g) t (frame r at ds ∷ S) (can g refl) in
    subst (λ U. Moved (frame r at (d ∷ ds) ∷ S) U (t ∷ []) 0) same (record {
      yields = m.yields ∙ ap (λ y. y ++ (t ∷ [])) (append_assoc (stack_yield S) (rev_yield ds) (part_yield d.1));
      holes = let x = m.holes in omega arith;
    })

moved_take : (G : Table) → Found G → (place : Place) (f : Frame) (S : Stack) (t : Tok) (U : Stack) → place_in G f t ≡ place → take_at G place f S t no_fit ≡ fit U → Moved (f ∷ S) U (t ∷ []) 0
moved_take G L nowhere f S t U e h = absurd (cc)
moved_take G L growth f S t U e h = moved_grown G L (grower_in G (G.what f.number f.at) (key_of t)) f.number f.at f.done t S U
    (λ g by. let (s, is) = grower_operand G (G.what f.number f.at) (key_of t) g by in (L.grower_left s (key_of t) g is).3) h
moved_take G L (at_spot p) f S t U e h =
    let (same, low, few) = within_parts 0 (start_at G f p t S) U h in
    let (may, can) = place_may G f.number f.at (key_of t) p (last_done (G.what f.number f.at) f.done) e in
    subst (λ U. Moved (f ∷ S) U (t ∷ []) 0) same (moved_start G (G.what f.number p) f p t S can)

other_take : (G : Table) (place : Place) (f : Frame) (S : Stack) (t : Tok) (other : Fit) → (place ≡ nowhere → ⊥) → take_at G place f S t other ≡ take_at G place f S t no_fit
other_take G nowhere f S t other ne = absurd (ne refl)
other_take G growth f S t other ne = refl
other_take G (at_spot p) f S t other ne = refl

moved_fits : (G : Table) → Found G → (t : Tok) (S : Stack) (f : Frame) (U : Stack) → fits_at G f S t ≡ fit U → Moved (f ∷ S) U (t ∷ []) 0
moved_fits G L t [] f U h = moved_take G L (place_in G f t) f [] t U refl h
moved_fits G L t (g ∷ S) f U h = by (place_in G f t) refl (G.ends f.number f.at) (moved_fits G L t S (put f g) U) h
  where
    by : (place : Place) → place_in G f t ≡ place → (b : Bool) → (fits_at G (put f g) S t ≡ fit U → Moved (put f g ∷ S) U (t ∷ []) 0) →
        take_at G place f (g ∷ S) t (if b then fits_at G (put f g) S t else no_fit) ≡ fit U → Moved (f ∷ g ∷ S) U (t ∷ []) 0
    by nowhere e true go h = moved_on (f ∷ g ∷ S) (put f g ∷ S) U (t ∷ []) 0 0 (moved_put f g S) (go h)
    by nowhere e false go h = absurd (cc)
    by growth e b go h = moved_take G L growth f (g ∷ S) t U e h
    by (at_spot p) e b go h = moved_take G L (at_spot p) f (g ∷ S) t U e h

-- reached with m more missing parts
abbrev pub Reached : Stack → Tok → Stack → ℕ → ℕ → Type 0
Reached S t U h n = (m : ℕ) × (n ≡ h + m) × Moved S U (t ∷ []) m

moved_at : (G : Table) → Found G → (place : Place) (f : Frame) (S : Stack) (t : Tok) (h n : ℕ) (other : Reach) (U : Stack) → place_in G f t ≡ place → at_frame G place f S t h other ≡ reached (fit U) n →
    Reached (f ∷ S) t U h n ⊎ (other ≡ reached (fit U) n)
moved_at G L nowhere f S t h n other U e i = inr i
moved_at G L growth f S t h n other U e i = let a : take_at G growth f S t no_fit ≡ fit U = cc in let b : h ≡ n = cc in inl (0, omega arith, moved_take G L growth f S t U e a)
moved_at G L (at_spot p) f S t h n other U e i = let a : take_at G (at_spot p) f S t no_fit ≡ fit U = cc in let b : h ≡ n = cc in inl (0, omega arith, moved_take G L (at_spot p) f S t U e a)

after_missing : (f : Frame) (p place : ℕ) (S : Stack) (t : Tok) (U : Stack) (h n : ℕ) → Reached (missing_at f p place ∷ S) t U (h + 1) n → Reached (f ∷ S) t U h n
after_missing f p place S t U h n (m, e, r) = (1 + m, omega arith, moved_on (f ∷ S) (missing_at f p place ∷ S) U (t ∷ []) 1 m (moved_missing f p place S) r)

moved_past : (G : Table) → Found G → (f : Frame) (S : Stack) (t : Tok) (place h n : ℕ) (es : List Edge) (U : Stack) → past_operand G f S t place h es ≡ reached (fit U) n → Reached (f ∷ S) t U h n
moved_past G L f S t place h n [] U i = absurd (cc)
moved_past G L f S t place h n (e ∷ es) U i =
    by (is_operand (G.what f.number e.spot) && allowed e.behind (last_done (G.what f.number f.at) f.done)) (moved_past G L f S t place h n es U) i
  where
    by : (b : Bool) → (past_operand G f S t place h es ≡ reached (fit U) n → Reached (f ∷ S) t U h n) →
        (if b then at_frame G (place_in G (missing_at f e.spot place) t) (missing_at f e.spot place) S t (h + 1) (past_operand G f S t place h es) else past_operand G f S t place h es) ≡ reached (fit U) n → Reached (f ∷ S) t U h n
    by false go i = go i
    by true go i = elim (moved_at G L (place_in G (missing_at f e.spot place) t) (missing_at f e.spot place) S t (h + 1) n (past_operand G f S t place h es) U refl i) [
      | inl r ↦ after_missing f e.spot place S t U h n r
      | inr o ↦ go o
    ]

pub moved_or : (A : Type 0) (a b : Reach) (U : Stack) (n : ℕ) → or_reach a b ≡ reached (fit U) n → (a ≡ reached (fit U) n → A) → (b ≡ reached (fit U) n → A) → A
moved_or A unreached b U n h f g = g h
moved_or A (reached x m) b U n h f g = f h

moved_in : (G : Table) → Found G → (fuel : ℕ) (f : Frame) (S : Stack) (t : Tok) (place h n : ℕ) (U : Stack) → reach_in fuel G f S t place h ≡ reached (fit U) n → Reached (f ∷ S) t U h n
moved_in G L zero f S t place h n U i = absurd (cc)
moved_in G L (suc fuel) f S t place h n U i =
    elim (moved_at G L (place_in G f t) f S t h n (or_reach (past_operand G f S t place h (G.next f.number f.at)) (on_edge (must_of G f) unreached (λ e. reach_in fuel G (missing_at f e.spot place) S t place (h + 1)))) U refl i) [
      | inl r ↦ r
      | inr o ↦ moved_or (Reached (f ∷ S) t U h n) (past_operand G f S t place h (G.next f.number f.at)) (on_edge (must_of G f) unreached (λ e. reach_in fuel G (missing_at f e.spot place) S t place (h + 1))) U n o
          (moved_past G L f S t place h n (G.next f.number f.at) U)
          (must (must_of G f) (λ e. moved_in G L fuel (missing_at f e.spot place) S t place (h + 1) n U))
    ]
  where
    must : (o : Option Edge) → ((e : Edge) → reach_in fuel G (missing_at f e.spot place) S t place (h + 1) ≡ reached (fit U) n → Reached (missing_at f e.spot place ∷ S) t U (h + 1) n) →
        on_edge o unreached (λ e. reach_in fuel G (missing_at f e.spot place) S t place (h + 1)) ≡ reached (fit U) n → Reached (f ∷ S) t U h n
    must None go i = absurd (cc)
    must (Some e) go i = after_missing f e.spot place S t U h n (go e i)

pub moved_filled : (G : Table) (fuel : ℕ) (f : Frame) (place : ℕ) (S : Stack) → Moved (f ∷ S) ((filled fuel G f place).0 ∷ S) [] (filled fuel G f place).1
moved_filled G zero f place S = record { yields = sym (append-nil (stack_yield S ++ rev_yield f.done)); holes = omega arith }
moved_filled G (suc fuel) f place S = must (must_of G f) (λ e. moved_filled G fuel (missing_at f e.spot place) place S)
  where
    must : (o : Option Edge) → ((e : Edge) → Moved (missing_at f e.spot place ∷ S) ((filled fuel G (missing_at f e.spot place) place).0 ∷ S) [] (filled fuel G (missing_at f e.spot place) place).1) →
        Moved (f ∷ S) ((on_edge o (f, 0) (λ e. one_more (filled fuel G (missing_at f e.spot place) place))).0 ∷ S) [] (on_edge o (f, 0) (λ e. one_more (filled fuel G (missing_at f e.spot place) place))).1
    must None go = record { yields = sym (append-nil (stack_yield S ++ rev_yield f.done)); holes = omega arith }
    must (Some e) go =
        let m = moved_on (f ∷ S) (missing_at f e.spot place ∷ S) ((filled fuel G (missing_at f e.spot place) place).0 ∷ S) [] 1 (filled fuel G (missing_at f e.spot place) place).1 (moved_missing f e.spot place S) (go e) in
        record { yields = m.yields; holes = let x = m.holes in omega arith }

moved_out : (G : Table) → Found G → (t : Tok) (place : ℕ) (S : Stack) (f : Frame) (h n : ℕ) (U : Stack) → reach_out G f S t place h ≡ reached (fit U) n → Reached (f ∷ S) t U h n
moved_out G L t place [] f h n U i = moved_in G L most_parts f [] t place h n U i
moved_out G L t place (g ∷ S) f h n U i =
    let r = filled most_parts G f place in
    moved_or (Reached (f ∷ g ∷ S) t U h n) (reach_in most_parts G f (g ∷ S) t place h) (reach_out G (put (filled most_parts G f place).0 g) S t place (h + (filled most_parts G f place).1)) U n i
    (moved_in G L most_parts f (g ∷ S) t place h n U)
    (λ o. let (m, e, k) = moved_out G L t place S (put (filled most_parts G f place).0 g) (h + (filled most_parts G f place).1) n U o in (
      (filled most_parts G f place).1 + m,
      omega arith,
      moved_on (f ∷ g ∷ S) ((filled most_parts G f place).0 ∷ g ∷ S) U (t ∷ []) (filled most_parts G f place).1 m (moved_filled G most_parts f place (g ∷ S))
          (moved_after ((filled most_parts G f place).0 ∷ g ∷ S) (put (filled most_parts G f place).0 g ∷ S) U (t ∷ []) m (moved_put (filled most_parts G f place).0 g S) k),
    ))

-- one token: it is taken, or it is left out by its fault; the fault counts the missing parts
pub record Took (S : Stack) (t : Tok) (r : Stepped) : Type 0 where
  pub token : (Moved S r.stack (t ∷ []) (added_in (some_fault r.fault [])) × (left_out (some_fault r.fault []) ≡ [])) ⊎
      ((r.stack ≡ S) × (left_out (some_fault r.fault []) ≡ t ∷ []) × (added_in (some_fault r.fault []) ≡ 0))

pub took : (G : Table) → Found G → (S : Stack) (place : ℕ) (t : Tok) → Took S t (step G S place t)
took G L S place t = subst (Took S t) (sym (step_is G S place t)) (by (fits G S t) refl)
  where
    fitted : (S U : Stack) → fits G S t ≡ fit U → Moved S U (t ∷ []) 0
    fitted [] U h = absurd (cc)
    fitted (f ∷ S) U h = moved_fits G L t S f U h

    from : (S : Stack) (U : Stack) (n : ℕ) → reach_from G S t place ≡ reached (fit U) n → Reached S t U 0 n
    from [] U n h = absurd (cc)
    from (f ∷ S) U n h = moved_out G L t place S f 0 n U h

    out : (x : Reach) → reach_from G S t place ≡ x → Took S t (after_reach S place t x)
    out unreached e = record { token = inr (refl, refl, refl) }
    out (reached no_fit n) e = record { token = inr (refl, refl, refl) }
    out (reached deep n) e = record { token = inr (refl, refl, refl) }
    out (reached (fit U) n) e = let (m, is, r) = from S U n e in record { token = inl (subst (λ k. Moved S U (t ∷ []) k) (omega arith) r, refl) }

    by : (x : Fit) → fits G S t ≡ x → Took S t (after_fit G S place t x)
    by (fit U) e = record { token = inl (fitted S U e, refl) }
    by deep e = record { token = inr (refl, refl, refl) }
    by no_fit e = out (reach_from G S t place) refl

-- the whole tree
pub record Whole (S : Stack) (r : Tree × ℕ) : Type 0 where
  pub yields : yield_of r.0 ≡ stack_yield S
  pub holes : holes_of r.0 ≡ stack_holes S + r.1

closed_counts : (G : Table) (place : ℕ) (S : Stack) (f : Frame) → Whole (f ∷ S) (closed_up G f S place)
closed_counts G place [] f =
    let m = moved_filled G most_parts f place [] in
    record {
      yields = onto_yield (filled most_parts G f place).0.done no_parts ∙ append-nil (rev_yield (filled most_parts G f place).0.done) ∙ m.yields ∙ append-nil (rev_yield f.done);
      holes = let h = onto_holes (filled most_parts G f place).0.done no_parts in let x = m.holes in omega arith;
    }
closed_counts G place (g ∷ S) f =
    let m = moved_filled G most_parts f place (g ∷ S) in
    let p = moved_put (filled most_parts G f place).0 g S in
    let w = closed_counts G place S (put (filled most_parts G f place).0 g) in
    record {
      yields = w.yields ∙ p.yields ∙ append-nil (stack_yield ((filled most_parts G f place).0 ∷ g ∷ S)) ∙ m.yields ∙ append-nil (stack_yield (f ∷ g ∷ S));
      holes = let x = m.holes in let y = p.holes in let z = w.holes in omega arith;
    }

pub close_counts : (G : Table) (S : Stack) (place : ℕ) → Whole S (close_up G S place)
close_counts G [] place = record { yields = refl; holes = refl }
close_counts G (f ∷ S) place = closed_counts G place S f

pub fault_counts : (n place : ℕ) → (left_out (last_fault n place) ≡ []) × (added_in (last_fault n place) ≡ n)
fault_counts zero place = (refl, refl)
fault_counts (suc n) place = (refl, omega arith)

pub record Lossless (S : Stack) (ts : List Tok) (r : Tree × List Fault) : Type 0 where
  pub more : List Tok
  pub yields : yield_of r.0 ≡ stack_yield S ++ more
  pub merged : Merged ts more (left_out r.1)
  pub holes : holes_of r.0 ≡ stack_holes S + added_in r.1

run_lossless : (G : Table) → Found G → (ts : List Tok) (S : Stack) (place : ℕ) → Lossless S ts (recovered G ts S place)
run_lossless G L [] S place =
    let w = close_counts G S place in
    let (a, b) = fault_counts (close_up G S place).1 place in
    record { more = []; yields = w.yields ∙ sym (append-nil (stack_yield S)); merged = (refl, a); holes = let h = w.holes in omega arith }
run_lossless G L (t ∷ ts) S place = by (step G S place t) (took G L S place t) (run_lossless G L ts (step G S place t).stack (step G S place t).place)
  where
    outs : (x : Option Fault) (fs : List Fault) → left_out (some_fault x fs) ≡ left_out (some_fault x []) ++ left_out fs
    outs None fs = refl
    outs (Some (added p n)) fs = refl
    outs (Some (skipped u)) fs = refl
    outs (Some (too_deep u)) fs = refl
    outs (Some (cut p)) fs = refl

    adds : (x : Option Fault) (fs : List Fault) → added_in (some_fault x fs) ≡ added_in (some_fault x []) + added_in fs
    adds None fs = omega arith
    adds (Some (added p n)) fs = omega arith
    adds (Some (skipped u)) fs = omega arith
    adds (Some (too_deep u)) fs = omega arith
    adds (Some (cut p)) fs = omega arith

    by : (r : Stepped) → Took S t r → Lossless r.stack ts (recovered G ts r.stack r.place) →
        Lossless S (t ∷ ts) (let q = recovered G ts r.stack r.place in (q.0, some_fault r.fault q.1))
    by r k l = elim (k.token) [
      | inl (m, none) ↦ record {
        more = t ∷ l.more;
        yields = l.yields ∙ ap (λ y. y ++ l.more) m.yields ∙ append_assoc (stack_yield S) (t ∷ []) l.more;
        merged = inl (l.more, refl, subst (λ z. Merged ts l.more z) (sym (outs r.fault (recovered G ts r.stack r.place).1 ∙ ap (λ z. z ++ left_out (recovered G ts r.stack r.place).1) none)) l.merged);
        holes = let a = m.holes in let b = l.holes in let c = adds r.fault (recovered G ts r.stack r.place).1 in omega arith;
      }
      | inr (same, one, no_more) ↦ record {
        more = l.more;
        yields = l.yields ∙ ap (λ U. stack_yield U ++ l.more) same;
        merged = inr (left_out (recovered G ts r.stack r.place).1, outs r.fault (recovered G ts r.stack r.place).1 ∙ ap (λ z. z ++ left_out (recovered G ts r.stack r.place).1) one, l.merged);
        holes = let a = ap stack_holes same in let b = l.holes in let c = adds r.fault (recovered G ts r.stack r.place).1 in omega arith;
      }
    ]

-- the text's tokens are those of the tree and those left out, and the faults count the missing parts
pub lossless : (G : Table) → Found G → (ts : List Tok) → Merged ts (yield_of (recover G ts).0) (left_out (recover G ts).1) × (holes_of (recover G ts).0 ≡ added_in (recover G ts).1)
unfolding recover
lossless G L ts = let l = run_lossless G L ts (frame G.root 0 [] ∷ []) 0 in
    (subst (λ y. Merged ts y (left_out (recovered G ts (frame G.root 0 [] ∷ []) 0).1)) (sym l.yields) l.merged, let h = l.holes in omega arith)
