-- A tree in the grammar is the one that the machine gives for its tokens.
use Rattle.std.proofs.Common.{◌≡◌, ℕ, ◌+◌, ◌≤◌, Bool, true, false, List, [], ◌∷◌, ◌++◌, length, Option, Some, None, refl, sym, ◌∙◌, ap, subst, arith, append_assoc}
use Rattle.std.proofs.lemmas.Bool.{le-leb}
use Rattle.token_model.specs.Kinds.{Tok}
use Rattle.grammar_model.specs.Keys.{key_of}
use Rattle.grammar_model.specs.Trees.{Tree, Forest, Part, node, no_parts, part, taken, inner, missing, row_of, yield_of, part_yield, forest_yield, part_height}
use Rattle.grammar_model.specs.Tables.{Table, is_text, What, nothing, token, operand, Last, plain, has, begins_by, takes, Place, nowhere, growth, at_spot, first_place}
use Rattle.grammar_model.specs.Grammar.{last_in, MayCome, StandsIn, left_last, BeginsWith, WellFormed, IsFilled, Follows, IsPartFormed, PartFree, Leads, Proper, ProperNode, ProperPart, ProperParts, Grows, Roomy, RoomyNode, RoomyParts, RoomyPart}
use Rattle.grammar_model.specs.Machine.{Frame, frame, Stack, first_of, opened, start_at, no_fit, fit, within, grower_in, grown, take_at, place_in, fits_at, fits, on_fit, play}
use Rattle.grammar_laws.proofs.Laws.{no_text, Separate, leads_map, leads_both, Begun, begun_by, leads}
use Rattle.grammar_laws.proofs.Opens.{open_tree, open_forest, open_part, closing, reached, Reaches}

-- a run whose first token begins an operand of a sort
abbrev pub begun : Table → ℕ → List Tok → Stack → Option Stack
begun G s [] S = None
begun G s (t ∷ ts) S = on_fit (within 0 (opened G (G.chain s (key_of t)) t S)) (play G ts)

-- a run whose first token stands at, or begins, the part at a spot of a frame
abbrev pub started : Table → ℕ → Frame → ℕ → List Tok → Stack → Option Stack
started G n f p [] S = None
started G n f p (t ∷ ts) S = on_fit (within n (start_at G f p t S)) (play G ts)

pub within_0 : (n : ℕ) (S : Stack) → n ≤ 512 → within n S ≡ within 0 S
within_0 n S le = rw (le-leb n 512 le) refl

within_fit : (n : ℕ) (S : Stack) → n ≤ 512 → length S ≤ 512 → within n S ≡ fit S
within_fit n S le le' = rw (le-leb n 512 le, le-leb (length S) 512 le') refl

started_begun : (G : Table) (n r at p s m : ℕ) (done : List (ℕ × Part)) (y : List Tok) (S : Stack) → n ≤ 512 → G.what r p ≡ operand s m →
    started G n (frame r at done) p y S ≡ begun G s y (frame r p done ∷ S)
started_begun G n r at p s m done [] S le is = refl
started_begun G n r at p s m done (t ∷ y) S le is = rw (is, within_0 n (opened G (G.chain s (key_of t)) t (frame r p done ∷ S)) le) refl

-- a row that begins with an operand
begun_inner : (G : Table) (r p s m s' : ℕ) (y z : List Tok) (S : Stack) → Leads y (λ t. G.chain s' (key_of t) ≡ r ∷ G.chain s (key_of t) × (Begun G m (G.chain s (key_of t)))) → first_of G r ≡ p →
    begun G s' (y ++ z) S ≡ begun G s (y ++ z) (frame r p [] ∷ S)
begun_inner G r p s m s' [] z S h e = absurd h
begun_inner G r p s m s' (t ∷ y) z S h e =
    let b = h.1 in
    let c : opened G (G.chain s' (key_of t)) t S ≡ opened G (G.chain s (key_of t)) t (frame r p [] ∷ S) = rw (h.0, b.is, e) refl in
    ap (λ U. on_fit (within 0 U) (play G (y ++ z))) c

pub take_fits : (G : Table) (f : Frame) (S : Stack) (t : Tok) (place : Place) → place_in G f t ≡ place → (place ≡ nowhere → ⊥) → fits_at G f S t ≡ take_at G place f S t no_fit
take_fits G f [] t place e ne = rw e refl
take_fits G f (g ∷ S) t nowhere e ne = absurd (ne refl)
take_fits G f (g ∷ S) t growth e ne = rw e refl
take_fits G f (g ∷ S) t (at_spot p) e ne = rw e refl

-- from a stack that reaches a frame, a run goes on at the frame's spot
step_to : (G : Table) (r at p : ℕ) (before : Part) (done : List (ℕ × Part)) (y z : List Tok) (U S : Stack) →
    Leads y (λ t. Reaches G t r at ((at, before) ∷ done) U S × (first_place G r at (last_in (G.what r at) before) (key_of t) ≡ at_spot p)) →
    play G (y ++ z) U ≡ started G 0 (frame r at ((at, before) ∷ done)) p (y ++ z) S
step_to G r at p before done [] z U S h = absurd h
step_to G r at p before done (t ∷ y) z U S h =
    let e = h.0 ∙ take_fits G (frame r at ((at, before) ∷ done)) S t (at_spot p) h.1 (λ z. cc) in
    ap (λ F. on_fit F (play G (y ++ z))) e

-- from a stack that reaches the operand in F, a run goes on with its growth
step_growth : (G : Table) (F : Frame) (g p : ℕ) (c : Part) (y z : List Tok) (U S : Stack) → first_of G g ≡ p →
    Leads y (λ t. Reaches G t F.number F.at ((F.at, c) ∷ F.done) U S × (place_in G (frame F.number F.at ((F.at, c) ∷ F.done)) t ≡ growth) × (grower_in G (G.what F.number F.at) (key_of t) ≡ Some g)) →
    play G (y ++ z) U ≡ started G (length S + 2 + part_height c) (frame g 0 ((0, c) ∷ [])) p (y ++ z) (F ∷ S)
step_growth G F g p c [] z U S e h = absurd h
step_growth G F g p c (t ∷ y) z U S e h =
    let a = h.0 ∙ take_fits G (frame F.number F.at ((F.at, c) ∷ F.done)) S t growth h.1 (λ z. cc) in
    let b : grown G (grower_in G (G.what F.number F.at) (key_of t)) (frame F.number F.at ((F.at, c) ∷ F.done)) ((F.at, c) ∷ F.done) t S
    ≡ within (length S + 2 + part_height c) (start_at G (frame g 0 ((0, c) ∷ [])) p t (F ∷ S)) = rw (h.2, e) refl in
    ap (λ F. on_fit F (play G (y ++ z))) (a ∙ b)

last_left : (s n : ℕ) (c : Part) → last_in (operand s n) c ≡ left_last c
last_left s n (taken t) = refl
last_left s n (inner t) = refl
last_left s n (missing place) = refl

place_growth : (G : Table) (r q at n k : ℕ) (c : Part) → G.what q at ≡ operand (G.sort r) n → n ≤ G.stand r → G.left_ok r (left_last c) ≡ true → G.grower (G.sort r) k ≡ Some r →
    first_place G q at (last_in (G.what q at) c) k ≡ growth
unfolding first_place
place_growth G r q at n k c is le ok by = rw (is, by, le-leb n (G.stand r) le, last_left (G.sort r) n c, ok) refl

grower_waits : (G : Table) (w : What) (s n k g : ℕ) → w ≡ operand s n → G.grower s k ≡ Some g → grower_in G w k ≡ Some g
grower_waits G w s n k g is by = rw is by

as_operand : (G : Table) (w : What) (T : Tree) → StandsIn G w (inner T) → (s : ℕ) × (n : ℕ) × (w ≡ operand s n) × (G.sort (row_of T) ≡ s) × (n ≤ G.stand (row_of T))
as_operand G nothing T h = absurd h
as_operand G (token ks) T h = absurd h
as_operand G (operand s n) T h = (s, n, refl, h.0, h.1)

as_token : (G : Table) (w : What) (t : Tok) → StandsIn G w (taken t) → (ks : List ℕ) × (w ≡ token ks) × (has ks (key_of t) ≡ true)
as_token G nothing t h = absurd h
as_token G (operand s n) t h = absurd h
as_token G (token ks) t h = (ks, refl, h)

-- the first token of a part stands at, or begins, its spot
pub part_takes : (G : Table) → Separate G → (r p : ℕ) (c : Part) → StandsIn G (G.what r p) c → IsPartFormed G c → ProperPart G c → Leads (part_yield c) (λ t. takes G (G.what r p) (key_of t) ≡ true)
part_takes G L r p (missing place) st wf pr = absurd pr
part_takes G L r p (taken t) st wf pr = let (ks, is, h) = as_token G (G.what r p) t st in rw is h
part_takes G L r p (inner T) st wf pr =
    let (s, m, is, same, fits) = as_operand G (G.what r p) T st in
    let ih = leads G L m T wf pr (ap is_text same ∙ L.slots r p s m is) fits in
    leads_map (λ t. begins_by G m (G.chain (G.sort (row_of T)) (key_of t)) ≡ true) (λ t. takes G (G.what r p) (key_of t) ≡ true) (yield_of T) (λ t h. rw (is, sym same) h) ih

waits_for : (G : Table) (r p s m : ℕ) (T : Tree) → G.what r p ≡ operand s m → G.sort (row_of T) ≡ s → G.what r p ≡ operand (G.sort (row_of T)) m
waits_for G r p s m T is same = is ∙ ap (λ s. operand s m) (sym same)

start_token : (G : Table) (n r at p : ℕ) (ks : List ℕ) (t : Tok) (done : List (ℕ × Part)) (X : List Tok) (S : Stack) → G.what r p ≡ token ks → n ≤ 512 → length S + 1 ≤ 512 →
    started G n (frame r at done) p (t ∷ X) S ≡ play G X (frame r p ((p, taken t) ∷ done) ∷ S)
start_token G n r at p ks t done X S is le le' = rw (is, within_fit n (frame r p ((p, taken t) ∷ done) ∷ S) le (omega arith)) refl

begin_token : (G : Table) (r p s : ℕ) (t : Tok) (X : List Tok) (S : Stack) → G.chain s (key_of t) ≡ r ∷ [] → first_of G r ≡ p → length S + 1 ≤ 512 →
    begun G s (t ∷ X) S ≡ play G X (frame r p ((p, taken t) ∷ []) ∷ S)
begin_token G r p s t X S is e le = rw (is, e, within_fit 0 (frame r p ((p, taken t) ∷ []) ∷ S) (omega arith) (omega arith)) refl

abbrev opened_left : Part → Stack → Stack
opened_left (taken t) S = S
opened_left (inner T) S = open_tree T S
opened_left (missing place) S = S

reached_left : (G : Table) → Separate G → (r : ℕ) (c : Part) → G.left_ok r (left_last c) ≡ true → IsPartFormed G c → ProperPart G c → (F : Frame) (S : Stack) → (t : Tok) → PartFree G (key_of t) c →
    Reaches G t F.number F.at ((F.at, c) ∷ F.done) (opened_left c (F ∷ S)) S
reached_left G L r (taken u) ok wf pr F S t free = absurd (L.left_plain r ok)
reached_left G L r (missing place) ok wf pr F S t free = absurd pr
reached_left G L r (inner T) ok wf pr F S t free = closing G t T wf free F S

mutual
  pub enter : (G : Table) → Separate G → (T : Tree) → WellFormed G T → Proper G T → is_text (G.sort (row_of T)) ≡ false → (F : Frame) (S : Stack) → Roomy G (length S + 2) T →
      (n : ℕ) → G.what F.number F.at ≡ operand (G.sort (row_of T)) n → n ≤ G.stand (row_of T) → (ts : List Tok) →
      begun G (G.sort (row_of T)) (yield_of T ++ ts) (F ∷ S) ≡ play G ts (open_tree T (F ∷ S))
  enter G L (node r f) wf pr ne F S room n w le ts = enter_node G L r (G.has_left r) refl f wf pr ne F S room n w le ts

  enter_node : (G : Table) → Separate G → (r : ℕ) (b : Bool) → G.has_left r ≡ b → (f : Forest) → IsFilled G r f → ProperNode G r (G.has_left r) f → is_text (G.sort r) ≡ false → (F : Frame) (S : Stack) →
      RoomyNode G (length S + 2) (G.has_left r) f → (n : ℕ) → G.what F.number F.at ≡ operand (G.sort r) n → n ≤ G.stand r → (ts : List Tok) →
      begun G (G.sort r) (forest_yield f ++ ts) (F ∷ S) ≡ play G ts (open_forest r [] f (frame r 0 [] ∷ F ∷ S) (F ∷ S))
  enter_node G L r b e no_parts wf pr ne F S room n w le ts = absurd (no_text (G.sort r) (L.never_empty r wf.1) ne)
  enter_node G L r true e (part p c f) wf pr ne F S room n w le ts =
      let first = subst (λ b. BeginsWith G r b p c) e wf.0 in
      let own = subst (λ b. ProperNode G r b (part p c f)) e pr in
      let rm = subst (λ b. RoomyNode G (length S + 2) b (part p c f)) e room in
      let fol = subst (λ w. Follows G r 0 (last_in w c) f) (L.start r) (subst (λ q. Follows G r q (last_in (G.what r q) c) f) first.0 wf.2) in
      let rest : RoomyParts G (length (F ∷ S) + 2) f = subst (λ d. RoomyParts G d f) (omega arith) rm.2 in
      let one = enter_left G L r c e first.1 wf.1 own.0 ne F S rm.1 n w le (forest_yield f ++ ts) in
      let two = enter_behind G L r e f c first.1 fol own.1 ne F S rm.0 rest n w le (opened_left c (F ∷ S)) (open_part r [] 0 c (F ∷ S)) (reached_left G L r c first.1 wf.1 own.0 F S) ts in
      rw (first.0, append_assoc (part_yield c) (forest_yield f) ts) (one ∙ two)
  enter_node G L r false e (part p c f) wf pr ne F S room n w le ts =
      let first = subst (λ b. BeginsWith G r b p c) e wf.0 in
      let own = subst (λ b. ProperNode G r b (part p c f)) e pr in
      let rm = subst (λ b. RoomyNode G (length S + 2) b (part p c f)) e room in
      let lt : length (F ∷ S) + 1 ≤ 512 = let h = rm.0 in omega arith in
      let rc : RoomyPart G (length (F ∷ S) + 2) c = subst (λ d. RoomyPart G d c) (omega arith) rm.1 in
      let rf : RoomyParts G (length (F ∷ S) + 2) f = subst (λ d. RoomyParts G d f) (omega arith) rm.2 in
      let one = enter_first G L r p c e first.0 first.1 wf.1 own.0 (F ∷ S) lt rc (forest_yield f ++ ts) in
      let two = go_on G L r p c (last_in (G.what r p) c) f wf.2 own.1 (F ∷ S) lt rf [] (open_part r [] p c (F ∷ S)) (λ t free. reached G t r p c wf.1 free [] (F ∷ S)) ts in
      rw (append_assoc (part_yield c) (forest_yield f) ts) (one ∙ two)

  -- the left operand
  enter_left : (G : Table) → Separate G → (r : ℕ) (c : Part) → G.has_left r ≡ true → G.left_ok r (left_last c) ≡ true → IsPartFormed G c → ProperPart G c → is_text (G.sort r) ≡ false → (F : Frame) (S : Stack) →
      RoomyPart G (length S + 2) c → (n : ℕ) → G.what F.number F.at ≡ operand (G.sort r) n → n ≤ G.stand r → (X : List Tok) →
      begun G (G.sort r) (part_yield c ++ X) (F ∷ S) ≡ play G X (opened_left c (F ∷ S))
  enter_left G L r (taken t) e ok wf pr ne F S room n w le X = absurd (L.left_plain r ok)
  enter_left G L r (missing place) e ok wf pr ne F S room n w le X = absurd pr
  enter_left G L r (inner T) e ok wf pr ne F S room n w le X =
      let (same, more) = L.left_fits r (row_of T) e ok in
      subst (λ s. begun G s (yield_of T ++ X) (F ∷ S) ≡ play G X (open_tree T (F ∷ S))) same
      (enter G L T wf pr (ap is_text same ∙ ne) F S room n (w ∙ ap (λ s. operand s n) (sym same)) (omega arith) X)

  -- the parts behind the left operand
  enter_behind : (G : Table) → Separate G → (r : ℕ) → G.has_left r ≡ true → (f : Forest) (before : Part) → G.left_ok r (left_last before) ≡ true → Follows G r 0 plain f → Grows G r before f →
      is_text (G.sort r) ≡ false → (F : Frame) (S : Stack) → length S + 2 + part_height before ≤ 512 → RoomyParts G (length (F ∷ S) + 2) f → (n : ℕ) → G.what F.number F.at ≡ operand (G.sort r) n → n ≤ G.stand r →
      (U V : Stack) → ((t : Tok) → PartFree G (key_of t) before → Reaches G t F.number F.at ((F.at, before) ∷ F.done) U S) → (ts : List Tok) →
      play G (forest_yield f ++ ts) U ≡ play G ts (open_forest r ((0, before) ∷ []) f V (F ∷ S))
  enter_behind G L r e no_parts before ok fol own ne F S high room n w le U V reach ts = absurd (no_text (G.sort r) (L.never_empty r fol) ne)
  enter_behind G L r e (part p c f) before ok fol own ne F S high room n w le U V reach ts =
      let can = part_takes G L r p c fol.1 fol.2 own.1 in
      let by : Leads (part_yield c) (λ t. Reaches G t F.number F.at ((F.at, before) ∷ F.done) U S × (place_in G (frame F.number F.at ((F.at, before) ∷ F.done)) t ≡ growth) × (grower_in G (G.what F.number F.at) (key_of t) ≡ Some r)) =
      leads_map (λ t. PartFree G (key_of t) before × (takes G (G.what r p) (key_of t) ≡ true))
      (λ t. Reaches G t F.number F.at ((F.at, before) ∷ F.done) U S × (place_in G (frame F.number F.at ((F.at, before) ∷ F.done)) t ≡ growth) × (grower_in G (G.what F.number F.at) (key_of t) ≡ Some r))
      (part_yield c)
      (λ t h. let g = L.grower_is r p (key_of t) e fol.0 h.1 in
      (reach t h.0, place_growth G r F.number F.at n (key_of t) before w le ok g, grower_waits G (G.what F.number F.at) (G.sort r) n (key_of t) r w g))
      (leads_both (λ t. PartFree G (key_of t) before) (λ t. takes G (G.what r p) (key_of t) ≡ true) (part_yield c) own.0 can) in
      let lt : length (F ∷ S) + 1 ≤ 512 = omega arith in
      let one = step_growth G F r p before (part_yield c) (forest_yield f ++ ts) U S (L.first_only r p fol.0) by in
      let two = enter_part G L r p c fol.1 fol.2 own.1 (length S + 2 + part_height before) high (F ∷ S) lt room.0 0 ((0, before) ∷ []) (forest_yield f ++ ts) in
      let three = go_on G L r p c (last_in (G.what r p) c) f fol.3 own.2 (F ∷ S) lt room.1 ((0, before) ∷ []) (open_part r ((0, before) ∷ []) p c (F ∷ S))
      (λ t free. reached G t r p c fol.2 free ((0, before) ∷ []) (F ∷ S)) ts in
      rw (append_assoc (part_yield c) (forest_yield f) ts) (one ∙ two ∙ three)

  -- the first part of a row without a left operand
  enter_first : (G : Table) → Separate G → (r p : ℕ) (c : Part) → G.has_left r ≡ false → MayCome (G.next r 0) plain p → StandsIn G (G.what r p) c → IsPartFormed G c → ProperPart G c → (S : Stack) →
      length S + 1 ≤ 512 → RoomyPart G (length S + 2) c → (X : List Tok) →
      begun G (G.sort r) (part_yield c ++ X) S ≡ play G X (open_part r [] p c S)
  enter_first G L r p (missing place) e may st wf pr S lt room X = absurd pr
  enter_first G L r p (taken t) e may st wf pr S lt room X =
      let (ks, is, h) = as_token G (G.what r p) t st in
      begin_token G r p (G.sort r) t X S (L.chain_token r p (key_of t) ks e may is h) (L.first_only r p may) lt
  enter_first G L r p (inner T) e may st wf pr S lt room X =
      let (s, m, is, same, fits) = as_operand G (G.what r p) T st in
      let ne : is_text (G.sort (row_of T)) ≡ false = ap is_text same ∙ L.slots r p s m is in
      let is' = waits_for G r p s m T is same in
      let lead = leads G L m T wf pr ne fits in
      let one = begun_inner G r p (G.sort (row_of T)) m (G.sort r) (yield_of T) X S
      (leads_map (λ t. begins_by G m (G.chain (G.sort (row_of T)) (key_of t)) ≡ true) (λ t. (G.chain (G.sort r) (key_of t) ≡ r ∷ G.chain (G.sort (row_of T)) (key_of t)) × Begun G m (G.chain (G.sort (row_of T)) (key_of t))) (yield_of T)
      (λ t h. let b = begun_by G m (G.chain (G.sort (row_of T)) (key_of t)) h in
      (L.chain_operand r p (key_of t) (G.sort (row_of T)) m b.head b.rest e may is' b.is b.stands ∙ ap (λ xs. r ∷ xs) (sym b.is), b)) lead)
      (L.first_only r p may) in
      one ∙ enter G L T wf pr ne (frame r p []) S room m is' fits X

  -- a part whose first token stands at, or begins, its spot
  pub enter_part : (G : Table) → Separate G → (r p : ℕ) (c : Part) → StandsIn G (G.what r p) c → IsPartFormed G c → ProperPart G c → (n : ℕ) → n ≤ 512 → (S : Stack) → length S + 1 ≤ 512 → RoomyPart G (length S + 2) c →
      (at : ℕ) (done : List (ℕ × Part)) (X : List Tok) →
      started G n (frame r at done) p (part_yield c ++ X) S ≡ play G X (open_part r done p c S)
  enter_part G L r p (missing place) st wf pr n le S lt room at done X = absurd pr
  enter_part G L r p (taken t) st wf pr n le S lt room at done X =
      let (ks, is, h) = as_token G (G.what r p) t st in start_token G n r at p ks t done X S is le lt
  enter_part G L r p (inner T) st wf pr n le S lt room at done X =
      let (s, m, is, same, fits) = as_operand G (G.what r p) T st in
      let ne : is_text (G.sort (row_of T)) ≡ false = ap is_text same ∙ L.slots r p s m is in
      let is' = waits_for G r p s m T is same in
      started_begun G n r at p (G.sort (row_of T)) m done (yield_of T ++ X) S le is' ∙ enter G L T wf pr ne (frame r p done) S room m is' fits X

  -- the parts behind a part
  pub go_on : (G : Table) → Separate G → (r at : ℕ) (before : Part) (last : Last) (f : Forest) → Follows G r at last f → ProperParts G r at before f → (S : Stack) → length S + 1 ≤ 512 → RoomyParts G (length S + 2) f →
      (done : List (ℕ × Part)) (U : Stack) → ((t : Tok) → PartFree G (key_of t) before → Reaches G t r at ((at, before) ∷ done) U S) → (ts : List Tok) →
      play G (forest_yield f ++ ts) U ≡ play G ts (open_forest r ((at, before) ∷ done) f U S)
  go_on G L r at before last no_parts fol own S lt room done U reach ts = refl
  go_on G L r at before last (part p c f) fol own S lt room done U reach ts =
      let by = leads_map (λ t. PartFree G (key_of t) before × (first_place G r at (last_in (G.what r at) before) (key_of t) ≡ at_spot p))
      (λ t. Reaches G t r at ((at, before) ∷ done) U S × (first_place G r at (last_in (G.what r at) before) (key_of t) ≡ at_spot p)) (part_yield c) (λ t h. (reach t h.0, h.1)) own.0 in
      let one = step_to G r at p before done (part_yield c) (forest_yield f ++ ts) U S by in
      let two = enter_part G L r p c fol.1 fol.2 own.1 0 (omega arith) S lt room.0 at ((at, before) ∷ done) (forest_yield f ++ ts) in
      let three = go_on G L r p c (last_in (G.what r p) c) f fol.3 own.2 S lt room.1 ((at, before) ∷ done) (open_part r ((at, before) ∷ done) p c S)
      (λ t free. reached G t r p c fol.2 free ((at, before) ∷ done) S) ts in
      rw (append_assoc (part_yield c) (forest_yield f) ts) (one ∙ two ∙ three)
