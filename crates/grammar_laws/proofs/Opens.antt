-- The frames that are open where a tree ends.
use Rattle.std.proofs.Common.{◌≡◌, ℕ, Bool, true, false, List, [], ◌∷◌, refl, ◌∙◌}
use Rattle.token_model.specs.Kinds.{Tok}
use Rattle.grammar_model.specs.Keys.{key_of}
use Rattle.grammar_model.specs.Trees.{Tree, Forest, Part, node, no_parts, part, taken, inner, missing}
use Rattle.grammar_model.specs.Tables.{Table, Last, plain, nowhere, first_place}
use Rattle.grammar_model.specs.Grammar.{last_in, WellFormed, IsFilled, Follows, IsPartFormed, is_end, OnlyIf, Free, NodeFree, ForestFree, PartFree}
use Rattle.grammar_model.specs.Machine.{Frame, frame, Stack, onto, put, place_in, fits_at, fits, closed_at, closed}

abbrev mutual
  pub open_tree : Tree → Stack → Stack
  open_tree (node r f) S = open_forest r [] f (frame r 0 [] ∷ S) S

  -- U is open where nothing is left
  pub open_forest : ℕ → List (ℕ × Part) → Forest → Stack → Stack → Stack
  open_forest r done no_parts U S = U
  open_forest r done (part p c f) U S = open_forest r ((p, c) ∷ done) f (open_part r done p c S) S

  pub open_part : ℕ → List (ℕ × Part) → ℕ → Part → Stack → Stack
  open_part r done p (taken t) S = frame r p ((p, taken t) ∷ done) ∷ S
  open_part r done p (inner t) S = open_tree t (frame r p done ∷ S)
  open_part r done p (missing place) S = frame r p ((p, missing place) ∷ done) ∷ S

only_if : (b : Bool) (P Q : Type 0) → (P → Q) → OnlyIf b P → OnlyIf b Q
only_if true P Q h p = h p
only_if false P Q h p = tt

none : (G : Table) (r : ℕ) (t : Tok) → first_place G r 0 plain (key_of t) ≡ nowhere → place_in G (frame r 0 []) t ≡ nowhere
none G r t h = h

-- a frame that has no place for the token and can end gives its node to the one below
pub ended : (G : Table) (t : Tok) (f g : Frame) (S : Stack) → place_in G f t ≡ nowhere → G.ends f.number f.at ≡ true → fits_at G f (g ∷ S) t ≡ fits_at G (put f g) S t
ended G t f g S e1 e2 = rw (e1, e2) refl

abbrev pub Reaches : Table → Tok → ℕ → ℕ → List (ℕ × Part) → Stack → Stack → Type 0
Reaches G t r at done U S = fits G U t ≡ fits_at G (frame r at done) S t

mutual
  -- a token for which a tree has no place comes to the frame round the tree
  pub closing : (G : Table) (t : Tok) (T : Tree) → WellFormed G T → Free G (key_of t) T → (F : Frame) (S : Stack) →
      fits G (open_tree T (F ∷ S)) t ≡ fits_at G (frame F.number F.at ((F.at, inner T) ∷ F.done)) S t
  closing G t (node r f) wf free F S = closing_node G t r f wf free F S

  closing_node : (G : Table) (t : Tok) (r : ℕ) (f : Forest) → IsFilled G r f → NodeFree G (key_of t) r f → (F : Frame) (S : Stack) →
      fits G (open_forest r [] f (frame r 0 [] ∷ F ∷ S) (F ∷ S)) t ≡ fits_at G (frame F.number F.at ((F.at, inner (node r f)) ∷ F.done)) S t
  closing_node G t r no_parts wf free F S = ended G t (frame r 0 []) F S (none G r t free) wf.1
  closing_node G t r (part p c f) wf free F S =
      closing_rest G t r p (last_in (G.what r p) c) f wf.2 free.1 [] c F S (open_part r [] p c (F ∷ S))
      (only_if (is_end f) (PartFree G (key_of t) c × (first_place G r p (last_in (G.what r p) c) (key_of t) ≡ nowhere)) (Reaches G t r p ((p, c) ∷ []) (open_part r [] p c (F ∷ S)) (F ∷ S) × (first_place G r p (last_in (G.what r p) c) (key_of t) ≡ nowhere))
      (λ h. (reached G t r p c wf.1 h.0 [] (F ∷ S), h.1)) free.0)

  closing_rest : (G : Table) (t : Tok) (r p : ℕ) (last : Last) (f : Forest) → Follows G r p last f → ForestFree G (key_of t) r f → (done : List (ℕ × Part)) (c : Part) (F : Frame) (S : Stack) (U : Stack) →
      OnlyIf (is_end f) (Reaches G t r p ((p, c) ∷ done) U (F ∷ S) × (first_place G r p (last_in (G.what r p) c) (key_of t) ≡ nowhere)) →
      fits G (open_forest r ((p, c) ∷ done) f U (F ∷ S)) t ≡ fits_at G (frame F.number F.at ((F.at, inner (node r (onto done (part p c f)))) ∷ F.done)) S t
  closing_rest G t r p last no_parts fol free done c F S U h = h.0 ∙ ended G t (frame r p ((p, c) ∷ done)) F S h.1 fol
  closing_rest G t r p last (part p' c' f) fol free done c F S U h =
      closing_rest G t r p' (last_in (G.what r p') c') f fol.3 free.1 ((p, c) ∷ done) c' F S (open_part r ((p, c) ∷ done) p' c' (F ∷ S))
      (only_if (is_end f) (PartFree G (key_of t) c' × (first_place G r p' (last_in (G.what r p') c') (key_of t) ≡ nowhere))
      (Reaches G t r p' ((p', c') ∷ (p, c) ∷ done) (open_part r ((p, c) ∷ done) p' c' (F ∷ S)) (F ∷ S) × (first_place G r p' (last_in (G.what r p') c') (key_of t) ≡ nowhere))
      (λ h. (reached G t r p' c' fol.2 h.0 ((p, c) ∷ done) (F ∷ S), h.1)) free.0)

  -- the same for a part
  pub reached : (G : Table) (t : Tok) (r p : ℕ) (c : Part) → IsPartFormed G c → PartFree G (key_of t) c → (done : List (ℕ × Part)) (S : Stack) → Reaches G t r p ((p, c) ∷ done) (open_part r done p c S) S
  reached G t r p (taken u) wf free done S = refl
  reached G t r p (missing place) wf free done S = refl
  reached G t r p (inner T) wf free done S = closing G t T wf free (frame r p done) S

closed_below : (G : Table) (f g : Frame) (S : Stack) → G.ends f.number f.at ≡ true → closed_at G f (g ∷ S) ≡ closed_at G (put f g) S
closed_below G f g S e = rw e refl

mutual
  -- at the end a tree is closed as a whole
  pub closes : (G : Table) (T : Tree) → WellFormed G T → (F : Frame) (S : Stack) → closed G (open_tree T (F ∷ S)) ≡ closed_at G (frame F.number F.at ((F.at, inner T) ∷ F.done)) S
  closes G (node r f) wf F S = closes_node G r f wf F S

  closes_node : (G : Table) (r : ℕ) (f : Forest) → IsFilled G r f → (F : Frame) (S : Stack) →
      closed G (open_forest r [] f (frame r 0 [] ∷ F ∷ S) (F ∷ S)) ≡ closed_at G (frame F.number F.at ((F.at, inner (node r f)) ∷ F.done)) S
  closes_node G r no_parts wf F S = closed_below G (frame r 0 []) F S wf.1
  closes_node G r (part p c f) wf F S = closes_rest G r p (last_in (G.what r p) c) f wf.2 [] c F S (open_part r [] p c (F ∷ S)) (closes_part G r p c wf.1 [] (F ∷ S))

  closes_rest : (G : Table) (r p : ℕ) (last : Last) (f : Forest) → Follows G r p last f → (done : List (ℕ × Part)) (c : Part) (F : Frame) (S : Stack) (U : Stack) →
      closed G U ≡ closed_at G (frame r p ((p, c) ∷ done)) (F ∷ S) →
      closed G (open_forest r ((p, c) ∷ done) f U (F ∷ S)) ≡ closed_at G (frame F.number F.at ((F.at, inner (node r (onto done (part p c f)))) ∷ F.done)) S
  closes_rest G r p last no_parts fol done c F S U h = h ∙ closed_below G (frame r p ((p, c) ∷ done)) F S fol
  closes_rest G r p last (part p' c' f) fol done c F S U h =
      closes_rest G r p' (last_in (G.what r p') c') f fol.3 ((p, c) ∷ done) c' F S (open_part r ((p, c) ∷ done) p' c' (F ∷ S)) (closes_part G r p' c' fol.2 ((p, c) ∷ done) (F ∷ S))

  pub closes_part : (G : Table) (r p : ℕ) (c : Part) → IsPartFormed G c → (done : List (ℕ × Part)) (S : Stack) → closed G (open_part r done p c S) ≡ closed_at G (frame r p ((p, c) ∷ done)) S
  closes_part G r p (taken u) wf done S = refl
  closes_part G r p (missing place) wf done S = refl
  closes_part G r p (inner T) wf done S = closes G T wf (frame r p done) S
