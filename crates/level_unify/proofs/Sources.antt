-- Copying one root after another: what was looked at has an image, and what was made has a source.
use Rattle.std.proofs.Common.{◌≡◌, ◌≢◌, ℕ, suc, ◌+◌, ◌<◌, cond, eqb, List, [], ◌∷◌, length, map, get_or, Some, None, refl, sym, ◌∙◌, ap, subst, arith, inl, inr}
use Rattle.std.specs.Prelude.{slice_get, unwrap_or}
use Rattle.std.proofs.lemmas.Bool.Decides.{eqb_tells}
use Rattle.std.proofs.lemmas.Option.{slice_get_within}
use Rattle.type_nodes.specs.Nodes.{Node, Var, Rigid, Link, Arrow, Tuple, Con, parts, IsSound}
use Rattle.type_nodes.specs.Links.{root}
use Rattle.type_nodes.proofs.Lists.{same_or_other, one_element, get-append_left, get-append_last, length-snoc}
use Rattle.level_unify.specs.Walks.{Reached}
use Rattle.level_unify.specs.Copies.{Table, image, with_parts, IsShared, IsCopy, AreInside, MakesCopy, CopiesOne, HasImage, CopiedTo}
use Rattle.level_unify.proofs.Steps.{cell_at}
use Rattle.level_unify.proofs.Walking.{get_here, parts_inside}

-- two lists of nodes with their tables that say the same of some nodes
pub record SameOn (nodes nodes' : List Node) (T T' : Table) (ms : List ℕ) : Type 0 where
  pub each : (k m : ℕ) → slice_get ms k ≡ Some m → (root nodes' m ≡ root nodes m) × (T' (root nodes' m) ≡ T (root nodes m))

pub map_same : (f g : ℕ → ℕ) (ms : List ℕ) → ((k m : ℕ) → slice_get ms k ≡ Some m → f m ≡ g m) → map f ms ≡ map g ms
map_same f g [] h = refl
map_same f g (m ∷ ms) h = let p = h 0 m refl in let q = map_same f g ms (λ k n e. h (suc k) n e) in (λ i. p i ∷ q i)

parts_same : (f g : ℕ → ℕ) (c : Node) → ((k m : ℕ) → slice_get (parts c) k ≡ Some m → f m ≡ g m) → with_parts f c ≡ with_parts g c
parts_same f g (Var l o) h = refl
parts_same f g Rigid h = refl
parts_same f g (Link m) h = ap Link (h 0 m refl)
parts_same f g (Arrow a b) h = let p = h 0 a refl in let q = h 1 b refl in (λ i. Arrow (p i) (q i))
parts_same f g (Tuple ms) h = ap Tuple (map_same f g ms h)
parts_same f g (Con p name ms) h = ap (Con p name) (map_same f g ms h)

shared_same : (nodes nodes' : List Node) (T T' : Table) (c : Node) → SameOn nodes nodes' T T' (parts c) → IsShared nodes T c → IsShared nodes' T' c
shared_same nodes nodes' T T' c same (free, none) = (free, λ k d lt. (same.each k (get_or (parts c) k d) (get_here (parts c) k d lt)).1 ∙ none k d lt)

copy_same : (nodes nodes' : List Node) (T T' : Table) (new c x : Node) → SameOn nodes nodes' T T' (parts c) → IsCopy nodes T new c x → IsCopy nodes' T' new c x
copy_same nodes nodes' T T' new c x same (inl h) = inl h
copy_same nodes nodes' T T' new c x same (inr (is, (k, m, e, some), at)) =
    inr (
      is,
      (k, m, e, (λ none. some (sym (same.each k m e).1 ∙ none))),
      at ∙ parts_same (image nodes T) (image nodes' T') c (λ j n f. let s = same.each j n f in (λ i. unwrap_or (sym s.1 i) (sym s.0 i))),
    )

-- copying begins
pub copied_start : (old : List Node) (made : Node) (found : List ℕ) (T : Table) → ((n : ℕ) → T n ≡ None) → CopiedTo old old made found T 0
copied_start old made found T none = record {
  extends = record { longer = omega arith; node = λ n lt. refl; roots = λ n lt. refl };
  images = λ k n c lt. absurd (omega arith);
  rest = λ k n le e. none n;
  source = λ n. n;
  copies = λ m lo hi. absurd (omega arith);
  sources = λ n m e. absurd (let f = none n in cc);
}

-- the copies are nodes
pub copies_inside : (old now : List Node) (made : Node) (found : List ℕ) (T : Table) (at : ℕ) → CopiedTo old now made found T at → AreInside now T
copies_inside old now made found T at h = record { each = λ n m e. (h.sources n m e).1 }

-- nothing was made of the next root
next_shared : (old now : List Node) (r : ℕ) (made : Node) (found : List ℕ) (T : Table) (at n : ℕ) (c : Node) → IsSound old → Reached old r found → slice_get found at ≡ Some n → slice_get old n ≡ Some c → CopiedTo old now made found T at →
    IsShared now T c → CopiedTo old now made found T (at + 1)
next_shared old now r made found T at n c sound reached here cell h shared = record {
  extends = h.extends;
  images = λ k m d lt e e'. elim (same_or_other k at) [
    | inl same ↦
        let f : n ≡ m = one_element n m (slice_get found at) here (subst (λ j. slice_get found j ≡ Some m) same e) in
        let g : c ≡ d = one_element c d (slice_get old n) cell (ap (slice_get old) f ∙ e') in
        subst (λ j. HasImage old now T made j d) f (subst (HasImage old now T made n) g (inl (h.rest at n (omega arith) here, shared_same now old T T c same_on shared)))
    | inr other ↦ h.images k m d (omega arith) e e'
  ];
  rest = λ k m le e. h.rest k m (omega arith) e;
  source = h.source;
  copies = λ m lo hi. let (t, (k, lt, e)) = h.copies m lo hi in (t, (k, (omega arith), e));
  sources = h.sources;
}
  where
    same_on : SameOn now old T T (parts c)
    same_on = record {
      each = λ k m e.
          let lt = slice_get_within (parts c) k m e in
          let inside = subst (λ j. j < length old) (one_element (get_or (parts c) k 0) m (slice_get (parts c) k) (get_here (parts c) k 0 lt) e) (parts_inside old sound n c cell k 0 lt) in
          let s = h.extends.roots m inside in
          (sym s, ap T (sym s));
    }

-- a copy of the next root was made
next_copied : (old now new : List Node) (r : ℕ) (made : Node) (found : List ℕ) (T T' : Table) (at n : ℕ) (c : Node) → IsSound old → Reached old r found → slice_get found at ≡ Some n → slice_get old n ≡ Some c → CopiedTo old now made found T at →
    MakesCopy now new T T' made n c → CopiedTo old new made found T' (at + 1)
next_copied old now new r made found T T' at n c sound reached here cell h step = record {
  extends = record {
    longer = let l = h.extends.longer in omega (arith, len);
    node = λ m lt. let l = h.extends.longer in ap (λ ns. slice_get ns m) step.nodes ∙ get-append_left now (step.node ∷ []) m (omega arith) ∙ h.extends.node m lt;
    roots = λ m lt. let l = h.extends.longer in step.roots m (omega arith) ∙ h.extends.roots m lt;
  };
  images = λ k m d lt e e'. elim (same_or_other k at) [
    | inl same ↦
        let f : n ≡ m = one_element n m (slice_get found at) here (subst (λ j. slice_get found j ≡ Some m) same e) in
        let g : c ≡ d = one_element c d (slice_get old n) cell (ap (slice_get old) f ∙ e') in
        subst (λ j. HasImage old new T' made j d) f (subst (HasImage old new T' made n) g own_image)
    | inr other ↦ earlier k m d (omega arith) e e'
  ];
  rest = λ k m le e. step.others m (away k m e (λ same. omega arith)) ∙ h.rest k m (omega arith) e;
  source = source;
  copies = λ m lo hi. elim (eqb_tells m (length now)) [
    | inl (t, same) ↦
        let s : source m ≡ n = ap (λ b. cond b n (h.source m)) t in
        (ap T' s ∙ step.own ∙ ap (λ k. Some k) (sym same), (at, (omega arith), here ∙ ap (λ k. Some k) (sym s)))
    | inr (t, other) ↦
        let s : source m ≡ h.source m = ap (λ b. cond b n (h.source m)) t in
        let (e, (k, lt, f)) = h.copies m lo (omega (arith, len)) in
        (ap T' s ∙ step.others (h.source m) (λ same. untabled m (ap T (sym same) ∙ e)) ∙ e, (k, (omega arith), f ∙ ap (λ j. Some j) (sym s)))
  ];
  sources = λ k m e. elim (same_or_other k n) [
    | inl same ↦
        let f : m ≡ length now = one_element m (length now) (T' n) (ap T' (sym same) ∙ e) step.own in
        let l = h.extends.longer in
        ((omega arith), (omega (arith, len)), ap source f ∙ source_new ∙ sym same)
    | inr other ↦
        let (lo, hi, s) = h.sources k m (sym (step.others k other) ∙ e) in
        (lo, (omega (arith, len)), source_old m (omega arith) ∙ s)
  ];
}
  where
    len : length new ≡ suc (length now)
    len = ap length step.nodes ∙ length-snoc now step.node

    source : ℕ → ℕ
    source m = cond (eqb m (length now)) n (h.source m)

    source_new : source (length now) ≡ n
    source_new = elim (eqb_tells (length now) (length now)) [ inl (t, _) ↦ ap (λ b. cond b n (h.source (length now))) t | inr (_, other) ↦ absurd (other refl) ]

    source_old : (m : ℕ) → m < length now → source m ≡ h.source m
    source_old m lt = elim (eqb_tells m (length now)) [ inl (_, same) ↦ absurd (omega arith) | inr (t, _) ↦ ap (λ b. cond b n (h.source m)) t ]

    untabled : (m : ℕ) → T n ≡ Some m → ⊥
    untabled m e = let f = h.rest at n (omega arith) here in cc

    away : (k m : ℕ) → slice_get found k ≡ Some m → k ≢ at → m ≢ n
    away k m e other same = other (reached.once k at m e (here ∙ ap (λ j. Some j) (sym same)))

    -- the roots of the parts of the first nodes are among the first
    parts_away : (k m : ℕ) (d : Node) → k < at + 1 → slice_get found k ≡ Some m → slice_get old m ≡ Some d → (i p : ℕ) → slice_get (parts d) i ≡ Some p → (p < length old) × (root old p ≢ n)
    parts_away k m d lt e e' i p f =
        let within = slice_get_within (parts d) i p f in
        let same = one_element (get_or (parts d) i 0) p (slice_get (parts d) i) (get_here (parts d) i 0 within) f in
        let inside = subst (λ j. j < length old) same (parts_inside old sound m d e' i 0 within) in
        let (j, low, g) = reached.behind k m d e e' i 0 within in
        let g' : slice_get found j ≡ Some (root old p) = g ∙ ap (λ q. Some (root old q)) same in
        (inside, away j (root old p) g' (λ s. omega arith))

    own_same : SameOn now old T T' (parts c)
    own_same = record {
      each = λ i p f.
          let (inside, other) = parts_away at n c (omega arith) here cell i p f in
          let s = h.extends.roots p inside in
          (sym s, step.others (root old p) other ∙ ap T (sym s));
    }

    own_image : HasImage old new T' made n c
    own_image = inr (length now, step.node, step.own, ap (λ ns. slice_get ns (length now)) step.nodes ∙ get-append_last now step.node, copy_same now old T T' made c step.node own_same step.copy)

    earlier : (k m : ℕ) (d : Node) → k < at → slice_get found k ≡ Some m → slice_get old m ≡ Some d → HasImage old new T' made m d
    earlier k m d lt e e' =
        let other = away k m e (λ s. omega arith) in
        let same : SameOn old old T T' (parts d) = record { each = λ i p f. (refl, step.others (root old p) (parts_away k m d (omega arith) e e' i p f).1) } in
        elim (h.images k m d lt e e') [
          | inl (none, shared) ↦ inl (step.others m other ∙ none, shared_same old old T T' d same shared)
          | inr (q, x, t, there, copy) ↦ inr (q, x, step.others m other ∙ t, ap (λ ns. slice_get ns q) step.nodes ∙ get-append_left now (step.node ∷ []) q (slice_get_within now q x there) ∙ there, copy_same old old T T' made d x same copy)
        ]

-- one root more
pub copied_on : (old now new : List Node) (r : ℕ) (made : Node) (found : List ℕ) (T T' : Table) (at n : ℕ) → IsSound old → Reached old r found → slice_get found at ≡ Some n → CopiedTo old now made found T at →
    CopiesOne now new T T' made n → CopiedTo old new made found T' (at + 1)
copied_on old now new r made found T T' at n sound reached here h step =
    let lt = (reached.roots at n here).0 in
    let (c, cell) = cell_at old n lt in
    elim (step c (h.extends.node n lt ∙ cell)) [
      | inl s ↦
          let same = next_shared old now r made found T at n c sound reached here cell h s.shared in
          subst (λ ns. CopiedTo old ns made found T' (at + 1)) (sym s.nodes) (subst (λ t. CopiedTo old now made found t (at + 1)) (sym s.table) same)
      | inr s ↦ next_copied old now new r made found T T' at n c sound reached here cell h s
    ]
