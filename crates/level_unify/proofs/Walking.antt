-- Where a walk through types stands, and what each step of it keeps.
use Rattle.std.proofs.Common.{◌≡◌, ◌≢◌, ℕ, zero, suc, ◌+◌, ◌-◌, ◌*◌, ◌<◌, ◌≤◌, Bool, true, false, cond, ◌||◌, eqb, List, [], ◌∷◌, ◌++◌, length, get_or, Some, refl, sym, ◌∙◌, ap, subst, arith, ◌⊎◌, inl, inr}
use Rattle.std.specs.Prelude.{slice_get, All, nat_eq, Result, Ok, Err, IfOk}
use Rattle.std.specs.List.{list_any}
use Rattle.std.proofs.lemmas.Bool.Decides.{eqb_tells}
use Rattle.std.proofs.lemmas.Map.Keys.{IsDistinct-from_apart}
use Rattle.std.proofs.lemmas.Map.Steps.{length-le_from_distinct_below}
use Rattle.std.proofs.lemmas.Option.{slice_get_within}
use Rattle.type_nodes.specs.Nodes.{Node, Var, Rigid, Link, Arrow, Tuple, Con, parts, IsRanked, IsSound, IsClosed, Apart}
use Rattle.type_nodes.specs.Links.{next, follow, root, IsNoLink}
use Rattle.type_nodes.proofs.Lists.{same_or_other, one_element, get-append_left, get-append_last, get-append_cases, length-snoc}
use Rattle.type_nodes.proofs.Places.{place, place_below, place_lower}
use Rattle.type_nodes.proofs.Roots.{link_or_stays, next_link, link_down, next_stays, closed_root, root_inside, root_settled, root_here, root_link}
use Rattle.level_unify.proofs.Steps.{cell_at}
use Rattle.level_unify.specs.Walks.{StandsIn, Reached, ReachedBeyond, IsCleared, IsClearedWithout, Visit, Course, course, AreDone, IsNext, Enters, Leaves}

-- a root that stands in `from`
pub record IsRootIn (nodes : List Node) (from n : ℕ) : Type 0 where
  pub inside : n < length nodes
  pub end : root nodes n ≡ n
  pub stands : StandsIn nodes n from

pub root_stands : (nodes : List Node) → IsSound nodes → (from n : ℕ) → n < length nodes → StandsIn nodes n from → IsRootIn nodes from (root nodes n)
root_stands nodes sound from n lt stands = record {
  inside = root_inside nodes sound n lt;
  end = root_here nodes (root nodes n) (root_settled nodes sound n lt);
  stands = record { each = λ F closed has. closed_root nodes F closed n (stands.each F closed has) };
}

-- what is read at a place of a list is there
pub get_here : {A : Type 0} (xs : List A) (k : ℕ) (d : A) → k < length xs → slice_get xs k ≡ Some (get_or xs k d)
get_here [] k d lt = absurd (omega arith)
get_here (x ∷ xs) zero d lt = refl
get_here (x ∷ xs) (suc k) d lt = get_here xs k d (omega arith)

-- links lead down, so a root stands no higher than the node
root_low : (nodes : List Node) (rank : ℕ → ℕ) → IsRanked nodes rank → (n : ℕ) → rank (root nodes n) ≤ rank n
root_low nodes rank ranked n = at (length nodes) n
  where
    one : (m : ℕ) → rank (next nodes m) ≤ rank m
    one m = elim (link_or_stays nodes m) [
      | inl stays ↦ subst (λ k. rank k ≤ rank m) (sym stays) (omega arith)
      | inr (j, e) ↦ subst (λ k. rank k ≤ rank m) (sym (next_link nodes m j e)) (let d = (link_down nodes rank ranked m j e).1 in omega arith)
    ]

    at : (k m : ℕ) → rank (follow k nodes m) ≤ rank m
    at zero m = omega arith
    at (suc k) m = let h = at k (next nodes m) in let i = one m in omega arith

-- a visit of the way, so many visits from its start: it isn't done, but its first parts are
pub record IsOpen (nodes : List Node) (from : ℕ) (rank : ℕ → ℕ) (done : ℕ → Bool) (i : ℕ) (x : Visit) : Type 0 where
  pub is_root : IsRootIn nodes from x.0
  pub new : done x.0 ≡ false
  pub first : (c : Node) → slice_get nodes x.0 ≡ Some c → AreDone nodes done (parts c) 0 x.1
  pub room : place rank (length nodes) x.0 + i < length nodes

-- where a walk stands: what is done is listed behind its parts, and each visit of the way stands lower than those before
pub record Walking (nodes : List Node) (before : ℕ → Bool) (from : ℕ) (w : Course) : Type 0 where
  pub rank : ℕ → ℕ
  pub ranked : IsRanked nodes rank
  pub kept : (n : ℕ) → before n ≡ true → w.done n ≡ true
  pub start : (w.done (root nodes from) ≡ true) ⊎ ((i : ℕ) × (x : Visit) × (slice_get w.way i ≡ Some x) × (x.0 ≡ root nodes from))
  pub listed : (n : ℕ) → w.done n ≡ true → (before n ≡ true) ⊎ ((k : ℕ) × (slice_get w.found k ≡ Some n))
  pub known : (k n : ℕ) → slice_get w.found k ≡ Some n → (w.done n ≡ true) × IsRootIn nodes from n
  pub other : (k n : ℕ) → slice_get w.found k ≡ Some n → before n ≡ false
  pub behind : (k n : ℕ) (c : Node) → slice_get w.found k ≡ Some n → slice_get nodes n ≡ Some c →
      All (λ m. (before (root nodes m) ≡ true) ⊎ ((j : ℕ) × (j < k) × (slice_get w.found j ≡ Some (root nodes m)))) (parts c)
  pub once : (j k n : ℕ) → slice_get w.found j ≡ Some n → slice_get w.found k ≡ Some n → j ≡ k
  pub visits : (i : ℕ) (x : Visit) → slice_get w.way i ≡ Some x → IsOpen nodes from rank w.done i x
  pub falls : (i j : ℕ) (x y : Visit) → i < j → slice_get w.way i ≡ Some x → slice_get w.way j ≡ Some y → rank y.0 < rank x.0

-- a walk begins with the root of `from`
pub walk_start : (nodes : List Node) → IsSound nodes → (before : ℕ → Bool) (from : ℕ) (w : Course) → from < length nodes → w.done ≡ before → before (root nodes from) ≡ false → w.found ≡ [] →
    w.way ≡ (root nodes from, 0) ∷ [] → Walking nodes before from w
walk_start nodes (rank, ranked) before from w lt same none empty one = record {
  rank = rank;
  ranked = ranked;
  kept = λ n h. ap (λ d. d n) same ∙ h;
  other = λ k n e. absurd (nothing k n e);
  start = inr (0, (root nodes from, 0), ap (λ l. slice_get l 0) one, refl);
  listed = λ n h. inl (sym (ap (λ d. d n) same) ∙ h);
  known = λ k n e. absurd (nothing k n e);
  behind = λ k n c e. absurd (nothing k n e);
  once = λ j k n e. absurd (nothing j n e);
  visits = λ i x e. only i x (sym (ap (λ l. slice_get l i) one) ∙ e);
  falls = λ i j x y lt' e e'. absurd (single i j y lt' (sym (ap (λ l. slice_get l j) one) ∙ e'));
}
  where
    nothing : (k n : ℕ) → slice_get w.found k ≡ Some n → ⊥
    nothing k n e = let f : slice_get [] k ≡ Some n = sym (ap (λ l. slice_get l k) empty) ∙ e in cc

    own : IsRootIn nodes from (root nodes from)
    own = root_stands nodes (rank, ranked) from from lt (record { each = λ F closed has. has })

    only : (i : ℕ) (x : Visit) → slice_get ((root nodes from, 0) ∷ []) i ≡ Some x → IsOpen nodes from rank w.done i x
    only zero x e =
        let same_visit' : (root nodes from, 0) ≡ x = one_element (root nodes from, 0) x (Some (root nodes from, 0)) refl e in
        subst (IsOpen nodes from rank w.done 0) same_visit' (record {
          is_root = own;
          new = ap (λ d. d (root nodes from)) same ∙ none;
          first = λ c at. record { each = λ k m lo hi. absurd (omega arith) };
          room = let p = place_below rank (length nodes) (root nodes from) own.inside in omega arith;
        })
    only (suc i) x e = absurd (cc)

    single : (i j : ℕ) (y : Visit) → i < j → slice_get ((root nodes from, 0) ∷ []) j ≡ Some y → ⊥
    single i zero y lt' e = omega arith
    single i (suc j) y lt' e = cc

-- done up to a place, and from there on
done_on : (nodes : List Node) (done : ℕ → Bool) (ms : List ℕ) (from to : ℕ) → AreDone nodes done ms 0 from → AreDone nodes done ms from to → AreDone nodes done ms 0 to
done_on nodes done ms from to p q = record {
  each = λ k m lo hi e. elim (below_or k from) [ inl lt ↦ p.each k m lo lt e | inr le ↦ q.each k m le hi e ];
}
  where
    below_or : (k n : ℕ) → (k < n) ⊎ (n ≤ k)
    below_or k n = grind arith

-- one part more
pub done_more : (nodes : List Node) (done : ℕ → Bool) (ms : List ℕ) (from at m r : ℕ) → slice_get ms at ≡ Some m → r ≡ root nodes m → done r ≡ true → AreDone nodes done ms from at → AreDone nodes done ms from (at + 1)
done_more nodes done ms from at m r here is has h = record {
  each = λ k n lo hi e. elim (same_or_other k at) [
    | inl same ↦
        let f : m ≡ n = one_element m n (slice_get ms at) here (subst (λ j. slice_get ms j ≡ Some n) same e) in
        subst (λ j. done (root nodes j) ≡ true) f (ap done (sym is) ∙ has)
    | inr other ↦ h.each k n lo (omega arith) e
  ];
}

-- a way with one visit changed in place has the same roots
same_visit : (rest : List Visit) (x y : Visit) → y.0 ≡ x.0 → (i : ℕ) (z : Visit) → slice_get (rest ++ y ∷ []) i ≡ Some z → (z' : Visit) × (slice_get (rest ++ x ∷ []) i ≡ Some z') × (z'.0 ≡ z.0)
same_visit rest x y e i z at = elim (get-append_cases rest y i z at) [
  | inl f ↦ (z, get-append_left rest (x ∷ []) i (slice_get_within rest i z f) ∙ f, refl)
  | inr (p, q) ↦ (x, ap (slice_get (rest ++ x ∷ [])) p ∙ get-append_last rest x, sym e ∙ sym (ap (λ (s : Visit). s.0) q))
]

-- the walk goes on to a part of its last visit
pub entered : (nodes : List Node) (before : ℕ → Bool) (from : ℕ) (d : ℕ → Bool) (f : List ℕ) (rest : List Visit) (x : Visit) (at p : ℕ) → Walking nodes before from (course d f (rest ++ x ∷ [])) →
    ((c : Node) → slice_get nodes (root nodes x.0) ≡ Some c → IsNext nodes d (parts c) x.1 at p) → Walking nodes before from (course d f ((rest ++ (x.0, at) ∷ []) ++ (p, 0) ∷ []))
entered nodes before from d f rest x at p h next = record {
  rank = h.rank;
  ranked = h.ranked;
  kept = h.kept;
  other = h.other;
  start = elim h.start [
    | inl e ↦ inl e
    | inr (i, y, e, is) ↦ elim (get-append_cases rest x i y e) [
      | inl g ↦ inr (i, y, in_longer i y (get-append_left rest ((x.0, at) ∷ []) i (slice_get_within rest i y g) ∙ g), is)
      | inr (_, q) ↦ inr (length rest, (x.0, at), in_longer (length rest) (x.0, at) (get-append_last rest (x.0, at)), sym (ap (λ (s : Visit). s.0) q) ∙ is)
    ]
  ];
  listed = h.listed;
  known = h.known;
  behind = h.behind;
  once = h.once;
  visits = λ i y e. elim (get-append_cases (rest ++ (x.0, at) ∷ []) (p, 0) i y e) [
    | inl g ↦ elim (get-append_cases rest (x.0, at) i y g) [
      | inl g' ↦ h.visits i y (get-append_left rest (x ∷ []) i (slice_get_within rest i y g') ∙ g')
      | inr (is, q) ↦ subst (IsOpen nodes from h.rank d i) (sym q) (subst (λ j. IsOpen nodes from h.rank d j (x.0, at)) (sym is) changed)
    ]
    | inr (is, q) ↦ subst (IsOpen nodes from h.rank d i) (sym q) (subst (λ j. IsOpen nodes from h.rank d j (p, 0)) (sym is) last_visit)
  ];
  falls = λ i j y z lt e e'. elim (get-append_cases (rest ++ (x.0, at) ∷ []) (p, 0) j z e') [
    | inl g ↦
        let l = slice_get_within (rest ++ (x.0, at) ∷ []) j z g in
        let (z', a, b) = same_visit rest x (x.0, at) refl j z g in
        let (y', a', b') = same_visit rest x (x.0, at) refl i y (sym (get-append_left (rest ++ (x.0, at) ∷ []) ((p, 0) ∷ []) i (omega arith)) ∙ e) in
        let low = h.falls i j y' z' lt a' a in
        subst (λ k. h.rank k < h.rank y.0) b (subst (λ k. h.rank z'.0 < h.rank k) b' low)
    | inr (is, q) ↦
        let n = length-snoc rest (x.0, at) in
        let g = sym (get-append_left (rest ++ (x.0, at) ∷ []) ((p, 0) ∷ []) i (omega arith)) ∙ e in
        let (y', a', b') = same_visit rest x (x.0, at) refl i y g in
        let low : h.rank p < h.rank y'.0 = elim (same_or_other i (length rest)) [
          | inl last ↦
              let s : x ≡ y' = one_element x y' (slice_get (rest ++ x ∷ []) (length rest)) (get-append_last rest x) (subst (λ k. slice_get (rest ++ x ∷ []) k ≡ Some y') last a') in
              subst (λ (s : Visit). h.rank p < h.rank s.0) s lower
          | inr other ↦
              let low' = h.falls i (length rest) y' x (omega arith) a' (get-append_last rest x) in
              let l = lower in
              omega arith
        ] in
        subst (λ k. h.rank k < h.rank y.0) (sym (ap (λ (s : Visit). s.0) q)) (subst (λ k. h.rank p < h.rank k) b' low)
  ];
}
  where
    in_longer : (i : ℕ) (y : Visit) → slice_get (rest ++ (x.0, at) ∷ []) i ≡ Some y → slice_get ((rest ++ (x.0, at) ∷ []) ++ (p, 0) ∷ []) i ≡ Some y
    in_longer i y e = get-append_left (rest ++ (x.0, at) ∷ []) ((p, 0) ∷ []) i (slice_get_within (rest ++ (x.0, at) ∷ []) i y e) ∙ e

    own : IsOpen nodes from h.rank d (length rest) x
    own = h.visits (length rest) x (get-append_last rest x)

    cell : (c : Node) × (slice_get nodes x.0 ≡ Some c)
    cell = cell_at nodes x.0 own.is_root.inside

    here : IsNext nodes d (parts cell.0) x.1 at p
    here = next cell.0 (ap (slice_get nodes) own.is_root.end ∙ cell.1)

    down : (here.part < length nodes) × (h.rank here.part < h.rank x.0)
    down = subst (λ m. (m < length nodes) × (h.rank m < h.rank x.0)) (one_element (get_or (parts cell.0) at 0) here.part (slice_get (parts cell.0) at) (get_here (parts cell.0) at 0 (slice_get_within (parts cell.0) at here.part here.here)) here.here)
        (h.ranked.each x.0 cell.0 cell.1 at 0 (slice_get_within (parts cell.0) at here.part here.here))

    stands : StandsIn nodes here.part from
    stands = record {
      each = λ F closed has.
          let lt = slice_get_within (parts cell.0) at here.part here.here in
          subst (λ m. F m ≡ true) (one_element (get_or (parts cell.0) at 0) here.part (slice_get (parts cell.0) at) (get_here (parts cell.0) at 0 lt) here.here)
          (closed.each x.0 cell.0 (own.is_root.stands.each F closed has) cell.1 at 0 lt);
    }

    new_root : IsRootIn nodes from p
    new_root = subst (IsRootIn nodes from) (sym here.end) (root_stands nodes (h.rank, h.ranked) from here.part down.0 stands)

    lower : h.rank p < h.rank x.0
    lower = let e = ap h.rank here.end in let l = root_low nodes h.rank h.ranked here.part in let g = down.1 in omega arith

    changed : IsOpen nodes from h.rank d (length rest) (x.0, at)
    changed = record {
      is_root = own.is_root;
      new = own.new;
      first = λ c e.
          done_on nodes d (parts c) x.1 at (own.first c e) (next c (ap (slice_get nodes) own.is_root.end ∙ e)).before;
      room = own.room;
    }

    last_visit : IsOpen nodes from h.rank d (length (rest ++ (x.0, at) ∷ [])) (p, 0)
    last_visit = record {
      is_root = new_root;
      new = here.new;
      first = λ c e. record { each = λ k m lo hi. absurd (omega arith) };
      room =
          let n = length-snoc rest (x.0, at) in
          let low = place_lower h.rank (length nodes) p x.0 new_root.inside lower in
          let r = own.room in
          omega arith;
    }

-- the walk is done with its last visit
pub left : (nodes : List Node) (before : ℕ → Bool) (from : ℕ) (d d' : ℕ → Bool) (f : List ℕ) (rest : List Visit) (x : Visit) → Walking nodes before from (course d f (rest ++ x ∷ [])) →
    ((c : Node) → slice_get nodes (root nodes x.0) ≡ Some c → AreDone nodes d (parts c) x.1 (length (parts c))) → ((n : ℕ) → d' n ≡ cond (nat_eq x.0 n) true (d n)) →
    Walking nodes before from (course d' (f ++ x.0 ∷ []) rest)
left nodes before from d d' f rest x h all put = record {
  rank = h.rank;
  ranked = h.ranked;
  kept = λ n e. still n (h.kept n e);
  other = λ k n e. elim (get-append_cases f x.0 k n e) [ inl g ↦ h.other k n g | inr (_, q) ↦ ap before q ∙ not_before (before x.0) refl ];
  start = elim h.start [
    | inl e ↦ inl (still (root nodes from) e)
    | inr (i, y, e, is) ↦ elim (get-append_cases rest x i y e) [
      | inl g ↦ inr (i, y, g, is)
      | inr (_, q) ↦ inl (subst (λ n. d' n ≡ true) (sym (ap (λ (s : Visit). s.0) q) ∙ is) own_done)
    ]
  ];
  listed = λ n e. elim (cases n) [
    | inl (same, _) ↦ inr (length f, get-append_last f x.0 ∙ ap (λ k. Some k) same)
    | inr (_, g) ↦ elim (h.listed n (sym g ∙ e)) [ inl b ↦ inl b | inr (k, at) ↦ inr (k, get-append_left f (x.0 ∷ []) k (slice_get_within f k n at) ∙ at) ]
  ];
  known = λ k n e. elim (get-append_cases f x.0 k n e) [
    | inl g ↦ let a = h.known k n g in (still n a.0, a.1)
    | inr (_, q) ↦ subst (λ m. (d' m ≡ true) × IsRootIn nodes from m) (sym q) (own_done, own.is_root)
  ];
  behind = λ k n c e at. elim (get-append_cases f x.0 k n e) [
    | inl g ↦ λ i z lt.
        elim (h.behind k n c g at i z lt) [
          | inl b ↦ inl b
          | inr (j, low, s) ↦ inr (j, low, get-append_left f (x.0 ∷ []) j (slice_get_within f j _ s) ∙ s)
        ]
    | inr (is, q) ↦ λ i z lt.
        let at' : slice_get nodes x.0 ≡ Some c = ap (slice_get nodes) (sym q) ∙ at in
        let done = (done_on nodes d (parts c) x.1 (length (parts c)) (own.first c at') (all c (ap (slice_get nodes) own.is_root.end ∙ at'))).each i (get_or (parts c) i z) (omega arith) lt (get_here (parts c) i z lt) in
        elim (h.listed (root nodes (get_or (parts c) i z)) done) [
          | inl b ↦ inl b
          | inr (j, s) ↦ inr (let l = slice_get_within f j (root nodes (get_or (parts c) i z)) s in (j, (omega arith), get-append_left f (x.0 ∷ []) j l ∙ s))
        ]
  ];
  once = λ j k n e e'. elim (get-append_cases f x.0 j n e) [
    | inl g ↦ elim (get-append_cases f x.0 k n e') [
      | inl g' ↦ h.once j k n g g'
      | inr (_, q) ↦ absurd (twice j n g q)
    ]
    | inr (is, q) ↦ elim (get-append_cases f x.0 k n e') [
      | inl g' ↦ absurd (twice k n g' q)
      | inr (is', _) ↦ is ∙ sym is'
    ]
  ];
  visits = λ i y e.
      let lt = slice_get_within rest i y e in
      let old = h.visits i y (get-append_left rest (x ∷ []) i lt ∙ e) in
      let low = h.falls i (length rest) y x lt (get-append_left rest (x ∷ []) i lt ∙ e) (get-append_last rest x) in
      record {
        is_root = old.is_root;
        new = elim (cases y.0) [ inl (same, _) ↦ absurd (let r = ap h.rank same in omega arith) | inr (_, g) ↦ g ∙ old.new ];
        first = λ c at. record { each = λ k m lo hi g. still (root nodes m) ((old.first c at).each k m lo hi g) };
        room = old.room;
      };
  falls = λ i j y z lt e e'. h.falls i j y z lt (get-append_left rest (x ∷ []) i (slice_get_within rest i y e) ∙ e) (get-append_left rest (x ∷ []) j (slice_get_within rest j z e') ∙ e');
}
  where
    cases : (n : ℕ) → ((x.0 ≡ n) × (d' n ≡ true)) ⊎ ((x.0 ≢ n) × (d' n ≡ d n))
    cases n = elim (eqb_tells x.0 n) [
      | inl (t, same) ↦ inl (same, put n ∙ ap (λ b. cond b true (d n)) t)
      | inr (t, other) ↦ inr (other, put n ∙ ap (λ b. cond b true (d n)) t)
    ]

    still : (n : ℕ) → d n ≡ true → d' n ≡ true
    still n e = elim (cases n) [ inl (_, g) ↦ g | inr (_, g) ↦ g ∙ e ]

    own : IsOpen nodes from h.rank d (length rest) x
    own = h.visits (length rest) x (get-append_last rest x)

    not_before : (b : Bool) → before x.0 ≡ b → before x.0 ≡ false
    not_before true e = absurd (let t = h.kept x.0 e in let u = own.new in cc)
    not_before false e = e

    own_done : d' x.0 ≡ true
    own_done = elim (cases x.0) [ inl (_, g) ↦ g | inr (other, _) ↦ absurd (other refl) ]

    twice : (j n : ℕ) → slice_get f j ≡ Some n → n ≡ x.0 → ⊥
    twice j n e q = let a = (h.known j n e).0 in let b = own.new in let c = ap d q in cc

-- numbers of a list in which each stands once, and which are below a number, are no more than that
few : (xs : List ℕ) (n : ℕ) → ((j k m : ℕ) → slice_get xs j ≡ Some m → slice_get xs k ≡ Some m → j ≡ k) → ((k m : ℕ) → slice_get xs k ≡ Some m → m < n) → length xs ≤ n
few xs n once below = length-le_from_distinct_below xs n (IsDistinct-from_apart eqb xs apart) (λ q h. let (k, e) = listed xs q h in below k q e)
  where
    apart : (i j d : ℕ) → i < j → j < length xs → eqb (get_or xs i d) (get_or xs j d) ≡ false
    apart i j d lt lt' = elim (eqb_tells (get_or xs i d) (get_or xs j d)) [
      | inl (t, same) ↦ absurd (let e = once i j (get_or xs j d) (get_here xs i d (omega arith) ∙ ap (λ m. Some m) same) (get_here xs j d lt') in omega arith)
      | inr (t, other) ↦ t
    ]

    listed : (ys : List ℕ) (q : ℕ) → list_any (eqb q) ys ≡ true → (k : ℕ) × (slice_get ys k ≡ Some q)
    listed [] q h = absurd (cc)
    listed (y ∷ ys) q h = elim (eqb_tells q y) [
      | inl (t, same) ↦ (0, ap (λ m. Some m) (sym same))
      | inr (t, other) ↦ let (k, g) = listed ys q (sym (ap (λ b. b || list_any (eqb q) ys) t) ∙ h) in (suc k, g)
    ]

pub found_few : (nodes : List Node) (before : ℕ → Bool) (from : ℕ) (w : Course) → Walking nodes before from w → length w.found ≤ length nodes
found_few nodes before from w h = few w.found (length nodes) h.once (λ k m e. (h.known k m e).1.inside)

-- no more visits than nodes
pub way_short : (nodes : List Node) (before : ℕ → Bool) (from : ℕ) (w : Course) → Walking nodes before from w → length w.way ≤ length nodes
way_short nodes before from w h = at w.way (λ i x e. (h.visits i x e).room)
  where
    at : (way : List Visit) → ((i : ℕ) (x : Visit) → slice_get way i ≡ Some x → place h.rank (length nodes) x.0 + i < length nodes) → length way ≤ length nodes
    at [] p = omega arith
    at (x ∷ way) p =
        let r = p (length way) (get_or (x ∷ way) (length way) x) (get_here (x ∷ way) (length way) x (omega arith)) in omega arith

-- what is left of a walk: a row of visits for each node that isn't done
abbrev pub left_of : List Node → Course → ℕ
left_of nodes w = (length nodes - length w.found) * (length nodes + 1) + (length nodes - length w.way)

entered_less : (n f s : ℕ) → suc (suc s) ≤ n → (n - f) * (n + 1) + (n - suc (suc s)) < (n - f) * (n + 1) + (n - suc s)
entered_less n f s le = let e : n - suc (suc s) < n - suc s = omega arith in omega arith

left_less : (n f s k : ℕ) → n - suc f ≡ k → suc f ≤ n → suc s ≤ n → (n - suc f) * (n + 1) + (n - s) < (n - f) * (n + 1) + (n - suc s)
left_less n f s k e le le' =
    let e' : n - f ≡ suc k = omega arith in
    rw (e, e') (omega arith)

-- what a step does: the walk goes on, and less of it is left
pub record WalksOn (nodes : List Node) (before : ℕ → Bool) (from : ℕ) (w w' : Course) : Type 0 where
  pub on : Walking nodes before from w'
  pub less : left_of nodes w' < left_of nodes w

same_course : (w : Course) (d : ℕ → Bool) (f : List ℕ) (s : List Visit) → w.done ≡ d → w.found ≡ f → w.way ≡ s → w ≡ course d f s
same_course w d f s p q r = λ i. course (p i) (q i) (r i)

pub walk_on : (nodes : List Node) (before : ℕ → Bool) (from : ℕ) (w w' : Course) (rest : List Visit) (x : Visit) → w.way ≡ rest ++ x ∷ [] → Enters nodes (course w.done w.found rest) x w' ⊎ Leaves nodes (course w.done w.found rest) x w' →
    Walking nodes before from w → WalksOn nodes before from w w'
walk_on nodes before from w w' rest x way step h =
    let same : w ≡ course w.done w.found (rest ++ x ∷ []) = same_course w w.done w.found (rest ++ x ∷ []) refl refl way in
    let h' : Walking nodes before from (course w.done w.found (rest ++ x ∷ [])) = subst (Walking nodes before from) same h in
    let len : length w.way ≡ suc (length rest) = ap length way ∙ length-snoc rest x in
    elim step [
      | inl e ↦
          let on : Walking nodes before from w' = subst (Walking nodes before from) (sym (same_course w' w.done w.found ((rest ++ (x.0, e.at) ∷ []) ++ (e.part, 0) ∷ []) e.done e.found e.way)) (entered nodes before from w.done w.found rest x e.at e.part h' e.next) in
          let len' : length w'.way ≡ suc (suc (length rest)) = ap length e.way ∙ length-snoc (rest ++ (x.0, e.at) ∷ []) (e.part, 0) ∙ ap suc (length-snoc rest (x.0, e.at)) in
          let short = way_short nodes before from w' on in
          record {
            on = on;
            less = rw (ap length e.found, len, len') (entered_less (length nodes) (length w.found) (length rest) (omega arith));
          }
      | inr e ↦
          let on : Walking nodes before from w' = subst (Walking nodes before from) (sym (same_course w' w'.done (w.found ++ x.0 ∷ []) rest refl e.found e.way)) (left nodes before from w.done w'.done w.found rest x h' e.all e.done) in
          let len' : length w'.found ≡ suc (length w.found) = ap length e.found ∙ length-snoc w.found x.0 in
          let f = found_few nodes before from w' on in
          let s = way_short nodes before from w h in
          record {
            on = on;
            less = rw (len', len, ap length e.way) (left_less (length nodes) (length w.found) (length rest) (length nodes - suc (length w.found)) refl (omega arith) (omega arith));
          }
    ]

-- the last visit of a walk is a node
pub visit_inside : (nodes : List Node) (before : ℕ → Bool) (from : ℕ) (w : Course) (rest : List Visit) (x : Visit) → w.way ≡ rest ++ x ∷ [] → Walking nodes before from w → x.0 < length nodes
visit_inside nodes before from w rest x e h = (h.visits (length rest) x (ap (λ l. slice_get l (length rest)) e ∙ get-append_last rest x)).is_root.inside

-- a walk that has come to its end has found all that stands in `from`
pub walk_end : (nodes : List Node) (before : ℕ → Bool) (from : ℕ) (w : Course) → w.way ≡ [] → Walking nodes before from w → ReachedBeyond nodes before w.done from w.found
walk_end nodes before from w none h = record {
  start = elim h.start [ inl e ↦ e | inr (i, x, e, is) ↦ absurd (let f : slice_get [] i ≡ Some x = sym (ap (λ l. slice_get l i) none) ∙ e in cc) ];
  kept = h.kept;
  listed = h.listed;
  roots = record { each = λ k n e. let r = (h.known k n e).1 in (r.inside, r.end, r.stands) };
  new = λ k n e. ((h.known k n e).0, h.other k n e);
  behind = h.behind;
  once = h.once;
}

-- where the start is done nothing is to be found
pub none_beyond : (nodes : List Node) (before : ℕ → Bool) (from : ℕ) (found : List ℕ) → before (root nodes from) ≡ true → found ≡ [] → ReachedBeyond nodes before before from found
none_beyond nodes before from found has empty = subst (ReachedBeyond nodes before before from) (sym empty) (record {
  start = has;
  kept = λ n e. e;
  listed = λ n e. inl e;
  roots = record { each = λ k n e. absurd (cc) };
  new = λ k n e. absurd (cc);
  behind = λ k n c e. absurd (cc);
  once = λ j k n e. absurd (cc);
})

-- what is done after it has the roots of its parts, where what was done before has
pub beyond_cleared : (nodes : List Node) (before done : ℕ → Bool) (from : ℕ) (found : List ℕ) → IsCleared nodes before → ReachedBeyond nodes before done from found → IsCleared nodes done
beyond_cleared nodes before done from found cleared r = record {
  each = λ n c has e. elim (r.listed n has) [
    | inl b ↦ λ i z lt. r.kept _ (cleared.each n c b e i z lt)
    | inr (k, f) ↦ λ i z lt. elim (r.behind k n c f e i z lt) [
      | inl b ↦ r.kept _ b
      | inr (j, low, g) ↦ (r.new j _ g).0
    ]
  ];
}

-- the nodes whose roots are in such a set have all their parts
pub closed_by_roots : (nodes : List Node) (D : ℕ → Bool) → IsSound nodes → IsCleared nodes D → IsClosed nodes (λ n. D (root nodes n))
closed_by_roots nodes D sound cleared = record { each = λ n c has e. each n c e has }
  where
    one : (m : ℕ) → D (root nodes m) ≡ true → All (λ k. D (root nodes k) ≡ true) (m ∷ [])
    one m has zero d lt = has
    one m has (suc k) d lt = absurd (omega arith)

    of_root : (n : ℕ) (c : Node) → slice_get nodes n ≡ Some c → IsNoLink c → D (root nodes n) ≡ true → All (λ m. D (root nodes m) ≡ true) (parts c)
    of_root n c e is has = cleared.each n c (ap D (sym (root_here nodes n (next_stays nodes n c e is))) ∙ has) e

    each : (n : ℕ) (c : Node) → slice_get nodes n ≡ Some c → D (root nodes n) ≡ true → All (λ m. D (root nodes m) ≡ true) (parts c)
    each n (Var level scope) e has = of_root n (Var level scope) e tt has
    each n Rigid e has = of_root n Rigid e tt has
    each n (Link m) e has = one m (ap D (sym (root_link nodes sound n m (slice_get_within nodes n (Link m) e) e)) ∙ has)
    each n (Arrow a b) e has = of_root n (Arrow a b) e tt has
    each n (Tuple ms) e has = of_root n (Tuple ms) e tt has
    each n (Con path name ms) e has = of_root n (Con path name ms) e tt has

-- from nothing done a walk finds all
pub reached_all : (nodes : List Node) (before done : ℕ → Bool) (from : ℕ) (found : List ℕ) → IsSound nodes → ((n : ℕ) → before n ≡ false) → ReachedBeyond nodes before done from found → Reached nodes from found
reached_all nodes before done from found sound none r = record {
  set = λ n. done (root nodes n);
  closed = closed_by_roots nodes done sound (beyond_cleared nodes before done from found (record { each = λ n c has. absurd (let e = none n in cc) }) r);
  start = r.start;
  listed = λ n has. elim (r.listed (root nodes n) has) [ inl b ↦ absurd (let e = none (root nodes n) in cc) | inr f ↦ f ];
  roots = r.roots.each;
  behind = λ k n c e at i z lt. elim (r.behind k n c e at i z lt) [ inl b ↦ absurd (let e' = none (root nodes (get_or (parts c) i z)) in cc) | inr f ↦ f ];
  once = r.once;
}

-- the parts of what a node reads as are nodes
pub parts_inside : (nodes : List Node) → IsSound nodes → (n : ℕ) (c : Node) → slice_get nodes n ≡ Some c → All (λ m. m < length nodes) (parts c)
parts_inside nodes sound n c e k d lt = (sound.1.each n c e k d lt).0

-- a root that is done after a walk and wasn't before stands in its start
pub done_stands : (nodes : List Node) (before done : ℕ → Bool) (from v : ℕ) (found : List ℕ) → ReachedBeyond nodes before done from found → before v ≡ false → done v ≡ true → StandsIn nodes v from
done_stands nodes before done from v found r not has = elim (r.listed v has) [ inl b ↦ absurd (cc) | inr (k, f) ↦ (r.roots.each k v f).2 ]

-- a root that a cleared set lacks stands in no node that it has
pub cleared_apart : (nodes : List Node) (D : ℕ → Bool) (n v : ℕ) → IsSound nodes → root nodes v ≡ v → IsClearedWithout nodes D n v → Apart nodes v n
cleared_apart nodes D n v sound end c = ((λ m. D (root nodes m)), closed_by_roots nodes D sound c.cleared, c.has, ap D end ∙ c.lacks)

-- what a walk from nothing done answers
pub reached_whole : {A E : Type 0} (nodes : List Node) (before done : ℕ → Bool) (from : ℕ) (found_in : A → List ℕ) (res : Result A E) → IfOk res (λ v. IsSound nodes) → ((n : ℕ) → before n ≡ false) →
    IfOk res (λ v. ReachedBeyond nodes before done from (found_in v)) → IfOk res (λ v. Reached nodes from (found_in v))
reached_whole nodes before done from found_in (Ok v) sound none h = reached_all nodes before done from (found_in v) sound none h
reached_whole nodes before done from found_in (Err e) sound none h = tt
