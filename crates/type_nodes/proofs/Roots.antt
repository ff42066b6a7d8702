-- Where links end: every way of links does, and what each write changes of it.
use Rattle.std.proofs.Common.{◌≡◌, ◌≢◌, ℕ, zero, suc, ◌<◌, ◌≤◌, Bool, true, List, [], ◌∷◌, ◌++◌, length, set, Option, Some, None, refl, sym, ◌∙◌, ap, subst, arith, ◌⊎◌, inl, inr}
use Rattle.std.specs.Prelude.{slice_get, All}
use Rattle.std.proofs.lemmas.List.{length-set}
use Rattle.type_nodes.specs.Nodes.{Node, Var, Rigid, Link, Arrow, Tuple, Con, IsRanked, IsSound, IsClosed, Apart}
use Rattle.type_nodes.specs.Links.{linked_from, next, follow, root, IsNoLink}
use Rattle.type_nodes.proofs.Lists.{same_or_other, get-set_same, get-set_other, get-append_left, get-append_last, length-snoc}
use Rattle.type_nodes.proofs.Places.{place, place_below, place_lower}

-- what holds of the parts of a link holds of where it leads
pub of_link : (P : ℕ → Type 0) (m : ℕ) → All P (m ∷ []) → P m
of_link P m h = h zero zero (omega arith)

no_link_stays : (n : ℕ) (c : Node) → IsNoLink c → linked_from n (Some c) ≡ n
no_link_stays n (Var level scope) h = refl
no_link_stays n Rigid h = refl
no_link_stays n (Link m) h = absurd h
no_link_stays n (Arrow a b) h = refl
no_link_stays n (Tuple ms) h = refl
no_link_stays n (Con path name ms) h = refl

-- a node that is no link leads nowhere else
pub next_stays : (nodes : List Node) (n : ℕ) (c : Node) → slice_get nodes n ≡ Some c → IsNoLink c → next nodes n ≡ n
next_stays nodes n c e h = ap (linked_from n) e ∙ no_link_stays n c h

-- a link leads to its end
pub next_link : (nodes : List Node) (n m : ℕ) → slice_get nodes n ≡ Some (Link m) → next nodes n ≡ m
next_link nodes n m e = ap (linked_from n) e

-- a node leads nowhere else or is a link
pub link_or_stays : (nodes : List Node) (n : ℕ) → (next nodes n ≡ n) ⊎ ((m : ℕ) × (slice_get nodes n ≡ Some (Link m)))
link_or_stays nodes n = at (slice_get nodes n) refl
  where
    at : (o : Option Node) → slice_get nodes n ≡ o → (next nodes n ≡ n) ⊎ ((m : ℕ) × (slice_get nodes n ≡ Some (Link m)))
    at None e = inl (ap (linked_from n) e)
    at (Some (Var level scope)) e = inl (ap (linked_from n) e)
    at (Some Rigid) e = inl (ap (linked_from n) e)
    at (Some (Link m)) e = inr (m, e)
    at (Some (Arrow a b)) e = inl (ap (linked_from n) e)
    at (Some (Tuple ms)) e = inl (ap (linked_from n) e)
    at (Some (Con path name ms)) e = inl (ap (linked_from n) e)

follow_stays : (nodes : List Node) (k n : ℕ) → next nodes n ≡ n → follow k nodes n ≡ n
follow_stays nodes zero n h = refl
follow_stays nodes (suc k) n h = ap (follow k nodes) h ∙ follow_stays nodes k n h

-- one link more is one link from there
follow-suc : (nodes : List Node) (k n : ℕ) → follow (suc k) nodes n ≡ next nodes (follow k nodes n)
follow-suc nodes zero n = refl
follow-suc nodes (suc k) n = follow-suc nodes k (next nodes n)

-- where a link leads is there and stands lower
pub link_down : (nodes : List Node) (rank : ℕ → ℕ) → IsRanked nodes rank → (n m : ℕ) → slice_get nodes n ≡ Some (Link m) → (m < length nodes) × (rank m < rank n)
link_down nodes rank ranked n m e = of_link (λ k. (k < length nodes) × (rank k < rank n)) m (ranked.each n (Link m) e)

-- after as many links as there are lower nodes, no link is left
settles : (nodes : List Node) (rank : ℕ → ℕ) → IsRanked nodes rank → (k n : ℕ) → n < length nodes → place rank (length nodes) n ≤ k →
    next nodes (follow k nodes n) ≡ follow k nodes n
settles nodes rank ranked zero n lt h = elim (link_or_stays nodes n) [
  | inl stays ↦ stays
  | inr (m, e) ↦ absurd (let down = link_down nodes rank ranked n m e in let p = place_lower rank (length nodes) m n down.0 down.1 in omega arith)
]
settles nodes rank ranked (suc k) n lt h = elim (link_or_stays nodes n) [
  | inl stays ↦ let f = follow_stays nodes (suc k) n stays in ap (next nodes) f ∙ stays ∙ sym f
  | inr (m, e) ↦
      let down = link_down nodes rank ranked n m e in
      let p = place_lower rank (length nodes) m n down.0 down.1 in
      let f : follow (suc k) nodes n ≡ follow k nodes m = ap (follow k nodes) (next_link nodes n m e) in
      ap (next nodes) f ∙ settles nodes rank ranked k m down.0 (omega arith) ∙ sym f
]

-- links end at the root
pub root_settled : (nodes : List Node) → IsSound nodes → (n : ℕ) → n < length nodes → next nodes (root nodes n) ≡ root nodes n
root_settled nodes (rank, ranked) n lt =
    settles nodes rank ranked (length nodes) n lt (let p = place_below rank (length nodes) n lt in omega arith)

-- a node that leads nowhere else is its own root
pub root_here : (nodes : List Node) (n : ℕ) → next nodes n ≡ n → root nodes n ≡ n
root_here nodes n h = follow_stays nodes (length nodes) n h

-- a node has the root of where it leads
pub root_next : (nodes : List Node) → IsSound nodes → (n : ℕ) → n < length nodes → root nodes n ≡ root nodes (next nodes n)
root_next nodes sound n lt = sym (follow-suc nodes (length nodes) n ∙ root_settled nodes sound n lt)

pub root_link : (nodes : List Node) → IsSound nodes → (n m : ℕ) → n < length nodes → slice_get nodes n ≡ Some (Link m) → root nodes n ≡ root nodes m
root_link nodes sound n m lt e = root_next nodes sound n lt ∙ ap (root nodes) (next_link nodes n m e)

next_inside : (nodes : List Node) (rank : ℕ → ℕ) → IsRanked nodes rank → (n : ℕ) → n < length nodes → next nodes n < length nodes
next_inside nodes rank ranked n lt = elim (link_or_stays nodes n) [
  | inl stays ↦ subst (λ k. k < length nodes) (sym stays) lt
  | inr (m, e) ↦ subst (λ k. k < length nodes) (sym (next_link nodes n m e)) (link_down nodes rank ranked n m e).0
]

follow_inside : (nodes : List Node) (rank : ℕ → ℕ) → IsRanked nodes rank → (k n : ℕ) → n < length nodes → follow k nodes n < length nodes
follow_inside nodes rank ranked zero n lt = lt
follow_inside nodes rank ranked (suc k) n lt = follow_inside nodes rank ranked k (next nodes n) (next_inside nodes rank ranked n lt)

-- the root of a node is a node
pub root_inside : (nodes : List Node) → IsSound nodes → (n : ℕ) → n < length nodes → root nodes n < length nodes
root_inside nodes (rank, ranked) n lt = follow_inside nodes rank ranked (length nodes) n lt

-- what leads nowhere else is no link
stays_no_link : (nodes : List Node) (rank : ℕ → ℕ) → IsRanked nodes rank → (n : ℕ) (c : Node) → slice_get nodes n ≡ Some c → next nodes n ≡ n → IsNoLink c
stays_no_link nodes rank ranked n (Var level scope) e h = tt
stays_no_link nodes rank ranked n Rigid e h = tt
stays_no_link nodes rank ranked n (Link m) e h =
    let down = link_down nodes rank ranked n m e in
    let same : m ≡ n = sym (next_link nodes n m e) ∙ h in
    let lower : rank n < rank n = subst (λ k. rank k < rank n) same down.1 in omega arith
stays_no_link nodes rank ranked n (Arrow a b) e h = tt
stays_no_link nodes rank ranked n (Tuple ms) e h = tt
stays_no_link nodes rank ranked n (Con path name ms) e h = tt

-- no link stands at a root
pub root_no_link : (nodes : List Node) → IsSound nodes → (n : ℕ) (c : Node) → n < length nodes → slice_get nodes (root nodes n) ≡ Some c → IsNoLink c
root_no_link nodes sound n c lt e = stays_no_link nodes sound.0 sound.1 (root nodes n) c e (root_settled nodes sound n lt)

-- a set that has the parts of its nodes has their roots
pub closed_root : (nodes : List Node) (A : ℕ → Bool) → IsClosed nodes A → (n : ℕ) → A n ≡ true → A (root nodes n) ≡ true
closed_root nodes A closed n h = at (length nodes) n h
  where
    one : (m : ℕ) → A m ≡ true → A (next nodes m) ≡ true
    one m i = elim (link_or_stays nodes m) [
      | inl stays ↦ ap A stays ∙ i
      | inr (j, e) ↦ ap A (next_link nodes m j e) ∙ of_link (λ k. A k ≡ true) j (closed.each m (Link j) i e)
    ]

    at : (k m : ℕ) → A m ≡ true → A (follow k nodes m) ≡ true
    at zero m i = i
    at (suc k) m i = at k (next nodes m) (one m i)

-- where v doesn't occur in n, it isn't n's root, and doesn't occur in that
pub apart_root : (nodes : List Node) (v n : ℕ) → Apart nodes v n → Apart nodes v (root nodes n)
apart_root nodes v n (A, closed, holds, lacks) = (A, closed, closed_root nodes A closed n holds, lacks)

pub apart_other : (nodes : List Node) (v n : ℕ) → Apart nodes v n → v ≢ n
apart_other nodes v n (A, closed, holds, lacks) same = absurd (let e : A v ≡ A n = ap A same in cc)

-- nodes that lead to the same places have the same roots
follow_same : (a b : List Node) → ((n : ℕ) → next a n ≡ next b n) → (k n : ℕ) → follow k a n ≡ follow k b n
follow_same a b h zero n = refl
follow_same a b h (suc k) n = follow_same a b h k (next a n) ∙ ap (follow k b) (h n)

-- another node that is no link in place of one that is none changes no root
pub relevelled_root : (nodes : List Node) (r : ℕ) (b c : Node) → slice_get nodes r ≡ Some b → IsNoLink b → IsNoLink c → (n : ℕ) → root (set nodes r c) n ≡ root nodes n
relevelled_root nodes r b c at was is n =
    ap (λ k. follow k (set nodes r c) n) (length-set nodes r c) ∙ follow_same (set nodes r c) nodes each (length nodes) n
  where
    each : (m : ℕ) → next (set nodes r c) m ≡ next nodes m
    each m = elim (same_or_other m r) [
      | inl same ↦
          let e : slice_get (set nodes r c) m ≡ Some c = subst (λ k. slice_get (set nodes r c) k ≡ Some c) (sym same) (get-set_same nodes r b c at) in
          let f : slice_get nodes m ≡ Some b = subst (λ k. slice_get nodes k ≡ Some b) (sym same) at in
          next_stays (set nodes r c) m c e is ∙ sym (next_stays nodes m b f was)
      | inr other ↦ ap (linked_from m) (get-set_other nodes r m c other)
    ]

-- one node more changes no root
pub added_root : (nodes : List Node) (c : Node) → IsSound nodes → (n : ℕ) → n < length nodes → root (nodes ++ c ∷ []) n ≡ root nodes n
added_root nodes c (rank, ranked) n lt =
    ap (λ k. follow k (nodes ++ c ∷ []) n) (length-snoc nodes c) ∙ within (suc (length nodes)) n lt
    ∙ follow-suc nodes (length nodes) n ∙ root_settled nodes (rank, ranked) n lt
  where
    within : (k m : ℕ) → m < length nodes → follow k (nodes ++ c ∷ []) m ≡ follow k nodes m
    within zero m h = refl
    within (suc k) m h =
        let e : next (nodes ++ c ∷ []) m ≡ next nodes m = ap (linked_from m) (get-append_left nodes (c ∷ []) m h) in
        ap (follow k (nodes ++ c ∷ [])) e ∙ within k (next nodes m) (next_inside nodes rank ranked m h)

-- a new node that is no link is its own root
pub added_own : (nodes : List Node) (c : Node) → IsNoLink c → root (nodes ++ c ∷ []) (length nodes) ≡ length nodes
added_own nodes c is = root_here (nodes ++ c ∷ []) (length nodes) (next_stays (nodes ++ c ∷ []) (length nodes) c (get-append_last nodes c) is)

-- where a node ends once the root r is linked to the root s
abbrev pub EndsAfter : List Node → List Node → ℕ → ℕ → ℕ → Type 0
EndsAfter old new r s n = ((root old n ≡ r) × (root new n ≡ s)) ⊎ ((root old n ≢ r) × (root new n ≡ root old n))

pub redirected_root : (nodes : List Node) (r s : ℕ) (b : Node) → IsSound nodes → IsSound (set nodes r (Link s)) → slice_get nodes r ≡ Some b →
    next nodes r ≡ r → next nodes s ≡ s → r ≢ s → (n : ℕ) → n < length nodes → EndsAfter nodes (set nodes r (Link s)) r s n
redirected_root nodes r s b (rank, ranked) sound' at r_ends s_ends other n lt = ends (suc (rank n)) n lt (omega arith)
  where
    s_stays : next (set nodes r (Link s)) s ≡ s
    s_stays = ap (linked_from s) (get-set_other nodes r s (Link s) (λ e. other (sym e))) ∙ s_ends

    inside : (m : ℕ) → m < length nodes → m < length (set nodes r (Link s))
    inside m h = subst (λ l. m < l) (sym (length-set nodes r (Link s))) h

    ends : (k m : ℕ) → m < length nodes → rank m < k → EndsAfter nodes (set nodes r (Link s)) r s m
    ends zero m h low = absurd (omega arith)
    ends (suc k) m h low = elim (same_or_other m r) [
      | inl same ↦
          let e : slice_get (set nodes r (Link s)) m ≡ Some (Link s) = subst (λ j. slice_get (set nodes r (Link s)) j ≡ Some (Link s)) (sym same) (get-set_same nodes r b (Link s) at) in
          inl (
            ap (root nodes) same ∙ root_here nodes r r_ends,
            root_link (set nodes r (Link s)) sound' m s (inside m h) e ∙ root_here (set nodes r (Link s)) s s_stays,
          )
      | inr away ↦
          let e : slice_get (set nodes r (Link s)) m ≡ slice_get nodes m = get-set_other nodes r m (Link s) away in
          elim (link_or_stays nodes m) [
            | inl stays ↦
                let here = root_here nodes m stays in
                let there = root_here (set nodes r (Link s)) m (ap (linked_from m) e ∙ stays) in
                inr ((λ f. away (sym here ∙ f)), there ∙ sym here)
            | inr (j, f) ↦
                let down = link_down nodes rank ranked m j f in
                let old_root = root_link nodes (rank, ranked) m j h f in
                let new_root = root_link (set nodes r (Link s)) sound' m j (inside m h) (e ∙ f) in
                elim (ends k j down.0 (let d = down.1 in omega arith)) [
                  | inl (p, q) ↦ inl (old_root ∙ p, new_root ∙ q)
                  | inr (p, q) ↦ inr ((λ g. p (sym old_root ∙ g)), new_root ∙ q ∙ sym old_root)
                ]
          ]
    ]
