-- Sound nodes stay sound by each write.
use Rattle.std.proofs.Common.{◌≡◌, ℕ, zero, suc, ◌+◌, ◌<◌, ◌≤◌, Bool, true, false, cond, ltb, List, [], ◌∷◌, ◌++◌, length, set, get_or, Some, refl, sym, ◌∙◌, ap, subst, arith, inl, inr}
use Rattle.std.specs.Prelude.{slice_get, All}
use Rattle.std.proofs.lemmas.Bool.{lt-ltb, le-ltb}
use Rattle.std.proofs.lemmas.List.{length-set}
use Rattle.std.proofs.lemmas.Option.{slice_get_within}
use Rattle.type_nodes.specs.Nodes.{Node, Var, Link, parts, IsRanked, IsSound, Apart}
use Rattle.type_nodes.proofs.Lists.{same_or_other, one_element, get-set_same, get-set_other, get-append_cases, length-snoc}

-- more than the ranks of some nodes
abbrev pub above : (ℕ → ℕ) → List ℕ → ℕ
above rank [] = 0
above rank (m ∷ ms) = rank m + above rank ms

above_each : (rank : ℕ → ℕ) (ms : List ℕ) (k d : ℕ) → k < length ms → rank (get_or ms k d) ≤ above rank ms
above_each rank [] k d h = absurd (omega arith)
above_each rank (m ∷ ms) zero d h = omega arith
above_each rank (m ∷ ms) (suc k) d h = let i = above_each rank ms k d (omega arith) in omega arith

-- the ranks with one node more, whose parts are there
abbrev pub with_last : ℕ → ℕ → (ℕ → ℕ) → ℕ → ℕ
with_last len top rank n = cond (ltb n len) (rank n) top

before_last : (len top : ℕ) (rank : ℕ → ℕ) (n : ℕ) → n < len → with_last len top rank n ≡ rank n
before_last len top rank n h = let e = lt-ltb n len h in rw e refl

at_last : (len top : ℕ) (rank : ℕ → ℕ) → with_last len top rank len ≡ top
at_last len top rank = let e = le-ltb len len (omega arith) in rw e refl

-- with one node more, each node's parts stand lower
added_each : (nodes : List Node) (c : Node) (rank : ℕ → ℕ) (top : ℕ) → top ≡ suc (above rank (parts c)) →
    All (λ m. m < length nodes) (parts c) → IsRanked nodes rank → (n : ℕ) (x : Node) → slice_get (nodes ++ c ∷ []) n ≡ Some x →
    All (λ m. (m < suc (length nodes)) × (with_last (length nodes) top rank m < with_last (length nodes) top rank n)) (parts x)
added_each nodes c rank top is inside ranked n x e = elim (get-append_cases nodes c n x e) [
  | inl at ↦ λ k d lt.
      let here = slice_get_within nodes n x at in
      let old = ranked.each n x at k d lt in
      let a = before_last (length nodes) top rank (get_or (parts x) k d) old.0 in
      let b = before_last (length nodes) top rank n here in
      let lower = old.1 in let there = old.0 in
      (omega arith, omega arith)
  | inr (e', e'') ↦ λ k d lt.
      let lt' : k < length (parts c) = subst (λ y. k < length (parts y)) e'' lt in
      let there : get_or (parts x) k d < length nodes = subst (λ y. get_or (parts y) k d < length nodes) (sym e'') (inside k d lt') in
      let a = before_last (length nodes) top rank (get_or (parts x) k d) there in
      let b : with_last (length nodes) top rank n ≡ top = ap (with_last (length nodes) top rank) e' ∙ at_last (length nodes) top rank in
      let below : rank (get_or (parts x) k d) ≤ above rank (parts c) = subst (λ y. rank (get_or (parts y) k d) ≤ above rank (parts c)) (sym e'') (above_each rank (parts c) k d lt') in
      (omega arith, omega arith)
]

pub added_sound : (nodes : List Node) (c : Node) → All (λ m. m < length nodes) (parts c) → IsSound nodes → IsSound (nodes ++ c ∷ [])
added_sound nodes c inside (rank, ranked) = (
  with_last (length nodes) (suc (above rank (parts c))) rank,
  record {
    each = λ n x e k d lt.
        let h = added_each nodes c rank (suc (above rank (parts c))) refl inside ranked n x e k d lt in
        (subst (λ l. get_or (parts x) k d < l) (sym (length-snoc nodes c)) h.0, h.1);
  },
)

-- a variable in place of a node
pub relevelled_sound : (nodes : List Node) (r level scope : ℕ) (b : Node) → slice_get nodes r ≡ Some b → IsSound nodes → IsSound (set nodes r (Var level scope))
relevelled_sound nodes r level scope b at (rank, ranked) = (rank, record { each = each })
  where
    each : (n : ℕ) (x : Node) → slice_get (set nodes r (Var level scope)) n ≡ Some x → All (λ m. (m < length (set nodes r (Var level scope))) × (rank m < rank n)) (parts x)
    each n x e = elim (same_or_other n r) [
      | inl same ↦
          let e' : Var level scope ≡ x = one_element (Var level scope) x (slice_get (set nodes r (Var level scope)) r) (get-set_same nodes r b (Var level scope) at)
          (subst (λ k. slice_get (set nodes r (Var level scope)) k ≡ Some x) same e) in
          subst (λ y. All (λ m. (m < length (set nodes r (Var level scope))) × (rank m < rank n)) (parts y)) e' (λ k d lt. absurd (omega arith))
      | inr other ↦ λ k d lt.
          let old = ranked.each n x (sym (get-set_other nodes r n (Var level scope) other) ∙ e) k d lt in
          (subst (λ l. get_or (parts x) k d < l) (sym (length-set nodes r (Var level scope))) old.0, old.1)
    ]

-- the ranks where everything outside of a set is lifted
abbrev pub lifted : (ℕ → Bool) → (ℕ → ℕ) → ℕ → ℕ → ℕ
lifted A rank more n = rank n + cond (A n) 0 more

-- a part still stands lower: it is in the set where the whole is
lower_still : (A : ℕ → Bool) (rank : ℕ → ℕ) (more n m : ℕ) → (A n ≡ true → A m ≡ true) → rank m < rank n → lifted A rank more m < lifted A rank more n
lower_still A rank more n m closed lt = go (A n) (A m) refl refl
  where
    go : (x y : Bool) → A n ≡ x → A m ≡ y → lifted A rank more m < lifted A rank more n
    go true true p q = rw (p, q) (omega arith)
    go true false p q = absurd (let h = closed p in cc)
    go false true p q = rw (p, q) (omega arith)
    go false false p q = rw (p, q) (omega arith)

-- a link from r to a node that r doesn't occur in
pub redirected_sound : (nodes : List Node) (r s : ℕ) (b : Node) → slice_get nodes r ≡ Some b → s < length nodes → Apart nodes r s → IsSound nodes → IsSound (set nodes r (Link s))
redirected_sound nodes r s b at inside (A, closed, holds, lacks) (rank, ranked) = (lifted A rank (suc (rank s)), record { each = each })
  where
    each : (n : ℕ) (x : Node) → slice_get (set nodes r (Link s)) n ≡ Some x → All (λ m. (m < length (set nodes r (Link s))) × (lifted A rank (suc (rank s)) m < lifted A rank (suc (rank s)) n)) (parts x)
    each n x e = elim (same_or_other n r) [
      | inl same ↦
          let e' : Link s ≡ x = one_element (Link s) x (slice_get (set nodes r (Link s)) r) (get-set_same nodes r b (Link s) at)
          (subst (λ k. slice_get (set nodes r (Link s)) k ≡ Some x) same e) in
          subst (λ y. All (λ m. (m < length (set nodes r (Link s))) × (lifted A rank (suc (rank s)) m < lifted A rank (suc (rank s)) n)) (parts y)) e'
          (λ k d lt. first k d lt same)
      | inr other ↦ λ k d lt.
          let e' = sym (get-set_other nodes r n (Link s) other) ∙ e in
          let old = ranked.each n x e' k d lt in (
            subst (λ l. get_or (parts x) k d < l) (sym (length-set nodes r (Link s))) old.0,
            lower_still A rank (suc (rank s)) n (get_or (parts x) k d) (λ h. closed.each n x h e' k d lt) old.1,
          )
    ]
      where
        first : (k d : ℕ) → k < length (s ∷ []) → n ≡ r → (get_or (s ∷ []) k d < length (set nodes r (Link s))) × (lifted A rank (suc (rank s)) (get_or (s ∷ []) k d) < lifted A rank (suc (rank s)) n)
        first zero d lt same = (subst (λ l. s < l) (sym (length-set nodes r (Link s))) inside, rw (same, holds, lacks) (omega arith))
        first (suc k) d lt same = absurd (omega arith)
