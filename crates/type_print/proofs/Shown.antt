-- In sound nodes each shows a type that is built from those of its parts.
use Rattle.std.proofs.Common.{◌≡◌, ℕ, zero, suc, ◌+◌, ◌<◌, ◌≤◌, Bool, true, false, cond, ltb, List, length, get_or, Option, Some, None, refl, sym, ◌∙◌, ap, subst, arith, ◌⊎◌, inl, inr}
use Rattle.std.specs.Prelude.{slice_get, All}
use Rattle.std.proofs.lemmas.Bool.{lt-ltb, le-ltb}
use Rattle.type_model.specs.Types.{types_of}
use Rattle.type_model.specs.Types.{Typ as type}
use Rattle.type_nodes.specs.Nodes.{Node, Var, Rigid, Link, Arrow, Tuple, Con, parts, IsRanked, IsSound}
use Rattle.type_nodes.specs.Readings.{Types}
use Rattle.type_nodes.specs.Links.{root, reading, follow}
use Rattle.type_nodes.proofs.Identity.{map_agree}
use Rattle.type_nodes.proofs.Lists.{same_or_other}
use Rattle.type_nodes.proofs.Roots.{of_link, link_or_stays, link_down, next_link}
use Rattle.type_print.specs.Shown.{shown_from, shown_in, shown}

-- how many of the first k nodes have a rank below r
abbrev lower : (ℕ → ℕ) → ℕ → ℕ → ℕ
lower rank zero r = 0
lower rank (suc k) r = cond (ltb (rank k) r) 1 0 + lower rank k r

at_most_one : (b : Bool) → cond b 1 0 ≤ 1
at_most_one true = omega arith
at_most_one false = omega arith

lower_few : (rank : ℕ → ℕ) (k r : ℕ) → lower rank k r ≤ k
lower_few rank zero r = omega arith
lower_few rank (suc k) r = let h = lower_few rank k r in let i = at_most_one (ltb (rank k) r) in omega arith

cases : (a r : ℕ) → (a < r) ⊎ (r ≤ a)
cases a zero = inr (omega arith)
cases zero (suc r) = inl (omega arith)
cases (suc a) (suc r) = elim (cases a r) [ inl h ↦ inl (omega arith) | inr h ↦ inr (omega arith) ]

one_more : (a r s : ℕ) → r ≤ s → cond (ltb a r) 1 0 ≤ cond (ltb a s) 1 0
one_more a r s h = elim (cases a r) [
  | inl below ↦ let e = lt-ltb a r below in let f = lt-ltb a s (omega arith) in rw (e, f) (omega arith)
  | inr above ↦ let e = le-ltb a r above in rw e (omega arith)
]

lower_more : (rank : ℕ → ℕ) (k r s : ℕ) → r ≤ s → lower rank k r ≤ lower rank k s
lower_more rank zero r s h = omega arith
lower_more rank (suc k) r s h = let i = lower_more rank k r s h in let j = one_more (rank k) r s h in omega arith

-- a node of less rank is among those of less rank than another
lower_down : (rank : ℕ → ℕ) (k m s : ℕ) → m < k → rank m < s → lower rank k (rank m) < lower rank k s
lower_down rank zero m s h lt = absurd (omega arith)
lower_down rank (suc k) m s h lt = elim (same_or_other m k) [
  | inl same ↦
      let e : ltb (rank k) (rank m) ≡ false = le-ltb (rank k) (rank m) (subst (λ j. rank m ≤ rank j) same (omega arith)) in
      let f : ltb (rank k) s ≡ true = lt-ltb (rank k) s (subst (λ j. rank j < s) same lt) in
      let i = lower_more rank k (rank m) s (omega arith) in
      rw (e, f) (omega arith)
  | inr other ↦
      let i = lower_down rank k m s (omega arith) lt in
      let j = one_more (rank k) (rank m) s (omega arith) in
      omega arith
]

-- ranks that are at most as many as there are nodes
few_ranks : (nodes : List Node) (rank : ℕ → ℕ) → IsRanked nodes rank → IsRanked nodes (λ n. lower rank (length nodes) (rank n))
few_ranks nodes rank ranked = record {
  each = λ n c e k d lt.
      let old = ranked.each n c e k d lt in
      (old.0, lower_down rank (length nodes) (get_or (parts c) k d) (rank n) old.0 old.1);
}

-- what is built from parts depends on them alone
same_from : (P Q : Types) (n : ℕ) (c : Node) → All (λ m. P m ≡ Q m) (parts c) → shown_from P n (Some c) ≡ shown_from Q n (Some c)
same_from P Q n (Var level scope) h = refl
same_from P Q n Rigid h = refl
same_from P Q n (Link m) h = of_link (λ k. P k ≡ Q k) m h
same_from P Q n (Arrow a b) h = let p : P a ≡ Q a = h zero zero (omega arith) in let q : P b ≡ Q b = h 1 zero (omega arith) in cc
same_from P Q n (Tuple ms) h = ap (λ ts. type.Tuple (types_of ts)) (map_agree P Q ms h)
same_from P Q n (Con path name ms) h = ap (λ ts. type.Con path (types_of ts)) (map_agree P Q ms h)

same_from_option : (P Q : Types) (n : ℕ) (o : Option Node) → ((c : Node) → o ≡ Some c → All (λ m. P m ≡ Q m) (parts c)) → shown_from P n o ≡ shown_from Q n o
same_from_option P Q n None h = refl
same_from_option P Q n (Some c) h = same_from P Q n c (h c refl)

-- more steps than a node's rank show the same
same_in : (nodes : List Node) (rank : ℕ → ℕ) → IsRanked nodes rank → (k j n : ℕ) → rank n < k → rank n < j → shown_in k nodes n ≡ shown_in j nodes n
unfolding shown_in
same_in nodes rank ranked zero j n h i = absurd (omega arith)
same_in nodes rank ranked (suc k) zero n h i = absurd (omega arith)
same_in nodes rank ranked (suc k) (suc j) n h i =
    same_from_option (shown_in k nodes) (shown_in j nodes) n (slice_get nodes n)
    (λ c e l d lt.
    let low = (ranked.each n c e l d lt).1 in
    same_in nodes rank ranked k j (get_or (parts c) l d) (omega arith) (omega arith))

-- each node's type is built from those of its parts
pub shown_step : (nodes : List Node) → IsSound nodes → (n : ℕ) (c : Node) → slice_get nodes n ≡ Some c → shown nodes n ≡ shown_from (shown nodes) n (Some c)
unfolding shown shown_in
shown_step nodes (rank, ranked) n c e =
    let few = few_ranks nodes rank ranked in
    ap (shown_from (shown_in (length nodes) nodes) n) e
    ∙ same_from (shown_in (length nodes) nodes) (shown nodes) n c
    (λ l d lt.
    let low = (few.each n c e l d lt).1 in
    let top = lower_few rank (length nodes) (rank n) in
    same_in nodes (λ m. lower rank (length nodes) (rank m)) few (length nodes) (suc (length nodes)) (get_or (parts c) l d) (omega arith) (omega arith))

follow_shown : (nodes : List Node) → IsSound nodes → (k n : ℕ) → n < length nodes → shown nodes n ≡ shown nodes (follow k nodes n)
follow_shown nodes sound zero n h = refl
follow_shown nodes sound (suc k) n h = elim (link_or_stays nodes n) [
  | inl stays ↦ follow_shown nodes sound k n h ∙ ap (λ m. shown nodes (follow k nodes m)) (sym stays)
  | inr (m, e) ↦
      let down = (link_down nodes sound.0 sound.1 n m e).0 in
      shown_step nodes sound n (Link m) e ∙ (follow_shown nodes sound k m down ∙ ap (λ j. shown nodes (follow k nodes j)) (sym (next_link nodes n m e)))
]

-- a node has the type of its root, and so one that is built from what it reads as
pub shown_reading : (nodes : List Node) → IsSound nodes → (n : ℕ) (c : Node) → n < length nodes → reading nodes n ≡ Some c → shown nodes n ≡ shown_from (shown nodes) (root nodes n) (Some c)
shown_reading nodes sound n c h e = follow_shown nodes sound (length nodes) n h ∙ shown_step nodes sound (root nodes n) c e

pub shown_root : (nodes : List Node) → IsSound nodes → (n r : ℕ) → n < length nodes → r ≡ root nodes n → shown nodes r ≡ shown nodes n
shown_root nodes sound n r h e = rw e (sym (follow_shown nodes sound (length nodes) n h))
