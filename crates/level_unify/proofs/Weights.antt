-- What is left to do for the nodes, by links and by opened roots.
use Rattle.std.proofs.Common.{◌≡◌, ◌≢◌, ℕ, zero, suc, ◌+◌, ◌≤◌, Bool, true, false, cond, List, [], ◌∷◌, set, Some, refl, ◌∙◌, ap, arith, inl, inr}
use Rattle.std.specs.Prelude.{slice_get, nat_eq}
use Rattle.std.proofs.lemmas.Bool.Decides.{eqb_tells}
use Rattle.type_nodes.specs.Nodes.{Node, Link}
use Rattle.level_unify.specs.Solutions.{weight_of, weight, unopened, work}

-- a root that becomes a link is left out of the weight
weight_linked : (nodes : List Node) (r s : ℕ) (c : Node) → slice_get nodes r ≡ Some c → weight (set nodes r (Link s)) + weight_of c ≡ weight nodes
weight_linked [] r s c e = absurd (cc)
weight_linked (d ∷ nodes) zero s c e = let f : d ≡ c = cc in let g = ap weight_of f in omega arith
weight_linked (d ∷ nodes) (suc r) s c e = let h = weight_linked nodes r s c e in omega arith

none_less : (b : Bool) (n : ℕ) → cond b 0 0 ≤ cond b 0 n
none_less true n = omega arith
none_less false n = omega arith

unopened_linked : (O : ℕ → Bool) (at : ℕ) (nodes : List Node) (r s : ℕ) (c : Node) → slice_get nodes r ≡ Some c → unopened O at (set nodes r (Link s)) ≤ unopened O at nodes
unopened_linked O at [] r s c e = absurd (cc)
unopened_linked O at (d ∷ nodes) zero s c e = let h = none_less (O at) (weight_of d) in omega arith
unopened_linked O at (d ∷ nodes) (suc r) s c e = let h = unopened_linked O (suc at) nodes r s c e in omega arith

-- a link takes away its root's weight
pub work_linked : (O : ℕ → Bool) (nodes : List Node) (r s : ℕ) (c : Node) → slice_get nodes r ≡ Some c → work O (set nodes r (Link s)) + weight_of c ≤ work O nodes
work_linked O nodes r s c e = let h = weight_linked nodes r s c e in let i = unopened_linked O 0 nodes r s c e in omega arith

unopened_same : (O O' : ℕ → Bool) (at : ℕ) (nodes : List Node) → ((n : ℕ) → at ≤ n → O' n ≡ O n) → unopened O' at nodes ≡ unopened O at nodes
unopened_same O O' at [] h = refl
unopened_same O O' at (c ∷ nodes) h =
    let p = h at (omega arith) in
    let q = unopened_same O O' (suc at) nodes (λ n le. h n (omega arith)) in
    λ i. cond (p i) 0 (weight_of c) + q i

-- only the root r is opened
abbrev pub Opens : (O O' : ℕ → Bool) → ℕ → Type 0
Opens O O' r = (O r ≡ false) × ((n : ℕ) → O' n ≡ cond (nat_eq r n) true (O n))

opens_own : (O O' : ℕ → Bool) (r : ℕ) → Opens O O' r → O' r ≡ true
opens_own O O' r h = elim (eqb_tells r r) [
  | inl (t, same) ↦ h.1 r ∙ ap (λ b. cond b true (O r)) t
  | inr (t, other) ↦ absurd (other refl)
]

opens_other : (O O' : ℕ → Bool) (r n : ℕ) → Opens O O' r → r ≢ n → O' n ≡ O n
opens_other O O' r n h away = elim (eqb_tells r n) [
  | inl (t, same) ↦ absurd (away same)
  | inr (t, other) ↦ h.1 n ∙ ap (λ b. cond b true (O n)) t
]

unopened_opened : (O O' : ℕ → Bool) (at k : ℕ) (nodes : List Node) (r : ℕ) (c : Node) → at ≡ k + r → slice_get nodes r ≡ Some c → Opens O O' at → unopened O' k nodes + weight_of c ≡ unopened O k nodes
unopened_opened O O' at k [] r c is e h = absurd (cc)
unopened_opened O O' at k (d ∷ nodes) zero c is e h =
    let here : k ≡ at = omega arith in
    let f : d ≡ c = cc in
    let g = ap weight_of f in
    let p : cond (O' k) 0 (weight_of d) ≡ 0 = ap (λ n. cond (O' n) 0 (weight_of d)) here ∙ ap (λ b. cond b 0 (weight_of d)) (opens_own O O' at h) in
    let q : cond (O k) 0 (weight_of d) ≡ weight_of d = ap (λ n. cond (O n) 0 (weight_of d)) here ∙ ap (λ b. cond b 0 (weight_of d)) h.0 in
    let rest = unopened_same O O' (suc k) nodes (λ n le. opens_other O O' at n h (λ e'. absurd (omega arith))) in
    omega arith
unopened_opened O O' at k (d ∷ nodes) (suc r) c is e h =
    let p = ap (λ b. cond b 0 (weight_of d)) (opens_other O O' at k h (λ e'. absurd (omega arith))) in
    let i = unopened_opened O O' at (suc k) nodes r c (omega arith) e h in
    omega arith

-- so does opening it
pub work_opened : (O O' : ℕ → Bool) (nodes : List Node) (r : ℕ) (c : Node) → slice_get nodes r ≡ Some c → Opens O O' r → work O' nodes + weight_of c ≡ work O nodes
work_opened O O' nodes r c e h = let i = unopened_opened O O' r 0 nodes r c (omega arith) e h in omega arith
