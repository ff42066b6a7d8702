-- Lists of nodes and of their numbers.
use Rattle.std.proofs.Common.{◌≡◌, ◌≢◌, ℕ, zero, suc, ◌<◌, ◌+◌, ◌-◌, ◌≤◌, subst, inl, inr, List, [], ◌∷◌, length, get_or, Some, refl, ap, arith}
use Rattle.std.specs.Prelude.{slice_get, All}
use Rattle.type_terms.specs.declared.types.NodeRef.{NodeRef}
use Rattle.type_nodes.proofs.Lists.{same_or_other, one_element}
use Rattle.type_nodes.specs.Views.{numbers}
use Rattle.level_unify.specs.declared.solve.Limit.{Limit}
use Rattle.level_unify.specs.Solutions.{cap_of, caps_of}

-- what holds of all numbers holds of a node's
pub number_at : (P : ℕ → Type 0) (ns : List NodeRef) (k : ℕ) (d : NodeRef) → All P (numbers ns) → k < length ns → P (get_or ns k d).0
number_at P [] k d h lt = absurd (omega arith)
number_at P (n ∷ ns) zero d h lt = h zero zero (omega arith)
number_at P (n ∷ ns) (suc k) d h lt = number_at P ns k d (λ j e l. h (suc j) e (omega arith)) (omega arith)

-- the number of a node that was read
pub number_read : (ns : List NodeRef) (k : ℕ) (n : NodeRef) → k < length ns → n ≡ get_or ns k n → slice_get (numbers ns) k ≡ Some n.0
number_read [] k n lt e = absurd (omega arith)
number_read (m ∷ ns) zero n lt e = ap (λ (x : NodeRef). Some x.0) (sym_of m n e)
  where
    sym_of : (a b : NodeRef) → b ≡ a → a ≡ b
    sym_of a b p = cc
number_read (m ∷ ns) (suc k) n lt e = number_read ns k n (omega arith) e

pub numbers_length : (ns : List NodeRef) → length (numbers ns) ≡ length ns
numbers_length [] = refl
numbers_length (n ∷ ns) = ap suc (numbers_length ns)

-- a node that isn't the one wanted goes on
pub listed_other : (ns : List ℕ) (at n wanted : ℕ) → slice_get ns at ≡ Some n → n ≢ wanted → ((k : ℕ) → k < at → slice_get ns k ≢ Some wanted) → (k : ℕ) → k < at + 1 → slice_get ns k ≢ Some wanted
listed_other ns at n wanted e other before k lt = elim (same_or_other k at) [
  | inl same ↦ λ f. other (one_element n wanted (slice_get ns at) e (subst (λ j. slice_get ns j ≡ Some wanted) same f))
  | inr away ↦ before k (omega arith)
]

-- one number more is below n
pub below_more : (ns : List ℕ) (at m n : ℕ) → slice_get ns at ≡ Some m → m < n → ((k i : ℕ) → k < at → slice_get ns k ≡ Some i → i < n) → (k i : ℕ) → k < at + 1 → slice_get ns k ≡ Some i → i < n
below_more ns at m n e lt before k i low f = elim (same_or_other k at) [
  | inl same ↦ subst (λ j. j < n) (one_element m i (slice_get ns at) e (subst (λ j. slice_get ns j ≡ Some i) same f)) lt
  | inr away ↦ before k i (omega arith) f
]

-- all numbers are below n
pub all_below : (ns : List ℕ) (at n : ℕ) → length ns ≤ at → ((k i : ℕ) → k < at → slice_get ns k ≡ Some i → i < n) → All (λ i. i < n) ns
all_below [] at n over h k d lt = absurd (omega arith)
all_below (m ∷ ns) at n over h zero d lt = h zero m (omega arith) refl
all_below (m ∷ ns) at n over h (suc k) d lt = all_below ns (at - 1) n (omega arith) (λ j i l e. h (suc j) i (omega arith) e) k d (omega arith)

-- the number of a node of the list
pub number_get : (ns : List NodeRef) (k : ℕ) (d : NodeRef) → k < length ns → slice_get (numbers ns) k ≡ Some (get_or ns k d).0
number_get [] k d lt = absurd (omega arith)
number_get (n ∷ ns) zero d lt = refl
number_get (n ∷ ns) (suc k) d lt = number_get ns k d (omega arith)

-- the limit of a variable of the list
pub cap_get : (ls : List Limit) (k : ℕ) (d : Limit) → k < length ls → slice_get (caps_of ls) k ≡ Some (cap_of (get_or ls k d))
cap_get [] k d lt = absurd (omega arith)
cap_get (l ∷ ls) zero d lt = refl
cap_get (l ∷ ls) (suc k) d lt = cap_get ls k d (omega arith)

pub caps_length : (ls : List Limit) → length (caps_of ls) ≡ length ls
caps_length [] = refl
caps_length (l ∷ ls) = ap suc (caps_length ls)
