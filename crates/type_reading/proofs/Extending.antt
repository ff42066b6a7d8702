-- Stores that get new nodes.
use Rattle.std.proofs.Common.{◌≡◌, ℕ, zero, suc, ◌<◌, ◌⊎◌, inl, inr, List, [], ◌∷◌, ◌++◌, length, Some, refl, sym, ◌∙◌, ap, subst, arith}
use Rattle.std.specs.Prelude.{Result, Ok, Err, IfOk, OnOk, slice_get, All}
use Rattle.std.proofs.lemmas.Option.{slice_get_within}
use Rattle.std.specs.declared.alloc.AllocError.{AllocError}
use Rattle.type_terms.specs.declared.types.NodeRef.{NodeRef}
use Rattle.type_nodes.specs.Nodes.{Node, Var, Rigid, bound_level, IsNode}
use Rattle.type_nodes.specs.Links.{root, IsFree}
use Rattle.type_nodes.specs.States.{State}
use Rattle.type_nodes.specs.Changes.{Makes}
use Rattle.type_nodes.specs.Readings.{Types, IsReading}
use Rattle.type_nodes.proofs.Lists.{get-append_left, get-append_last, length-snoc}
use Rattle.level_unify.specs.Copies.{Extends}
use Rattle.level_unify.specs.Walks.{StandsIn}
use Rattle.typing_state.specs.declared.parts.Parts.{Parts}
use Rattle.type_reading.specs.Copying.{IsUnbound}

pub extends_refl : (nodes : List Node) → Extends nodes nodes
extends_refl nodes = record { longer = omega arith; node = λ n lt. refl; roots = λ n lt. refl }

pub extends_same : (old new : List Node) → new ≡ old → Extends old new
extends_same old new e = subst (Extends old) (sym e) (extends_refl old)

pub same_extends : (old new : Parts) → new ≡ old → Extends old.store.nodes new.store.nodes
same_extends old new e = extends_same old.store.nodes new.store.nodes (ap (λ (x : Parts). x.store.nodes) e)

pub extends_trans : (a b c : List Node) → Extends a b → Extends b c → Extends a c
extends_trans a b c p q = record {
  longer = let x = p.longer in let y = q.longer in omega arith;
  node = λ n lt. let l = p.longer in q.node n (omega arith) ∙ p.node n lt;
  roots = λ n lt. let l = p.longer in q.roots n (omega arith) ∙ p.roots n lt;
}

pub makes_extends : (old new : State) (n : ℕ) (c : Node) → Makes old new n c → Extends old.nodes new.nodes
makes_extends old new n c made = record {
  longer = let l = ap length made.added.nodes ∙ length-snoc old.nodes c in omega arith;
  node = λ m lt. ap (λ xs. slice_get xs m) made.added.nodes ∙ get-append_left old.nodes (c ∷ []) m lt;
  roots = made.others;
}

-- a node that was made is there
pub made_here : (old new : State) (n : ℕ) (c : Node) → Makes old new n c → (n < length new.nodes) × (slice_get new.nodes n ≡ Some c)
made_here old new n c made =
    let at : slice_get new.nodes n ≡ Some c = ap (λ xs. slice_get xs n) made.added.nodes ∙ ap (slice_get (old.nodes ++ c ∷ [])) made.added.number ∙ get-append_last old.nodes c in
    (slice_get_within new.nodes n c at, at)

-- a call that makes a node
pub node_extends : (r : Result NodeRef AllocError) (old new : State) (c : Node) → IfOk r (λ n. Makes old new n.0 c) → OnOk r (Extends old.nodes new.nodes)
node_extends (Ok n) old new c made = makes_extends old new n.0 c made
node_extends (Err e) old new c made = tt

inside_or_not : (n k : ℕ) → (n < k) ⊎ (n < k → ⊥)
inside_or_not n zero = inr (λ h. omega arith)
inside_or_not zero (suc k) = inl (omega arith)
inside_or_not (suc n) (suc k) = elim (inside_or_not n k) [ inl h ↦ inl (omega arith) | inr h ↦ inr (λ l. h (omega arith)) ]

all_or_not : (nodes : List Node) (ms : List ℕ) → All (IsNode nodes) ms ⊎ (All (IsNode nodes) ms → ⊥)
all_or_not nodes [] = inl (λ k d lt. absurd (omega arith))
all_or_not nodes (m ∷ ms) = elim (inside_or_not m (length nodes)) [
  | inl here ↦ elim (all_or_not nodes ms) [
    | inl there ↦ inl (both here there)
    | inr not ↦ inr (λ all. not (λ k d lt. all (suc k) d (omega arith)))
  ]
  | inr not ↦ inr (λ all. not (all zero zero (omega arith)))
]
  where
    both : m < length nodes → All (IsNode nodes) ms → All (IsNode nodes) (m ∷ ms)
    both here there zero d lt = here
    both here there (suc k) d lt = there k d (omega arith)

-- a call that makes a node over others, or a variable where they are no nodes
pub over_extends : (r : Result NodeRef AllocError) (old new : State) (ms : List ℕ) (c d : Node) → IfOk r (λ n. All (IsNode old.nodes) ms → Makes old new n.0 c) →
    IfOk r (λ n. (All (IsNode old.nodes) ms → ⊥) → Makes old new n.0 d) → OnOk r (Extends old.nodes new.nodes)
over_extends (Ok n) old new ms c d made otherwise = elim (all_or_not old.nodes ms) [
  | inl all ↦ makes_extends old new n.0 c (made all)
  | inr not ↦ makes_extends old new n.0 d (otherwise not)
]
over_extends (Err e) old new ms c d made otherwise = tt

-- one that makes an arrow
pub arrow_extends : (r : Result NodeRef AllocError) (old new : State) (a b : ℕ) (c d : Node) → IfOk r (λ n. IsNode old.nodes a → IsNode old.nodes b → Makes old new n.0 c) →
    IfOk r (λ n. (IsNode old.nodes a → IsNode old.nodes b → ⊥) → Makes old new n.0 d) → OnOk r (Extends old.nodes new.nodes)
arrow_extends (Ok n) old new a b c d made otherwise = elim (inside_or_not a (length old.nodes)) [
  | inl x ↦ elim (inside_or_not b (length old.nodes)) [
    | inl y ↦ makes_extends old new n.0 c (made x y)
    | inr not ↦ makes_extends old new n.0 d (otherwise (λ x y. not y))
  ]
  | inr not ↦ makes_extends old new n.0 d (otherwise (λ x y. not x))
]
arrow_extends (Err e) old new a b c d made otherwise = tt

-- a reading of the new nodes is one of the old
pub reading_before : (old new : List Node) (V : Types) → Extends old new → IsReading new V → IsReading old V
reading_before old new V extends reads = record {
  fits = record { each = λ n c e. reads.fits.each n c (still n c e) };
  own = λ n scope e. reads.own n scope (still n (Var bound_level scope) e);
  apart = λ n level scope b scope' e free e'. reads.apart n level scope b scope' (still n (Var level scope) e) free (still b (Var bound_level scope') e');
}
  where
    still : (n : ℕ) (c : Node) → slice_get old n ≡ Some c → slice_get new n ≡ Some c
    still n c e = extends.node n (slice_get_within old n c e) ∙ e

-- what stood in a node still does
pub stands_after : (old new : List Node) (v n : ℕ) → Extends old new → StandsIn old v n → StandsIn new v n
stands_after old new v n extends stands = record {
  each = λ F closed has. stands.each F (record { each = λ k c in_it at. closed.each k c in_it (extends.node k (slice_get_within old k c at) ∙ at) }) has;
}

-- a variable that was free still is
free_after : (old new : List Node) (v : ℕ) → Extends old new → IsFree old v → IsFree new v
free_after old new v extends free = record {
  inside = let l = extends.longer in let lt = free.inside in omega arith;
  level = free.level;
  scope = free.scope;
  reads = ap (slice_get new) (extends.roots v free.inside) ∙ extends.node (root old v) (slice_get_within old (root old v) (Var free.level free.scope) free.reads) ∙ free.reads;
  unbound = free.unbound;
}

pub unbound_after : (old new : List Node) (v : ℕ) → Extends old new → IsUnbound old v → IsUnbound new v
unbound_after old new v extends (inl free) = inl (free_after old new v extends free)
unbound_after old new v extends (inr (inside, reads)) = let l = extends.longer in inr (omega arith, ap (slice_get new) (extends.roots v inside) ∙ extends.node (root old v) (slice_get_within old (root old v) Rigid reads) ∙ reads)
