-- Composites whose parts are one have one type: neither stands in the other.
use Rattle.std.proofs.Common.{◌≡◌, ◌≢◌, ℕ, zero, suc, ◌<◌, Bool, true, List, [], ◌∷◌, length, set, get_or, Some, refl, sym, ◌∙◌, ap, subst, arith, inl, inr}
use Rattle.std.specs.Prelude.{slice_get, All}
use Rattle.type_model.specs.Types.{Typ as type}
use Rattle.type_nodes.specs.Nodes.{Node, Var, Rigid, Link, Arrow, Tuple, Con, parts, IsSound, Apart}
use Rattle.type_nodes.specs.Links.{next, root, reading, IsNoLink}
use Rattle.type_nodes.proofs.Lists.{same_or_other, one_element, get-set_same, get-set_other}
use Rattle.type_nodes.proofs.Roots.{EndsAfter, root_settled, redirected_root}
use Rattle.level_unify.specs.Walks.{IsCleared}
use Rattle.level_unify.proofs.Walking.{parts_inside}
use Rattle.level_unify.proofs.Steps.{cell_at}
use Rattle.type_nodes.specs.Views.{numbers}
use Rattle.type_terms.specs.declared.types.NodeRef.{NodeRef}
use Rattle.level_unify.proofs.Numbers.{numbers_length}
use Rattle.type_nodes.specs.Readings.{Types}
use Rattle.type_nodes.proofs.Identity.{identity, identity_fits}
use Rattle.level_unify.specs.Plans.{SameHead}
use Rattle.level_unify.specs.Solutions.{Loose, FitsLoosely, Equation, Solves, AreOne, ClearsAlike, paired}
use Rattle.level_unify.proofs.Loosely.{both_solved, none_solved, types_paired}
use Rattle.level_unify.proofs.Sizes.{apart_alike}
use Rattle.level_unify.proofs.Solving.{loose_root}
use Rattle.level_unify.proofs.Unified.{fits_loosely}

-- nodes with one root have one type
one_solved : (nodes : List Node) (V : Types) → Loose nodes V → (es : List Equation) → AreOne nodes es → Solves V es
one_solved nodes V fits [] h = none_solved V
one_solved nodes V fits (e ∷ es) h =
    both_solved V e es (loose_root nodes V fits e.0 ∙ ap V h.0 ∙ sym (loose_root nodes V fits e.1)) (one_solved nodes V fits es h.1)

-- two composites whose parts have one type have one
head_alike : (V : Types) (r s : ℕ) (c d : Node) → SameHead c d → FitsLoosely V r c → FitsLoosely V s d → Solves V (paired (parts c) (parts d)) → (V r ≡ V s) × IsNoLink d
head_alike V r s (Arrow a b) (Arrow x y) h p q all =
    let t = types_paired V (a ∷ b ∷ []) (x ∷ y ∷ []) refl all in
    let g : V a ≡ V x = cc in let g' : V b ≡ V y = cc in
    (p ∙ (λ i. type.Arrow (g i) (g' i)) ∙ sym q, tt)
head_alike V r s (Tuple ms) (Tuple ns) h p q all = (p ∙ ap type.Tuple (types_paired V ms ns h all) ∙ sym q, tt)
head_alike V r s (Con o name ms) (Con o' name' ns) h p q all =
    let t = types_paired V ms ns h.1 all in
    let g = h.0 in
    (p ∙ (λ i. type.Con (g i) (t i)) ∙ sym q, tt)
head_alike V r s (Var l o) d h p q all = absurd h
head_alike V r s Rigid d h p q all = absurd h
head_alike V r s (Link m) d h p q all = absurd h
head_alike V r s (Arrow a b) (Var l o) h p q all = absurd h
head_alike V r s (Arrow a b) Rigid h p q all = absurd h
head_alike V r s (Arrow a b) (Link m) h p q all = absurd h
head_alike V r s (Arrow a b) (Tuple ns) h p q all = absurd h
head_alike V r s (Arrow a b) (Con o' name' ns) h p q all = absurd h
head_alike V r s (Tuple ms) (Var l o) h p q all = absurd h
head_alike V r s (Tuple ms) Rigid h p q all = absurd h
head_alike V r s (Tuple ms) (Link m) h p q all = absurd h
head_alike V r s (Tuple ms) (Arrow x y) h p q all = absurd h
head_alike V r s (Tuple ms) (Con o' name' ns) h p q all = absurd h
head_alike V r s (Con o name ms) (Var l u) h p q all = absurd h
head_alike V r s (Con o name ms) Rigid h p q all = absurd h
head_alike V r s (Con o name ms) (Link m) h p q all = absurd h
head_alike V r s (Con o name ms) (Arrow x y) h p q all = absurd h
head_alike V r s (Con o name ms) (Tuple ns) h p q all = absurd h

-- two composites with one head have as many parts
head_length : (c d : Node) → SameHead c d → length (parts c) ≡ length (parts d)
head_length (Arrow a b) (Arrow x y) h = refl
head_length (Tuple ms) (Tuple ns) h = h
head_length (Con o name ms) (Con o' name' ns) h = h.1
head_length (Var l o) d h = absurd h
head_length Rigid d h = absurd h
head_length (Link m) d h = absurd h
head_length (Arrow a b) (Var l o) h = absurd h
head_length (Arrow a b) Rigid h = absurd h
head_length (Arrow a b) (Link m) h = absurd h
head_length (Arrow a b) (Tuple ns) h = absurd h
head_length (Arrow a b) (Con o' name' ns) h = absurd h
head_length (Tuple ms) (Var l o) h = absurd h
head_length (Tuple ms) Rigid h = absurd h
head_length (Tuple ms) (Link m) h = absurd h
head_length (Tuple ms) (Arrow x y) h = absurd h
head_length (Tuple ms) (Con o' name' ns) h = absurd h
head_length (Con o name ms) (Var l u) h = absurd h
head_length (Con o name ms) Rigid h = absurd h
head_length (Con o name ms) (Link m) h = absurd h
head_length (Con o name ms) (Arrow x y) h = absurd h
head_length (Con o name ms) (Tuple ns) h = absurd h

-- what holds of the roots of parts holds of those that are one with them
one_all : (nodes : List Node) (D : ℕ → Bool) (ms ns : List ℕ) → length ms ≡ length ns → AreOne nodes (paired ms ns) → All (λ m. D (root nodes m) ≡ true) ms → All (λ m. D (root nodes m) ≡ true) ns
one_all nodes D [] [] len one h k d lt = absurd (omega arith)
one_all nodes D [] (n ∷ ns) len one h k d lt = absurd (omega arith)
one_all nodes D (m ∷ ms) [] len one h k d lt = absurd (omega arith)
one_all nodes D (m ∷ ms) (n ∷ ns) len one h zero d lt = ap D (sym one.0) ∙ h zero d (omega arith)
one_all nodes D (m ∷ ms) (n ∷ ns) len one h (suc k) d lt = one_all nodes D ms ns (omega arith) one.1 (λ j e l. h (suc j) e (omega arith)) k d (omega arith)

-- a root whose parts are one with those of a cleared one is cleared too
pub alike_cleared : (nodes : List Node) (D D' : ℕ → Bool) (r s : ℕ) (c d : Node) → slice_get nodes r ≡ Some c → slice_get nodes s ≡ Some d → SameHead c d → AreOne nodes (paired (parts c) (parts d)) →
    IsCleared nodes D → ClearsAlike D D' r s → IsCleared nodes D'
alike_cleared nodes D D' r s c d at at' head one cleared h = record {
  each = λ n x has e. elim (h.new n has) [
    | inl b ↦ λ k z lt. h.kept _ (cleared.each n x b e k z lt)
    | inr (same, has_r) ↦
        let f : d ≡ x = one_element d x (slice_get nodes s) at' (subst (λ j. slice_get nodes j ≡ Some x) same e) in
        subst (λ y. All (λ m. D' (root nodes m) ≡ true) (parts y)) f
        (λ k z lt. h.kept _ (one_all nodes D (parts c) (parts d) (head_length c d head) one (cleared.each r c has_r at) k z lt))
  ];
}

-- a link between roots keeps a set cleared that has the second where it has the first
pub cleared_linked : (nodes new : List Node) (D : ℕ → Bool) (r s : ℕ) → IsSound nodes → IsSound new → r < length nodes → s < length nodes → root nodes r ≡ r → root nodes s ≡ s → r ≢ s →
    new ≡ set nodes r (Link s) → IsCleared nodes D → (D r ≡ true → D s ≡ true) → IsCleared new D
cleared_linked nodes new D r s sound sound' r_in s_in r_end s_end other is cleared alike =
    subst (λ ns. IsCleared ns D) (sym is) (record {
      each = λ n x has e. elim (same_or_other n r) [
        | inl same ↦
            let f : Link s ≡ x = one_element (Link s) x (slice_get (set nodes r (Link s)) r) (get-set_same nodes r cell.0 (Link s) cell.1) (subst (λ j. slice_get (set nodes r (Link s)) j ≡ Some x) same e) in
            subst (λ y. All (λ m. D (root (set nodes r (Link s)) m) ≡ true) (parts y)) f
            (one_only (λ m. D (root (set nodes r (Link s)) m) ≡ true) s (ap D end_s ∙ alike (ap D (sym same) ∙ has)))
        | inr away ↦
            let e' = sym (get-set_other nodes r n (Link s) away) ∙ e in
            λ k z lt. ends_in (get_or (parts x) k z) (parts_inside nodes sound n x e' k z lt) (cleared.each n x has e' k z lt)
      ];
    })
  where
    cell : (c : Node) × (slice_get nodes r ≡ Some c)
    cell = cell_at nodes r r_in

    stays : (n : ℕ) → n < length nodes → root nodes n ≡ n → next nodes n ≡ n
    stays n lt e = subst (λ m. next nodes m ≡ m) e (root_settled nodes sound n lt)

    ends : (n : ℕ) → n < length nodes → EndsAfter nodes (set nodes r (Link s)) r s n
    ends n lt = redirected_root nodes r s cell.0 sound (subst IsSound is sound') cell.1 (stays r r_in r_end) (stays s s_in s_end) other n lt

    end_s : root (set nodes r (Link s)) s ≡ s
    end_s = elim (ends s s_in) [ inl (p, q) ↦ q | inr (p, q) ↦ q ∙ s_end ]

    ends_in : (m : ℕ) → m < length nodes → D (root nodes m) ≡ true → D (root (set nodes r (Link s)) m) ≡ true
    ends_in m lt has = elim (ends m lt) [ inl (p, q) ↦ ap D q ∙ alike (ap D (sym p) ∙ has) | inr (p, q) ↦ ap D q ∙ has ]

    one_only : (P : ℕ → Type 0) (m : ℕ) → P m → All P (m ∷ [])
    one_only P m h zero d lt = h
    one_only P m h (suc k) d lt = absurd (omega arith)

-- the most general types tell it
pub apart_by_parts : (nodes : List Node) (r s : ℕ) (c d : Node) → IsSound nodes → slice_get nodes r ≡ Some c → slice_get nodes s ≡ Some d → r ≢ s → SameHead c d → AreOne nodes (paired (parts c) (parts d)) → Apart nodes r s
apart_by_parts nodes r s c d (rank, ranked) at at' other head one =
    let fits = fits_loosely nodes (identity rank nodes) (identity_fits nodes rank ranked) in
    let same = head_alike (identity rank nodes) r s c d head (fits.each r c at) (fits.each s d at') (one_solved nodes (identity rank nodes) fits (paired (parts c) (parts d)) one) in
    apart_alike nodes (identity rank nodes) r s d at' same.1 other fits same.0

-- roots with one head
pub same_heads : (nodes : List Node) (r s : ℕ) (c d : Node) → ((x y : Node) → slice_get nodes r ≡ Some x → slice_get nodes s ≡ Some y → SameHead x y) → root nodes r ≡ r → root nodes s ≡ s →
    reading nodes r ≡ Some c → reading nodes s ≡ Some d → SameHead c d
same_heads nodes r s c d heads r_end s_end e e' = heads c d (sym (ap (slice_get nodes) r_end) ∙ e) (sym (ap (slice_get nodes) s_end) ∙ e')

-- lists of nodes are as long as those of their numbers
pub as_long : (ms ns : List NodeRef) → length (numbers ms) ≡ length (numbers ns) → length ms ≡ length ns
as_long ms ns e = sym (numbers_length ms) ∙ e ∙ numbers_length ns
