-- What one link does to the types that fit.
use Rattle.std.proofs.Common.{◌≡◌, ℕ, zero, suc, List, [], ◌∷◌, length, map, set, Some, refl, sym, ◌∙◌, ap, subst, arith, inl, inr}
use Rattle.std.specs.Prelude.{slice_get}
use Rattle.type_model.specs.Types.{types_of}
use Rattle.type_model.specs.Types.{Typ as type, Typs as types}
use Rattle.type_nodes.specs.Nodes.{Node, Var, Rigid, Link, Arrow, Tuple, Con, parts}
use Rattle.type_nodes.specs.Readings.{Types}
use Rattle.type_nodes.proofs.Lists.{same_or_other, one_element, get-set_same, get-set_other}
use Rattle.level_unify.specs.Plans.{SameHead}
use Rattle.level_unify.specs.Solutions.{Loose, FitsLoosely, Equation, paired, Solves}

-- what fits with the new node fits with the old one, if it does at the node itself
pub loose_before : (nodes : List Node) (V : Types) (r : ℕ) (old new : Node) → slice_get nodes r ≡ Some old → FitsLoosely V r old → Loose (set nodes r new) V → Loose nodes V
loose_before nodes V r old new at here fits = record {
  each = λ n c e. elim (same_or_other n r) [
    | inl same ↦
        let e' : old ≡ c = one_element old c (slice_get nodes r) at (subst (λ k. slice_get nodes k ≡ Some c) same e) in
        subst (λ k. FitsLoosely V k c) (sym same) (subst (FitsLoosely V r) e' here)
    | inr other ↦ fits.each n c (get-set_other nodes r n new other ∙ e)
  ];
}

-- and the other way round
pub loose_after : (nodes : List Node) (V : Types) (r : ℕ) (old new : Node) → slice_get nodes r ≡ Some old → FitsLoosely V r new → Loose nodes V → Loose (set nodes r new) V
loose_after nodes V r old new at here fits = record {
  each = λ n c e. elim (same_or_other n r) [
    | inl same ↦
        let e' : new ≡ c = one_element new c (slice_get (set nodes r new) r) (get-set_same nodes r old new at) (subst (λ k. slice_get (set nodes r new) k ≡ Some c) same e) in
        subst (λ k. FitsLoosely V k c) (sym same) (subst (FitsLoosely V r) e' here)
    | inr other ↦ fits.each n c (sym (get-set_other nodes r n new other) ∙ e)
  ];
}

-- the node's own equation
pub loose_at_set : (nodes : List Node) (V : Types) (r s : ℕ) (old : Node) → slice_get nodes r ≡ Some old → Loose (set nodes r (Link s)) V → V r ≡ V s
loose_at_set nodes V r s old at fits = fits.each r (Link s) (get-set_same nodes r old (Link s) at)

-- lists of one length with the same types in pairs
first_solved : (V : Types) (e : Equation) (es : List Equation) → Solves V (e ∷ es) → V e.0 ≡ V e.1
first_solved V e es h = h.each 0 e refl

rest_solved : (V : Types) (e : Equation) (es : List Equation) → Solves V (e ∷ es) → Solves V es
rest_solved V e es h = record { each = λ k x at. h.each (suc k) x at }

pub both_solved : (V : Types) (e : Equation) (es : List Equation) → V e.0 ≡ V e.1 → Solves V es → Solves V (e ∷ es)
both_solved V e es p h = record { each = at }
  where
    at : (k : ℕ) (x : Equation) → slice_get (e ∷ es) k ≡ Some x → V x.0 ≡ V x.1
    at zero x q = let same : e ≡ x = cc in subst (λ y. V y.0 ≡ V y.1) same p
    at (suc k) x q = h.each k x q

pub none_solved : (V : Types) → Solves V []
none_solved V = record { each = λ k e at. absurd (cc) }

pub types_paired : (V : Types) (ms ns : List ℕ) → length ms ≡ length ns → Solves V (paired ms ns) → types_of (map V ms) ≡ types_of (map V ns)
types_paired V [] [] len h = refl
types_paired V [] (n ∷ ns) len h = absurd (omega arith)
types_paired V (m ∷ ms) [] len h = absurd (omega arith)
types_paired V (m ∷ ms) (n ∷ ns) len h =
    let p = first_solved V (m, n) (paired ms ns) h in
    let q = types_paired V ms ns (omega arith) (rest_solved V (m, n) (paired ms ns) h) in
    λ i. types.Cons (p i) (q i)

pub paired_types : (V : Types) (ms ns : List ℕ) → types_of (map V ms) ≡ types_of (map V ns) → Solves V (paired ms ns)
paired_types V [] ns e = none_solved V
paired_types V (m ∷ ms) [] e = none_solved V
paired_types V (m ∷ ms) (n ∷ ns) e =
    let p : V m ≡ V n = cc in
    let q : types_of (map V ms) ≡ types_of (map V ns) = cc in
    both_solved V (m, n) (paired ms ns) p (paired_types V ms ns q)

-- two composites with one head have one type, and then their parts do
pub head_forth : (V : Types) (r s : ℕ) (c d : Node) → SameHead c d → FitsLoosely V r c → FitsLoosely V s d → V r ≡ V s → Solves V (paired (parts c) (parts d))
head_forth V r s (Arrow a b) (Arrow x y) h p q e = paired_types V (a ∷ b ∷ []) (x ∷ y ∷ []) (
    let f : type.Arrow (V a) (V b) ≡ type.Arrow (V x) (V y) = sym p ∙ e ∙ q in
    let g : V a ≡ V x = cc in let g' : V b ≡ V y = cc in
    λ i. types.Cons (g i) (types.Cons (g' i) types.Nil))
head_forth V r s (Tuple ms) (Tuple ns) h p q e = paired_types V ms ns (
    let f : type.Tuple (types_of (map V ms)) ≡ type.Tuple (types_of (map V ns)) = sym p ∙ e ∙ q in cc)
head_forth V r s (Con o name ms) (Con o' name' ns) h p q e = paired_types V ms ns (
    let f : type.Con o (types_of (map V ms)) ≡ type.Con o' (types_of (map V ns)) = sym p ∙ e ∙ q in cc)
head_forth V r s (Var l o) d h p q e = absurd h
head_forth V r s Rigid d h p q e = absurd h
head_forth V r s (Link m) d h p q e = absurd h
head_forth V r s (Arrow a b) (Var l o) h p q e = absurd h
head_forth V r s (Arrow a b) Rigid h p q e = absurd h
head_forth V r s (Arrow a b) (Link m) h p q e = absurd h
head_forth V r s (Arrow a b) (Tuple ns) h p q e = absurd h
head_forth V r s (Arrow a b) (Con o' name' ns) h p q e = absurd h
head_forth V r s (Tuple ms) (Var l o) h p q e = absurd h
head_forth V r s (Tuple ms) Rigid h p q e = absurd h
head_forth V r s (Tuple ms) (Link m) h p q e = absurd h
head_forth V r s (Tuple ms) (Arrow x y) h p q e = absurd h
head_forth V r s (Tuple ms) (Con o' name' ns) h p q e = absurd h
head_forth V r s (Con o name ms) (Var l u) h p q e = absurd h
head_forth V r s (Con o name ms) Rigid h p q e = absurd h
head_forth V r s (Con o name ms) (Link m) h p q e = absurd h
head_forth V r s (Con o name ms) (Arrow x y) h p q e = absurd h
head_forth V r s (Con o name ms) (Tuple ns) h p q e = absurd h

-- where the parts have one type, the one fits as the other
pub head_back : (V : Types) (r s : ℕ) (c d : Node) → SameHead c d → FitsLoosely V s d → V r ≡ V s → Solves V (paired (parts c) (parts d)) → FitsLoosely V r c
head_back V r s (Arrow a b) (Arrow x y) h q e all =
    let t = types_paired V (a ∷ b ∷ []) (x ∷ y ∷ []) refl all in
    let g : V a ≡ V x = cc in let g' : V b ≡ V y = cc in
    e ∙ q ∙ sym (λ i. type.Arrow (g i) (g' i))
head_back V r s (Tuple ms) (Tuple ns) h q e all = e ∙ q ∙ ap type.Tuple (sym (types_paired V ms ns h all))
head_back V r s (Con o name ms) (Con o' name' ns) h q e all =
    let t = sym (types_paired V ms ns h.1 all) in
    let p = sym h.0 in
    e ∙ q ∙ (λ i. type.Con (p i) (t i))
head_back V r s (Var l o) d h q e all = absurd h
head_back V r s Rigid d h q e all = absurd h
head_back V r s (Link m) d h q e all = absurd h
head_back V r s (Arrow a b) (Var l o) h q e all = absurd h
head_back V r s (Arrow a b) Rigid h q e all = absurd h
head_back V r s (Arrow a b) (Link m) h q e all = absurd h
head_back V r s (Arrow a b) (Tuple ns) h q e all = absurd h
head_back V r s (Arrow a b) (Con o' name' ns) h q e all = absurd h
head_back V r s (Tuple ms) (Var l o) h q e all = absurd h
head_back V r s (Tuple ms) Rigid h q e all = absurd h
head_back V r s (Tuple ms) (Link m) h q e all = absurd h
head_back V r s (Tuple ms) (Arrow x y) h q e all = absurd h
head_back V r s (Tuple ms) (Con o' name' ns) h q e all = absurd h
head_back V r s (Con o name ms) (Var l u) h q e all = absurd h
head_back V r s (Con o name ms) Rigid h q e all = absurd h
head_back V r s (Con o name ms) (Link m) h q e all = absurd h
head_back V r s (Con o name ms) (Arrow x y) h q e all = absurd h
head_back V r s (Con o name ms) (Tuple ns) h q e all = absurd h
