-- A type is larger than its parts: no node stands inside another that has its type.
use Rattle.std.proofs.Common.{◌≡◌, ◌≢◌, ℕ, zero, suc, ◌+◌, ◌<◌, ◌≤◌, Bool, true, false, eqb, ltb, ◌||◌, List, [], ◌∷◌, length, map, get_or, Some, refl, ◌∙◌, ap, subst, arith, ◌⊎◌, inl, inr}
use Rattle.std.specs.Prelude.{slice_get, All}
use Rattle.std.proofs.lemmas.Bool.{eq-eqb, eqb-true, lt-ltb, ltb-true}
use Rattle.type_model.specs.Types.{Typ, Typs, types_of}
use Rattle.type_model.specs.Types.{Typ as type, Typs as types}
use Rattle.type_nodes.specs.Nodes.{Node, Var, Rigid, Link, Arrow, Tuple, Con, parts, IsClosed, Apart}
use Rattle.type_nodes.specs.Links.{IsNoLink}
use Rattle.type_nodes.specs.Readings.{Types}
use Rattle.type_nodes.proofs.Lists.{one_element}
use Rattle.level_unify.specs.Walks.{StandsIn}
use Rattle.level_unify.specs.Solutions.{Loose, FitsLoosely, NeverOne}

-- how many nodes a type has
abbrev mutual
  pub size : Typ → ℕ
  size (type.Var v) = 1
  size (type.Arrow a b) = suc (size a + size b)
  size (type.Tuple ts) = suc (sizes ts)
  size (type.Con o ts) = suc (sizes ts)

  pub sizes : Typs → ℕ
  sizes types.Nil = 0
  sizes (types.Cons t ts) = size t + sizes ts

one_of_sizes : (V : Types) (ms : List ℕ) (k d : ℕ) → k < length ms → size (V (get_or ms k d)) ≤ sizes (types_of (map V ms))
one_of_sizes V [] k d lt = absurd (omega arith)
one_of_sizes V (m ∷ ms) zero d lt = omega arith
one_of_sizes V (m ∷ ms) (suc k) d lt = let h = one_of_sizes V ms k d (omega arith) in omega arith

-- a part that isn't behind a link is smaller
part_smaller : (V : Types) (n : ℕ) (c : Node) → FitsLoosely V n c → IsNoLink c → All (λ m. size (V m) < size (V n)) (parts c)
part_smaller V n (Var level scope) fits is k d lt = absurd (omega arith)
part_smaller V n Rigid fits is k d lt = absurd (omega arith)
part_smaller V n (Link m) fits is k d lt = absurd is
part_smaller V n (Arrow a b) fits is zero d lt = let e = ap size fits in omega arith
part_smaller V n (Arrow a b) fits is (suc zero) d lt = let e = ap size fits in omega arith
part_smaller V n (Arrow a b) fits is (suc (suc k)) d lt = absurd (omega arith)
part_smaller V n (Tuple ms) fits is k d lt = let e = ap size fits in let h = one_of_sizes V ms k d lt in omega arith
part_smaller V n (Con path name ms) fits is k d lt = let e = ap size fits in let h = one_of_sizes V ms k d lt in omega arith

part_no_larger : (V : Types) (n : ℕ) (c : Node) → FitsLoosely V n c → All (λ m. size (V m) ≤ size (V n)) (parts c)
part_no_larger V n (Var level scope) fits k d lt = absurd (omega arith)
part_no_larger V n Rigid fits k d lt = absurd (omega arith)
part_no_larger V n (Link m) fits zero d lt = let e = ap size fits in omega arith
part_no_larger V n (Link m) fits (suc k) d lt = absurd (omega arith)
part_no_larger V n (Arrow a b) fits k d lt = let h = part_smaller V n (Arrow a b) fits tt k d lt in omega arith
part_no_larger V n (Tuple ms) fits k d lt = let h = part_smaller V n (Tuple ms) fits tt k d lt in omega arith
part_no_larger V n (Con path name ms) fits k d lt = let h = part_smaller V n (Con path name ms) fits tt k d lt in omega arith

-- a root that is no link is not in another of its type: those with smaller types, and the root itself, have all their parts
pub apart_alike : (nodes : List Node) (V : Types) (r s : ℕ) (c : Node) → slice_get nodes s ≡ Some c → IsNoLink c → r ≢ s → Loose nodes V → V r ≡ V s → Apart nodes r s
apart_alike nodes V r s c at is other fits same = (F, closed, here, lacks (F r) refl)
  where
    F : ℕ → Bool
    F n = eqb n s || ltb (size (V n)) (size (V s))

    here : F s ≡ true
    here = ap (λ b. b || ltb (size (V s)) (size (V s))) (eq-eqb s s refl)

    smaller : (n : ℕ) → size (V n) < size (V s) → F n ≡ true
    smaller n lt = at_eqb (eqb n s) (lt-ltb (size (V n)) (size (V s)) lt)
      where
        at_eqb : (b : Bool) → ltb (size (V n)) (size (V s)) ≡ true → (b || ltb (size (V n)) (size (V s))) ≡ true
        at_eqb true e = refl
        at_eqb false e = e

    of : (n : ℕ) → F n ≡ true → (n ≡ s) ⊎ (size (V n) < size (V s))
    of n h = at_eqb (eqb n s) refl h
      where
        at_eqb : (b : Bool) → eqb n s ≡ b → (b || ltb (size (V n)) (size (V s))) ≡ true → (n ≡ s) ⊎ (size (V n) < size (V s))
        at_eqb true e h' = inl (eqb-true n s e)
        at_eqb false e h' = inr (ltb-true (size (V n)) (size (V s)) h')

    closed : IsClosed nodes F
    closed = record {
      each = λ n d has e. elim (of n has) [
        | inl same' ↦ λ k x lt. smaller _ (
            let e' : slice_get nodes n ≡ Some c = ap (slice_get nodes) same' ∙ at in
            let same_cell : c ≡ d = one_element c d (slice_get nodes n) e' e in
            let h = part_smaller V n d (fits.each n d e) (subst IsNoLink same_cell is) k x lt in
            subst (λ j. size (V (get_or (parts d) k x)) < size (V j)) same' h)
        | inr lower ↦ λ k x lt. smaller _ (let h = part_no_larger V n d (fits.each n d e) k x lt in omega arith)
      ];
    }

    lacks : (b : Bool) → F r ≡ b → F r ≡ false
    lacks true e = absurd (elim (of r e) [ inl e' ↦ other e' | inr lt ↦ let e' = ap size same in omega arith ])
    lacks false e = e

-- what stands in a root that is no link, and isn't it, never has its type
pub never_inside : (nodes : List Node) (r s : ℕ) (c : Node) → slice_get nodes s ≡ Some c → IsNoLink c → r ≢ s → StandsIn nodes r s → NeverOne nodes r s
never_inside nodes r s c at is other stands = record {
  never = λ V fits same. let (F, closed, has, lacks) = apart_alike nodes V r s c at is other fits same in let e = stands.each F closed has in absurd (cc);
}
