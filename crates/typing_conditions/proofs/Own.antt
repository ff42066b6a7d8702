-- The types that nodes have by themselves: each variable is itself.
use Rattle.std.proofs.Common.{◌≡◌, ℕ, zero, suc, ◌<◌, Bool, true, List, [], ◌∷◌, length, map, get_or, Option, Some, None, refl, sym, ◌∙◌, ap, subst, arith, inl, inr}
use Rattle.std.specs.Prelude.{slice_get, All}
use Rattle.std.proofs.lemmas.Bool.{eqb-true}
use Rattle.type_model.specs.Types.{types_of, occurs, occurs_any}
use Rattle.type_model.specs.Substitutions.{apply}
use Rattle.type_model.proofs.Applying.{or_cases}
use Rattle.type_nodes.specs.Nodes.{Node, Var, Rigid, Link, Arrow, Tuple, Con, parts, IsRanked, IsSound, IsClosed}
use Rattle.type_nodes.specs.Readings.{Types}
use Rattle.type_nodes.proofs.Identity.{built_from, read_in, identity, built_apply, identity_built, identity_fits}
use Rattle.level_unify.specs.Solutions.{Loose, FitsLoosely}
use Rattle.level_unify.proofs.Unified.{fits_loosely}
use Rattle.level_unify.proofs.Steps.{cell_at}
use Rattle.signature_model.specs.Matching.{IsKnown, AreKnown}
use Rattle.typing_conditions.specs.Locals.{IsVar, IsPlain, IsOwn}

-- what any of some types has
any_of : (v : ℕ) (P : Types) (ms : List ℕ) (X : Type 0) → All (λ m. occurs v (P m) ≡ true → X) ms → occurs_any v (types_of (map P ms)) ≡ true → X
any_of v P [] X h o = absurd (cc)
any_of v P (m ∷ ms) X h o = elim (or_cases (occurs v (P m)) (occurs_any v (types_of (map P ms))) o) [
  | inl i ↦ h zero zero (omega arith) i
  | inr i ↦ any_of v P ms X (λ k d lt. h (suc k) d (omega arith)) i
]

-- a variable of what is built is the node's own, or one of a part's type
pub built_has : (v : ℕ) (P : Types) (n : ℕ) (c : Node) (X : Type 0) → ((l o : ℕ) → c ≡ Var l o → v ≡ n → X) → All (λ m. occurs v (P m) ≡ true → X) (parts c) → occurs v (built_from P n (Some c)) ≡ true → X
built_has v P n (Var l o) X own h o' = own l o refl (eqb-true v n o')
built_has v P n Rigid X own h o' = absurd (cc)
built_has v P n (Link m) X own h o' = h zero zero (omega arith) o'
built_has v P n (Arrow a b) X own h o' = elim (or_cases (occurs v (P a)) (occurs v (P b)) o') [ inl i ↦ h zero zero (omega arith) i | inr i ↦ h 1 zero (omega arith) i ]
built_has v P n (Tuple ms) X own h o' = any_of v P ms X h o'
built_has v P n (Con p name ms) X own h o' = any_of v P ms X h o'

module _ (nodes : List Node) (rank : ℕ → ℕ) (ranked : IsRanked nodes rank) where
  read_only : (k n v : ℕ) → rank n < k → n < length nodes → occurs v (read_in k nodes n) ≡ true → IsVar nodes v
  read_only zero n v low inside o = absurd (omega arith)
  read_only (suc k) n v low inside o =
      let (c, e) = cell_at nodes n inside in
      let down = ranked.each n c e in
      built_has v (read_in k nodes) n c (IsVar nodes v)
      (λ l o' f s. record { level = l; scope = o'; at = ap (slice_get nodes) s ∙ e ∙ ap (λ d. Some d) f })
      (λ j d lt h. read_only k (get_or (parts c) j d) v (let y = (down j d lt).1 in omega arith) (down j d lt).0 h)
      (subst (λ t. occurs v (built_from (read_in k nodes) n t) ≡ true) e o)

  read_stands : (k n v : ℕ) → rank n < k → n < length nodes → occurs v (read_in k nodes n) ≡ true → (F : ℕ → Bool) → IsClosed nodes F → F n ≡ true → F v ≡ true
  read_stands zero n v low inside o F closed has = absurd (omega arith)
  read_stands (suc k) n v low inside o F closed has =
      let (c, e) = cell_at nodes n inside in
      let down = ranked.each n c e in
      built_has v (read_in k nodes) n c (F v ≡ true)
      (λ l o' f s. ap F s ∙ has)
      (λ j d lt h. read_stands k (get_or (parts c) j d) v (let y = (down j d lt).1 in omega arith) (down j d lt).0 h F closed (closed.each n c has e j d lt))
      (subst (λ t. occurs v (built_from (read_in k nodes) n t) ≡ true) e o)

-- what fits loosely comes from the nodes' own types by a substitution
loose_built : (V P : Types) (n : ℕ) (c : Node) → FitsLoosely V n c → All (λ m. V m ≡ apply V (P m)) (parts c) → V n ≡ apply V (built_from P n (Some c))
loose_built V P n (Var l o) fits h = refl
loose_built V P n Rigid fits h = built_apply V P n Rigid fits h
loose_built V P n (Link m) fits h = built_apply V P n (Link m) fits h
loose_built V P n (Arrow a b) fits h = built_apply V P n (Arrow a b) fits h
loose_built V P n (Tuple ms) fits h = built_apply V P n (Tuple ms) fits h
loose_built V P n (Con p name ms) fits h = built_apply V P n (Con p name ms) fits h

loose_option : (V P : Types) (n : ℕ) (o : Option Node) → ((c : Node) → o ≡ Some c → FitsLoosely V n c × All (λ m. V m ≡ apply V (P m)) (parts c)) → V n ≡ apply V (built_from P n o)
loose_option V P n None h = refl
loose_option V P n (Some c) h = loose_built V P n c (h c refl).0 (h c refl).1

loose_determines : (nodes : List Node) (V : Types) → Loose nodes V → (k n : ℕ) → V n ≡ apply V (read_in k nodes n)
loose_determines nodes V fits zero n = refl
loose_determines nodes V fits (suc k) n =
    loose_option V (read_in k nodes) n (slice_get nodes n) (λ c e. (fits.each n c e, λ j d lt. loose_determines nodes V fits k (get_or (parts c) j d)))

-- no unknown type stands in what is built of types without any
each_known : (P : Types) (ms : List ℕ) → ((m : ℕ) → IsKnown (P m)) → AreKnown (types_of (map P ms))
each_known P [] h = tt
each_known P (m ∷ ms) h = (h m, each_known P ms h)

built_known : (nodes : List Node) → IsPlain nodes → (P : Types) → ((m : ℕ) → IsKnown (P m)) → (n : ℕ) (c : Node) → slice_get nodes n ≡ Some c → IsKnown (built_from P n (Some c))
built_known nodes plain P h n (Var l o) e = tt
built_known nodes plain P h n Rigid e = (refl, tt)
built_known nodes plain P h n (Link m) e = h m
built_known nodes plain P h n (Arrow a b) e = (h a, h b)
built_known nodes plain P h n (Tuple ms) e = each_known P ms h
built_known nodes plain P h n (Con p name ms) e = (plain.each n p name ms e, each_known P ms h)

read_known : (nodes : List Node) → IsPlain nodes → (k n : ℕ) → IsKnown (read_in k nodes n)
read_known nodes plain zero n = tt
read_known nodes plain (suc k) n = at (read_known nodes plain k) (slice_get nodes n) refl
  where
    at : ((m : ℕ) → IsKnown (read_in k nodes m)) → (o : Option Node) → slice_get nodes n ≡ o → IsKnown (built_from (read_in k nodes) n (slice_get nodes n))
    at go None e = subst (λ o. IsKnown (built_from (read_in k nodes) n o)) (sym e) tt
    at go (Some c) e = subst (λ o. IsKnown (built_from (read_in k nodes) n o)) (sym e) (built_known nodes plain (read_in k nodes) go n c e)

-- sound nodes have types of their own
pub own_of : (nodes : List Node) → IsSound nodes → (I : Types) × IsOwn nodes I
own_of nodes (rank, ranked) = (
  identity rank nodes,
  record {
    loose = fits_loosely nodes (identity rank nodes) (identity_fits nodes rank ranked);
    vars = λ n l o e. identity_built nodes rank ranked n (Var l o) e;
    comes = λ V fits n. loose_determines nodes V fits (suc (rank n)) n;
    only = λ n v lt o. read_only nodes rank ranked (suc (rank n)) n v (omega arith) lt o;
    known = λ plain n. read_known nodes plain (suc (rank n)) n;
    stands = λ n v lt o. record { each = λ F closed has. read_stands nodes rank ranked (suc (rank n)) n v (omega arith) lt o F closed has };
  },
)
