-- What stands in a node and in its type at a reading.
use Rattle.std.proofs.Common.{◌≡◌, ◌≢◌, ℕ, zero, suc, ◌<◌, ◌^◌, Bool, true, false, eqb, List, [], ◌∷◌, length, map, get_or, Option, Some, None, refl, sym, ◌∙◌, ap, subst, arith, inl, inr}
use Rattle.std.specs.Prelude.{slice_get, All}
use Rattle.std.proofs.lemmas.Bool.{eqb-true, eq-eqb}
use Rattle.std.proofs.lemmas.Option.{slice_get_within}
use Rattle.type_model.specs.Types.{Path, Typ, types_of, occurs, occurs_any}
use Rattle.type_model.specs.Types.{Typ as type}
use Rattle.type_model.specs.Origins.{rigid}
use Rattle.type_model.proofs.Applying.{or_cases}
use Rattle.type_nodes.specs.Nodes.{Node, Var, Rigid, Link, Arrow, Tuple, Con, parts, bound_level, IsSound}
use Rattle.type_nodes.specs.Readings.{Types, IsReading}
use Rattle.level_unify.specs.Walks.{StandsIn}
use Rattle.level_unify.specs.Instances.{is_bound}
use Rattle.level_unify.proofs.Steps.{cell_at}
use Rattle.level_unify.proofs.Variants.{bound_cell}
use Rattle.scheme_match.specs.Covering.{IsOrigin, KeepsOutRigid}
use Rattle.scheme_match.proofs.Thawing.{Leaves, AllLeft, IsOfRigid, scoped_leaves}

-- what holds of a node where it holds of its parts holds of each node
pub by_parts : (nodes : List Node) → IsSound nodes → (P : ℕ → Type 0) → ((n : ℕ) (c : Node) → slice_get nodes n ≡ Some c → All P (parts c) → P n) → (n : ℕ) → n < length nodes → P n
by_parts nodes sound P step n lt = go (suc (sound.0 n)) n (omega arith) lt
  where
    go : (k n : ℕ) → sound.0 n < k → n < length nodes → P n
    go zero n low lt = absurd (omega arith)
    go (suc k) n low lt =
        let (c, at) = cell_at nodes n lt in
        step n c at (λ j d within.
        let (inside, lower) = sound.1.each n c at j d within in
        go k (get_or (parts c) j d) (omega arith) inside)

pub stands_itself : (nodes : List Node) (n : ℕ) → StandsIn nodes n n
stands_itself nodes n = record { each = λ F closed has. has }

-- the parts of what stands in a node stand in it
parts_stand : (nodes : List Node) (n a : ℕ) (c : Node) → slice_get nodes n ≡ Some c → StandsIn nodes n a → All (λ p. StandsIn nodes p a) (parts c)
parts_stand nodes n a c at stands j d within = record { each = λ F closed has. closed.each n c (stands.each F closed has) at j d within }

-- and what stands in a part of a node stands in the node
from_parts : (nodes : List Node) (b n : ℕ) (c : Node) → slice_get nodes n ≡ Some c → All (λ p. StandsIn nodes b p → StandsIn nodes b n) (parts c)
from_parts nodes b n c at j d within = λ stands. record { each = λ F closed has. stands.each F closed (closed.each n c has at j d within) }

all_left : (find : Path → Option Typ) (V : Types) (ms : List ℕ) → All (λ m. Leaves find (V m)) ms → AllLeft find (types_of (map V ms))
all_left find V [] h = tt
all_left find V (m ∷ ms) h = (h zero zero (omega arith), all_left find V ms (λ k d lt. h (suc k) d (omega arith)))

left_origin : (find : Path → Option Typ) (o : Path) → IsOfRigid find → IsOrigin o → find o ≡ None
left_origin find [] is own = is.none
left_origin find (k ∷ rest) is own = is.others k rest (λ e. own rest (ap (λ x. x ∷ rest) e))

-- In what keeps out rigid variables nothing stands for one that was made later.
pub node_leaves : (nodes : List Node) (V : Types) (find : Path → Option Typ) (a : ℕ) → IsSound nodes → IsReading nodes V → IsOfRigid find →
    ((n : ℕ) → n < length nodes → find ((2 ^ 64) ∷ n ∷ []) ≡ None) → KeepsOutRigid nodes a → a < length nodes → Leaves find (V a)
node_leaves nodes V find a sound reads is old keeps lt =
    by_parts nodes sound (λ n. StandsIn nodes n a → Leaves find (V n)) (λ n c at below stands. here n c at stands (λ j d within. below j d within (parts_stand nodes n a c at stands j d within))) a lt (stands_itself nodes a)
  where
    from : (n : ℕ) (t : Typ) → V n ≡ t → Leaves find t → Leaves find (V n)
    from n t e h = subst (Leaves find) (sym e) h

    variable : (n level scope : ℕ) → slice_get nodes n ≡ Some (Var level scope) → StandsIn nodes n a → (t : Bool) → eqb level bound_level ≡ t → Leaves find (V n)
    variable n level scope at stands true e =
        from n (type.Var n) (reads.own n scope (at ∙ ap (λ l. Some (Var l scope)) (eqb-true level bound_level e))) tt
    variable n level scope at stands false e =
        let free : level ≢ bound_level = λ is. (let t : true ≡ false = sym (eq-eqb level bound_level is) ∙ e in cc) in
        scoped_leaves find scope (V n) is (keeps.scopes n level scope stands at free) (reads.fits.each n (Var level scope) at free)

    here : (n : ℕ) (c : Node) → slice_get nodes n ≡ Some c → StandsIn nodes n a → All (λ p. Leaves find (V p)) (parts c) → Leaves find (V n)
    here n (Var level scope) at stands below = variable n level scope at stands (eqb level bound_level) refl
    here n Rigid at stands below = from n (rigid n) (reads.fits.each n Rigid at) (old n (let w = slice_get_within nodes n Rigid at in omega arith), tt)
    here n (Link m) at stands below = from n (V m) (reads.fits.each n (Link m) at) (below zero zero (omega arith))
    here n (Arrow x y) at stands below = from n (type.Arrow (V x) (V y)) (reads.fits.each n (Arrow x y) at) (below zero zero (omega arith), below 1 zero (omega arith))
    here n (Tuple ms) at stands below = from n (type.Tuple (types_of (map V ms))) (reads.fits.each n (Tuple ms) at) (all_left find V ms below)
    here n (Con path name ms) at stands below = from n (type.Con path (types_of (map V ms))) (reads.fits.each n (Con path name ms) at) (left_origin find path is (keeps.origins n path name ms stands at), all_left find V ms below)

any_stands : (b : ℕ) (V : Types) (S : Type 0) (ms : List ℕ) → All (λ m. occurs b (V m) ≡ true → S) ms → occurs_any b (types_of (map V ms)) ≡ true → S
any_stands b V S [] h o = absurd cc
any_stands b V S (m ∷ ms) h o = elim (or_cases (occurs b (V m)) (occurs_any b (types_of (map V ms))) o) [
  | inl first ↦ h zero zero (omega arith) first
  | inr rest ↦ any_stands b V S ms (λ k d lt. h (suc k) d (omega arith)) rest
]

-- A bound variable that occurs in a node's type stands in the node.
pub occurs_stands : (nodes : List Node) (V : Types) (b : ℕ) → IsSound nodes → IsReading nodes V → is_bound nodes b ≡ true → (n : ℕ) → n < length nodes → occurs b (V n) ≡ true → StandsIn nodes b n
occurs_stands nodes V b sound reads bound n lt = by_parts nodes sound (λ k. occurs b (V k) ≡ true → StandsIn nodes b k) step n lt
  where
    at_type : (k : ℕ) (t : Typ) → V k ≡ t → occurs b (V k) ≡ true → occurs b t ≡ true
    at_type k t e o = subst (λ x. occurs b x ≡ true) e o

    variable : (k level scope : ℕ) → slice_get nodes k ≡ Some (Var level scope) → occurs b (V k) ≡ true → (t : Bool) → eqb level bound_level ≡ t → StandsIn nodes b k
    variable k level scope at o true e =
        let own = reads.own k scope (at ∙ ap (λ l. Some (Var l scope)) (eqb-true level bound_level e)) in
        subst (λ x. StandsIn nodes x k) (sym (eqb-true b k (at_type k (type.Var k) own o))) (stands_itself nodes k)
    variable k level scope at o false e =
        let free : level ≢ bound_level = λ is. (let t : true ≡ false = sym (eq-eqb level bound_level is) ∙ e in cc) in
        let (scope', at') = bound_cell nodes b bound in
        absurd (let none : true ≡ false = sym o ∙ reads.apart k level scope b scope' at free at' in cc)

    step : (k : ℕ) (c : Node) → slice_get nodes k ≡ Some c → All (λ p. occurs b (V p) ≡ true → StandsIn nodes b p) (parts c) → occurs b (V k) ≡ true → StandsIn nodes b k
    step k (Var level scope) at below o = variable k level scope at o (eqb level bound_level) refl
    step k Rigid at below o = absurd (let n : false ≡ true = at_type k (rigid k) (reads.fits.each k Rigid at) o in cc)
    step k (Link m) at below o = from_parts nodes b k (Link m) at zero zero (omega arith) (below zero zero (omega arith) (at_type k (V m) (reads.fits.each k (Link m) at) o))
    step k (Arrow x y) at below o = elim (or_cases (occurs b (V x)) (occurs b (V y)) (at_type k (type.Arrow (V x) (V y)) (reads.fits.each k (Arrow x y) at) o)) [
      | inl l ↦ from_parts nodes b k (Arrow x y) at zero zero (omega arith) (below zero zero (omega arith) l)
      | inr r ↦ from_parts nodes b k (Arrow x y) at 1 zero (omega arith) (below 1 zero (omega arith) r)
    ]
    step k (Tuple ms) at below o = any_stands b V (StandsIn nodes b k) ms (λ j d within h. from_parts nodes b k (Tuple ms) at j d within (below j d within h)) (at_type k (type.Tuple (types_of (map V ms))) (reads.fits.each k (Tuple ms) at) o)
    step k (Con path name ms) at below o = any_stands b V (StandsIn nodes b k) ms (λ j d within h. from_parts nodes b k (Con path name ms) at j d within (below j d within h)) (at_type k (type.Con path (types_of (map V ms))) (reads.fits.each k (Con path name ms) at) o)
