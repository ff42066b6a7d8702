-- What unification answers, from what its parts answered.
use Rattle.std.proofs.Common.{◌≡◌, ◌≢◌, ℕ, zero, suc, ◌<◌, Bool, true, List, [], ◌∷◌, length, Some, refl, sym, ◌∙◌, ap, subst, arith, inl, inr}
use Rattle.std.specs.Prelude.{slice_get, All}
use Rattle.std.proofs.lemmas.Option.{slice_get_within}
use Rattle.type_terms.specs.declared.types.NodeRef.{NodeRef}
use Rattle.type_nodes.specs.Nodes.{Node, Var, Rigid, Link, Arrow, Tuple, Con, parts, bound_level, IsSound, IsClosed}
use Rattle.type_nodes.specs.Links.{root, IsNoLink}
use Rattle.type_nodes.proofs.Roots.{root_no_link, root_inside, closed_root, root_here, root_settled, root_link, next_stays}
use Rattle.level_unify.specs.declared.fault.ClashKind.TheVariants.{Shape, Cycle, Scope}
use Rattle.level_unify.specs.declared.fault.Clash.{Clash}
use Rattle.level_unify.specs.Walks.{StandsIn}
use Rattle.level_unify.specs.Solutions.{Solved, Tracked, HaveNoBound, NeverOne, Cap, IsListed}
use Rattle.level_unify.specs.Limits.{NeverCapped}
use Rattle.level_unify.specs.Unification.{IsInside, IsCyclic, NeverAlike, HasKind, HasCause, Clashes}
use Rattle.level_unify.specs.declared.fault.ClashKind.{ClashKind}
use Rattle.level_unify.specs.declared.fault.UnifyFault.TheVariants as fault
use Rattle.level_unify.specs.declared.unifying.Failure.{Failure}
use Rattle.level_unify.specs.declared.unifying.Failure.TheVariants.{NotOne, OutOfScope}
use Rattle.type_nodes.specs.States.{State, Keeps, Restored, state_at}
use Rattle.type_nodes.proofs.Trails.{state_now}
use Rattle.level_unify.proofs.Steps.{cell_at, never_turned}
use Rattle.level_unify.proofs.Sizes.{never_inside}
use Rattle.level_unify.proofs.Solving.{loose_root}
use Rattle.level_unify.proofs.Unified.{never_one, never_scoped}

-- a root that stands in a node stands in the node's root
stands_at_root : (nodes : List Node) (a b : ℕ) → IsSound nodes → a < length nodes → StandsIn nodes (root nodes a) b → StandsIn nodes (root nodes a) (root nodes b)
stands_at_root nodes a b sound lt stands = record { each = λ F closed has. own F (stands.each (λ n. F (root nodes n)) (by_roots F closed) has) }
  where
    own : (F : ℕ → Bool) → F (root nodes (root nodes a)) ≡ true → F (root nodes a) ≡ true
    own F h = ap F (sym (root_here nodes (root nodes a) (root_settled nodes sound a lt))) ∙ h

    one : (F : ℕ → Bool) (m : ℕ) → F (root nodes m) ≡ true → All (λ k. F (root nodes k) ≡ true) (m ∷ [])
    one F m has zero d l = has
    one F m has (suc k) d l = absurd (omega arith)

    no_link : (F : ℕ → Bool) → IsClosed nodes F → (n : ℕ) (c : Node) → slice_get nodes n ≡ Some c → IsNoLink c → F (root nodes n) ≡ true → All (λ m. F (root nodes m) ≡ true) (parts c)
    no_link F closed n c e is has = λ k d l. closed_root nodes F closed _ (closed.each n c (ap F (sym (root_here nodes n (next_stays nodes n c e is))) ∙ has) e k d l)

    each : (F : ℕ → Bool) → IsClosed nodes F → (n : ℕ) (c : Node) → slice_get nodes n ≡ Some c → F (root nodes n) ≡ true → All (λ m. F (root nodes m) ≡ true) (parts c)
    each F closed n (Var level scope) e has = no_link F closed n (Var level scope) e tt has
    each F closed n Rigid e has = no_link F closed n Rigid e tt has
    each F closed n (Link m) e has = one F m (ap F (sym (root_link nodes sound n m (slice_get_within nodes n (Link m) e) e)) ∙ has)
    each F closed n (Arrow x y) e has = no_link F closed n (Arrow x y) e tt has
    each F closed n (Tuple ms) e has = no_link F closed n (Tuple ms) e tt has
    each F closed n (Con p name ms) e has = no_link F closed n (Con p name ms) e tt has

    by_roots : (F : ℕ → Bool) → IsClosed nodes F → IsClosed nodes (λ n. F (root nodes n))
    by_roots F closed = record { each = λ n c has e. each F closed n c e has }

-- where a stands inside b nothing that fits gives both one type
pub never_cyclic : (nodes : List Node) (a b : ℕ) → IsSound nodes → b < length nodes → IsInside nodes a b → NeverOne nodes a b
never_cyclic nodes a b sound lt (free, other, stands) =
    let (c, at) = cell_at nodes (root nodes b) (root_inside nodes sound b lt) in
    let h = never_inside nodes (root nodes a) (root nodes b) c at (root_no_link nodes sound b c lt at) other (stands_at_root nodes a b sound free.inside stands) in
    record { never = λ V fits same. h.never V fits (sym (loose_root nodes V fits a) ∙ same ∙ loose_root nodes V fits b) }

never_either : (nodes : List Node) (a b : ℕ) → IsSound nodes → a < length nodes → b < length nodes → IsCyclic nodes a b → NeverOne nodes a b
never_either nodes a b sound a_in b_in (inl h) = never_cyclic nodes a b sound b_in h
never_either nodes a b sound a_in b_in (inr h) = never_turned nodes a b (never_cyclic nodes b a sound a_in h)

-- where the scopes keep both apart
pub scope_clash : (old mid : List Node) (a b : ℕ) (caps : List Cap) → IsSound old → a < length old → b < length old → IsSound mid → HaveNoBound old a b → Solved old mid a b → Tracked old mid a b caps →
    NeverCapped mid caps → NeverAlike old a b × HasKind old a b Scope
scope_clash old mid a b caps sound a_in b_in sound' none s t never =
    let n = never_scoped old mid a b caps sound' none s t never in
    (n.0, ((λ cyclic. (never_one old a b (never_either old a b sound a_in b_in cyclic)).1 n.1), n.1))

-- a failure and its kind tell the clash
pub told_clash : (old nodes : List Node) (a b : NodeRef) (failure : Failure) (kind : ClashKind) → nodes ≡ old → a.0 < length old → b.0 < length old → HasCause nodes a.0 b.0 failure kind →
    (failure ≡ NotOne → NeverOne old a.0 b.0) → (failure ≡ OutOfScope → NeverAlike old a.0 b.0 × HasKind old a.0 b.0 Scope) → (clash : Clash) →
    fault.Clash (record { left = a; right = b; kind = kind }) ≡ fault.Clash clash → Clashes old a b clash
told_clash old nodes a b failure kind same a_in b_in cause not_one scoped clash e =
    let h = of_kind kind (subst (λ ns. HasCause ns a.0 b.0 failure kind) same cause) in
    let f : record { left = a; right = b; kind = kind } ≡ clash = cc in
    subst (Clashes old a b) f (record { left = refl; right = refl; never = h.0; kind = h.1 })
  where
    of_kind : (x : ClashKind) → HasCause old a.0 b.0 failure x → NeverAlike old a.0 b.0 × HasKind old a.0 b.0 x
    of_kind Cycle (e', sound, cyclic) = let n = never_one old a.0 b.0 (never_either old a.0 b.0 sound a_in b_in cyclic) in (n.0, (cyclic, n.1))
    of_kind Scope e' = scoped e'
    of_kind Shape (e', not) = let n = never_one old a.0 b.0 (not_one e') in (n.0, (not, n.1))

-- the nodes after a rollback are those from before
pub back_again : (old mid new : State) (mark : ℕ) → mark ≡ length old.trail → Keeps old mid → Restored mid new mark → new.nodes ≡ old.nodes
back_again old mid new mark e keeps r = r.nodes ∙ ap (state_at mid) e ∙ keeps.states (length old.trail) (omega arith) ∙ state_now old

pub caps_inside : (old mid : List Node) (a b : ℕ) (caps : List Cap) → Solved old mid a b → Tracked old mid a b caps → (x : Cap) → IsListed caps x → (x.0 < length mid) × (x.1 ≢ bound_level)
caps_inside old mid a b caps s t x h =
    let w = t.was x h in
    let l = slice_get_within old x.0 (Var x.1 x.2) w.0 in
    let e = s.len in (omega arith, w.1)
