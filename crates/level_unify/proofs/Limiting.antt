-- Lowering one node.
use Rattle.std.proofs.Common.{◌≡◌, ℕ, ◌<◌, List, length, set, Some, refl, sym, ◌∙◌, ap, subst}
use Rattle.std.specs.Prelude.{slice_get}
use Rattle.std.proofs.lemmas.List.{length-set}
use Rattle.type_nodes.specs.Nodes.{Node, Var, Rigid, Link, Arrow, Tuple, Con}
use Rattle.type_nodes.specs.Links.{IsFree, root, reading}
use Rattle.type_nodes.specs.States.{State}
use Rattle.type_nodes.specs.Changes.{Relevels}
use Rattle.type_nodes.specs.Views.{Shows}
use Rattle.type_nodes.specs.declared.view.View.{View}
use Rattle.type_nodes.proofs.Lists.{one_element, get-set_same, get-set_other}
use Rattle.level_unify.specs.declared.limits.Asked.{Asked}
use Rattle.level_unify.specs.declared.limits.Asked.TheVariants.{Lower, Nothing}
use Rattle.level_unify.specs.Plans.{IsFreeVar, Views}
use Rattle.level_unify.specs.Limits.{lowered, IsAllowed, IsSmall, Asks, LoweredOne}
use Rattle.level_unify.proofs.Steps.{views_at, cell_at, free_at}

-- what is asked of the node that was read
pub record AskedAt (nodes : List Node) (n level scope : ℕ) (asked : Asked) : Type 0 where
  pub node : Node
  pub at : slice_get nodes n ≡ Some node
  pub asks : Asks level scope node asked
  pub small : IsSmall node

pub asked_at : (nodes : List Node) (n level scope : ℕ) (view : View) (asked : Asked) → n < length nodes → root nodes n ≡ n → Shows view (root nodes n) (reading nodes n) →
    ((c : Node) → Views view c → Asks level scope c asked) → ((c : Node) → Views view c → IsSmall c) → AskedAt nodes n level scope asked
asked_at nodes n level scope view asked lt end shows asks small =
    let (c, at) = cell_at nodes n lt in
    let v = views_at nodes n view c shows end at in
    record { node = c; at = at; asks = asks c v; small = small c v }

-- what a node is that was read
same_node : (nodes : List Node) (n level scope : ℕ) (asked : Asked) (p : AskedAt nodes n level scope asked) (c : Node) → slice_get nodes n ≡ Some c → p.node ≡ c
same_node nodes n level scope asked p c at = one_element p.node c (slice_get nodes n) p.at at

-- nothing was to be lowered
pub lowered_none : (nodes : List Node) (n level scope : ℕ) → AskedAt nodes n level scope Nothing → LoweredOne nodes nodes level scope n
lowered_none nodes n level scope p = record {
  len = refl;
  own = λ c at.
      let same = same_node nodes n level scope Nothing p c at in
      (at ∙ ap (λ x. Some x) (sym same ∙ sym p.asks.0 ∙ ap (lowered level scope) same), subst (IsAllowed scope) same p.asks.1);
  small = λ c at. subst IsSmall (same_node nodes n level scope Nothing p c at) p.small;
  others = λ m other. refl;
}

pub asked_free : (nodes : List Node) (n level scope l o : ℕ) → n < length nodes → root nodes n ≡ n → AskedAt nodes n level scope (Lower l o) → IsFree nodes n
asked_free nodes n level scope l o lt end p = free_at nodes n p.node lt end p.at p.asks.0

free_allowed : (scope : ℕ) (c : Node) → IsFreeVar c → IsAllowed scope c
free_allowed scope (Var l o) h = tt
free_allowed scope Rigid h = absurd h
free_allowed scope (Link m) h = absurd h
free_allowed scope (Arrow a b) h = absurd h
free_allowed scope (Tuple ms) h = absurd h
free_allowed scope (Con p name ms) h = absurd h

pub lowered_one : (old new : State) (n level scope l o : ℕ) → root old.nodes n ≡ n → AskedAt old.nodes n level scope (Lower l o) → Relevels old new n l o → LoweredOne old.nodes new.nodes level scope n
lowered_one old new n level scope l o end p h =
    let e : new.nodes ≡ set old.nodes n (Var l o) = h.written.nodes ∙ ap (λ k. set old.nodes k (Var l o)) end in
    subst (λ ns. LoweredOne old.nodes ns level scope n) (sym e) (record {
      len = length-set old.nodes n (Var l o);
      own = λ c at.
          let same : p.node ≡ c = one_element p.node c (slice_get old.nodes n) p.at at in
          (get-set_same old.nodes n p.node (Var l o) p.at ∙ ap (λ x. Some x) (sym p.asks.1 ∙ ap (lowered level scope) same), subst (IsAllowed scope) same (free_allowed scope p.node p.asks.0));
      small = λ c at. subst IsSmall (same_node old.nodes n level scope (Lower l o) p c at) p.small;
      others = λ m other. get-set_other old.nodes n m (Var l o) other;
    })
