-- The two sides of an arrow: a row may unify them where it may unify the arrow, and they have the types that its type tells.
use Rattle.std.proofs.Common.{◌≡◌, ◌∙◌, ℕ, ◌<◌, true, List, [], ◌∷◌, length, get_or, Some, refl, sym, ap, subst, arith}
use Rattle.std.specs.Prelude.{slice_get}
use Rattle.type_model.specs.Types.{Typ, occurs}
use Rattle.type_model.specs.Types.{Typ as type}
use Rattle.type_model.proofs.Applying.{or_left, or_right}
use Rattle.typing_model.specs.Contexts.{Choice}
use Rattle.type_nodes.specs.Nodes.{Node, Var, Rigid, Link, Arrow, Tuple, Con, IsSound}
use Rattle.type_nodes.specs.Links.{root, reading}
use Rattle.type_nodes.specs.Readings.{Types}
use Rattle.type_nodes.proofs.Roots.{closed_root, root_inside, root_no_link}
use Rattle.level_unify.specs.Solutions.{Loose, FitsLoosely}
use Rattle.level_unify.proofs.Solving.{loose_root}
use Rattle.level_unify.proofs.Steps.{cell_at}
use Rattle.typing_conditions.specs.Locals.{IsOwn}
use Rattle.typing_conditions.proofs.Own.{own_of}
use Rattle.typing_conditions.specs.Sights.{Sight, Letters}
use Rattle.typing_conditions.specs.Frames.{Frame, IsOpenAt}
use Rattle.typing_conditions.specs.Meanings.{Means}

-- a node that reads as an arrow has the arrow of its sides' types
pub arrow_is : (nodes : List Node) (V : Types) (m x y : ℕ) → Loose nodes V → reading nodes m ≡ Some (Arrow x y) → V m ≡ type.Arrow (V x) (V y)
arrow_is nodes V m x y loose e = loose_root nodes V loose m ∙ loose.each (root nodes m) (Arrow x y) e

-- a node whose own type is an arrow reads as one
pub reads_arrow : (nodes : List Node) (K : Types) (m : ℕ) (t u : Typ) → IsSound nodes → IsOwn nodes K → m < length nodes → K m ≡ type.Arrow t u → (x : ℕ) × (y : ℕ) × (reading nodes m ≡ Some (Arrow x y))
reads_arrow nodes K m t u sound own lt is = by cell.0 cell.1 (own.loose.each (root nodes m) cell.0 cell.1)
  where
    cell : (c : Node) × (slice_get nodes (root nodes m) ≡ Some c)
    cell = cell_at nodes (root nodes m) (root_inside nodes sound m lt)

    at_root : K (root nodes m) ≡ type.Arrow t u
    at_root = sym (loose_root nodes K own.loose m) ∙ is

    by : (c : Node) → slice_get nodes (root nodes m) ≡ Some c → FitsLoosely K (root nodes m) c → (x : ℕ) × (y : ℕ) × (reading nodes m ≡ Some (Arrow x y))
    by (Var l o) e h = absurd (let f : type.Var (root nodes m) ≡ type.Arrow t u = sym (own.vars (root nodes m) l o e) ∙ at_root in cc)
    by Rigid e h = absurd (let f = sym h ∙ at_root in cc)
    by (Link k) e h = absurd (root_no_link nodes sound m (Link k) lt e)
    by (Arrow x y) e h = (x, y, e)
    by (Tuple ms) e h = absurd (let f = sym h ∙ at_root in cc)
    by (Con p name ms) e h = absurd (let f = sym h ∙ at_root in cc)

module _ {F : Frame} {b : Sight} {level m x y : ℕ} (o : IsOpenAt F b level m) (e : reading b.nodes m ≡ Some (Arrow x y)) where
  side_inside : (z k : ℕ) → k < 2 → get_or (x ∷ y ∷ []) k z ≡ z → z < length b.nodes
  side_inside z k lt is = let (rank, ranked) = o.reached.sound in subst (λ n. n < length b.nodes) is (ranked.each (root b.nodes m) (Arrow x y) e k z lt).0

  side_open : (z k : ℕ) → k < 2 → get_or (x ∷ y ∷ []) k z ≡ z → ((K : Types) → IsOwn b.nodes K → (v : ℕ) → occurs v (K z) ≡ true → occurs v (K m) ≡ true) → IsOpenAt F b level z
  side_open z k lt is part = record {
    reached = o.reached;
    inside = side_inside z k lt is;
    within = record {
      each = λ S region.
          let own = own_of b.nodes o.reached.sound in
          let closed = (o.reached.local own.0 own.1).closed S region in
          subst (λ n. S n ≡ true) is (closed.each (root b.nodes m) (Arrow x y) (closed_root b.nodes S closed m (o.within.each S region)) e k z lt);
    };
    free = λ K own v h. o.free K own v (part K own v h);
  }

  pub from_open : IsOpenAt F b level x
  from_open = side_open x 0 (omega arith) refl (λ K own v h. ap (occurs v) (arrow_is b.nodes K m x y own.loose e) ∙ or_left (occurs v (K x)) (occurs v (K y)) h)

  pub to_open : IsOpenAt F b level y
  to_open = side_open y 1 (omega arith) refl (λ K own v h. ap (occurs v) (arrow_is b.nodes K m x y own.loose e) ∙ or_right (occurs v (K x)) (occurs v (K y)) h)

-- the sides of a node whose type is an arrow have its two types
module _ {F : Frame} {b : Sight} {G : Letters} {from to : Choice → Typ} {m x y : ℕ} (p : Means F b G (λ ch. type.Arrow (from ch) (to ch)) m) (e : reading b.nodes m ≡ Some (Arrow x y)) where
  pub from_means : Means F b G from x
  from_means = record {
    open_node = from_open p.open_node e;
    is = λ V ch loose g. let f : type.Arrow (from ch) (to ch) ≡ type.Arrow (V x) (V y) = p.is V ch loose g ∙ arrow_is b.nodes V m x y loose e in cc;
  }

  pub to_means : Means F b G to y
  to_means = record {
    open_node = to_open p.open_node e;
    is = λ V ch loose g. let f : type.Arrow (from ch) (to ch) ≡ type.Arrow (V x) (V y) = p.is V ch loose g ∙ arrow_is b.nodes V m x y loose e in cc;
  }
