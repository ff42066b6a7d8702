-- The unknown types of an instance: which variables become one.
use Rattle.std.proofs.Common.{◌≡◌, ◌≢◌, ◌∙◌, ◌↔◌, inl, inr, ℕ, zero, suc, ◌+◌, ◌<◌, ◌≤◌, Bool, true, false, List, [], ◌∷◌, length, map, get_or, eqb, eq-eqb, Some, refl, sym, ap, subst, arith}
use Rattle.std.specs.Prelude.{slice_get, All, IsTrue}
use Rattle.std.proofs.lemmas.Option.{slice_get_within, slice_get_past}
use Rattle.type_terms.specs.declared.types.NodeRef.{NodeRef}
use Rattle.type_nodes.specs.Nodes.{Node, Var, Rigid, Link, Arrow, Tuple, Con, bound_level, IsNode}
use Rattle.type_nodes.specs.Links.{root, reading, linked_from, IsFree}
use Rattle.type_nodes.specs.Views.{Shows, numbers}
use Rattle.type_nodes.specs.declared.view.View.{View}
use Rattle.type_nodes.proofs.Lists.{one_element}
use Rattle.type_nodes.proofs.Roots.{root_here}
use Rattle.level_unify.specs.Plans.{IsFreeVar, Views}
use Rattle.level_unify.proofs.Steps.{cell_at, views_at, free_at}
use Rattle.level_unify.proofs.Numbers.{number_get}
use Rattle.level_unify.proofs.Walking.{get_here}
use Rattle.typing_conditions.specs.Standing.{IsIn}
use Rattle.typing_conditions.proofs.Steps.{old_or_new}
use Rattle.type_nodes.specs.States.{State, Keeps}
use Rattle.type_nodes.specs.Changes.{Relevels}
use Rattle.typing_state.specs.declared.parts.Parts.{Parts}
use Rattle.typing_state.specs.Goes.{Goes}
use Rattle.typing_state.proofs.Going.{with_store, put_goes}
use Rattle.level_unify.specs.Walks.{Reached}
use Rattle.declared_rows.specs.Unknowns.{OpensOne, OpensTo}
use Rattle.declared_rows.proofs.Opens.{opened_one, opened_tight, opens_on}
use Rattle.type_expressions.proofs.Answering.{many_numbers}

-- what holds of all holds of each, and the other way round
pub all_at : (P : ℕ → Type 0) (ms : List ℕ) (k m : ℕ) → All P ms → slice_get ms k ≡ Some m → P m
all_at P ms k m all e =
    let lt = slice_get_within ms k m e in
    subst P (one_element (get_or ms k m) m (slice_get ms k) (get_here ms k m lt) e) (all k m lt)

pub at_all : (P : ℕ → Type 0) (ms : List ℕ) → ((k m : ℕ) → slice_get ms k ≡ Some m → P m) → All P ms
at_all P ms h = λ k d lt. h k (get_or ms k d) (get_here ms k d lt)

-- what no node of the store is is its own root
pub root_told : (nodes : List Node) (n res : ℕ) → (IsNode nodes n → res ≡ root nodes n) → ((IsNode nodes n → ⊥) → res ≡ n) → res ≡ root nodes n
root_told nodes n res inside outside = elim (old_or_new n (length nodes)) [
  | inl lt ↦ inside lt
  | inr le ↦ outside (λ lt. absurd (omega arith)) ∙ sym (root_here nodes n (ap (linked_from n) (slice_get_past nodes n le)))
]

-- one node more whose root is another
pub other_more : (nodes : List Node) (xs : List NodeRef) (r i res : ℕ) → i < length xs → res ≡ root nodes (get_or xs i (record { 0 = 0 })).0 → eqb res r ≡ false →
    ((k m : ℕ) → k < i → slice_get (numbers xs) k ≡ Some m → root nodes m ≢ r) → (k m : ℕ) → k < i + 1 → slice_get (numbers xs) k ≡ Some m → root nodes m ≢ r
other_more nodes xs r i res lt is differs before k m below e = elim (old_or_new k i) [
  | inl less ↦ before k m less e
  | inr le ↦
      let s : k ≡ i = omega arith in
      let here = number_get xs i (record { 0 = 0 }) lt in
      let same : m ≡ (get_or xs i (record { 0 = 0 })).0 = one_element m _ (slice_get (numbers xs) i) (ap (slice_get (numbers xs)) (sym s) ∙ e) here in
      λ f. let g : res ≡ r = is ∙ ap (root nodes) (sym same) ∙ f in let h : true ≡ false = sym (eq-eqb res r g) ∙ differs in absurd (cc)
]

-- a node whose root is this one
pub same_there : (nodes : List Node) (xs : List NodeRef) (r i res : ℕ) → i < length xs → res ≡ root nodes (get_or xs i (record { 0 = 0 })).0 → res ≡ r → All (λ n. root nodes n ≢ r) (numbers xs) → ⊥
same_there nodes xs r i res lt is same none =
    let here = number_get xs i (record { 0 = 0 }) lt in
    all_at (λ n. root nodes n ≢ r) (numbers xs) i _ none here (sym is ∙ same)

-- the same of all
pub none_of_all : (nodes : List Node) (xs : List NodeRef) (r i : ℕ) → length xs ≤ i → ((k m : ℕ) → k < i → slice_get (numbers xs) k ≡ Some m → root nodes m ≢ r) → All (λ n. root nodes n ≢ r) (numbers xs)
none_of_all nodes xs r i le before = at_all (λ n. root nodes n ≢ r) (numbers xs) (λ k m e. before k m (let lt = slice_get_within (numbers xs) k m e in let l = many_numbers xs in omega arith) e)

-- a root that shows a free variable is one
pub record IsFreeHere (nodes : List Node) (n level : ℕ) : Type 0 where
  pub scope : ℕ
  pub at : slice_get nodes n ≡ Some (Var level scope)
  pub free : level ≢ bound_level

module _ (nodes : List Node) (n : ℕ) (view : View) (res : Bool) (inside : n < length nodes) (end : root nodes n ≡ n) (shows : Shows view (root nodes n) (reading nodes n)) (test : (c : Node) → Views view c → IsTrue res ↔ IsFreeVar c) where
  pub free_here : (level : ℕ) → ((l o : ℕ) → Views view (Var l o) → level ≡ l) → res ≡ true → IsFreeHere nodes n level
  free_here level is shown = by cell.0 cell.1 ((test cell.0 (views_at nodes n view cell.0 shows end cell.1)).0 shown)
    where
      cell : (c : Node) × (slice_get nodes n ≡ Some c)
      cell = cell_at nodes n inside

      by : (c : Node) → slice_get nodes n ≡ Some c → IsFreeVar c → IsFreeHere nodes n level
      by (Var l o) e h =
          let s = is l o (views_at nodes n view (Var l o) shows end e) in
          record { scope = o; at = e ∙ ap (λ k. Some (Var k o)) (sym s); free = λ b. h (sym s ∙ b) }
      by Rigid e h = absurd h
      by (Link m) e h = absurd h
      by (Arrow a b) e h = absurd h
      by (Tuple ms) e h = absurd h
      by (Con p name ms) e h = absurd h

  pub none_here : res ≡ false → (l o : ℕ) → slice_get nodes n ≡ Some (Var l o) → l ≢ bound_level → ⊥
  none_here hidden l o e free = let h : res ≡ true = (test (Var l o) (views_at nodes n view (Var l o) shows end e)).1 free in let f : false ≡ true = sym hidden ∙ h in absurd (cc)

  pub is_free_here : (level : ℕ) → IsFreeHere nodes n level → IsFree nodes n
  is_free_here level x = free_at nodes n (Var level x.scope) inside end x.at x.free

-- roots of none
pub none_among : (nodes : List Node) (ms : List ℕ) (r : ℕ) → All (λ n. root nodes n ≢ r) ms → IsIn (map (root nodes) ms) r → ⊥
none_among nodes [] r none (k, e) = absurd (cc)
none_among nodes (m ∷ ms) r none (zero, e) = none zero m (omega arith) (let f : root nodes m ≡ r = cc in f)
none_among nodes (m ∷ ms) r none (suc k, e) = none_among nodes ms r (λ j d lt. none (suc j) d (omega arith)) (k, e)

-- and the other way round
pub among_none : (nodes : List Node) (ms : List ℕ) (r : ℕ) → (IsIn (map (root nodes) ms) r → ⊥) → All (λ n. root nodes n ≢ r) ms
among_none nodes [] r none = λ k d lt. absurd (omega arith)
among_none nodes (m ∷ ms) r none = by (among_none nodes ms r (λ (j, e). none (suc j, e)))
  where
    by : All (λ n. root nodes n ≢ r) ms → All (λ n. root nodes n ≢ r) (m ∷ ms)
    by rest zero d lt = λ e. none (zero, ap (λ x. Some x) e)
    by rest (suc k) d lt = rest k d (omega arith)

-- a test that fails has no reason to hold
pub not_false : {X : Type 0} {b : Bool} → IsTrue b ↔ X → b ≡ false → X → ⊥
not_false both e x = let h : false ≡ true = sym e ∙ both.1 x in absurd (cc)

-- a call that gives a variable the scope of unknown types leaves what was there as it is
pub opened_goes : (at : Parts) (s : State) (n level : ℕ) → root at.store.nodes n ≡ n → IsFreeHere at.store.nodes n level → Relevels at.store s n level 0 → Keeps at.store s → Goes at (with_store at s)
opened_goes at s n level end x done keeps =
    let one = opened_one at.store s [] n level x.scope end x.at x.free done (λ (k, e). absurd (cc)) in
    put_goes at s keeps (record { nodes = let e = one.len in omega arith; types = opened_tight at.store.nodes s.nodes [] n one })

-- the roots of nodes are the same where each is
pub roots_same : (now old : List Node) (ms : List ℕ) → ((m : ℕ) → root now m ≡ root old m) → map (root now) ms ≡ map (root old) ms
roots_same now old [] e = refl
roots_same now old (m ∷ ms) e = let f = e m in let g = roots_same now old ms e in (λ i. f i ∷ g i)

-- one node more is opened, by the roots of the present state, which are those of before
pub opens_next : (old now new : List Node) (r : ℕ) (ps found : List ℕ) (at n : ℕ) → Reached old r found → slice_get found at ≡ Some n → OpensTo old now r ps found at → OpensOne now new (map (root now) ps) n → OpensTo old new r ps found (at + 1)
opens_next old now new r ps found at n reached here h one = opens_on old now new r ps found at n reached here h (subst (λ rs. OpensOne now new rs n) (roots_same now old ps h.roots) one)
