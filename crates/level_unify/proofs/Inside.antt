-- Whether a node reads as a free variable that stands in another.
use Rattle.std.proofs.Common.{◌≡◌, ◌≢◌, ◌↔◌, ℕ, ◌<◌, Bool, true, false, List, length, Some, refl, sym, ◌∙◌, ap, subst}
use Rattle.std.specs.Prelude.{slice_get, IsTrue, Result, Ok, Err, IfOk}
use Rattle.std.specs.declared.alloc.AllocError.{AllocError}
use Rattle.type_nodes.specs.Nodes.{Node, Var, Rigid, Link, Arrow, Tuple, Con, IsSound, Apart}
use Rattle.type_nodes.specs.Links.{IsFree, root, reading}
use Rattle.type_nodes.specs.Views.{Shows}
use Rattle.type_nodes.specs.declared.view.View.{View}
use Rattle.type_nodes.proofs.Roots.{root_inside}
use Rattle.level_unify.specs.Walks.{StandsIn}
use Rattle.level_unify.specs.Plans.{IsFreeVar, Views}
use Rattle.level_unify.specs.Unification.{IsInside}
use Rattle.level_unify.proofs.Steps.{cell_at, views_at}

-- what a node reads as is a free variable exactly where the node is one
pub free_read : (nodes : List Node) (a : ℕ) (c : Node) → IsFree nodes a → reading nodes a ≡ Some c → IsFreeVar c
free_read nodes a c free e =
    let same : Var free.level free.scope ≡ c = some_same (Var free.level free.scope) c (free.reads) e in
    subst IsFreeVar same free.unbound
  where
    some_same : (x y : Node) → reading nodes a ≡ Some x → reading nodes a ≡ Some y → x ≡ y
    some_same x y p q = cc

free_cell : (nodes : List Node) (a : ℕ) (c : Node) → a < length nodes → reading nodes a ≡ Some c → IsFreeVar c → IsFree nodes a
free_cell nodes a (Var level scope) lt e h = record { inside = lt; level = level; scope = scope; reads = e; unbound = h }
free_cell nodes a Rigid lt e h = absurd h
free_cell nodes a (Link m) lt e h = absurd h
free_cell nodes a (Arrow x y) lt e h = absurd h
free_cell nodes a (Tuple ms) lt e h = absurd h
free_cell nodes a (Con p name ms) lt e h = absurd h

-- what the test of what a root shows says of the node
pub tested_free : (nodes : List Node) (a var : ℕ) (view : View) (res : Bool) → IsSound nodes → a < length nodes → var ≡ root nodes a → root nodes var ≡ var → Shows view (root nodes var) (reading nodes var) →
    ((c : Node) → Views view c → IsTrue res ↔ IsFreeVar c) → IsTrue res ↔ IsFree nodes a
tested_free nodes a var view res sound lt is end shows test =
    let (c, at) = cell_at nodes var (subst (λ k. k < length nodes) (sym is) (root_inside nodes sound a lt)) in
    let reads : reading nodes a ≡ Some c = ap (slice_get nodes) (sym is) ∙ at in
    let t = test c (views_at nodes var view c shows end at) in
    ((λ yes. free_cell nodes a c lt reads (t.0 yes)), λ free. t.1 (free_read nodes a c free reads))

is_true : (res : Bool) → res ≡ true → IsTrue res
is_true res e = e

is_false : (res : Bool) → res ≡ false → IsTrue res → ⊥
is_false res e h = absurd (cc)

no_truth : IsTrue false → ⊥
no_truth h = cc

pub not_same : (nodes : List Node) (a b var other : ℕ) → var ≡ root nodes a → other ≡ root nodes b → var ≡ other → IsTrue false ↔ IsInside nodes a b
not_same nodes a b var other is is' same = ((λ h. absurd (no_truth h)), λ h. absurd (h.1 (sym is ∙ same ∙ is')))

pub not_free : (nodes : List Node) (a b : ℕ) (res : Bool) → IsTrue res ↔ IsFree nodes a → res ≡ false → IsTrue false ↔ IsInside nodes a b
not_free nodes a b res test e = ((λ h. absurd (no_truth h)), λ h. absurd (is_false res e (test.1 h.0)))

pub inside_answer : (nodes : List Node) (a b var other : ℕ) (free : Bool) (res : Result Bool AllocError) → IsTrue free ↔ IsFree nodes a → free ≡ true → var ≡ root nodes a → other ≡ root nodes b → var ≢ other →
    IfOk res (λ yes. yes ≡ true → StandsIn nodes var b) → IfOk res (λ yes. yes ≡ false → Apart nodes var b) → IfOk res (λ yes. IsTrue yes ↔ IsInside nodes a b)
inside_answer nodes a b var other free (Ok true) test e is is' away stands none =
    ((λ h. (test.0 (is_true free e), (λ f. away (is ∙ f ∙ sym is')), subst (λ k. StandsIn nodes k b) is (stands refl))), λ h. refl)
inside_answer nodes a b var other free (Ok false) test e is is' away stands none = (
  (λ h. absurd (no_truth h)),
  λ h. let (A, closed, has, lacks) = none refl in absurd (
      let x : A var ≡ true = ap A is ∙ h.2.each A closed has in cc),
)
inside_answer nodes a b var other free (Err f) test e is is' away stands none = tt
