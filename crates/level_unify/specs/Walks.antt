-- Walks through types: the nodes that a node leads to.
use Rattle.std.specs.Prelude.{◌≡◌, ◌⊎◌, ℕ, ◌<◌, ◌≤◌, Bool, true, false, List, [], ◌∷◌, ◌++◌, All, cond, length, map, nat_eq, slice_get, Some}
use Rattle.std.specs.HashSet.{HashSet, contains}
use Rattle.type_nodes.specs.Nodes.{Node, IsClosed, parts}
use Rattle.type_nodes.specs.Links.{root}
use Rattle.type_nodes.specs.Views.{numbers}
use Rattle.level_unify.specs.declared.walk.Visit.{Visit as CodeVisit}
use Rattle.level_unify.specs.declared.walk.Walk.{Walk}

-- v stands in n: each set that has n and the parts of its nodes has v
pub record StandsIn (nodes : List Node) (v n : ℕ) : Type 0 where
  pub each : (F : ℕ → Bool) → IsClosed nodes F → F n ≡ true → F v ≡ true

-- The roots of `from` and of all that stands in it: a set that has the parts of its nodes, and no more than that.
-- Each is listed once, behind the roots of its parts.
pub record Reached (nodes : List Node) (from : ℕ) (found : List ℕ) : Type 0 where
  pub set : ℕ → Bool
  pub closed : IsClosed nodes set
  pub start : set from ≡ true
  pub listed : (n : ℕ) → set n ≡ true → (k : ℕ) × (slice_get found k ≡ Some (root nodes n))
  pub roots : (k n : ℕ) → slice_get found k ≡ Some n → (n < length nodes) × (root nodes n ≡ n) × StandsIn nodes n from
  pub behind : (k n : ℕ) (c : Node) → slice_get found k ≡ Some n → slice_get nodes n ≡ Some c → All (λ m. (j : ℕ) × (j < k) × (slice_get found j ≡ Some (root nodes m))) (parts c)
  pub once : (j k n : ℕ) → slice_get found j ≡ Some n → slice_get found k ≡ Some n → j ≡ k

-- a set of roots that has the roots of its nodes' parts
pub record IsCleared (nodes : List Node) (D : ℕ → Bool) : Type 0 where
  pub each : (n : ℕ) (c : Node) → D n ≡ true → slice_get nodes n ≡ Some c → All (λ m. D (root nodes m) ≡ true) (parts c)

-- it has a node's root, and not v
pub record IsClearedWithout (nodes : List Node) (D : ℕ → Bool) (n v : ℕ) : Type 0 where
  pub cleared : IsCleared nodes D
  pub has : D (root nodes n) ≡ true
  pub lacks : D v ≡ false

-- roots that stand in a node
pub record AreRootsIn (nodes : List Node) (from : ℕ) (found : List ℕ) : Type 0 where
  pub each : (k n : ℕ) → slice_get found k ≡ Some n → (n < length nodes) × (root nodes n ≡ n) × StandsIn nodes n from

-- The roots of `from` and of all that stands in it, but for those that were done before. Then all are done.
pub record ReachedBeyond (nodes : List Node) (before done : ℕ → Bool) (from : ℕ) (found : List ℕ) : Type 0 where
  pub start : done (root nodes from) ≡ true
  pub kept : (n : ℕ) → before n ≡ true → done n ≡ true
  pub listed : (n : ℕ) → done n ≡ true → (before n ≡ true) ⊎ ((k : ℕ) × (slice_get found k ≡ Some n))
  pub roots : AreRootsIn nodes from found
  pub new : (k n : ℕ) → slice_get found k ≡ Some n → (done n ≡ true) × (before n ≡ false)
  pub behind : (k n : ℕ) (c : Node) → slice_get found k ≡ Some n → slice_get nodes n ≡ Some c →
      All (λ m. (before (root nodes m) ≡ true) ⊎ ((j : ℕ) × (j < k) × (slice_get found j ≡ Some (root nodes m)))) (parts c)
  pub once : (j k n : ℕ) → slice_get found j ≡ Some n → slice_get found k ≡ Some n → j ≡ k

-- a root on the way, and how many of its parts are done
abbrev pub Visit : Type 0
Visit = ℕ × ℕ

-- the code's visits
abbrev pub visit_of : CodeVisit → Visit
visit_of s = (s.node.0, s.done)

-- the code's way, visit by visit
abbrev pub visits_of : List CodeVisit → List Visit
visits_of ss = map visit_of ss

-- where a walk stands: the roots that are done, their list, and the way to the root that is worked on
pub record Course : Type 0 where
  pub done : ℕ → Bool
  pub found : List ℕ
  pub way : List Visit

-- the same, of its three parts
abbrev pub course : (ℕ → Bool) → List ℕ → List Visit → Course
course done found way = record { done = done; found = found; way = way }

-- where a walk of the code stands, with its set of roots that are done
abbrev pub course_of : {S : Type 0} → HashSet ℕ S → Walk → Course
course_of done w = course (contains nat_eq done) (numbers w.found.items) (visits_of w.way.items)

-- the roots of the parts from one place on to another are done
pub record AreDone (nodes : List Node) (done : ℕ → Bool) (ms : List ℕ) (from to : ℕ) : Type 0 where
  pub each : (k m : ℕ) → from ≤ k → k < to → slice_get ms k ≡ Some m → done (root nodes m) ≡ true

-- the first part, from a place on, whose root isn't done
pub record IsNext (nodes : List Node) (done : ℕ → Bool) (ms : List ℕ) (from at r : ℕ) : Type 0 where
  pub part : ℕ
  pub here : slice_get ms at ≡ Some part
  pub end : r ≡ root nodes part
  pub new : done r ≡ false
  pub before : AreDone nodes done ms from at

-- a walk goes from a visit on to a part of it
pub record Enters (nodes : List Node) (w : Course) (x : Visit) (w' : Course) : Type 0 where
  pub at : ℕ
  pub part : ℕ
  pub next : (c : Node) → slice_get nodes (root nodes x.0) ≡ Some c → IsNext nodes w.done (parts c) x.1 at part
  pub way : w'.way ≡ (w.way ++ (x.0, at) ∷ []) ++ (part, 0) ∷ []
  pub found : w'.found ≡ w.found
  pub done : w'.done ≡ w.done

-- a walk is done with a visit
pub record Leaves (nodes : List Node) (w : Course) (x : Visit) (w' : Course) : Type 0 where
  pub all : (c : Node) → slice_get nodes (root nodes x.0) ≡ Some c → AreDone nodes w.done (parts c) x.1 (length (parts c))
  pub way : w'.way ≡ w.way
  pub found : w'.found ≡ w.found ++ x.0 ∷ []
  pub done : (n : ℕ) → w'.done n ≡ cond (nat_eq x.0 n) true (w.done n)
