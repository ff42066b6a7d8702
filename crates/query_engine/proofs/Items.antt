-- The items of a text by their numbers.
use Rattle.std.proofs.Common.{◌≡◌, ◌<◌, ◌≤◌, ◌-◌, ◌+◌, ◌^◌, zero-add, ℕ, zero, suc, List, [], ◌∷◌, Some, sym, ◌∙◌, ap, subst, map, length, get_or, arith}
use Rattle.std.specs.Prelude.{slice_get, option_and_then}
use Rattle.tree_model.specs.Nodes.{id}
use Rattle.tree_model.specs.Trees.{Tree, size_of, AreItemsSized, IsSized}
use Rattle.query_model.specs.Numbered.{HasNumbers, node_with, numbered}

same_item : (t u : Tree) → IsSized t → size_of t < 2 ^ 32 → Some t ≡ Some u → HasNumbers 0 u
same_item t u sized fits is =
    let e : t ≡ u = cc in
    let room : 0 + size_of t < 2 ^ 32 = rw (zero-add (size_of t)) fits in
    subst (HasNumbers 0) e (sized, room)

-- an item of a text that tells its sizes has its numbers
pub numbers_at : (ts : List Tree) (k : ℕ) (t : Tree) → slice_get ts k ≡ Some t → AreItemsSized ts → HasNumbers 0 t
numbers_at [] k t is sized = cc
numbers_at (u ∷ us) zero t is sized = same_item u t sized.0 sized.1 is
numbers_at (u ∷ us) (suc k) t is sized = numbers_at us k t is sized.2

pub get_at : {A : Type 0} (f : A → Tree) (xs : List A) (k : ℕ) (x : A) → k < length xs → x ≡ get_or xs k x → slice_get (map f xs) k ≡ Some (f x)
get_at f [] k x lt is = absurd (omega arith)
get_at f (y ∷ ys) zero x lt is = ap (λ z. Some (f z)) (sym is)
get_at f (y ∷ ys) (suc k) x lt is = get_at f ys k x (omega arith) is

-- the node of a text stands in its item
pub in_item : (i k pre : ℕ) (ts : List Tree) (t : Tree) → 1 ≤ i → k ≡ i - 1 → slice_get ts k ≡ Some t → node_with (id i pre) ts ≡ numbered pre 0 t
in_item zero k pre ts t some is at = absurd (omega arith)
in_item (suc j) k pre ts t some is at =
    let same : j ≡ k = omega arith in
    ap (λ n. option_and_then (numbered pre 0) (slice_get ts n)) same ∙ ap (option_and_then (numbered pre 0)) at
