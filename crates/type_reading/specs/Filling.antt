-- Tuples whose parts are made one with other types.
use Rattle.std.specs.Prelude.{◌≡◌, ℕ, List, [], ◌∷◌, ◌++◌, length, Some}
use Rattle.type_nodes.specs.Nodes.{IsNode, IsSound, Tuple}
use Rattle.type_nodes.specs.Links.{reading}
use Rattle.typing_state.specs.declared.parts.Parts.{Parts}
use Rattle.typing_state.specs.Goes.{Goes, OnlyStore}
use Rattle.typing_state.specs.Types.{JoinedIfNodes}

-- two types were made one, or they never are; only the store changes, which is sound
pub record JoinsOne (old new : Parts) (a b : ℕ) : Type 0 where
  pub joined : JoinedIfNodes old.store new.store a b
  pub rest : OnlyStore old new
  pub goes : Goes old new
  pub sound : IsSound new.store.nodes

-- each of some types was made one with another, in order
abbrev pub JoinsAll : (old new : Parts) → (ps qs : List ℕ) → Type 0
JoinsAll old new [] [] = new ≡ old
JoinsAll old new (p ∷ ps) (q ∷ qs) = (mid : Parts) × JoinsOne old mid p q × JoinsAll mid new ps qs
JoinsAll old new [] (q ∷ qs) = ⊥
JoinsAll old new (p ∷ ps) [] = ⊥

-- the parts of a tuple before the last one were made one with as many types, and m is the last one
abbrev pub Fills : (old new : Parts) → (tuple : ℕ) → List ℕ → ℕ → Type 0
Fills old new tuple qs m = (ps : List ℕ) (body : ℕ) → IsNode old.store.nodes tuple → reading old.store.nodes tuple ≡ Some (Tuple (ps ++ body ∷ [])) → length ps ≡ length qs → JoinsAll old new ps qs × (m ≡ body)
