-- What a declaration over arguments carries, by the calls that make it.
use Rattle.std.proofs.Common.{◌⊎◌, inl, inr, ℕ, List, [], ◌∷◌, ap}
use Rattle.type_nodes.specs.Nodes.{IsNode, IsSound}
use Rattle.level_unify.specs.Instances.{Instantiated}
use Rattle.level_unify.specs.Unification.{Unified, NeverAlike}
use Rattle.env_table.specs.declared.entries.Declaration.{Declaration}
use Rattle.typing_state.specs.declared.parts.Parts.{Parts}
use Rattle.typing_state.specs.Goes.{OnlyStore}
use Rattle.typing_state.specs.Types.{Joined, level_for}
use Rattle.typing_conditions.specs.Frames.{Frame, IsOpen}
use Rattle.typing_conditions.proofs.Framing.{no_bound}
use Rattle.typing_steps.specs.States.{sight}
use Rattle.typing_steps.proofs.Seeing.{only_nodes}
use Rattle.type_reading.specs.Filling.{JoinsOne, JoinsAll, Fills}
use Rattle.typing_rows.specs.Declaring.{AppliesTo}
use Rattle.typing_rows.proofs.Filled.{JoinsTwo, JoinsEach}
use Rattle.typing_rows.proofs.Abbreviated.{arguments_applied}

-- a call that makes two types one, as far as the definitions are concerned
one_joined : (a b : Parts) (p q : ℕ) → JoinsOne a b p q → JoinsTwo (sight a) (sight b) p q
one_joined a b p q j = record {
  sound = j.sound;
  rest = only_nodes a b j.rest;
  tight = j.goes.types;
  joined = λ {F} o w. by o w (j.joined.0 o.inside w.inside);
}
  where
    by : {F : Frame} → IsOpen F (sight a) p → IsOpen F (sight a) q → Joined a.store b.store p q → Unified a.store.nodes b.store.nodes p q ⊎ NeverAlike a.store.nodes p q
    by o w (inl one) = inl (one (no_bound o w))
    by o w (inr (same, never)) = inr (never (no_bound o w))

-- the same of several
pub each_joins : (a b : Parts) (ps qs : List ℕ) → JoinsAll a b ps qs → JoinsEach (sight a) (sight b) ps qs
each_joins a b [] [] j = ap sight j
each_joins a b [] (q ∷ qs) j = absurd j
each_joins a b (p ∷ ps) [] j = absurd j
each_joins a b (p ∷ ps) (q ∷ qs) (mid, one, rest) = (sight mid, one_joined a mid p q one, each_joins mid b ps qs rest)

-- an instance of a declaration's root whose parameters are filled
pub filled_applies : (a b d : Parts) (decl : Declaration) (tup x : ℕ) (xs : List ℕ) (m : ℕ) → (IsNode a.store.nodes decl.root.0 → Instantiated a.store.nodes b.store.nodes decl.root.0 (level_for a.level) tup) → (IsNode a.store.nodes decl.root.0 → IsSound b.store.nodes) → OnlyStore a b →
    Fills b d tup (x ∷ xs) m → AppliesTo a d decl (x ∷ xs) m
filled_applies a b d decl tup x xs m taken sound rest fills =
    arguments_applied a b d decl tup x xs m taken sound rest (λ ps body inside reads many. let f = fills ps body inside reads many in (each_joins b d ps (x ∷ xs) f.0, f.1))
