use Rattle.std.proofs.Common.{◌≡◌, ℕ, List, [], ◌∷◌, ◌++◌, length, drop}
use Rattle.type_nodes.specs.Views.{numbers}
use Rattle.typing_state.specs.declared.parts.Parts.{Parts}
use Rattle.typing_state.specs.Goes.{Goes, OnlyStore, Silent}
use Rattle.type_reading.specs.Filling.{JoinsAll}
use Rattle.type_reading.proofs.tuples.filled.Given as goal

abbrev pub invariant-loop-place : goal.invariant-loop-place
invariant-loop-place l = record {
  goes : Goes l.fn.at l.at;
  rest : OnlyStore l.fn.at l.at;
  silent : Silent l.fn.at l.at;
  fills : (ps : List ℕ) (body : ℕ) → numbers l.parts.items ≡ ps ++ body ∷ [] → length ps ≡ length (numbers l.types) → (new : Parts) → JoinsAll l.at new (drop l.place ps) (drop l.place (numbers l.types)) → JoinsAll l.fn.at new ps (numbers l.types);
}
