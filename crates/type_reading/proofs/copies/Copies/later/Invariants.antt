use Rattle.std.proofs.Common.{◌≡◌, ◌++◌, ◌∷◌, map, drop}
use Rattle.type_reading.specs.declared.copies.Task.TheVariants.{Enter, Leave}
use Rattle.type_reading.proofs.copies.Copies.later.Given as goal

abbrev pub invariant-loop-part : goal.invariant-loop-part
invariant-loop-part l = record {
  pushed : l.self.todo.items ++ map (λ p. Enter p) (drop l.part-index l.parts) ≡ l.fn.self.todo.items ++ Leave l.fn.n ∷ map (λ p. Enter p) l.parts;
  rest : l.self.table ≡ l.fn.self.table;
}
