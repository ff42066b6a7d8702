use Rattle.std.proofs.Common.{drop}
use Rattle.type_nodes.specs.Views.{numbers}
use Rattle.typing_state.specs.Goes.{Goes, Silent}
use Rattle.binding_rows.specs.Parameters.{MakesArrows}
use Rattle.binding_steps.proofs.parameters.arrows.Given as goal

abbrev pub invariant-loop-place : goal.invariant-loop-place
invariant-loop-place l = record {
  goes : Goes l.fn.at l.at;
  silent : Silent l.fn.at l.at;
  carries : MakesArrows l.fn.at l.at (numbers (drop l.place l.parameters)) l.fn.to.0 l.ty.0;
}
