use Rattle.std.specs.Prelude.{take}
use Rattle.typing_state.specs.Goes.{Goes, OnlyStore}
use Rattle.decl_typing.specs.Parameters.{constructor_roots, ClosesRoots}
use Rattle.decl_typing.proofs.decls.generalise_shape.Given as goal

abbrev pub invariant-loop-constructor : goal.invariant-loop-constructor
invariant-loop-constructor l = record {
  goes : Goes l.fn.at l.at;
  rest : OnlyStore l.fn.at l.at;
  closes : ClosesRoots l.fn.at l.at (constructor_roots (take l.constructor-index l.constructor-items));
}
