use Rattle.typing_state.specs.Goes.{Goes, OnlyIndex}
use Rattle.type_expressions.specs.Untyped.{Untyped}
use Rattle.decl_typing.proofs.decls.note_all.Given as goal

abbrev pub invariant-loop-number : goal.invariant-loop-number
invariant-loop-number l = record {
  goes : Goes l.fn.at l.at;
  rest : OnlyIndex l.fn.at l.at;
  untyped : Untyped l.fn.at l.at;
}
