use Rattle.typing_state.specs.Goes.{Goes, OnlyIndex}
use Rattle.type_expressions.specs.Untyped.{Untyped}
use Rattle.decl_typing.proofs.Entries.{FirstTold}
use Rattle.decl_typing.proofs.decls.told_entries.Given as goal

abbrev pub invariant-loop-place : goal.invariant-loop-place
invariant-loop-place l = record {
  goes : Goes l.fn.at l.at;
  rest : OnlyIndex l.fn.at l.at;
  untyped : Untyped l.fn.at l.at;
  made : FirstTold l.declaration.value (l.named-items) l.place l.fn.entries.items l.entries.items;
}
