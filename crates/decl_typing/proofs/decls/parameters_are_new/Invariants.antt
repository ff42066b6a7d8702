use Rattle.typing_state.specs.Goes.{Goes, OnlyFaults}
use Rattle.decl_typing.specs.Fresh.{has}
use Rattle.decl_typing.proofs.Asked.{SettlesFirstTokens}
use Rattle.decl_typing.proofs.decls.parameters_are_new.Given as goal

abbrev pub invariant-loop-name : goal.invariant-loop-name
invariant-loop-name l = record {
  goes : Goes l.fn.at l.at;
  rest : OnlyFaults l.fn.at l.at;
  settles : SettlesFirstTokens l.fn.at l.at l.names l.name-index (has l.seen);
}
