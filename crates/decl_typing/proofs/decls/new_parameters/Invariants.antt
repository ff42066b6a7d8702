use Rattle.std.specs.Prelude.{◌≡◌, take}
use Rattle.typing_state.specs.Goes.{Goes, OnlyStore}
use Rattle.type_expressions.specs.Items.{names_of, nodes_of}
use Rattle.decl_typing.specs.Parameters.{token_names, MakesParameters}
use Rattle.decl_typing.proofs.decls.new_parameters.Given as goal

abbrev pub invariant-loop-name : goal.invariant-loop-name
invariant-loop-name l = record {
  goes : Goes l.fn.at l.at;
  rest : OnlyStore l.fn.at l.at;
  named : names_of l.parameters.items ≡ token_names (take l.name-index l.names);
  means : MakesParameters l.fn.at l.at (nodes_of l.parameters.items);
}
