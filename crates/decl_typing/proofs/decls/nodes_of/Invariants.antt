use Rattle.std.specs.Prelude.{◌≡◌, ◌++◌, drop}
use Rattle.type_nodes.specs.Views.{numbers}
use Rattle.type_expressions.specs.Items.{nodes_of}
use Rattle.decl_typing.proofs.decls.nodes_of.Given as goal

abbrev pub invariant-loop-parameter : goal.invariant-loop-parameter
invariant-loop-parameter l = numbers l.nodes.items ++ nodes_of (drop l.parameter-index l.parameters) ≡ nodes_of l.parameters
