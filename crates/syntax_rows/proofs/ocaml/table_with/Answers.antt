use Rattle.std.proofs.Common.{refl}
use Rattle.grammar_model.specs.Ocaml.{rows}
use Rattle.grammar_model.specs.Keys.{kind_key}
use Rattle.syntax_tree.specs.Names.{kind_of}
use Rattle.syntax_rows.specs.Numbers.{kind_number, sort_number, name_number}
use Rattle.syntax_rows.proofs.ocaml.table_with.Goals as goal

pub returns-clause-rows : goal.returns-clause-rows
unfolding rows kind_key kind_of kind_number sort_number name_number
returns-clause-rows c = refl
