use Rattle.std.proofs.Common.{length}
use Rattle.grammar_model.specs.Keys.{key_of}
use Rattle.syntax_tree.specs.View.{tok_of}
use Rattle.syntax_rows.specs.Numbers.{sort_number}
use Rattle.frame_steps.specs.View.{text_table}
use Rattle.frame_steps.proofs.build.+begin.Given as goal

abbrev pub decreases-begin : goal.decreases-begin
decreases-begin l = length ((text_table l.text).chain (sort_number l.sort) (key_of (tok_of l.token.now)))
