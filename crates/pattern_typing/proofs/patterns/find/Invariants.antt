use Rattle.std.proofs.Common.{◌≡◌, drop}
use Rattle.syntax_tree.specs.View.{tok_of}
use Rattle.pattern_names.specs.PatternNames.{find_name}
use Rattle.pattern_rows.specs.Sides.{find_bind}
use Rattle.pattern_typing.specs.Matching.{binds_of, tokens_of}
use Rattle.pattern_typing.proofs.patterns.find.Given as goal

abbrev pub invariant-loop-other : goal.invariant-loop-other
invariant-loop-other l = record {
  token : find_name (tok_of l.name).name (tokens_of (drop l.other-index l.names)) ≡ find_name (tok_of l.name).name (tokens_of l.names);
  found : find_bind (tok_of l.name).name (binds_of (drop l.other-index l.names)) ≡ find_bind (tok_of l.name).name (binds_of l.names);
}
