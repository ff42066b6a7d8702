use Rattle.std.proofs.Common.{drop}
use Rattle.typing_state.specs.Goes.{Goes}
use Rattle.pattern_rows.specs.Sides.{AsksNamesFirst}
use Rattle.pattern_typing.specs.Matching.{binds_of}
use Rattle.pattern_typing.proofs.patterns.compare_names.Given as goal

abbrev pub invariant-loop-name : goal.invariant-loop-name
invariant-loop-name l = record {
  goes : Goes l.fn.at l.at;
  carries : AsksNamesFirst l.fn.at l.at l.env (binds_of l.first) (binds_of (drop l.name-index l.first)) (binds_of l.later);
}
