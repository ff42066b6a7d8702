use Rattle.std.proofs.Common.{drop}
use Rattle.typing_state.specs.Goes.{Goes}
use Rattle.pattern_rows.specs.Contracts.{patterns_of, AsksEachFirst}
use Rattle.pattern_typing.specs.Matching.{nodes_of, typed_view}
use Rattle.pattern_typing.proofs.patterns.all_equal.Given as goal

abbrev pub invariant-loop-one : goal.invariant-loop-one
invariant-loop-one l = record {
  goes : Goes l.fn.at l.at;
  carries : AsksEachFirst l.fn.at l.at l.env (patterns_of l.fn.at.item (typed_view l.typed)) (patterns_of l.fn.at.item (typed_view (drop l.one-index l.typed))) (nodes_of l.typed) (nodes_of (drop l.one-index l.typed)) l.wanted.0;
}
