use Rattle.std.proofs.Common.{map, drop, ℕ}
use Rattle.typing_state.specs.Goes.{Goes}
use Rattle.pattern_rows.specs.Contracts.{patterns_of}
use Rattle.pattern_rows.specs.Sides.{AsksLaterFirst}
use Rattle.pattern_typing.specs.Matching.{parts_of_sides, side_of}
use Rattle.pattern_typing.proofs.patterns.compare_later.Given as goal

abbrev pub invariant-loop-side : goal.invariant-loop-side
invariant-loop-side l = record {
  goes : Goes l.fn.at l.at;
  carries : (i : ℕ) → AsksLaterFirst l.fn.at l.at l.env (side_of l.first) (map side_of l.sides) (map side_of (drop l.side-index l.sides)) (patterns_of i (parts_of_sides l.sides)) (patterns_of i (parts_of_sides (drop l.side-index l.sides)));
}
