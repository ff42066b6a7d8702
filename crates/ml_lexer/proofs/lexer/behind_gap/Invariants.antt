use Rattle.std.proofs.Common.{◌≤◌, ◌-◌, ℕ, List, drop, length}
use Rattle.token_model.specs.Tokens.{Gap}
use Rattle.ml_lexer.specs.Places.{rest_of}
use Rattle.ml_lexer.proofs.lexer.behind_gap.Given as goal

abbrev pub invariant-loop-i : goal.invariant-loop-i
invariant-loop-i l = (l.i ≤ length (rest_of l.text)) × ((rest : List ℕ) → Gap (drop l.i (rest_of l.text)) rest → Gap (rest_of l.text) rest)

abbrev pub decreases-loop-i : goal.decreases-loop-i
decreases-loop-i l = length (rest_of l.text) - l.i
