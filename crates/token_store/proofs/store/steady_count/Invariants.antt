use Rattle.std.proofs.Common.{◌≡◌, ◌≤◌, length, take, map}
use Rattle.ml_lexer.specs.Reached.{reach_of, reached_of}
use Rattle.ml_lexer.specs.Steady.{steady}
use Rattle.token_store.proofs.store.steady_count.Given as goal

-- no token behind the first ones so far is steady
abbrev pub invariant-loop-count : goal.invariant-loop-count
invariant-loop-count l = (l.count ≤ length l.tokens) × (steady reach_of l.place (take l.count (map reached_of l.tokens)) ≡ steady reach_of l.place (map reached_of l.tokens))

abbrev pub decreases-loop-count : goal.decreases-loop-count
decreases-loop-count l = l.count
