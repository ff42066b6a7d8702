use Rattle.std.proofs.Common.{◌≡◌, drop, map}
use Rattle.grammar_model.specs.Tables.{has}
use Rattle.syntax_rows.specs.Numbers.{key_number}
use Rattle.syntax_rows.proofs.starts.has.Given as goal

-- what is left has the key as the whole has it
abbrev pub invariant-loop-k : goal.invariant-loop-k
invariant-loop-k l = has (map key_number (drop l.k-index l.keys)) (key_number l.key) ≡ has (map key_number l.keys) (key_number l.key)
