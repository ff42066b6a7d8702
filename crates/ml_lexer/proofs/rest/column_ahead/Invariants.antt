use Rattle.std.proofs.Common.{◌≡◌, ◌≤◌, ◌-◌, ◌+◌, take, drop}
use Rattle.token_model.specs.Tokens.{column_from}
use Rattle.ml_lexer.specs.Places.{rest_of}
use Rattle.ml_lexer.proofs.rest.column_ahead.Given as goal

-- the column so far, over the bytes that are left
abbrev pub invariant-loop-i : goal.invariant-loop-i
invariant-loop-i l =
    (column_from l.found (take (l.by - l.i) (drop l.i (rest_of l.text))) ≡ column_from l.col (take l.by (rest_of l.text))) × (l.found ≤ l.text.at + l.i)
