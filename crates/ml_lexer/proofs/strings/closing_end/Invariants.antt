use Rattle.std.proofs.Common.{◌≡◌, ◌-◌, ◌+◌, take, drop}
use Rattle.ml_lexer.specs.Places.{rest_of}
use Rattle.ml_lexer.specs.Scans.{word_end}
use Rattle.token_model.specs.Spellings.{closing}
use Rattle.ml_lexer.proofs.strings.closing_end.Given as goal

abbrev pub invariant-loop-i : goal.invariant-loop-i
invariant-loop-i l = word_end (closing (take (l.id_end - 1) (drop 1 (rest_of l.text)))) (l.id_end + 1) (drop (l.id_end + 1) (rest_of l.text)) ≡ word_end (closing (take (l.id_end - 1) (drop 1 (rest_of l.text)))) l.i (drop l.i (rest_of l.text))
