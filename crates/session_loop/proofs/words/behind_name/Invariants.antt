use Rattle.std.proofs.Common.{◌≡◌, ◌∷◌, ◌++◌, map, drop}
use Rattle.session_loop.specs.Words.{program_name, texts}
use Rattle.session_loop.proofs.words.behind_name.Given as goal

-- the words put so far, and those left, are all
abbrev pub invariant-loop-word : goal.invariant-loop-word
invariant-loop-word l = map (λ s. s.now) l.all.items ++ texts (drop l.word-index l.words) ≡ program_name ∷ texts l.words
