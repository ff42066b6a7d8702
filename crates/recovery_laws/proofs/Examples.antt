-- What the parser makes of unfinished definitions: each ends at the next one.
use Rattle.std.proofs.Common.{◌≡◌, ℕ, ◌+◌, List, [], ◌∷◌, codes, refl}
use Rattle.token_model.specs.Kinds.{Tok, Kind, let_word, in_word, lower, int, unit, semi, op9}
use Rattle.grammar_model.specs.Keys.{kind_key, key_of}
use Rattle.grammar_model.specs.Tables.{first_place}
use Rattle.grammar_model.specs.Rows.{chain_of, grower_of}
use Rattle.grammar_model.specs.Ocaml.{rows, program_text, grammar}
use Rattle.recovery_model.specs.Steps as rules
use Rattle.recovery_model.specs.Steps.{Fault, added, cut}
use Rattle.grammar_model.specs.Trees.{Tree, Forest, node, no_parts, part}
use Rattle.recovery_model.specs.Recovery.{step, close, recover}

-- a token from a byte to a byte, in a column
abbrev tok : Kind → ℕ → ℕ → ℕ → List ℕ → Tok
tok k s e c n = record { kind = k; start = s; end = e; col = c; name = n }

-- how many parts there are
abbrev count : Forest → ℕ
count no_parts = 0
count (part p c f) = 1 + count f

-- how many items a text has
abbrev items : Tree → ℕ
items (node r f) = count f

-- let f x = /   let y = x / let h z = z / let k = 2
abbrev adds_parts_text : List Tok
adds_parts_text = tok let_word 0 3 0 (codes "let") ∷ tok lower 4 5 4 (codes "f") ∷ tok lower 6 7 6 (codes "x") ∷ tok op9 8 9 8 (codes "=") ∷ tok let_word 12 15 2 (codes "let") ∷ tok lower 16 17 6 (codes "y") ∷ tok op9 18 19 8 (codes "=") ∷ tok lower 20 21 10 (codes "x") ∷ tok let_word 22 25 0 (codes "let") ∷ tok lower 26 27 4 (codes "h") ∷ tok lower 28 29 6 (codes "z") ∷ tok op9 30 31 8 (codes "=") ∷ tok lower 32 33 10 (codes "z") ∷ tok let_word 34 37 0 (codes "let") ∷ tok lower 38 39 4 (codes "k") ∷ tok op9 40 41 6 (codes "=") ∷ tok int 42 43 8 (codes "2") ∷ []

-- an unfinished definition that lacks parts ends at the next one
pub adds_parts : (recover (grammar program_text) adds_parts_text).1 ≡ added 21 2 ∷ []
unfolding recover step close rules.step rows chain_of grower_of first_place kind_key key_of
adds_parts = refl

pub adds_parts_items : items (recover (grammar program_text) adds_parts_text).0 ≡ 3
unfolding recover step close rules.step rows chain_of grower_of first_place kind_key key_of
adds_parts_items = refl

-- let f x = let y = x in / let h z = z / let k = 2
abbrev after_in_text : List Tok
after_in_text = tok let_word 0 3 0 (codes "let") ∷ tok lower 4 5 4 (codes "f") ∷ tok lower 6 7 6 (codes "x") ∷ tok op9 8 9 8 (codes "=") ∷ tok let_word 10 13 10 (codes "let") ∷ tok lower 14 15 14 (codes "y") ∷ tok op9 16 17 16 (codes "=") ∷ tok lower 18 19 18 (codes "x") ∷ tok in_word 20 22 20 (codes "in") ∷ tok let_word 23 26 0 (codes "let") ∷ tok lower 27 28 4 (codes "h") ∷ tok lower 29 30 6 (codes "z") ∷ tok op9 31 32 8 (codes "=") ∷ tok lower 33 34 10 (codes "z") ∷ tok let_word 35 38 0 (codes "let") ∷ tok lower 39 40 4 (codes "k") ∷ tok op9 41 42 6 (codes "=") ∷ tok int 43 44 8 (codes "2") ∷ []

-- one ends behind its `in`
pub after_in : (recover (grammar program_text) after_in_text).1 ≡ added 22 1 ∷ []
unfolding recover step close rules.step rows chain_of grower_of first_place kind_key key_of
after_in = refl

pub after_in_items : items (recover (grammar program_text) after_in_text).0 ≡ 3
unfolding recover step close rules.step rows chain_of grower_of first_place kind_key key_of
after_in_items = refl

-- let f x = print_newline (); / let h z = z / let k = 2
abbrev without_missing_part_text : List Tok
without_missing_part_text = tok let_word 0 3 0 (codes "let") ∷ tok lower 4 5 4 (codes "f") ∷ tok lower 6 7 6 (codes "x") ∷ tok op9 8 9 8 (codes "=") ∷ tok lower 10 23 10 (codes "print_newline") ∷ tok unit 24 26 24 (codes "()") ∷ tok semi 26 27 26 (codes ";") ∷ tok let_word 28 31 0 (codes "let") ∷ tok lower 32 33 4 (codes "h") ∷ tok lower 34 35 6 (codes "z") ∷ tok op9 36 37 8 (codes "=") ∷ tok lower 38 39 10 (codes "z") ∷ tok let_word 40 43 0 (codes "let") ∷ tok lower 44 45 4 (codes "k") ∷ tok op9 46 47 6 (codes "=") ∷ tok int 48 49 8 (codes "2") ∷ []

-- one that could go on is cut
pub without_missing_part : (recover (grammar program_text) without_missing_part_text).1 ≡ cut 27 ∷ []
unfolding recover step close rules.step rows chain_of grower_of first_place kind_key key_of
without_missing_part = refl

pub without_missing_part_items : items (recover (grammar program_text) without_missing_part_text).0 ≡ 3
unfolding recover step close rules.step rows chain_of grower_of first_place kind_key key_of
without_missing_part_items = refl

-- let f x = / let y = x in / y
abbrev finished_text : List Tok
finished_text = tok let_word 0 3 0 (codes "let") ∷ tok lower 4 5 4 (codes "f") ∷ tok lower 6 7 6 (codes "x") ∷ tok op9 8 9 8 (codes "=") ∷ tok let_word 10 13 0 (codes "let") ∷ tok lower 14 15 4 (codes "y") ∷ tok op9 16 17 6 (codes "=") ∷ tok lower 18 19 8 (codes "x") ∷ tok in_word 20 22 10 (codes "in") ∷ tok lower 23 24 0 (codes "y") ∷ []

-- a finished definition isn't
pub finished : (recover (grammar program_text) finished_text).1 ≡ []
unfolding recover step close rules.step rows chain_of grower_of first_place kind_key key_of
finished = refl

pub finished_items : items (recover (grammar program_text) finished_text).0 ≡ 1
unfolding recover step close rules.step rows chain_of grower_of first_place kind_key key_of
finished_items = refl
