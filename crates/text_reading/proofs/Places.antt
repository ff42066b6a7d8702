-- Positions of offsets behind a text's end.
use Rattle.std.proofs.Common.{◌≡◌, ℕ, ◌+◌, ◌-◌, ◌<◌, ◌≤◌, leb, List, [], ◌∷◌, length, refl, ◌∙◌, ap, arith, false}
use Rattle.std.proofs.lemmas.Bool.{lt-leb}
use Rattle.text_model.specs.Lines.{lines_of}
use Rattle.text_model.specs.Positions.{position_in, position_of}
use Rattle.text_model.proofs.Lines.{length_with_ends, length_with_ends-lines_from}

-- an offset behind all lines is on a line behind them
position_in_past : (ls : List (List ℕ)) (line n : ℕ) → length_with_ends ls ≤ n → position_in line ls n ≡ (line + length ls, n - length_with_ends ls)
position_in_past [] line n far =
    let lines : line ≡ line + 0 = omega arith in
    let rest : n ≡ n - 0 = omega arith in
    ap (λ k. (k, n)) lines ∙ ap (λ k. (line + 0, k)) rest
position_in_past (l ∷ ls) line n far =
    let beyond : leb n (length l) ≡ false = lt-leb n (length l) (omega arith) in
    let lines : line + 1 + length ls ≡ line + length (l ∷ ls) = omega arith in
    let rest : n - (length l + 1) - length_with_ends ls ≡ n - length_with_ends (l ∷ ls) = omega arith in
    rw beyond (rw (position_in_past ls (line + 1) (n - (length l + 1)) (omega arith), lines, rest) refl)

-- an offset behind the text's end
pub position_past : (text : List ℕ) (n : ℕ) → length text < n → position_of text n ≡ (length (lines_of text) + 1, n - length text - 1)
unfolding position_of
position_past text n far =
    let e : length_with_ends (lines_of text) ≡ length text + 1 = length_with_ends-lines_from [] text ∙ omega arith in
    let lines : 1 + length (lines_of text) ≡ length (lines_of text) + 1 = omega arith in
    let col : n - length_with_ends (lines_of text) ≡ n - length text - 1 = omega arith in
    position_in_past (lines_of text) 1 n (omega arith) ∙ ap (λ k. (k, n - length_with_ends (lines_of text))) lines ∙ ap (λ k. (length (lines_of text) + 1, k)) col

few_lines_in : (ls : List (List ℕ)) → length ls ≤ length_with_ends ls
few_lines_in [] = omega arith
few_lines_in (l ∷ ls) = let h : length ls ≤ length_with_ends ls = few_lines_in ls in omega arith

-- a text has at most one line more than bytes
pub few_lines : (text : List ℕ) → length (lines_of text) ≤ length text + 1
few_lines text =
    let e : length_with_ends (lines_of text) ≡ length text + 1 = length_with_ends-lines_from [] text ∙ omega arith in
    let h : length (lines_of text) ≤ length_with_ends (lines_of text) = few_lines_in (lines_of text) in
    omega arith
