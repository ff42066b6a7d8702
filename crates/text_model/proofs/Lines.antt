-- How the lines of a text are cut byte by byte, and how long they are together.
use Rattle.std.proofs.Common.{◌≡◌, ℕ, ◌+◌, true, false, cond, eqb, List, [], ◌∷◌, ◌++◌, length, refl, sym, subst, arith, length-append}
use Rattle.std.proofs.lemmas.Bool.{cond_both}
use Rattle.text_model.specs.Lines.{line_feed, ended_from, rest_from}

-- the lines of bytes, where `line` is what stands before the bytes on their first line
abbrev pub lines_from : List ℕ → List ℕ → List (List ℕ)
lines_from line bs = ended_from line bs ++ rest_from line bs ∷ []

-- A line feed ends a line, and another byte lengthens it.
pub lines_from-cons : (line : List ℕ) (b : ℕ) (bs : List ℕ) → lines_from line (b ∷ bs) ≡ cond (eqb b line_feed) (line ∷ lines_from [] bs) (lines_from (line ++ b ∷ []) bs)
lines_from-cons line b bs =
    elim (eqb b line_feed)
    as (λ t. cond t (line ∷ ended_from [] bs) (ended_from (line ++ b ∷ []) bs) ++ cond t (rest_from [] bs) (rest_from (line ++ b ∷ []) bs) ∷ [] ≡ cond t (line ∷ lines_from [] bs) (lines_from (line ++ b ∷ []) bs))
    [ true ↦ refl | false ↦ refl ]

-- the bytes of lines, with one for the end of each
abbrev pub length_with_ends : List (List ℕ) → ℕ
length_with_ends [] = 0
length_with_ends (l ∷ ls) = length l + 1 + length_with_ends ls

-- No byte is lost between the lines.
pub length_with_ends-lines_from : (line bs : List ℕ) → length_with_ends (lines_from line bs) ≡ length line + length bs + 1
length_with_ends-lines_from line [] = omega arith
length_with_ends-lines_from line (b ∷ bs) =
    let P : List (List ℕ) → Type 0 = λ ls. length_with_ends ls ≡ length line + length (b ∷ bs) + 1 in
    subst P (sym (lines_from-cons line b bs))
    (cond_both (eqb b line_feed) (line ∷ lines_from [] bs) (lines_from (line ++ b ∷ []) bs) P
    (λ e. omega (arith, length_with_ends-lines_from [] bs))
    (λ e. omega (arith, length_with_ends-lines_from (line ++ b ∷ []) bs, length-append line (b ∷ []))))
