-- Header lines, byte by byte.
use Rattle.std.proofs.Common.{◌≡◌, ◌∙◌, ◌+◌, ◌-◌, ◌<◌, ◌≤◌, ◌++◌, ◌∷◌, [], refl, sym, ap, ℕ, List, length, take, drop, Bool, true, false, arith, get_or, drop-cons, add-one}
use Rattle.std.specs.Prelude.{slice_index, ◌==◌, if◌then◌else◌, Some}
use Rattle.std.proofs.lemmas.List.{get_or-drop, take_more, length-drop}
use Rattle.lsp_model.specs.Frames.{Told, block_from, ends_line, with_line}

-- two tests that follow from each other have one answer
pub same_answer : (a b : Bool) → (a ≡ true → b ≡ true) → (b ≡ true → a ≡ true) → a ≡ b
same_answer true b f g = sym (f refl)
same_answer false true f g = g refl
same_answer false false f g = refl

-- the bytes of a line up to a place, with one more
one_more : (bytes : List ℕ) (start at : ℕ) → start ≤ at → at < length bytes → take (at + 1 - start) (drop start bytes) ≡ take (at - start) (drop start bytes) ++ slice_index bytes at ∷ []
one_more bytes start at order within =
    let more : at + 1 - start ≡ at - start + 1 = omega (arith, order) in
    let place : start + (at - start) ≡ at = omega (arith, order) in
    let short : at - start < length (drop start bytes) = grind (arith, order, within, length-drop start bytes) in
    let byte : get_or (drop start bytes) (at - start) 0 ≡ slice_index bytes at = get_or-drop start bytes (at - start) 0 ∙ ap (λ n. get_or bytes n 0) place in
    ap (λ n. take n (drop start bytes)) more ∙ take_more (drop start bytes) (at - start) 0 short ∙ ap (λ b. take (at - start) (drop start bytes) ++ b ∷ []) byte

-- what is left begins with the byte at a place
next_byte : (bytes : List ℕ) (at : ℕ) → at < length bytes → drop at bytes ≡ slice_index bytes at ∷ drop (at + 1) bytes
next_byte bytes at within = drop-cons bytes at 0 within ∙ ap (λ n. slice_index bytes at ∷ drop n bytes) (sym (add-one at))

-- a byte that ends no line joins the line
pub line_goes_on : (bytes : List ℕ) (t : Told) (start at : ℕ) → start ≤ at → at < length bytes → ends_line (take (at - start) (drop start bytes)) (slice_index bytes at) ≡ false
    → block_from (at + 1) t (take (at + 1 - start) (drop start bytes)) (drop (at + 1) bytes) ≡ block_from at t (take (at - start) (drop start bytes)) (drop at bytes)
line_goes_on bytes t start at order within goes =
    let line = take (at - start) (drop start bytes) in
    let rest = drop (at + 1) bytes in
    ap (λ l. block_from (at + 1) t l rest) (one_more bytes start at order within)
    ∙ sym (ap (λ c. if c then (if length line == 1 then Some (at + 1, t) else block_from (at + 1) (with_line t (take (length line - 1) line)) [] rest) else block_from (at + 1) t (line ++ slice_index bytes at ∷ []) rest) goes)
    ∙ sym (ap (block_from at t line) (next_byte bytes at within))

-- a byte that ends a line which isn't empty begins the next one
pub line_ends : (bytes : List ℕ) (t : Told) (start at : ℕ) → at < length bytes → ends_line (take (at - start) (drop start bytes)) (slice_index bytes at) ≡ true → (length (take (at - start) (drop start bytes)) == 1) ≡ false
    → block_from (at + 1) (with_line t (take (length (take (at - start) (drop start bytes)) - 1) (take (at - start) (drop start bytes)))) [] (drop (at + 1) bytes) ≡ block_from at t (take (at - start) (drop start bytes)) (drop at bytes)
line_ends bytes t start at within ends longer =
    let line = take (at - start) (drop start bytes) in
    let rest = drop (at + 1) bytes in
    let next = block_from (at + 1) (with_line t (take (length line - 1) line)) [] rest in
    sym (ap (λ c. if c then Some (at + 1, t) else next) longer)
    ∙ sym (ap (λ c. if c then (if length line == 1 then Some (at + 1, t) else next) else block_from (at + 1) t (line ++ slice_index bytes at ∷ []) rest) ends)
    ∙ sym (ap (block_from at t line) (next_byte bytes at within))
