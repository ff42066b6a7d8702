-- A text stays UTF-8 when a piece is put between two places that part no character.
use Rattle.std.proofs.Common.{◌≡◌, ℕ, zero, suc, ◌≤◌, false, List, [], ◌∷◌, ◌++◌, length, take, drop, slice_get, None, IsUtf8, IsCharBoundary, refl, arith}
use Rattle.std.proofs.lemmas.Str.{IsUtf8-append, IsUtf8-take, IsUtf8-drop}
use Rattle.text_model.specs.Edits.{apply, is_inside_char}

-- A place that isn't inside a character is where one begins, or the end.
boundary : (text : List ℕ) (n : ℕ) → n ≤ length text → is_inside_char text n ≡ false → IsCharBoundary text n
boundary text n le out = (le, λ lt low. grind arith)

-- An edit between two such places leaves a text that is UTF-8.
pub apply_utf8 : (text piece : List ℕ) (start end : ℕ) → IsUtf8 text → IsUtf8 piece → start ≤ end → end ≤ length text → is_inside_char text start ≡ false → is_inside_char text end ≡ false
    → IsUtf8 (apply text start end piece)
apply_utf8 text piece start end whole new order within start_out end_out =
    IsUtf8-append (take start text ++ piece) (drop end text)
    (IsUtf8-append (take start text) piece (IsUtf8-take text start whole (boundary text start (omega (arith, order, within)) start_out)) new)
    (IsUtf8-drop text end whole (boundary text end within end_out))

-- No character goes on at a place that has no byte.
pub none_inside : (text : List ℕ) (n : ℕ) → slice_get text n ≡ None → false ≡ is_inside_char text n
none_inside [] n e = refl
none_inside (b ∷ bs) zero e = cc
none_inside (b ∷ bs) (suc n) e = none_inside bs n e
