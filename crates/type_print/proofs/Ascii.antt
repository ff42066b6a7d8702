-- Cuts of texts, and texts of one byte a character.
use Rattle.std.proofs.Common.{◌≡◌, ℕ, zero, suc, ◌<◌, ◌≤◌, false, List, [], ◌∷◌, ◌++◌, length, take, get_or, codes, sym, ap, subst, ◌∙◌, arith, ◌⊎◌, inl, inr}
use Rattle.std.specs.Prelude.{nat_le, if◌then◌else◌}
use Rattle.std.specs.Str.{IsCharBoundary}
use Rattle.std.proofs.lemmas.List.{take-append-le, length-append, append-nil, get_or_append_left}
use Rattle.std.proofs.lemmas.Bool.Decides.{nat_tests}
use Rattle.type_print_model.specs.Printing.{cut, most_shown}
use Rattle.type_print.specs.Texts.{IsAscii, IsCuttable}

ascii_at : (xs : List ℕ) (i : ℕ) → IsAscii xs → i < length xs → get_or xs i 0 < 128
ascii_at [] i h lt = absurd (omega arith)
ascii_at (x ∷ xs) zero h lt = h.0
ascii_at (x ∷ xs) (suc i) h lt = ascii_at xs i h.1 (omega arith)

-- each place in such a text is one between characters
pub ascii_boundary : (xs : List ℕ) (m : ℕ) → IsAscii xs → m ≤ length xs → IsCharBoundary xs m
ascii_boundary xs m h le = (le, λ lt ge. let at = ascii_at xs m h lt in absurd (omega arith))

over : (a m : ℕ) → m < a → nat_le a m ≡ false
over a m h = grind (arith, nat_tests)

shown_cut : (m : ℕ) (xs ys : List ℕ) → m < length xs → (if nat_le (length xs) m then xs else take m xs ++ codes "...") ≡ (if nat_le (length (xs ++ ys)) m then xs ++ ys else take m (xs ++ ys) ++ codes "...")
shown_cut m xs ys h =
    let a : nat_le (length xs) m ≡ false = over (length xs) m h in
    let b : nat_le (length (xs ++ ys)) m ≡ false = over (length (xs ++ ys)) m (let l = length-append xs ys in omega arith) in
    let c : take m (xs ++ ys) ≡ take m xs = take-append-le m xs ys (omega arith) in
    rw (a, b, c)

-- a text that is too long is cut like any that it begins
pub cut_front : (xs ys : List ℕ) → most_shown < length xs → cut xs ≡ cut (xs ++ ys)
cut_front xs ys h = shown_cut most_shown xs ys h

pub cut_long : (xs : List ℕ) → most_shown < length xs → cut xs ≡ take most_shown xs ++ codes "..."
cut_long xs h = rw (over (length xs) most_shown h)

pub ascii_cuttable : (xs : List ℕ) → IsAscii xs → IsCuttable xs
ascii_cuttable xs h long = ascii_boundary xs most_shown h (omega arith)

-- a place in the front of a text is one between characters if it is one in the whole: the byte there is the same
front_boundary : (m : ℕ) (xs ys : List ℕ) → m < length xs → IsCharBoundary (xs ++ ys) m → IsCharBoundary xs m
front_boundary m xs ys long h =
    let e : get_or (xs ++ ys) m 0 ≡ get_or xs m 0 = get_or_append_left xs ys 0 m long in
    let l = length-append xs ys in
    (omega arith, λ lt ge. subst (λ b. 192 ≤ b) e (h.1 (omega arith) (subst (λ b. 128 ≤ b) (sym e) ge)))

-- what was written can be cut where the whole can
pub cuttable_front : (xs ys whole : List ℕ) → xs ++ ys ≡ whole → IsCuttable whole → IsCuttable xs
cuttable_front xs ys whole e h long =
    let l = length-append xs ys in
    let all : IsCuttable (xs ++ ys) = subst IsCuttable (sym e) h in
    front_boundary most_shown xs ys long (all (omega arith))

-- what was written, and what is left: nothing, or the text is too long
pub cut_whole : (xs ys whole : List ℕ) → xs ++ ys ≡ whole → (ys ≡ []) ⊎ (most_shown < length xs) → cut xs ≡ cut whole
cut_whole xs ys whole e (inl none) = ap cut (sym (append-nil xs) ∙ (ap (λ (zs : List ℕ). xs ++ zs) (sym none) ∙ e))
cut_whole xs ys whole e (inr long) = cut_front xs ys long ∙ ap cut e
