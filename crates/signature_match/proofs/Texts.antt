-- A text with points between its parts, and one part more.
use Rattle.std.proofs.Common.{◌≡◌, ℕ, zero, suc, ◌+◌, ◌<◌, List, [], ◌∷◌, ◌++◌, map, length, get_or, take, refl, sym, ap, ◌∙◌, append_assoc, arith}
use Rattle.std.specs.List.{join_with_byte}
use Rattle.std.proofs.lemmas.List.{take_more, map-append}
use Rattle.text_terms.specs.declared.RcStr.{RcStr}
use Rattle.text_terms.specs.Bytes.{str_bytes}

joined_more : (c : ℕ) (x : List ℕ) (xs : List (List ℕ)) (y : List ℕ) → join_with_byte c ((x ∷ xs) ++ y ∷ []) ≡ join_with_byte c (x ∷ xs) ++ c ∷ y
joined_more c x [] y = refl
joined_more c x (z ∷ xs) y = ap (λ t. x ++ c ∷ t) (joined_more c z xs y) ∙ sym (append_assoc x (c ∷ join_with_byte c (z ∷ xs)) (c ∷ y))

added : (items : List RcStr) (k : ℕ) (r : RcStr) → k < length items → r ≡ get_or items k r → map str_bytes (take (k + 1) items) ≡ map str_bytes (take k items) ++ str_bytes r ∷ []
added items k r h is = rw (take_more items k r h, map-append, ← is)

-- the first name
pub text_first : (items : List RcStr) (k : ℕ) (r : RcStr) (text : List ℕ) → k < length items → r ≡ get_or items k r → k ≡ 0 → text ≡ join_with_byte 46 (map str_bytes (take k items))
    → text ++ str_bytes r ≡ join_with_byte 46 (map str_bytes (take (k + 1) items))
text_first items zero r text h is first e = rw (added items zero r h is, e) refl
text_first items (suc k) r text h is first e = cc

-- a name behind others
pub text_more : (items : List RcStr) (k : ℕ) (r : RcStr) (text : List ℕ) → k < length items → r ≡ get_or items k r → 0 < k → text ≡ join_with_byte 46 (map str_bytes (take k items))
    → (text ++ 46 ∷ []) ++ str_bytes r ≡ join_with_byte 46 (map str_bytes (take (k + 1) items))
text_more items zero r text h is some e = absurd (omega arith)
text_more [] (suc k) r text h is some e = absurd (omega arith)
text_more (i ∷ items) (suc k) r text h is some e =
    rw (added (i ∷ items) (suc k) r h is, joined_more 46 (str_bytes i) (map str_bytes (take k items)) (str_bytes r), e) (append_assoc (join_with_byte 46 (map str_bytes (i ∷ take k items))) (46 ∷ []) (str_bytes r))
