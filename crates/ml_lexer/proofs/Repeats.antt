-- A part of a text that stands at another place.
use Rattle.std.proofs.Common.{◌≡◌, ◌+◌, ◌-◌, ◌≤◌, ◌<◌, ◌∷◌, [], eq-eqb, length-take, length-drop, length-append, ℕ, suc, List, Bool, true, false, take, drop, length, get_or, sym, ◌∙◌, ap, arith, refl}
use Rattle.std.specs.Prelude.{◌==◌, ◌&&◌, ◌++◌, if◌then◌else◌, Some}
use Rattle.std.proofs.lemmas.List.{drop_more, drop_all, get_or-drop, drop-drop}
use Rattle.std.proofs.lemmas.Bool.{both_ways, ne_eqb, and_parts}
use Rattle.token_model.specs.Spellings.{closing}
use Rattle.ml_lexer.specs.Scans.{front_is, word_end}

-- one byte of a part of a text, and the rest of the part
part_more : (xs : List ℕ) (i to : ℕ) → i < to → i < length xs → take (to - i) (drop i xs) ≡ get_or xs i 0 ∷ take (to - (i + 1)) (drop (i + 1) xs)
part_more xs i to before here =
    let size : to - i ≡ suc (to - (i + 1)) = omega arith in
    ap (λ k. take k (drop i xs)) size ∙ ap (λ (l : List ℕ). take (suc (to - (i + 1))) l) (drop_more xs i 0 here)

-- one byte more of a part of a text stands at another place, or doesn't
pub repeated_more : (xs : List ℕ) (from to at i : ℕ) → from ≤ i → i < to → to ≤ length xs → at + (i - from) < length xs
    → front_is (take (to - i) (drop i xs)) (drop (at + (i - from)) xs) ≡ (get_or xs (at + (i - from)) 0 == get_or xs i 0 && front_is (take (to - (i + 1)) (drop (i + 1) xs)) (drop (at + (i + 1 - from)) xs))
repeated_more xs from to at i behind before inside there =
    let here : i < length xs = omega arith in
    let next : at + (i - from) + 1 ≡ at + (i + 1 - from) = omega arith in
    ap (λ (l : List ℕ). front_is l (drop (at + (i - from)) xs)) (part_more xs i to before here)
    ∙ ap (λ (l : List ℕ). front_is (get_or xs i 0 ∷ take (to - (i + 1)) (drop (i + 1) xs)) l) (drop_more xs (at + (i - from)) 0 there)
    ∙ ap (λ k. get_or xs (at + (i - from)) 0 == get_or xs i 0 && front_is (take (to - (i + 1)) (drop (i + 1) xs)) (drop k xs)) next

-- no part of a text with a byte stands at its end
pub repeated_past : (xs : List ℕ) (i to at : ℕ) → i < to → to ≤ length xs → length xs ≤ at → front_is (take (to - i) (drop i xs)) (drop at xs) ≡ false
repeated_past xs i to at before inside past =
    let here : i < length xs = omega arith in
    ap (λ (l : List ℕ). front_is l (drop at xs)) (part_more xs i to before here)
    ∙ ap (λ (l : List ℕ). front_is (get_or xs i 0 ∷ take (to - (i + 1)) (drop (i + 1) xs)) l) (drop_all at xs past)

-- the front byte differs
pub other_front : (a b : ℕ) (rest : Bool) → (a ≡ b → ⊥) → (a == b && rest) ≡ false
other_front a b rest other = elim (a == b) as (λ t. a == b ≡ t → (t && rest) ≡ false) [ true ↦ λ e. absurd (both_ways (a == b) (ne_eqb a b other) e) | false ↦ λ e. refl ] refl

pub same_front : (a b : ℕ) (rest : Bool) → a ≡ b → (a == b && rest) ≡ rest
same_front a b rest same = ap (λ t. t && rest) (eq-eqb a b same)

-- a word in two parts stands where its parts stand, one behind the other
front_is-append : (a b bs : List ℕ) → front_is (a ++ b) bs ≡ (front_is a bs && front_is b (drop (length a) bs))
front_is-append [] b bs = refl
front_is-append (c ∷ cs) b [] = refl
front_is-append (c ∷ cs) b (x ∷ bs) = elim (x == c) as (λ t. (t && front_is (cs ++ b) bs) ≡ ((t && front_is cs bs) && front_is b (drop (length cs) bs))) [ true ↦ front_is-append cs b bs | false ↦ refl ]

front_byte : (b : ℕ) (bs : List ℕ) → (0 == b) ≡ false → front_is (b ∷ []) bs ≡ (get_or bs 0 0 == b)
front_byte b [] other = sym other
front_byte b (x ∷ bs) other = elim (x == b) as (λ t. (t && true) ≡ t) [ true ↦ refl | false ↦ refl ]

-- a word that stands in a list isn't longer
pub front_fits : (word bs : List ℕ) → front_is word bs ≡ true → length word ≤ length bs
front_fits [] bs is = omega arith
front_fits (c ∷ cs) [] is = absurd (both_ways false refl is)
front_fits (c ∷ cs) (b ∷ bs) is = omega (arith, front_fits cs bs (and_parts (b == c) (front_is cs bs) is).1)

-- `|id}` stands where its bytes stand
pub front_closing : (id xs : List ℕ) (at n : ℕ) → at < length xs → length id + 1 ≡ n → front_is (closing id) (drop at xs) ≡ (get_or xs at 0 == 124 && (front_is id (drop (at + 1) xs) && get_or xs (at + n) 0 == 125))
front_closing id xs at n there size =
    let place : length id + (at + 1) ≡ at + n = omega (arith, size) in
    let last : front_is (125 ∷ []) (drop (length id) (drop (at + 1) xs)) ≡ (get_or xs (at + n) 0 == 125) =
    ap (λ (l : List ℕ). front_is (125 ∷ []) l) (drop-drop (length id) (at + 1) xs) ∙ front_byte 125 (drop (at + 1 + length id) xs) refl ∙ ap (λ k. k == 125) (get_or-drop (at + 1 + length id) xs 0 0 ∙ ap (λ k. get_or xs k 0) (omega (arith, place))) in
    ap (λ (l : List ℕ). front_is (closing id) l) (drop_more xs at 0 there)
    ∙ ap (λ t. get_or xs at 0 == 124 && t) (front_is-append id (125 ∷ []) (drop (at + 1) xs) ∙ ap (λ t. front_is id (drop (at + 1) xs) && t) last)

pub length-id : (xs : List ℕ) (n : ℕ) → 1 ≤ n → n ≤ length xs → length (take (n - 1) (drop 1 xs)) + 1 ≡ n
length-id xs n some fits = omega (arith, length-take (n - 1) (drop 1 xs), length-drop 1 xs)

pub length-closing : (id : List ℕ) (n : ℕ) → length id + 1 ≡ n → length (closing id) ≡ n + 1
length-closing id n size = omega (arith, length-append id (125 ∷ []), size)

-- one step of the search for a word
pub word_here : (word xs : List ℕ) (i : ℕ) → i < length xs → front_is word (drop i xs) ≡ true → word_end word i (drop i xs) ≡ Some (i + length word)
word_here word xs i there is =
    let more = drop_more xs i 0 there in
    ap (λ (l : List ℕ). word_end word i l) more ∙ ap (λ t. if t then Some (i + length word) else word_end word (i + 1) (drop (i + 1) xs)) (ap (λ (l : List ℕ). front_is word l) (sym more) ∙ is)

pub word_later : (word xs : List ℕ) (i : ℕ) → i < length xs → front_is word (drop i xs) ≡ false → word_end word i (drop i xs) ≡ word_end word (i + 1) (drop (i + 1) xs)
word_later word xs i there is =
    let more = drop_more xs i 0 there in
    ap (λ (l : List ℕ). word_end word i l) more ∙ ap (λ t. if t then Some (i + length word) else word_end word (i + 1) (drop (i + 1) xs)) (ap (λ (l : List ℕ). front_is word l) (sym more) ∙ is)
