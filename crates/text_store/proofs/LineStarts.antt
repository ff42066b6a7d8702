-- Where lines start: bounds, order, and the starts of joined and of moved bytes.
use Rattle.std.proofs.Common.{◌≡◌, ℕ, zero, suc, ◌+◌, ◌-◌, ◌<◌, ◌≤◌, true, false, cond, eqb, List, [], ◌∷◌, ◌++◌, length, get_or, take, drop, map, refl, sym, ◌∙◌, ap, subst, arith, length-append, length-drop, append_assoc, ⊎_elim}
use Rattle.std.specs.List.Sorted.{IsNonDecreasing}
use Rattle.std.proofs.lemmas.Bool.{cond_both, cases_order}
use Rattle.std.proofs.lemmas.List.{get_or_append_left, get_or-append_right, take-append-drop, length-take-le, take_at, drop_at}
use Rattle.text_model.specs.Lines.{line_feed, lines_of}
use Rattle.text_model.proofs.Lines.{lines_from, lines_from-cons}
use Rattle.text_model.specs.Edits.{apply, text_limit}
use Rattle.text_store.specs.Starts.{starts_from, HasStarts, PartsAt, AllBehind, AllMovable}

-- that a number lies behind `low` and is at most `high`
abbrev IsBetween : ℕ → ℕ → ℕ → Type 0
IsBetween low high n = (low < n) × (n ≤ high)

-- Each start lies behind the first byte, and at most behind the last.
pub starts_from-bounds : (at : ℕ) (bs : List ℕ) (k d : ℕ) → k < length (starts_from at bs) → (at < get_or (starts_from at bs) k d) × (get_or (starts_from at bs) k d ≤ at + length bs)
starts_from-bounds at [] k d h = absurd (omega arith)
starts_from-bounds at (b ∷ bs) k d h =
    cond_both (eqb b line_feed) ((at + 1) ∷ starts_from (at + 1) bs) (starts_from (at + 1) bs)
    (λ ts. k < length ts → IsBetween at (at + length (b ∷ bs)) (get_or ts k d))
    (λ e. elim k as (λ j. j < length ((at + 1) ∷ starts_from (at + 1) bs) → IsBetween at (at + length (b ∷ bs)) (get_or ((at + 1) ∷ starts_from (at + 1) bs) j d)) [
      | zero ↦ (λ g. (omega arith, omega arith))
      | suc j ↦ (λ g. let p = starts_from-bounds (at + 1) bs j d (omega arith) in (omega arith, omega arith))
    ])
    (λ e g. let p = starts_from-bounds (at + 1) bs k d g in (omega arith, omega arith))
    h

-- There are no more starts than bytes.
pub length-starts_from : (at : ℕ) (bs : List ℕ) → length (starts_from at bs) ≤ length bs
length-starts_from at [] = omega arith
length-starts_from at (b ∷ bs) =
    cond_both (eqb b line_feed) ((at + 1) ∷ starts_from (at + 1) bs) (starts_from (at + 1) bs)
    (λ ts. length ts ≤ length (b ∷ bs))
    (λ e. omega (arith, length-starts_from (at + 1) bs))
    (λ e. omega (arith, length-starts_from (at + 1) bs))

-- A number before rising ones, which it does not exceed, leaves them rising.
IsNonDecreasing-cons : (t : ℕ) (ts : List ℕ) → ((k d : ℕ) → k < length ts → t ≤ get_or ts k d) → IsNonDecreasing ts → IsNonDecreasing (t ∷ ts)
IsNonDecreasing-cons t ts low rises zero zero d le lt = omega arith
IsNonDecreasing-cons t ts low rises zero (suc j) d le lt = low j d (omega arith)
IsNonDecreasing-cons t ts low rises (suc i) zero d le lt = absurd (omega arith)
IsNonDecreasing-cons t ts low rises (suc i) (suc j) d le lt = rises i j d (omega arith) (omega arith)

-- Starts rise.
pub starts_from-rise : (at : ℕ) (bs : List ℕ) → IsNonDecreasing (starts_from at bs)
starts_from-rise at [] = λ i j d le lt. absurd (omega arith)
starts_from-rise at (b ∷ bs) =
    cond_both (eqb b line_feed) ((at + 1) ∷ starts_from (at + 1) bs) (starts_from (at + 1) bs) IsNonDecreasing
    (λ e. IsNonDecreasing-cons (at + 1) (starts_from (at + 1) bs) (λ k d h. let p = starts_from-bounds (at + 1) bs k d h in omega arith) (starts_from-rise (at + 1) bs))
    (λ e. starts_from-rise (at + 1) bs)

-- The starts of joined bytes are those of the first, and then those of the others at their place.
pub starts_from-append : (at : ℕ) (xs ys : List ℕ) → starts_from at (xs ++ ys) ≡ starts_from at xs ++ starts_from (at + length xs) ys
starts_from-append at [] ys = ap (λ n. starts_from n ys) (omega arith)
starts_from-append at (b ∷ xs) ys =
    let rest : starts_from (at + 1) (xs ++ ys) ≡ starts_from (at + 1) xs ++ starts_from (at + length (b ∷ xs)) ys =
    starts_from-append (at + 1) xs ys ∙ ap (λ n. starts_from (at + 1) xs ++ starts_from n ys) (omega arith) in
    elim (eqb b line_feed)
    as (λ t. cond t ((at + 1) ∷ starts_from (at + 1) (xs ++ ys)) (starts_from (at + 1) (xs ++ ys)) ≡ cond t ((at + 1) ∷ starts_from (at + 1) xs) (starts_from (at + 1) xs) ++ starts_from (at + length (b ∷ xs)) ys)
    [ true ↦ ap (λ ts. (at + 1) ∷ ts) rest | false ↦ rest ]

-- Bytes that stand elsewhere have their starts moved as far.
pub starts_from-moved : (at to cut added : ℕ) (bs : List ℕ) → cut ≤ at → to + cut ≡ at + added → starts_from to bs ≡ map (λ t. t - cut + added) (starts_from at bs)
starts_from-moved at to cut added [] le e = refl
starts_from-moved at to cut added (b ∷ bs) le e =
    let rest : starts_from (to + 1) bs ≡ map (λ t. t - cut + added) (starts_from (at + 1) bs) = starts_from-moved (at + 1) (to + 1) cut added bs (omega arith) (omega arith) in
    let first : to + 1 ≡ at + 1 - cut + added = omega arith in
    elim (eqb b line_feed)
    as (λ t. cond t ((to + 1) ∷ starts_from (to + 1) bs) (starts_from (to + 1) bs) ≡ map (λ n. n - cut + added) (cond t ((at + 1) ∷ starts_from (at + 1) bs) (starts_from (at + 1) bs)))
    [ true ↦ cc | false ↦ rest ]

-- The starts of a text rise.
pub HasStarts-rise : (text starts : List ℕ) → HasStarts text starts → IsNonDecreasing starts
HasStarts-rise text starts h = subst IsNonDecreasing (sym h.starts_are) (starts_from-rise 0 text)

-- A text has no more starts than bytes.
pub HasStarts-length : (text starts : List ℕ) → HasStarts text starts → length starts ≤ length text
HasStarts-length text starts h = subst (λ ts. length ts ≤ length text) (sym h.starts_are) (length-starts_from 0 text)

-- A list of numbers up to n and then of greater ones parts where the first end.
parts_at : (xs ys : List ℕ) (n i : ℕ) → ((k d : ℕ) → k < length xs → get_or xs k d ≤ n) → ((k d : ℕ) → k < length ys → n < get_or ys k d) → PartsAt (xs ++ ys) n i → i ≡ length xs
parts_at xs ys n i low high p =
    let joined = length-append xs ys in
    let le = p.bound in
    let point = p.parts in
    ⊎_elim (λ e. e)
    (⊎_elim
    (λ lt. let is = get_or_append_left xs ys 0 i lt in let a = low i 0 lt in let b = point.1 i 0 (omega arith) (omega arith) in absurd (omega arith))
    (λ lt. let is = get_or-append_right xs ys (length xs) (length xs) 0 refl (omega arith) in let a = high (length xs - length xs) 0 (omega arith) in let b = point.0 (length xs) 0 (omega arith) lt in absurd (omega arith)))
    (cases_order i (length xs))

-- The starts up to a place are those of the text before it, and the others those of the text from it on.
pub parted_starts : (text starts : List ℕ) (place i : ℕ) → HasStarts text starts → place ≤ length text → PartsAt starts place i → (take i starts ≡ starts_from 0 (take place text)) × (drop i starts ≡ starts_from place (drop place text))
parted_starts text starts place i h within p =
    let before = starts_from 0 (take place text) in
    let from = starts_from place (drop place text) in
    let len : length (take place text) ≡ place = length-take-le place text within in
    let joined : starts_from 0 text ≡ before ++ from =
    ap (starts_from 0) (sym (take-append-drop place text)) ∙ starts_from-append 0 (take place text) (drop place text) ∙ ap (λ n. starts_from 0 (take place text) ++ starts_from n (drop place text)) (omega arith) in
    let is : starts ≡ before ++ from = h.starts_are ∙ joined in
    let cut : i ≡ length before = parts_at before from place i
    (λ k d g. let b = starts_from-bounds 0 (take place text) k d g in omega arith)
    (λ k d g. let b = starts_from-bounds place (drop place text) k d g in b.0)
    (subst (λ ts. PartsAt ts place i) is p) in
    (ap (take i) is ∙ take_at before from i (sym cut), ap (drop i) is ∙ drop_at before from i (sym cut))

-- The starts of an edited text: those up to the edit's start, those of its bytes, and those behind its end, moved.
pub starts_from-apply : (text starts piece : List ℕ) (start end from to : ℕ) → HasStarts text starts → start ≤ end → end ≤ length text → PartsAt starts start from → PartsAt starts end to
    → starts_from 0 (apply text start end piece) ≡ (take from starts ++ starts_from start piece) ++ map (λ t. t - (end - start) + length piece) (drop to starts)
starts_from-apply text starts piece start end from to h order within pf pt =
    let a = parted_starts text starts start from h (omega arith) pf in
    let b = parted_starts text starts end to h within pt in
    let len : length (take start text) ≡ start = length-take-le start text (omega arith) in
    let both = length-append (take start text) piece in
    starts_from-append 0 (take start text ++ piece) (drop end text)
    ∙ ap (λ ts. ts ++ starts_from (0 + length (take start text ++ piece)) (drop end text)) (starts_from-append 0 (take start text) piece ∙ ap (λ n. starts_from 0 (take start text) ++ starts_from n piece) (omega arith))
    ∙ ap (λ ts. (starts_from 0 (take start text) ++ starts_from start piece) ++ ts) (starts_from-moved end (0 + length (take start text ++ piece)) (end - start) (length piece) (drop end text) (omega arith) (omega arith))
    ∙ ap (λ ts. (ts ++ starts_from start piece) ++ map (λ n. n - (end - start) + length piece) (starts_from end (drop end text))) (sym a.0)
    ∙ ap (λ ts. (take from starts ++ starts_from start piece) ++ map (λ n. n - (end - start) + length piece) ts) (sym b.1)

-- The lines of a text are one more than its starts.
pub length-lines_from : (at : ℕ) (line bs : List ℕ) → length (lines_from line bs) ≡ length (starts_from at bs) + 1
length-lines_from at line [] = omega arith
length-lines_from at line (b ∷ bs) =
    subst (λ ls. length ls ≡ length (starts_from at (b ∷ bs)) + 1) (sym (lines_from-cons line b bs))
    (elim (eqb b line_feed)
    as (λ t. length (cond t (line ∷ lines_from [] bs) (lines_from (line ++ b ∷ []) bs)) ≡ length (cond t ((at + 1) ∷ starts_from (at + 1) bs) (starts_from (at + 1) bs)) + 1)
    [ true ↦ (let e = length-lines_from (at + 1) [] bs in omega arith) | false ↦ length-lines_from (at + 1) (line ++ b ∷ []) bs ])

-- The same of the starts that are kept.
pub HasStarts-lines : (text starts : List ℕ) → HasStarts text starts → length starts + 1 ≡ length (lines_of text)
HasStarts-lines text starts h = subst (λ ts. length ts + 1 ≡ length (lines_of text)) (sym h.starts_are) (sym (length-lines_from 0 [] text))

-- A list of starts after others were put in place of some of them: its front and the rest behind them.
pub parts_of_put : (starts fresh now : List ℕ) (from to behind : ℕ) → now ≡ take from starts ++ (fresh ++ drop to starts) → from ≤ length starts → behind ≡ from + length fresh → (take behind now ≡ take from starts ++ fresh) × (drop behind now ≡ drop to starts)
parts_of_put starts fresh now from to behind is le e =
    let front = take from starts ++ fresh in
    let joined : now ≡ front ++ drop to starts = is ∙ sym (append_assoc (take from starts) fresh (drop to starts)) in
    let taken = length-take-le from starts le in
    let len : length front ≡ behind = length-append (take from starts) fresh ∙ omega arith in
    (ap (take behind) joined ∙ take_at front (drop to starts) behind len, ap (drop behind) joined ∙ drop_at front (drop to starts) behind len)

-- The starts behind a place lie behind it, and within the text.
pub starts_behind : (text starts : List ℕ) (place i : ℕ) → HasStarts text starts → place ≤ length text → PartsAt starts place i → (k : ℕ) → k < length (drop i starts) → (place < get_or (drop i starts) k 0) × (get_or (drop i starts) k 0 ≤ length text)
starts_behind text starts place i h within p k lt =
    let is = (parted_starts text starts place i h within p).1 in
    subst (λ ts. k < length ts → (place < get_or ts k 0) × (get_or ts k 0 ≤ length text)) (sym is)
    (λ g. let b = starts_from-bounds place (drop place text) k 0 g in let n = length-drop place text in (omega arith, omega arith))
    lt

-- The length of an edited text.
pub length-apply : (text piece : List ℕ) (start end : ℕ) → start ≤ end → end ≤ length text → length (apply text start end piece) ≡ start + length piece + (length text - end)
length-apply text piece start end order within =
    let taken = length-take-le start text (omega arith) in
    let left = length-drop end text in
    length-append (take start text ++ piece) (drop end text) ∙ ap (λ n. n + length (drop end text)) (length-append (take start text) piece) ∙ omega arith

-- Once an edit's starts are put in place of those that it cuts, the others behind them can be moved as it asks.
pub movable_behind : (text starts piece fresh now : List ℕ) (start end from to behind : ℕ) → HasStarts text starts → start ≤ end → end ≤ length text → length (apply text start end piece) ≤ text_limit → PartsAt starts end to → from ≤ length starts → now ≡ take from starts ++ (fresh ++ drop to starts) → behind ≡ from + length fresh
    → AllBehind (end - start) (drop behind now) × AllMovable (end - start) (length piece) (drop behind now)
movable_behind text starts piece fresh now start end from to behind h order within room p le is e =
    let rest = (parts_of_put starts fresh now from to behind is le e).1 in
    let len = length-apply text piece start end order within in (
      subst (AllBehind (end - start)) (sym rest) (λ k lt. let b = starts_behind text starts end to h within p k lt in omega arith),
      subst (AllMovable (end - start) (length piece)) (sym rest) (λ k lt. let b = starts_behind text starts end to h within p k lt in omega arith),
    )
