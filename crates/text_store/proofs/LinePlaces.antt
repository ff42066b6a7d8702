-- What line starts say of the places in lines.
use Rattle.std.proofs.Common.{◌≡◌, ℕ, zero, suc, ◌+◌, ◌-◌, ◌<◌, ◌≤◌, true, false, cond, eqb, leb, ltb, List, [], ◌∷◌, ◌++◌, length, get_or, Option, Some, None, refl, sym, ◌∙◌, ap, subst, arith, length-append, ⊎_elim}
use Rattle.std.specs.Option.{option_map}
use Rattle.std.proofs.lemmas.List.{get_or_past}
use Rattle.std.proofs.lemmas.Bool.{cases_lt, cond_both, cond-true, cond-false, leb-true, leb-false, lt-ltb, le-ltb, le-leb, lt-leb}
use Rattle.text_model.specs.Lines.{line_feed, lines_of}
use Rattle.text_model.specs.Positions.{offset_in, offset}
use Rattle.text_model.proofs.Lines.{lines_from, lines_from-cons}
use Rattle.text_store.specs.Starts.{starts_from, HasStarts, PartsAt}

-- The place of a column in a line, where the first line starts at `first`, the later ones at `starts`, and the last one ends at `end`.
abbrev place_in : ℕ → List ℕ → ℕ → ℕ → ℕ → Option ℕ
place_in first [] end zero col = cond (leb (first + col) end) (Some (first + col)) None
place_in first [] end (suc below) col = None
place_in first (t ∷ ts) end zero col = cond (ltb (first + col) t) (Some (first + col)) None
place_in first (t ∷ ts) end (suc below) col = place_in t ts end below col

-- Moving a place twice is moving it once.
moved_twice : (a b c : ℕ) (o : Option ℕ) → c ≡ a + b → option_map (λ n. c + n) o ≡ option_map (λ n. a + n) (option_map (λ n. b + n) o)
moved_twice a b c None e = refl
moved_twice a b c (Some n) e = ap Some (omega arith)

-- A column of the first line lies before the line's end where it is at most its length.
first_place : (first col len : ℕ) (ls : List (List ℕ)) (l : List ℕ) → length l ≡ len → cond (leb (first + col) (first + len)) (Some (first + col)) None ≡ option_map (λ n. first + n) (offset_in (l ∷ ls) zero col)
first_place first col len ls l e =
    cond_both (leb col (length l)) (Some col) None (λ o. cond (leb (first + col) (first + len)) (Some (first + col)) None ≡ option_map (λ n. first + n) o)
    (λ h. let k = leb-true col (length l) h in cond-true (leb (first + col) (first + len)) (Some (first + col)) None (le-leb (first + col) (first + len) (omega arith)))
    (λ h. let k = leb-false col (length l) h in cond-false (leb (first + col) (first + len)) (Some (first + col)) None (lt-leb (first + col) (first + len) (omega arith)))

-- The same where the end is told by the next start.
first_place_before : (first col next : ℕ) (ls : List (List ℕ)) (l : List ℕ) → next ≡ first + length l + 1 → cond (ltb (first + col) next) (Some (first + col)) None ≡ option_map (λ n. first + n) (offset_in (l ∷ ls) zero col)
first_place_before first col next ls l e =
    cond_both (leb col (length l)) (Some col) None (λ o. cond (ltb (first + col) next) (Some (first + col)) None ≡ option_map (λ n. first + n) o)
    (λ h. let k = leb-true col (length l) h in cond-true (ltb (first + col) next) (Some (first + col)) None (lt-ltb (first + col) next (omega arith)))
    (λ h. let k = leb-false col (length l) h in cond-false (ltb (first + col) next) (Some (first + col)) None (le-ltb (first + col) next (omega arith)))

-- Starts tell the same places as lines.
place_in-offset_in : (first at end : ℕ) (line bs : List ℕ) (below col : ℕ) → at ≡ first + length line → end ≡ at + length bs → place_in first (starts_from at bs) end below col ≡ option_map (λ n. first + n) (offset_in (lines_from line bs) below col)
place_in-offset_in first at end line [] zero col e f =
    subst (λ z. cond (leb (first + col) z) (Some (first + col)) None ≡ option_map (λ n. first + n) (offset_in (line ∷ []) zero col)) (omega arith) (first_place first col (length line) [] line refl)
place_in-offset_in first at end line [] (suc below) col e f = refl
place_in-offset_in first at end line (b ∷ bs) below col e f =
    let grown : at + 1 ≡ first + length (line ++ b ∷ []) = omega (arith, length-append line (b ∷ [])) in
    let rest : end ≡ at + 1 + length bs = omega arith in
    subst (λ ls. place_in first (starts_from at (b ∷ bs)) end below col ≡ option_map (λ n. first + n) (offset_in ls below col)) (sym (lines_from-cons line b bs))
    (elim (eqb b line_feed)
    as (λ t. place_in first (cond t ((at + 1) ∷ starts_from (at + 1) bs) (starts_from (at + 1) bs)) end below col ≡ option_map (λ n. first + n) (offset_in (cond t (line ∷ lines_from [] bs) (lines_from (line ++ b ∷ []) bs)) below col)) [
      | true ↦
          elim below as (λ i. place_in first ((at + 1) ∷ starts_from (at + 1) bs) end i col ≡ option_map (λ n. first + n) (offset_in (line ∷ lines_from [] bs) i col)) [
            | zero ↦ first_place_before first col (at + 1) (lines_from [] bs) line (omega arith)
            | suc i ↦ place_in-offset_in (at + 1) (at + 1) end [] bs i col (omega arith) rest ∙ moved_twice first (length line + 1) (at + 1) (offset_in (lines_from [] bs) i col) (omega arith)
          ]
      | false ↦ place_in-offset_in first (at + 1) end (line ++ b ∷ []) bs below col grown rest
    ])

-- A place before the next start, or before the place behind the end, is the line's.
place_in-some : (first : ℕ) (ts : List ℕ) (end below col : ℕ) → below ≤ length ts → get_or (first ∷ ts) below 0 + col < get_or ts below (end + 1) → place_in first ts end below col ≡ Some (get_or (first ∷ ts) below 0 + col)
place_in-some first [] end zero col le lt = cond-true (leb (first + col) end) (Some (first + col)) None (le-leb (first + col) end (omega arith))
place_in-some first [] end (suc below) col le lt = absurd (omega arith)
place_in-some first (t ∷ ts) end zero col le lt = cond-true (ltb (first + col) t) (Some (first + col)) None (lt-ltb (first + col) t lt)
place_in-some first (t ∷ ts) end (suc below) col le lt = place_in-some t ts end below col (omega arith) lt

-- A place from the next start on, or past the end, is none of the line's.
place_in-none : (first : ℕ) (ts : List ℕ) (end below col : ℕ) → get_or ts below (end + 1) ≤ get_or (first ∷ ts) below 0 + col → place_in first ts end below col ≡ None
place_in-none first [] end zero col le = cond-false (leb (first + col) end) (Some (first + col)) None (lt-leb (first + col) end (omega arith))
place_in-none first [] end (suc below) col le = refl
place_in-none first (t ∷ ts) end zero col le = cond-false (ltb (first + col) t) (Some (first + col)) None (le-ltb (first + col) t le)
place_in-none first (t ∷ ts) end (suc below) col le = place_in-none t ts end below col le

-- There is no line past the last start.
place_in-past : (first : ℕ) (ts : List ℕ) (end below col : ℕ) → length ts < below → place_in first ts end below col ≡ None
place_in-past first [] end zero col lt = absurd (omega arith)
place_in-past first [] end (suc below) col lt = refl
place_in-past first (t ∷ ts) end zero col lt = absurd (omega arith)
place_in-past first (t ∷ ts) end (suc below) col lt = place_in-past t ts end below col (omega arith)

-- The offset of a position is the place that the starts tell.
offset-place_in : (text : List ℕ) (line below col : ℕ) → line ≡ below + 1 → offset text line col ≡ place_in 0 (starts_from 0 text) (length text) below col
unfolding offset
offset-place_in text line below col e =
    let same : (o : Option ℕ) → option_map (λ n. 0 + n) o ≡ o = λ o. elim o as (λ p. option_map (λ n. 0 + n) p ≡ p) [ None ↦ refl | Some n ↦ ap Some (omega arith) ] in
    let line_is : line ≡ suc below = omega arith in
    subst (λ k. offset text k col ≡ place_in 0 (starts_from 0 text) (length text) below col) (sym line_is)
    (sym (place_in-offset_in 0 0 (length text) [] text below col (omega arith) (omega arith) ∙ same (offset_in (lines_of text) below col)))

-- A position has the offset that lies its column behind its line's start, where that is before the next line.
pub offset-some : (text starts : List ℕ) (line below col : ℕ) → HasStarts text starts → line ≡ below + 1 → below ≤ length starts → get_or (0 ∷ starts) below 0 + col < get_or starts below (length text + 1) → offset text line col ≡ Some (get_or (0 ∷ starts) below 0 + col)
offset-some text starts line below col h e le lt =
    subst (λ ts. below ≤ length ts → get_or (0 ∷ ts) below 0 + col < get_or ts below (length text + 1) → offset text line col ≡ Some (get_or (0 ∷ ts) below 0 + col)) (sym h.starts_are)
    (λ l k. offset-place_in text line below col e ∙ place_in-some 0 (starts_from 0 text) (length text) below col l k)
    le lt

-- A position has no offset where its column goes past its line.
pub offset-none : (text starts : List ℕ) (line below col : ℕ) → HasStarts text starts → line ≡ below + 1 → get_or starts below (length text + 1) ≤ get_or (0 ∷ starts) below 0 + col → offset text line col ≡ None
offset-none text starts line below col h e le =
    subst (λ ts. get_or ts below (length text + 1) ≤ get_or (0 ∷ ts) below 0 + col → offset text line col ≡ None) (sym h.starts_are)
    (λ k. offset-place_in text line below col e ∙ place_in-none 0 (starts_from 0 text) (length text) below col k)
    le

-- A position has no offset where its line is past the last.
pub offset-past : (text starts : List ℕ) (line below col : ℕ) → HasStarts text starts → line ≡ below + 1 → length starts < below → offset text line col ≡ None
offset-past text starts line below col h e lt =
    subst (λ ts. length ts < below → offset text line col ≡ None) (sym h.starts_are)
    (λ k. offset-place_in text line below col e ∙ place_in-past 0 (starts_from 0 text) (length text) below col k)
    lt

-- Lines count from 1.
pub offset-line_zero : (text : List ℕ) (line col : ℕ) → line ≡ 0 → offset text line col ≡ None
unfolding offset
offset-line_zero text line col e = subst (λ k. offset text k col ≡ None) (sym e) refl

-- The last start up to a place, where those before a number of starts are.
start_le : (starts : List ℕ) (place below : ℕ) → ((k d : ℕ) → 0 ≤ k → k < below → get_or starts k d ≤ place) → get_or (0 ∷ starts) below 0 ≤ place
start_le starts place zero low = omega arith
start_le starts place (suc k) low = low k 0 (omega arith) (omega arith)

-- The next start is behind a place, where those from a number of starts on are, and the end is.
next_lt : (starts : List ℕ) (place below end : ℕ) → place < end → ((k d : ℕ) → below ≤ k → k < length starts → place < get_or starts k d) → place < get_or starts below end
next_lt starts place below end lt high =
    ⊎_elim (λ g. high below end (omega arith) g) (λ g. let past = get_or_past starts below end g in omega arith) (cases_lt below (length starts))

-- The line whose start is the last up to a place has the place in the column that lies behind its start.
pub offset-back : (text starts : List ℕ) (place below : ℕ) → HasStarts text starts → place ≤ length text → PartsAt starts place below → offset text (below + 1) (place - get_or (0 ∷ starts) below 0) ≡ Some place
offset-back text starts place below h within p =
    let first : get_or (0 ∷ starts) below 0 ≤ place = start_le starts place below p.parts.0 in
    let next : place < get_or starts below (length text + 1) = next_lt starts place below (length text + 1) (omega arith) p.parts.1 in
    offset-some text starts (below + 1) below (place - get_or (0 ∷ starts) below 0) h refl p.bound (omega arith) ∙ ap Some (omega arith)
