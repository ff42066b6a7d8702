-- Quoted strings and character literals: where a scan finds one, it is spelled, and the other way round.
use Rattle.std.proofs.Common.{◌≡◌, ◌+◌, ◌-◌, ◌<◌, ◌++◌, ◌∷◌, [], ℕ, zero, suc, List, true, take, drop, length, get_or, sym, subst, arith, refl, ap, ◌∙◌, append_assoc, Some, length-append}
use Rattle.std.specs.List.{list_all}
use Rattle.std.proofs.Math.Seq.{take-append_seam, get_or-append_seam}
use Rattle.std.proofs.lemmas.Bool.{eqb-true, eq-eqb}
use Rattle.token_model.specs.Bytes.{is_lower}
use Rattle.token_model.specs.Comments.{OpensQuoted, opens}
use Rattle.token_model.specs.Spellings.{closing, IsQuoted}
use Rattle.ml_lexer.specs.Scans.{run_length, run_end, word_end, quoted_id, opens_quoted, quoted_end}
use Rattle.ml_lexer.proofs.Runs.{run_exact, run_passes}
use Rattle.ml_lexer.proofs.Literals.{word_end_is, word_end_found}

-- the end of the id of what opens a quoted string
id_ends : (id bs : List ℕ) → list_all is_lower id ≡ true → run_end is_lower 1 (123 ∷ id ++ 124 ∷ bs) ≡ suc (length id)
id_ends id bs all = omega (arith, run_exact is_lower id (124 ∷ bs) all refl)

drop-append_add : (id : List ℕ) (b : ℕ) (bs : List ℕ) → drop (suc (length id)) (id ++ b ∷ bs) ≡ bs
drop-append_add [] b bs = refl
drop-append_add (c ∷ cs) b bs = drop-append_add cs b bs

pub opens_is : (bs : List ℕ) → OpensQuoted bs → (get_or bs 0 0 ≡ 123) × (opens_quoted bs ≡ true)
opens_is bs (opens id rest all) = (refl, eq-eqb (get_or (123 ∷ id ++ 124 ∷ rest) (run_end is_lower 1 (123 ∷ id ++ 124 ∷ rest)) 0) 124 (ap (λ n. get_or (123 ∷ id ++ 124 ∷ rest) n 0) (id_ends id rest all) ∙ get_or-append_seam id 124 rest 0))

-- a list is one byte and the rest, where its first byte is known
pub first_known : (bs : List ℕ) (b : ℕ) → get_or bs 0 0 ≡ b → 0 < b → bs ≡ b ∷ drop 1 bs
first_known [] b is some = absurd (omega (arith, is))
first_known (c ∷ cs) b is some = ap (λ x. x ∷ cs) is

-- the byte at a place is known: what stands before, and what behind
pub split_at : (bs : List ℕ) (n b : ℕ) → get_or bs n 0 ≡ b → 0 < b → bs ≡ take n bs ++ b ∷ drop (suc n) bs
split_at [] n b is some = absurd (omega (arith, is))
split_at (c ∷ cs) zero b is some = ap (λ x. x ∷ cs) is
split_at (c ∷ cs) (suc n) b is some = ap (λ (l : List ℕ). c ∷ l) (split_at cs n b is some)

-- where `{` opens a quoted string, an id and a bar stand behind it
pub opens_split : (bs : List ℕ) → get_or bs 0 0 ≡ 123 → opens_quoted bs ≡ true → (bs ≡ 123 ∷ quoted_id bs ++ 124 ∷ drop (run_end is_lower 1 bs + 1) bs) × (list_all is_lower (quoted_id bs) ≡ true)
opens_split [] is opened = absurd (omega (arith, is))
opens_split (c ∷ cs) is opened =
    let n = run_length is_lower cs in
    let end : 1 + n ≡ suc n = omega arith in
    let size : 1 + n - 1 ≡ n = omega arith in
    let bar : get_or cs n 0 ≡ 124 = sym (ap (λ k. get_or (c ∷ cs) k 0) end) ∙ eqb-true (get_or (c ∷ cs) (1 + n) 0) 124 opened in
    let place : 1 + n + 1 ≡ suc (suc n) = omega arith in
    let tail : drop (suc n) cs ≡ drop (1 + n + 1) (c ∷ cs) = ap (λ k. drop k (c ∷ cs)) (sym place) in
    let front : take n cs ≡ take (1 + n - 1) cs = ap (λ k. take k cs) (sym size) in (
      ap (λ x. x ∷ cs) is ∙ ap (λ (l : List ℕ). 123 ∷ l) (split_at cs n 124 bar (omega arith) ∙ ap (λ (l : List ℕ). l ++ 124 ∷ drop (suc n) cs) front ∙ ap (λ (l : List ℕ). take (1 + n - 1) cs ++ 124 ∷ l) tail),
      sym (ap (λ (l : List ℕ). list_all is_lower l) front) ∙ run_passes is_lower cs,
    )

pub opens_from : (bs : List ℕ) → get_or bs 0 0 ≡ 123 → opens_quoted bs ≡ true → OpensQuoted bs
opens_from bs is opened = let split = opens_split bs is opened in subst (λ (l : List ℕ). OpensQuoted l) (sym split.0) (opens (quoted_id bs) (drop (run_end is_lower 1 bs + 1) bs) split.1)

-- `{id|` and what stands behind it
abbrev opened_by : List ℕ → List ℕ → List ℕ
opened_by id tail = 123 ∷ id ++ 124 ∷ tail

-- the parts of a quoted string in one order
quoted_order : (id body rest : List ℕ) → (opened_by id body ++ closing id) ++ rest ≡ opened_by id ((body ++ closing id) ++ rest)
quoted_order id body rest = ap (λ (l : List ℕ). l ++ rest) (append_assoc (123 ∷ id) (124 ∷ body) (closing id)) ∙ append_assoc (123 ∷ id) (124 ∷ (body ++ closing id)) rest

length-quoted : (id body : List ℕ) → length (opened_by id body ++ closing id) ≡ suc (length id) + 1 + length body + length (closing id)
length-quoted id body = omega (arith, length-append (opened_by id body) (closing id), length-append (123 ∷ id) (124 ∷ body))

-- a quoted string is found
pub quoted_is : (w rest : List ℕ) → IsQuoted w → (get_or (w ++ rest) 0 0 ≡ 123) × (opens_quoted (w ++ rest) ≡ true) × (quoted_end (w ++ rest) ≡ Some (length w))
quoted_is w rest is =
    let id = is.id in
    let body = is.body in
    let tail = (body ++ closing id) ++ rest in
    let bs = opened_by id tail in
    let whole : w ++ rest ≡ bs = ap (λ (l : List ℕ). l ++ rest) is.whole ∙ quoted_order id body rest in
    let opened = opens_is bs (opens id tail is.name) in
    let end = id_ends id tail is.name in
    let size : suc (length id) - 1 ≡ length id = omega arith in
    let next : suc (length id) + 1 ≡ suc (suc (length id)) = omega arith in
    let id_is : quoted_id bs ≡ id = ap (λ k. take (k - 1) (drop 1 bs)) end ∙ ap (λ k. take k (id ++ 124 ∷ tail)) size ∙ take-append_seam id (124 ∷ tail) in
    let behind_is : drop (suc (length id) + 1) bs ≡ tail = ap (λ k. drop k bs) next ∙ drop-append_add id 124 tail in
    let found : quoted_end bs ≡ Some (suc (length id) + 1 + length body + length (closing id)) =
    ap (λ (l : List ℕ). word_end (closing l) (run_end is_lower 1 bs + 1) (drop (run_end is_lower 1 bs + 1) bs)) id_is
    ∙ ap (λ k. word_end (closing id) (k + 1) (drop (k + 1) bs)) end
    ∙ ap (λ (l : List ℕ). word_end (closing id) (suc (length id) + 1) l) behind_is
    ∙ word_end_is (closing id) body rest (suc (length id) + 1) (omega arith) is.first in
    let long : length w ≡ suc (length id) + 1 + length body + length (closing id) = ap length is.whole ∙ length-quoted id body in
    (ap (λ (l : List ℕ). get_or l 0 0) whole, ap opens_quoted whole ∙ opened.1, ap quoted_end whole ∙ found ∙ ap (λ (n : ℕ). Some n) (sym long))

-- what is found is a quoted string
pub quoted_found : (bs : List ℕ) (n : ℕ) → get_or bs 0 0 ≡ 123 → opens_quoted bs ≡ true → quoted_end bs ≡ Some n → (w : List ℕ) × (rest : List ℕ) × (bs ≡ w ++ rest) × (IsQuoted w) × (n ≡ length w)
quoted_found bs n is opened some =
    let id = quoted_id bs in
    let split = opens_split bs is opened in
    let found = word_end_found (closing id) (run_end is_lower 1 bs + 1) n (drop (run_end is_lower 1 bs + 1) bs) some in
    let w = opened_by id found.0 ++ closing id in
    let size : run_end is_lower 1 bs ≡ suc (length id) = ap (run_end is_lower 1) split.0 ∙ id_ends id (drop (run_end is_lower 1 bs + 1) bs) split.1 in
    let whole : bs ≡ w ++ found.1 = split.0 ∙ ap (λ (l : List ℕ). opened_by id l) found.2 ∙ sym (quoted_order id found.0 found.1) in
    (w, found.1, whole, record { id = id; body = found.0; name = split.1; whole = refl; first = found.3 }, omega (arith, found.4, size, length-quoted id found.0))
