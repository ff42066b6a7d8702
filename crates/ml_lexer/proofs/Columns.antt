-- The columns of places.
use Rattle.std.proofs.Common.{◌≡◌, ◌+◌, ◌-◌, ◌<◌, ◌≤◌, ◌==◌, ◌++◌, ◌∷◌, [], ℕ, suc, List, take, drop, length, get_or, Bool, true, false, refl, sym, ◌∙◌, ap, arith, length-take, if◌then◌else◌}
use Rattle.std.proofs.Math.Seq.{take-add}
use Rattle.std.proofs.lemmas.List.{drop_more}
use Rattle.token_model.specs.Tokens.{column_from, column}
use Rattle.ml_lexer.proofs.Agree.{agree_less}

-- bytes behind others
from_append : (n : ℕ) (xs ys : List ℕ) → column_from n (xs ++ ys) ≡ column_from (column_from n xs) ys
from_append n [] ys = refl
from_append n (x ∷ xs) ys = by (x == 10) (from_append 0 xs ys) (from_append (n + 1) xs ys)
  where
    by : (b : Bool) → column_from 0 (xs ++ ys) ≡ column_from (column_from 0 xs) ys → column_from (n + 1) (xs ++ ys) ≡ column_from (column_from (n + 1) xs) ys
        → (if b then column_from 0 (xs ++ ys) else column_from (n + 1) (xs ++ ys)) ≡ column_from (if b then column_from 0 xs else column_from (n + 1) xs) ys
    by true g h = g
    by false g h = h

-- the column of a place, by that of an earlier one
pub column_on : (text : List ℕ) (at i : ℕ) → column text (at + i) ≡ column_from (column text at) (take i (drop at text))
unfolding column
column_on text at i = ap (column_from 0) (take-add at i text) ∙ from_append 0 (take at text) (take i (drop at text))

-- the column of the place so many bytes on
pub column_next : (text : List ℕ) (at i place c d : ℕ) → c ≡ column text at → d ≡ column_from c (take i (drop at text)) → place ≡ at + i → d ≡ column text place
column_next text at i place c d e f is = f ∙ ap (λ c. column_from c (take i (drop at text))) e ∙ sym (column_on text at i) ∙ ap (column text) (sym is)

-- the first column
pub column_start : (text : List ℕ) → 0 ≡ column text 0
unfolding column
column_start text = refl

-- the column of a place, from the front
pub column_front : (text : List ℕ) (at c : ℕ) → c ≡ column_from 0 (take at (drop 0 text)) → c ≡ column text at
unfolding column
column_front text at c e = e

-- texts with the same bytes before a place have the same columns up to it
pub column_same : (r s : ℕ) (text other : List ℕ) → s ≤ r → take r text ≡ take r other → column text s ≡ column other s
unfolding column
column_same r s text other le e = ap (column_from 0) (agree_less r s text other le e)

-- no place has a greater column than itself
from_small : (n : ℕ) (bs : List ℕ) → column_from n bs ≤ n + length bs
from_small n [] = omega arith
from_small n (b ∷ bs) = by (b == 10) (from_small 0 bs) (from_small (n + 1) bs)
  where
    by : (c : Bool) → column_from 0 bs ≤ 0 + length bs → column_from (n + 1) bs ≤ n + 1 + length bs → (if c then column_from 0 bs else column_from (n + 1) bs) ≤ n + length (b ∷ bs)
    by true g h = omega arith
    by false g h = omega arith

pub column_small : (text : List ℕ) (at c : ℕ) → c ≡ column text at → at ≤ length text → c ≤ at
unfolding column
column_small text at c e le = let h = from_small 0 (take at text) in omega (arith, e, length-take at text)

-- one byte more
take_next : (w : List ℕ) (i by : ℕ) → i < by → i < length w → take (by - i) (drop i w) ≡ get_or w i 0 ∷ take (by - (i + 1)) (drop (i + 1) w)
take_next w i by lt inside =
    let n : by - i ≡ suc (by - (i + 1)) = omega arith in
    ap (λ n. take n (drop i w)) n ∙ ap (take (suc (by - (i + 1)))) (drop_more w i 0 inside)

pub column_feed : (w : List ℕ) (i by n : ℕ) → i < by → i < length w → (get_or w i 0 == 10) ≡ true → column_from n (take (by - i) (drop i w)) ≡ column_from 0 (take (by - (i + 1)) (drop (i + 1) w))
column_feed w i by n lt inside e =
    let rest = take (by - (i + 1)) (drop (i + 1) w) in
    ap (column_from n) (take_next w i by lt inside) ∙ ap (λ b. if b then column_from 0 rest else column_from (n + 1) rest) e

pub column_other : (w : List ℕ) (i by n : ℕ) → i < by → i < length w → (get_or w i 0 == 10) ≡ false → column_from n (take (by - i) (drop i w)) ≡ column_from (n + 1) (take (by - (i + 1)) (drop (i + 1) w))
column_other w i by n lt inside e =
    let rest = take (by - (i + 1)) (drop (i + 1) w) in
    ap (column_from n) (take_next w i by lt inside) ∙ ap (λ b. if b then column_from 0 rest else column_from (n + 1) rest) e

-- one byte more, which is a line feed or not
pub column_step : (w : List ℕ) (i by n b d : ℕ) → i < by → i < length w → b ≡ get_or w i 0 → d ≡ (if b == 10 then 0 else n + 1) → column_from n (take (by - i) (drop i w)) ≡ column_from d (take (by - (i + 1)) (drop (i + 1) w))
column_step w i by n b d lt inside is next = by_feed (get_or w i 0 == 10) refl
  where
    rest : List ℕ
    rest = take (by - (i + 1)) (drop (i + 1) w)

    same : d ≡ (if get_or w i 0 == 10 then 0 else n + 1)
    same = next ∙ ap (λ b. if b == 10 then 0 else n + 1) is

    by_feed : (x : Bool) → (get_or w i 0 == 10) ≡ x → column_from n (take (by - i) (drop i w)) ≡ column_from d rest
    by_feed true e = column_feed w i by n lt inside e ∙ ap (λ d. column_from d rest) (sym (same ∙ ap (λ x. if x then 0 else n + 1) e))
    by_feed false e = column_other w i by n lt inside e ∙ ap (λ d. column_from d rest) (sym (same ∙ ap (λ x. if x then 0 else n + 1) e))

-- the column behind a byte is at most one more
pub step_small : (b n d : ℕ) → d ≡ (if b == 10 then 0 else n + 1) → d ≤ n + 1
step_small b n d e = by (b == 10) e
  where
    by : (x : Bool) → d ≡ (if x then 0 else n + 1) → d ≤ n + 1
    by true e = omega arith
    by false e = omega arith
