-- What begins with a mark, or begins no token.
use Rattle.std.proofs.Common.{◌≡◌, ◌+◌, ◌≤◌, ◌<◌, ◌++◌, ◌∷◌, [], ℕ, List, true, false, take, drop, length, get_or, sym, subst, arith, refl, ap, ◌∙◌, length-take, inl, inr}
use Rattle.std.specs.Prelude.{if◌then◌else◌, ◌==◌, ◌⊎◌}
use Rattle.std.proofs.lemmas.List.{take-append-drop}
use Rattle.std.proofs.lemmas.Bool.{and_from, eqb-true, eqb-false}
use Rattle.token_model.specs.Kinds.{Kind, junk, outside, right_paren, right_bracket, right_brace, comma, semi, semi_semi, dot, colon, colon_colon, colon_equal}
use Rattle.token_model.specs.Bytes.{is_sign}
use Rattle.token_model.specs.Tokens.{IsUnclosed}
use Rattle.token_model.specs.Spellings.{Run, Spells, Mark, a_mark, a_hash, right_paren_mark, right_bracket_mark, right_brace_mark, comma_mark, semi_mark, semi_semi_mark, colon_mark, dot_mark, colon_colon_mark, colon_equal_mark, dots_sign, coercion_sign}
use Rattle.ml_lexer.specs.Scans.{Found, found, run_length, run_end, mark_found, colon_found, mark_or_stray, stray_found}
use Rattle.ml_lexer.proofs.Runs.{front_in_run, run_passes, run_le}
use Rattle.ml_lexer.proofs.Quoted.{first_known}
use Rattle.ml_lexer.proofs.Inside.{two_known}
use Rattle.ml_lexer.proofs.Classes.{Class, Of, PlainMark, paren_end, bracket_end, brace_end, a_comma, one_semi, two_semis, one_colon, two_colons, assign, coercion, one_dot, two_dots, mark_class}
use Rattle.ml_lexer.proofs.Spelled.{NoLonger, IsSpelled}

-- what a find is: a spelling, a character that begins no token, or what has no end
pub data FoundIs (c : Class) (bs : List ℕ) : Found → Type 0 where
  is_spelled : {f : Found} → IsSpelled c bs f → FoundIs c bs f
  is_stray : ((front behind : List ℕ) → bs ≡ front ++ behind → Of c front behind → ⊥) → FoundIs c bs (stray_found bs)
  is_unclosed : IsUnclosed bs → FoundIs c bs (found junk (length bs))

-- what is found is spelled there
pub record IsThere (bs : List ℕ) (f : Found) : Type 0 where
  pub spelled : List ℕ
  pub rest : List ℕ
  pub whole : bs ≡ spelled ++ rest
  pub size : f.size ≡ length spelled
  pub named : take f.name_size (drop f.name_start bs) ≡ spelled
  pub spells : Spells f.kind spelled spelled rest

pub there : (bs w rest : List ℕ) (k : Kind) (n : ℕ) → bs ≡ w ++ rest → n ≡ length w → Spells k w w rest → IsThere bs (found k n)
there bs w rest k n whole size spells = record {
  spelled = w;
  rest = rest;
  whole = whole;
  size = size;
  named = ap (λ (l : List ℕ). take n l) whole ∙ ap (λ k. take k (w ++ rest)) size ∙ front w rest;
  spells = spells;
}
  where
    front : (u v : List ℕ) → take (length u) (u ++ v) ≡ u
    front [] v = refl
    front (x ∷ xs) v = ap (λ (l : List ℕ). x ∷ l) (front xs v)

pub one : (bs : List ℕ) (b : ℕ) (k : Kind) → Mark k (b ∷ []) → 0 < b → (get_or bs 0 0 == b) ≡ true → IsThere bs (found k 1)
one bs b k mark some is = there bs (b ∷ []) (drop 1 bs) k 1 (first_known bs b (eqb-true (get_or bs 0 0) b is) some) refl (a_mark mark)

pub two : (bs : List ℕ) (b c : ℕ) (k : Kind) → Mark k (b ∷ c ∷ []) → 0 < b → 0 < c → (get_or bs 0 0 == b) ≡ true → (get_or bs 1 0 == c) ≡ true → IsThere bs (found k 2)
two bs b c k mark some more is then_is = there bs (b ∷ c ∷ []) (drop 2 bs) k 2 (two_known b c bs (and_from (get_or bs 0 0 == b) (get_or bs 1 0 == c) is then_is) some more) refl (a_mark mark)

mark_there : (bs : List ℕ) (b c : ℕ) (k d : Kind) → Mark k (b ∷ []) → Mark d (b ∷ c ∷ []) → 0 < b → 0 < c → (get_or bs 0 0 == b) ≡ true → IsThere bs (mark_found k c d bs)
mark_there bs b c k d single double some more is = elim (get_or bs 1 0 == c) as (λ t. (get_or bs 1 0 == c) ≡ t → IsThere bs (if t then found d 2 else found k 1)) [ true ↦ λ e. two bs b c d double some more is e | false ↦ λ e. one bs b k single some is ] refl

colon_there : (bs : List ℕ) → (get_or bs 0 0 == 58) ≡ true → IsThere bs (colon_found bs)
colon_there bs is =
    elim (get_or bs 1 0 == 58) as (λ t. (get_or bs 1 0 == 58) ≡ t → IsThere bs (if t then found colon_colon 2 else (if get_or bs 1 0 == 61 then found colon_equal 2 else (if get_or bs 1 0 == 62 then found outside 2 else found colon 1)))) [
      | true ↦ λ e. two bs 58 58 colon_colon colon_colon_mark (omega arith) (omega arith) is e
      | false ↦ λ e. elim (get_or bs 1 0 == 61) as (λ t. (get_or bs 1 0 == 61) ≡ t → IsThere bs (if t then found colon_equal 2 else (if get_or bs 1 0 == 62 then found outside 2 else found colon 1))) [
        | true ↦ λ e. two bs 58 61 colon_equal colon_equal_mark (omega arith) (omega arith) is e
        | false ↦ λ e. mark_there bs 58 62 colon outside colon_mark coercion_sign (omega arith) (omega arith) is
      ] refl
    ] refl

hash_there : (bs : List ℕ) → (get_or bs 0 0 == 35) ≡ true → IsThere bs (found outside (run_end is_sign 1 bs))
hash_there [] is = absurd (omega (arith, eqb-true 0 35 is))
hash_there (b ∷ bs) is =
    let n = run_length is_sign bs in
    there (b ∷ bs) (b ∷ take n bs) (drop n bs) outside (1 + n) (ap (λ (l : List ℕ). b ∷ l) (sym (take-append-drop n bs))) (omega (arith, run_le is_sign bs, length-take n bs)) (a_hash (is, run_passes is_sign bs))

abbrev pub size_of : Found → ℕ
size_of f = f.size

single_size : (k d : Kind) (c x : ℕ) → 1 ≤ size_of (if x == c then found d 2 else found k 1)
single_size k d c x = elim (x == c) as (λ t. 1 ≤ size_of (if t then found d 2 else found k 1)) [ true ↦ omega arith | false ↦ omega arith ]

colon_size : (x : ℕ) → 1 ≤ size_of (if x == 58 then found colon_colon 2 else (if x == 61 then found colon_equal 2 else (if x == 62 then found outside 2 else found colon 1)))
colon_size x = elim (x == 58) as (λ t. 1 ≤ size_of (if t then found colon_colon 2 else (if x == 61 then found colon_equal 2 else (if x == 62 then found outside 2 else found colon 1)))) [
  | true ↦ omega arith
  | false ↦ elim (x == 61) as (λ t. 1 ≤ size_of (if t then found colon_equal 2 else (if x == 62 then found outside 2 else found colon 1))) [ true ↦ omega arith | false ↦ single_size colon outside 62 x ]
]

-- a mark at the front is no longer than what is found
plain_longest : {front : List ℕ} (behind : List ℕ) → PlainMark front → length front ≤ (mark_or_stray (get_or (front ++ behind) 0 0) (front ++ behind)).size
unfolding mark_or_stray
plain_longest behind paren_end = omega arith
plain_longest behind bracket_end = omega arith
plain_longest behind brace_end = omega arith
plain_longest behind a_comma = omega arith
plain_longest behind one_semi = single_size semi semi_semi 59 (get_or behind 0 0)
plain_longest behind two_semis = omega arith
plain_longest behind one_colon = colon_size (get_or behind 0 0)
plain_longest behind two_colons = omega arith
plain_longest behind assign = omega arith
plain_longest behind coercion = omega arith
plain_longest behind one_dot = single_size dot outside 46 (get_or behind 0 0)
plain_longest behind two_dots = omega arith

hash_longest : (front behind : List ℕ) → Run (λ b. b == 35) is_sign front → length front ≤ (mark_or_stray (get_or (front ++ behind) 0 0) (front ++ behind)).size
unfolding mark_or_stray
hash_longest [] behind run = absurd run
hash_longest (b ∷ bs) behind run =
    let long : length (b ∷ bs) ≤ (mark_or_stray 35 (b ∷ bs ++ behind)).size = omega (arith, front_in_run is_sign bs behind run.1) in
    subst (λ x. length (b ∷ bs) ≤ (mark_or_stray x (b ∷ bs ++ behind)).size) (sym (eqb-true b 35 run.0)) long

mark_longest : (bs : List ℕ) → NoLonger mark_class bs (mark_or_stray (get_or bs 0 0) bs).size
mark_longest bs front behind whole of = subst (λ (l : List ℕ). length front ≤ (mark_or_stray (get_or l 0 0) l).size) (sym whole) (elim of [ inl m ↦ plain_longest behind m | inr r ↦ hash_longest front behind r ])

-- where none of these bytes stands, no mark does
none_there : {front : List ℕ} (bs behind : List ℕ) → bs ≡ front ++ behind → (get_or bs 0 0 == 41) ≡ false → (get_or bs 0 0 == 93) ≡ false → (get_or bs 0 0 == 125) ≡ false → (get_or bs 0 0 == 44) ≡ false → (get_or bs 0 0 == 59) ≡ false → (get_or bs 0 0 == 46) ≡ false → (get_or bs 0 0 == 58) ≡ false → PlainMark front → ⊥
none_there bs behind whole e1 e2 e3 e4 e5 e6 e7 paren_end = eqb-false (get_or bs 0 0) 41 e1 (ap (λ (l : List ℕ). get_or l 0 0) whole)
none_there bs behind whole e1 e2 e3 e4 e5 e6 e7 bracket_end = eqb-false (get_or bs 0 0) 93 e2 (ap (λ (l : List ℕ). get_or l 0 0) whole)
none_there bs behind whole e1 e2 e3 e4 e5 e6 e7 brace_end = eqb-false (get_or bs 0 0) 125 e3 (ap (λ (l : List ℕ). get_or l 0 0) whole)
none_there bs behind whole e1 e2 e3 e4 e5 e6 e7 a_comma = eqb-false (get_or bs 0 0) 44 e4 (ap (λ (l : List ℕ). get_or l 0 0) whole)
none_there bs behind whole e1 e2 e3 e4 e5 e6 e7 one_semi = eqb-false (get_or bs 0 0) 59 e5 (ap (λ (l : List ℕ). get_or l 0 0) whole)
none_there bs behind whole e1 e2 e3 e4 e5 e6 e7 two_semis = eqb-false (get_or bs 0 0) 59 e5 (ap (λ (l : List ℕ). get_or l 0 0) whole)
none_there bs behind whole e1 e2 e3 e4 e5 e6 e7 one_dot = eqb-false (get_or bs 0 0) 46 e6 (ap (λ (l : List ℕ). get_or l 0 0) whole)
none_there bs behind whole e1 e2 e3 e4 e5 e6 e7 two_dots = eqb-false (get_or bs 0 0) 46 e6 (ap (λ (l : List ℕ). get_or l 0 0) whole)
none_there bs behind whole e1 e2 e3 e4 e5 e6 e7 one_colon = eqb-false (get_or bs 0 0) 58 e7 (ap (λ (l : List ℕ). get_or l 0 0) whole)
none_there bs behind whole e1 e2 e3 e4 e5 e6 e7 two_colons = eqb-false (get_or bs 0 0) 58 e7 (ap (λ (l : List ℕ). get_or l 0 0) whole)
none_there bs behind whole e1 e2 e3 e4 e5 e6 e7 assign = eqb-false (get_or bs 0 0) 58 e7 (ap (λ (l : List ℕ). get_or l 0 0) whole)
none_there bs behind whole e1 e2 e3 e4 e5 e6 e7 coercion = eqb-false (get_or bs 0 0) 58 e7 (ap (λ (l : List ℕ). get_or l 0 0) whole)

no_hash : (bs front behind : List ℕ) → bs ≡ front ++ behind → (get_or bs 0 0 == 35) ≡ false → Run (λ b. b == 35) is_sign front → ⊥
no_hash bs [] behind whole other run = run
no_hash bs (b ∷ cs) behind whole other run = eqb-false (get_or bs 0 0) 35 other (ap (λ (l : List ℕ). get_or l 0 0) whole ∙ eqb-true b 35 run.0)

-- what is there, or that nothing is
abbrev Kept : List ℕ → Found → Type 0
Kept bs f = IsThere bs f ⊎ ((f ≡ stray_found bs) × ((front behind : List ℕ) → bs ≡ front ++ behind → Of mark_class front behind → ⊥))

-- the tests on the byte, from one on
abbrev from_hash : ℕ → List ℕ → Found
from_hash b bs = if b == 35 then found outside (run_end is_sign 1 bs) else stray_found bs

abbrev from_colon : ℕ → List ℕ → Found
from_colon b bs = if b == 58 then colon_found bs else from_hash b bs

abbrev from_dot : ℕ → List ℕ → Found
from_dot b bs = if b == 46 then mark_found dot 46 outside bs else from_colon b bs

abbrev from_semi : ℕ → List ℕ → Found
from_semi b bs = if b == 59 then mark_found semi 59 semi_semi bs else from_dot b bs

abbrev from_comma : ℕ → List ℕ → Found
from_comma b bs = if b == 44 then found comma 1 else from_semi b bs

abbrev from_brace : ℕ → List ℕ → Found
from_brace b bs = if b == 125 then found right_brace 1 else from_comma b bs

abbrev from_bracket : ℕ → List ℕ → Found
from_bracket b bs = if b == 93 then found right_bracket 1 else from_brace b bs

mark_kept : (bs : List ℕ) → Kept bs (mark_or_stray (get_or bs 0 0) bs)
unfolding mark_or_stray
mark_kept bs =
    let b = get_or bs 0 0 in
    elim (b == 41) as (λ t. (b == 41) ≡ t → Kept bs (if t then found right_paren 1 else from_bracket b bs)) [
      | true ↦ λ e. inl (one bs 41 right_paren right_paren_mark (omega arith) e)
      | false ↦ λ e1. elim (b == 93) as (λ t. (b == 93) ≡ t → Kept bs (if t then found right_bracket 1 else from_brace b bs)) [
        | true ↦ λ e. inl (one bs 93 right_bracket right_bracket_mark (omega arith) e)
        | false ↦ λ e2. elim (b == 125) as (λ t. (b == 125) ≡ t → Kept bs (if t then found right_brace 1 else from_comma b bs)) [
          | true ↦ λ e. inl (one bs 125 right_brace right_brace_mark (omega arith) e)
          | false ↦ λ e3. elim (b == 44) as (λ t. (b == 44) ≡ t → Kept bs (if t then found comma 1 else from_semi b bs)) [
            | true ↦ λ e. inl (one bs 44 comma comma_mark (omega arith) e)
            | false ↦ λ e4. elim (b == 59) as (λ t. (b == 59) ≡ t → Kept bs (if t then mark_found semi 59 semi_semi bs else from_dot b bs)) [
              | true ↦ λ e. inl (mark_there bs 59 59 semi semi_semi semi_mark semi_semi_mark (omega arith) (omega arith) e)
              | false ↦ λ e5. elim (b == 46) as (λ t. (b == 46) ≡ t → Kept bs (if t then mark_found dot 46 outside bs else from_colon b bs)) [
                | true ↦ λ e. inl (mark_there bs 46 46 dot outside dot_mark dots_sign (omega arith) (omega arith) e)
                | false ↦ λ e6. elim (b == 58) as (λ t. (b == 58) ≡ t → Kept bs (if t then colon_found bs else from_hash b bs)) [
                  | true ↦ λ e. inl (colon_there bs e)
                  | false ↦ λ e7. elim (b == 35) as (λ t. (b == 35) ≡ t → Kept bs (if t then found outside (run_end is_sign 1 bs) else stray_found bs)) [
                    | true ↦ λ e. inl (hash_there bs e)
                    | false ↦ λ e8. inr (refl, λ front behind whole of. elim of [ inl m ↦ none_there bs behind whole e1 e2 e3 e4 e5 e6 e7 m | inr r ↦ no_hash bs front behind whole e8 r ])
                  ] refl
                ] refl
              ] refl
            ] refl
          ] refl
        ] refl
      ] refl
    ] refl

pub mark_is : (bs : List ℕ) → FoundIs mark_class bs (mark_or_stray (get_or bs 0 0) bs)
mark_is bs = elim (mark_kept bs) [
  | inl t ↦ is_spelled (record { spelled = t.spelled; name = t.spelled; rest = t.rest; whole = t.whole; size = t.size; named = t.named; spells = t.spells; longest = mark_longest bs })
  | inr s ↦ subst (λ (f : Found). FoundIs mark_class bs f) (sym s.0) (is_stray s.1)
]
