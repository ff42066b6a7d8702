-- How far operators and marks are looked at.
use Rattle.std.proofs.Common.{◌≡◌, ◌+◌, ◌≤◌, ℕ, List, true, false, take, get_or, sym, subst, ap, ◌∙◌, arith, refl, inl, inr}
use Rattle.std.specs.Prelude.{if◌then◌else◌, ◌==◌, ◌&&◌, ◌||◌}
use Rattle.std.proofs.lemmas.Bool.{eqb-true, cases_Bool}
use Rattle.token_model.specs.Kinds.{outside, junk, semi, semi_semi, dot, colon, colon_colon, colon_equal}
use Rattle.token_model.specs.Bytes.{is_sign, continues}
use Rattle.token_model.specs.Words.{sign_kind}
use Rattle.ml_lexer.specs.Scans.{Found, found, run_end, is_closing_sign, sign_found, stray_found, mark_or_stray}
use Rattle.ml_lexer.specs.Reaches.{sign_reach, mark_reach}
use Rattle.ml_lexer.proofs.Agree.{agree_less, agree_get, agree_end, Keeps, Steady, steady_if}
use Rattle.ml_lexer.proofs.SteadyTicks.{first_passes}

-- a sign that closes a bracket is looked at with its two bytes
closing_keeps : (r : ℕ) (bs : List ℕ) → 2 ≤ r → Keeps is_closing_sign r bs
closing_keeps r bs h cs e =
    ap (λ b. b == 124 && get_or cs 1 0 == 93 || b == 62 && (get_or cs 1 0 == 93 || get_or cs 1 0 == 125)) (agree_get r 0 bs cs (omega arith) e)
    ∙ ap (λ b. get_or bs 0 0 == 124 && b == 93 || get_or bs 0 0 == 62 && (b == 93 || b == 125)) (agree_get r 1 bs cs (omega arith) e)

-- what begins with a sign
pub sign_steady : (bs : List ℕ) → is_sign (get_or bs 0 0) ≡ true → Steady sign_found sign_reach bs
unfolding sign_found sign_reach
sign_steady bs first =
    let some = first_passes is_sign bs refl first in
    steady_if is_closing_sign (λ _. found outside 2) (λ l. found (sign_kind (take (run_end is_sign 0 l) l)) (run_end is_sign 0 l)) (λ _. 2) (λ l. run_end is_sign 0 l + 1) bs
    (λ _. closing_keeps 2 bs (omega arith))
    (λ _. closing_keeps (run_end is_sign 0 bs + 1) bs (omega (arith, some)))
    (λ _. λ cs e. (refl, refl))
    (λ _. λ cs e.
    let n = run_end is_sign 0 bs in
    let same = agree_end is_sign 0 (n + 1) bs cs e (omega arith) in
    let word : take n cs ≡ take n bs = sym (agree_less (n + 1) n bs cs (omega arith) e) in
    (ap (λ k. found (sign_kind (take k cs)) k) same ∙ ap (λ (w : List ℕ). found (sign_kind w) n) word, ap (λ k. k + 1) same))

-- a mark of one byte, or of two
second_steady : (F : ℕ → Found) (bs : List ℕ) → Steady (λ l. F (get_or l 1 0)) (λ _. 2) bs
second_steady F bs cs e = (ap F (agree_get 2 1 bs cs (omega arith) e), refl)

-- `#` with the signs behind it
hash_steady : (bs : List ℕ) → Steady (λ l. found outside (run_end is_sign 1 l)) (λ l. run_end is_sign 1 l + 1) bs
hash_steady bs cs e = let same = agree_end is_sign 1 (run_end is_sign 1 bs + 1) bs cs e (omega arith) in (ap (λ k. found outside k) same, ap (λ k. k + 1) same)

-- one character
stray_steady : (bs : List ℕ) → Steady stray_found (λ l. run_end continues 1 l + 1) bs
stray_steady bs cs e = let same = agree_end continues 1 (run_end continues 1 bs + 1) bs cs e (omega arith) in (ap (λ k. found junk k) same, ap (λ k. k + 1) same)

-- what holds of each byte that begins a mark, and of a byte that begins none
pub by_mark : (P : ℕ → Type 0) (b : ℕ) → P 41 × P 93 × P 125 × P 44 → P 59 × P 46 × P 58 × P 35
    → ((b == 41) ≡ false → (b == 93) ≡ false → (b == 125) ≡ false → (b == 44) ≡ false → (b == 59) ≡ false → (b == 46) ≡ false → (b == 58) ≡ false → (b == 35) ≡ false → P b) → P b
by_mark P b ones twos none = elim (cases_Bool (b == 41)) [
  | inl e ↦ at_byte 41 e ones.0
  | inr e1 ↦ elim (cases_Bool (b == 93)) [
    | inl e ↦ at_byte 93 e ones.1
    | inr e2 ↦ elim (cases_Bool (b == 125)) [
      | inl e ↦ at_byte 125 e ones.2
      | inr e3 ↦ elim (cases_Bool (b == 44)) [
        | inl e ↦ at_byte 44 e ones.3
        | inr e4 ↦ elim (cases_Bool (b == 59)) [
          | inl e ↦ at_byte 59 e twos.0
          | inr e5 ↦ elim (cases_Bool (b == 46)) [
            | inl e ↦ at_byte 46 e twos.1
            | inr e6 ↦ elim (cases_Bool (b == 58)) [
              | inl e ↦ at_byte 58 e twos.2
              | inr e7 ↦ elim (cases_Bool (b == 35)) [ inl e ↦ at_byte 35 e twos.3 | inr e8 ↦ none e1 e2 e3 e4 e5 e6 e7 e8 ]
            ]
          ]
        ]
      ]
    ]
  ]
]
  where
    at_byte : (c : ℕ) → (b == c) ≡ true → P c → P b
    at_byte c is p = subst P (sym (eqb-true b c is)) p

-- the byte that a mark begins with
abbrev MarkSteady : ℕ → List ℕ → Type 0
MarkSteady b bs = Steady (mark_or_stray b) (mark_reach b) bs

-- marks of one byte
known_one : (bs : List ℕ) → MarkSteady 41 bs × MarkSteady 93 bs × MarkSteady 125 bs × MarkSteady 44 bs
unfolding mark_or_stray mark_reach
known_one bs = (λ cs e. (refl, refl), λ cs e. (refl, refl), λ cs e. (refl, refl), λ cs e. (refl, refl))

-- marks of one byte or two, and `#`
known_two : (bs : List ℕ) → MarkSteady 59 bs × MarkSteady 46 bs × MarkSteady 58 bs × MarkSteady 35 bs
unfolding mark_or_stray mark_reach
known_two bs = (
  second_steady (λ b. if b == 59 then found semi_semi 2 else found semi 1) bs,
  second_steady (λ b. if b == 46 then found outside 2 else found dot 1) bs,
  second_steady (λ b. if b == 58 then found colon_colon 2 else (if b == 61 then found colon_equal 2 else (if b == 62 then found outside 2 else found colon 1))) bs,
  hash_steady bs,
)

-- where no mark stands, one character does
none_of : (b : ℕ) (bs : List ℕ) → (b == 41) ≡ false → (b == 93) ≡ false → (b == 125) ≡ false → (b == 44) ≡ false → (b == 59) ≡ false → (b == 46) ≡ false → (b == 58) ≡ false → (b == 35) ≡ false → MarkSteady b bs
unfolding mark_or_stray mark_reach
none_of b bs e1 e2 e3 e4 e5 e6 e7 e8 = simp (e1, e2, e3, e4, e5, e6, e7, e8) (stray_steady bs)

-- what begins with any of these bytes
pub mark_steady : (b : ℕ) (bs : List ℕ) → Steady (mark_or_stray b) (mark_reach b) bs
mark_steady b bs = by_mark (λ x. MarkSteady x bs) b (known_one bs) (known_two bs) (none_of b bs)
