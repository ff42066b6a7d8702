-- How far what begins with `[` or `(` is looked at.
use Rattle.std.proofs.Common.{◌≡◌, ◌+◌, ◌-◌, ◌≤◌, ◌<◌, ℕ, List, Bool, true, false, take, drop, get_or, sym, ap, ◌∙◌, arith, refl, Option, Some, None}
use Rattle.std.specs.Prelude.{if◌then◌else◌, ◌==◌, ◌&&◌, ◌||◌}
use Rattle.std.proofs.lemmas.Bool.{and_parts}
use Rattle.std.proofs.lemmas.Bool.Decides.{nat_tests}
use Rattle.token_model.specs.Kinds.{Kind, outside, nil, left_bracket, unit, op_name, left_paren, colon_equal}
use Rattle.token_model.specs.Bytes.{is_blank, is_lower, is_sign, goes_on, begins_operator}
use Rattle.token_model.specs.Words.{word_kind, sign_kind}
use Rattle.ml_lexer.specs.Scans.{Found, found, run_end, bracket_found, operator_end, is_operator_kind, op_name_found, paren_found}
use Rattle.ml_lexer.specs.Reaches.{bracket_reach, operator_reach, paren_reach}
use Rattle.ml_lexer.proofs.Agree.{agree_get, agree_part, agree_end, Keeps, Steady, steady_if, byte_keeps, least_if}
use Rattle.ml_lexer.proofs.SteadyTicks.{first_fails, second_byte}

-- the end of the blanks behind the first byte
abbrev pub blanks_end : List ℕ → ℕ
blanks_end l = run_end is_blank 1 l

-- the tests behind the one for a closing bracket, for the signs of an array, and for two at signs
abbrev pub signs : List ℕ → Found
signs l = if get_or l 1 0 == 37 && get_or l 2 0 == 37 then found outside 3 else (if get_or l 1 0 == 64 || get_or l 1 0 == 37 then found outside 2 else found left_bracket 1)

abbrev pub ats : List ℕ → Found
ats l = if get_or l 1 0 == 64 && get_or l 2 0 == 64 && get_or l 3 0 == 64 then found outside 4 else (if get_or l 1 0 == 64 && get_or l 2 0 == 64 then found outside 3 else signs l)

abbrev pub arrays : List ℕ → Found
arrays l = if get_or l 1 0 == 124 || get_or l 1 0 == 60 || get_or l 1 0 == 62 then found outside 2 else ats l

abbrev pub signs_reach : List ℕ → ℕ
signs_reach l = if get_or l 1 0 == 64 || get_or l 1 0 == 37 then 3 else blanks_end l + 1

abbrev pub ats_reach : List ℕ → ℕ
ats_reach l = if get_or l 1 0 == 64 && get_or l 2 0 == 64 then 4 else signs_reach l

abbrev pub arrays_reach : List ℕ → ℕ
arrays_reach l = if get_or l 1 0 == 124 || get_or l 1 0 == 60 || get_or l 1 0 == 62 then 2 else ats_reach l

-- the same choices in another order
other_order : (a b c : Bool) (x y z : Found) → (if b && c then x else (if a || b then y else z)) ≡ (if a || b then (if b && c then x else y) else z)
other_order true true true x y z = refl
other_order true true false x y z = refl
other_order true false c x y z = refl
other_order false true true x y z = refl
other_order false true false x y z = refl
other_order false false c x y z = refl

-- a test that stands in two others may stand behind the one that they share
third_later : (a b : Bool) (x y z : Found) → (if a && b then x else (if a then y else z)) ≡ (if a then (if b then x else y) else z)
third_later true b x y z = refl
third_later false b x y z = refl

-- what is another scan at each list is as steady
steady_as : (F G : List ℕ → Found) (R : List ℕ → ℕ) (bs : List ℕ) → ((l : List ℕ) → F l ≡ G l) → Steady G R bs → Steady F R bs
steady_as F G R bs same steady cs e = (same cs ∙ (steady cs e).0 ∙ sym (same bs), (steady cs e).1)

-- a test of two bytes before the reach
two_bytes : (test : ℕ → ℕ → Bool) (j k r : ℕ) (bs : List ℕ) → j < r → k < r → Keeps (λ l. test (get_or l j 0) (get_or l k 0)) r bs
two_bytes test j k r bs p q cs e = ap (λ b. test b (get_or cs k 0)) (agree_get r j bs cs p e) ∙ ap (λ b. test (get_or bs j 0) b) (agree_get r k bs cs q e)

-- `@` and `%` behind a bracket
signs_steady : (bs : List ℕ) → Steady signs signs_reach bs
signs_steady bs =
    steady_as signs (λ l. if get_or l 1 0 == 64 || get_or l 1 0 == 37 then (if get_or l 1 0 == 37 && get_or l 2 0 == 37 then found outside 3 else found outside 2) else found left_bracket 1) signs_reach bs
    (λ l. other_order (get_or l 1 0 == 64) (get_or l 1 0 == 37) (get_or l 2 0 == 37) (found outside 3) (found outside 2) (found left_bracket 1))
    (steady_if (λ l. get_or l 1 0 == 64 || get_or l 1 0 == 37) (λ l. if get_or l 1 0 == 37 && get_or l 2 0 == 37 then found outside 3 else found outside 2) (λ _. found left_bracket 1) (λ _. 3) (λ l. blanks_end l + 1) bs
    (λ _. byte_keeps (λ b. b == 64 || b == 37) 1 3 bs (omega arith))
    (λ _. byte_keeps (λ b. b == 64 || b == 37) 1 (blanks_end bs + 1) bs (omega arith))
    (λ _. λ cs e. (ap (λ t. if t then found outside 3 else found outside 2) (two_bytes (λ b c. b == 37 && c == 37) 1 2 3 bs (omega arith) (omega arith) cs e), refl))
    (λ _. λ cs e. (refl, ap (λ k. k + 1) (agree_end is_blank 1 (blanks_end bs + 1) bs cs e (omega arith)))))

-- the second byte is looked at
signs_least : (l : List ℕ) → 2 ≤ signs_reach l
signs_least l = least_if (get_or l 1 0 == 64 || get_or l 1 0 == 37) 3 (blanks_end l + 1) 2 (omega arith) (omega arith)

-- two or three at signs behind a bracket
ats_steady : (bs : List ℕ) → Steady ats ats_reach bs
ats_steady bs =
    steady_as ats (λ l. if get_or l 1 0 == 64 && get_or l 2 0 == 64 then (if get_or l 3 0 == 64 then found outside 4 else found outside 3) else signs l) ats_reach bs
    (λ l. third_later (get_or l 1 0 == 64 && get_or l 2 0 == 64) (get_or l 3 0 == 64) (found outside 4) (found outside 3) (signs l))
    (steady_if (λ l. get_or l 1 0 == 64 && get_or l 2 0 == 64) (λ l. if get_or l 3 0 == 64 then found outside 4 else found outside 3) signs (λ _. 4) signs_reach bs
    (λ _. two_bytes (λ b c. b == 64 && c == 64) 1 2 4 bs (omega arith) (omega arith))
    (λ none. two_at bs none)
    (λ _. λ cs e. (ap (λ t. if t then found outside 4 else found outside 3) (byte_keeps (λ b. b == 64) 3 4 bs (omega arith) cs e), refl))
    (λ _. signs_steady bs))
  where
    -- the third byte is looked at only behind a first at sign
    two_at : (l : List ℕ) → (get_or l 1 0 == 64 && get_or l 2 0 == 64) ≡ false → Keeps (λ x. get_or x 1 0 == 64 && get_or x 2 0 == 64) (signs_reach l) l
    two_at l none cs e =
        elim (get_or l 1 0 == 64) as (λ t. (get_or l 1 0 == 64) ≡ t → take (if t || get_or l 1 0 == 37 then 3 else blanks_end l + 1) l ≡ take (if t || get_or l 1 0 == 37 then 3 else blanks_end l + 1) cs → (get_or cs 1 0 == 64 && get_or cs 2 0 == 64) ≡ (get_or l 1 0 == 64 && get_or l 2 0 == 64)) [
          | true ↦ λ is. λ e. two_bytes (λ b c. b == 64 && c == 64) 1 2 3 l (omega arith) (omega arith) cs e
          | false ↦ λ is. λ e.
              let least = least_if (get_or l 1 0 == 37) 3 (blanks_end l + 1) 2 (omega arith) (omega arith) in
              let there = byte_keeps (λ b. b == 64) 1 (if get_or l 1 0 == 37 then 3 else blanks_end l + 1) l (omega (arith, least)) cs e ∙ is in
              ap (λ t. t && get_or cs 2 0 == 64) there ∙ ap (λ t. t && get_or l 2 0 == 64) (sym is)
        ] refl e

-- the second byte is looked at here too
ats_least : (l : List ℕ) → 2 ≤ ats_reach l
ats_least l = least_if (get_or l 1 0 == 64 && get_or l 2 0 == 64) 4 (signs_reach l) 2 (omega arith) (signs_least l)

-- the signs behind a bracket
arrays_steady : (bs : List ℕ) → Steady arrays arrays_reach bs
arrays_steady bs = steady_if (λ l. get_or l 1 0 == 124 || get_or l 1 0 == 60 || get_or l 1 0 == 62) (λ _. found outside 2) ats (λ _. 2) ats_reach bs
    (λ _. byte_keeps (λ b. b == 124 || b == 60 || b == 62) 1 2 bs (omega arith))
    (λ _. byte_keeps (λ b. b == 124 || b == 60 || b == 62) 1 (ats_reach bs) bs (ats_least bs))
    (λ _. λ cs e. (refl, refl))
    (λ _. ats_steady bs)

-- a sign behind a bracket is no blank
array_no_blank : (b : ℕ) → (b == 124 || b == 60 || b == 62) ≡ true → is_blank b ≡ false
array_no_blank b is = grind (arith, nat_tests)

-- nor is `@` or `%`
sign_no_blank : (b : ℕ) → (b == 64 || b == 37) ≡ true → is_blank b ≡ false
sign_no_blank b is = grind (arith, nat_tests)

-- nor is `@` alone
at_no_blank : (b : ℕ) → (b == 64) ≡ true → is_blank b ≡ false
at_no_blank b is = grind (arith, nat_tests)

-- behind a sign stand no blanks
no_blanks : (l : List ℕ) → is_blank (get_or l 1 0) ≡ false → blanks_end l ≡ 1
no_blanks l is = omega (arith, first_fails is_blank (drop 1 l) (ap is_blank (second_byte l) ∙ is))

-- the byte behind the blanks is looked at
arrays_long : (l : List ℕ) → blanks_end l + 1 ≤ arrays_reach l
arrays_long l =
    elim (get_or l 1 0 == 124 || get_or l 1 0 == 60 || get_or l 1 0 == 62) as (λ t. (get_or l 1 0 == 124 || get_or l 1 0 == 60 || get_or l 1 0 == 62) ≡ t → blanks_end l + 1 ≤ (if t then 2 else ats_reach l)) [
      | true ↦ λ is. omega (arith, no_blanks l (array_no_blank (get_or l 1 0) is))
      | false ↦ λ _. elim (get_or l 1 0 == 64 && get_or l 2 0 == 64) as (λ t. (get_or l 1 0 == 64 && get_or l 2 0 == 64) ≡ t → blanks_end l + 1 ≤ (if t then 4 else signs_reach l)) [
        | true ↦ λ is. omega (arith, no_blanks l (at_no_blank (get_or l 1 0) (and_parts (get_or l 1 0 == 64) (get_or l 2 0 == 64) is).0))
        | false ↦ λ _. elim (get_or l 1 0 == 64 || get_or l 1 0 == 37) as (λ t. (get_or l 1 0 == 64 || get_or l 1 0 == 37) ≡ t → blanks_end l + 1 ≤ (if t then 3 else blanks_end l + 1)) [
          | true ↦ λ is. omega (arith, no_blanks l (sign_no_blank (get_or l 1 0) is))
          | false ↦ λ _. omega arith
        ] refl
      ] refl
    ] refl

-- the byte behind the blanks is the same
behind_keeps : (b r : ℕ) (bs : List ℕ) → blanks_end bs < r → Keeps (λ l. get_or l (blanks_end l) 0 == b) r bs
behind_keeps b r bs h cs e = ap (λ k. get_or cs k 0 == b) (agree_end is_blank 1 r bs cs e h) ∙ ap (λ x. x == b) (agree_get r (blanks_end bs) bs cs h e)

-- what begins with a bracket
pub bracket_steady : (bs : List ℕ) → Steady bracket_found bracket_reach bs
unfolding bracket_found bracket_reach
bracket_steady bs = steady_if (λ l. get_or l (blanks_end l) 0 == 93) (λ l. found nil (blanks_end l + 1)) arrays (λ l. blanks_end l + 1) arrays_reach bs
    (λ _. behind_keeps 93 (blanks_end bs + 1) bs (omega arith))
    (λ _. behind_keeps 93 (arrays_reach bs) bs (omega (arith, arrays_long bs)))
    (λ _. λ cs e. let same = agree_end is_blank 1 (blanks_end bs + 1) bs cs e (omega arith) in (ap (λ k. found nil (k + 1)) same, ap (λ k. k + 1) same))
    (λ _. arrays_steady bs)

-- the operators at a place, from a test on
abbrev a_colon : ℕ → List ℕ → Option (Kind × ℕ)
a_colon p l = if get_or l p 0 == 58 && get_or l (p + 1) 0 == 61 then Some (colon_equal, p + 2) else None

-- the name of an operator, or else `:=`
abbrev a_word : ℕ → List ℕ → Option (Kind × ℕ)
a_word p l = if is_lower (get_or l p 0) then Some (word_kind (take (run_end goes_on p l - p) (drop p l)), run_end goes_on p l) else a_colon p l

-- the signs of an operator
abbrev a_sign : ℕ → List ℕ → Option (Kind × ℕ)
a_sign p l = Some (sign_kind (take (run_end is_sign p l - p) (drop p l)), run_end is_sign p l)

-- an operator that ends at a place is looked at with the byte behind it
operator_long : (p : ℕ) (op : Kind × ℕ) (l : List ℕ) → op.1 + 1 ≤ operator_reach p (Some op) l
operator_long p op l = least_if (is_operator_kind op.0) (run_end is_blank op.1 l + 1) (op.1 + 1) (op.1 + 1) (omega arith) (omega arith)

-- where no operator stands, the byte at the place is looked at
none_long : (p : ℕ) (l : List ℕ) → p + 1 ≤ operator_reach p None l
none_long p l = least_if (get_or l p 0 == 58) (p + 2) (p + 1) (p + 1) (omega arith) (omega arith)

-- `:=` is the same
colon_keeps : (p : ℕ) (bs : List ℕ) → Keeps (a_colon p) (operator_reach p (a_colon p bs) bs) bs
colon_keeps p bs cs =
    elim (get_or bs p 0 == 58) as (λ t. (get_or bs p 0 == 58) ≡ t → take (operator_reach p (if t && get_or bs (p + 1) 0 == 61 then Some (colon_equal, p + 2) else None) bs) bs ≡ take (operator_reach p (if t && get_or bs (p + 1) 0 == 61 then Some (colon_equal, p + 2) else None) bs) cs → a_colon p cs ≡ (if t && get_or bs (p + 1) 0 == 61 then Some (colon_equal, p + 2) else None)) [
      | true ↦ λ is. elim (get_or bs (p + 1) 0 == 61) as (λ t. (get_or bs (p + 1) 0 == 61) ≡ t → take (operator_reach p (if t then Some (colon_equal, p + 2) else None) bs) bs ≡ take (operator_reach p (if t then Some (colon_equal, p + 2) else None) bs) cs → a_colon p cs ≡ (if t then Some (colon_equal, p + 2) else None)) [
        | true ↦ λ second. λ e.
            let r = operator_reach p (Some (colon_equal, p + 2)) bs in
            let long = operator_long p (colon_equal, p + 2) bs in
            ap (λ t. if t && get_or cs (p + 1) 0 == 61 then Some (colon_equal, p + 2) else None) (byte_keeps (λ b. b == 58) p r bs (omega arith) cs e ∙ is) ∙ ap (λ t. if t then Some (colon_equal, p + 2) else None) (byte_keeps (λ b. b == 61) (p + 1) r bs (omega arith) cs e ∙ second)
        | false ↦ λ second. λ e.
            let two : operator_reach p None bs ≡ p + 2 = ap (λ t. if t then p + 2 else p + 1) is in
            let r = operator_reach p None bs in
            ap (λ t. if t && get_or cs (p + 1) 0 == 61 then Some (colon_equal, p + 2) else None) (byte_keeps (λ b. b == 58) p r bs (omega (arith, two)) cs e ∙ is) ∙ ap (λ t. if t then Some (colon_equal, p + 2) else None) (byte_keeps (λ b. b == 61) (p + 1) r bs (omega (arith, two)) cs e ∙ second)
      ] refl
      | false ↦ λ is. λ e.
          let r = operator_reach p None bs in
          let long = none_long p bs in
          ap (λ t. if t && get_or cs (p + 1) 0 == 61 then Some (colon_equal, p + 2) else None) (byte_keeps (λ b. b == 58) p r bs (omega arith) cs e ∙ is)
    ] refl

-- a run from a place on, and its bytes
run_keeps : (test : ℕ → Bool) (kind : List ℕ → Kind) (p r : ℕ) (bs : List ℕ) → run_end test p bs < r → Keeps {A = Option (Kind × ℕ)} (λ l. Some (kind (take (run_end test p l - p) (drop p l)), run_end test p l)) r bs
run_keeps test kind p r bs h cs e =
    let same = agree_end test p r bs cs e h in
    let part = agree_part r p (run_end test p bs - p) bs cs (omega (arith, h)) e in
    ap (λ k. Some (kind (take (k - p) (drop p cs)), k)) same ∙ ap (λ (w : List ℕ). Some (kind w, run_end test p bs)) part

-- the byte at the place is looked at, whatever stands there
word_end_long : (p : ℕ) (l : List ℕ) → p + 1 ≤ operator_reach p (a_colon p l) l
word_end_long p l = elim (get_or l p 0 == 58 && get_or l (p + 1) 0 == 61) as (λ t. p + 1 ≤ operator_reach p (if t then Some (colon_equal, p + 2) else None) l) [ true ↦ omega (arith, operator_long p (colon_equal, p + 2) l) | false ↦ none_long p l ]

-- the name of an operator is the same
word_keeps : (p : ℕ) (bs : List ℕ) → Keeps (a_word p) (operator_reach p (a_word p bs) bs) bs
word_keeps p bs cs =
    elim (is_lower (get_or bs p 0)) as (λ t. is_lower (get_or bs p 0) ≡ t → take (operator_reach p (if t then Some (word_kind (take (run_end goes_on p bs - p) (drop p bs)), run_end goes_on p bs) else a_colon p bs) bs) bs ≡ take (operator_reach p (if t then Some (word_kind (take (run_end goes_on p bs - p) (drop p bs)), run_end goes_on p bs) else a_colon p bs) bs) cs → a_word p cs ≡ (if t then Some (word_kind (take (run_end goes_on p bs - p) (drop p bs)), run_end goes_on p bs) else a_colon p bs)) [
      | true ↦ λ is. λ e.
          let op : Kind × ℕ = (word_kind (take (run_end goes_on p bs - p) (drop p bs)), run_end goes_on p bs) in
          let r = operator_reach p (Some op) bs in
          let long : run_end goes_on p bs + 1 ≤ r = operator_long p op bs in
          ap (λ t. if t then Some (word_kind (take (run_end goes_on p cs - p) (drop p cs)), run_end goes_on p cs) else a_colon p cs) (byte_keeps is_lower p r bs (omega arith) cs e ∙ is) ∙ run_keeps goes_on word_kind p r bs (omega arith) cs e
      | false ↦ λ is. λ e.
          let r = operator_reach p (a_colon p bs) bs in
          ap (λ t. if t then Some (word_kind (take (run_end goes_on p cs - p) (drop p cs)), run_end goes_on p cs) else a_colon p cs) (byte_keeps is_lower p r bs (omega (arith, word_end_long p bs)) cs e ∙ is) ∙ colon_keeps p bs cs e
    ] refl

-- the byte at the place is looked at, also before a name
sign_end_long : (p : ℕ) (l : List ℕ) → p + 1 ≤ operator_reach p (a_word p l) l
sign_end_long p l =
    let op : Kind × ℕ = (word_kind (take (run_end goes_on p l - p) (drop p l)), run_end goes_on p l) in
    elim (is_lower (get_or l p 0)) as (λ t. p + 1 ≤ operator_reach p (if t then Some (word_kind (take (run_end goes_on p l - p) (drop p l)), run_end goes_on p l) else a_colon p l) l) [ true ↦ omega (arith, operator_long p op l) | false ↦ word_end_long p l ]

-- the operator is the same
operator_keeps : (p : ℕ) (bs : List ℕ) → Keeps (operator_end p) (operator_reach p (operator_end p bs) bs) bs
operator_keeps p bs cs =
    elim (begins_operator (get_or bs p 0)) as (λ t. begins_operator (get_or bs p 0) ≡ t → take (operator_reach p (if t then a_sign p bs else a_word p bs) bs) bs ≡ take (operator_reach p (if t then a_sign p bs else a_word p bs) bs) cs → operator_end p cs ≡ (if t then a_sign p bs else a_word p bs)) [
      | true ↦ λ is. λ e.
          let op : Kind × ℕ = (sign_kind (take (run_end is_sign p bs - p) (drop p bs)), run_end is_sign p bs) in
          let r = operator_reach p (Some op) bs in
          let long : run_end is_sign p bs + 1 ≤ r = operator_long p op bs in
          ap (λ t. if t then a_sign p cs else a_word p cs) (byte_keeps begins_operator p r bs (omega arith) cs e ∙ is) ∙ run_keeps is_sign sign_kind p r bs (omega arith) cs e
      | false ↦ λ is. λ e.
          let r = operator_reach p (a_word p bs) bs in
          ap (λ t. if t then a_sign p cs else a_word p cs) (byte_keeps begins_operator p r bs (omega (arith, sign_end_long p bs)) cs e ∙ is) ∙ word_keeps p bs cs e
    ] refl

-- and also before signs
pub operator_some : (p : ℕ) (l : List ℕ) → p + 1 ≤ operator_reach p (operator_end p l) l
operator_some p l =
    let op : Kind × ℕ = (sign_kind (take (run_end is_sign p l - p) (drop p l)), run_end is_sign p l) in
    elim (begins_operator (get_or l p 0)) as (λ t. p + 1 ≤ operator_reach p (if t then a_sign p l else a_word p l) l) [ true ↦ omega (arith, operator_long p op l) | false ↦ sign_end_long p l ]

-- what is found with an operator that is known
with_operator : (p : ℕ) (o : Option (Kind × ℕ)) (bs : List ℕ) → Steady (op_name_found p o) (operator_reach p o) bs
with_operator p None bs cs e = (refl, ap (λ b. if b == 58 then p + 2 else p + 1) (agree_get (operator_reach p None bs) p bs cs (omega (arith, none_long p bs)) e))
with_operator p (Some op) bs cs e =
    elim (is_operator_kind op.0) as (λ t. take (if t then run_end is_blank op.1 bs + 1 else op.1 + 1) bs ≡ take (if t then run_end is_blank op.1 bs + 1 else op.1 + 1) cs
    → ((if t && get_or cs (run_end is_blank op.1 cs) 0 == 41 then record { kind = op_name; size = run_end is_blank op.1 cs + 1; name_start = p; name_size = op.1 - p } else found left_paren 1) ≡ (if t && get_or bs (run_end is_blank op.1 bs) 0 == 41 then record { kind = op_name; size = run_end is_blank op.1 bs + 1; name_start = p; name_size = op.1 - p } else found left_paren 1))
    × ((if t then run_end is_blank op.1 cs + 1 else op.1 + 1) ≡ (if t then run_end is_blank op.1 bs + 1 else op.1 + 1))) [
      | true ↦ λ e.
          let r = run_end is_blank op.1 bs + 1 in
          let same = agree_end is_blank op.1 r bs cs e (omega arith) in
          let byte = agree_get r (run_end is_blank op.1 bs) bs cs (omega arith) e in
          (ap (λ k. if get_or cs k 0 == 41 then record { kind = op_name; size = k + 1; name_start = p; name_size = op.1 - p } else found left_paren 1) same ∙ ap (λ b. if b == 41 then record { kind = op_name; size = run_end is_blank op.1 bs + 1; name_start = p; name_size = op.1 - p } else found left_paren 1) byte, ap (λ k. k + 1) same)
      | false ↦ λ e. (refl, refl)
    ] e

-- what is found with the operator behind the blanks
abbrev operator_found : List ℕ → Found
operator_found l = op_name_found (blanks_end l) (operator_end (blanks_end l) l) l

-- and its reach
abbrev operator_there : List ℕ → ℕ
operator_there l = operator_reach (blanks_end l) (operator_end (blanks_end l) l) l

-- both are the same
operator_steady : (bs : List ℕ) → Steady operator_found operator_there bs
operator_steady bs cs e =
    let p = blanks_end bs in
    let blanks = agree_end is_blank 1 (operator_there bs) bs cs e (omega (arith, operator_some p bs)) in
    let same = operator_keeps p bs cs e in
    let x = with_operator p (operator_end p bs) bs cs e in (
      ap (λ k. op_name_found k (operator_end k cs) cs) blanks ∙ ap (λ o. op_name_found p o cs) same ∙ x.0,
      ap (λ k. operator_reach k (operator_end k cs) cs) blanks ∙ ap (λ o. operator_reach p o cs) same ∙ x.1,
    )

-- what begins with a parenthesis
pub paren_steady : (bs : List ℕ) → Steady paren_found paren_reach bs
unfolding paren_found paren_reach
paren_steady bs = steady_if (λ l. get_or l (blanks_end l) 0 == 41) (λ l. found unit (blanks_end l + 1)) operator_found (λ l. blanks_end l + 1) operator_there bs
    (λ _. behind_keeps 41 (blanks_end bs + 1) bs (omega arith))
    (λ _. behind_keeps 41 (operator_there bs) bs (omega (arith, operator_some (blanks_end bs) bs)))
    (λ _. λ cs e. let same = agree_end is_blank 1 (blanks_end bs + 1) bs cs e (omega arith) in (ap (λ k. found unit (k + 1)) same, ap (λ k. k + 1) same))
    (λ _. operator_steady bs)

-- the byte behind the blanks is looked at
pub paren_long : (l : List ℕ) → blanks_end l + 1 ≤ paren_reach l
unfolding paren_reach
paren_long l = least_if (get_or l (blanks_end l) 0 == 41) (blanks_end l + 1) (operator_there l) (blanks_end l + 1) (omega arith) (operator_some (blanks_end l) l)
