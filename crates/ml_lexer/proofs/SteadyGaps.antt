-- What stands before a token closes the same comments, whatever stands behind.
use Rattle.std.proofs.Common.{◌≡◌, ◌+◌, ◌≤◌, ◌<◌, ◌++◌, ◌∷◌, [], ℕ, zero, suc, List, Bool, true, false, take, drop, length, get_or, sym, subst, ap, ◌∙◌, arith, refl, inl, inr, append_assoc, length-append, length-drop}
use Rattle.std.specs.Prelude.{if◌then◌else◌, ◌==◌, ◌&&◌, nat_lt}
use Rattle.std.proofs.Math.Seq.{take-append_seam, get_or-append_seam}
use Rattle.std.proofs.lemmas.List.{take-append-drop}
use Rattle.std.proofs.lemmas.Bool.{and_parts, cases_lt}
use Rattle.std.proofs.lemmas.Bool.Decides.{nat_tests}
use Rattle.token_model.specs.Bytes.{is_digit, is_hexadecimal, is_octal, is_lower}
use Rattle.token_model.specs.Comments.{IsPlainInside, Closes, end, nested, string_inside, char_inside, byte_inside}
use Rattle.token_model.specs.Spellings.{IsChar, plain, escape, decimal_code, hexadecimal_code, octal_code}
use Rattle.token_model.specs.Tokens.{Gap, no_gap, blank, comment}
use Rattle.ml_lexer.specs.Scans.{run_length, opens_quoted}
use Rattle.ml_lexer.proofs.Quoted.{opens_is, opens_from}
use Rattle.ml_lexer.proofs.Agree.{agree_less, agree_get}
use Rattle.ml_lexer.proofs.SteadyTicks.{front_there}
use Rattle.ml_lexer.proofs.SteadyTexts.{opens_keeps}

-- a digit is no `*`
digit_not_star : (b : ℕ) → is_digit b ≡ true → b ≡ 42 → ⊥
digit_not_star b is same = grind (arith, nat_tests)

-- nor is one of base 16
hexadecimal_not_star : (b : ℕ) → is_hexadecimal b ≡ true → b ≡ 42 → ⊥
hexadecimal_not_star b is same = grind (arith, nat_tests)

-- nor is one of base 8
octal_not_star : (b : ℕ) → is_octal b ≡ true → b ≡ 42 → ⊥
octal_not_star b is same = grind (arith, nat_tests)

-- inside an escape stands no `*`
no_star : (w : List ℕ) → IsChar w → (k : ℕ) (behind : List ℕ) → 1 ≤ k → k + 2 < length w → get_or (w ++ behind) k 0 ≡ 42 → ⊥
no_star w (plain is) k behind some less star = omega (arith, some, less)
no_star w (escape is) zero behind some less star = omega (arith, some)
no_star w (escape is) (suc zero) behind some less star = omega (arith, star)
no_star w (escape is) (suc (suc k)) behind some less star = omega (arith, less)
no_star w (decimal_code is) zero behind some less star = omega (arith, some)
no_star w (decimal_code is) (suc zero) behind some less star = omega (arith, star)
no_star w (decimal_code {a = a} {b = b} {c = c} is) (suc (suc zero)) behind some less star = digit_not_star a (and_parts (is_digit a) (is_digit b) (and_parts (is_digit a && is_digit b) (is_digit c) is).0).0 star
no_star w (decimal_code {a = a} {b = b} {c = c} is) (suc (suc (suc zero))) behind some less star = digit_not_star b (and_parts (is_digit a) (is_digit b) (and_parts (is_digit a && is_digit b) (is_digit c) is).0).1 star
no_star w (decimal_code is) (suc (suc (suc (suc k)))) behind some less star = omega (arith, less)
no_star w (hexadecimal_code is) zero behind some less star = omega (arith, some)
no_star w (hexadecimal_code is) (suc zero) behind some less star = omega (arith, star)
no_star w (hexadecimal_code is) (suc (suc zero)) behind some less star = omega (arith, star)
no_star w (hexadecimal_code {a = a} {b = b} is) (suc (suc (suc zero))) behind some less star = hexadecimal_not_star a (and_parts (is_hexadecimal a) (is_hexadecimal b) is).0 star
no_star w (hexadecimal_code is) (suc (suc (suc (suc k)))) behind some less star = omega (arith, less)
no_star w (octal_code is) zero behind some less star = omega (arith, some)
no_star w (octal_code is) (suc zero) behind some less star = omega (arith, star)
no_star w (octal_code is) (suc (suc zero)) behind some less star = omega (arith, star)
no_star w (octal_code {a = a} {b = b} {c = c} is) (suc (suc (suc zero))) behind some less star = octal_not_star a (and_parts (is_octal a) (nat_lt a 52) (and_parts (is_octal a && nat_lt a 52) (is_octal b) (and_parts (is_octal a && nat_lt a 52 && is_octal b) (is_octal c) is).0).0).0 star
no_star w (octal_code {a = a} {b = b} {c = c} is) (suc (suc (suc (suc zero)))) behind some less star = octal_not_star b (and_parts (is_octal a && nat_lt a 52) (is_octal b) (and_parts (is_octal a && nat_lt a 52 && is_octal b) (is_octal c) is).0).1 star
no_star w (octal_code is) (suc (suc (suc (suc (suc k))))) behind some less star = omega (arith, less)

-- a byte, some bytes, the end of a comment, and what stands behind it
abbrev closed_by : ℕ → List ℕ → List ℕ → List ℕ
closed_by b v t = b ∷ v ++ 42 ∷ 41 ∷ t

-- the part up to the end, and what stands behind it
closed_front : (b : ℕ) (v t : List ℕ) → closed_by b v t ≡ (b ∷ v ++ 42 ∷ 41 ∷ []) ++ t
closed_front b v t = sym (append_assoc (b ∷ v) (42 ∷ 41 ∷ []) t)

-- up to the comment's end the bytes are the same
closed_agree : (b : ℕ) (v t u : List ℕ) → take (length v + 3) (closed_by b v t) ≡ take (length v + 3) (closed_by b v u)
closed_agree b v t u =
    let w = b ∷ v ++ 42 ∷ 41 ∷ [] in
    let size : length v + 3 ≡ length w = omega (arith, length-append v (42 ∷ 41 ∷ [])) in
    let one : take (length v + 3) (closed_by b v t) ≡ w = ap (λ n. take n (closed_by b v t)) size ∙ ap (λ (l : List ℕ). take (length w) l) (closed_front b v t) ∙ take-append_seam w t in
    let other : take (length v + 3) (closed_by b v u) ≡ w = ap (λ n. take n (closed_by b v u)) size ∙ ap (λ (l : List ℕ). take (length w) l) (closed_front b v u) ∙ take-append_seam w u in
    one ∙ sym other

-- an identifier ends before the comment's end
id_short : (v t : List ℕ) → run_length is_lower (v ++ 42 ∷ t) ≤ length v
id_short [] t = omega arith
id_short (b ∷ v) t = least (is_lower b) (id_short v t)
  where
    least : (c : Bool) → run_length is_lower (v ++ 42 ∷ t) ≤ length v → (if c then run_length is_lower (v ++ 42 ∷ t) + 1 else 0) ≤ length (b ∷ v)
    least true h = omega arith
    least false h = omega arith

-- what begins nothing before the end of a comment begins nothing with other bytes behind it
plain_there : (b : ℕ) (v t u : List ℕ) → IsPlainInside (closed_by b v t) → IsPlainInside (closed_by b v u)
plain_there b v t u is =
    let n = length v + 3 in
    let same = closed_agree b v t u in
    let second : get_or (closed_by b v u) 1 0 ≡ get_or (closed_by b v t) 1 0 = agree_get n 1 (closed_by b v t) (closed_by b v u) (omega arith) same in
    record {
      comment = ap (λ c. b == 40 && c == 42) second ∙ is.comment;
      end = ap (λ c. b == 42 && c == 41) second ∙ is.end;
      quote = is.quote;
      quoted = λ opened.
          let there = opens_is (closed_by b v u) opened in
          let kept : opens_quoted (closed_by b v u) ≡ opens_quoted (closed_by b v t) = opens_keeps n (closed_by b v t) (omega (arith, id_short v (41 ∷ t))) (closed_by b v u) same in
          is.quoted (opens_from (closed_by b v t) there.0 (sym kept ∙ there.1));
      character = λ w behind whole char. elim (cases_lt n (length w)) [
        | inl long ↦
            let star : get_or (w ++ behind) (length v + 1) 0 ≡ 42 = ap (λ (l : List ℕ). get_or l (length v + 1) 0) (sym whole) ∙ star_there in
            no_star w char (length v + 1) behind (omega arith) (omega (arith, long)) star
        | inr short ↦
            let near : take (length w) (closed_by b v u) ≡ take (length w) (closed_by b v t) = sym (agree_less n (length w) (closed_by b v t) (closed_by b v u) short same) in
            is.character w (drop (length w) (closed_by b v t)) (front_there w behind (closed_by b v u) (closed_by b v t) whole near) char
      ];
    }
  where
    star_there : get_or (closed_by b v u) (length v + 1) 0 ≡ 42
    star_there = let place : length v + 1 ≡ suc (length v) = omega arith in ap (λ k. get_or (closed_by b v u) k 0) place ∙ get_or-append_seam v 42 (41 ∷ u) 0

-- what closes a comment does so whatever stands behind its end
record ClosedBy (bs rest : List ℕ) : Type 0 where
  inside : List ℕ
  whole : bs ≡ inside ++ 42 ∷ 41 ∷ rest
  any : (other : List ℕ) → Closes (inside ++ 42 ∷ 41 ∷ other) other

-- bytes before what closes a comment
before : (w bs rest : List ℕ) → ClosedBy bs rest → ((other : List ℕ) (l : List ℕ) → Closes l other → Closes (w ++ l) other) → ClosedBy (w ++ bs) rest
before w bs rest c more = record {
  inside = w ++ c.inside;
  whole = ap (λ (l : List ℕ). w ++ l) c.whole ∙ sym (append_assoc w c.inside (42 ∷ 41 ∷ rest));
  any = λ other. subst (λ (l : List ℕ). Closes l other) (sym (append_assoc w c.inside (42 ∷ 41 ∷ other))) (more other (c.inside ++ 42 ∷ 41 ∷ other) (c.any other));
}

-- each comment that is closed is one
closed : {bs rest : List ℕ} → Closes bs rest → ClosedBy bs rest
closed end = record { inside = []; whole = refl; any = λ other. end }
closed {rest = rest} (nested {bs = bs} middle inner outer) =
    let x = closed inner in
    let y = closed outer in
    record {
      inside = 40 ∷ 42 ∷ x.inside ++ 42 ∷ 41 ∷ y.inside;
      whole = ap (λ (l : List ℕ). 40 ∷ 42 ∷ l) (x.whole ∙ ap (λ (l : List ℕ). x.inside ++ 42 ∷ 41 ∷ l) y.whole ∙ sym (append_assoc x.inside (42 ∷ 41 ∷ y.inside) (42 ∷ 41 ∷ rest)));
      any = λ other. subst (λ (l : List ℕ). Closes (40 ∷ 42 ∷ l) other) (sym (append_assoc x.inside (42 ∷ 41 ∷ y.inside) (42 ∷ 41 ∷ other))) (nested (y.inside ++ 42 ∷ 41 ∷ other) (x.any (y.inside ++ 42 ∷ 41 ∷ other)) (y.any other));
    }
closed {rest = rest} (string_inside w bs s more) = before w bs rest (closed more) (λ other l c. string_inside w l s c)
closed {rest = rest} (char_inside w bs s more) = before w bs rest (closed more) (λ other l c. char_inside w l s c)
closed {rest = rest} (byte_inside {b = b} {bs = bs} is more) =
    let x = closed more in
    record {
      inside = b ∷ x.inside;
      whole = ap (λ (l : List ℕ). b ∷ l) x.whole;
      any = λ other. byte_inside (plain_there b x.inside rest other (subst (λ (l : List ℕ). IsPlainInside (b ∷ l)) x.whole is)) (x.any other);
    }

-- a gap is one whatever stands behind it
pub record GapBy (bs rest : List ℕ) : Type 0 where
  pub bytes : List ℕ
  pub whole : bs ≡ bytes ++ rest
  pub any : (other : List ℕ) → Gap (bytes ++ other) other

-- each gap is one
pub gap_by : {bs rest : List ℕ} → Gap bs rest → GapBy bs rest
gap_by no_gap = record { bytes = []; whole = refl; any = λ other. no_gap }
gap_by (blank {b = b} is gap) = let x = gap_by gap in record { bytes = b ∷ x.bytes; whole = ap (λ (l : List ℕ). b ∷ l) x.whole; any = λ other. blank is (x.any other) }
gap_by {rest = rest} (comment {bs = bs} middle c gap) =
    let x = closed c in
    let y = gap_by gap in
    record {
      bytes = 40 ∷ 42 ∷ x.inside ++ 42 ∷ 41 ∷ y.bytes;
      whole = ap (λ (l : List ℕ). 40 ∷ 42 ∷ l) (x.whole ∙ ap (λ (l : List ℕ). x.inside ++ 42 ∷ 41 ∷ l) y.whole ∙ sym (append_assoc x.inside (42 ∷ 41 ∷ y.bytes) rest));
      any = λ other. subst (λ (l : List ℕ). Gap (40 ∷ 42 ∷ l) other) (sym (append_assoc x.inside (42 ∷ 41 ∷ y.bytes) other)) (comment (y.bytes ++ other) (x.any (y.bytes ++ other)) (y.any other));
    }

-- up to a place the gap of one list is the gap of each list with the same bytes there
pub gap_there : (i : ℕ) (bs cs : List ℕ) → i ≤ length bs → Gap bs (drop i bs) → take i bs ≡ take i cs → Gap cs (drop i cs)
gap_there i bs cs inside gap e =
    let x = gap_by gap in
    let size : length x.bytes ≡ i = omega (arith, ap length x.whole, length-append x.bytes (drop i bs), length-drop i bs) in
    let front : x.bytes ≡ take i cs = sym (take-append_seam x.bytes (drop i bs)) ∙ ap (λ (l : List ℕ). take (length x.bytes) l) (sym x.whole) ∙ ap (λ k. take k bs) size ∙ e in
    subst (λ (l : List ℕ). Gap l (drop i cs)) (ap (λ (l : List ℕ). l ++ drop i cs) front ∙ take-append-drop i cs) (x.any (drop i cs))
