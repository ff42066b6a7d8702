-- What begins with a lower-case letter or `_`.
use Rattle.std.proofs.Common.{◌≡◌, ◌+◌, ◌≤◌, ◌<◌, ◌++◌, ◌∷◌, [], ℕ, suc, List, Bool, true, false, take, drop, length, get_or, sym, subst, arith, refl, ap, ◌∙◌, append_assoc, length-append, length-take, inl, inr}
use Rattle.std.specs.Prelude.{if◌then◌else◌, ◌&&◌, ◌==◌, nat_lt, codes}
use Rattle.std.specs.List.{list_all}
use Rattle.std.proofs.Math.Seq.{drop-append_seam}
use Rattle.std.proofs.lemmas.List.{take-append-drop, drop-drop, get_or-drop}
use Rattle.std.proofs.lemmas.Bool.{and_parts, and_from, eqb-true, eq-eqb, both_ways, ltb-true, lt-ltb}
use Rattle.std.proofs.lemmas.Bool.Decides.{nat_tests}
use Rattle.token_model.specs.Kinds.{Kind, module_type}
use Rattle.token_model.specs.Bytes.{is_blank, is_lower, goes_on, begins}
use Rattle.token_model.specs.Words.{word_kind}
use Rattle.token_model.specs.Spellings.{Run, Spells, a_word, a_module_type}
use Rattle.ml_lexer.specs.Scans.{found, run_length, run_end, is_type_word, is_module_word, module_type_end, is_module_type, word_found}
use Rattle.ml_lexer.proofs.Runs.{front_in_run, run_exact, run_passes, run_stops, run_le}
use Rattle.ml_lexer.proofs.Classes.{IsModuleType, word_class}
use Rattle.ml_lexer.proofs.Spelled.{plainly, run_all, run_front}
use Rattle.ml_lexer.proofs.SpelledMarks.{FoundIs, is_spelled}

lower_goes_on : (b : ℕ) → is_lower b ≡ true → goes_on b ≡ true
lower_goes_on b is = grind (arith, nat_tests)

blank_no_name : (b : ℕ) → is_blank b ≡ true → goes_on b ≡ false
blank_no_name b is = grind (arith, nat_tests)

last_off : (t : Bool) → (t && false) ≡ true → ⊥
last_off t is = both_ways false refl (and_parts t false is).1

-- the parts of the tests
type_word_from : (from : ℕ) (bs : List ℕ) → (get_or bs from 0 == 116 && get_or bs (from + 1) 0 == 121 && get_or bs (from + 2) 0 == 112 && get_or bs (from + 3) 0 == 101) ≡ true → is_type_word from (from + 4) bs ≡ true
type_word_from from bs is =
    let t = get_or bs from 0 == 116 in
    let y = get_or bs (from + 1) 0 == 121 in
    let p = get_or bs (from + 2) 0 == 112 in
    let e = get_or bs (from + 3) 0 == 101 in
    let p3 = and_parts (t && y && p) e is in
    let p2 = and_parts (t && y) p p3.0 in
    let p1 = and_parts t y p2.0 in
    let same : (from + 4 == from + 4) ≡ true = eq-eqb (from + 4) (from + 4) refl in
    and_from ((from + 4 == from + 4) && t && y && p) e (and_from ((from + 4 == from + 4) && t && y) p (and_from ((from + 4 == from + 4) && t) y (and_from (from + 4 == from + 4) t same p1.0) p1.1) p2.1) p3.1

type_letters : (from to : ℕ) (bs : List ℕ) → is_type_word from to bs ≡ true → (to ≡ from + 4) × ((get_or bs from 0 == 116 && get_or bs (from + 1) 0 == 121 && get_or bs (from + 2) 0 == 112 && get_or bs (from + 3) 0 == 101) ≡ true)
type_letters from to bs is =
    let s = to == from + 4 in
    let t = get_or bs from 0 == 116 in
    let y = get_or bs (from + 1) 0 == 121 in
    let p = get_or bs (from + 2) 0 == 112 in
    let e = get_or bs (from + 3) 0 == 101 in
    let p4 = and_parts (s && t && y && p) e is in
    let p3 = and_parts (s && t && y) p p4.0 in
    let p2 = and_parts (s && t) y p3.0 in
    let p1 = and_parts s t p2.0 in
    (eqb-true to (from + 4) p1.0, and_from (t && y && p) e (and_from (t && y) p (and_from t y p1.1 p2.1) p3.1) p4.1)

module_letters : (to : ℕ) (bs : List ℕ) → is_module_word to bs ≡ true → (to ≡ 6) × ((get_or bs 0 0 == 109 && get_or bs 1 0 == 111 && get_or bs 2 0 == 100 && get_or bs 3 0 == 117 && get_or bs 4 0 == 108 && get_or bs 5 0 == 101) ≡ true)
module_letters to bs is =
    let s = to == 6 in
    let m = get_or bs 0 0 == 109 in
    let o = get_or bs 1 0 == 111 in
    let d = get_or bs 2 0 == 100 in
    let u = get_or bs 3 0 == 117 in
    let l = get_or bs 4 0 == 108 in
    let e = get_or bs 5 0 == 101 in
    let p6 = and_parts (s && m && o && d && u && l) e is in
    let p5 = and_parts (s && m && o && d && u) l p6.0 in
    let p4 = and_parts (s && m && o && d) u p5.0 in
    let p3 = and_parts (s && m && o) d p4.0 in
    let p2 = and_parts (s && m) o p3.0 in
    let p1 = and_parts s m p2.0 in
    (eqb-true to 6 p1.0, and_from (m && o && d && u && l) e (and_from (m && o && d && u) l (and_from (m && o && d) u (and_from (m && o) d (and_from m o p1.1 p2.1) p3.1) p4.1) p5.1) p6.1)

-- blanks, one at least
blank_run : (l : List ℕ) → 0 < run_length is_blank l → Run is_blank is_blank (take (run_length is_blank l) l)
blank_run [] some = absurd (omega (arith, some))
blank_run (b ∷ bs) some =
    elim (is_blank b) as (λ t. is_blank b ≡ t → 0 < (if t then run_length is_blank bs + 1 else 0) → Run is_blank is_blank (take (if t then run_length is_blank bs + 1 else 0) (b ∷ bs))) [
      | true ↦ λ is. λ more. let size : run_length is_blank bs + 1 ≡ suc (run_length is_blank bs) = omega arith in subst (λ n. Run is_blank is_blank (take n (b ∷ bs))) (sym size) (is, run_passes is_blank bs)
      | false ↦ λ is. λ more. absurd (omega (arith, more))
    ] refl some

-- `module` ends before `module type` does
end_before : (bs : List ℕ) → run_length goes_on bs ≤ module_type_end (run_end goes_on 0 bs) bs
end_before bs = omega arith

-- the bytes of `module` and of `type`
six_known : (l : List ℕ) → (get_or l 0 0 == 109 && get_or l 1 0 == 111 && get_or l 2 0 == 100 && get_or l 3 0 == 117 && get_or l 4 0 == 108 && get_or l 5 0 == 101) ≡ true → l ≡ codes "module" ++ drop 6 l
six_known (a ∷ b ∷ c ∷ d ∷ e ∷ f ∷ l) is =
    let p5 = and_parts (a == 109 && b == 111 && c == 100 && d == 117 && e == 108) (f == 101) is in
    let p4 = and_parts (a == 109 && b == 111 && c == 100 && d == 117) (e == 108) p5.0 in
    let p3 = and_parts (a == 109 && b == 111 && c == 100) (d == 117) p4.0 in
    let p2 = and_parts (a == 109 && b == 111) (c == 100) p3.0 in
    let p1 = and_parts (a == 109) (b == 111) p2.0 in
    ap (λ x. x ∷ b ∷ c ∷ d ∷ e ∷ f ∷ l) (eqb-true a 109 p1.0) ∙ ap (λ x. 109 ∷ x ∷ c ∷ d ∷ e ∷ f ∷ l) (eqb-true b 111 p1.1) ∙ ap (λ x. 109 ∷ 111 ∷ x ∷ d ∷ e ∷ f ∷ l) (eqb-true c 100 p2.1)
    ∙ ap (λ x. 109 ∷ 111 ∷ 100 ∷ x ∷ e ∷ f ∷ l) (eqb-true d 117 p3.1) ∙ ap (λ x. 109 ∷ 111 ∷ 100 ∷ 117 ∷ x ∷ f ∷ l) (eqb-true e 108 p4.1) ∙ ap (λ x. 109 ∷ 111 ∷ 100 ∷ 117 ∷ 108 ∷ x ∷ l) (eqb-true f 101 p5.1)
six_known [] is = absurd (both_ways false refl is)
six_known (a ∷ []) is = absurd (last_off (a == 109 && 0 == 111 && 0 == 100 && 0 == 117 && 0 == 108) is)
six_known (a ∷ b ∷ []) is = absurd (last_off (a == 109 && b == 111 && 0 == 100 && 0 == 117 && 0 == 108) is)
six_known (a ∷ b ∷ c ∷ []) is = absurd (last_off (a == 109 && b == 111 && c == 100 && 0 == 117 && 0 == 108) is)
six_known (a ∷ b ∷ c ∷ d ∷ []) is = absurd (last_off (a == 109 && b == 111 && c == 100 && d == 117 && 0 == 108) is)
six_known (a ∷ b ∷ c ∷ d ∷ e ∷ []) is = absurd (last_off (a == 109 && b == 111 && c == 100 && d == 117 && e == 108) is)

four_known : (l : List ℕ) → (get_or l 0 0 == 116 && get_or l 1 0 == 121 && get_or l 2 0 == 112 && get_or l 3 0 == 101) ≡ true → l ≡ codes "type" ++ drop 4 l
four_known (a ∷ b ∷ c ∷ d ∷ l) is =
    let p3 = and_parts (a == 116 && b == 121 && c == 112) (d == 101) is in
    let p2 = and_parts (a == 116 && b == 121) (c == 112) p3.0 in
    let p1 = and_parts (a == 116) (b == 121) p2.0 in
    ap (λ x. x ∷ b ∷ c ∷ d ∷ l) (eqb-true a 116 p1.0) ∙ ap (λ x. 116 ∷ x ∷ c ∷ d ∷ l) (eqb-true b 121 p1.1) ∙ ap (λ x. 116 ∷ 121 ∷ x ∷ d ∷ l) (eqb-true c 112 p2.1) ∙ ap (λ x. 116 ∷ 121 ∷ 112 ∷ x ∷ l) (eqb-true d 101 p3.1)
four_known [] is = absurd (both_ways false refl is)
four_known (a ∷ []) is = absurd (last_off (a == 116 && 0 == 121 && 0 == 112) is)
four_known (a ∷ b ∷ []) is = absurd (last_off (a == 116 && b == 121 && 0 == 112) is)
four_known (a ∷ b ∷ c ∷ []) is = absurd (last_off (a == 116 && b == 121 && c == 112) is)

-- what stands behind `module` and blanks, as the scan sees it
type_at : (from : ℕ) (bs : List ℕ) → (get_or bs from 0 == 116 && get_or bs (from + 1) 0 == 121 && get_or bs (from + 2) 0 == 112 && get_or bs (from + 3) 0 == 101) ≡ (get_or (drop from bs) 0 0 == 116 && get_or (drop from bs) 1 0 == 121 && get_or (drop from bs) 2 0 == 112 && get_or (drop from bs) 3 0 == 101)
type_at from bs =
    let first : get_or bs from 0 ≡ get_or (drop from bs) 0 0 = zero_add ∙ sym (get_or-drop from bs 0 0) in
    ap (λ x. x == 116 && get_or bs (from + 1) 0 == 121 && get_or bs (from + 2) 0 == 112 && get_or bs (from + 3) 0 == 101) first
    ∙ ap (λ x. get_or (drop from bs) 0 0 == 116 && x == 121 && get_or bs (from + 2) 0 == 112 && get_or bs (from + 3) 0 == 101) (sym (get_or-drop from bs 1 0))
    ∙ ap (λ x. get_or (drop from bs) 0 0 == 116 && get_or (drop from bs) 1 0 == 121 && x == 112 && get_or bs (from + 3) 0 == 101) (sym (get_or-drop from bs 2 0))
    ∙ ap (λ x. get_or (drop from bs) 0 0 == 116 && get_or (drop from bs) 1 0 == 121 && get_or (drop from bs) 2 0 == 112 && x == 101) (sym (get_or-drop from bs 3 0))
  where
    zero_add : get_or bs from 0 ≡ get_or bs (from + 0) 0
    zero_add = let same : from ≡ from + 0 = omega arith in ap (λ k. get_or bs k 0) same

-- `module type` is found where it stands as whole words
module_type_is : (a behind : List ℕ) → Run is_blank is_blank a → begins goes_on behind ≡ false → (is_module_type (run_end goes_on 0 (codes "module" ++ (a ++ (codes "type" ++ behind)))) (codes "module" ++ (a ++ (codes "type" ++ behind))) ≡ true) × (module_type_end (run_end goes_on 0 (codes "module" ++ (a ++ (codes "type" ++ behind)))) (codes "module" ++ (a ++ (codes "type" ++ behind))) ≡ 6 + length a + 4)
module_type_is [] behind run ends = absurd run
module_type_is (x ∷ xs) behind run ends =
    let a = x ∷ xs in
    let tail = codes "type" ++ behind in
    let bs = codes "module" ++ (a ++ tail) in
    let blanks : list_all is_blank a ≡ true = and_from (is_blank x) (list_all is_blank xs) run.0 run.1 in
    let word : run_length goes_on bs ≡ 6 = run_exact goes_on (codes "module") (a ++ tail) refl (blank_no_name x run.0) in
    let end : run_end goes_on 0 bs ≡ 6 = omega (arith, word) in
    let gap : run_end is_blank 6 bs ≡ 6 + length a = ap (λ k. 6 + k) (run_exact is_blank a tail blanks refl) in
    let there : drop (6 + length a) bs ≡ tail = sym (drop-drop (length a) 6 bs) ∙ drop-append_seam a tail in
    let last : module_type_end 6 bs ≡ 6 + length a + 4 = ap (λ k. run_end goes_on k bs) gap ∙ ap (λ (l : List ℕ). 6 + length a + run_length goes_on l) there ∙ ap (λ k. 6 + length a + k) (run_exact goes_on (codes "type") behind refl ends) in
    let letters : (get_or bs (6 + length a) 0 == 116 && get_or bs (6 + length a + 1) 0 == 121 && get_or bs (6 + length a + 2) 0 == 112 && get_or bs (6 + length a + 3) 0 == 101) ≡ true =
    type_at (6 + length a) bs ∙ ap (λ (l : List ℕ). get_or l 0 0 == 116 && get_or l 1 0 == 121 && get_or l 2 0 == 112 && get_or l 3 0 == 101) there in
    let typed : is_type_word (6 + length a) (6 + length a + 4) bs ≡ true = type_word_from (6 + length a) bs letters in
    let longer : nat_lt 6 (6 + length a) ≡ true = lt-ltb 6 (6 + length a) (omega arith) in (
      ap (λ k. is_module_type k bs) end ∙ ap (λ k. is_module_word 6 bs && nat_lt 6 k && is_type_word k (run_end goes_on k bs) bs) gap
          ∙ ap (λ k. is_module_word 6 bs && nat_lt 6 (6 + length a) && is_type_word (6 + length a) k bs) (sym (ap (λ k. run_end goes_on k bs) gap) ∙ last)
          ∙ and_from (is_module_word 6 bs && nat_lt 6 (6 + length a)) (is_type_word (6 + length a) (6 + length a + 4) bs) (and_from (is_module_word 6 bs) (nat_lt 6 (6 + length a)) refl longer) typed,
      ap (λ k. module_type_end k bs) end ∙ last,
    )

-- the words are spelled where the scan finds them
module_type_there : (bs : List ℕ) → is_module_type (run_end goes_on 0 bs) bs ≡ true → (a : List ℕ) × (rest : List ℕ) × (bs ≡ (codes "module" ++ a ++ codes "type") ++ rest) × (Run is_blank is_blank a) × (begins goes_on rest ≡ false) × (module_type_end (run_end goes_on 0 bs) bs ≡ length (codes "module" ++ a ++ codes "type"))
module_type_there bs is =
    let end = run_end goes_on 0 bs in
    let gap = run_end is_blank end bs in
    let parts = and_parts (is_module_word end bs && nat_lt end gap) (is_type_word gap (module_type_end end bs) bs) is in
    let parts2 = and_parts (is_module_word end bs) (nat_lt end gap) parts.0 in
    let letters = module_letters end bs parts2.0 in
    let typed = type_letters gap (module_type_end end bs) bs parts.1 in
    let l = drop 6 bs in
    let n = run_length is_blank l in
    let gap_is : gap ≡ 6 + n = ap (λ k. run_end is_blank k bs) letters.0 in
    let some : 0 < n = omega (arith, ltb-true end gap parts2.1, letters.0, gap_is) in
    let tail = drop n l in
    let there : drop gap bs ≡ tail = ap (λ k. drop k bs) gap_is ∙ sym (drop-drop n 6 bs) in
    let word : tail ≡ codes "type" ++ drop 4 tail = four_known tail (ap (λ (x : List ℕ). get_or x 0 0 == 116 && get_or x 1 0 == 121 && get_or x 2 0 == 112 && get_or x 3 0 == 101) (sym there) ∙ sym (type_at gap bs) ∙ typed.1) in
    let rest = drop 4 tail in
    let a = take n l in
    let size : gap + run_length goes_on tail ≡ gap + 4 = ap (λ (x : List ℕ). gap + run_length goes_on x) (sym there) ∙ typed.0 in
    let four : run_length goes_on tail ≡ 4 = omega (arith, size) in
    let ends : begins goes_on rest ≡ false = ap (λ k. begins goes_on (drop k tail)) (sym four) ∙ run_stops goes_on tail in
    let whole : bs ≡ (codes "module" ++ a ++ codes "type") ++ rest = six_known bs letters.1 ∙ ap (λ (x : List ℕ). codes "module" ++ x) (sym (take-append-drop n l) ∙ ap (λ (x : List ℕ). a ++ x) word ∙ sym (append_assoc a (codes "type") rest)) in
    (a, rest, whole, blank_run l some, ends, omega (arith, typed.0, gap_is, length-append a (codes "type"), run_le is_blank l, length-take n l))

pub word_is : (bs : List ℕ) → 0 < length bs → is_lower (get_or bs 0 0) ≡ true → FoundIs word_class bs (word_found bs)
unfolding word_found
word_is bs some is =
    let n = run_length goes_on bs in
    let end : run_end goes_on 0 bs ≡ n = omega arith in
    let short : (front behind : List ℕ) → bs ≡ front ++ behind → Run is_lower goes_on front → length front ≤ n = λ front behind whole r.
    subst (λ (l : List ℕ). length front ≤ run_length goes_on l) (sym whole) (front_in_run goes_on front behind (run_all is_lower goes_on front lower_goes_on r)) in
    let found_too : (front behind : List ℕ) → bs ≡ front ++ behind → IsModuleType front behind → (is_module_type (run_end goes_on 0 bs) bs ≡ true) × (module_type_end (run_end goes_on 0 bs) bs ≡ length front) = λ front behind whole m.
    (let order : bs ≡ codes "module" ++ (m.0 ++ (codes "type" ++ behind)) = whole ∙ ap (λ (l : List ℕ). l ++ behind) m.2 ∙ ap (λ (l : List ℕ). codes "module" ++ l) (append_assoc m.0 (codes "type") behind) in
    let there = module_type_is m.0 behind m.1 m.3 in
    (ap (λ (l : List ℕ). is_module_type (run_end goes_on 0 l) l) order ∙ there.0, ap (λ (l : List ℕ). module_type_end (run_end goes_on 0 l) l) order ∙ there.1 ∙ omega (arith, ap length m.2, length-append m.0 (codes "type")))) in
    elim (is_module_type (run_end goes_on 0 bs) bs) as (λ t. is_module_type (run_end goes_on 0 bs) bs ≡ t → FoundIs word_class bs (if t then found module_type (module_type_end (run_end goes_on 0 bs) bs) else found (word_kind (take (run_end goes_on 0 bs) bs)) (run_end goes_on 0 bs))) [
      | true ↦ λ e.
          let m = module_type_there bs e in
          is_spelled (plainly word_class bs (codes "module" ++ m.0 ++ codes "type") m.1 module_type (module_type_end (run_end goes_on 0 bs) bs) m.2 m.5 (a_module_type m.0 m.3 m.4) (λ front behind whole of. elim of [
            | inl r ↦ omega (arith, short front behind whole r, end_before bs)
            | inr x ↦ omega (arith, (found_too front behind whole x).1)
          ]))
      | false ↦ λ e.
          let kind : word_kind (take n bs) ≡ word_kind (take (run_end goes_on 0 bs) bs) = ap (λ k. word_kind (take k bs)) (sym end) in
          let run = run_front is_lower goes_on bs some is (lower_goes_on (get_or bs 0 0) is) in
          is_spelled (plainly word_class bs (take n bs) (drop n bs) (word_kind (take (run_end goes_on 0 bs) bs)) (run_end goes_on 0 bs) (sym (take-append-drop n bs)) (omega (arith, run_le goes_on bs, length-take n bs))
          (subst (λ (k : Kind). Spells k (take n bs) (take n bs) (drop n bs)) kind (a_word run))
          (λ front behind whole of. elim of [
            | inl r ↦ omega (arith, short front behind whole r)
            | inr x ↦ absurd (both_ways (is_module_type (run_end goes_on 0 bs) bs) e (found_too front behind whole x).0)
          ]))
    ] refl
