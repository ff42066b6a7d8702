-- What begins with `(`, where no comment does.
use Rattle.std.proofs.Common.{◌≡◌, ◌+◌, ◌-◌, ◌≤◌, ◌<◌, ◌++◌, ◌∷◌, [], ℕ, suc, List, Bool, true, false, take, drop, length, get_or, sym, arith, refl, ap, ◌∙◌, append_assoc, length-append, length-take, inl, inr, Option, Some, None}
use Rattle.std.specs.Prelude.{if◌then◌else◌, ◌&&◌, ◌==◌, codes}
use Rattle.std.specs.List.{list_all}
use Rattle.std.proofs.Math.Seq.{drop-append_seam, take-append_seam}
use Rattle.std.proofs.lemmas.List.{take-append-drop, drop-drop, get_or-drop}
use Rattle.std.proofs.lemmas.Bool.{and_parts, and_from, eqb-true, eq-eqb, both_ways}
use Rattle.std.proofs.lemmas.Bool.Decides.{nat_tests}
use Rattle.token_model.specs.Kinds.{Kind, unit, op_name, left_paren, colon_equal, op14, op13, op12, op10, op9, op8, op7, prefix}
use Rattle.token_model.specs.Bytes.{is_blank, is_sign, is_lower, goes_on, begins_operator, begins}
use Rattle.token_model.specs.Words.{sign_kind, word_kind}
use Rattle.token_model.specs.Spellings.{Run, AreBlanks, Spells, a_mark, a_unit, an_op_name, left_paren_mark, IsOperatorKind, kind14, kind13, kind12, kind10, kind9, kind8, kind7, prefix_kind, assignment_kind, IsOperator, sign_operator, word_operator, assignment}
use Rattle.ml_lexer.specs.Scans.{Found, found, run_length, run_end, operator_end, is_operator_kind, op_name_found, paren_found}
use Rattle.ml_lexer.proofs.Runs.{run_exact, run_passes, run_le}
use Rattle.ml_lexer.proofs.Quoted.{first_known, split_at}
use Rattle.ml_lexer.proofs.Inside.{two_known}
use Rattle.ml_lexer.proofs.Classes.{by_class, ParenMark, one_paren, paren_class}
use Rattle.ml_lexer.proofs.Spelled.{NoLonger, run_all, run_front}
use Rattle.ml_lexer.proofs.SpelledMarks.{FoundIs, is_spelled, size_of}
use Rattle.ml_lexer.proofs.SpelledBrackets.{byte_behind, blanks_cut}

kind_from : (k : Kind) → is_operator_kind k ≡ true → IsOperatorKind k
kind_from op14 is = kind14
kind_from op13 is = kind13
kind_from op12 is = kind12
kind_from op10 is = kind10
kind_from op9 is = kind9
kind_from op8 is = kind8
kind_from op7 is = kind7
kind_from prefix is = prefix_kind
kind_from colon_equal is = assignment_kind
kind_from other is = absurd (both_ways false refl is)

kind_to : {k : Kind} → IsOperatorKind k → is_operator_kind k ≡ true
kind_to kind14 = refl
kind_to kind13 = refl
kind_to kind12 = refl
kind_to kind10 = refl
kind_to kind9 = refl
kind_to kind8 = refl
kind_to kind7 = refl
kind_to prefix_kind = refl
kind_to assignment_kind = refl

operator_is_sign : (b : ℕ) → begins_operator b ≡ true → is_sign b ≡ true
operator_is_sign b is = grind (arith, nat_tests)

lower_goes_on : (b : ℕ) → is_lower b ≡ true → goes_on b ≡ true
lower_goes_on b is = grind (arith, nat_tests)

lower_not_operator : (b : ℕ) → is_lower b ≡ true → begins_operator b ≡ false
lower_not_operator b is = grind (arith, nat_tests)

blank_no_sign : (b : ℕ) → is_blank b ≡ true → is_sign b ≡ false
blank_no_sign b is = grind (arith, nat_tests)

blank_no_name : (b : ℕ) → is_blank b ≡ true → goes_on b ≡ false
blank_no_name b is = grind (arith, nat_tests)

operator_no_blank : (b : ℕ) → begins_operator b ≡ true → (is_blank b ≡ false) × ((b == 41) ≡ false)
operator_no_blank b is = (grind (arith, nat_tests), grind (arith, nat_tests))

lower_no_blank : (b : ℕ) → is_lower b ≡ true → (is_blank b ≡ false) × ((b == 41) ≡ false)
lower_no_blank b is = (grind (arith, nat_tests), grind (arith, nat_tests))

-- the scan for an operator, over what stands at the place
abbrev operator_there : ℕ → List ℕ → Option (Kind × ℕ)
operator_there from l = if begins_operator (get_or l 0 0) then Some (sign_kind (take (run_length is_sign l) l), from + run_length is_sign l) else (if is_lower (get_or l 0 0) then Some (word_kind (take (run_length goes_on l) l), from + run_length goes_on l) else (if get_or l 0 0 == 58 && get_or l 1 0 == 61 then Some (colon_equal, from + 2) else None))

operator_end_is : (from : ℕ) (bs : List ℕ) → operator_end from bs ≡ operator_there from (drop from bs)
operator_end_is from bs =
    let l = drop from bs in
    let first : get_or bs from 0 ≡ get_or l 0 0 = ap (λ k. get_or bs k 0) (omega arith) ∙ sym (get_or-drop from bs 0 0) in
    let second : get_or bs (from + 1) 0 ≡ get_or l 1 0 = sym (get_or-drop from bs 1 0) in
    let sign : from + run_length is_sign l - from ≡ run_length is_sign l = omega arith in
    let word : from + run_length goes_on l - from ≡ run_length goes_on l = omega arith in
    ap (λ b. if begins_operator b then Some (sign_kind (take (from + run_length is_sign l - from) l), from + run_length is_sign l) else (if is_lower b then Some (word_kind (take (from + run_length goes_on l - from) l), from + run_length goes_on l) else (if b == 58 && get_or bs (from + 1) 0 == 61 then Some (colon_equal, from + 2) else None))) first
    ∙ ap (λ b. if begins_operator (get_or l 0 0) then Some (sign_kind (take (from + run_length is_sign l - from) l), from + run_length is_sign l) else (if is_lower (get_or l 0 0) then Some (word_kind (take (from + run_length goes_on l - from) l), from + run_length goes_on l) else (if get_or l 0 0 == 58 && b == 61 then Some (colon_equal, from + 2) else None))) second
    ∙ ap (λ n. if begins_operator (get_or l 0 0) then Some (sign_kind (take n l), from + run_length is_sign l) else (if is_lower (get_or l 0 0) then Some (word_kind (take (from + run_length goes_on l - from) l), from + run_length goes_on l) else (if get_or l 0 0 == 58 && get_or l 1 0 == 61 then Some (colon_equal, from + 2) else None))) sign
    ∙ ap (λ n. if begins_operator (get_or l 0 0) then Some (sign_kind (take (run_length is_sign l) l), from + run_length is_sign l) else (if is_lower (get_or l 0 0) then Some (word_kind (take n l), from + run_length goes_on l) else (if get_or l 0 0 == 58 && get_or l 1 0 == 61 then Some (colon_equal, from + 2) else None))) word

-- an operator before what no operator goes on with is found
abbrev IsScanned : ℕ → List ℕ → List ℕ → Type 0
IsScanned from o tail = (k : Kind) × (operator_there from (o ++ tail) ≡ Some (k, from + length o)) × (is_operator_kind k ≡ true)

sign_scanned : (from : ℕ) (o tail : List ℕ) → Run begins_operator is_sign o → IsOperatorKind (sign_kind o) → begins is_sign tail ≡ false → IsScanned from o tail
sign_scanned from [] tail run kind ends = absurd run
sign_scanned from (b ∷ bs) tail run kind ends =
    let l = (b ∷ bs) ++ tail in
    let exact : run_length is_sign l ≡ length (b ∷ bs) = run_exact is_sign (b ∷ bs) tail (run_all begins_operator is_sign (b ∷ bs) operator_is_sign run) ends in (
      sign_kind (b ∷ bs),
      ap (λ t. if t then Some (sign_kind (take (run_length is_sign l) l), from + run_length is_sign l) else (if is_lower b then Some (word_kind (take (run_length goes_on l) l), from + run_length goes_on l) else (if b == 58 && get_or l 1 0 == 61 then Some (colon_equal, from + 2) else None))) run.0
          ∙ ap (λ n. Some (sign_kind (take n l), from + n)) exact ∙ ap (λ (w : List ℕ). Some (sign_kind w, from + length (b ∷ bs))) (take-append_seam (b ∷ bs) tail),
      kind_to kind,
    )

word_scanned : (from : ℕ) (o tail : List ℕ) → Run is_lower goes_on o → IsOperatorKind (word_kind o) → begins goes_on tail ≡ false → IsScanned from o tail
word_scanned from [] tail run kind ends = absurd run
word_scanned from (b ∷ bs) tail run kind ends =
    let l = (b ∷ bs) ++ tail in
    let exact : run_length goes_on l ≡ length (b ∷ bs) = run_exact goes_on (b ∷ bs) tail (run_all is_lower goes_on (b ∷ bs) lower_goes_on run) ends in (
      word_kind (b ∷ bs),
      ap (λ t. if t then Some (sign_kind (take (run_length is_sign l) l), from + run_length is_sign l) else (if is_lower b then Some (word_kind (take (run_length goes_on l) l), from + run_length goes_on l) else (if b == 58 && get_or l 1 0 == 61 then Some (colon_equal, from + 2) else None))) (lower_not_operator b run.0)
          ∙ ap (λ t. if t then Some (word_kind (take (run_length goes_on l) l), from + run_length goes_on l) else (if b == 58 && get_or l 1 0 == 61 then Some (colon_equal, from + 2) else None)) run.0
          ∙ ap (λ n. Some (word_kind (take n l), from + n)) exact ∙ ap (λ (w : List ℕ). Some (word_kind w, from + length (b ∷ bs))) (take-append_seam (b ∷ bs) tail),
      kind_to kind,
    )

operator_scanned : (from : ℕ) (o tail : List ℕ) → IsOperator o → begins is_sign tail ≡ false → begins goes_on tail ≡ false → IsScanned from o tail
operator_scanned from o tail (sign_operator run kind) signs names = sign_scanned from o tail run kind signs
operator_scanned from o tail (word_operator run kind) signs names = word_scanned from o tail run kind names
operator_scanned from o tail assignment signs names = (colon_equal, refl, refl)

-- the first byte of an operator is neither a blank nor `)`
operator_first : (o tail : List ℕ) → IsOperator o → (begins is_blank (o ++ tail) ≡ false) × ((get_or (o ++ tail) 0 0 == 41) ≡ false)
operator_first o tail (sign_operator run kind) = first o run
  where
    first : (w : List ℕ) → Run begins_operator is_sign w → (begins is_blank (w ++ tail) ≡ false) × ((get_or (w ++ tail) 0 0 == 41) ≡ false)
    first [] r = absurd r
    first (b ∷ bs) r = operator_no_blank b r.0
operator_first o tail (word_operator run kind) = first o run
  where
    first : (w : List ℕ) → Run is_lower goes_on w → (begins is_blank (w ++ tail) ≡ false) × ((get_or (w ++ tail) 0 0 == 41) ≡ false)
    first [] r = absurd r
    first (b ∷ bs) r = lower_no_blank b r.0
operator_first o tail assignment = (refl, refl)

-- what an operator in parentheses may go on with ends it
blanks_end : (z behind : List ℕ) → AreBlanks z → (begins is_sign (z ++ 41 ∷ behind) ≡ false) × (begins goes_on (z ++ 41 ∷ behind) ≡ false)
blanks_end [] behind all = (refl, refl)
blanks_end (b ∷ bs) behind all = let parts = and_parts (is_blank b) (list_all is_blank bs) all in (blank_no_sign b parts.0, blank_no_name b parts.0)

-- what the scan finds is an operator
sign_found_there : (from : ℕ) (l : List ℕ) → begins_operator (get_or l 0 0) ≡ true → is_operator_kind (sign_kind (take (run_length is_sign l) l)) ≡ true → IsOperator (take (run_length is_sign l) l)
sign_found_there from [] is kind = absurd (both_ways (begins_operator 0) refl is)
sign_found_there from (b ∷ bs) is kind = sign_operator (run_front begins_operator is_sign (b ∷ bs) (omega arith) is (operator_is_sign b is)) (kind_from (sign_kind (take (run_length is_sign (b ∷ bs)) (b ∷ bs))) kind)

word_found_there : (from : ℕ) (l : List ℕ) → is_lower (get_or l 0 0) ≡ true → is_operator_kind (word_kind (take (run_length goes_on l) l)) ≡ true → IsOperator (take (run_length goes_on l) l)
word_found_there from [] is kind = absurd (both_ways (is_lower 0) refl is)
word_found_there from (b ∷ bs) is kind = word_operator (run_front is_lower goes_on (b ∷ bs) (omega arith) is (lower_goes_on b is)) (kind_from (word_kind (take (run_length goes_on (b ∷ bs)) (b ∷ bs))) kind)

abbrev HasOperator : ℕ → List ℕ → ℕ → Type 0
HasOperator from l e = (o : List ℕ) × (tail : List ℕ) × (l ≡ o ++ tail) × (IsOperator o) × (e ≡ from + length o)

pair_same : {a b : Kind × ℕ} → Some a ≡ Some b → a ≡ b
pair_same e = cc

none_not_some : {A : Type 0} {x : A} → None ≡ Some x → ⊥
none_not_some e = cc

abbrev assigns : ℕ → List ℕ → Option (Kind × ℕ)
assigns from l = if get_or l 0 0 == 58 && get_or l 1 0 == 61 then Some (colon_equal, from + 2) else None

abbrev names : ℕ → List ℕ → Option (Kind × ℕ)
names from l = if is_lower (get_or l 0 0) then Some (word_kind (take (run_length goes_on l) l), from + run_length goes_on l) else assigns from l

operator_found : (from : ℕ) (l : List ℕ) (op : Kind × ℕ) → operator_there from l ≡ Some op → is_operator_kind op.0 ≡ true → HasOperator from l op.1
operator_found from l op =
    elim (begins_operator (get_or l 0 0)) as (λ t. begins_operator (get_or l 0 0) ≡ t → (if t then Some (sign_kind (take (run_length is_sign l) l), from + run_length is_sign l) else names from l) ≡ Some op → is_operator_kind op.0 ≡ true → HasOperator from l op.1) [
      | true ↦ λ is. λ e. λ kind.
          let same = pair_same e in
          (take (run_length is_sign l) l, drop (run_length is_sign l) l, sym (take-append-drop (run_length is_sign l) l), sign_found_there from l is (ap (λ (p : Kind × ℕ). is_operator_kind p.0) same ∙ kind), sym (ap (λ (p : Kind × ℕ). p.1) same) ∙ ap (λ n. from + n) (long is_sign l))
      | false ↦ λ none. elim (is_lower (get_or l 0 0)) as (λ t. is_lower (get_or l 0 0) ≡ t → (if t then Some (word_kind (take (run_length goes_on l) l), from + run_length goes_on l) else assigns from l) ≡ Some op → is_operator_kind op.0 ≡ true → HasOperator from l op.1) [
        | true ↦ λ is. λ e. λ kind.
            let same = pair_same e in
            (take (run_length goes_on l) l, drop (run_length goes_on l) l, sym (take-append-drop (run_length goes_on l) l), word_found_there from l is (ap (λ (p : Kind × ℕ). is_operator_kind p.0) same ∙ kind), sym (ap (λ (p : Kind × ℕ). p.1) same) ∙ ap (λ n. from + n) (long goes_on l))
        | false ↦ λ none. elim (get_or l 0 0 == 58 && get_or l 1 0 == 61) as (λ t. (get_or l 0 0 == 58 && get_or l 1 0 == 61) ≡ t → (if t then Some (colon_equal, from + 2) else None) ≡ Some op → is_operator_kind op.0 ≡ true → HasOperator from l op.1) [
          | true ↦ λ is. λ e. λ kind. (codes ":=", drop 2 l, two_known 58 61 l is (omega arith) (omega arith), assignment, sym (ap (λ (p : Kind × ℕ). p.1) (pair_same e)))
          | false ↦ λ none. λ e. λ kind. absurd (none_not_some e)
        ] refl
      ] refl
    ] refl
  where
    long : (test : ℕ → Bool) (w : List ℕ) → run_length test w ≡ length (take (run_length test w) w)
    long test w = omega (arith, length-take (run_length test w) w, run_le test w)

-- a byte behind a front
seam_get : (a l : List ℕ) → get_or (a ++ l) (length a) 0 ≡ get_or l 0 0
seam_get [] l = refl
seam_get (x ∷ a) l = seam_get a l

seam_drop : (a l : List ℕ) → drop (length a) (a ++ l) ≡ l
seam_drop a l = drop-append_seam a l

-- what is found is spelled there
record IsNamed (bs : List ℕ) (f : Found) : Type 0 where
  pub spelled : List ℕ
  pub name : List ℕ
  pub rest : List ℕ
  pub whole : bs ≡ spelled ++ rest
  pub size : f.size ≡ length spelled
  pub named : take f.name_size (drop f.name_start bs) ≡ name
  pub spells : Spells f.kind spelled name rest

-- the parts of an operator in parentheses in one order
canonical : (a o z rest : List ℕ) → (40 ∷ a ++ o ++ z ++ codes ")") ++ rest ≡ 40 ∷ (a ++ (o ++ (z ++ 41 ∷ rest)))
canonical a o z rest =
    append_assoc (40 ∷ a ++ o ++ z) (codes ")") rest ∙ append_assoc (40 ∷ a ++ o) z (41 ∷ rest) ∙ append_assoc (40 ∷ a) o (z ++ 41 ∷ rest)

long : (a o z : List ℕ) → length (40 ∷ a ++ o ++ z ++ codes ")") ≡ suc (length a) + length o + length z + 1
long a o z = omega (arith, length-append (40 ∷ a ++ o ++ z) (codes ")"), length-append (40 ∷ a ++ o) z, length-append (40 ∷ a) o)

spelled_some : {k : Kind} {w n rest : List ℕ} → Spells k w n rest → 0 < length w
spelled_some s = (by_class s).some

unit_there : (b : ℕ) (cs : List ℕ) → b ≡ 40 → (get_or (b ∷ cs) (run_end is_blank 1 (b ∷ cs)) 0 == 41) ≡ true → IsNamed (b ∷ cs) (found unit (run_end is_blank 1 (b ∷ cs) + 1))
unit_there b cs is e =
    let n = run_length is_blank cs in
    let last : get_or cs n 0 ≡ 41 = sym (byte_behind b cs) ∙ eqb-true (get_or (b ∷ cs) (run_end is_blank 1 (b ∷ cs)) 0) 41 e in
    let a = take n cs in
    let w = 40 ∷ a ++ codes ")" in
    let whole : b ∷ cs ≡ w ++ drop (suc n) cs = ap (λ x. x ∷ cs) is ∙ ap (λ (l : List ℕ). 40 ∷ l) (blanks_cut cs 41 last (omega arith)) in
    let size : 1 + n + 1 ≡ length w = omega (arith, length-append a (codes ")"), run_le is_blank cs, length-take n cs) in
    record { spelled = w; name = w; rest = drop (suc n) cs; whole = whole; size = size; named = ap (λ (l : List ℕ). take (1 + n + 1) l) whole ∙ ap (λ k. take k (w ++ drop (suc n) cs)) size ∙ take-append_seam w (drop (suc n) cs); spells = a_unit a (run_passes is_blank cs) }

left_there : (bs : List ℕ) → get_or bs 0 0 ≡ 40 → IsNamed bs (found left_paren 1)
left_there bs is =
    let whole = first_known bs 40 is (omega arith) in
    record { spelled = codes "("; name = codes "("; rest = drop 1 bs; whole = whole; size = refl; named = ap (λ (l : List ℕ). take 1 l) whole; spells = a_mark left_paren_mark }

op_there : (b : ℕ) (cs : List ℕ) (op : Kind × ℕ) → b ≡ 40 → operator_end (run_end is_blank 1 (b ∷ cs)) (b ∷ cs) ≡ Some op → is_operator_kind op.0 ≡ true → get_or (b ∷ cs) (run_end is_blank op.1 (b ∷ cs)) 0 ≡ 41
    → IsNamed (b ∷ cs) (record { kind = op_name; size = run_end is_blank op.1 (b ∷ cs) + 1; name_start = run_end is_blank 1 (b ∷ cs); name_size = op.1 - run_end is_blank 1 (b ∷ cs) })
op_there b cs op is some kind last =
    let n = run_length is_blank cs in
    let from = run_end is_blank 1 (b ∷ cs) in
    let place : from ≡ suc n = omega arith in
    let here : drop from (b ∷ cs) ≡ drop n cs = ap (λ k. drop k (b ∷ cs)) place in
    let found_op = operator_found from (drop from (b ∷ cs)) op (sym (operator_end_is from (b ∷ cs)) ∙ some) kind in
    let o = found_op.0 in
    let tail = found_op.1 in
    let e = op.1 in
    let behind : drop e (b ∷ cs) ≡ tail = ap (λ k. drop k (b ∷ cs)) found_op.4 ∙ sym (drop-drop (length o) from (b ∷ cs)) ∙ ap (λ (l : List ℕ). drop (length o) l) found_op.2 ∙ seam_drop o tail in
    let m = run_length is_blank tail in
    let end : run_end is_blank e (b ∷ cs) ≡ e + m = ap (λ (l : List ℕ). e + run_length is_blank l) behind in
    let closes : get_or tail m 0 ≡ 41 = ap (λ (l : List ℕ). get_or l m 0) (sym behind) ∙ get_or-drop e (b ∷ cs) m 0 ∙ ap (λ k. get_or (b ∷ cs) k 0) (sym end) ∙ last in
    let a = take n cs in
    let z = take m tail in
    let rest = drop (suc m) tail in
    let w = 40 ∷ a ++ o ++ z ++ codes ")" in
    let inner : cs ≡ a ++ (o ++ (z ++ 41 ∷ rest)) = sym (take-append-drop n cs) ∙ ap (λ (l : List ℕ). a ++ l) (sym here ∙ found_op.2 ∙ ap (λ (l : List ℕ). o ++ l) (split_at tail m 41 closes (omega arith))) in
    let whole : b ∷ cs ≡ w ++ rest = ap (λ x. x ∷ cs) is ∙ ap (λ (l : List ℕ). 40 ∷ l) inner ∙ sym (canonical a o z rest) in
    let size : run_end is_blank e (b ∷ cs) + 1 ≡ length w = omega (arith, end, found_op.4, long a o z, run_le is_blank cs, length-take n cs, run_le is_blank tail, length-take m tail) in
    let shown : e - from ≡ length o = omega (arith, found_op.4) in
    record { spelled = w; name = o; rest = rest; whole = whole; size = size; named = ap (λ k. take k (drop from (b ∷ cs))) shown ∙ ap (λ (l : List ℕ). take (length o) l) found_op.2 ∙ take-append_seam o tail; spells = an_op_name a z (run_passes is_blank cs) found_op.3 (run_passes is_blank tail) }

paren_or : (b : ℕ) (cs : List ℕ) (o : Option (Kind × ℕ)) → b ≡ 40 → operator_end (run_end is_blank 1 (b ∷ cs)) (b ∷ cs) ≡ o → IsNamed (b ∷ cs) (op_name_found (run_end is_blank 1 (b ∷ cs)) o (b ∷ cs))
paren_or b cs None is eq = left_there (b ∷ cs) is
paren_or b cs (Some op) is eq =
    elim (is_operator_kind op.0 && get_or (b ∷ cs) (run_end is_blank op.1 (b ∷ cs)) 0 == 41) as (λ t. (is_operator_kind op.0 && get_or (b ∷ cs) (run_end is_blank op.1 (b ∷ cs)) 0 == 41) ≡ t → IsNamed (b ∷ cs) (if t then record { kind = op_name; size = run_end is_blank op.1 (b ∷ cs) + 1; name_start = run_end is_blank 1 (b ∷ cs); name_size = op.1 - run_end is_blank 1 (b ∷ cs) } else found left_paren 1)) [
      | true ↦ λ e. let parts = and_parts (is_operator_kind op.0) (get_or (b ∷ cs) (run_end is_blank op.1 (b ∷ cs)) 0 == 41) e in op_there b cs op is eq parts.0 (eqb-true (get_or (b ∷ cs) (run_end is_blank op.1 (b ∷ cs)) 0) 41 parts.1)
      | false ↦ λ e. left_there (b ∷ cs) is
    ] refl

paren_there : (bs : List ℕ) → get_or bs 0 0 ≡ 40 → IsNamed bs (paren_found bs)
unfolding paren_found
paren_there [] is = absurd (omega (arith, is))
paren_there (b ∷ cs) is =
    elim (get_or (b ∷ cs) (run_end is_blank 1 (b ∷ cs)) 0 == 41) as (λ t. (get_or (b ∷ cs) (run_end is_blank 1 (b ∷ cs)) 0 == 41) ≡ t → IsNamed (b ∷ cs) (if t then found unit (run_end is_blank 1 (b ∷ cs) + 1) else op_name_found (run_end is_blank 1 (b ∷ cs)) (operator_end (run_end is_blank 1 (b ∷ cs)) (b ∷ cs)) (b ∷ cs))) [
      | true ↦ λ e. unit_there b cs is e
      | false ↦ λ e. paren_or b cs (operator_end (run_end is_blank 1 (b ∷ cs)) (b ∷ cs)) is refl
    ] refl

-- a unit at the front is found
unit_longest : (a behind : List ℕ) → AreBlanks a → (paren_found (40 ∷ a ++ 41 ∷ behind)).size ≡ suc (length a) + 1
unfolding paren_found
unit_longest a behind blanks =
    let cs = a ++ 41 ∷ behind in
    let bs = 40 ∷ cs in
    let exact : run_length is_blank cs ≡ length a = run_exact is_blank a (41 ∷ behind) blanks refl in
    let test : (get_or bs (run_end is_blank 1 bs) 0 == 41) ≡ true = eq-eqb (get_or bs (run_end is_blank 1 bs) 0) 41 (byte_behind 40 cs ∙ ap (λ k. get_or cs k 0) exact ∙ seam_get a (41 ∷ behind)) in
    ap (λ t. size_of (if t then found unit (run_end is_blank 1 bs + 1) else op_name_found (run_end is_blank 1 bs) (operator_end (run_end is_blank 1 bs) bs) bs)) test ∙ omega (arith, exact)

op_size : (from : ℕ) (k : Kind) (e : ℕ) (bs : List ℕ) → is_operator_kind k ≡ true → get_or bs (run_end is_blank e bs) 0 ≡ 41 → (op_name_found from (Some (k, e)) bs).size ≡ run_end is_blank e bs + 1
op_size from k e bs kind last = ap (λ t. size_of (if t then record { kind = op_name; size = run_end is_blank e bs + 1; name_start = from; name_size = e - from } else found left_paren 1)) (and_from (is_operator_kind k) (get_or bs (run_end is_blank e bs) 0 == 41) kind (eq-eqb (get_or bs (run_end is_blank e bs) 0) 41 last))

-- an operator in parentheses at the front is found
op_longest : (a o z behind : List ℕ) → AreBlanks a → IsOperator o → AreBlanks z → (paren_found (40 ∷ a ++ (o ++ (z ++ 41 ∷ behind)))).size ≡ suc (length a) + length o + length z + 1
unfolding paren_found
op_longest a o z behind before is after =
    let tail = z ++ 41 ∷ behind in
    let cs = a ++ (o ++ tail) in
    let bs = 40 ∷ cs in
    let from = run_end is_blank 1 bs in
    let first = operator_first o tail is in
    let exact : run_length is_blank cs ≡ length a = run_exact is_blank a (o ++ tail) before first.0 in
    let place : from ≡ suc (length a) = omega (arith, exact) in
    let here : drop from bs ≡ o ++ tail = ap (λ k. drop k bs) place ∙ seam_drop a (o ++ tail) in
    let test : (get_or bs from 0 == 41) ≡ false = ap (λ k. get_or bs k 0 == 41) place ∙ ap (λ k. k == 41) (seam_get a (o ++ tail)) ∙ first.1 in
    let ends = blanks_end z behind after in
    let scan = operator_scanned from o tail is ends.0 ends.1 in
    let e = from + length o in
    let found_op : operator_end from bs ≡ Some (scan.0, e) = operator_end_is from bs ∙ ap (operator_there from) here ∙ scan.1 in
    let later : drop e bs ≡ tail = sym (drop-drop (length o) from bs) ∙ ap (λ (l : List ℕ). drop (length o) l) here ∙ seam_drop o tail in
    let end : run_end is_blank e bs ≡ e + length z = ap (λ (l : List ℕ). e + run_length is_blank l) later ∙ ap (λ k. e + k) (run_exact is_blank z (41 ∷ behind) after refl) in
    let last : get_or bs (run_end is_blank e bs) 0 ≡ 41 = ap (λ k. get_or bs k 0) end ∙ sym (get_or-drop e bs (length z) 0) ∙ ap (λ (l : List ℕ). get_or l (length z) 0) later ∙ seam_get z (41 ∷ behind) in
    let chain : size_of (if get_or bs from 0 == 41 then found unit (from + 1) else op_name_found from (operator_end from bs) bs) ≡ run_end is_blank e bs + 1 =
    ap (λ t. size_of (if t then found unit (from + 1) else op_name_found from (operator_end from bs) bs)) test ∙ ap (λ (x : Option (Kind × ℕ)). size_of (op_name_found from x bs)) found_op ∙ op_size from scan.0 e bs scan.2 last in
    chain ∙ omega (arith, end, place)

paren_longest : (bs : List ℕ) → get_or bs 0 0 ≡ 40 → NoLonger paren_class bs (paren_found bs).size
paren_longest bs is front behind whole of = elim of [
  | inl m ↦ omega (arith, mark_one m, some)
  | inr r ↦ elim r [
    | inl u ↦
        let w = 40 ∷ u.0 ++ codes ")" in
        let order : bs ≡ 40 ∷ u.0 ++ 41 ∷ behind = whole ∙ ap (λ (l : List ℕ). l ++ behind) u.2 ∙ append_assoc (40 ∷ u.0) (codes ")") behind in
        omega (arith, ap (λ (l : List ℕ). (paren_found l).size) order ∙ unit_longest u.0 behind u.1, ap length u.2, length-append u.0 (codes ")"))
    | inr p ↦
        let order : bs ≡ 40 ∷ p.0 ++ (p.1 ++ (p.2 ++ 41 ∷ behind)) = whole ∙ ap (λ (l : List ℕ). l ++ behind) p.6 ∙ canonical p.0 p.1 p.2 behind in
        omega (arith, ap (λ (l : List ℕ). (paren_found l).size) order ∙ op_longest p.0 p.1 p.2 behind p.3 p.4 p.5, ap length p.6, long p.0 p.1 p.2)
  ]
]
  where
    mark_one : {w : List ℕ} → ParenMark w → length w ≤ 1
    mark_one one_paren = omega arith

    some : 1 ≤ (paren_found bs).size
    some = let t = paren_there bs is in omega (arith, t.size, spelled_some t.spells)

pub paren_is : (bs : List ℕ) → get_or bs 0 0 ≡ 40 → FoundIs paren_class bs (paren_found bs)
paren_is bs is =
    let t = paren_there bs is in
    is_spelled (record { spelled = t.spelled; name = t.name; rest = t.rest; whole = t.whole; size = t.size; named = t.named; spells = t.spells; longest = paren_longest bs is })
