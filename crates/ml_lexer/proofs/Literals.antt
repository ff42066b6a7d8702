-- Strings, quoted strings and character literals: where a scan finds one, it is spelled, and the other way round.
use Rattle.std.proofs.Common.{◌≡◌, ◌+◌, ◌≤◌, ◌<◌, ◌++◌, ◌∷◌, [], ℕ, suc, List, Bool, true, false, drop, length, sym, subst, arith, refl, ap, ◌∙◌, append_assoc, Some, None, length-append}
use Rattle.std.specs.Prelude.{if◌then◌else◌, ◌&&◌, ◌||◌, ◌==◌}
use Rattle.std.proofs.lemmas.Bool.{and_parts, and_from, eqb-true, eq-eqb, both_ways}
use Rattle.token_model.specs.Spellings.{EndsString, end_quote, string_byte, string_escape}
use Rattle.ml_lexer.specs.Scans.{string_end, front_is, word_end}

none_not_some : {A : Type 0} {x : A} → None ≡ Some x → ⊥
none_not_some e = cc

some_same : {x y : ℕ} → Some x ≡ Some y → x ≡ y
some_same e = cc

neither : (x y : Bool) → (x || y) ≡ false → (x ≡ false) × (y ≡ false)
neither true y e = absurd (both_ways true e refl)
neither false y e = (refl, e)

-- what ends a string is found
pub string_end_is : (e rest : List ℕ) (at : ℕ) → EndsString e → string_end false at (e ++ rest) ≡ Some (at + length e)
string_end_is e rest at end_quote = ap (λ (n : ℕ). Some n) (omega arith)
string_end_is e rest at (string_byte {b = b} {bs = bs} other ends) =
    let parts = neither (b == 34) (b == 92) other in
    let size : at + 1 + length bs ≡ at + suc (length bs) = omega arith in
    ap (λ t. if t then Some (at + 1) else string_end (b == 92) (at + 1) (bs ++ rest)) parts.0 ∙ ap (λ t. string_end t (at + 1) (bs ++ rest)) parts.1 ∙ string_end_is bs rest (at + 1) ends ∙ ap (λ (n : ℕ). Some n) size
string_end_is e rest at (string_escape {b = b} {bs = bs} ends) =
    let size : at + 1 + 1 + length bs ≡ at + suc (suc (length bs)) = omega arith in
    string_end_is bs rest (at + 1 + 1) ends ∙ ap (λ (n : ℕ). Some n) size

-- what ends a string, behind a backslash or not
abbrev EndsAt : Bool → List ℕ → Type 0
EndsAt false e = EndsString e
EndsAt true [] = ⊥
EndsAt true (b ∷ e) = EndsString e

longer : (b : ℕ) (e : List ℕ) → EndsAt (b == 92) e → (b == 34) ≡ false → EndsString (b ∷ e)
longer b e ends other =
    elim (b == 92) as (λ t. b == 92 ≡ t → EndsAt t e → EndsString (b ∷ e)) [
      | true ↦ λ is. escaped e is
      | false ↦ λ is. λ ends. string_byte (ap (λ t. t || b == 92) other ∙ is) ends
    ] refl ends
  where
    escaped : (l : List ℕ) → (b == 92) ≡ true → EndsAt true l → EndsString (b ∷ l)
    escaped [] is ends = absurd ends
    escaped (c ∷ cs) is ends = subst (λ x. EndsString (x ∷ c ∷ cs)) (sym (eqb-true b 92 is)) (string_escape ends)

pub string_end_found : (escaped : Bool) (at n : ℕ) (bs : List ℕ) → string_end escaped at bs ≡ Some n → (e : List ℕ) × (rest : List ℕ) × (bs ≡ e ++ rest) × (EndsAt escaped e) × (n ≡ at + length e)
string_end_found escaped at n [] some = absurd (none_not_some some)
string_end_found true at n (b ∷ bs) some =
    let found = string_end_found false (at + 1) n bs some in
    (b ∷ found.0, found.1, ap (λ (l : List ℕ). b ∷ l) found.2, found.3, omega (arith, found.4))
string_end_found false at n (b ∷ bs) some =
    elim (b == 34) as (λ t. b == 34 ≡ t → (if t then Some (at + 1) else string_end (b == 92) (at + 1) bs) ≡ Some n → (e : List ℕ) × (rest : List ℕ) × (b ∷ bs ≡ e ++ rest) × (EndsString e) × (n ≡ at + length e)) [
      | true ↦ λ is. λ e. (b ∷ [], bs, refl, subst (λ x. EndsString (x ∷ [])) (sym (eqb-true b 34 is)) end_quote, omega (arith, some_same e))
      | false ↦ λ is. λ e.
          let found = string_end_found (b == 92) (at + 1) n bs e in
          (b ∷ found.0, found.1, ap (λ (l : List ℕ). b ∷ l) found.2, longer b found.0 found.3 is, omega (arith, found.4))
    ] refl some

-- a word that stands at the front
pub front_word : (word rest : List ℕ) → front_is word (word ++ rest) ≡ true
front_word [] rest = refl
front_word (c ∷ cs) rest = and_from (c == c) (front_is cs (cs ++ rest)) (eq-eqb c c refl) (front_word cs rest)

pub front_split : (word bs : List ℕ) → front_is word bs ≡ true → bs ≡ word ++ drop (length word) bs
front_split [] bs is = refl
front_split (c ∷ cs) [] is = absurd (both_ways false refl is)
front_split (c ∷ cs) (b ∷ bs) is =
    let parts = and_parts (b == c) (front_is cs bs) is in
    ap (λ x. x ∷ bs) (eqb-true b c parts.0) ∙ ap (λ (l : List ℕ). c ∷ l) (front_split cs bs parts.1)

-- what stands in a longer list behind it doesn't matter
front_inside : (word bs rest : List ℕ) → length word ≤ length bs → front_is word (bs ++ rest) ≡ front_is word bs
front_inside [] bs rest fits = refl
front_inside (c ∷ cs) [] rest fits = absurd (omega (arith, fits))
front_inside (c ∷ cs) (b ∷ bs) rest fits = ap (λ t. b == c && t) (front_inside cs bs rest (omega (arith, fits)))

-- a word stands first behind some bytes
abbrev pub IsFirstWord : List ℕ → List ℕ → Type 0
IsFirstWord word body = (before behind : List ℕ) → body ++ word ≡ before ++ word ++ behind → length body ≤ length before

-- the first place of a word is found
pub word_end_is : (word body rest : List ℕ) (at : ℕ) → 0 < length word → IsFirstWord word body → word_end word at ((body ++ word) ++ rest) ≡ Some (at + length body + length word)
word_end_is [] body rest at some first = absurd (omega (arith, some))
word_end_is (c ∷ cs) [] rest at some first =
    ap (λ t. if t then Some (at + length (c ∷ cs)) else word_end (c ∷ cs) (at + 1) (cs ++ rest)) (front_word (c ∷ cs) rest) ∙ ap (λ (n : ℕ). Some n) (omega arith)
word_end_is (c ∷ cs) (b ∷ bs) rest at some first =
    let word = c ∷ cs in
    let tail = (bs ++ word) ++ rest in
    let absent : front_is word (b ∷ tail) ≡ false =
    elim (front_is word (b ∷ tail)) as (λ t. front_is word (b ∷ tail) ≡ t → t ≡ false) [
      | true ↦ λ is. absurd (
          let here : front_is word ((b ∷ bs) ++ word) ≡ true = sym (front_inside word ((b ∷ bs) ++ word) rest (omega (arith, length-append (b ∷ bs) word))) ∙ is in
          omega (arith, first [] (drop (length word) ((b ∷ bs) ++ word)) (front_split word ((b ∷ bs) ++ word) here)))
      | false ↦ λ is. refl
    ] refl in
    let later : IsFirstWord word bs = λ before behind same. omega (arith, first (b ∷ before) behind (ap (λ (l : List ℕ). b ∷ l) same)) in
    ap (λ t. if t then Some (at + length word) else word_end word (at + 1) tail) absent ∙ word_end_is word bs rest (at + 1) some later ∙ ap (λ (n : ℕ). Some n) (omega arith)

no_first : (word bs rest behind : List ℕ) (b : ℕ) → front_is word (b ∷ (bs ++ word) ++ rest) ≡ false → b ∷ bs ++ word ≡ word ++ behind → ⊥
no_first word bs rest behind b absent same =
    let is : front_is word (b ∷ (bs ++ word) ++ rest) ≡ true =
    ap (λ (l : List ℕ). front_is word (l ++ rest)) same ∙ ap (λ (l : List ℕ). front_is word l) (append_assoc word behind rest) ∙ front_word word (behind ++ rest) in
    both_ways (front_is word (b ∷ (bs ++ word) ++ rest)) absent is

tail_same : {b c : ℕ} {bs cs : List ℕ} → b ∷ bs ≡ c ∷ cs → bs ≡ cs
tail_same e = cc

pub word_end_found : (word : List ℕ) (at n : ℕ) (bs : List ℕ) → word_end word at bs ≡ Some n → (body : List ℕ) × (rest : List ℕ) × (bs ≡ (body ++ word) ++ rest) × (IsFirstWord word body) × (n ≡ at + length body + length word)
word_end_found word at n [] some = absurd (none_not_some some)
word_end_found word at n (b ∷ bs) some =
    elim (front_is word (b ∷ bs)) as (λ t. front_is word (b ∷ bs) ≡ t → (if t then Some (at + length word) else word_end word (at + 1) bs) ≡ Some n → (body : List ℕ) × (rest : List ℕ) × (b ∷ bs ≡ (body ++ word) ++ rest) × (IsFirstWord word body) × (n ≡ at + length body + length word)) [
      | true ↦ λ is. λ e. ([], drop (length word) (b ∷ bs), front_split word (b ∷ bs) is, λ before behind same. omega arith, omega (arith, some_same e))
      | false ↦ λ is. λ e.
          let found = word_end_found word (at + 1) n bs e in
          let whole : b ∷ bs ≡ b ∷ (found.0 ++ word) ++ found.1 = ap (λ (l : List ℕ). b ∷ l) found.2 in
          (b ∷ found.0, found.1, whole, first_later b found.0 found.1 (sym (ap (λ (l : List ℕ). front_is word l) whole) ∙ is) found.3, omega (arith, found.4))
    ] refl some
  where
    first_later : (c : ℕ) (body rest : List ℕ) → front_is word (c ∷ (body ++ word) ++ rest) ≡ false → IsFirstWord word body → IsFirstWord word (c ∷ body)
    first_later c body rest absent first [] behind same = absurd (no_first word body rest behind c absent same)
    first_later c body rest absent first (x ∷ before) behind same = omega (arith, first before behind (tail_same same))
