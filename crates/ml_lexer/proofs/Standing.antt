-- What the scan finds where neither a blank nor a comment begins is the token that stands there.
use Rattle.std.proofs.Common.{◌≡◌, ◌+◌, ◌<◌, ◌++◌, ◌∷◌, [], ℕ, List, true, false, take, drop, length, get_or, sym, subst, arith, refl, ap, ◌∙◌, length-take, append-nil, inl, inr, Option, Some, None}
use Rattle.std.specs.Prelude.{if◌then◌else◌, ◌==◌, ◌⊎◌}
use Rattle.std.proofs.Math.Seq.{drop-append_seam, take-append_seam}
use Rattle.std.proofs.lemmas.List.{take-append-drop}
use Rattle.std.proofs.lemmas.Bool.{eqb-true, both_ways, cases_eq}
use Rattle.token_model.specs.Kinds.{Kind, junk, outside, left_brace}
use Rattle.token_model.specs.Bytes.{is_blank, is_digit, is_lower, is_upper, begins_operator, continues}
use Rattle.token_model.specs.Comments.{begins_comment}
use Rattle.token_model.specs.Spellings.{Spells, IsQuoted, string, quoted_string}
use Rattle.token_model.specs.Tokens.{IsUnclosed, unclosed_comment, unclosed_string, unclosed_quoted, Stands, unclosed, longest, stray}
use Rattle.ml_lexer.specs.Scans.{Found, found, run_length, string_end, string_found, quote_found, opens_quoted, quoted_end, brace_found, stray_found, found_from, word_found, upper_found, numeral_found, tick_found, paren_found, bracket_found, sign_found, mark_or_stray}
use Rattle.ml_lexer.proofs.Runs.{run_passes, run_stops, run_le}
use Rattle.ml_lexer.proofs.Literals.{string_end_found}
use Rattle.ml_lexer.proofs.Quoted.{quoted_found, opens_is}
use Rattle.ml_lexer.proofs.Classes.{Class, class_of, Of, by_class, word_class, upper_class, digit_class, tick_class, quote_class, paren_class, bracket_class, brace_class, sign_class, mark_class}
use Rattle.ml_lexer.proofs.Spelled.{IsSpelled, upper_spelled}
use Rattle.ml_lexer.proofs.SpelledBrackets.{bracket_is}
use Rattle.ml_lexer.proofs.SpelledMarks.{FoundIs, is_spelled, is_stray, is_unclosed, mark_is}
use Rattle.ml_lexer.proofs.SpelledNumerals.{numeral_is}
use Rattle.ml_lexer.proofs.SpelledParens.{paren_is}
use Rattle.ml_lexer.proofs.SpelledSigns.{sign_spelled}
use Rattle.ml_lexer.proofs.SpelledTexts.{quote_is, string_unclosed, brace_is, quoted_unclosed, tick_is}
use Rattle.ml_lexer.proofs.SpelledWords.{word_is}

-- the classes and the scans, from a test on
abbrev c9 : ℕ → Class
c9 b = if begins_operator b then sign_class else mark_class

abbrev c8 : ℕ → Class
c8 b = if b == 123 then brace_class else c9 b

abbrev c7 : ℕ → Class
c7 b = if b == 91 then bracket_class else c8 b

abbrev c6 : ℕ → Class
c6 b = if b == 40 then paren_class else c7 b

abbrev c5 : ℕ → Class
c5 b = if b == 34 then quote_class else c6 b

abbrev c4 : ℕ → Class
c4 b = if b == 39 then tick_class else c5 b

abbrev c3 : ℕ → Class
c3 b = if is_digit b then digit_class else c4 b

abbrev c2 : ℕ → Class
c2 b = if is_upper b then upper_class else c3 b

abbrev pub f9 : ℕ → List ℕ → Found
f9 b bs = if begins_operator b then sign_found bs else mark_or_stray b bs

abbrev pub f8 : ℕ → List ℕ → Found
f8 b bs = if b == 123 then brace_found bs else f9 b bs

abbrev pub f7 : ℕ → List ℕ → Found
f7 b bs = if b == 91 then bracket_found bs else f8 b bs

abbrev pub f6 : ℕ → List ℕ → Found
f6 b bs = if b == 40 then paren_found bs else f7 b bs

abbrev pub f5 : ℕ → List ℕ → Found
f5 b bs = if b == 34 then quote_found bs else f6 b bs

abbrev pub f4 : ℕ → List ℕ → Found
f4 b bs = if b == 39 then tick_found bs else f5 b bs

abbrev pub f3 : ℕ → List ℕ → Found
f3 b bs = if is_digit b then numeral_found bs else f4 b bs

abbrev pub f2 : ℕ → List ℕ → Found
f2 b bs = if is_upper b then upper_found bs else f3 b bs

-- what the scan finds, by the class of the first byte
pub found_is : (bs : List ℕ) → 0 < length bs → FoundIs (class_of (get_or bs 0 0)) bs (found_from (get_or bs 0 0) bs)
unfolding class_of found_from
found_is bs some =
    let b = get_or bs 0 0 in
    elim (is_lower b) as (λ t. is_lower b ≡ t → FoundIs (if t then word_class else c2 b) bs (if t then word_found bs else f2 b bs)) [
      | true ↦ λ e. word_is bs some e
      | false ↦ λ e. elim (is_upper b) as (λ t. is_upper b ≡ t → FoundIs (if t then upper_class else c3 b) bs (if t then upper_found bs else f3 b bs)) [
        | true ↦ λ e. is_spelled (upper_spelled bs some e)
        | false ↦ λ e. elim (is_digit b) as (λ t. is_digit b ≡ t → FoundIs (if t then digit_class else c4 b) bs (if t then numeral_found bs else f4 b bs)) [
          | true ↦ λ e. numeral_is bs e
          | false ↦ λ e. elim (b == 39) as (λ t. (b == 39) ≡ t → FoundIs (if t then tick_class else c5 b) bs (if t then tick_found bs else f5 b bs)) [
            | true ↦ λ e. tick_is bs (eqb-true b 39 e)
            | false ↦ λ e. elim (b == 34) as (λ t. (b == 34) ≡ t → FoundIs (if t then quote_class else c6 b) bs (if t then quote_found bs else f6 b bs)) [
              | true ↦ λ e. quote_is bs (eqb-true b 34 e)
              | false ↦ λ e. elim (b == 40) as (λ t. (b == 40) ≡ t → FoundIs (if t then paren_class else c7 b) bs (if t then paren_found bs else f7 b bs)) [
                | true ↦ λ e. paren_is bs (eqb-true b 40 e)
                | false ↦ λ e. elim (b == 91) as (λ t. (b == 91) ≡ t → FoundIs (if t then bracket_class else c8 b) bs (if t then bracket_found bs else f8 b bs)) [
                  | true ↦ λ e. bracket_is bs (eqb-true b 91 e)
                  | false ↦ λ e. elim (b == 123) as (λ t. (b == 123) ≡ t → FoundIs (if t then brace_class else c9 b) bs (if t then brace_found bs else f9 b bs)) [
                    | true ↦ λ e. brace_is bs (eqb-true b 123 e)
                    | false ↦ λ e. elim (begins_operator b) as (λ t. begins_operator b ≡ t → FoundIs (if t then sign_class else mark_class) bs (if t then sign_found bs else mark_or_stray b bs)) [
                      | true ↦ λ e. is_spelled (sign_spelled bs some e)
                      | false ↦ λ e. mark_is bs
                    ] refl
                  ] refl
                ] refl
              ] refl
            ] refl
          ] refl
        ] refl
      ] refl
    ] refl

-- what has no end is found as such, and else nothing here is without an end
abbrev Ends : List ℕ → Found → Type 0
Ends bs f = ((IsUnclosed bs) × (f ≡ found junk (length bs))) ⊎ (IsUnclosed bs → ⊥)

quote_ends : (bs : List ℕ) → get_or bs 0 0 ≡ 34 → Ends bs (quote_found bs)
unfolding quote_found
quote_ends [] is = absurd (omega (arith, is))
quote_ends (b ∷ bs) is = by_end (string_end false 1 bs) refl
  where
    none_same : {A : Type 0} {x : A} → None ≡ Some x → ⊥
    none_same e = cc

    closed : (n : ℕ) → string_end false 1 bs ≡ Some n → (l : List ℕ) → l ≡ b ∷ bs → IsUnclosed l → ⊥
    closed n eq l same (unclosed_comment none) = absurd (omega (arith, is, ap (λ (x : List ℕ). get_or x 0 0) same))
    closed n eq l same (unclosed_string {bs = cs} none) =
        let f = string_end_found false 1 n bs eq in
        none (34 ∷ f.0) f.1 (ap (λ (x : List ℕ). 34 ∷ drop 1 x) same ∙ ap (λ (x : List ℕ). 34 ∷ x) f.2) (string f.3)
    closed n eq l same (unclosed_quoted opened none) = absurd (omega (arith, is, (opens_is l opened).0, ap (λ (x : List ℕ). get_or x 0 0) same))

    by_end : (o : Option ℕ) → string_end false 1 bs ≡ o → Ends (b ∷ bs) (string_found o (b ∷ bs))
    by_end (Some n) eq = inr (λ u. closed n eq (b ∷ bs) refl u)
    by_end None eq = inl (string_unclosed (b ∷ bs) is eq, refl)

no_string_end : (l : List ℕ) → get_or l 0 0 ≡ 123 → ((w rest : List ℕ) → l ≡ w ++ rest → IsQuoted w → IsUnclosed l → ⊥)
no_string_end l is w rest same q (unclosed_comment none) = absurd (omega (arith, is))
no_string_end l is w rest same q (unclosed_string none) = absurd (omega (arith, is))
no_string_end l is w rest same q (unclosed_quoted opened none) = none w rest same (quoted_string q)

not_opened : (l : List ℕ) → get_or l 0 0 ≡ 123 → opens_quoted l ≡ false → IsUnclosed l → ⊥
not_opened l is off (unclosed_comment none) = absurd (omega (arith, is))
not_opened l is off (unclosed_string none) = absurd (omega (arith, is))
not_opened l is off (unclosed_quoted opened none) = both_ways (opens_quoted l) off (opens_is l opened).1

quoted_ends : (o : Option ℕ) (bs : List ℕ) → get_or bs 0 0 ≡ 123 → opens_quoted bs ≡ true → quoted_end bs ≡ o → Ends bs (string_found o bs)
quoted_ends (Some n) bs is opened eq = let f = quoted_found bs n is opened eq in inr (λ u. no_string_end bs is f.0 f.1 f.2 f.3 u)
quoted_ends None bs is opened eq = inl (quoted_unclosed bs is opened eq, refl)

brace_ends : (bs : List ℕ) → get_or bs 0 0 ≡ 123 → Ends bs (brace_found bs)
unfolding brace_found
brace_ends bs is =
    elim (opens_quoted bs) as (λ t. opens_quoted bs ≡ t → Ends bs (if t then string_found (quoted_end bs) bs else (if get_or bs 1 0 == 60 then found outside 2 else found left_brace 1))) [
      | true ↦ λ e. quoted_ends (quoted_end bs) bs is e refl
      | false ↦ λ e. inr (λ u. not_opened bs is e u)
    ] refl

other_ends : (bs : List ℕ) → begins_comment bs ≡ false → (get_or bs 0 0 ≡ 34 → ⊥) → (get_or bs 0 0 ≡ 123 → ⊥) → IsUnclosed bs → ⊥
other_ends bs no_comment no_quote no_brace (unclosed_comment none) = both_ways true no_comment refl
other_ends bs no_comment no_quote no_brace (unclosed_string none) = no_quote refl
other_ends bs no_comment no_quote no_brace (unclosed_quoted opened none) = no_brace (opens_is bs opened).0

quote_scan : (bs : List ℕ) → get_or bs 0 0 ≡ 34 → found_from (get_or bs 0 0) bs ≡ quote_found bs
unfolding found_from
quote_scan bs is = ap (λ b. found_from b bs) is

brace_scan : (bs : List ℕ) → get_or bs 0 0 ≡ 123 → found_from (get_or bs 0 0) bs ≡ brace_found bs
unfolding found_from
brace_scan bs is = ap (λ b. found_from b bs) is

ends_is : (bs : List ℕ) → begins_comment bs ≡ false → Ends bs (found_from (get_or bs 0 0) bs)
ends_is bs no_comment = elim (cases_eq (get_or bs 0 0) 34) [
  | inl quote ↦ subst (λ (f : Found). Ends bs f) (sym (quote_scan bs quote)) (quote_ends bs quote)
  | inr no_quote ↦ elim (cases_eq (get_or bs 0 0) 123) [
    | inl brace ↦ subst (λ (f : Found). Ends bs f) (sym (brace_scan bs brace)) (brace_ends bs brace)
    | inr no_brace ↦ inr (λ u. other_ends bs no_comment no_quote no_brace u)
  ]
]

-- nothing is spelled but what is of the first byte's class
of_class : (bs front shown behind : List ℕ) (k : Kind) → bs ≡ front ++ behind → Spells k front shown behind → Of (class_of (get_or bs 0 0)) front behind
of_class bs front shown behind k whole spells =
    let c = by_class spells in
    subst (λ b. Of (class_of b) front behind) (sym (ap (λ (l : List ℕ). get_or l 0 0) whole ∙ first front behind c.some)) c.sort
  where
    first : (u v : List ℕ) → 0 < length u → get_or (u ++ v) 0 0 ≡ get_or u 0 0
    first [] v some = absurd (omega arith)
    first (x ∷ u) v some = refl

-- what is found, as the definitions say it
abbrev pub StandsAt : List ℕ → Found → Type 0
StandsAt bs f = Stands f.kind (take f.size bs) (take f.name_size (drop f.name_start bs)) (drop f.size bs)

at_front : (f : Found) (bs w n rest : List ℕ) → bs ≡ w ++ rest → f.size ≡ length w → take f.name_size (drop f.name_start bs) ≡ n → Stands f.kind w n rest → StandsAt bs f
at_front f bs w n rest whole size named stands =
    let front : w ≡ take f.size bs = sym (ap (λ k. take k bs) size ∙ ap (λ (l : List ℕ). take (length w) l) whole ∙ take-append_seam w rest) in
    let behind : rest ≡ drop f.size bs = sym (ap (λ k. drop k bs) size ∙ ap (λ (l : List ℕ). drop (length w) l) whole ∙ drop-append_seam w rest) in
    subst (λ (x : List ℕ). Stands f.kind x (take f.name_size (drop f.name_start bs)) (drop f.size bs)) front (subst (λ (x : List ℕ). Stands f.kind w x (drop f.size bs)) (sym named) (subst (λ (x : List ℕ). Stands f.kind w n x) behind stands))

spelled_stands : (bs : List ℕ) (f : Found) → begins_comment bs ≡ false → (IsUnclosed bs → ⊥) → IsSpelled (class_of (get_or bs 0 0)) bs f → StandsAt bs f
spelled_stands bs f no_comment ends s =
    at_front f bs s.spelled s.name s.rest s.whole s.size s.named (longest (λ u. ends (subst (λ (l : List ℕ). IsUnclosed l) (sym s.whole) u)) (ap begins_comment (sym s.whole) ∙ no_comment) (record {
      spelled = s.spells;
      longest = λ k front shown behind same spells. let whole = s.whole ∙ same in omega (arith, s.longest front behind whole (of_class bs front shown behind k whole spells), s.size);
    }))

stray_stands : (bs : List ℕ) → 0 < length bs → is_blank (get_or bs 0 0) ≡ false → begins_comment bs ≡ false → (IsUnclosed bs → ⊥) → ((front behind : List ℕ) → bs ≡ front ++ behind → Of (class_of (get_or bs 0 0)) front behind → ⊥) → StandsAt bs (stray_found bs)
stray_stands [] some no_blank no_comment ends none = absurd (omega arith)
stray_stands (b ∷ bs) some no_blank no_comment ends none =
    let n = run_length continues bs in
    let size : 1 + n ≡ length (b ∷ take n bs) = omega (arith, run_le continues bs, length-take n bs) in
    let whole : b ∷ bs ≡ (b ∷ take n bs) ++ drop n bs = ap (λ (l : List ℕ). b ∷ l) (sym (take-append-drop n bs)) in
    at_front (stray_found (b ∷ bs)) (b ∷ bs) (b ∷ take n bs) (b ∷ take n bs) (drop n bs) whole size (ap (λ k. take k (b ∷ bs)) size ∙ ap (λ (l : List ℕ). take (length (b ∷ take n bs)) l) whole ∙ take-append_seam (b ∷ take n bs) (drop n bs))
    (stray (λ u. ends (subst (λ (l : List ℕ). IsUnclosed l) (sym whole) u)) (ap begins_comment (sym whole) ∙ no_comment) no_blank (λ k front shown behind same spells. let all = whole ∙ same in none front behind all (of_class (b ∷ bs) front shown behind k all spells)) (run_passes continues bs) (run_stops continues bs))

whole_stands : (bs : List ℕ) → IsUnclosed bs → StandsAt bs (found junk (length bs))
whole_stands bs u = at_front (found junk (length bs)) bs bs bs [] (sym (append-nil bs)) refl (take_all bs) (unclosed u)
  where
    take_all : (l : List ℕ) → take (length l) l ≡ l
    take_all [] = refl
    take_all (x ∷ l) = ap (λ (y : List ℕ). x ∷ y) (take_all l)

by_find : (bs : List ℕ) {f : Found} → 0 < length bs → is_blank (get_or bs 0 0) ≡ false → begins_comment bs ≡ false → (IsUnclosed bs → ⊥) → FoundIs (class_of (get_or bs 0 0)) bs f → StandsAt bs f
by_find bs {f = f} some no_blank no_comment ends (is_spelled s) = spelled_stands bs f no_comment ends s
by_find bs some no_blank no_comment ends (is_stray none) = stray_stands bs some no_blank no_comment ends none
by_find bs some no_blank no_comment ends (is_unclosed u) = absurd (ends u)

-- the token that stands where neither a blank nor a comment begins is what the scan finds
pub found_stands : (bs : List ℕ) → 0 < length bs → is_blank (get_or bs 0 0) ≡ false → begins_comment bs ≡ false → StandsAt bs (found_from (get_or bs 0 0) bs)
found_stands bs some no_blank no_comment = elim (ends_is bs no_comment) [
  | inl u ↦ subst (λ (f : Found). StandsAt bs f) (sym u.1) (whole_stands bs u.0)
  | inr ends ↦ by_find bs some no_blank no_comment ends (found_is bs some)
]

-- and what is unclosed stands up to the end
pub unclosed_stands : (bs : List ℕ) → IsUnclosed bs → StandsAt bs (found junk (length bs))
unclosed_stands bs u = whole_stands bs u
