-- What is found at the front lies in the list, with its name and before its reach.
use Rattle.std.proofs.Common.{◌≡◌, ◌+◌, ◌-◌, ◌≤◌, ◌<◌, ℕ, List, Bool, true, false, take, drop, length, get_or, ap, arith, Option, Some, None, length-append, length-drop}
use Rattle.std.specs.Prelude.{if◌then◌else◌, ◌==◌, ◌&&◌, ◌||◌, nat_lt}
use Rattle.std.specs.Option.{MatchOption}
use Rattle.token_model.specs.Kinds.{Kind, int, float, module_type, char, ty_var, outside, left_brace, nil, unit, left_paren, op_name, colon_equal, left_bracket, semi, semi_semi, dot, colon, colon_colon, qualifier, upper}
use Rattle.token_model.specs.Bytes.{is_blank, is_digit, is_lower, is_upper, is_sign, goes_on, begins_name, begins_operator, is_decimal, continues}
use Rattle.token_model.specs.Words.{word_kind, sign_kind}
use Rattle.ml_lexer.specs.Scans.{Found, found, run_end, char_size, is_closing_sign, word_found, upper_found, tick_found, is_based, based_end, fraction_end, exponent_end, literal_found, numeral_found, string_end, string_found, quote_found, opens_quoted, quoted_end, brace_found, bracket_found, operator_end, is_operator_kind, op_name_found, paren_found, sign_found, stray_found, mark_or_stray, found_from}
use Rattle.ml_lexer.specs.Reaches.{word_reach, upper_reach, lone_tick_reach, tick_reach, behind_reach, numeral_reach, string_reach, quote_reach, brace_reach, bracket_reach, operator_reach, paren_reach, sign_reach, mark_reach, reach_from}
use Rattle.ml_lexer.proofs.Runs.{run_le}
use Rattle.ml_lexer.proofs.Classes.{Class}
use Rattle.ml_lexer.proofs.SpelledMarks.{FoundIs, is_spelled, is_stray, is_unclosed}
use Rattle.ml_lexer.proofs.Agree.{least_if}
use Rattle.ml_lexer.proofs.Standing.{found_is, f2, f3, f4, f5, f6, f7, f8, f9}
use Rattle.ml_lexer.proofs.Steadies.{front_found, front_reach, r2, r3, r4, r5, r6, r7, r8, r9}
use Rattle.ml_lexer.proofs.SteadyBrackets.{ats, ats_reach}
use Rattle.ml_lexer.proofs.SteadyMarks.{by_mark}
use Rattle.ml_lexer.proofs.SteadyNumerals.{behind_least}
use Rattle.ml_lexer.proofs.SteadyWords.{name_end, both_end, is_both, one_reach, one_least}

-- the name lies in the token, and the token before the reach
pub record Framed (f : Found) (r : ℕ) : Type 0 where
  pub name : f.name_start + f.name_size ≤ f.size
  pub reached : f.size ≤ r

-- one of two tokens, each with its reach
framed_if : (t : Bool) (f g : Found) (r s : ℕ) → Framed f r → Framed g s → Framed (if t then f else g) (if t then r else s)
framed_if true f g r s first second = first
framed_if false f g r s first second = second

-- one of two tokens with one reach
either : (t : Bool) (f g : Found) (r : ℕ) → Framed f r → Framed g r → Framed (if t then f else g) r
either true f g r first second = first
either false f g r first second = second

-- a token whose name is its spelling
plain : (k : Kind) (n r : ℕ) → n ≤ r → Framed (found k n) r
plain k n r h = record { name = omega arith; reached = h }

-- a word
word_framed : (l : List ℕ) → Framed (word_found l) (word_reach l)
unfolding word_found word_reach
word_framed l = framed_if (is_both l) (found module_type (both_end l)) (found (word_kind (take (name_end l) l)) (name_end l)) (both_end l + 1) (one_reach l) (plain module_type (both_end l) (both_end l + 1) (omega arith)) (plain (word_kind (take (name_end l) l)) (name_end l) (one_reach l) (omega (arith, one_least l)))

-- a name that begins with an upper-case letter
upper_framed : (l : List ℕ) → Framed (upper_found l) (upper_reach l)
unfolding upper_found upper_reach
upper_framed l = either (get_or l (name_end l) 0 == 46) (record { kind = qualifier; size = name_end l + 1; name_start = 0; name_size = name_end l }) (found upper (name_end l)) (name_end l + 1) (record { name = omega arith; reached = omega arith }) (plain upper (name_end l) (name_end l + 1) (omega arith))

-- the name lies in the token
abbrev name_within : Found → Type 0
name_within f = f.name_start + f.name_size ≤ f.size

-- a literal has its spelling for a name
literal_named : (l : List ℕ) → name_within (literal_found l)
unfolding literal_found
literal_named l = named (is_based l) (based_end (get_or l 1 0) l) (exponent_end (fraction_end (run_end is_decimal 0 l) l) l) (run_end is_decimal 0 l)
  where
    -- each of them has its spelling for a name
    named : (t : Bool) (m x d : ℕ) → name_within (if t then found int m else (if x == d then found int d else found float x))
    named true m x d = omega arith
    named false m x d = elim (x == d) as (λ c. name_within (if c then found int d else found float x)) [ true ↦ omega arith | false ↦ omega arith ]

-- a numeral
numeral_framed : (l : List ℕ) → Framed (numeral_found l) (numeral_reach l)
unfolding numeral_found numeral_reach
numeral_framed l =
    let f = literal_found l in
    let last = run_end goes_on f.size l in
    let least = behind_least f l in
    either (nat_lt f.size last) (found outside last) f (behind_reach f l) (plain outside last (behind_reach f l) (omega (arith, least))) (record { name = literal_named l; reached = omega (arith, least) })

-- what begins with a quote
tick_framed : (l : List ℕ) → Framed (tick_found l) (tick_reach l)
unfolding tick_found tick_reach
tick_framed l = framed_if (nat_lt 0 (char_size l)) (found char (char_size l)) (if begins_name (get_or l 1 0) then found ty_var (run_end goes_on 1 l) else stray_found l) (char_size l) (if begins_name (get_or l 1 0) then run_end goes_on 1 l + 1 else lone_tick_reach l)
    (plain char (char_size l) (char_size l) (omega arith))
    (framed_if (begins_name (get_or l 1 0)) (found ty_var (run_end goes_on 1 l)) (stray_found l) (run_end goes_on 1 l + 1) (lone_tick_reach l) (plain ty_var (run_end goes_on 1 l) (run_end goes_on 1 l + 1) (omega arith)) (record { name = omega arith; reached = omega arith }))

-- a string, or what has no end
string_framed : (o : Option ℕ) (l : List ℕ) → Framed (string_found o l) (string_reach o l)
string_framed (Some n) l = record { name = omega arith; reached = omega arith }
string_framed None l = record { name = omega arith; reached = omega arith }

-- what begins with the quote of a string
quote_framed : (l : List ℕ) → Framed (quote_found l) (quote_reach l)
unfolding quote_found quote_reach
quote_framed l = string_framed (string_end false 1 (drop 1 l)) l

-- what begins with a brace
brace_framed : (l : List ℕ) → Framed (brace_found l) (brace_reach l)
unfolding brace_found brace_reach
brace_framed l = framed_if (opens_quoted l) (string_found (quoted_end l) l) (if get_or l 1 0 == 60 then found outside 2 else found left_brace 1) (string_reach (quoted_end l) l) (if get_or l 1 0 == 60 then 2 else run_end is_lower 1 l + 1) (string_framed (quoted_end l) l)
    (framed_if (get_or l 1 0 == 60) (found outside 2) (found left_brace 1) 2 (run_end is_lower 1 l + 1) (plain outside 2 2 (omega arith)) (plain left_brace 1 (run_end is_lower 1 l + 1) (omega arith)))

-- the signs that a bracket begins, by the tests of its bytes: `@` and `%` second, `@` third and fourth, `%` third
signs_framed : (a p b c q : Bool) (n : ℕ) → 1 ≤ n → Framed (if a && b && c then found outside 4 else (if a && b then found outside 3 else (if p && q then found outside 3 else (if a || p then found outside 2 else found left_bracket 1)))) (if a && b then 4 else (if a || p then 3 else n))
signs_framed true p true true q n h = plain outside 4 4 (omega arith)
signs_framed true p true false q n h = plain outside 3 4 (omega arith)
signs_framed true true false c true n h = plain outside 3 3 (omega arith)
signs_framed true true false c false n h = plain outside 2 3 (omega arith)
signs_framed true false false c q n h = plain outside 2 3 (omega arith)
signs_framed false true b c true n h = plain outside 3 3 (omega arith)
signs_framed false true b c false n h = plain outside 2 3 (omega arith)
signs_framed false false b c q n h = plain left_bracket 1 n h

-- what begins with a bracket
bracket_framed : (l : List ℕ) → Framed (bracket_found l) (bracket_reach l)
unfolding bracket_found bracket_reach
bracket_framed l =
    let n = run_end is_blank 1 l + 1 in
    let s = get_or l 1 0 in
    let signs = signs_framed (s == 64) (s == 37) (get_or l 2 0 == 64) (get_or l 3 0 == 64) (get_or l 2 0 == 37) n (omega arith) in
    framed_if (get_or l (run_end is_blank 1 l) 0 == 93) (found nil n) (if s == 124 || s == 60 || s == 62 then found outside 2 else ats l) n (if s == 124 || s == 60 || s == 62 then 2 else ats_reach l) (plain nil n n (omega arith))
    (framed_if (s == 124 || s == 60 || s == 62) (found outside 2) (ats l) 2 (ats_reach l) (plain outside 2 2 (omega arith)) signs)

-- a parenthesis before an operator or none
operator_framed : (p : ℕ) (o : Option (Kind × ℕ)) (l : List ℕ) → 1 ≤ p → MatchOption o (Unit {0}) (λ op. p ≤ op.1) → Framed (op_name_found p o l) (operator_reach p o l)
operator_framed p None l some within = plain left_paren 1 (operator_reach p None l) (omega (arith, least_if (get_or l p 0 == 58) (p + 2) (p + 1) 1 (omega arith) (omega arith)))
operator_framed p (Some op) l some within = by_kind (is_operator_kind op.0)
  where
    by_kind : (t : Bool) → Framed (if t && get_or l (run_end is_blank op.1 l) 0 == 41 then record { kind = op_name; size = run_end is_blank op.1 l + 1; name_start = p; name_size = op.1 - p } else found left_paren 1) (if t then run_end is_blank op.1 l + 1 else op.1 + 1)
    by_kind true = either (get_or l (run_end is_blank op.1 l) 0 == 41) (record { kind = op_name; size = run_end is_blank op.1 l + 1; name_start = p; name_size = op.1 - p }) (found left_paren 1) (run_end is_blank op.1 l + 1) (record { name = omega (arith, within); reached = omega arith }) (plain left_paren 1 (run_end is_blank op.1 l + 1) (omega arith))
    by_kind false = plain left_paren 1 (op.1 + 1) (omega arith)

-- an operator ends behind its place
operator_order : (p : ℕ) (l : List ℕ) → MatchOption (operator_end p l) (Unit {0}) (λ op. p ≤ op.1)
operator_order p l = by (begins_operator (get_or l p 0)) (is_lower (get_or l p 0)) (get_or l p 0 == 58 && get_or l (p + 1) 0 == 61) (sign_kind (take (run_end is_sign p l - p) (drop p l))) (word_kind (take (run_end goes_on p l - p) (drop p l)))
  where
    by : (s w c : Bool) (k m : Kind) → MatchOption {T = Kind × ℕ} (if s then Some (k, run_end is_sign p l) else (if w then Some (m, run_end goes_on p l) else (if c then Some (colon_equal, p + 2) else None))) (Unit {0}) (λ op. p ≤ op.1)
    by true w c k m = omega arith
    by false true c k m = omega arith
    by false false true k m = omega arith
    by false false false k m = tt

-- what begins with a parenthesis
paren_framed : (l : List ℕ) → Framed (paren_found l) (paren_reach l)
unfolding paren_found paren_reach
paren_framed l =
    let p = run_end is_blank 1 l in
    framed_if (get_or l p 0 == 41) (found unit (p + 1)) (op_name_found p (operator_end p l) l) (p + 1) (operator_reach p (operator_end p l) l) (plain unit (p + 1) (p + 1) (omega arith)) (operator_framed p (operator_end p l) l (omega arith) (operator_order p l))

-- what begins with a sign
sign_framed : (l : List ℕ) → Framed (sign_found l) (sign_reach l)
unfolding sign_found sign_reach
sign_framed l =
    let n = run_end is_sign 0 l in
    framed_if (is_closing_sign l) (found outside 2) (found (sign_kind (take n l)) n) 2 (n + 1) (plain outside 2 2 (omega arith)) (plain (sign_kind (take n l)) n (n + 1) (omega arith))

-- what begins with another byte
abbrev MarkFramed : ℕ → List ℕ → Type 0
MarkFramed b l = Framed (mark_or_stray b l) (mark_reach b l)

-- marks of one byte
one_framed : (l : List ℕ) → MarkFramed 41 l × MarkFramed 93 l × MarkFramed 125 l × MarkFramed 44 l
unfolding mark_or_stray mark_reach
one_framed l = (record { name = omega arith; reached = omega arith }, record { name = omega arith; reached = omega arith }, record { name = omega arith; reached = omega arith }, record { name = omega arith; reached = omega arith })

-- marks of one byte or two, and `#`
two_framed : (l : List ℕ) → MarkFramed 59 l × MarkFramed 46 l × MarkFramed 58 l × MarkFramed 35 l
unfolding mark_or_stray mark_reach
two_framed l =
    let c = get_or l 1 0 in (
      either (c == 59) (found semi_semi 2) (found semi 1) 2 (plain semi_semi 2 2 (omega arith)) (plain semi 1 2 (omega arith)),
      either (c == 46) (found outside 2) (found dot 1) 2 (plain outside 2 2 (omega arith)) (plain dot 1 2 (omega arith)),
      either (c == 58) (found colon_colon 2) (if c == 61 then found colon_equal 2 else (if c == 62 then found outside 2 else found colon 1)) 2 (plain colon_colon 2 2 (omega arith))
          (either (c == 61) (found colon_equal 2) (if c == 62 then found outside 2 else found colon 1) 2 (plain colon_equal 2 2 (omega arith)) (either (c == 62) (found outside 2) (found colon 1) 2 (plain outside 2 2 (omega arith)) (plain colon 1 2 (omega arith)))),
      plain outside (run_end is_sign 1 l) (run_end is_sign 1 l + 1) (omega arith),
    )

-- one character that begins no mark
none_framed : (b : ℕ) (l : List ℕ) → (b == 41) ≡ false → (b == 93) ≡ false → (b == 125) ≡ false → (b == 44) ≡ false → (b == 59) ≡ false → (b == 46) ≡ false → (b == 58) ≡ false → (b == 35) ≡ false → MarkFramed b l
unfolding mark_or_stray mark_reach
none_framed b l e1 e2 e3 e4 e5 e6 e7 e8 = simp (e1, e2, e3, e4, e5, e6, e7, e8) (record { name = omega arith; reached = omega arith })

-- what begins with any of these bytes
mark_framed : (b : ℕ) (l : List ℕ) → MarkFramed b l
mark_framed b l = by_mark (λ x. MarkFramed x l) b (one_framed l) (two_framed l) (none_framed b l)

-- the token at the front
pub front_framed : (l : List ℕ) → Framed (front_found l) (front_reach l)
unfolding found_from reach_from
front_framed l =
    let b = get_or l 0 0 in
    framed_if (is_lower b) (word_found l) (f2 b l) (word_reach l) (r2 b l) (word_framed l)
    (framed_if (is_upper b) (upper_found l) (f3 b l) (upper_reach l) (r3 b l) (upper_framed l)
    (framed_if (is_digit b) (numeral_found l) (f4 b l) (numeral_reach l) (r4 b l) (numeral_framed l)
    (framed_if (b == 39) (tick_found l) (f5 b l) (tick_reach l) (r5 b l) (tick_framed l)
    (framed_if (b == 34) (quote_found l) (f6 b l) (quote_reach l) (r6 b l) (quote_framed l)
    (framed_if (b == 40) (paren_found l) (f7 b l) (paren_reach l) (r7 b l) (paren_framed l)
    (framed_if (b == 91) (bracket_found l) (f8 b l) (bracket_reach l) (r8 b l) (bracket_framed l)
    (framed_if (b == 123) (brace_found l) (f9 b l) (brace_reach l) (r9 b l) (brace_framed l)
    (framed_if (begins_operator b) (sign_found l) (mark_or_stray b l) (sign_reach l) (mark_reach b l) (sign_framed l) (mark_framed b l)))))))))

-- what a find is lies in the list
is_within : {c : Class} {bs : List ℕ} {f : Found} → 0 < length bs → FoundIs c bs f → f.size ≤ length bs
is_within some (is_spelled s) = omega (arith, s.size, ap length s.whole, length-append s.spelled s.rest)
is_within {bs = bs} some (is_stray none) = omega (arith, some, run_le continues (drop 1 bs), length-drop 1 bs)
is_within some (is_unclosed u) = omega arith

-- what is found at the front lies in the list
pub front_within : (l : List ℕ) → 0 < length l → (front_found l).size ≤ length l
front_within l some = is_within some (found_is l some)
