-- What clap reads in the words.
use Rattle.std.proofs.Common.{◌≡◌, ◌∙◌, ◌⊎◌, ◌<◌, ◌≤◌, ◌==◌, ℕ, Bool, true, false, List, [], ◌∷◌, ◌++◌, Option, Some, None, Result, Ok, Err, ap, ap₂, refl, sym, subst, inl, inr, arith, codes, cond, drop, neg_ℤ, slice_index}
use Rattle.std.specs.Prelude.{option_and_then, decimal, pos, ◌≤ℤ◌, FitsSigned, if◌then◌else◌}
use Rattle.std.specs.Int.{w64}
use Rattle.std.specs.Str.Parse.{IsNumeral, ParsesUnsigned, digits_value, signed_digits_value, starts_with_minus, without_leading_plus, without_leading_sign}
use Rattle.std.proofs.lemmas.Bool.{ne_eqb}
use Rattle.std.proofs.lemmas.Fmt.{decimal_is_IsNumeral, first_decimal}
use Rattle.std.proofs.lemmas.Int.{ints}
use Rattle.clap.specs.Lexer.{long_of, short_of}
use Rattle.std.specs.Str.{bytes_eq}
use Rattle.clap.specs.ValueTests.{accepts, is_unsigned_in}
use Rattle.clap.specs.Words.{App, HasKind, HasMatchesOf, IsAmong, Kinds, ReadsOne, Text, fault_of, found_of, is_simple, is_simple_and_free, kind_of, matches_of, one_of, one_text, without_minus}
use Rattle.clap.specs.declared.builder.value_parser.ValueParser.TheVariants as value
use Rattle.clap.specs.declared.error.Error.{Error}
use Rattle.clap.specs.declared.error.kind.ErrorKind.TheVariants as kind
use Rattle.clap.specs.declared.parser.matches.ArgMatches.{ArgMatches}
use Rattle.clap.proofs.OnLiterals.{clap_on_literals}
use Rattle.clap.proofs.ValueTestLemmas.{accepts-Accepts, Accepts-accepts}
use Rattle.clap.proofs.WalkLemmas.{one_text-rows}
use Rattle.session_loop.specs.Words.{are_refused, is_some_kind, items_asked, make_command, number_in, program_name, AlwaysAccepted}

-- ---- a parse by the command

simple_and_free : is_simple_and_free make_command ≡ true
simple_and_free = refl

simple : is_simple make_command ≡ true
simple = refl

-- words that are taken aren't refused
pub taken : (app : App) (all : List Text) (words : List (List ℕ)) → app ≡ make_command → all ≡ program_name ∷ words
    → (is_simple_and_free app ≡ true → fault_of app all ≡ []) → are_refused words ≡ false
unfolding are_refused
taken app all words is at none =
    let free : is_simple_and_free app ≡ true = ap is_simple_and_free is ∙ simple_and_free in
    let no_fault : fault_of make_command (program_name ∷ words) ≡ [] = ap₂ fault_of (sym is) (sym at) ∙ none free in
    ap (λ (k : Kinds). is_some_kind k) no_fault

some_kind : (e : Error) (kinds : Kinds) → IsAmong (kind_of e) kinds → is_some_kind kinds ≡ true
some_kind e [] among = absurd among
some_kind e (k ∷ ks) among = refl

-- an error other than want of memory tells that they are
pub not_taken : (app : App) (all : List Text) (words : List (List ℕ)) (e : Error) → app ≡ make_command → all ≡ program_name ∷ words
    → (is_simple_and_free app ≡ true → HasKind (fault_of app all) e) → (kind_of e ≡ kind.OutOfMemory) ⊎ (are_refused words ≡ true)
unfolding are_refused
not_taken app all words e is at fails =
    let free : is_simple_and_free app ≡ true = ap is_simple_and_free is ∙ simple_and_free in
    elim (subst (λ (k : Kinds). HasKind k e) (ap₂ fault_of is at) (fails free)) [
      | inl memory ↦ inl memory
      | inr among ↦ inr (some_kind e (fault_of make_command (program_name ∷ words)) among)
    ]

-- ---- the number that is read

not_read : (t : List ℕ) (b : Bool) → is_unsigned_in 0 4294967295 t ≡ b → ((IsNumeral 10 (without_leading_plus t) × (digits_value 10 (without_leading_plus t) < 4294967296)) → ⊥)
    → None ≡ (if b then Some (digits_value 10 (without_leading_plus t)) else None)
not_read t true e none =
    let is = accepts-Accepts false (value.Unsigned 0 4294967295) t e in
    absurd (none (is.0, omega (arith, is.3)))
not_read t false e none = refl

-- a value is read as its number, where it is one
number_read : (E : Type 0) (G : List ℕ → Result ℕ E → Type 0) (t : List ℕ) (r : Option ℕ) → ((u : List ℕ) (x : Result ℕ E) → G u x → ParsesUnsigned 32 10 u x)
    → ReadsOne G t r → r ≡ number_in t
number_read E G t (Some v) only h =
    let p = only t (Ok v) h in
    let is : is_unsigned_in 0 4294967295 t ≡ true = Accepts-accepts false (value.Unsigned 0 4294967295) t (p.0.0, omega (arith, p.0.1), omega arith, omega (arith, p.0.1)) in
    ap (λ n. Some n) p.1 ∙ ap (λ b. if b then Some (digits_value 10 (without_leading_plus t)) else None) (sym is)
number_read E G t None only h = not_read t (is_unsigned_in 0 4294967295 t) refl (only t (Err h.0) h.1)

read_of : (E : Type 0) (G : List ℕ → Result ℕ E → Type 0) (o : Option Text) (r : Option ℕ) → ((u : List ℕ) (x : Result ℕ E) → G u x → ParsesUnsigned 32 10 u x)
    → (o ≡ None → r ≡ None) → ((t : List ℕ) → o ≡ Some t → ReadsOne G t r) → r ≡ option_and_then number_in o
read_of E G None r only none some = none refl
read_of E G (Some t) r only none some = number_read E G t r only (some t refl)

-- what is read of the matches is what the words ask for
pub items_read : (E : Type 0) (G : List ℕ → Result ℕ E → Type 0) (app : App) (all : List Text) (words : List (List ℕ)) (m : ArgMatches) (r : Option ℕ)
    → app ≡ make_command → all ≡ program_name ∷ words → HasMatchesOf app all m → ((u : List ℕ) (x : Result ℕ E) → G u x → ParsesUnsigned 32 10 u x)
    → (one_text (found_of m) (codes "make") ≡ None → r ≡ None) → ((t : List ℕ) → one_text (found_of m) (codes "make") ≡ Some t → ReadsOne G t r)
    → r ≡ items_asked words
unfolding items_asked
items_read E G app all words m r is at has only none some =
    let rows = (has (ap is_simple is ∙ simple)).0 ∙ ap₂ matches_of is at in
    let text : one_text (found_of m) (codes "make") ≡ one_of (codes "make") (matches_of make_command (program_name ∷ words)) =
    one_text-rows (found_of m) (codes "make") ∙ ap (one_of (codes "make")) rows in
    read_of E G (one_text (found_of m) (codes "make")) r only none some ∙ ap (option_and_then number_in) text

-- ---- words that are always taken

-- no words
pub no_words : are_refused [] ≡ false
unfolding are_refused clap_on_literals
no_words = refl

pub no_words_ask : items_asked [] ≡ None
unfolding items_asked clap_on_literals
no_words_ask = refl

-- a number in the range is taken
number_taken : (n : ℕ) → 1 ≤ n → n ≤ 20000 → accepts false (value.Signed (pos 1) (pos 20000)) (decimal n) ≡ true
number_taken n low high =
    let num = decimal_is_IsNumeral n (omega arith) in
    let first = first_decimal n (omega arith) (omega arith) in
    let minus : starts_with_minus (decimal n) ≡ false = ne_eqb _ _ (λ e. omega (arith, e, first)) in
    let plus : (slice_index (decimal n) 0 == 43) ≡ false = ne_eqb _ _ (λ e. omega (arith, e, first)) in
    let bare : without_leading_sign (decimal n) ≡ decimal n =
    ap (λ b. cond b (drop 1 (decimal n)) (without_leading_plus (decimal n))) minus ∙ ap (λ b. drop (cond b 1 0) (decimal n)) plus in
    let is : signed_digits_value 10 (decimal n) ≡ pos n =
    ap (λ b. cond b (neg_ℤ (pos (digits_value 10 (without_leading_sign (decimal n))))) (pos (digits_value 10 (without_leading_sign (decimal n))))) minus
    ∙ ap (λ (t : List ℕ). pos (digits_value 10 t)) bare ∙ ap (λ k. pos k) num.1 in
    Accepts-accepts false (value.Signed (pos 1) (pos 20000)) (decimal n) (
      subst (IsNumeral 10) (sym bare) num.0,
      subst (FitsSigned w64) (sym is) (record { sfits = omega arith }),
      subst (λ z. pos 1 ≤ℤ z) (sym is) (omega (arith, ints)),
      subst (λ z. z ≤ℤ pos 20000) (sym is) (omega (arith, ints)),
    )

-- `--make` and a text that is no flag
word_taken : (t : List ℕ) → bytes_eq t (45 ∷ 45 ∷ []) ≡ false → long_of t ≡ None → short_of t ≡ None → accepts false (value.Signed (pos 1) (pos 20000)) t ≡ true
    → fault_of make_command (program_name ∷ codes "--make" ∷ t ∷ []) ≡ []
unfolding clap_on_literals
word_taken t dashes long short passes = rw dashes (rw long (rw short (rw passes refl)))

-- `--make=` and a text
value_taken : (t : List ℕ) → accepts false (value.Signed (pos 1) (pos 20000)) t ≡ true
    → fault_of make_command (program_name ∷ (codes "--make=" ++ t) ∷ []) ≡ []
unfolding clap_on_literals
value_taken t passes = rw passes refl

first_digit : (t : List ℕ) → 48 < slice_index t 0 → (bytes_eq t (45 ∷ 45 ∷ []) ≡ false) × (long_of t ≡ None) × (short_of t ≡ None)
first_digit [] first = absurd (omega (arith, first))
first_digit (d ∷ ds) first =
    let plain : (d == 45) ≡ false = ne_eqb _ _ (λ e. omega (arith, e, first)) in
    (rw plain refl, rw plain refl, rw plain refl)

-- `--make` and a number in the range
pub word_and_number : (n : ℕ) → 1 ≤ n → n ≤ 20000 → are_refused (codes "--make" ∷ decimal n ∷ []) ≡ false
unfolding are_refused
word_and_number n low high =
    let no_flag = first_digit (decimal n) (first_decimal n (omega arith) (omega arith)) in
    ap (λ (k : Kinds). is_some_kind k) (word_taken (decimal n) no_flag.0 no_flag.1 no_flag.2 (number_taken n low high))

-- the same with an equals sign between them
pub word_with_number : (n : ℕ) → 1 ≤ n → n ≤ 20000 → are_refused ((codes "--make=" ++ decimal n) ∷ []) ≡ false
unfolding are_refused
word_with_number n low high = ap (λ (k : Kinds). is_some_kind k) (value_taken (decimal n) (number_taken n low high))

-- words that are always accepted aren't refused
pub accepted : (words : List (List ℕ)) → AlwaysAccepted words → are_refused words ≡ false
accepted words (inl none) = ap are_refused none ∙ no_words
accepted words (inr some) = elim some.3 [
  | inl two ↦ ap are_refused two ∙ word_and_number some.0 some.1 some.2
  | inr one ↦ ap are_refused one ∙ word_with_number some.0 some.1 some.2
]

-- a number is read as itself
number_in-decimal : (n : ℕ) → 1 ≤ n → n ≤ 20000 → number_in (decimal n) ≡ Some n
number_in-decimal n low high =
    let num = decimal_is_IsNumeral n (omega arith) in
    let first = first_decimal n (omega arith) (omega arith) in
    let plus : (slice_index (decimal n) 0 == 43) ≡ false = ne_eqb _ _ (λ e. omega (arith, e, first)) in
    let bare : without_leading_plus (decimal n) ≡ decimal n = ap (λ b. drop (cond b 1 0) (decimal n)) plus in
    let is : digits_value 10 (without_leading_plus (decimal n)) ≡ n = ap (λ (t : List ℕ). digits_value 10 t) bare ∙ num.1 in
    let small : is_unsigned_in 0 4294967295 (decimal n) ≡ true =
    Accepts-accepts false (value.Unsigned 0 4294967295) (decimal n) (subst (IsNumeral 10) (sym bare) num.0, omega (arith, is), omega arith, omega (arith, is)) in
    ap (λ b. if b then Some (digits_value 10 (without_leading_plus (decimal n))) else None) small ∙ ap (λ k. Some k) is

no_minus : (t : List ℕ) → 48 < slice_index t 0 → without_minus t ≡ t
no_minus [] first = absurd (omega (arith, first))
no_minus (d ∷ ds) first =
    let plain : (d == 45) ≡ false = ne_eqb _ _ (λ e. omega (arith, e, first)) in
    rw plain refl

word_asks : (t : List ℕ) → bytes_eq t (45 ∷ 45 ∷ []) ≡ false → long_of t ≡ None → short_of t ≡ None
    → items_asked (codes "--make" ∷ t ∷ []) ≡ number_in (without_minus t)
unfolding items_asked clap_on_literals
word_asks t dashes long short = rw dashes (rw long (rw short refl))

value_asks : (t : List ℕ) → items_asked ((codes "--make=" ++ t) ∷ []) ≡ number_in (without_minus t)
unfolding items_asked clap_on_literals
value_asks t = refl

-- `--make` and a number ask for so many items
pub word_and_number_ask : (n : ℕ) → 1 ≤ n → n ≤ 20000 → items_asked (codes "--make" ∷ decimal n ∷ []) ≡ Some n
word_and_number_ask n low high =
    let first = first_decimal n (omega arith) (omega arith) in
    let no_flag = first_digit (decimal n) first in
    word_asks (decimal n) no_flag.0 no_flag.1 no_flag.2 ∙ ap number_in (no_minus (decimal n) first) ∙ number_in-decimal n low high

pub word_with_number_asks : (n : ℕ) → 1 ≤ n → n ≤ 20000 → items_asked ((codes "--make=" ++ decimal n) ∷ []) ≡ Some n
word_with_number_asks n low high =
    let first = first_decimal n (omega arith) (omega arith) in
    value_asks (decimal n) ∙ ap number_in (no_minus (decimal n) first) ∙ number_in-decimal n low high
