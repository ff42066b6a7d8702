-- An edit from the first to the last place of a text replaces all of it; and what an edit that is made leaves.
use Rattle.std.proofs.Common.{◌≡◌, inl, inr, ◌≤◌, ◌<◌, ◌+◌, ◌-◌, ◌++◌, ◌∷◌, [], ℕ, suc, List, true, false, length, take, drop, get_or, Some, None, refl, sym, ◌∙◌, ap, subst, arith, append-nil, length-append, length-drop}
use Rattle.std.specs.Prelude.{if◌then◌else◌, nat_le, nat_lt, ◌&&◌, Bool, Option}
use Rattle.std.specs.Str.{IsUtf8, IsCharBoundary}
use Rattle.std.proofs.lemmas.Str.{IsCharBoundary-start, IsCharBoundary-end}
use Rattle.std.proofs.lemmas.List.{drop_all, get_or_past, length-take}
use Rattle.std.proofs.lemmas.Bool.{lt-leb}
use Rattle.std.proofs.lemmas.Bool.Decides.{nat_tests, leb_tells}
use Rattle.text_model.specs.Lines.{lines_of, ended_from, rest_from}
use Rattle.text_model.specs.Positions.{offset, position_in, position_of}
use Rattle.text_model.specs.Edits.{Edit, Outcome, Refusal, changed, refused, bad_position, bad_range, splits_char, text_too_long, outcome_of, outcome_between, apply, is_inside_char, text_limit}
use Rattle.text_model.proofs.Positions.{offset-position_of}

-- a text begins at the first column of its first line
first_in : (ls : List (List ℕ)) (l : List ℕ) → position_in 1 (ls ++ l ∷ []) 0 ≡ (1, 0)
first_in [] l = grind (arith, nat_tests)
first_in (m ∷ ls) l = grind (arith, nat_tests)

first_position : (text : List ℕ) → position_of text 0 ≡ (1, 0)
unfolding position_of
first_position text = first_in (ended_from [] text) (rest_from [] text)

and_false : (b : Bool) → b && false ≡ false
and_false true = refl
and_false false = refl

outside : (x : ℕ) → (128 ≤ x → 192 ≤ x) → nat_le 128 x && nat_lt x 192 ≡ false
outside x h = elim (leb_tells 128 x) [
  | inl near ↦ (let far : nat_lt x 192 ≡ false = lt-leb (suc x) 192 (omega (arith, h near.1)) in ap (λ t. nat_le 128 x && t) far ∙ and_false (nat_le 128 x))
  | inr below ↦ ap (λ t. t && nat_lt x 192) below.0
]

-- a boundary isn't inside a character
whole_char : (text : List ℕ) (n : ℕ) → IsCharBoundary text n → is_inside_char text n ≡ false
whole_char text n bound = elim (leb_tells (length text) n) [
  | inl past ↦ ap (λ b. nat_le 128 b && nat_lt b 192) (get_or_past text n 0 past.1)
  | inr within ↦ outside (get_or text n 0) (bound.1 (omega (arith, within.1)))
]

-- an edit from the first to the last place leaves its bytes alone, or they are too long
pub whole_edit : (text bytes : List ℕ) (end : ℕ × ℕ) → IsUtf8 text → end ≡ position_of text (length text)
    → outcome_of text (record { start = (1, 0); end = end; bytes = bytes }) ≡ (if nat_lt text_limit (length bytes) then refused (text_too_long (length bytes)) else changed 0 bytes)
unfolding outcome_of
whole_edit text bytes end utf8 at =
    let n = length text in
    let from : offset text 1 0 ≡ Some 0 = subst (λ (p : ℕ × ℕ). offset text p.0 p.1 ≡ Some 0) (first_position text) (offset-position_of text 0 (omega arith)) in
    let to : offset text end.0 end.1 ≡ Some n = subst (λ (p : ℕ × ℕ). offset text p.0 p.1 ≡ Some n) (sym at) (offset-position_of text n (omega arith)) in
    let whole : apply text 0 n bytes ≡ bytes = ap (λ (l : List ℕ). (take 0 text ++ bytes) ++ l) (drop_all n text (omega arith)) ∙ append-nil bytes in
    let order : nat_lt n 0 ≡ false = lt-leb (suc n) 0 (omega arith) in
    ap (λ o. outcome_between text o (offset text end.0 end.1) bytes) from
    ∙ ap (λ o. outcome_between text (Some 0) o bytes) to
    ∙ ap (λ t. if t then refused bad_range else (if is_inside_char text 0 then refused (splits_char false) else (if is_inside_char text n then refused (splits_char true) else (if nat_lt text_limit (length (apply text 0 n bytes)) then refused (text_too_long (length (apply text 0 n bytes))) else changed 0 (apply text 0 n bytes))))) order
    ∙ ap (λ t. if t then refused (splits_char false) else (if is_inside_char text n then refused (splits_char true) else (if nat_lt text_limit (length (apply text 0 n bytes)) then refused (text_too_long (length (apply text 0 n bytes))) else changed 0 (apply text 0 n bytes)))) (whole_char text 0 (IsCharBoundary-start text utf8))
    ∙ ap (λ t. if t then refused (splits_char true) else (if nat_lt text_limit (length (apply text 0 n bytes)) then refused (text_too_long (length (apply text 0 n bytes))) else changed 0 (apply text 0 n bytes))) (whole_char text n (IsCharBoundary-end text))
    ∙ ap (λ (l : List ℕ). if nat_lt text_limit (length l) then refused (text_too_long (length l)) else changed 0 l) whole

-- what isn't refused goes on, and its test fails
not_refused : (t : Bool) (r : Refusal) (other : Outcome) (first : ℕ) (new : List ℕ) → (if t then refused r else other) ≡ changed first new → (t ≡ false) × (other ≡ changed first new)
not_refused true r other first new is = cc
not_refused false r other first new is = (refl, is)

-- an edit that is made is made between two places of the text
pub record MadeBetween (text : List ℕ) (e : Edit) (new : List ℕ) (start end : Option ℕ) : Type 0 where
  pub from : ℕ
  pub to : ℕ
  pub start_is : start ≡ Some from
  pub end_is : end ≡ Some to
  pub order : from ≤ to
  pub text_is : new ≡ apply text from to e.bytes
  pub short : length new ≤ text_limit

made : (text : List ℕ) (e : Edit) (start end : Option ℕ) (first : ℕ) (new : List ℕ) → outcome_between text start end e.bytes ≡ changed first new → MadeBetween text e new start end
made text e None end first new is = cc
made text e (Some start) None first new is = cc
made text e (Some start) (Some end) first new is =
    let a = apply text start end e.bytes in
    let ordered = not_refused (nat_lt end start) _ _ first new is in
    let long = not_refused (nat_lt text_limit (length a)) _ _ first new (not_refused (is_inside_char text end) _ _ first new (not_refused (is_inside_char text start) _ _ first new ordered.1).1).1 in
    let same : a ≡ new = cc long.1 in
    record {
      from = start;
      to = end;
      start_is = refl;
      end_is = refl;
      order = (let o = ordered.0 in grind (arith, nat_tests));
      text_is = sym same;
      short = (let l = long.0 in let within : length a ≤ text_limit = grind (arith, nat_tests) in omega (arith, ap length same, within));
    }

pub made_of : (text : List ℕ) (e : Edit) (first : ℕ) (new : List ℕ) → outcome_of text e ≡ changed first new → MadeBetween text e new (offset text e.start.0 e.start.1) (offset text e.end.0 e.end.1)
unfolding outcome_of
made_of text e first new is = made text e (offset text e.start.0 e.start.1) (offset text e.end.0 e.end.1) first new is

-- how long a text is behind an edit
pub length_apply : (text bytes : List ℕ) (from to : ℕ) → from ≤ to → to ≤ length text → length (apply text from to bytes) ≡ length text - (to - from) + length bytes
length_apply text bytes from to order within =
    omega (arith, length-append (take from text ++ bytes) (drop to text), length-append (take from text) bytes, length-take from text, length-drop to text)
