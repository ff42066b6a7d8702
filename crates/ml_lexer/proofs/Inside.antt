-- What stands inside a comment, piece by piece.
use Rattle.std.proofs.Common.{◌≡◌, ◌<◌, ◌++◌, ◌∷◌, [], ℕ, List, Bool, true, false, drop, length, get_or, sym, subst, arith, refl, ap, ◌∙◌, Option, Some, None, length-append}
use Rattle.std.specs.Prelude.{if◌then◌else◌, ◌&&◌, ◌==◌, nat_lt}
use Rattle.std.proofs.Math.Seq.{drop-append_seam}
use Rattle.std.proofs.lemmas.Bool.{and_parts, and_from, eqb-true, eq-eqb, both_ways, ltb-true, lt-ltb}
use Rattle.token_model.specs.Comments.{IsPlainInside, Closes, end, nested, string_inside, char_inside, byte_inside}
use Rattle.token_model.specs.Spellings.{IsChar, string, quoted_string}
use Rattle.ml_lexer.specs.Scans.{Piece, opens, closes, passes, unclosed, string_piece, two_are, piece_of, string_end, opens_quoted, quoted_end, char_size}
use Rattle.ml_lexer.proofs.Chars.{char_size_is, char_found}
use Rattle.ml_lexer.proofs.Classes.{char_first}
use Rattle.ml_lexer.proofs.Literals.{string_end_is, string_end_found}
use Rattle.ml_lexer.proofs.Quoted.{quoted_is, quoted_found, opens_is, opens_from}

-- what a piece means for what closes a comment
abbrev pub Step : Piece → List ℕ → List ℕ → Type 0
Step opens bs rest = (middle : List ℕ) × (Closes (drop 2 bs) middle) × (Closes middle rest)
Step closes bs rest = drop 2 bs ≡ rest
Step (passes n) bs rest = Closes (drop n bs) rest
Step unclosed bs rest = ⊥

-- the piece behind the tests on two bytes, and behind the one for a quote
abbrev later_piece : ℕ → List ℕ → Piece
later_piece b l = if b == 123 && opens_quoted l then string_piece (quoted_end l) else (if b == 39 && nat_lt 0 (char_size l) then passes (char_size l) else passes 1)

abbrev piece_by : ℕ → List ℕ → Piece
piece_by b l = if b == 40 && get_or l 1 0 == 42 then opens else (if b == 42 && get_or l 1 0 == 41 then closes else (if b == 34 then string_piece (string_end false 1 (drop 1 l)) else later_piece b l))

string_piece_is : (l : List ℕ) → get_or l 0 0 ≡ 34 → piece_of l ≡ string_piece (string_end false 1 (drop 1 l))
unfolding piece_of
string_piece_is l is = ap (λ b. piece_by b l) is

quoted_piece_is : (l : List ℕ) → get_or l 0 0 ≡ 123 → opens_quoted l ≡ true → piece_of l ≡ string_piece (quoted_end l)
unfolding piece_of
quoted_piece_is l is opened = ap (λ b. piece_by b l) is ∙ ap (λ t. if t then string_piece (quoted_end l) else passes 1) opened

char_piece_is : (l : List ℕ) → get_or l 0 0 ≡ 39 → 0 < char_size l → piece_of l ≡ passes (char_size l)
unfolding piece_of
char_piece_is l is some = ap (λ b. piece_by b l) is ∙ ap (λ t. if t then passes (char_size l) else passes 1) (lt-ltb 0 (char_size l) some)

-- a test that can't hold fails
refuted : (t : Bool) → (t ≡ true → ⊥) → t ≡ false
refuted true no_way = absurd (no_way refl)
refuted false no_way = refl

byte_piece_is : (l : List ℕ) → IsPlainInside l → piece_of l ≡ passes 1
unfolding piece_of
byte_piece_is l is =
    let b = get_or l 0 0 in
    let quoted : (b == 123 && opens_quoted l) ≡ false = refuted (b == 123 && opens_quoted l) (λ e. is.quoted (opens_from l (eqb-true b 123 (and_parts (b == 123) (opens_quoted l) e).0) (and_parts (b == 123) (opens_quoted l) e).1)) in
    let character : (b == 39 && nat_lt 0 (char_size l)) ≡ false = refuted (b == 39 && nat_lt 0 (char_size l)) (λ e.
    let parts = and_parts (b == 39) (nat_lt 0 (char_size l)) e in
    let found = char_found l (eqb-true b 39 parts.0) (ltb-true 0 (char_size l) parts.1) in
    is.character found.0 found.1 found.2 found.3) in
    ap (λ t. if t then opens else (if two_are 42 41 l then closes else (if b == 34 then string_piece (string_end false 1 (drop 1 l)) else later_piece b l))) is.comment
    ∙ ap (λ t. if t then closes else (if b == 34 then string_piece (string_end false 1 (drop 1 l)) else later_piece b l)) is.end
    ∙ ap (λ t. if t then string_piece (string_end false 1 (drop 1 l)) else later_piece b l) is.quote
    ∙ ap (λ t. if t then string_piece (quoted_end l) else (if b == 39 && nat_lt 0 (char_size l) then passes (char_size l) else passes 1)) quoted
    ∙ ap (λ t. if t then passes (char_size l) else passes 1) character

passes_spelled : (w bs rest : List ℕ) → piece_of (w ++ bs) ≡ passes (length w) → Closes bs rest → Step (piece_of (w ++ bs)) (w ++ bs) rest
passes_spelled w bs rest is more = subst (λ (p : Piece). Step p (w ++ bs) rest) (sym is) (subst (λ (l : List ℕ). Closes l rest) (sym (drop-append_seam w bs)) more)

pub char_long : (w : List ℕ) → IsChar w → 0 < length w
char_long w is = omega (arith, ap length (char_first w is).1)

-- what closes a comment, by its first piece
pub closes_step : {bs rest : List ℕ} → Closes bs rest → Step (piece_of bs) bs rest
unfolding piece_of
closes_step end = refl
closes_step (nested middle inner outer) = (middle, inner, outer)
closes_step {rest = rest} (string_inside w bs (string {bs = e} ends) more) = passes_spelled (34 ∷ e) bs rest (ap string_piece (string_end_is e bs 1 ends) ∙ ap passes (omega arith)) more
closes_step {rest = rest} (string_inside w bs (quoted_string is) more) =
    let found = quoted_is w bs is in
    passes_spelled w bs rest (quoted_piece_is (w ++ bs) found.0 found.1 ∙ ap string_piece found.2) more
closes_step {rest = rest} (char_inside w bs is more) =
    let size = char_size_is w bs is in
    let first : get_or (w ++ bs) 0 0 ≡ 39 = ap (λ (l : List ℕ). get_or (l ++ bs) 0 0) (char_first w is).1 in
    passes_spelled w bs rest (char_piece_is (w ++ bs) first (omega (arith, size, char_long w is)) ∙ ap passes size) more
closes_step {rest = rest} (byte_inside {b = b} {bs = bs} is more) = subst (λ (p : Piece). Step p (b ∷ bs) rest) (sym (byte_piece_is (b ∷ bs) is)) more

-- what a piece is, by what stands there
data PieceIs (l : List ℕ) : Piece → Type 0 where
  is_opening : two_are 40 42 l ≡ true → PieceIs l opens
  is_closing : two_are 42 41 l ≡ true → PieceIs l closes
  is_string : get_or l 0 0 ≡ 34 → PieceIs l (string_piece (string_end false 1 (drop 1 l)))
  is_quoted : get_or l 0 0 ≡ 123 → opens_quoted l ≡ true → PieceIs l (string_piece (quoted_end l))
  is_char : get_or l 0 0 ≡ 39 → 0 < char_size l → PieceIs l (passes (char_size l))
  is_byte : IsPlainInside l → PieceIs l (passes 1)

byte_is : (l : List ℕ) → two_are 40 42 l ≡ false → two_are 42 41 l ≡ false → (get_or l 0 0 == 34) ≡ false → (get_or l 0 0 == 123 && opens_quoted l) ≡ false → (get_or l 0 0 == 39 && nat_lt 0 (char_size l)) ≡ false → IsPlainInside l
byte_is l comment closing quote quoted character = record {
  comment = comment;
  end = closing;
  quote = quote;
  quoted = λ o. let open_is = opens_is l o in both_ways (get_or l 0 0 == 123 && opens_quoted l) quoted (and_from (get_or l 0 0 == 123) (opens_quoted l) (eq-eqb (get_or l 0 0) 123 open_is.0) open_is.1);
  character = λ w behind same is.
      let size : char_size l ≡ length w = ap char_size same ∙ char_size_is w behind is in
      let first : get_or l 0 0 ≡ 39 = ap (λ (x : List ℕ). get_or x 0 0) same ∙ ap (λ (x : List ℕ). get_or (x ++ behind) 0 0) (char_first w is).1 in
      both_ways (get_or l 0 0 == 39 && nat_lt 0 (char_size l)) character (and_from (get_or l 0 0 == 39) (nat_lt 0 (char_size l)) (eq-eqb (get_or l 0 0) 39 first) (lt-ltb 0 (char_size l) (omega (arith, size, char_long w is))));
}

-- the piece that the tests give
piece_is : (l : List ℕ) → PieceIs l (piece_of l)
unfolding piece_of
piece_is l =
    elim (two_are 40 42 l) as (λ t. two_are 40 42 l ≡ t → PieceIs l (if t then opens else (if two_are 42 41 l then closes else (if get_or l 0 0 == 34 then string_piece (string_end false 1 (drop 1 l)) else later_piece (get_or l 0 0) l)))) [
      | true ↦ λ e1. is_opening e1
      | false ↦ λ e1. elim (two_are 42 41 l) as (λ t. two_are 42 41 l ≡ t → PieceIs l (if t then closes else (if get_or l 0 0 == 34 then string_piece (string_end false 1 (drop 1 l)) else later_piece (get_or l 0 0) l))) [
        | true ↦ λ e2. is_closing e2
        | false ↦ λ e2. elim (get_or l 0 0 == 34) as (λ t. (get_or l 0 0 == 34) ≡ t → PieceIs l (if t then string_piece (string_end false 1 (drop 1 l)) else later_piece (get_or l 0 0) l)) [
          | true ↦ λ e3. is_string (eqb-true (get_or l 0 0) 34 e3)
          | false ↦ λ e3. elim (get_or l 0 0 == 123 && opens_quoted l) as (λ t. (get_or l 0 0 == 123 && opens_quoted l) ≡ t → PieceIs l (if t then string_piece (quoted_end l) else (if get_or l 0 0 == 39 && nat_lt 0 (char_size l) then passes (char_size l) else passes 1))) [
            | true ↦ λ e4. is_quoted (eqb-true (get_or l 0 0) 123 (and_parts (get_or l 0 0 == 123) (opens_quoted l) e4).0) (and_parts (get_or l 0 0 == 123) (opens_quoted l) e4).1
            | false ↦ λ e4. elim (get_or l 0 0 == 39 && nat_lt 0 (char_size l)) as (λ t. (get_or l 0 0 == 39 && nat_lt 0 (char_size l)) ≡ t → PieceIs l (if t then passes (char_size l) else passes 1)) [
              | true ↦ λ e5. is_char (eqb-true (get_or l 0 0) 39 (and_parts (get_or l 0 0 == 39) (nat_lt 0 (char_size l)) e5).0) (ltb-true 0 (char_size l) (and_parts (get_or l 0 0 == 39) (nat_lt 0 (char_size l)) e5).1)
              | false ↦ λ e5. is_byte (byte_is l e1 e2 e3 e4 e5)
            ] refl
          ] refl
        ] refl
      ] refl
    ] refl

-- two bytes that are known, and the rest
pub two_known : (a b : ℕ) (l : List ℕ) → two_are a b l ≡ true → 0 < a → 0 < b → l ≡ a ∷ b ∷ drop 2 l
two_known a b [] is some more = absurd (omega (arith, eqb-true 0 a (and_parts (0 == a) (0 == b) is).0))
two_known a b (x ∷ []) is some more = absurd (omega (arith, eqb-true 0 b (and_parts (x == a) (0 == b) is).1))
two_known a b (x ∷ y ∷ l) is some more = ap (λ z. z ∷ y ∷ l) (eqb-true x a (and_parts (x == a) (y == b) is).0) ∙ ap (λ z. a ∷ z ∷ l) (eqb-true y b (and_parts (x == a) (y == b) is).1)

-- a spelled part at the front is passed
passed_part : (l w behind rest : List ℕ) (n : ℕ) → l ≡ w ++ behind → n ≡ length w → Closes (drop n l) rest → Closes behind rest
passed_part l w behind rest n same size more = subst (λ (x : List ℕ). Closes x rest) (ap (λ (x : List ℕ). drop n x) same ∙ ap (λ k. drop k (w ++ behind)) size ∙ drop-append_seam w behind) more

string_closes : (o : Option ℕ) (l rest : List ℕ) → get_or l 0 0 ≡ 34 → string_end false 1 (drop 1 l) ≡ o → Step (string_piece o) l rest → Closes l rest
string_closes None l rest is o step = absurd step
string_closes (Some n) [] rest is o step = absurd (omega (arith, is))
string_closes (Some n) (b ∷ bs) rest is o step =
    let found = string_end_found false 1 n bs o in
    let same : b ∷ bs ≡ (34 ∷ found.0) ++ found.1 = ap (λ x. x ∷ bs) is ∙ ap (λ (x : List ℕ). 34 ∷ x) found.2 in
    let size : n ≡ length (34 ∷ found.0) = omega (arith, found.4) in
    subst (λ (x : List ℕ). Closes x rest) (sym same) (string_inside (34 ∷ found.0) found.1 (string found.3) (passed_part (b ∷ bs) (34 ∷ found.0) found.1 rest n same size step))

quoted_closes : (o : Option ℕ) (l rest : List ℕ) → get_or l 0 0 ≡ 123 → opens_quoted l ≡ true → quoted_end l ≡ o → Step (string_piece o) l rest → Closes l rest
quoted_closes None l rest is opened o step = absurd step
quoted_closes (Some n) l rest is opened o step =
    let found = quoted_found l n is opened o in
    subst (λ (x : List ℕ). Closes x rest) (sym found.2) (string_inside found.0 found.1 (quoted_string found.3) (passed_part l found.0 found.1 rest n found.2 found.4 step))

byte_closes : (l rest : List ℕ) → 0 < length l → IsPlainInside l → Closes (drop 1 l) rest → Closes l rest
byte_closes [] rest some is more = absurd (omega arith)
byte_closes (b ∷ bs) rest some is more = byte_inside is more

closes_by : (l rest : List ℕ) {p : Piece} → 0 < length l → PieceIs l p → Step p l rest → Closes l rest
closes_by l rest some (is_opening e) step = subst (λ (x : List ℕ). Closes x rest) (sym (two_known 40 42 l e (omega arith) (omega arith))) (nested step.0 step.1 step.2)
closes_by l rest some (is_closing e) step =
    let ends : Closes (42 ∷ 41 ∷ drop 2 l) (drop 2 l) = end in
    subst (λ (x : List ℕ). Closes l x) step (subst (λ (x : List ℕ). Closes x (drop 2 l)) (sym (two_known 42 41 l e (omega arith) (omega arith))) ends)
closes_by l rest some (is_string is) step = string_closes (string_end false 1 (drop 1 l)) l rest is refl step
closes_by l rest some (is_quoted is opened) step = quoted_closes (quoted_end l) l rest is opened refl step
closes_by l rest some (is_char is long) step =
    let found = char_found l is long in
    subst (λ (x : List ℕ). Closes x rest) (sym found.2) (char_inside found.0 found.1 found.3 (passed_part l found.0 found.1 rest (char_size l) found.2 found.4 step))
closes_by l rest some (is_byte is) step = byte_closes l rest some is step

-- the first piece and what it means give what closes a comment
pub step_closes : (l rest : List ℕ) → 0 < length l → Step (piece_of l) l rest → Closes l rest
step_closes l rest some step = closes_by l rest some (piece_is l) step

-- what closes a comment has a byte
pub closes_some : {bs rest : List ℕ} → Closes bs rest → 0 < length bs
closes_some end = omega arith
closes_some (nested middle inner outer) = omega arith
closes_some (string_inside w bs is more) = omega (arith, closes_some more, length-append w bs)
closes_some (char_inside w bs is more) = omega (arith, closes_some more, length-append w bs)
closes_some (byte_inside is more) = omega arith
