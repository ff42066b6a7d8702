-- From some bytes on there is one gap that ends where a token may stand.
use Rattle.std.proofs.Common.{◌≡◌, ◌<◌, ◌++◌, ◌∷◌, ℕ, List, true, false, drop, length, get_or, sym, subst, arith, refl, ap, ◌∙◌, Some}
use Rattle.std.specs.Prelude.{if◌then◌else◌}
use Rattle.std.proofs.Math.Seq.{drop-append_seam}
use Rattle.std.proofs.lemmas.Bool.{both_ways, lt-ltb}
use Rattle.token_model.specs.Bytes.{is_blank}
use Rattle.token_model.specs.Comments.{IsPlainInside, Closes, end, nested, string_inside, char_inside, byte_inside}
use Rattle.token_model.specs.Spellings.{IsChar, IsQuoted, EndsString, string, quoted_string}
use Rattle.token_model.specs.Tokens.{Gap, no_gap, blank, comment}
use Rattle.ml_lexer.specs.Scans.{Piece, passes, string_piece, piece_of, char_size, quoted_end, opens_quoted}
use Rattle.ml_lexer.proofs.Chars.{char_size_is}
use Rattle.ml_lexer.proofs.Classes.{char_first}
use Rattle.ml_lexer.proofs.Literals.{string_end_is}
use Rattle.ml_lexer.proofs.Quoted.{quoted_is, opens_from, first_known}
use Rattle.ml_lexer.proofs.Inside.{Step, closes_step}

-- what stands behind the first bytes of one list is one
pub tail_same : {b c : ℕ} {bs cs : List ℕ} → b ∷ bs ≡ c ∷ cs → bs ≡ cs
tail_same e = cc

-- a string that stands at the front is the piece there
string_piece_at : (e bs : List ℕ) → EndsString e → piece_of (34 ∷ e ++ bs) ≡ passes (length (34 ∷ e))
unfolding piece_of
string_piece_at e bs ends = ap string_piece (string_end_is e bs 1 ends) ∙ ap passes (omega arith)

-- a quoted string found behind its first byte is the piece there
quoted_piece_by : (t : List ℕ) (n : ℕ) → opens_quoted (123 ∷ t) ≡ true → quoted_end (123 ∷ t) ≡ Some n → piece_of (123 ∷ t) ≡ passes n
unfolding piece_of
quoted_piece_by t n opened ends = ap (λ x. if x then string_piece (quoted_end (123 ∷ t)) else passes 1) opened ∙ ap string_piece ends

-- a quoted string that stands at the front is the piece there
quoted_piece_at : (w bs : List ℕ) → IsQuoted w → piece_of (w ++ bs) ≡ passes (length w)
quoted_piece_at w bs q =
    let found = quoted_is w bs q in
    let same : w ++ bs ≡ 123 ∷ drop 1 (w ++ bs) = first_known (w ++ bs) 123 found.0 (omega arith) in
    ap piece_of same ∙ quoted_piece_by (drop 1 (w ++ bs)) (length w) (ap opens_quoted (sym same) ∙ found.1) (ap quoted_end (sym same) ∙ found.2)

-- a character literal found behind its first quote is the piece there
char_piece_by : (t : List ℕ) (n : ℕ) → 0 < n → char_size (39 ∷ t) ≡ n → piece_of (39 ∷ t) ≡ passes n
unfolding piece_of
char_piece_by t n some is = ap (λ x. if x then passes (char_size (39 ∷ t)) else passes 1) (lt-ltb 0 (char_size (39 ∷ t)) (omega (arith, some, is))) ∙ ap passes is

-- a character literal that stands at the front is the piece there
char_piece_at : (w bs : List ℕ) → IsChar w → piece_of (w ++ bs) ≡ passes (length w)
char_piece_at w bs c =
    let first = char_first w c in
    let same : w ++ bs ≡ 39 ∷ first.0 ++ bs = ap (λ (l : List ℕ). l ++ bs) first.1 in
    ap piece_of same ∙ char_piece_by (first.0 ++ bs) (length w) (omega (arith, ap length first.1)) (ap char_size (sym same) ∙ char_size_is w bs c)

-- what stands behind a piece that is spelled closes the comment
behind_piece : (w bs s : List ℕ) → piece_of (w ++ bs) ≡ passes (length w) → Closes (w ++ bs) s → Closes bs s
behind_piece w bs s is c = subst (λ (l : List ℕ). Closes l s) (drop-append_seam w bs) (subst (λ (p : Piece). Step p (w ++ bs) s) is (closes_step c))

-- what stands behind a byte that begins no piece closes the comment
behind_byte : {l s : List ℕ} (b : ℕ) (bs : List ℕ) → l ≡ b ∷ bs → IsPlainInside l → Closes l s → Closes bs s
behind_byte b bs same is end = absurd (both_ways true is.end refl)
behind_byte b bs same is (nested middle inner outer) = absurd (both_ways true is.comment refl)
behind_byte b bs same is (string_inside w cs (string ends) more) = absurd (both_ways true is.quote refl)
behind_byte b bs same is (string_inside w cs (quoted_string q) more) = let f = quoted_is w cs q in absurd (is.quoted (opens_from (w ++ cs) f.0 f.1))
behind_byte b bs same is (char_inside w cs c more) = absurd (is.character w cs refl c)
behind_byte {s = s} b bs same is (byte_inside other more) = subst (λ (l : List ℕ). Closes l s) (tail_same same) more

-- a comment ends at one place
pub closes_one : {bs r s : List ℕ} → Closes bs r → Closes bs s → r ≡ s
unfolding piece_of
closes_one end d = closes_step d
closes_one {s = s} (nested middle inner outer) d =
    let x = closes_step d in
    closes_one outer (subst (λ (l : List ℕ). Closes l s) (sym (closes_one inner x.1)) x.2)
closes_one {s = s} (string_inside w bs (string {bs = e} ends) more) d = closes_one more (behind_piece (34 ∷ e) bs s (string_piece_at e bs ends) d)
closes_one {s = s} (string_inside w bs (quoted_string q) more) d = closes_one more (behind_piece w bs s (quoted_piece_at w bs q) d)
closes_one {s = s} (char_inside w bs c more) d = closes_one more (behind_piece w bs s (char_piece_at w bs c) d)
closes_one (byte_inside {b = b} {bs = bs} is more) d = closes_one more (behind_byte b bs refl is d)

-- no gap goes on from here: neither a blank nor a closed comment begins these bytes
pub record IsStop (bytes : List ℕ) : Type 0 where
  pub no_blank : is_blank (get_or bytes 0 0) ≡ false
  pub no_comment : (bs middle : List ℕ) → bytes ≡ 40 ∷ 42 ∷ bs → Closes bs middle → ⊥

-- a gap from where none goes on is none
stays : {bs r : List ℕ} → IsStop bs → Gap bs r → bs ≡ r
stays stop no_gap = refl
stays stop (blank {b = b} is gap) = absurd (both_ways (is_blank b) stop.no_blank is)
stays stop (comment {bs = bs} middle c gap) = absurd (stop.no_comment bs middle refl c)

-- what stands behind a blank has the gap's end
behind_blank : {l r : List ℕ} (b : ℕ) (bs : List ℕ) → l ≡ b ∷ bs → is_blank b ≡ true → IsStop r → Gap l r → Gap bs r
behind_blank b bs same is stop no_gap = absurd (both_ways (is_blank b) (ap (λ (l : List ℕ). is_blank (get_or l 0 0)) (sym same) ∙ stop.no_blank) is)
behind_blank {r = r} b bs same is stop (blank other gap) = subst (λ (l : List ℕ). Gap l r) (tail_same same) gap
behind_blank b bs same is stop (comment middle c gap) = absurd (both_ways (is_blank b) (ap (λ (l : List ℕ). is_blank (get_or l 0 0)) (sym same)) is)

-- what stands behind a comment has the gap's end
behind_comment : {l r : List ℕ} (bs middle : List ℕ) → l ≡ 40 ∷ 42 ∷ bs → Closes bs middle → IsStop r → Gap l r → Gap middle r
behind_comment bs middle same c stop no_gap = absurd (stop.no_comment bs middle same c)
behind_comment bs middle same c stop (blank {b = b} is gap) = absurd (both_ways (is_blank b) (ap (λ (l : List ℕ). is_blank (get_or l 0 0)) same) is)
behind_comment {r = r} bs middle same c stop (comment {bs = cs} other d gap) = subst (λ (l : List ℕ). Gap l r) (closes_one d (subst (λ (l : List ℕ). Closes l middle) (sym (tail_same (tail_same same))) c)) gap

-- a gap ends at one place from where none goes on
pub gap_one : {bs r s : List ℕ} → IsStop r → IsStop s → Gap bs r → Gap bs s → r ≡ s
gap_one stop last no_gap other = stays stop other
gap_one stop last (blank {b = b} {bs = bs} is gap) other = gap_one stop last gap (behind_blank b bs refl is last other)
gap_one stop last (comment {bs = bs} middle c gap) other = gap_one stop last gap (behind_comment bs middle refl c last other)
