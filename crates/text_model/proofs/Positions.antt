-- Offsets and positions are each other's inverse.
use Rattle.std.proofs.Common.{◌≡◌, ℕ, zero, suc, ◌+◌, ◌-◌, ◌<◌, ◌≤◌, false, leb, List, [], ◌∷◌, length, Some, None, refl, sym, ◌∙◌, ap, subst, arith}
use Rattle.std.specs.Option.{option_map}
use Rattle.std.proofs.lemmas.Bool.{cond_both, cond-true, cond-false, leb-true, leb-false, lt-leb}
use Rattle.std.proofs.lemmas.Option.{cond_some, same_Some}
use Rattle.text_model.specs.Lines.{lines_of}
use Rattle.text_model.specs.Positions.{offset_in, offset, position_in, position_of}
use Rattle.text_model.proofs.Lines.{length_with_ends, length_with_ends-lines_from}

-- that a pair is the line behind `line`, by some number of lines, and the column there of a place
pub record Leads (ls : List (List ℕ)) (line n : ℕ) (p : ℕ × ℕ) : Type 0 where
  pub below : ℕ
  pub line_is : p.0 ≡ line + below
  pub back : offset_in ls below p.1 ≡ Some n

-- The position of a place in lines leads back to it.
pub position_in-leads : (ls : List (List ℕ)) (line n : ℕ) → n < length_with_ends ls → Leads ls line n (position_in line ls n)
position_in-leads [] line n h = absurd (omega arith)
position_in-leads (l ∷ ls) line n h =
    cond_both (leb n (length l)) (line, n) (position_in (line + 1) ls (n - (length l + 1))) (Leads (l ∷ ls) line n)
    (λ e. record { below = zero; line_is = omega arith; back = cond-true (leb n (length l)) (Some n) None e })
    (λ e.
    let far = leb-false n (length l) e in
    let rest = position_in-leads ls (line + 1) (n - (length l + 1)) (omega arith) in
    record {
      below = suc rest.below;
      line_is = omega arith;
      back = ap (option_map (λ k. length l + 1 + k)) rest.back ∙ ap Some (omega arith);
    })

-- A place in lines has the position that leads to it.
pub position_in-offset_in : (ls : List (List ℕ)) (line below col n : ℕ) → offset_in ls below col ≡ Some n → position_in line ls n ≡ (line + below, col)
position_in-offset_in [] line below col n h = cc
position_in-offset_in (l ∷ ls) line zero col n h =
    let c = cond_some (leb col (length l)) col n h in
    subst (λ k. position_in line (l ∷ ls) k ≡ (line + 0, col)) c.1
    (cond-true (leb col (length l)) (line, col) (position_in (line + 1) ls (col - (length l + 1))) c.0 ∙ ap (λ k. (k, col)) (omega arith))
position_in-offset_in (l ∷ ls) line (suc below) col n h =
    elim (offset_in ls below col)
    as (λ o. offset_in ls below col ≡ o → option_map (λ k. length l + 1 + k) o ≡ Some n → position_in line (l ∷ ls) n ≡ (line + suc below, col)) [
      | None ↦ (λ e g. cc)
      | Some m ↦ (λ e g.
          let s : length l + 1 + m ≡ n = same_Some (length l + 1 + m) n g in
          let far : leb n (length l) ≡ false = lt-leb n (length l) (omega arith) in
          let rest : n - (length l + 1) ≡ m = omega arith in
          cond-false (leb n (length l)) (line, n) (position_in (line + 1) ls (n - (length l + 1))) far
          ∙ ap (position_in (line + 1) ls) rest
          ∙ position_in-offset_in ls (line + 1) below col m e
          ∙ ap (λ k. (k, col)) (omega arith))
    ]
    refl h

-- A position in lines has a place before their last end.
pub offset_in-lt : (ls : List (List ℕ)) (below col n : ℕ) → offset_in ls below col ≡ Some n → n < length_with_ends ls
offset_in-lt [] below col n h = absurd cc
offset_in-lt (l ∷ ls) zero col n h =
    let c = cond_some (leb col (length l)) col n h in
    let near = leb-true col (length l) c.0 in
    omega arith
offset_in-lt (l ∷ ls) (suc below) col n h =
    elim (offset_in ls below col)
    as (λ o. offset_in ls below col ≡ o → option_map (λ k. length l + 1 + k) o ≡ Some n → n < length_with_ends (l ∷ ls)) [
      | None ↦ (λ e g. absurd cc)
      | Some m ↦ (λ e g.
          let s : length l + 1 + m ≡ n = same_Some (length l + 1 + m) n g in
          let rest = offset_in-lt ls below col m e in
          omega arith)
    ]
    refl h

-- The position of an offset has that offset.
pub offset-position_of : (text : List ℕ) (n : ℕ) → n ≤ length text → offset text (position_of text n).0 (position_of text n).1 ≡ Some n
unfolding offset position_of
offset-position_of text n h =
    let e = length_with_ends-lines_from [] text in
    let p = position_in-leads (lines_of text) 1 n (omega arith) in
    let line_is : (position_in 1 (lines_of text) n).0 ≡ suc p.below = p.line_is ∙ omega arith in
    subst (λ line. offset text line (position_in 1 (lines_of text) n).1 ≡ Some n) (sym line_is) p.back

-- The offset of a position has that position.
pub position_of-offset : (text : List ℕ) (line col n : ℕ) → offset text line col ≡ Some n → position_of text n ≡ (line, col)
unfolding offset position_of
position_of-offset text zero col n h = cc
position_of-offset text (suc below) col n h =
    position_in-offset_in (lines_of text) 1 below col n h ∙ ap (λ k. (k, col)) (omega arith)

-- A position's offset lies within the text.
pub offset-le : (text : List ℕ) (line col n : ℕ) → offset text line col ≡ Some n → n ≤ length text
unfolding offset
offset-le text zero col n h = absurd cc
offset-le text (suc below) col n h =
    let e = length_with_ends-lines_from [] text in
    let lt = offset_in-lt (lines_of text) below col n h in
    omega arith
