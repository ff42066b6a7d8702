-- What comes of an edit, by what is known of its ends.
use Rattle.std.proofs.Common.{◌≡◌, ℕ, ◌≤◌, Bool, true, false, cond, ltb, List, length, Some, None, refl, ◌∙◌, ap}
use Rattle.std.proofs.lemmas.Bool.{ltb-false}
use Rattle.text_model.specs.Positions.{offset}
use Rattle.text_model.specs.Edits.{Edit, Refusal, bad_position, Outcome, refused, changed, apply, is_inside_char, text_limit, outcome_between, outcome_of}

-- An edit whose start is no position is refused.
pub outcome-no_start : (text : List ℕ) (e : Edit) → offset text e.start.0 e.start.1 ≡ None → outcome_of text e ≡ refused (bad_position false)
unfolding outcome_of
outcome-no_start text e s = ap (λ o. outcome_between text o (offset text e.end.0 e.end.1) e.bytes) s

-- An edit whose end alone is no position is refused.
pub outcome-no_end : (text : List ℕ) (e : Edit) (start : ℕ) → offset text e.start.0 e.start.1 ≡ Some start → offset text e.end.0 e.end.1 ≡ None → outcome_of text e ≡ refused (bad_position true)
unfolding outcome_of
outcome-no_end text e start s n =
    ap (λ o. outcome_between text o (offset text e.end.0 e.end.1) e.bytes) s ∙ ap (λ o. outcome_between text (Some start) o e.bytes) n

-- What comes of an edit between two positions is what comes of one between their places.
pub outcome-between : (text : List ℕ) (e : Edit) (start end : ℕ) → offset text e.start.0 e.start.1 ≡ Some start → offset text e.end.0 e.end.1 ≡ Some end → outcome_of text e ≡ outcome_between text (Some start) (Some end) e.bytes
unfolding outcome_of
outcome-between text e start end s n =
    ap (λ o. outcome_between text o (offset text e.end.0 e.end.1) e.bytes) s ∙ ap (λ o. outcome_between text (Some start) o e.bytes) n

-- What changes the text isn't refused.
not_refused : (b : Bool) (r : Refusal) (o : Outcome) (first : ℕ) (new : List ℕ) → cond b (refused r) o ≡ changed first new → (b ≡ false) × (o ≡ changed first new)
not_refused true r o first new e = absurd cc
not_refused false r o first new e = (refl, e)

-- that an edit between two places is in order, parts no character, and leaves no text that is too long
pub record IsSound (text : List ℕ) (start end : ℕ) (bytes : List ℕ) : Type 0 where
  pub order : start ≤ end
  pub start_whole : is_inside_char text start ≡ false
  pub end_whole : is_inside_char text end ≡ false
  pub short : length (apply text start end bytes) ≤ text_limit

-- An edit that changes the text is sound.
pub sound : (text : List ℕ) (start end : ℕ) (bytes new : List ℕ) (first : ℕ) → outcome_between text (Some start) (Some end) bytes ≡ changed first new → IsSound text start end bytes
sound text start end bytes new first e =
    let a = not_refused (ltb end start) _ _ first new e in
    let b = not_refused (is_inside_char text start) _ _ first new a.1 in
    let d = not_refused (is_inside_char text end) _ _ first new b.1 in
    let f = not_refused (ltb text_limit (length (apply text start end bytes))) _ _ first new d.1 in
    record {
      order = ltb-false end start a.0;
      start_whole = b.0;
      end_whole = d.0;
      short = ltb-false text_limit (length (apply text start end bytes)) f.0;
    }
