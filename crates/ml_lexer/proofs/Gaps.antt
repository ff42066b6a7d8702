-- How far a scan of a gap has come.
use Rattle.std.proofs.Common.{◌≡◌, ◌+◌, ◌<◌, ◌∷◌, [], ℕ, List, true, drop, length, get_or, sym, subst, arith, length-drop}
use Rattle.std.proofs.lemmas.List.{drop-drop}
use Rattle.token_model.specs.Bytes.{is_blank}
use Rattle.token_model.specs.Comments.{begins_comment, Closes}
use Rattle.token_model.specs.Tokens.{Gap, blank, comment, IsUnclosed, unclosed_comment}
use Rattle.ml_lexer.proofs.Inside.{two_known}

blank_first : (l rest : List ℕ) → 0 < length l → is_blank (get_or l 0 0) ≡ true → Gap (drop 1 l) rest → Gap l rest
blank_first [] rest some is gap = absurd (omega arith)
blank_first (b ∷ l) rest some is gap = blank is gap

-- a blank more
pub gap_blank : (l : List ℕ) (i : ℕ) (rest : List ℕ) → i < length l → is_blank (get_or (drop i l) 0 0) ≡ true → Gap (drop (i + 1) l) rest → Gap (drop i l) rest
gap_blank l i rest there is gap = blank_first (drop i l) rest (omega (arith, length-drop i l)) is (subst (λ (x : List ℕ). Gap x rest) (sym (drop-drop 1 i l)) gap)

-- a comment more
pub gap_comment : (l : List ℕ) (i size : ℕ) (rest : List ℕ) → begins_comment (drop i l) ≡ true → Closes (drop 2 (drop i l)) (drop size (drop i l)) → Gap (drop (i + size) l) rest → Gap (drop i l) rest
gap_comment l i size rest begins closes gap =
    subst (λ (x : List ℕ). Gap x rest) (sym (two_known 40 42 (drop i l) begins (omega arith) (omega arith))) (comment (drop size (drop i l)) closes (subst (λ (x : List ℕ). Gap x rest) (sym (drop-drop size i l)) gap))

-- a comment without an end
pub unclosed_there : (l : List ℕ) → begins_comment l ≡ true → ((rest : List ℕ) → Closes (drop 2 l) rest → ⊥) → IsUnclosed l
unclosed_there l begins none = subst (λ (x : List ℕ). IsUnclosed x) (sym (two_known 40 42 l begins (omega arith) (omega arith))) (unclosed_comment none)
