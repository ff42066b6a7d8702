-- Where a token stands no gap goes on.
use Rattle.std.proofs.Common.{◌≡◌, ◌<◌, ◌++◌, ◌∷◌, [], ℕ, List, true, false, length, get_or, sym, subst, arith, refl, ap, ◌∙◌, inl, inr, append-nil}
use Rattle.std.proofs.Math.ListN.{get_or-append}
use Rattle.std.proofs.lemmas.Bool.{both_ways, eqb-true, false_from_ne_true}
use Rattle.std.proofs.lemmas.Bool.Decides.{nat_tests}
use Rattle.token_model.specs.Kinds.{Kind}
use Rattle.token_model.specs.Bytes.{is_blank}
use Rattle.token_model.specs.Comments.{begins_comment, Closes}
use Rattle.token_model.specs.Spellings.{Spells}
use Rattle.token_model.specs.Tokens.{IsUnclosed, unclosed_comment, unclosed_string, unclosed_quoted, Stands, unclosed, longest, stray}
use Rattle.ml_lexer.proofs.Quoted.{opens_is}
use Rattle.ml_lexer.proofs.Classes.{Class, class_of, mark_class, Of, PlainMark, paren_end, bracket_end, brace_end, a_comma, one_semi, two_semis, one_colon, two_colons, assign, coercion, one_dot, two_dots, by_class}
use Rattle.ml_lexer.proofs.OneGap.{IsStop, tail_same}

-- a blank is of the class of marks
blank_byte : (b : ℕ) → is_blank b ≡ true → class_of b ≡ mark_class
unfolding class_of
blank_byte b is = grind (arith, nat_tests)

-- no mark begins with a blank
plain_mark_first : {w : List ℕ} → PlainMark w → is_blank (get_or w 0 0) ≡ false
plain_mark_first paren_end = refl
plain_mark_first bracket_end = refl
plain_mark_first brace_end = refl
plain_mark_first a_comma = refl
plain_mark_first one_semi = refl
plain_mark_first two_semis = refl
plain_mark_first one_colon = refl
plain_mark_first two_colons = refl
plain_mark_first assign = refl
plain_mark_first coercion = refl
plain_mark_first one_dot = refl
plain_mark_first two_dots = refl

-- what is spelled where a mark may stand doesn't begin with a blank
mark_first : (w rest : List ℕ) → Of mark_class w rest → is_blank (get_or w 0 0) ≡ false
mark_first w rest (inl mark) = plain_mark_first mark
mark_first [] rest (inr run) = absurd run
mark_first (b ∷ bs) rest (inr run) = ap is_blank (eqb-true b 35 run.0)

-- a spelling has a byte
pub spelled_some : {k : Kind} {w n rest : List ℕ} → Spells k w n rest → 0 < length w
spelled_some spells = let c = by_class spells in c.some

-- no spelling begins with a blank
spelled_first : {k : Kind} {w n rest : List ℕ} → Spells k w n rest → is_blank (get_or w 0 0) ≡ false
spelled_first {w = w} {rest = rest} spells =
    let c = by_class spells in
    let b = get_or w 0 0 in
    false_from_ne_true (is_blank b) (λ e. both_ways (is_blank b) (mark_first w rest (subst (λ (x : Class). Of x w rest) (blank_byte b e) c.sort)) e)

-- where no comment begins none is closed
not_closed : (l bs middle : List ℕ) → begins_comment l ≡ false → l ≡ 40 ∷ 42 ∷ bs → Closes bs middle → ⊥
not_closed l bs middle none same c = both_ways true (ap begins_comment (sym same) ∙ none) refl

-- no gap goes on from what is unclosed
unclosed_stop : {l : List ℕ} → IsUnclosed l → IsStop l
unclosed_stop (unclosed_comment none) = record { no_blank = refl; no_comment = λ cs middle same c. none middle (subst (λ (l : List ℕ). Closes l middle) (sym (tail_same (tail_same same))) c) }
unclosed_stop (unclosed_string none) = record { no_blank = refl; no_comment = λ cs middle same c. omega (arith, ap (λ (l : List ℕ). get_or l 0 0) same) }
unclosed_stop {l = l} (unclosed_quoted opened none) =
    let first = (opens_is l opened).0 in
    record { no_blank = ap is_blank first; no_comment = λ cs middle same c. omega (arith, first, ap (λ (l : List ℕ). get_or l 0 0) same) }

-- no gap goes on from where a token stands
pub stands_stop : {k : Kind} {w n rest : List ℕ} → Stands k w n rest → IsStop (w ++ rest)
stands_stop (unclosed {bytes = w} u) = subst IsStop (sym (append-nil w)) (unclosed_stop u)
stands_stop (longest {bytes = w} {rest = rest} ends none is) = record {
  no_blank = ap is_blank (get_or-append w rest 0 0 (spelled_some is.spelled)) ∙ spelled_first is.spelled;
  no_comment = λ bs middle same c. not_closed (w ++ rest) bs middle none same c;
}
stands_stop (stray {b = b} {bs = bs} {rest = rest} ends none no_blank no_token all last) = record {
  no_blank = no_blank;
  no_comment = λ cs middle same c. not_closed (b ∷ bs ++ rest) cs middle none same c;
}

-- what is unclosed has a byte
unclosed_some : {l : List ℕ} → IsUnclosed l → 0 < length l
unclosed_some (unclosed_comment none) = omega arith
unclosed_some (unclosed_string none) = omega arith
unclosed_some {l = []} (unclosed_quoted opened none) = absurd (omega (arith, (opens_is [] opened).0))
unclosed_some {l = b ∷ bs} (unclosed_quoted opened none) = omega arith

-- what stands has a byte
pub stands_some : {k : Kind} {w n rest : List ℕ} → Stands k w n rest → 0 < length w
stands_some (unclosed u) = unclosed_some u
stands_some (longest ends none is) = spelled_some is.spelled
stands_some (stray ends none no_blank no_token all last) = omega arith
