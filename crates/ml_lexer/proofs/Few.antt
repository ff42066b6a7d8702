-- Few tokens behind a token end before its reach.
use Rattle.std.proofs.Common.{◌≡◌, ◌+◌, ◌≤◌, ◌<◌, ◌++◌, ℕ, List, drop, length, sym, subst, ap, ◌∙◌, arith, length-drop}
use Rattle.std.proofs.lemmas.List.{drop-drop}
use Rattle.token_model.specs.Bytes.{is_blank}
use Rattle.token_model.specs.Kinds.{Tok}
use Rattle.token_model.specs.Tokens.{LexFrom}
use Rattle.ml_lexer.specs.Founds.{placed_tok}
use Rattle.ml_lexer.specs.Reaches.{HasFew}
use Rattle.ml_lexer.specs.Scans.{Found, run_length, run_end}
use Rattle.ml_lexer.specs.Steady.{ends_before}
use Rattle.ml_lexer.proofs.Forward.{tok_end, few_after, few_between, first_long}
use Rattle.ml_lexer.proofs.Near.{Near, behind_blanks, behind_token, front_near}
use Rattle.ml_lexer.proofs.Steadies.{front_found, front_reach}

-- what stands from a place on stands from the place before it on, and some bytes
further : (text : List ℕ) (place n : ℕ) → drop (place + n) text ≡ drop n (drop place text)
further text place n = sym (drop-drop n place text)

-- few tokens end before a reach that is near
near_few : (text : List ℕ) (place n r : ℕ) (ts : List Tok) → place + n ≤ length text → Near (drop place text) n r → LexFrom text (place + n) ts → ends_before tok_end (place + r) ts ≤ 31
near_few text place n r ts inside (behind_blanks near) lex =
    let few = few_after text (place + r) (place + n) ts inside lex in
    omega (arith, near, few, ap (run_length is_blank) (further text place n))
near_few text place n r ts inside (behind_token k w name rest whole spells no_blank no_paren near) lex =
    let here = drop place text in
    let at = place + n in
    let blanks = run_length is_blank (drop at text) in
    let same : run_length is_blank (drop at text) ≡ run_length is_blank (drop n here) = ap (run_length is_blank) (further text place n) in
    let gap : place + run_end is_blank n here ≡ at + blanks = omega (arith, same) in
    let end = at + blanks + length w in
    let stands : drop blanks (drop at text) ≡ w ++ rest = drop-drop blanks at text ∙ ap (λ j. drop j text) (sym gap) ∙ further text place (run_end is_blank n here) ∙ whole in
    let sum : place + (run_end is_blank n here + length w) ≡ end = omega (arith, gap) in
    let last : run_length is_blank (drop end text) ≡ run_length is_blank (drop (run_end is_blank n here + length w) here) = ap (λ j. run_length is_blank (drop j text)) (sym sum) ∙ ap (run_length is_blank) (further text place (run_end is_blank n here + length w)) in
    let few = few_between text (place + r) at end ts inside lex (λ t first. first_long text at t k w name rest inside first stands spells no_blank no_paren) in
    omega (arith, near, few, last, sum)

-- few end before the reach of a token that was found behind a gap
pub found_few : (text here : List ℕ) (at i place reach col : ℕ) (f : Found) → i < length (drop at text) → here ≡ drop i (drop at text) → place ≡ at + i → f ≡ front_found here → f.size ≤ length here → reach ≡ place + front_reach here → HasFew text (placed_tok place col f here) reach
found_few text here at i place reach col f within is at_place found fits at_reach behind lex =
    let there : here ≡ drop place text = is ∙ drop-drop i at text ∙ ap (λ k. drop k text) (sym at_place) in
    let near : Near (drop place text) f.size (front_reach here) = subst (λ (l : List ℕ). Near l f.size (front_reach here)) there (subst (λ (x : Found). Near here x.size (front_reach here)) (sym found) (front_near here)) in
    let inside : place + f.size ≤ length text = omega (arith, fits, ap length is, at_place, within, length-drop i (drop at text), length-drop at text) in
    subst (λ k. ends_before tok_end k behind ≤ 31) (sym at_reach) (near_few text place f.size (front_reach here) behind inside near lex)

-- none end before the reach of what goes up to the end
pub whole_few : (text : List ℕ) (t : Tok) (reach : ℕ) → t.end ≡ length text → reach ≤ length text + 1 → HasFew text t reach
whole_few text t reach end most behind lex = omega (arith, few_after text reach t.end behind (omega (arith, end)) lex, end, most)
