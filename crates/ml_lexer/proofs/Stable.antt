-- The first token is that of every text with the same bytes before its reach.
use Rattle.std.proofs.Common.{◌≡◌, ◌+◌, ◌≤◌, ◌<◌, ℕ, List, true, false, take, drop, length, get_or, sym, subst, ap, ◌∙◌, arith, Some, length-drop}
use Rattle.std.specs.Prelude.{if◌then◌else◌}
use Rattle.std.proofs.lemmas.List.{drop-drop}
use Rattle.token_model.specs.Bytes.{is_blank}
use Rattle.token_model.specs.Comments.{begins_comment}
use Rattle.token_model.specs.Kinds.{Tok}
use Rattle.token_model.specs.Tokens.{Gap, FirstToken, column}
use Rattle.ml_lexer.specs.Founds.{placed_tok}
use Rattle.ml_lexer.specs.Reaches.{reach_at, IsStable}
use Rattle.ml_lexer.specs.Scans.{Found}
use Rattle.ml_lexer.proofs.Standing.{StandsAt, found_stands}
use Rattle.ml_lexer.proofs.Firsts.{first_found}
use Rattle.ml_lexer.proofs.Agree.{agree_less, agree_get, agree_drop, agree_part, agree_long, agree_whole}
use Rattle.ml_lexer.proofs.Columns.{column_same}
use Rattle.ml_lexer.proofs.Steadies.{front_found, front_reach, front_steady, comment_steady}
use Rattle.ml_lexer.proofs.SteadyGaps.{gap_there}

-- the reach at a place, by what stands there
pub reach_there : (text : List ℕ) (at i : ℕ) → reach_at text (at + i) ≡ at + i + (if begins_comment (drop i (drop at text)) then length (drop i (drop at text)) + 1 else front_reach (drop i (drop at text)))
unfolding reach_at
reach_there text at i = ap (λ (l : List ℕ). at + i + (if begins_comment l then length l + 1 else front_reach l)) (sym (drop-drop i at text))

-- the token at a place, found at the front of what is left there
abbrev here_tok : List ℕ → ℕ → ℕ → Tok
here_tok text at i = placed_tok (at + i) (column text (at + i)) (front_found (drop i (drop at text))) (drop i (drop at text))

-- a token behind a gap is stable
stable_here : (text : List ℕ) (at i col : ℕ) → col ≡ column text (at + i) → i < length (drop at text) → Gap (drop at text) (drop i (drop at text)) → is_blank (get_or (drop i (drop at text)) 0 0) ≡ false → begins_comment (drop i (drop at text)) ≡ false
    → (f : Found) → f ≡ front_found (drop i (drop at text)) → 0 < f.size → f.size ≤ length (drop i (drop at text)) → f.name_start + f.name_size ≤ f.size → f.size ≤ front_reach (drop i (drop at text))
    → IsStable text at (placed_tok (at + i) col f (drop i (drop at text))) (at + i + front_reach (drop i (drop at text)))
stable_here text at i col has within gap no_blank no_comment f is some fits named reached other e =
    let here = drop i (drop at text) in
    let there = drop i (drop at other) in
    let r = front_reach here in
    let sum : at + i + r ≡ at + (i + r) = omega arith in
    let e1 : take (i + r) (drop at text) ≡ take (i + r) (drop at other) = agree_drop at (i + r) text other (subst (λ n. take n text ≡ take n other) sum e) in
    let e2 : take r here ≡ take r there = agree_drop i r (drop at text) (drop at other) e1 in
    let gap_too : Gap (drop at other) there = gap_there i (drop at text) (drop at other) (omega arith) gap (agree_less (i + r) i (drop at text) (drop at other) (omega arith) e1) in
    let positive : 0 < r = omega (arith, some, reached) in
    let same = front_steady here there positive e2 in
    let no_blank_too : is_blank (get_or there 0 0) ≡ false = ap is_blank (agree_get r 0 here there positive e2) ∙ no_blank in
    let no_comment_too = comment_steady here there positive e2 no_comment in
    let long : f.size ≤ length there = agree_long r f.size here there e2 reached fits in
    let stands : StandsAt there f = subst (λ (x : Found). StandsAt there x) (same.0 ∙ sym is) (found_stands there (omega (arith, long, some)) no_blank_too no_comment_too) in
    let first : FirstToken other at (Some (placed_tok (at + i) col f there)) = first_found other at i col f (has ∙ column_same (at + i + r) (at + i) text other (omega arith) e) (omega (arith, long, some, length-drop i (drop at other), length-drop at other)) (omega (arith, long, some, length-drop i (drop at other))) gap_too stands long in
    let name : take f.name_size (drop f.name_start there) ≡ take f.name_size (drop f.name_start here) = agree_part r f.name_start f.name_size here there (omega (arith, named, reached)) e2 in (
      subst (λ (t : Tok). FirstToken other at (Some t)) (ap (λ (n : List ℕ). record { kind = f.kind; start = at + i; end = at + i + f.size; col = col; name = n }) name) first,
      reach_there other at i ∙ ap (λ t. at + i + (if t then length there + 1 else front_reach there)) no_comment_too ∙ ap (λ k. at + i + k) same.1,
    )

-- the same, where what stands behind the gap and its place have names of their own
pub stable_at : (text here : List ℕ) (at i place reach col : ℕ) → col ≡ column text place → i < length (drop at text) → Gap (drop at text) (drop i (drop at text)) → here ≡ drop i (drop at text) → place ≡ at + i → is_blank (get_or here 0 0) ≡ false → begins_comment here ≡ false
    → (f : Found) → f ≡ front_found here → 0 < f.size → f.size ≤ length here → f.name_start + f.name_size ≤ f.size → f.size ≤ front_reach here → reach ≡ place + front_reach here → IsStable text at (placed_tok place col f here) reach
stable_at text here at i place reach col has within gap is at_place no_blank no_comment f found some fits named reached at_reach =
    let h = drop i (drop at text) in
    let stable : IsStable text at (placed_tok (at + i) col f h) (at + i + front_reach h) = stable_here text at i col (has ∙ ap (column text) at_place) within gap (subst (λ (l : List ℕ). is_blank (get_or l 0 0) ≡ false) is no_blank) (subst (λ (l : List ℕ). begins_comment l ≡ false) is no_comment)
    f (found ∙ ap front_found is) some (subst (λ (l : List ℕ). f.size ≤ length l) is fits) named (subst (λ (l : List ℕ). f.size ≤ front_reach l) is reached) in
    let with_here : IsStable text at (placed_tok (at + i) col f here) (at + i + front_reach here) = subst (λ (l : List ℕ). IsStable text at (placed_tok (at + i) col f l) (at + i + front_reach l)) (sym is) stable in
    let with_place : IsStable text at (placed_tok place col f here) (place + front_reach here) = subst (λ k. IsStable text at (placed_tok k col f here) (k + front_reach here)) (sym at_place) with_here in
    subst (λ k. IsStable text at (placed_tok place col f here) k) (sym at_reach) with_place

-- a token that all of the text and its end decide is stable
pub whole_stable : (text : List ℕ) (at : ℕ) (t : Tok) (reach : ℕ) → FirstToken text at (Some t) → reach ≡ reach_at text t.start → length text < reach → IsStable text at t reach
whole_stable text at t reach first is long other e =
    let same : text ≡ other = agree_whole reach text other long e in
    (subst (λ (l : List ℕ). FirstToken l at (Some t)) same first, sym (is ∙ ap (λ (l : List ℕ). reach_at l t.start) same))

-- the reach of what was found at a place
pub reach_found : (text here : List ℕ) (at i place : ℕ) → here ≡ drop i (drop at text) → place ≡ at + i → begins_comment here ≡ false → reach_at text place ≡ place + front_reach here
reach_found text here at i place is at_place no_comment =
    ap (reach_at text) at_place ∙ reach_there text at i
    ∙ ap (λ (l : List ℕ). at + i + (if begins_comment l then length l + 1 else front_reach l)) (sym is) ∙ ap (λ t. at + i + (if t then length here + 1 else front_reach here)) no_comment ∙ ap (λ k. k + front_reach here) (sym at_place)

-- and of a comment that has no end
pub reach_unclosed : (text here : List ℕ) (at i place : ℕ) → here ≡ drop i (drop at text) → place ≡ at + i → begins_comment here ≡ true → reach_at text place ≡ place + (length here + 1)
reach_unclosed text here at i place is at_place comment =
    ap (reach_at text) at_place ∙ reach_there text at i
    ∙ ap (λ (l : List ℕ). at + i + (if begins_comment l then length l + 1 else front_reach l)) (sym is) ∙ ap (λ t. at + i + (if t then length here + 1 else front_reach here)) comment ∙ ap (λ k. k + (length here + 1)) (sym at_place)
