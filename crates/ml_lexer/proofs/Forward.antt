-- Tokens go forward in a text, so few of them end before a place that is near.
use Rattle.std.proofs.Common.{◌≡◌, ◌+◌, ◌-◌, ◌≤◌, ◌<◌, ◌++◌, ◌∷◌, [], ℕ, suc, List, Bool, true, false, drop, length, get_or, sym, subst, ap, ◌∙◌, arith, refl, Some, length-drop, length-append}
use Rattle.std.specs.Prelude.{if◌then◌else◌, ◌==◌, nat_lt}
use Rattle.std.proofs.Math.ListN.{get_or-append}
use Rattle.std.proofs.lemmas.List.{drop-drop}
use Rattle.std.proofs.lemmas.Bool.{both_ways, ltb-true, ltb-false}
use Rattle.token_model.specs.Bytes.{is_blank}
use Rattle.token_model.specs.Kinds.{Kind, Tok}
use Rattle.token_model.specs.Spellings.{Spells}
use Rattle.token_model.specs.Tokens.{Gap, no_gap, blank, comment, Stands, unclosed, longest, stray, FirstToken, LexFrom}
use Rattle.ml_lexer.specs.Scans.{run_length}
use Rattle.ml_lexer.specs.Steady.{ends_before}
use Rattle.ml_lexer.proofs.Runs.{run_le, run_later}
use Rattle.ml_lexer.proofs.OneGap.{IsStop, gap_one}
use Rattle.ml_lexer.proofs.Stops.{stands_stop, stands_some, spelled_some}
use Rattle.ml_lexer.proofs.SteadyGaps.{gap_by}
use Rattle.ml_lexer.proofs.SteadyTicks.{first_fails}

-- where a token ends
abbrev pub tok_end : Tok → ℕ
tok_end t = t.end

-- a gap that ends where none goes on passes the blanks
blanks_passed : {bs rest : List ℕ} → Gap bs rest → IsStop rest → length rest + run_length is_blank bs ≤ length bs
blanks_passed {bs = bs} no_gap stop = omega (arith, first_fails is_blank bs stop.no_blank)
blanks_passed (blank {b = b} {bs = bs} is gap) stop = omega (arith, blanks_passed gap stop, ap (λ t. if t then run_length is_blank bs + 1 else 0) is)
blanks_passed {rest = rest} (comment {bs = bs} middle closes gap) stop =
    let whole = gap_by (comment {bs = bs} middle closes gap) in
    omega (arith, ap length whole.whole, length-append whole.bytes rest)

-- the blanks at the front are a gap
blanks_gap : (bs : List ℕ) → Gap bs (drop (run_length is_blank bs) bs)
blanks_gap [] = no_gap
blanks_gap (b ∷ bs) = elim (is_blank b) as (λ t. is_blank b ≡ t → Gap (b ∷ bs) (drop (if t then run_length is_blank bs + 1 else 0) (b ∷ bs))) [
  | true ↦ λ is. let size : run_length is_blank bs + 1 ≡ suc (run_length is_blank bs) = omega arith in subst (λ n. Gap (b ∷ bs) (drop n (b ∷ bs))) (sym size) (blank is (blanks_gap bs))
  | false ↦ λ is. no_gap
] refl

-- the first token starts behind the blanks, has a byte, and ends in the text
pub forward : (text : List ℕ) (at : ℕ) (t : Tok) → at ≤ length text → FirstToken text at (Some t) → (at + run_length is_blank (drop at text) ≤ t.start) × (t.start < t.end) × (t.end ≤ length text)
unfolding FirstToken
forward text at t inside first =
    let here = first.0 in
    let passed = blanks_passed here.gap (stands_stop here.stands) in
    let some = stands_some here.stands in (
      omega (arith, here.start, passed, length-drop at text),
      omega (arith, here.end, some),
      omega (arith, here.start, here.end, passed, length-append here.spelled here.rest, length-drop at text),
    )

-- of the tokens behind a place and blanks no more end before another place than bytes stand between
pub few_after : (text : List ℕ) (place at : ℕ) (ts : List Tok) → at ≤ length text → LexFrom text at ts → ends_before tok_end place ts ≤ place - (at + run_length is_blank (drop at text) + 1)
few_after text place at [] inside lex = omega arith
few_after text place at (t ∷ ts) inside lex =
    let on = forward text at t inside lex.0 in
    let rest = few_after text place t.end ts on.2 lex.1 in
    elim (nat_lt t.end place) as (λ c. nat_lt t.end place ≡ c → (if c then 1 else 0) + ends_before tok_end place ts ≤ place - (at + run_length is_blank (drop at text) + 1)) [
      | true ↦ λ is. omega (arith, on.0, on.1, rest, ltb-true t.end place is)
      | false ↦ λ is. omega (arith, rest, ltb-false t.end place is)
    ] refl

-- what stands is no shorter than what is spelled there
stands_long : {k l : Kind} {w v n m r s : List ℕ} → Stands k w n r → w ++ r ≡ v ++ s → Spells l v m s → length v ≤ length w
stands_long {w = w} {v = v} {s = s} (unclosed u) same spells = omega (arith, ap length same, length-append w [], length-append v s)
stands_long {l = l} {v = v} {m = m} {s = s} (longest ends none is) same spells = is.longest l v m s same spells
stands_long {l = l} {v = v} {m = m} {s = s} (stray ends none no_blank no_token all last) same spells = absurd (no_token l v m s same spells)

-- no gap goes on from a spelling that begins with neither a blank nor `(`
spelled_stop : (bs w rest : List ℕ) → bs ≡ w ++ rest → 0 < length w → is_blank (get_or w 0 0) ≡ false → (get_or w 0 0 == 40) ≡ false → IsStop bs
spelled_stop bs w rest whole some no_blank no_paren =
    let first : get_or bs 0 0 ≡ get_or w 0 0 = ap (λ (l : List ℕ). get_or l 0 0) whole ∙ get_or-append w rest 0 0 some in
    record {
      no_blank = ap is_blank first ∙ no_blank;
      no_comment = λ l middle same c. both_ways (get_or bs 0 0 == 40) (ap (λ b. b == 40) first ∙ no_paren) (ap (λ (x : List ℕ). get_or x 0 0 == 40) same);
    }

-- the first token is no shorter than what is spelled behind the blanks
pub first_long : (text : List ℕ) (at : ℕ) (t : Tok) (k : Kind) (w name rest : List ℕ) → at ≤ length text → FirstToken text at (Some t) → drop (run_length is_blank (drop at text)) (drop at text) ≡ w ++ rest → Spells k w name rest → is_blank (get_or w 0 0) ≡ false → (get_or w 0 0 == 40) ≡ false
    → at + run_length is_blank (drop at text) + length w ≤ t.end
unfolding FirstToken
first_long text at t k w name rest inside first whole spells no_blank no_paren =
    let bytes = drop at text in
    let n = run_length is_blank bytes in
    let stop = spelled_stop (drop n bytes) w rest whole (spelled_some spells) no_blank no_paren in
    let here = first.0 in
    let same = gap_one (stands_stop here.stands) stop here.gap (blanks_gap bytes) in
    let long = stands_long here.stands (same ∙ whole) spells in
    omega (arith, here.start, here.end, long, ap length same, length-drop n bytes, length-drop at text, run_le is_blank bytes)

-- the same, where a token at least so long stands between
pub few_between : (text : List ℕ) (place at end : ℕ) (ts : List Tok) → at ≤ length text → LexFrom text at ts → ((t : Tok) → FirstToken text at (Some t) → end ≤ t.end) → ends_before tok_end place ts ≤ 1 + (place - (end + run_length is_blank (drop end text) + 1))
few_between text place at end [] inside lex long = omega arith
few_between text place at end (t ∷ ts) inside lex long =
    let on = forward text at t inside lex.0 in
    let rest = few_after text place t.end ts on.2 lex.1 in
    let behind = long t lex.0 in
    let sum : end + (t.end - end) ≡ t.end = omega (arith, behind) in
    let later : run_length is_blank (drop end text) ≤ (t.end - end) + run_length is_blank (drop t.end text) = subst (λ (l : List ℕ). run_length is_blank (drop end text) ≤ (t.end - end) + run_length is_blank l) (drop-drop (t.end - end) end text ∙ ap (λ k. drop k text) sum) (run_later is_blank (t.end - end) (drop end text)) in
    let least : (if nat_lt t.end place then 1 else 0) ≤ 1 = at_most (nat_lt t.end place) in
    omega (arith, rest, later, behind, least)
  where
    at_most : (c : Bool) → (if c then 1 else 0) ≤ 1
    at_most true = omega arith
    at_most false = omega arith
