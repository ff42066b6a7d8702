-- The first token at or behind a place, with its reach, has the laws that keep tokens through edits.
use Rattle.std.proofs.Common.{◌≡◌, ◌+◌, ◌≤◌, ◌<◌, ◌++◌, ◌∷◌, [], ℕ, List, true, false, drop, length, get_or, sym, subst, arith, refl, ap, ◌∙◌, Option, Some, None, length-append, length-take, length-drop}
use Rattle.std.specs.Prelude.{if◌then◌else◌, nat_lt}
use Rattle.std.proofs.Math.Seq.{drop-append_seam}
use Rattle.std.proofs.lemmas.Bool.{both_ways}
use Rattle.token_model.specs.Bytes.{is_blank}
use Rattle.token_model.specs.Comments.{begins_comment}
use Rattle.token_model.specs.Kinds.{Kind, Tok}
use Rattle.token_model.specs.Tokens.{Gap, Stands, unclosed, longest, stray, IsFirst, FirstToken, LexFrom, column}
use Rattle.ml_lexer.specs.Founds.{placed_tok}
use Rattle.ml_lexer.specs.Reached.{Reached, end_of, reach_of, FirstReached}
use Rattle.ml_lexer.specs.Reaches.{reach_at, IsStable, HasFew}
use Rattle.ml_lexer.specs.Steady.{ends_before, AllTokens, IsSteady}
use Rattle.ml_lexer.proofs.Few.{found_few, whole_few}
use Rattle.ml_lexer.proofs.Firsts.{first_at, first_col}
use Rattle.ml_lexer.proofs.Forward.{tok_end}
use Rattle.ml_lexer.proofs.Framed.{front_framed, front_within}
use Rattle.ml_lexer.proofs.Stable.{stable_at, whole_stable, reach_found, reach_unclosed}
use Rattle.ml_lexer.proofs.Standing.{StandsAt, found_stands}
use Rattle.ml_lexer.proofs.Steadies.{front_found, front_reach}
use Rattle.ml_lexer.proofs.SteadyGaps.{gap_by}
use Rattle.ml_lexer.proofs.Stops.{stands_stop, stands_some}
use Rattle.token_laws.proofs.Ones.{token_one, none_or_one}

-- a token that begins as a comment goes up to the end
comment_whole : {k : Kind} {w n r : List ℕ} → Stands k w n r → begins_comment (w ++ r) ≡ true → r ≡ []
comment_whole (unclosed u) begins = refl
comment_whole (longest {bytes = w} {rest = r} ends none is) begins = absurd (both_ways (begins_comment (w ++ r)) none begins)
comment_whole (stray {b = b} {bs = bs} {rest = r} ends none no_blank no_token all last) begins = absurd (both_ways (begins_comment (b ∷ bs ++ r)) none begins)

-- the token is stable, and few tokens behind it end before its reach
abbrev HasLaws : List ℕ → ℕ → Tok → Type 0
HasLaws text at t = IsStable text at t (reach_at text t.start) × HasFew text t (reach_at text t.start)

-- a token that begins as a comment
comment_laws : (text : List ℕ) (at i : ℕ) (t : Tok) (l : List ℕ) → FirstToken text at (Some t) → l ≡ drop i (drop at text) → t.start ≡ at + i → begins_comment l ≡ true → t.end ≡ length text → t.start + length l ≡ length text → HasLaws text at t
comment_laws text at i t l first is place begins end whole =
    let reach = reach_unclosed text l at i t.start is place begins in
    (whole_stable text at t (reach_at text t.start) first refl (omega (arith, reach, whole)), whole_few text t (reach_at text t.start) end (omega (arith, reach, whole)))

-- a token that is found at the front of what is left
found_laws : (text : List ℕ) (at i : ℕ) (t : Tok) (l : List ℕ) → FirstToken text at (Some t) → at ≤ length text → i < length (drop at text) → Gap (drop at text) (drop i (drop at text)) → l ≡ drop i (drop at text) → t.start ≡ at + i → 0 < length l → is_blank (get_or l 0 0) ≡ false → begins_comment l ≡ false → HasLaws text at t
found_laws text at i t l first inside within gap is place some no_blank no_comment =
    let f = front_found l in
    let stands : StandsAt l f = found_stands l some no_blank no_comment in
    let fits = front_within l some in
    let framed = front_framed l in
    let positive : 0 < f.size = omega (arith, stands_some stands, length-take f.size l) in
    let has : t.col ≡ column text t.start = first_col text at t first in
    let one : t ≡ placed_tok t.start t.col f l = token_one text at t (placed_tok t.start t.col f l) first (first_at text l at i t.start t.col f has inside within gap is place stands fits) in
    let reach : reach_at text t.start ≡ t.start + front_reach l = reach_found text l at i t.start is place no_comment in (
      subst (λ (u : Tok). IsStable text at u (reach_at text t.start)) (sym one) (stable_at text l at i t.start (reach_at text t.start) t.col has within gap is place no_blank no_comment f refl positive fits framed.name framed.reached reach),
      subst (λ (u : Tok). HasFew text u (reach_at text t.start)) (sym one) (found_few text l at i t.start (reach_at text t.start) t.col f within is place refl fits reach),
    )

first_laws : (text : List ℕ) (at : ℕ) (t : Tok) → IsFirst at (drop at text) t → FirstToken text at (Some t) → HasLaws text at t
first_laws text at t f first =
    let l = f.spelled ++ f.rest in
    let x = gap_by f.gap in
    let i = length x.bytes in
    let is : l ≡ drop i (drop at text) = sym (ap (λ (b : List ℕ). drop i b) x.whole ∙ drop-append_seam x.bytes l) in
    let size : length (drop at text) ≡ i + length l = ap length x.whole ∙ length-append x.bytes l in
    let some : 0 < length l = omega (arith, stands_some f.stands, length-append f.spelled f.rest) in
    let place : t.start ≡ at + i = omega (arith, f.start, size) in
    elim (begins_comment l) as (λ c. begins_comment l ≡ c → HasLaws text at t) [
      | true ↦ λ begins.
          let none : length f.rest ≡ 0 = ap length (comment_whole f.stands begins) in
          comment_laws text at i t l first is place begins (omega (arith, f.end, f.start, none, size, some, length-append f.spelled f.rest, length-drop at text)) (omega (arith, f.start, size, some, length-drop at text))
      | false ↦ λ no_comment. found_laws text at i t l first (omega (arith, size, some, length-drop at text)) (omega (arith, size, some)) (subst (λ (b : List ℕ). Gap (drop at text) b) is f.gap) is place some (stands_stop f.stands).no_blank no_comment
    ] refl

token_laws : (text : List ℕ) (at : ℕ) (t : Tok) → FirstToken text at (Some t) → HasLaws text at t
unfolding FirstToken
token_laws text at t first = first_laws text at t first.0 first

-- the tokens without their reaches
plain : List Reached → List Tok
plain [] = []
plain (t ∷ ts) = t.token ∷ plain ts

lex_plain : (text : List ℕ) (at : ℕ) (ts : List Reached) → AllTokens FirstReached end_of text at ts → LexFrom text at (plain ts)
unfolding plain
lex_plain text at [] lex = lex
lex_plain text at (t ∷ ts) lex = (lex.0.0, lex_plain text t.token.end ts lex.1)

ends_plain : (place : ℕ) (ts : List Reached) → ends_before end_of place ts ≡ ends_before tok_end place (plain ts)
unfolding plain
ends_plain place [] = refl
ends_plain place (t ∷ ts) = ap (λ n. (if nat_lt t.token.end place then 1 else 0) + n) (ends_plain place ts)

reached_same : (t u : Reached) → t.token ≡ u.token → t.reach ≡ u.reach → t ≡ u
reached_same t u token reach i = record { token = token i; reach = reach i }

reached_one : (text : List ℕ) (at : ℕ) (o p : Option Reached) → FirstReached text at o → FirstReached text at p → o ≡ p
reached_one text at None None first second = refl
reached_one text at None (Some u) none some = absurd (none_or_one text at u.token none some.0)
reached_one text at (Some t) None some none = absurd (none_or_one text at t.token none some.0)
reached_one text at (Some t) (Some u) first second =
    let same : t.token ≡ u.token = token_one text at t.token u.token first.0 second.0 in
    ap Some (reached_same t u same (first.1 ∙ ap (λ (v : Tok). reach_at text v.start) same ∙ sym second.1))

pub reached_steady : IsSteady FirstReached end_of reach_of
reached_steady = record {
  one = reached_one;
  stable = λ text other at t first same.
      let stable : IsStable text at t.token t.reach = subst (λ n. IsStable text at t.token n) (sym first.1) (token_laws text at t.token first.0).0 in
      ((stable other same).0, sym (stable other same).1);
  few = λ text at t ts lex.
      let few : HasFew text t.token t.reach = subst (λ n. HasFew text t.token n) (sym lex.0.1) (token_laws text at t.token lex.0.0).1 in
      subst (λ n. n ≤ 31) (sym (ends_plain t.reach ts)) (few (plain ts) (lex_plain text t.token.end ts lex.1));
}
