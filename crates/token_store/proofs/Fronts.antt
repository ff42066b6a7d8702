-- The first tokens of a text: one more, all of them, how many they are, and that an edit behind their reaches leaves them.
use Rattle.std.proofs.Common.{◌≡◌, ℕ, zero, suc, ◌+◌, ◌-◌, ◌≤◌, List, [], ◌∷◌, ◌++◌, length, take, drop, map, slice_get, get_or, Option, option_map, Some, None, Bool, true, false, nat_lt, refl, sym, ap, ◌∙◌, subst, arith, append_assoc, length-append, length-take}
use Rattle.std.specs.Prelude.{if◌then◌else◌}
use Rattle.std.specs.Str.{IsUtf8, IsCharBoundary}
use Rattle.std.proofs.Math.Seq.{drop-append_seam}
use Rattle.std.proofs.lemmas.Bool.{ltb-false}
use Rattle.std.proofs.lemmas.List.{drop-drop, length-map, map-append}
use Rattle.std.proofs.lemmas.Option.{slice_get_read}
use Rattle.std.proofs.lemmas.Str.{IsUtf8-drop, IsCharBoundary-from_drop}
use Rattle.token_model.specs.Kinds.{Tok}
use Rattle.token_model.specs.Tokens.{FirstToken, LexFrom, Lex}
use Rattle.syntax_tree.specs.Tallies.{Tallies, lexed_more}
use Rattle.syntax_tree.specs.declared.tree.Token.{Token}
use Rattle.syntax_tree.specs.View.{tok_of}
use Rattle.ml_lexer.specs.Reaches.{reach_at}
use Rattle.ml_lexer.specs.Reached.{Reached, FirstReached, end_of, reach_of, reached_of}
use Rattle.ml_lexer.specs.Steady.{ends_at, steady, AllTokens}
use Rattle.ml_lexer.proofs.Agree.{agree_less}
use Rattle.ml_lexer.proofs.Forward.{forward}
use Rattle.ml_lexer.proofs.SteadyGaps.{gap_by}
use Rattle.ml_lexer.proofs.Utf8.{rest_text, gap_text}
use Rattle.token_laws.proofs.Steadies.{reached_steady}
use Rattle.token_store.specs.Stored.{toks_of, lexed_by, last_end, IsFront}

-- a token of a text ends where a character does
pub first_ends : (text : List ℕ) (at : ℕ) (t : Tok) → IsUtf8 text → IsCharBoundary text at → at ≤ length text → FirstToken text at (Some t) → IsCharBoundary text t.end
unfolding FirstToken
first_ends text at t utf8 cut inside first =
    let here = first.0 in
    let ahead = forward text at t inside first in
    let gap = gap_by here.gap in
    let bytes = gap.bytes ++ here.spelled in
    let tail = rest_text here.stands (gap_text here.gap (IsUtf8-drop text at utf8 cut)) in
    let whole : drop at text ≡ bytes ++ here.rest = gap.whole ∙ sym (append_assoc gap.bytes here.spelled here.rest) in
    let size : at + length bytes ≡ t.end = omega (arith, ap length whole, length-append bytes here.rest, length-append here.spelled here.rest, here.start, here.end) in
    let rest : here.rest ≡ drop t.end text = sym (ap (drop (length bytes)) whole ∙ drop-append_seam bytes here.rest) ∙ drop-drop (length bytes) at text ∙ ap (λ n. drop n text) size in
    IsCharBoundary-from_drop text t.end ahead.2 (subst (λ (l : List ℕ). IsUtf8 l) rest tail)

-- the first tokens of a text end within it, where a character does
pub front_ends : (text : List ℕ) (at : ℕ) (ts : List Reached) → IsUtf8 text → IsCharBoundary text at → at ≤ length text → IsFront FirstReached end_of text at ts → (last_end end_of at ts ≤ length text) × IsCharBoundary text (last_end end_of at ts)
front_ends text at [] utf8 cut inside front = (inside, cut)
front_ends text at (t ∷ ts) utf8 cut inside front =
    let ahead = forward text at t.token inside front.0.0 in
    front_ends text t.token.end ts utf8 (first_ends text at t.token utf8 cut inside front.0.0) ahead.2 front.1

-- the last of the first tokens of a text: the place from which it is the first, and that it ends where they do
pub record IsLast (text : List ℕ) (at : ℕ) (ts : List Reached) (t : Reached) : Type 0 where
  pub from : ℕ
  pub inside : from ≤ length text
  pub first : FirstToken text from (Some t.token)
  pub end : t.token.end ≡ last_end end_of at ts

some_same : {T : Type 0} (t u : T) → Some t ≡ Some u → u ≡ t
some_same t u e = cc

pub last_of : (text : List ℕ) (at : ℕ) (ts : List Reached) (k : ℕ) (t : Reached) → length ts ≡ k + 1 → slice_get ts k ≡ Some t → at ≤ length text → IsFront FirstReached end_of text at ts → IsLast text at ts t
last_of text at [] k t count is inside front = absurd (omega (arith, count))
last_of text at (u ∷ []) zero t count is inside front =
    let same : t ≡ u = some_same u t is in
    record { from = at; inside = inside; first = subst (λ (v : Reached). FirstToken text at (Some v.token)) (sym same) front.0.0; end = ap end_of same }
last_of text at (u ∷ v ∷ ts) zero t count is inside front = absurd (omega (arith, count))
last_of text at (u ∷ ts) (suc k) t count is inside front =
    let ahead = forward text at u.token inside front.0.0 in
    let rest = last_of text u.token.end ts k t (omega (arith, count)) is ahead.2 front.1 in
    record { from = rest.from; inside = rest.inside; first = rest.first; end = rest.end }

-- an element of a mapped list
get_mapped : (ts : List Token) (k : ℕ) (t : Token) → slice_get ts k ≡ Some t → slice_get (map reached_of ts) k ≡ Some (reached_of t)
get_mapped [] k t is = cc
get_mapped (u ∷ ts) zero t is = ap (λ (o : Option Token). option_map reached_of o) is
get_mapped (u ∷ ts) (suc k) t is = get_mapped ts k t is

-- the same of the code's tokens
pub last_token : (text : List ℕ) (ts : List Token) (k : ℕ) (t : Token) → length ts ≡ k + 1 → slice_get ts k ≡ Some t → IsFront FirstReached end_of text 0 (map reached_of ts) → IsLast text 0 (map reached_of ts) (reached_of t)
last_token text ts k t count is front = last_of text 0 (map reached_of ts) k (reached_of t) (length-map ts reached_of ∙ count) (get_mapped ts k t is) (omega arith) front

some_count : (n : ℕ) → (n ≡ 0 → ⊥) → n ≡ (n - 1) + 1
some_count zero none = absurd (none refl)
some_count (suc n) none = omega arith

pub last_one : (text : List ℕ) (ts : List Token) (t : Token) → (length ts ≡ 0 → ⊥) → t ≡ get_or ts (length ts - 1) t → IsFront FirstReached end_of text 0 (map reached_of ts) → IsLast text 0 (map reached_of ts) (reached_of t)
last_one text ts t some is front =
    let many = some_count (length ts) some in
    last_token text ts (length ts - 1) t many (slice_get_read ts (length ts) (length ts - 1) t refl (omega (arith, many)) is) front

module _ {T : Type 0} (first : List ℕ → ℕ → Option T → Type 0) (end_of : T → ℕ) where
  -- the first tokens, and one more behind them
  pub front_more : (text : List ℕ) (at : ℕ) (ts : List T) (t : T) → IsFront first end_of text at ts → first text (last_end end_of at ts) (Some t) → IsFront first end_of text at (ts ++ t ∷ [])
  front_more text at [] t front is = (is, tt)
  front_more text at (u ∷ ts) t front is = (front.0, front_more text (end_of u) ts t front.1 is)

  -- they end where that one does
  pub end_more : (at : ℕ) (ts : List T) (t : T) → last_end end_of at (ts ++ t ∷ []) ≡ end_of t
  end_more at [] t = refl
  end_more at (u ∷ ts) t = end_more (end_of u) ts t

  -- where none is left behind them, they are all
  pub front_all : (text : List ℕ) (at : ℕ) (ts : List T) → IsFront first end_of text at ts → first text (last_end end_of at ts) None → AllTokens first end_of text at ts
  front_all text at [] front none = none
  front_all text at (t ∷ ts) front none = (front.0, front_all text (end_of t) ts front.1 none)

  -- all tokens of a text are no fewer than its first ones
  pub front_few : ((text : List ℕ) (at : ℕ) (o p : Option T) → first text at o → first text at p → o ≡ p)
      → (text : List ℕ) (at : ℕ) (xs ts : List T) → IsFront first end_of text at xs → AllTokens first end_of text at ts → length xs ≤ length ts
  front_few one text at [] ts front all = omega arith
  front_few one text at (x ∷ xs) [] front all = let bad : Some x ≡ None = one text at (Some x) None front.0 all in cc
  front_few one text at (x ∷ xs) (t ∷ ts) front all =
      let same : t ≡ x = some_same x t (one text at (Some x) (Some t) front.0 all.0) in
      let rest = front_few one text (end_of x) xs ts front.1 (subst (λ (u : T). AllTokens first end_of text (end_of u) ts) same all.1) in omega (arith, rest)

-- After an edit: where the bytes before a place are as they were, the steady tokens of the text before are the first tokens of the text after.
pub front_of_edit : (place : ℕ) (text other : List ℕ) (at : ℕ) (ts : List Reached) → take place text ≡ take place other → AllTokens FirstReached end_of text at ts → IsFront FirstReached end_of other at (steady reach_of place ts)
front_of_edit place text other at [] same all = tt
front_of_edit place text other at (t ∷ ts) same all = go (nat_lt place t.reach) refl (front_of_edit place text other t.token.end ts same all.1)
  where
    go : (c : Bool) → nat_lt place t.reach ≡ c → IsFront FirstReached end_of other t.token.end (steady reach_of place ts) → IsFront FirstReached end_of other at (if c then [] else t ∷ steady reach_of place ts)
    go true is rest = tt
    go false is rest = (reached_steady.stable text other at t all.0 (agree_less place t.reach text other (ltb-false place t.reach is) same), rest)

-- tokens with their reaches, as the definitions have them
lex_from : (text : List ℕ) (at : ℕ) (ts : List Reached) → AllTokens FirstReached end_of text at ts → LexFrom text at (toks_of ts)
lex_from text at [] all = all
lex_from text at (t ∷ ts) all = (all.0.0, lex_from text t.token.end ts all.1)

pub lex_of : (text : List ℕ) (ts : List Reached) → AllTokens FirstReached end_of text 0 ts → Lex text (toks_of ts)
unfolding Lex
lex_of text ts all = lex_from text 0 ts all

-- one token more was lexed
pub counted_more : (k m : ℕ) (t u v : Tallies) → u ≡ lexed_by k t → v ≡ lexed_more u → m ≡ suc k → v ≡ lexed_by m t
counted_more k m t u v so_far one more = one ∙ ap lexed_more so_far ∙ ap (λ n. lexed_by n t) (sym more)

-- The tokens behind one that was read: the first ones of the text still, ending where that one does.
pub record OneMore (text : List ℕ) (before now : List Token) (t : Token) : Type 0 where
  pub front : IsFront FirstReached end_of text 0 (map reached_of now)
  pub end : t.span.end ≡ last_end end_of 0 (map reached_of now)
  pub count : length now ≡ length before + 1

pub one_more : (text : List ℕ) (before now : List Token) (at : ℕ) (t : Token) → IsFront FirstReached end_of text 0 (map reached_of before) → at ≡ last_end end_of 0 (map reached_of before) → FirstToken text at (Some (tok_of t))
    → t.reach ≡ reach_at text t.span.start → now ≡ before ++ t ∷ [] → OneMore text before now t
one_more text before now at t front place first reach is =
    let mapped : map reached_of now ≡ map reached_of before ++ reached_of t ∷ [] = ap (map reached_of) is ∙ map-append reached_of before (t ∷ []) in
    let here : FirstReached text (last_end end_of 0 (map reached_of before)) (Some (reached_of t)) = (subst (λ n. FirstToken text n (Some (tok_of t))) place first, reach) in
    record {
      front = subst (λ (l : List Reached). IsFront FirstReached end_of text 0 l) (sym mapped) (front_more FirstReached end_of text 0 (map reached_of before) (reached_of t) front here);
      end = sym (ap (last_end end_of 0) mapped ∙ end_more FirstReached end_of 0 (map reached_of before) (reached_of t));
      count = ap length is ∙ length-append before (t ∷ []);
    }

-- a text has no more tokens than bytes
pub all_few : (text : List ℕ) (at : ℕ) (ts : List Reached) → at ≤ length text → AllTokens FirstReached end_of text at ts → at + length ts ≤ length text
all_few text at [] inside all = omega (arith, inside)
all_few text at (t ∷ ts) inside all =
    let on = forward text at t.token inside all.0.0 in
    let rest = all_few text t.token.end ts on.2 all.1 in omega (arith, on.0, on.1, rest)

-- the tokens of a text, with their reaches
pub with_reaches : List ℕ → List Tok → List Reached
with_reaches text [] = []
with_reaches text (t ∷ ts) = record { token = t; reach = reach_at text t.start } ∷ with_reaches text ts

reached_from : (text : List ℕ) (at : ℕ) (ts : List Tok) → LexFrom text at ts → AllTokens FirstReached end_of text at (with_reaches text ts)
unfolding with_reaches
reached_from text at [] lex = lex
reached_from text at (t ∷ ts) lex = ((lex.0, refl), reached_from text t.end ts lex.1)

pub all_reached : (text : List ℕ) (ts : List Tok) → Lex text ts → AllTokens FirstReached end_of text 0 (with_reaches text ts)
unfolding Lex
all_reached text ts lex = reached_from text 0 ts lex

pub reached_many : (text : List ℕ) (ts : List Tok) → length (with_reaches text ts) ≡ length ts
unfolding with_reaches
reached_many text [] = refl
reached_many text (t ∷ ts) = ap suc (reached_many text ts)

-- as many of them end at a place or behind
pub reached_ends : (text : List ℕ) (place : ℕ) (ts : List Tok) → ends_at end_of place (with_reaches text ts) ≡ ends_at (λ (t : Tok). t.end) place ts
unfolding with_reaches
reached_ends text place [] = refl
reached_ends text place (t ∷ ts) = ap (λ n. (if nat_lt t.end place then 0 else 1) + n) (reached_ends text place ts)

-- the tokens of a text are no fewer than its first ones
pub few_first : (text : List ℕ) (xs : List Reached) (ts : List Tok) → IsFront FirstReached end_of text 0 xs → Lex text ts → length xs ≤ length ts
few_first text xs ts front lex =
    omega (arith, front_few FirstReached end_of reached_steady.one text 0 xs (with_reaches text ts) front (all_reached text ts lex), reached_many text ts)

-- a list whose front is another is no shorter
pub shorter : {T : Type 0} (xs ys : List T) → take (length xs) ys ≡ xs → length xs ≤ length ys
shorter xs ys is = omega (arith, ap length is, length-take (length xs) ys)

-- a counter grows by no more than are lexed
pub lexed_most : (a b : Tallies) (n : ℕ) → b ≡ lexed_by n a → b.lexed ≤ a.lexed + n
lexed_most a b n is = omega (arith, ap (λ (t : Tallies). t.lexed) is, most_by a n)
  where
    one : (t : Tallies) → (lexed_more t).lexed ≤ t.lexed + 1
    one t = omega arith

    most_by : (t : Tallies) (m : ℕ) → (lexed_by m t).lexed ≤ t.lexed + m
    most_by t zero = omega arith
    most_by t (suc m) = omega (arith, one (lexed_by m t), most_by t m)
