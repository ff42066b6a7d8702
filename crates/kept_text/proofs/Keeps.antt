-- What is kept of a text still holds of it after an edit, after it is read again, and after it is parsed again.
use Rattle.std.proofs.Common.{◌≡◌, ℕ, zero, suc, ◌+◌, ◌-◌, ◌*◌, ◌≤◌, List, [], ◌∷◌, ◌++◌, length, length-append, map, take, drop, min, Option, Some, None, Bool, true, false, nat_lt, refl, sym, ap, ◌∙◌, subst, arith, Ok, Err}
use Rattle.std.specs.Prelude.{if◌then◌else◌, is_some}
use Rattle.std.specs.Result.{OnOk, OnErr}
use Rattle.std.specs.declared.result.Result.{Result}
use Rattle.std.proofs.lemmas.Bool.{ltb-true, ltb-false}
use Rattle.std.proofs.lemmas.Bool.Decides.{nat_tests}
use Rattle.std.proofs.lemmas.List.{take-take, take_all, take-append-le, length-map, length-take, length-take-le}
use Rattle.text_model.specs.Edits.{Edit, Outcome, Refusal, apply, changed, is_inside_char, outcome_between, outcome_of, text_limit}
use Rattle.text_model.specs.Edits as edit
use Rattle.text_model.specs.Positions.{offset}
use Rattle.text_model.proofs.Positions.{offset-le}
use Rattle.token_model.specs.Kinds.{Tok}
use Rattle.token_model.specs.Tokens.{no_gap, FirstToken, Lex}
use Rattle.syntax_tree.specs.Tallies.{Tallies, Grows, lexed_more}
use Rattle.syntax_tree.specs.View.{tok_of}
use Rattle.syntax_tree.specs.declared.tree.Token.{Token}
use Rattle.ml_lexer.specs.Reached.{Reached, FirstReached, end_of, reach_of, reached_of}
use Rattle.ml_lexer.specs.Steady.{ends_at, steady, AllTokens}
use Rattle.ml_lexer.proofs.Agree.{agree_less}
use Rattle.ml_lexer.proofs.SameTokens.{read_again, same_steady}
use Rattle.token_laws.proofs.Ones.{lex_one}
use Rattle.token_laws.proofs.Steadies.{reached_steady}
use Rattle.token_store.specs.Stored.{lexed_by, toks_of, IsFront}
use Rattle.token_store.proofs.Fronts.{all_few, all_reached, lex_of, lexed_most, reached_ends, reached_many, with_reaches}
use Rattle.grammar_model.specs.Ocaml.{program_text}
use Rattle.resume_parser.specs.Kept.{text_in, HasParsed, IsWhole}
use Rattle.resume_parser.specs.Retaken.{kept_behind}
use Rattle.resume_parser.specs.declared.kept.KeptParse.{KeptParse}
use Rattle.resume_parser.proofs.Steps.{mapped_first}
use Rattle.kept_text.specs.Keeping.{read_behind, shifted_behind, sooner, tok_end, AreLeft, IsKept, IsKnown, IsParsedUpTo, IsParsedWhole, IsUpToDate, Kept}
use Rattle.kept_text.proofs.Fronts.{steady_few, steady_less, front_on, all_front, front_of_all, steady_first, toks_first}

-- the code's tokens, with their reaches and then without
pub toks_mapped : (ts : List Token) → toks_of (map reached_of ts) ≡ map tok_of ts
toks_mapped [] = refl
toks_mapped (t ∷ ts) = ap (λ (l : List Tok). tok_of t ∷ l) (toks_mapped ts)

-- the parser's tokens, as the code has them and as the store is seen
pub toks_are : (tokens : List Token) (ts : List Reached) → map reached_of tokens ≡ ts → map tok_of tokens ≡ toks_of ts
toks_are tokens ts same = sym (toks_mapped tokens) ∙ ap toks_of same

-- ---- reading again

-- all tokens of a text are there, whatever changes
pub left_all : (text : List ℕ) (from : ℕ) (ts : List Reached) → AllTokens FirstReached end_of text 0 ts → AreLeft text from ts
left_all text from ts all = record { read = text; all = ts; lexed = all; same = refl; left = refl }

-- those that a change leaves, alone
pub left_steady : (text : List ℕ) (from : ℕ) (ts : List Reached) → AreLeft text from ts → AreLeft text from (steady reach_of from ts)
left_steady text from ts h = record { read = h.read; all = h.all; lexed = h.lexed; same = h.same; left = steady_less from from ts (omega arith) ∙ h.left }

-- those that a change at an earlier place leaves, of another text with the same bytes before that
pub left_less : (text new : List ℕ) (first from : ℕ) (ts : List Reached) → first ≤ from → take first text ≡ take first new → AreLeft text from ts → AreLeft new first ts
left_less text new first from ts le same h = record {
  read = h.read;
  all = h.all;
  lexed = h.lexed;
  same = agree_less from first h.read text le h.same ∙ same;
  left = sym (steady_less first from ts le) ∙ ap (steady reach_of first) h.left ∙ steady_less first from h.all le;
}

-- they are the first tokens of the text
pub left_front : (text : List ℕ) (from : ℕ) (ts : List Reached) → AreLeft text from ts → IsFront FirstReached end_of text 0 (steady reach_of from ts)
left_front text from ts h = subst (λ (l : List Reached). IsFront FirstReached end_of text 0 l) (sym h.left) (front_on from h.read text 0 h.all h.same (all_front h.read 0 h.all h.lexed))

-- what was read again, or could not be, has all tokens that the change leaves
pub read_left : {T E : Type 0} (r : Result T E) (text : List ℕ) (from : ℕ) (old new : List Reached) → AreLeft text from old → OnOk r (AllTokens FirstReached end_of text 0 new)
    → OnErr r (new ≡ steady reach_of from old) → AreLeft text from new
read_left (Ok x) text from old new left all refused = left_all text from new all
read_left (Err e) text from old new left all refused = subst (AreLeft text from) (sym refused) (left_steady text from old left)

-- what isn't left by a change is at most 32 more than the tokens that end at its place or behind
pub few_read : (text : List ℕ) (from n : ℕ) (old : List Reached) → AreLeft text from old → ((ts : List Tok) → Lex text ts → n + length (steady reach_of from old) ≤ length ts)
    → (ts : List Tok) → Lex text ts → n ≤ read_behind from ts
few_read text from n old h few ts lex =
    let us = with_reaches text ts in
    let all = all_reached text ts lex in
    let same : steady reach_of from h.all ≡ steady reach_of from us = same_steady FirstReached end_of reach_of reached_steady from h.read text h.same 0 h.all us h.lexed all in
    omega (arith, few ts lex, ap length (h.left ∙ same), read_again FirstReached end_of reach_of reached_steady from text 0 us all, reached_ends text from ts, reached_many text ts)

-- so both lists have these in front
pub read_first : {T E : Type 0} (r : Result T E) (text : List ℕ) (from : ℕ) (old new : List Reached) → IsFront FirstReached end_of text 0 (steady reach_of from old)
    → OnOk r (AllTokens FirstReached end_of text 0 new) → OnErr r (new ≡ steady reach_of from old) → take (length (steady reach_of from old)) new ≡ steady reach_of from old
read_first (Ok x) text from old new front all refused = front_of_all text 0 (steady reach_of from old) new front all
read_first (Err e) text from old new front all refused =
    ap (take (length (steady reach_of from old))) refused ∙ take_all (length (steady reach_of from old)) (steady reach_of from old) (omega arith)

-- what the parser knows of tokens it knows of others with the same ones in front
known_less : (same kept : ℕ) (xs ys : List Tok) (parse : Option KeptParse) → kept ≤ length ys → take kept xs ≡ take kept ys → IsParsedUpTo same xs parse → IsParsedUpTo (min same kept) ys parse
known_less same kept xs ys parse within eq h =
    let m = min same kept in
    record {
      old = h.old;
      parsed = h.parsed;
      known = omega (arith, h.known);
      within = omega (arith, within);
      first =
          sym (take-take m same h.old (omega arith)) ∙ ap (take m) h.first ∙ take-take m same xs (omega arith)
          ∙ sym (take-take m kept xs (omega arith)) ∙ ap (take m) eq ∙ take-take m kept ys (omega arith);
    }

-- the tokens before and after reading begin with those that the change leaves
pub first_kept : {T E : Type 0} (r : Result T E) (text : List ℕ) (from kept : ℕ) (old new : List Reached) → IsFront FirstReached end_of text 0 (steady reach_of from old)
    → OnOk r (AllTokens FirstReached end_of text 0 new) → OnErr r (new ≡ steady reach_of from old) → kept ≡ length (steady reach_of from old)
    → take kept (toks_of old) ≡ take kept (toks_of new)
first_kept r text from kept old new front all refused many =
    toks_first kept old ∙ ap (λ n. toks_of (take n old)) many ∙ ap toks_of (steady_first from old ∙ sym (read_first r text from old new front all refused)) ∙ ap (λ n. toks_of (take n new)) (sym many) ∙ sym (toks_first kept new)

-- where two lists begin with the same so many, they do with fewer
pub first_less : (m n : ℕ) (xs ys : List Tok) → m ≤ n → take n xs ≡ take n ys → take m xs ≡ take m ys
first_less m n xs ys le same = sym (take-take m n xs le) ∙ ap (take m) same ∙ take-take m n ys le

-- what the parser knows of the tokens once they are read again
pub read_known : {T E : Type 0} (r : Result T E) (text : List ℕ) (from same kept : ℕ) (old new : List Reached) (parse : Option KeptParse) → IsFront FirstReached end_of text 0 (steady reach_of from old)
    → OnOk r (AllTokens FirstReached end_of text 0 new) → OnErr r (new ≡ steady reach_of from old) → kept ≡ length (steady reach_of from old)
    → IsParsedUpTo same (toks_of old) parse → IsParsedUpTo (min same kept) (toks_of new) parse
read_known r text from same kept old new parse front all refused many h =
    let first = read_first r text from old new front all refused in
    let eq = first_kept r text from kept old new front all refused many in
    known_less same kept (toks_of old) (toks_of new) parse (omega (arith, many, ap length first, length-take (length (steady reach_of from old)) new, length-map new (λ (t : Reached). t.token))) eq h

-- of the tokens before and after, those that the change leaves are the same
pub steady_one : (text : List ℕ) (from : ℕ) (old new : List Reached) → AreLeft text from old → AreLeft text from new → steady reach_of from old ≡ steady reach_of from new
steady_one text from old new h k = h.left ∙ same_steady FirstReached end_of reach_of reached_steady from h.read k.read (h.same ∙ sym k.same) 0 h.all k.all h.lexed k.lexed ∙ sym k.left

-- of tokens no more end at a later place or behind
pub fewer_end : (place later : ℕ) (ts : List Tok) → place ≤ later → ends_at tok_end later ts ≤ ends_at tok_end place ts
fewer_end place later [] le = omega arith
fewer_end place later (t ∷ ts) le = go (nat_lt t.end later) refl (nat_lt t.end place) refl (fewer_end place later ts le)
  where
    go : (c : Bool) → nat_lt t.end later ≡ c → (d : Bool) → nat_lt t.end place ≡ d → ends_at tok_end later ts ≤ ends_at tok_end place ts → (if c then 0 else 1) + ends_at tok_end later ts ≤ (if d then 0 else 1) + ends_at tok_end place ts
    go true e true f rest = omega (arith, rest)
    go true e false f rest = omega (arith, rest)
    go false e false f rest = omega (arith, rest)
    go false e true f rest = let least = ltb-false t.end later e in let less = ltb-true t.end place f in absurd (omega (arith, least, less, le))

-- Where the parser knows the tokens that a change leaves, it knows all but those that are read behind it.
pub known_most : (text : List ℕ) (from same : ℕ) (now : List Reached) (ts : List Tok) → AllTokens FirstReached end_of text 0 now → Lex text ts → length (steady reach_of from now) ≤ same → length ts - read_behind from ts ≤ same
known_most text from same now ts lexed lex known =
    let us = with_reaches text ts in
    let all = all_reached text ts lex in
    let one : steady reach_of from now ≡ steady reach_of from us = same_steady FirstReached end_of reach_of reached_steady from text text refl 0 now us lexed all in
    omega (arith, known, ap length one, read_again FirstReached end_of reach_of reached_steady from text 0 us all, reached_ends text from ts, reached_many text ts)

-- ---- counting

same_place : (from place : ℕ) (noted other : Option ℕ) → noted ≡ Some from → noted ≡ other → other ≡ Some place → from ≡ place
same_place from place noted other is same there = cc

-- what is lexed isn't shifted
lexed_unshifted : (n : ℕ) (a : Tallies) → (lexed_by n a).shifted ≡ a.shifted
lexed_unshifted zero a = refl
lexed_unshifted (suc n) a = lexed_unshifted n a

-- A refresh counts as shifted no more than it may shift: once the tokens are read, and once they are parsed, or could not be.
pub read_shifts : (outside : Kept) (a b : Tallies) (n : ℕ) → b ≡ lexed_by n a → (from place : ℕ) (ts : List Tok) → outside.changed ≡ Some from → place ≤ from → Lex outside.text ts → b.shifted ≤ a.shifted + shifted_behind place ts
read_shifts outside a b n is from place ts there le lex = omega (arith, ap (λ (t : Tallies). t.shifted) is, lexed_unshifted n a)

pub parsed_shifts : (inside outside : Kept) (text : List ℕ) (from same n : ℕ) (tokens : List Token) (now : List Reached) (a b c : Tallies) → inside ≡ outside → inside.changed ≡ Some from → text ≡ inside.text → b ≡ lexed_by n a
    → AllTokens FirstReached end_of text 0 now → map reached_of tokens ≡ now → length (steady reach_of from now) ≤ same
    → ((k : ℕ) → k ≤ same → c.shifted ≤ b.shifted + (kept_behind program_text (take k (map tok_of tokens)) + 2 * (length tokens - k)))
    → (noting place : ℕ) (ts : List Tok) → outside.changed ≡ Some noting → place ≤ noting → Lex outside.text ts → c.shifted ≤ a.shifted + shifted_behind place ts
parsed_shifts inside outside text from same n tokens now a b c view noted is counted all are known work noting place ts there le lex =
    let own : Lex text ts = subst (λ (l : List ℕ). Lex l ts) (sym (is ∙ ap (λ (k : Kept). k.text) view)) lex in
    let at : from ≡ noting = same_place from noting inside.changed outside.changed noted (ap (λ (k : Kept). k.changed) view) there in
    let one : map tok_of tokens ≡ ts = toks_are tokens now are ∙ lex_one text (toks_of now) ts (lex_of text now all) own in
    let k = length ts - read_behind place ts in
    let fewer = fewer_end place from ts (omega (arith, le, at)) in
    let within = work k (omega (arith, known_most text from same now ts all own known, fewer)) in
    omega (arith, within, ap (λ (l : List Tok). kept_behind program_text (take k l)) one, length-map tokens tok_of, ap length one, ap (λ (t : Tallies). t.shifted) counted, lexed_unshifted n a)

counted_one : (a b : Tallies) → Grows a b → Grows a (lexed_more b)
counted_one a b g = let x = g.lexed in let y = g.shifted in let z = g.typed in record { lexed = omega arith; shifted = omega arith; typed = omega arith }

counted_by : (a : Tallies) (n : ℕ) → Grows a (lexed_by n a)
counted_by a zero = record { lexed = omega arith; shifted = omega arith; typed = omega arith }
counted_by a (suc n) = counted_one a (lexed_by n a) (counted_by a n)

-- a counter grows by tokens that are lexed
pub grows_lexed : (a b : Tallies) (n : ℕ) → b ≡ lexed_by n a → Grows a b
grows_lexed a b n is = subst (Grows a) (sym is) (counted_by a n)

-- what is lexed isn't typed
lexed_untyped : (n : ℕ) (a : Tallies) → (lexed_by n a).typed ≡ a.typed
lexed_untyped zero a = refl
lexed_untyped (suc n) a = lexed_untyped n a

-- nothing was typed while tokens were read, and nothing after it
pub read_untyped : (a b c : Tallies) (n : ℕ) → b ≡ lexed_by n a → c.typed ≡ b.typed → c.typed ≡ a.typed
read_untyped a b c n is stays = stays ∙ ap (λ (t : Tallies). t.typed) is ∙ lexed_untyped n a

pub grows_on : (a b c : Tallies) → Grows a b → Grows b c → Grows a c
grows_on a b c g h = record { lexed = omega (arith, g.lexed, h.lexed); shifted = omega (arith, g.shifted, h.shifted); typed = omega (arith, g.typed, h.typed) }

-- A refresh counts the tokens that are read, and no more: by what is kept as it is inside and as it is seen, the text as it is read, and the counter before, once the tokens are read, and behind.
pub work_done : (inside outside : Kept) (text : List ℕ) (from n : ℕ) (a b c : Tallies) → inside ≡ outside → inside.changed ≡ Some from → text ≡ inside.text → b ≡ lexed_by n a
    → ((ts : List Tok) → Lex text ts → n ≤ read_behind from ts) → c.lexed ≡ b.lexed
    → (place : ℕ) (ts : List Tok) → outside.changed ≡ Some place → Lex outside.text ts → c.lexed ≤ a.lexed + read_behind place ts
work_done inside outside text from n a b c view noted is counted few stays place ts there lex =
    let own : Lex text ts = subst (λ (l : List ℕ). Lex l ts) (sym (is ∙ ap (λ (k : Kept). k.text) view)) lex in
    let same : from ≡ place = same_place from place inside.changed outside.changed noted (ap (λ (k : Kept). k.changed) view) there in
    omega (arith, few ts own, ap (λ m. ends_at tok_end m ts) same, lexed_most a b n counted, stays)

-- ---- an edit

-- what isn't refused goes on
not_refused : (t : Bool) (r : Refusal) (other : Outcome) (first : ℕ) (new : List ℕ) → (if t then edit.refused r else other) ≡ changed first new → other ≡ changed first new
not_refused true r other first new is = cc
not_refused false r other first new is = is

-- the first changed byte is where the edit starts
starts_there : (text : List ℕ) (start end : Option ℕ) (bytes : List ℕ) (first : ℕ) (new : List ℕ) → outcome_between text start end bytes ≡ changed first new → (start ≡ Some first) × ((to : ℕ) × (new ≡ apply text first to bytes))
starts_there text None end bytes first new is = cc
starts_there text (Some from) None bytes first new is = cc
starts_there text (Some from) (Some to) bytes first new is =
    let a = apply text from to bytes in
    let made : changed from a ≡ changed first new = not_refused (nat_lt text_limit (length a)) _ _ first new (not_refused (is_inside_char text to) _ _ first new (not_refused (is_inside_char text from) _ _ first new (not_refused (nat_lt to from) _ _ first new is))) in
    let same : from ≡ first = cc made in
    let there : a ≡ new = cc made in
    (ap Some same, (to, sym there ∙ ap (λ n. apply text n to bytes) same))

-- the bytes before the first changed one are as they were
same_before : (text : List ℕ) (e : Edit) (first : ℕ) (new : List ℕ) → outcome_of text e ≡ changed first new → take first text ≡ take first new
unfolding outcome_of
same_before text e first new is =
    let (there, (to, made)) = starts_there text (offset text e.start.0 e.start.1) (offset text e.end.0 e.end.1) e.bytes first new is in
    let within : first ≤ length text = offset-le text e.start.0 e.start.1 first there in
    let size : length (take first text) ≡ first = length-take-le first text within in
    let long : first ≤ length (take first text) = omega (arith, size) in
    let longer : first ≤ length (take first text ++ e.bytes) = omega (arith, length-append (take first text) e.bytes, size) in
    sym (take-take first first text (omega arith)) ∙ sym (take-append-le first (take first text) e.bytes long)
    ∙ sym (take-append-le first (take first text ++ e.bytes) (drop to text) longer) ∙ ap (take first) (sym made)

-- what is kept of a text after an edit of it
pub kept_edited : (text new : List ℕ) (e : Edit) (first same : ℕ) (tokens : List Reached) (parse : Option KeptParse) (noted : Option ℕ) (there : Bool) → outcome_of text e ≡ changed first new
    → IsKept text tokens parse noted same there → IsKept new tokens parse (Some (sooner first noted)) same there
kept_edited text new e first same tokens parse None there is h = record {
  lexed = record { read = text; all = tokens; lexed = h.lexed; same = same_before text e first new is; left = refl };
  parsed = h.parsed;
  known = omega (arith, steady_few first tokens, h.known);
  whole = tt;
  tree = h.tree;
}
kept_edited text new e first same tokens parse (Some before) there is h =
    let s = sooner first (Some before) in
    let le : (s ≤ first) × (s ≤ before) = go (nat_lt first before) refl in
    let bytes : take s text ≡ take s new = agree_less first s text new le.0 (same_before text e first new is) in
    record {
      lexed = left_less text new s before tokens le.1 bytes h.lexed;
      parsed = h.parsed;
      known = omega (arith, ap length (steady_less s before tokens le.1), steady_few s (steady reach_of before tokens), h.known);
      whole = tt;
      tree = h.tree;
    }
  where
    go : (c : Bool) → nat_lt first before ≡ c → ((if c then first else before) ≤ first) × ((if c then first else before) ≤ before)
    go true is = (omega arith, grind (arith, nat_tests))
    go false is = (grind (arith, nat_tests), omega arith)

-- what the parser knows where a change is noted
pub known_at : (noted : Option ℕ) (from : ℕ) (tokens : List Reached) (same : ℕ) → noted ≡ Some from → IsKnown noted tokens same → length (steady reach_of from tokens) ≤ same
known_at noted from tokens same is known = subst (λ (o : Option ℕ). IsKnown o tokens same) is known

-- ---- reading and parsing the text again

-- what is kept once the tokens are read again, or could not be
pub kept_read : (text : List ℕ) (tokens : List Reached) (parse : Option KeptParse) (from same : ℕ) → AreLeft text from tokens → IsParsedUpTo same (toks_of tokens) parse → length (steady reach_of from tokens) ≤ same → IsKept text tokens parse (Some from) same false
kept_read text tokens parse from same left parsed known = record { lexed = left; parsed = parsed; known = known; whole = tt; tree = tt }

-- all tokens of a text are few enough for the parser
pub few_tokens : (text : List ℕ) (tokens : List Token) (ts : List Reached) → length text ≤ text_limit → AllTokens FirstReached end_of text 0 ts → map reached_of tokens ≡ ts → length tokens ≤ 1048576
few_tokens text tokens ts short all same = omega (arith, short, all_few text 0 ts (omega arith) all, ap length same, length-map tokens reached_of)

-- a parser that has taken all tokens knows them
whole_known : (ts : List Tok) (parse : Option KeptParse) → IsParsedWhole ts parse → IsParsedUpTo (length ts) ts parse
whole_known ts None whole = absurd whole
whole_known ts (Some k) whole = record { old = ts; parsed = (whole.0.parsed, whole.1); known = omega arith; within = omega arith; first = refl }

-- what is kept once all of it is of the text
pub kept_whole : (text : List ℕ) (tokens : List Token) (ts : List Reached) (parse : Option KeptParse) (same : ℕ) → length text ≤ text_limit → AllTokens FirstReached end_of text 0 ts → map reached_of tokens ≡ ts
    → IsParsedWhole (map tok_of tokens) parse → same ≡ length tokens → IsKept text ts parse None same true
kept_whole text tokens ts parse same short all are whole many =
    let toks = toks_are tokens ts are in
    let count : length (toks_of ts) ≡ same = sym (ap length toks) ∙ length-map tokens tok_of ∙ sym many in
    let known = subst (λ (l : List Tok). IsParsedWhole l parse) toks whole in
    record {
      lexed = all;
      parsed = subst (λ n. IsParsedUpTo n (toks_of ts) parse) count (whole_known (toks_of ts) parse known);
      known = omega (arith, count, length-map ts (λ (t : Reached). t.token));
      whole = (known, omega (arith, few_tokens text tokens ts short all are, count, many));
      tree = (known, omega (arith, few_tokens text tokens ts short all are, count, many));
    }

-- a parser that has not begun knows none
pub none_known : (same : ℕ) (ts : List Tok) → IsParsedUpTo same ts None → same ≡ 0
none_known same ts h = omega (arith, h.known, ap length h.parsed)

-- what the parser requires of the tokens that it knows
pub resumed : (same : ℕ) (ts : List Tok) (k : KeptParse) → IsParsedUpTo same ts (Some k) → (old : List Tok) × HasParsed old k × (same ≤ length old) × (take same old ≡ take same ts)
resumed same ts k h = (h.old, h.parsed.0, h.known, h.first)

-- what the parser knows once it went on, or could not
pub resumed_known : {T E : Type 0} (P : ℕ → Type 0) (r : Result T E) (same : ℕ) (tokens : List Token) (k : KeptParse) → same ≤ length tokens → text_in k ≡ program_text
    → OnOk r (HasParsed (map tok_of tokens) k) → OnErr r ((n : ℕ) × (same ≤ n) × (n ≤ length tokens) × HasParsed (map tok_of (take n tokens)) k × P n) → IsParsedUpTo same (map tok_of tokens) (Some k)
resumed_known P (Ok x) same tokens k within text all some = record {
  old = map tok_of tokens;
  parsed = (all, text);
  known = omega (arith, within, length-map tokens tok_of);
  within = omega (arith, within, length-map tokens tok_of);
  first = refl;
}
resumed_known P (Err e) same tokens k within text all (n, least, most, parsed, more) = record {
  old = map tok_of (take n tokens);
  parsed = (parsed, text);
  known = omega (arith, least, most, length-map (take n tokens) tok_of, length-take n tokens);
  within = omega (arith, within, length-map tokens tok_of);
  first = ap (take same) (sym (mapped_first tokens n)) ∙ take-take same n (map tok_of tokens) least;
}

pub resumed_whole : {T E : Type 0} (r : Result T E) (ts : List Tok) (k : KeptParse) → OnOk r (IsWhole ts k) → text_in k ≡ program_text → OnOk r (IsParsedWhole ts (Some k))
resumed_whole (Ok x) ts k all text = (all, text)
resumed_whole (Err e) ts k all text = tt

-- where a tree is there, its tokens have been parsed
pub whole_parsed : {T E : Type 0} (r : Result T E) (ts : List Tok) (k : KeptParse) → OnOk r (IsWhole ts k) → OnOk r (HasParsed ts k)
whole_parsed (Ok x) ts k whole = whole.parsed
whole_parsed (Err e) ts k whole = tt

-- what is kept of the empty text, of which nothing was read yet
no_tokens : AllTokens FirstReached end_of [] 0 []
unfolding FirstToken
no_tokens = (no_gap, tt)

pub kept_new : (text : List ℕ) (tokens : List Reached) → text ≡ [] → tokens ≡ [] → IsKept text tokens None (Some 0) 0 false
kept_new text tokens empty none = subst (λ (l : List ℕ). IsKept l tokens None (Some 0) 0 false) (sym empty) (subst (λ (ts : List Reached). IsKept [] ts None (Some 0) 0 false) (sym none) (record {
  lexed = record { read = []; all = []; lexed = no_tokens; same = refl; left = refl };
  parsed = record { old = []; parsed = refl; known = omega arith; within = omega arith; first = refl };
  known = omega arith;
  whole = tt;
  tree = tt;
}))

-- where no change is noted
pub none_noted : (b : Bool) (o : Option ℕ) → b ≡ is_some o → b ≡ false → o ≡ None
none_noted b None is not = refl
none_noted b (Some n) is not = cc

-- what is kept where no change is noted and the parser has begun
pub whole_of : (noted : Option ℕ) (ts : List Tok) (parse : Option KeptParse) (k : KeptParse) → noted ≡ None → parse ≡ Some k → IsUpToDate noted ts parse → IsUpToDate None ts (Some k)
whole_of noted ts parse k none begun h = subst (λ (o : Option KeptParse). IsUpToDate None ts o) begun (subst (λ (o : Option ℕ). IsUpToDate o ts parse) none h)
