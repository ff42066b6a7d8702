-- What reading and parsing the prelude counts: the tokens that are lexed are at most its own, no number falls, and no item is typed.
use Rattle.std.proofs.Common.{◌≡◌, ℕ, zero, suc, ◌+◌, ◌≤◌, List, [], ◌++◌, length, map, refl, sym, ap, ◌∙◌, subst, arith, append-nil}
use Rattle.std.proofs.lemmas.List.{length-map}
use Rattle.token_model.specs.Kinds.{Tok}
use Rattle.token_model.specs.Tokens.{Lex}
use Rattle.syntax_tree.specs.declared.tree.Token.{Token}
use Rattle.syntax_tree.specs.Tallies.{Tallies, Grows, lexed_more}
use Rattle.ml_lexer.specs.Reached.{Reached, FirstReached, end_of, reached_of}
use Rattle.ml_lexer.specs.Steady.{AllTokens}
use Rattle.token_store.specs.Stored.{lexed_by}
use Rattle.token_store.proofs.Fronts.{all_few, lexed_most}

-- a counter after so many lexed tokens has the same count of typed items
lexed_untyped : (n : ℕ) (c : Tallies) → (lexed_by n c).typed ≡ c.typed
lexed_untyped zero c = refl
lexed_untyped (suc n) c = lexed_untyped n c

-- tokens that are lexed leave the count of typed items as it is, and so does what leaves it behind them
pub read_untyped : (a b c : Tallies) (n : ℕ) → b ≡ lexed_by n a → c.typed ≡ b.typed → c.typed ≡ a.typed
read_untyped a b c n lexed stays = stays ∙ ap (λ (t : Tallies). t.typed) lexed ∙ lexed_untyped n a

grows_one : (a b : Tallies) → Grows a b → Grows a (lexed_more b)
grows_one a b g = let x = g.lexed in let y = g.shifted in let z = g.typed in record { lexed = omega arith; shifted = omega arith; typed = omega arith }

grows_by : (a : Tallies) (n : ℕ) → Grows a (lexed_by n a)
grows_by a zero = record { lexed = omega arith; shifted = omega arith; typed = omega arith }
grows_by a (suc n) = grows_one a (lexed_by n a) (grows_by a n)

-- no number falls where tokens are lexed
pub grows_lexed : (a b : Tallies) (n : ℕ) → b ≡ lexed_by n a → Grows a b
grows_lexed a b n is = subst (Grows a) (sym is) (grows_by a n)

-- nor where no number falls after that
pub grows_read : (a b c : Tallies) (n : ℕ) → b ≡ lexed_by n a → Grows b c → Grows a c
grows_read a b c n is h =
    let g = grows_lexed a b n is in
    record { lexed = omega (arith, g.lexed, h.lexed); shifted = omega (arith, g.shifted, h.shifted); typed = omega (arith, g.typed, h.typed) }

-- Reading bytes that are those of a text lexes no more tokens than the text has: by the counter before, once so many are lexed, and after calls that lex none.
pub lexed_within : (text bytes : List ℕ) (a b c : Tallies) (n kept : ℕ) → bytes ≡ text → b ≡ lexed_by n a → ((ts : List Tok) → Lex (bytes ++ []) ts → n + kept ≤ length ts) → c.lexed ≡ b.lexed
    → (ts : List Tok) → Lex text ts → c.lexed ≤ a.lexed + length ts
lexed_within text bytes a b c n kept same counted few stays ts lex =
    let own : Lex (bytes ++ []) ts = subst (λ (l : List ℕ). Lex l ts) (sym (append-nil bytes ∙ same)) lex in
    omega (arith, few ts own, lexed_most a b n counted, stays)

-- a text that is short enough has few enough tokens for the parser
pub few_tokens : (bytes : List ℕ) (tokens : List Token) (ts : List Reached) → length bytes ≤ 1048576 → AllTokens FirstReached end_of (bytes ++ []) 0 ts → map reached_of tokens ≡ ts → length tokens ≤ 1048576
few_tokens bytes tokens ts short all same =
    omega (arith, short, ap (λ (l : List ℕ). length l) (append-nil bytes), all_few (bytes ++ []) 0 ts (omega arith) all, ap (λ (l : List Reached). length l) same, length-map tokens reached_of)
