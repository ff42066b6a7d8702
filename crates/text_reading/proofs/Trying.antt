-- What a text that is tried is made of, and how many of its tokens are read.
use Rattle.std.proofs.Common.{◌≡◌, ◌∙◌, ℕ, ◌+◌, ◌-◌, ◌≤◌, List, [], ◌∷◌, length, take, Bool, true, false, nat_lt, refl, ap, sym, subst, arith}
use Rattle.std.specs.Prelude.{if◌then◌else◌, Option, Some, None}
use Rattle.std.specs.Str.{IsUtf8}
use Rattle.std.proofs.lemmas.Bool.{ltb-true}
use Rattle.text_model.specs.Edits.{changed, outcome_of, refused, text_limit, text_too_long}
use Rattle.text_model.specs.Positions.{position_of}
use Rattle.text_model.proofs.Whole.{whole_edit}
use Rattle.token_model.specs.Kinds.{Tok}
use Rattle.token_model.specs.Tokens.{Lex}
use Rattle.ml_lexer.specs.Steady.{ends_at}
use Rattle.syntax_tree.specs.Tallies.{Tallies}
use Rattle.grammar_model.specs.Ocaml.{program_text}
use Rattle.frame_parser.specs.Run.{run}
use Rattle.resume_parser.specs.Retaken.{kept_behind}
use Rattle.kept_text.specs.Keeping.{read_behind, shifted_behind, tok_end}
use Rattle.text_reading.specs.Trials.{ReadsWhole}

-- where an edit of all of a text is made, its bytes are the text
pub whole_text : (text bytes : List ℕ) (end : ℕ × ℕ) (first : ℕ) (new : List ℕ) → IsUtf8 text → end ≡ position_of text (length text)
    → outcome_of text (record { start = (1, 0); end = end; bytes = bytes }) ≡ changed first new → new ≡ bytes
whole_text text bytes end first new utf8 at is = by (nat_lt text_limit (length bytes)) (sym (whole_edit text bytes end utf8 at) ∙ is)
  where
    by : (t : Bool) → (if t then refused (text_too_long (length bytes)) else changed 0 bytes) ≡ changed first new → new ≡ bytes
    by true same = cc
    by false same = cc

-- of some tokens no more end at a place or behind than there are
few_end : (place : ℕ) (ts : List Tok) → ends_at tok_end place ts ≤ length ts
few_end place [] = omega arith
few_end place (t ∷ ts) = by (nat_lt t.end place) (few_end place ts)
  where
    by : (c : Bool) → ends_at tok_end place ts ≤ length ts → (if c then 0 else 1) + ends_at tok_end place ts ≤ length (t ∷ ts)
    by true rest = omega (arith, rest)
    by false rest = omega (arith, rest)

-- and all end at the first place or behind
pub all_end : (ts : List Tok) → length ts ≤ ends_at tok_end 0 ts
all_end [] = omega arith
all_end (t ∷ ts) = by (nat_lt t.end 0) refl (all_end ts)
  where
    by : (c : Bool) → nat_lt t.end 0 ≡ c → length ts ≤ ends_at tok_end 0 ts → length (t ∷ ts) ≤ (if c then 0 else 1) + ends_at tok_end 0 ts
    by true is rest = let less = ltb-true t.end 0 is in absurd (omega (arith, less))
    by false is rest = omega (arith, rest)

take_none : (ts : List Tok) → take 0 ts ≡ []
take_none [] = refl
take_none (t ∷ ts) = refl

-- the parser keeps nothing before the first token
none_kept : (n : ℕ) (ts : List Tok) → n ≡ 0 → kept_behind program_text (take n ts) ≡ 0
unfolding run
none_kept n ts none = ap (λ k. kept_behind program_text (take k ts)) none ∙ ap (kept_behind program_text) (take_none ts)

-- a text that is brought up to date has all of its tokens read at most, and 32 more, and the parser takes each twice at most
pub read_most : (text own : List ℕ) (noted : Option ℕ) (a b : Tallies) → own ≡ text → (noted ≡ None → b ≡ a) → ((from : ℕ) (ts : List Tok) → noted ≡ Some from → Lex own ts → b.lexed ≤ a.lexed + read_behind from ts)
    → ((from place : ℕ) (ts : List Tok) → noted ≡ Some from → place ≤ from → Lex own ts → b.shifted ≤ a.shifted + shifted_behind place ts) → ReadsWhole text a b
read_most text own None a b same idle lexed shifted = λ ts lex. (omega (arith, ap (λ (t : Tallies). t.lexed) (idle refl)), omega (arith, ap (λ (t : Tallies). t.shifted) (idle refl)))
read_most text own (Some from) a b same idle lexed shifted = λ ts lex.
    let there : Lex own ts = subst (λ (l : List ℕ). Lex l ts) (sym same) lex in
    let none = none_kept (length ts - read_behind 0 ts) ts (omega (arith, all_end ts)) in
    (omega (arith, lexed from ts refl there, few_end from ts), omega (arith, shifted from 0 ts refl (omega arith) there, none, few_end 0 ts))
