-- What the parser takes of the prelude: each of its tokens once.
use Rattle.std.proofs.Common.{◌≡◌, ◌∙◌, ℕ, zero, suc, ◌+◌, ◌≤◌, List, [], ◌++◌, length, map, take, refl, sym, ap, subst, arith}
use Rattle.token_model.specs.Kinds.{Tok}
use Rattle.token_model.specs.Tokens.{Lex}
use Rattle.tree_model.specs.Slots.{is_operand}
use Rattle.token_laws.proofs.Ones.{lex_one}
use Rattle.grammar_model.specs.Keys.{kind_key, key_of}
use Rattle.grammar_model.specs.Ocaml.{Text, interface_text, rows}
use Rattle.grammar_model.specs.Rows.{chain_of, grower_of}
use Rattle.grammar_model.specs.Tables.{first_place}
use Rattle.recovery_model.specs.Recovery.{step}
use Rattle.recovery_model.specs.Steps as rules
use Rattle.typing_model.specs.PreludeText.{prelude_text}
use Rattle.syntax_tree.specs.Tallies.{Tallies}
use Rattle.syntax_tree.specs.View.{tok_of}
use Rattle.syntax_tree.specs.declared.tree.Token.{Token}
use Rattle.ml_lexer.specs.Reached.{Reached, reached_of}
use Rattle.token_store.specs.Stored.{lexed_by, toks_of}
use Rattle.frame_parser.specs.Run.{all_shifts, shifts}
use Rattle.resume_parser.specs.Kept.{IsCounted}
use Rattle.resume_parser.proofs.Bounds.{counted_all, fewer_taken}
use Rattle.resume_parser.proofs.Steps.{mapped_first}
use Rattle.prelude_checks.proofs.Prelude.{lexed}
use Rattle.prelude_checks.proofs.Tokens.{tokens}
use Rattle.text_analysis.proofs.Reading.{toks_read}

of_prelude : all_shifts interface_text tokens ≡ length tokens
unfolding all_shifts shifts step rules.step rows chain_of grower_of first_place kind_key key_of is_operand
of_prelude = refl

taken_once : (ts : List Tok) → Lex prelude_text ts → all_shifts interface_text ts ≡ length ts
taken_once ts lex = subst (λ us. all_shifts interface_text us ≡ length us) (lex_one prelude_text tokens ts lexed lex) of_prelude

-- a counter after so many lexed tokens has the same count of shifted ones
lexed_unshifted : (n : ℕ) (c : Tallies) → (lexed_by n c).shifted ≡ c.shifted
lexed_unshifted zero c = refl
lexed_unshifted (suc n) c = lexed_unshifted n c

-- Tokens that are lexed leave the count of shifted tokens within what the prelude has.
pub none_shifted : (a b : Tallies) (n : ℕ) → b ≡ lexed_by n a → (ts : List Tok) → Lex prelude_text ts → b.shifted ≤ a.shifted + length ts
none_shifted a b n is ts lex = omega (arith, ap (λ (t : Tallies). t.shifted) is, lexed_unshifted n a)

-- So do the first ones of the prelude's tokens, once they are parsed as an interface: by the counter before, once the bytes are read, and behind.
pub first_shifted : (bytes : List ℕ) (tokens : List Token) (rs : List Reached) (text : Text) (n j : ℕ) (a b c : Tallies) → bytes ≡ prelude_text → Lex (bytes ++ []) (toks_of rs) → map reached_of tokens ≡ rs → text ≡ interface_text → b ≡ lexed_by n a
    → IsCounted text 0 (map tok_of (take j tokens)) b c → (ts : List Tok) → Lex prelude_text ts → c.shifted ≤ a.shifted + length ts
first_shifted bytes tokens rs text n j a b c same lex are is counted steps ts own =
    let one : map tok_of tokens ≡ ts = toks_read bytes tokens rs same lex are ts own in
    let first : map tok_of (take j tokens) ≡ take j ts = sym (mapped_first tokens j) ∙ ap (take j) one in
    let most = counted_all text (map tok_of (take j tokens)) b c steps in
    let there : all_shifts text (map tok_of (take j tokens)) ≡ all_shifts interface_text (take j ts) = ap (λ (x : Text). all_shifts x (map tok_of (take j tokens))) is ∙ ap (all_shifts interface_text) first in
    omega (arith, most, there, fewer_taken interface_text ts j, taken_once ts own, ap (λ (t : Tallies). t.shifted) counted, lexed_unshifted n a)

-- and all of them
pub all_shifted : (bytes : List ℕ) (tokens : List Token) (rs : List Reached) (text : Text) (n : ℕ) (a b c : Tallies) → bytes ≡ prelude_text → Lex (bytes ++ []) (toks_of rs) → map reached_of tokens ≡ rs → text ≡ interface_text → b ≡ lexed_by n a
    → IsCounted text 0 (map tok_of tokens) b c → (ts : List Tok) → Lex prelude_text ts → c.shifted ≤ a.shifted + length ts
all_shifted bytes tokens rs text n a b c same lex are is counted steps ts own =
    let one : map tok_of tokens ≡ ts = toks_read bytes tokens rs same lex are ts own in
    let most = counted_all text (map tok_of tokens) b c steps in
    let there : all_shifts text (map tok_of tokens) ≡ all_shifts interface_text ts = ap (λ (x : Text). all_shifts x (map tok_of tokens)) is ∙ ap (all_shifts interface_text) one in
    omega (arith, most, there, taken_once ts own, ap (λ (t : Tallies). t.shifted) counted, lexed_unshifted n a)
