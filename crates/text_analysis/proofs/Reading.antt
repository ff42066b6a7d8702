-- What reading the prelude gives: the items of an interface of its tokens.
use Rattle.std.proofs.Common.{◌≡◌, ◌∙◌, ℕ, List, [], ◌∷◌, ◌++◌, map, refl, sym, ap, subst, append-nil}
use Rattle.token_model.specs.Kinds.{Tok}
use Rattle.token_model.specs.Tokens.{Lex}
use Rattle.token_laws.proofs.Ones.{lex_one}
use Rattle.grammar_model.specs.Ocaml.{Text, interface_text}
use Rattle.typing_model.specs.PreludeText.{prelude_text}
use Rattle.syntax_tree.specs.declared.tree.Token.{Token}
use Rattle.syntax_tree.specs.declared.tree.Tree.{Tree}
use Rattle.syntax_tree.specs.View.{tok_of, trees_of}
use Rattle.ml_lexer.specs.Reached.{Reached, reached_of}
use Rattle.token_store.specs.Stored.{toks_of}
use Rattle.resume_parser.specs.declared.kept.KeptParse.{KeptParse}
use Rattle.resume_parser.specs.Kept.{text_in, trees_behind, IsWhole}

-- the tokens of the code without their reaches
toks_mapped : (ts : List Token) → toks_of (map reached_of ts) ≡ map tok_of ts
toks_mapped [] = refl
toks_mapped (t ∷ ts) = ap (λ l. tok_of t ∷ l) (toks_mapped ts)

-- The tokens of bytes that are those of the prelude.
pub toks_read : (bytes : List ℕ) (tokens : List Token) (rs : List Reached) → bytes ≡ prelude_text → Lex (bytes ++ []) (toks_of rs) → map reached_of tokens ≡ rs → (ts : List Tok) → Lex prelude_text ts → map tok_of tokens ≡ ts
toks_read bytes tokens rs same lex are ts own =
    let read : Lex prelude_text (toks_of rs) = subst (λ (l : List ℕ). Lex l (toks_of rs)) (append-nil bytes ∙ same) lex in
    sym (toks_mapped tokens) ∙ ap toks_of are ∙ lex_one prelude_text (toks_of rs) ts read own

-- The tree of bytes that are those of the prelude, which were read and parsed as an interface.
pub tree_read : (bytes : List ℕ) (tokens : List Token) (rs : List Reached) (k : KeptParse) (t : Tree) → bytes ≡ prelude_text → Lex (bytes ++ []) (toks_of rs) → map reached_of tokens ≡ rs → text_in k ≡ interface_text → IsWhole (map tok_of tokens) k → t ≡ k.parsed.tree →
    (ts : List Tok) → Lex prelude_text ts → trees_of t ≡ trees_behind interface_text ts
tree_read bytes tokens rs k t same lex are text whole is ts own =
    let one : map tok_of tokens ≡ ts = toks_read bytes tokens rs same lex are ts own in
    ap trees_of is ∙ whole.tree ∙ ap (λ (x : Text). trees_behind x (map tok_of tokens)) text ∙ ap (trees_behind interface_text) one
