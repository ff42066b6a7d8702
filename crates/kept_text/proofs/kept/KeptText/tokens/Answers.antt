use Rattle.std.proofs.Common.{◌∙◌, List, ℕ, length, map, sym, ap, subst, arith}
use Rattle.std.specs.Prelude.{Option}
use Rattle.std.proofs.lemmas.List.{length-map}
use Rattle.token_model.specs.Kinds.{Tok, AllWithin}
use Rattle.token_model.specs.Tokens.{Lex}
use Rattle.syntax_tree.specs.View.{tok_of}
use Rattle.ml_lexer.specs.Reached.{reached_of, Reached}
use Rattle.token_store.specs.Stored.{toks_of}
use Rattle.token_store.proofs.Fronts.{lex_of}
use Rattle.kept_text.specs.Keeping.{AreTokens, IsUpToDate, Kept}
use Rattle.kept_text.proofs.Fronts.{all_within}
use Rattle.kept_text.proofs.Keeps.{toks_are}
use Rattle.kept_text.proofs.kept.KeptText.tokens.Goals as goal

pub returns-in-None-clause-lexed : goal.returns-in-None-clause-lexed
returns-in-None-clause-lexed c =
    let was = c.self.inside in
    let ts = was.tokens.tokens in
    let all = subst (λ (o : Option ℕ). AreTokens was.text o ts) c.in-None.is c.self.invariant.lexed in
    subst (λ (l : List ℕ). Lex l (map tok_of c.tokens.result.now)) (ap (λ (k : Kept). k.text) c.self.view_is)
    (subst (λ (l : List Tok). Lex was.text l) (sym (toks_are c.tokens.result.now ts c.tokens.ensures)) (lex_of was.text ts all))

pub returns-in-None-clause-kept : goal.returns-in-None-clause-kept
returns-in-None-clause-kept c = toks_are c.tokens.result.now c.self.inside.tokens.tokens c.tokens.ensures ∙ ap (λ (k : Kept). toks_of k.tokens) c.self.view_is

pub returns-in-None-clause-few : goal.returns-in-None-clause-few
returns-in-None-clause-few c =
    let was = c.self.inside in
    let ts = was.tokens.tokens in
    let whole = subst (λ (o : Option ℕ). IsUpToDate o (toks_of ts) was.parse) c.in-None.is c.self.invariant.whole in
    omega (arith, whole.1, length-map ts (λ (t : Reached). t.token), ap length c.tokens.ensures, length-map c.tokens.result.now reached_of)

pub returns-in-None-clause-within : goal.returns-in-None-clause-within
returns-in-None-clause-within c =
    let was = c.self.inside in
    let ts = was.tokens.tokens in
    let all = subst (λ (o : Option ℕ). AreTokens was.text o ts) c.in-None.is c.self.invariant.lexed in
    subst (λ (l : List ℕ). AllWithin (length l) (map tok_of c.tokens.result.now)) (ap (λ (k : Kept). k.text) c.self.view_is)
    (subst (λ (l : List Tok). AllWithin (length was.text) l) (sym (toks_are c.tokens.result.now ts c.tokens.ensures)) (all_within was.text 0 ts (omega arith) all))
