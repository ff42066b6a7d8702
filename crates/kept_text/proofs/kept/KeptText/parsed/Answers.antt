use Rattle.std.proofs.Common.{◌∙◌, ℕ, map, ap, subst}
use Rattle.std.specs.Prelude.{Option}
use Rattle.token_model.specs.Tokens.{Lex}
use Rattle.grammar_model.specs.Named.{named, items_of}
use Rattle.grammar_model.specs.Ocaml.{Text, grammar, program_text, row_name}
use Rattle.recovery_model.specs.Recovery.{recover}
use Rattle.syntax_tree.specs.View.{trees_of}
use Rattle.frame_steps.specs.Told.{told}
use Rattle.frame_steps.specs.View.{fault_of}
use Rattle.frame_parser.specs.declared.whole.Parsed.{Parsed}
use Rattle.token_store.specs.Stored.{toks_of}
use Rattle.token_store.proofs.Fronts.{lex_of}
use Rattle.kept_text.specs.Keeping.{AreTokens, Kept}
use Rattle.kept_text.proofs.Keeps.{none_noted, whole_of}
use Rattle.kept_text.proofs.kept.KeptText.parsed.Goals as goal

pub returns-clause-lexed : goal.returns-clause-lexed
returns-clause-lexed c =
    let was = c.self.inside in
    let ts = was.tokens.tokens in
    let all = subst (λ (o : Option ℕ). AreTokens was.text o ts) (none_noted c.is_some.result was.changed c.is_some.ensures c.if-is_some.false) c.self.invariant.lexed in
    subst (λ (k : Kept). Lex k.text (toks_of k.tokens)) c.self.view_is (lex_of was.text ts all)

pub returns-clause-tree : goal.returns-clause-tree
returns-clause-tree c =
    let was = c.self.inside in
    let ts = toks_of was.tokens.tokens in
    let whole = whole_of was.changed ts was.parse c.in-Some.parse (none_noted c.is_some.result was.changed c.is_some.ensures c.if-is_some.false) c.in-Some.is c.self.invariant.whole in
    ap (λ (p : Parsed). trees_of p.tree) c.parsed.ensures ∙ whole.0.0.tree ∙ ap (λ (t : Text). items_of (named row_name (recover (grammar t) ts).0)) whole.0.1
    ∙ ap (λ (k : Kept). items_of (named row_name (recover (grammar program_text) (toks_of k.tokens)).0)) c.self.view_is

pub returns-clause-faults : goal.returns-clause-faults
returns-clause-faults c =
    let was = c.self.inside in
    let ts = toks_of was.tokens.tokens in
    let whole = whole_of was.changed ts was.parse c.in-Some.parse (none_noted c.is_some.result was.changed c.is_some.ensures c.if-is_some.false) c.in-Some.is c.self.invariant.whole in
    ap (λ (p : Parsed). map fault_of p.faults.items) c.parsed.ensures ∙ whole.0.0.faults ∙ ap (λ (t : Text). map told (recover (grammar t) ts).1) whole.0.1
    ∙ ap (λ (k : Kept). map told (recover (grammar program_text) (toks_of k.tokens)).1) c.self.view_is
