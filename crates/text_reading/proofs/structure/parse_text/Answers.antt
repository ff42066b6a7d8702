use Rattle.std.proofs.Common.{◌++◌, subst, map, List, sym}
use Rattle.token_model.specs.Tokens.{Lex}
use Rattle.syntax_tree.specs.View.{tok_of}
use Rattle.syntax_tree.specs.declared.tree.Token.{Token}
use Rattle.text_reading.proofs.Parsing.{parsed}
use Rattle.text_reading.proofs.structure.parse_text.Goals as goal

pub returns-clause-parsed : goal.returns-clause-parsed
returns-clause-parsed g c =
    let text = c.args.left.now ++ c.args.right.now in
    let lexed = subst (λ (ts : List Token). Lex text (map tok_of ts)) (sym c.deref.ensures.value) c.in_ok-tokens.ensures.tokens in
    parsed text c.deref.result.now c.parse.result lexed c.parse.ensures.tree c.parse.ensures.faults
