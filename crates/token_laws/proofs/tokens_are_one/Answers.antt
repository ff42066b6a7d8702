use Rattle.token_laws.proofs.Ones.{lex_one}
use Rattle.token_laws.proofs.tokens_are_one.Goals as goal

pub returns : goal.returns
returns c = lex_one
