use Rattle.ml_lexer.specs.Reached.{FirstReached, end_of, reach_of}
use Rattle.ml_lexer.proofs.SameTokens.{read_again}
use Rattle.token_laws.proofs.Steadies.{reached_steady}
use Rattle.token_laws.proofs.few_tokens_are_read_again.Goals as goal

pub returns : goal.returns
returns c = λ place text ts lex. read_again FirstReached end_of reach_of reached_steady place text 0 ts lex
