use Rattle.ml_lexer.specs.Reached.{FirstReached, end_of, reach_of}
use Rattle.ml_lexer.proofs.SameTokens.{same_steady}
use Rattle.token_laws.proofs.Steadies.{reached_steady}
use Rattle.token_laws.proofs.steady_tokens_are_kept.Goals as goal

pub returns : goal.returns
returns c = λ place text other ts us same first second. same_steady FirstReached end_of reach_of reached_steady place text other same 0 ts us first second
