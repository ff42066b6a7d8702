use Rattle.plain_typing.proofs.Words.{is_let_there, is_let_alone}
use Rattle.plain_typing.proofs.kinds.is_let.Goals as goal

pub returns-in-Let : goal.returns-in-Let
returns-in-Let c = is_let_there _ c.in-Let.is

pub returns-in_default : goal.returns-in_default
returns-in_default c = is_let_alone _ c.in_default.not-Let
