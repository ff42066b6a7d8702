use Rattle.plain_typing.proofs.Words.{is_lower_there, is_lower_alone}
use Rattle.plain_typing.proofs.kinds.is_lower.Goals as goal

pub returns-in-Lower : goal.returns-in-Lower
returns-in-Lower c = is_lower_there _ c.in-Lower.is

pub returns-in_default : goal.returns-in_default
returns-in_default c = is_lower_alone _ c.in_default.not-Lower
