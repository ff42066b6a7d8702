use Rattle.plain_typing.proofs.Words.{is_comparison_there, is_comparison_alone}
use Rattle.plain_typing.proofs.kinds.is_comparison.Goals as goal

pub returns-in-Op9 : goal.returns-in-Op9
returns-in-Op9 c = is_comparison_there _ c.in-Op9.is

pub returns-in_default : goal.returns-in_default
returns-in_default c = is_comparison_alone _ c.in_default.not-Op9
