use Rattle.shown_alike.proofs.Programs.{program_lists_one}
use Rattle.prelude_checks.proofs.Ones.{firsts_one}
use Rattle.prelude_checks.proofs.types_of_lets_are_one.Goals as goal

pub returns : goal.returns
returns c = λ tokens o texts others lets a b. program_lists_one tokens o texts others lets a b (firsts_one a.typing.env b.typing.env a.typing.first b.typing.first)
