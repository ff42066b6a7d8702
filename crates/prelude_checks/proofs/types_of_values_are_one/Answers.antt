use Rattle.shown_alike.proofs.Programs.{programs_shown_alike}
use Rattle.prelude_checks.proofs.Ones.{firsts_one}
use Rattle.prelude_checks.proofs.types_of_values_are_one.Goals as goal

pub returns : goal.returns
returns c = λ tokens o texts others values a b. programs_shown_alike tokens o texts others values a b (firsts_one a.typing.env b.typing.env a.typing.first b.typing.first)
