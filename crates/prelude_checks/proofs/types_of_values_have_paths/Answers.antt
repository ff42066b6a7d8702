use Rattle.prelude_checks.proofs.ValueTypes.{values_among, values_reached}
use Rattle.prelude_checks.proofs.types_of_values_have_paths.Goals as goal

pub returns : goal.returns
returns c = λ items values bare t n E u told o m. let (p, r) = values_reached items values bare t n E u told o m in (values_among items values bare t n E u told o m, p, r)
