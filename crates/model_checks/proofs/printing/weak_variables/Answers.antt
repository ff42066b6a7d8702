use Rattle.std.proofs.Common.{◌++◌, codes, ap, arith}
use Rattle.std.proofs.lemmas.Fmt.{decimal_digit}
use Rattle.type_print_model.specs.Printing.{cut}
use Rattle.model_checks.proofs.printing.weak_variables.Goals as goal

pub returns-clause-one : goal.returns-clause-one
returns-clause-one c = ap (λ d. cut (((codes "'_weak" ++ d) ++ codes " ") ++ codes "list")) (decimal_digit 1 (omega arith))

pub returns-clause-another : goal.returns-clause-another
returns-clause-another c = ap (λ d. codes "'_weak" ++ d) (decimal_digit 2 (omega arith))
