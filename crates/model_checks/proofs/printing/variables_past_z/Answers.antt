use Rattle.std.proofs.Common.{◌∷◌, refl, ap, arith}
use Rattle.std.proofs.lemmas.Fmt.{decimal_digit}
use Rattle.model_checks.proofs.printing.variables_past_z.Goals as goal

pub returns : goal.returns
returns c = (refl, ap (λ d. 39 ∷ 97 ∷ d) (decimal_digit 1 (omega arith)), ap (λ d. 39 ∷ 122 ∷ d) (decimal_digit 1 (omega arith)), ap (λ d. 39 ∷ 97 ∷ d) (decimal_digit 2 (omega arith)))
