use Rattle.std.proofs.Common.{refl, sym}
use Rattle.type_model.specs.Types.{Var}
use Rattle.type_model.specs.Substitutions.{apply}
use Rattle.typing_model.specs.BuiltIns.{int_type, string_type}
use Rattle.typing_model.specs.Contexts.{monomorphic}
use Rattle.signature_model.specs.Declarations.{Is}
use Rattle.signature_model.specs.Matching.{matches, structures, type_name, value, done, Covers}
use Rattle.model_checks.specs.Signatures.{plain}
use Rattle.model_checks.proofs.Apart.{string_is_no_int}
use Rattle.model_checks.proofs.Inverting.{matched, structures_met, behind_type, value_met}
use Rattle.model_checks.proofs.signatures.a_structure_meets_its_seal.Goals as goal

pub returns-clause-met : goal.returns-clause-met
returns-clause-met c =
    matches (structures (type_name (plain (Is int_type)) refl (record { arity = refl; same = record { left = λ o. int_type; right = λ o. int_type; closed_left = λ o v h. refl; closed_right = λ o v h. refl; same = refl }; shape = tt })
    (value (monomorphic int_type) refl (record { actual_fill = λ o. int_type; wanted_fill = λ o. int_type; each = λ x h. h }) done)))

pub returns-clause-not_met : goal.returns-clause-not_met
returns-clause-not_met c m =
    let v : Covers (monomorphic string_type) (monomorphic int_type) = value_met (monomorphic string_type) refl (behind_type (structures_met (matched m))) in
    let w = v.each int_type ((λ n. Var n), (λ n h. refl), refl) in
    string_is_no_int (apply w.0 string_type) int_type refl refl (sym w.2)
