-- The faults that the parser tells are those that are listed.
use Rattle.std.proofs.Common.{◌≡◌, List, [], ◌∷◌, map, refl, ◌∙◌, ap}
use Rattle.recovery_model.specs.Steps.{Fault, added, skipped, too_deep, cut}
use Rattle.query_model.specs.Faults as model
use Rattle.frame_steps.specs.Told.{told}
use Rattle.frame_steps.specs.View as parser
use Rattle.frame_steps.specs.declared.stack.SyntaxFault.{SyntaxFault}
use Rattle.text_queries.specs.Faults.{fault_of, told_as}

same : (f : Fault) → told_as (told f) ≡ model.told f
same (added p n) = refl
same (skipped t) = refl
same (too_deep t) = refl
same (cut p) = refl

all_same : (fs : List Fault) → map told_as (map told fs) ≡ map model.told fs
all_same [] = refl
all_same (f ∷ fs) = rw (same f) (ap (λ gs. model.told f ∷ gs) (all_same fs))

listed_as : (fs : List SyntaxFault) → map fault_of fs ≡ map told_as (map parser.fault_of fs)
listed_as [] = refl
listed_as (f ∷ fs) = ap (λ gs. fault_of f ∷ gs) (listed_as fs)

-- faults that tell what recovery's do are listed as they are
pub told_faults : (fs : List SyntaxFault) (rs : List Fault) → map parser.fault_of fs ≡ map told rs → map fault_of fs ≡ map model.told rs
told_faults fs rs e = listed_as fs ∙ ap (map told_as) e ∙ all_same rs
