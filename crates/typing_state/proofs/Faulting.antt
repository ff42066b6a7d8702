-- Faults that are told.
use Rattle.std.proofs.Common.{◌≡◌, ◌∙◌, ℕ, false, List, [], ◌∷◌, ◌++◌, refl, subst, Result, Ok, Err}
use Rattle.std.specs.Prelude.{OnOk, IsOk, IfOk}
use Rattle.text_terms.specs.Bytes.{str_bytes}
use Rattle.text_terms.specs.declared.Span.{Span}
use Rattle.text_terms.specs.declared.RcStr.{RcStr}
use Rattle.env_table.specs.declared.faults.Fault.{Fault}
use Rattle.env_table.specs.declared.faults.FaultKind.{FaultKind}
use Rattle.typing_state.specs.declared.parts.Telling.{Telling}
use Rattle.typing_state.specs.declared.parts.Telling.TheVariants.{Aloud, Quiet}
use Rattle.typing_state.specs.Goes.{Told}
use Rattle.typing_state.proofs.Listed.{untrue}

-- a fault behind the others is told, where it is aloud
pub told_aloud : {A E : Type 0} (r : Result A E) (t : Telling) (old new : List Fault) (span : Span) (kind : FaultKind) (text : RcStr) → t ≡ Aloud →
    OnOk r (new ≡ old ++ record { span = span; kind = kind; message = text } ∷ []) → OnOk r (Told t old new span kind (str_bytes text))
told_aloud (Ok a) Aloud old new span kind text e h = (text, refl, h)
told_aloud (Ok a) Quiet old new span kind text e h = absurd (quiet e)
  where
    quiet : Quiet ≡ Aloud → ⊥
    quiet p = cc
told_aloud (Err a) t old new span kind text e h = tt

-- a message is the text that was written for it
pub told_with : {A E X F : Type 0} (r : Result A E) (g : X → List ℕ) (f : Result X F) (m : RcStr) (t : Telling) (old new : List Fault) (span : Span) (kind : FaultKind) (bytes : List ℕ) →
    IsOk f × IfOk f (λ s. str_bytes m ≡ g s) → IfOk f (λ s. g s ≡ bytes) → OnOk r (Told t old new span kind (str_bytes m)) → OnOk r (Told t old new span kind bytes)
told_with (Ok a) g (Ok s) m t old new span kind bytes p e h = subst (λ bs. Told t old new span kind bs) (p.1 ∙ e) h
told_with (Ok a) g (Err x) m t old new span kind bytes p e h = absurd (untrue false refl p.0)
told_with (Err a) g f m t old new span kind bytes p e h = tt
