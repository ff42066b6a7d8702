-- Types that are left open, and what is told of them.
use Rattle.std.proofs.Common.{◌≡◌, ℕ, List, [], ◌∷◌, refl, sym, ap, subst, Result, Ok, Err}
use Rattle.std.specs.Prelude.{OnOk}
use Rattle.text_terms.specs.declared.Span.{Span}
use Rattle.type_terms.specs.declared.types.NodeRef.{NodeRef}
use Rattle.env_table.specs.declared.faults.FaultKind.TheVariants as fault
use Rattle.typing_state.specs.declared.parts.Parts.{Parts}
use Rattle.typing_state.specs.Goes.{faults_of, Told}
use Rattle.module_steps.specs.declared.made.Made.{Made}
use Rattle.module_steps.specs.declared.functors.Taken.{Taken}
use Rattle.module_steps.specs.Told.{open_text}
use Rattle.module_steps.specs.Closing.{ToldOpen}
use Rattle.module_steps.specs.Modules.{IsFunctor, IsClosed}

-- where variables are open their fault is told, whatever then changes in the store alone
pub told_open : {A E : Type 0} (r : Result A E) (free : List NodeRef) (old mid new : Parts) (span : Span) (text : List ℕ) → (free ≡ [] → ⊥) → text ≡ open_text → Told old.telling (faults_of old) (faults_of mid) span fault.Closing text → new.faults ≡ mid.faults
    → OnOk r (ToldOpen free old new span)
told_open (Ok a) [] old mid new span text some e told same = absurd (some refl)
told_open (Ok a) (n ∷ ns) old mid new span text some e told same =
    subst (λ m. Told old.telling (faults_of old) (faults_of new) span fault.Closing m) e
    (subst (λ fs. Told old.telling (faults_of old) fs span fault.Closing text) (sym (ap (λ f. f.list.items) same)) told)
told_open (Err a) free old mid new span text some e told same = tt

pub closed_over : (ps : List Taken) (body m : Made) → (ps ≡ [] → ⊥) → IsFunctor ps body m → IsClosed ps body m
closed_over [] body m some is = absurd (some refl)
closed_over (p ∷ ps) body m some is = is
