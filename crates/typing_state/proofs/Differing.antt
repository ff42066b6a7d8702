-- Two types that are told to differ.
use Rattle.std.proofs.Common.{◌≡◌, ℕ, List, subst, Result, Ok, Err}
use Rattle.std.specs.Prelude.{OnOk}
use Rattle.text_terms.specs.declared.Span.{Span}
use Rattle.type_terms.specs.declared.types.NodeRef.{NodeRef}
use Rattle.type_nodes.specs.Nodes.{IsNode}
use Rattle.env_table.specs.declared.entries.Entry.{Entry}
use Rattle.env_table.specs.declared.faults.FaultKind.TheVariants as fault
use Rattle.level_unify.specs.declared.fault.ClashKind.{ClashKind}
use Rattle.typing_state.specs.declared.parts.Parts.{Parts}
use Rattle.typing_state.specs.Goes.{faults_of, Told}
use Rattle.level_unify.specs.Messages.{equal_text}
use Rattle.type_print.specs.Texts.{ShowTwo}
use Rattle.typing_state.specs.Demands.{DiffersBy}

-- what is told of two texts is told of the types that they show
pub differs_by : {A E : Type 0} (r : Result A E) (old new : Parts) (at : Span) (found wanted : NodeRef) (kind : ClashKind) (env : List Entry) (first second x y : List ℕ) → x ≡ first → y ≡ second →
    (IsNode old.store.nodes found.0 → IsNode old.store.nodes wanted.0 → ShowTwo old.store.nodes env found.0 wanted.0 first second) →
    OnOk r (Told old.telling (faults_of old) (faults_of new) at fault.Equal (equal_text x y kind)) →
    OnOk r (IsNode old.store.nodes found.0 → IsNode old.store.nodes wanted.0 → DiffersBy old new at found wanted kind env)
differs_by (Ok a) old new at found wanted kind env first second x y e f shows told = λ p q. record {
  first = first;
  second = second;
  texts = shows p q;
  told = subst (λ v. Told old.telling (faults_of old) (faults_of new) at fault.Equal (equal_text first v kind)) f
      (subst (λ v. Told old.telling (faults_of old) (faults_of new) at fault.Equal (equal_text v y kind)) e told);
}
differs_by (Err a) old new at found wanted kind env first second x y e f shows told = tt
