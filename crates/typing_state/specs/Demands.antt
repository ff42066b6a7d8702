-- What comes of demands.
use Rattle.std.specs.Prelude.{◌≡◌, ◌≢◌, ℕ, List}
use Rattle.text_terms.specs.declared.Span.{Span}
use Rattle.type_terms.specs.declared.types.NodeRef.{NodeRef}
use Rattle.type_nodes.specs.Nodes.{IsSound, IsNode}
use Rattle.env_table.specs.declared.entries.Entry.{Entry}
use Rattle.env_table.specs.declared.faults.FaultKind.TheVariants as fault
use Rattle.level_unify.specs.declared.fault.Clash.{Clash}
use Rattle.level_unify.specs.declared.fault.ClashKind.{ClashKind}
use Rattle.level_unify.specs.Solutions.{HaveNoBound}
use Rattle.level_unify.specs.Unification.{Clashes}
use Rattle.type_print.specs.Texts.{ShowTwo}
use Rattle.typing_state.specs.declared.parts.Parts.{Parts}
use Rattle.typing_state.specs.declared.demands.Verdict.{Verdict}
use Rattle.typing_state.specs.declared.demands.Verdict.TheVariants.{Kept, Reported}
use Rattle.typing_state.specs.Goes.{faults_of, Told}
use Rattle.level_unify.specs.Messages.{equal_text}
use Rattle.typing_state.specs.Messages.{arity_text}
use Rattle.typing_state.specs.Types.{MadeOne}

-- exactly one fault tells two types, and what keeps them apart
pub record DiffersBy (old new : Parts) (at : Span) (found wanted : NodeRef) (kind : ClashKind) (env : List Entry) : Type 0 where
  pub first : List ℕ
  pub second : List ℕ
  pub texts : ShowTwo old.store.nodes env found.0 wanted.0 first second
  pub told : Told old.telling (faults_of old) (faults_of new) at fault.Equal (equal_text first second kind)

-- two nodes clash: the store is as before, and exactly one fault tells it
pub record Differs (old new : Parts) (at : Span) (found wanted : NodeRef) (env : List Entry) : Type 0 where
  pub left : IsNode old.store.nodes found.0
  pub right : IsNode old.store.nodes wanted.0
  pub clash : Clash
  pub clashes : HaveNoBound old.store.nodes found.0 wanted.0 → Clashes old.store.nodes found wanted clash
  pub told : DiffersBy old new at found wanted clash.kind env
  pub store : new.store ≡ old.store

-- two types are one, and no fault is told; a number that is no node is any type; the store is sound, as each is
pub record Agrees (old new : Parts) (found wanted : NodeRef) : Type 0 where
  pub one : IsNode old.store.nodes found.0 → IsNode old.store.nodes wanted.0 → MadeOne old.store.nodes new.store.nodes found.0 wanted.0
  pub none : (IsNode old.store.nodes found.0 → IsNode old.store.nodes wanted.0 → ⊥) → new.store ≡ old.store
  pub sound : IsSound new.store.nodes
  pub faults : new.faults ≡ old.faults

-- what comes of the demand that two types are one
abbrev pub EqualIs : Verdict → (old new : Parts) → Span → (found wanted : NodeRef) → List Entry → Type 0
EqualIs Kept old new at found wanted env = Agrees old new found wanted
EqualIs Reported old new at found wanted env = Differs old new at found wanted env

-- what comes of the demand that as many arguments are given as are taken
abbrev pub ArityIs : Verdict → (old new : Parts) → Span → (name : List ℕ) → (taken given : ℕ) → Type 0
ArityIs Kept old new at name taken given = (taken ≡ given) × (new ≡ old)
ArityIs Reported old new at name taken given = (taken ≢ given) × Told old.telling (faults_of old) (faults_of new) at fault.Arity (arity_text name taken given)
