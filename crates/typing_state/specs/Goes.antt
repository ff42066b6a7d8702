-- What a call changes of what typing works on, and what stays.
use Rattle.std.specs.Prelude.{◌≡◌, ◌≢◌, List, [], ◌∷◌, ◌++◌, ℕ, Some}
use Rattle.text_terms.specs.Bytes.{str_bytes}
use Rattle.text_terms.specs.declared.Span.{Span}
use Rattle.text_terms.specs.declared.RcStr.{RcStr}
use Rattle.type_nodes.specs.States.{Keeps}
use Rattle.typed_index.specs.Seen.{seen_at}
use Rattle.level_unify.specs.Solutions.{Tightens}
use Rattle.env_table.specs.declared.faults.Fault.{Fault}
use Rattle.env_table.specs.declared.faults.FaultKind.{FaultKind}
use Rattle.env_table.specs.declared.seen.Seen.{Seen}
use Rattle.typing_state.specs.declared.parts.Telling.{Telling}
use Rattle.typing_state.specs.declared.parts.Telling.TheVariants.{Aloud, Quiet}
use Rattle.typing_state.specs.declared.parts.Parts.{Parts}

-- the faults so far
abbrev pub faults_of : Parts → List Fault
faults_of at = at.faults.list.items

-- all but the store is as before
pub record OnlyStore (old new : Parts) : Type 0 where
  pub index : new.index ≡ old.index
  pub faults : new.faults ≡ old.faults
  pub written : new.written ≡ old.written
  pub item : new.item ≡ old.item
  pub level : new.level ≡ old.level
  pub telling : new.telling ≡ old.telling
  pub constants : new.constants ≡ old.constants

-- all but the faults is as before
pub record OnlyFaults (old new : Parts) : Type 0 where
  pub store : new.store ≡ old.store
  pub index : new.index ≡ old.index
  pub written : new.written ≡ old.written
  pub item : new.item ≡ old.item
  pub level : new.level ≡ old.level
  pub telling : new.telling ≡ old.telling
  pub constants : new.constants ≡ old.constants

-- all but what is recorded for nodes is as before
pub record OnlyIndex (old new : Parts) : Type 0 where
  pub store : new.store ≡ old.store
  pub faults : new.faults ≡ old.faults
  pub written : new.written ≡ old.written
  pub item : new.item ≡ old.item
  pub level : new.level ≡ old.level
  pub telling : new.telling ≡ old.telling
  pub constants : new.constants ≡ old.constants

-- all but the store and the faults is as before
pub record OnlyStoreAndFaults (old new : Parts) : Type 0 where
  pub index : new.index ≡ old.index
  pub written : new.written ≡ old.written
  pub item : new.item ≡ old.item
  pub level : new.level ≡ old.level
  pub telling : new.telling ≡ old.telling
  pub constants : new.constants ≡ old.constants

-- exactly this fault is told, behind the others; where it is quiet, none is
abbrev pub Told : Telling → (old new : List Fault) → Span → FaultKind → (message : List ℕ) → Type 0
Told Quiet old new span kind message = new ≡ old
Told Aloud old new span kind message = (text : RcStr) × (str_bytes text ≡ message) × (new ≡ old ++ record { span = span; kind = kind; message = text } ∷ [])

-- there are the faults from before, and perhaps others behind them
abbrev pub Begins : (old new : List Fault) → Type 0
Begins old new = (more : List Fault) × (new ≡ old ++ more)

-- What was there stays, whatever is typed behind it: the states of the store at its marks; each node, whose type is never loosened;
-- the faults, behind which others may stand; what is recorded, and that nothing is recorded for the nodes of other items; the item,
-- whether faults are told, and the types of constants. The level isn't named, since a `let` that is begun stands between its parts.
pub record Goes (old new : Parts) : Type 0 where
  pub store : Keeps old.store new.store
  pub types : Tightens old.store.nodes new.store.nodes
  pub faults : Begins (faults_of old) (faults_of new)
  pub index : (i p : ℕ) → i ≢ old.item → seen_at new.index i p ≡ seen_at old.index i p
  pub recorded : (i p : ℕ) (seen : Seen) → seen_at old.index i p ≡ Some seen → seen_at new.index i p ≡ Some seen
  pub item : new.item ≡ old.item
  pub telling : new.telling ≡ old.telling
  pub constants : new.constants ≡ old.constants

-- the level, and whether faults are told, may be others
pub record SameWork (old new : Parts) : Type 0 where
  pub store : new.store ≡ old.store
  pub index : new.index ≡ old.index
  pub faults : new.faults ≡ old.faults
  pub item : new.item ≡ old.item
  pub constants : new.constants ≡ old.constants

-- no fault is reported
abbrev pub Silent : (old new : Parts) → Type 0
Silent old new = faults_of new ≡ faults_of old
