-- What is recorded for nodes.
use Rattle.std.specs.Prelude.{◌≡◌, ℕ, List, [], Option, Some, None}
use Rattle.std.specs.declared.vec.Vec.{Vec}
use Rattle.std.specs.declared.rc.Rc.{Rc}
use Rattle.std.specs.declared.alloc.Global.{Global}
use Rattle.type_terms.specs.declared.types.NodeRef.{NodeRef}
use Rattle.tree_model.specs.Trees.{Part, taken, inner, missing}
use Rattle.env_table.specs.declared.entries.Entry.{Entry}
use Rattle.env_table.specs.declared.seen.Seen.{Seen}
use Rattle.typed_index.specs.Seen.{seen_at, with_note}
use Rattle.typing_state.specs.declared.parts.Telling.{Telling}
use Rattle.typing_state.specs.declared.parts.Telling.TheVariants.{Aloud, Quiet}
use Rattle.typing_state.specs.declared.parts.Parts.{Parts}

-- nothing was recorded for a node of the present item, and now this is; what is recorded for the other nodes is as before
pub record NotedFirst (old new : Parts) (number : ℕ) (seen : Seen) : Type 0 where
  pub before : seen_at old.index old.item number ≡ None
  pub after : (i p : ℕ) → seen_at new.index i p ≡ with_note old.item number seen (seen_at old.index) i p

-- this is the one record of a node of the present item; where it is quiet, nothing is recorded
abbrev pub Noted : Telling → (old new : Parts) → (number : ℕ) → Seen → Type 0
Noted Quiet old new number seen = new.index ≡ old.index
Noted Aloud old new number seen = NotedFirst old new number seen

-- the same for a node without names of its own
abbrev pub NotedNameless : (old new : Parts) → (number : ℕ) → List Entry → Option NodeRef → Type 0
NotedNameless old new number env ty = (names : Vec (Option (Rc Entry Global)) Global) × (names.items ≡ []) × Noted old.telling old new number (record { env = env; ty = ty; names = names })

-- something is recorded for a node of the present item, where faults are told
abbrev pub IsRecorded : Parts → (number : ℕ) → Type 0
IsRecorded at number = at.telling ≡ Aloud → (seen : Seen) × (seen_at at.index at.item number ≡ Some seen)

-- where a part is there, something is recorded for its node
abbrev pub IsRecordedThere : Part → Parts → (number : ℕ) → Type 0
IsRecordedThere (taken t) at number = Unit {0}
IsRecordedThere (inner t) at number = IsRecorded at number
IsRecordedThere (missing q) at number = Unit {0}

-- where a part is missing, something is recorded for it
abbrev pub IsRecordedMissing : Part → Parts → (number : ℕ) → Type 0
IsRecordedMissing (taken t) at number = IsRecorded at number
IsRecordedMissing (inner t) at number = Unit {0}
IsRecordedMissing (missing q) at number = IsRecorded at number
