-- A node that is recorded without a type.
use Rattle.std.proofs.Common.{◌≡◌, ℕ, true, None, sym, ap}
use Rattle.typing_state.specs.declared.parts.Parts.{Parts}
use Rattle.typing_state.specs.Goes.{OnlyIndex}
use Rattle.env_table.specs.declared.seen.Seen.{Seen}
use Rattle.typing_state.specs.Notes.{Noted}
use Rattle.typing_conditions.specs.Sights.{number_in}
use Rattle.typing_steps.proofs.Still.{none_idle, carried_idle, idle_hides, untyped_noted, untyped_row}
use Rattle.typing_steps.specs.States.{is_aloud, sight}
use Rattle.typing_steps.proofs.Recording.{noted_scope}
use Rattle.record_steps.specs.Recording.{AsksNothing, HasScope, NotesScope, NotesNode}

-- it asks nothing
pub untyped_told : (a b : Parts) (number : ℕ) (seen : Seen) → seen.ty ≡ None → Noted a.telling a b number seen → OnlyIndex a b → AsksNothing a b
untyped_told a b number seen none noted rest F scope G = carried_idle none_idle (untyped_noted a b number seen none noted rest) (ap (λ f. (sight (record a { faults = f })).reports) rest.faults)

-- the names in scope are recorded for it, where faults are reported
scope_there : (a b : Parts) (k number : ℕ) (seen : Seen) → is_aloud a.telling ≡ true → Noted a.telling a b number seen → number_in a.item number ≡ k → HasScope (sight b) k seen.env
scope_there a b k number seen aloud noted is = record { item = a.item; place = number; number = sym is; at = noted_scope a b number seen aloud noted }

-- so the names in scope are recorded for it, and nothing is asked
pub untyped_scope : (a b : Parts) (k number : ℕ) (seen : Seen) → seen.ty ≡ None → Noted a.telling a b number seen → OnlyIndex a b → number_in a.item number ≡ k → NotesScope a b k seen.env
untyped_scope a b k number seen none noted rest is = record { asks = untyped_told a b number seen none noted rest; scope = λ aloud. scope_there a b k number seen aloud noted is }

-- and its row is noted then
pub untyped_node : (a b : Parts) (k number : ℕ) (seen : Seen) → seen.ty ≡ None → Noted a.telling a b number seen → OnlyIndex a b → number_in a.item number ≡ k → NotesNode a b k seen.env
unfolding untyped_told
untyped_node a b k number seen none noted rest is = record {
  asks = untyped_told a b number seen none noted rest;
  scope = λ aloud. scope_there a b k number seen aloud noted is;
  hides = λ F scope G. idle_hides F scope G none_idle (untyped_noted a b number seen none noted rest) (ap (λ f. (sight (record a { faults = f })).reports) rest.faults);
  notes = λ aloud m. untyped_row a b k m number seen none aloud noted rest is;
}
