-- What is declared adds the same names whatever is chosen.
use Rattle.std.specs.Prelude.{◌≡◌, ◌++◌, ℕ, Bool, true, List, None}
use Rattle.tree_model.specs.Trees.{Tree}
use Rattle.signature_model.specs.Entries.{Environment}
use Rattle.typing_model.specs.Contexts.{Choice}
use Rattle.typing_model.specs.Parts.{Item, Seen, no_names}
use Rattle.type_nodes.specs.Readings.{Types}
use Rattle.row_parts.specs.Numbered.{first_in}
use Rattle.env_table.specs.declared.entries.Entry.{Entry}
use Rattle.typing_state.specs.declared.parts.Parts.{Parts}
use Rattle.typing_conditions.specs.Sights.{Letters, AreGiven}
use Rattle.typing_steps.specs.Constants.{HasConstants}
use Rattle.typing_steps.specs.States.{is_aloud, sight}
use Rattle.typing_steps.specs.Typing.{as_declared}
use Rattle.typing_rows.specs.Noted.{AreNoted}
use Rattle.binding_rows.specs.ItemRows.{recorded_exception, IsExceptionNode, ItemDone, ItemsDone}
use Rattle.binding_rows.specs.Outside.{Outside}
use Rattle.type_expressions.specs.Untyped.{Untyped}

-- the names `after` are those of before with the same ones added, whatever is chosen; and no letter is open then that has no type of before
pub record AddsAlike (E after : Choice → Environment) (G H : Letters) : Type 0 where
  pub added : Environment
  pub names : (ch : Choice) → after ch ≡ added ++ E ch
  pub letters : (V : Types) (ch : Choice) → AreGiven G V ch → AreGiven H V ch

-- An item is done, and what it adds is the same whatever is chosen; what is recorded for it has no type. Where K holds, all that is to be known of names is known after it.
pub record AddedIf (K : Type 0) (E : Choice → Environment) (m : Item) (seen names : Seen) (a b : Parts) (G : Letters) (after : List Entry) : Type 0 where
  pub done : ItemDone as_declared K E m seen names a b G after
  pub alike : AddsAlike E done.env G done.letters
  pub untyped : Untyped a b

-- the same, whatever is known
abbrev pub ItemAdded : (E : Choice → Environment) → Item → (seen names : Seen) → (a b : Parts) → Letters → List Entry → Type 0
ItemAdded E m seen names a b G after = AddedIf ⊥ E m seen names a b G after

-- the same of items in order
pub record ItemsAdded (E : Choice → Environment) (ms : List Item) (seen names : Seen) (a b : Parts) (G : Letters) (after : List Entry) : Type 0 where
  pub done : ItemsDone as_declared ⊥ E ms seen names a b G after
  pub alike : AddsAlike E done.env G done.letters
  pub untyped : Untyped a b

-- all that is to be known of names is known before an exception, whose constructor with this number takes no argument
abbrev pub IsKnownException : Bool → ℕ → Tree → Type 0
IsKnownException known k u = (known ≡ true) × (first_in k u 2 ≡ None)

-- What a call gives for an item that declares an exception, by its node, whatever names stand before it: it is done, and where all that is to be known of names was known and it takes no argument, so it is after it.
abbrev pub GivesException : (a b : Parts) → (env after : List Entry) → (n : ℕ) → Tree → Type 0
GivesException a b env after n t =
    (G : Letters) (E : Choice → Environment) (seen : Seen) (x : IsExceptionNode n t) → is_aloud a.telling ≡ true → (at : Outside as_declared (sight a) G env E) → HasConstants a → AreNoted at.older a →
    ItemDone as_declared (IsKnownException at.known x.operand.number x.constructor) E (recorded_exception a.item n x.operand.number x.constructor) seen no_names a b G after

-- the same, and what it adds is the same whatever is chosen
abbrev pub AddsException : (a b : Parts) → (env after : List Entry) → (n : ℕ) → Tree → Type 0
AddsException a b env after n t =
    (G : Letters) (E : Choice → Environment) (seen : Seen) (x : IsExceptionNode n t) → is_aloud a.telling ≡ true → (at : Outside as_declared (sight a) G env E) → HasConstants a → AreNoted at.older a →
    AddedIf (IsKnownException at.known x.operand.number x.constructor) E (recorded_exception a.item n x.operand.number x.constructor) seen no_names a b G after
