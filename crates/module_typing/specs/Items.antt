-- What the calls for the items of a structure carry.
use Rattle.std.specs.Prelude.{◌≡◌, ◌⊎◌, ℕ, true, List, [], ◌∷◌, ◌++◌, Option, Some, None, reverse}
use Rattle.tree_model.specs.Rows.{let_row, exception_row, break_row}
use Rattle.tree_model.specs.Trees.{Part, taken, inner, missing}
use Rattle.signature_model.specs.Entries.{Environment}
use Rattle.typing_model.specs.Contexts.{Choice}
use Rattle.typing_model.specs.Parts.{Item, Seen, no_names}
use Rattle.row_parts.specs.Numbered.{Numbered, first_in}
use Rattle.env_table.specs.declared.entries.Entry.{Entry}
use Rattle.typing_state.specs.declared.parts.Parts.{Parts}
use Rattle.operand_laws.specs.Formed.{row_of}
use Rattle.typing_conditions.specs.Sights.{Letters}
use Rattle.typing_steps.specs.States.{is_aloud, sight}
use Rattle.typing_steps.specs.Typing.{as_declared}
use Rattle.typing_steps.specs.Constants.{HasConstants}
use Rattle.core_typing.specs.Items.{Outside, AreNoted, IsCarriedItemOperand, ItemsDone, item_at, items_at}
use Rattle.sig_template.specs.Structures.{entries_of}
use Rattle.module_steps.specs.declared.scenes.Scene.{Scene}
pub use Rattle.signature_typing.specs.Specifications.{HasSeen, IsGiven}

-- a constructor that is there takes no argument
abbrev pub TakesNonePart : ℕ → Part → Type 0
TakesNonePart n (taken t) = Unit {0}
TakesNonePart n (inner t) = first_in n t 2 ≡ None
TakesNonePart n (missing at) = Unit {0}

-- the same of an operand that may be left out
abbrev pub TakesNone : Option Numbered → Type 0
TakesNone None = Unit {0}
TakesNone (Some o) = TakesNonePart o.number o.part

-- what leaves it open to say that all that is to be known of names is: a `let`, `;;`, an exception that takes no argument, and what is missing
abbrev pub KeepsKnown : ℕ → Part → Type 0
KeepsKnown n (taken t) = Unit {0}
KeepsKnown n (inner t) = (row_of t ≡ let_row) ⊎ ((row_of t ≡ break_row) ⊎ ((row_of t ≡ exception_row) × TakesNone (first_in n t 1)))
KeepsKnown n (missing at) = Unit {0}

-- all of some items do
abbrev pub AllKeep : List Numbered → Type 0
AllKeep [] = Unit {0}
AllKeep (o ∷ os) = KeepsKnown o.number o.part × AllKeep os

-- What the call for an item of a structure gives where faults are reported, if the item is one that is carried: the definitions' own item is done.
abbrev pub GivesItem : (a b : Parts) → (old new : Scene) → Numbered → Type 0
GivesItem a b old new o = (G : Letters) (E : Choice → Environment) (seen : Seen) → IsCarriedItemOperand o → is_aloud a.telling ≡ true → (at : Outside as_declared (sight a) G old.env E) → HasConstants a → AreNoted at.older a → HasSeen old seen → IsGiven ((at.known ≡ true) × KeepsKnown o.number o.part) E (item_at a.item o) seen a b G new

-- what names no type, module or module type where it is an item: a `let`, `;;`, an exception, and what is missing
abbrev pub NamesNone : Part → Type 0
NamesNone (taken t) = Unit {0}
NamesNone (inner t) = (row_of t ≡ let_row) ⊎ ((row_of t ≡ break_row) ⊎ (row_of t ≡ exception_row))
NamesNone (missing at) = Unit {0}

-- each of some items is one that is carried
abbrev pub AreCarriedItems : List Numbered → Type 0
AreCarriedItems [] = Unit {0}
AreCarriedItems (o ∷ os) = IsCarriedItemOperand o × AreCarriedItems os

-- the same of the items of a whole structure, in order, if all of them are carried
abbrev pub GivesItems : (a b : Parts) → (env : List Entry) → List Numbered → Type 0
GivesItems a b env os = (G : Letters) (E : Choice → Environment) → AreCarriedItems os → is_aloud a.telling ≡ true → (at : Outside as_declared (sight a) G env E) → HasConstants a → AreNoted at.older a → (after : List Entry) × (names : Seen) × ItemsDone as_declared ⊥ E (items_at a.item os) no_names names a b G after

-- the first of some items are done, and these are left
pub record GivesFirst (E : Choice → Environment) (G : Letters) (a b : Parts) (now : Scene) (all left : List Numbered) : Type 0 where
  pub items : List Item
  pub given : IsGiven ⊥ E items no_names a b G now
  pub splits : items ++ items_at a.item left ≡ items_at a.item all
  pub carried : AreCarriedItems left

-- the same, if all of them are carried, from where a structure starts
abbrev pub GivesItemsFirst : (a b : Parts) → (env : List Entry) → (now : Scene) → (all left : List Numbered) → Type 0
GivesItemsFirst a b env now all left = (G : Letters) (E : Choice → Environment) → AreCarriedItems all → is_aloud a.telling ≡ true → (at : Outside as_declared (sight a) G env E) → HasConstants a → AreNoted at.older a → GivesFirst E G a b now all left

-- what adds values alone where it is an item: a `let`, `;;`, and what is missing
abbrev pub AddsValues : Part → Type 0
AddsValues (taken t) = Unit {0}
AddsValues (inner t) = (row_of t ≡ let_row) ⊎ (row_of t ≡ break_row)
AddsValues (missing at) = Unit {0}

-- The names after an item are new ones, the newest first, in front of those before it; these are its components.
pub record Grows (old new : Scene) : Type 0 where
  pub entries : List Entry
  pub names : new.env ≡ reverse entries ++ old.env
  pub components : entries_of new.components.items ≡ entries_of old.components.items ++ entries
