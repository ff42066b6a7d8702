-- What an item `val x : t` gives (OCaml manual, 11.10).
use Rattle.std.specs.Prelude.{◌≡◌, ◌⊎◌, ℕ, true, List, [], ◌∷◌, ◌++◌, Some}
use Rattle.token_model.specs.Kinds.{Tok}
use Rattle.tree_model.specs.Rows.{val_row, gmodule_row, ysig_row}
use Rattle.tree_model.specs.Trees.{Tree, Part, taken, inner, missing, yield_of}
use Rattle.type_model.specs.Types.{Typ}
use Rattle.signature_model.specs.Entries.{Environment, entries_in}
use Rattle.signature_model.specs.Entries.{Entry as Named}
use Rattle.signature_model.specs.Matching.{IsKnown}
use Rattle.signature_model.specs.Signatures.{Components, Done, Component, Value, TypeName, Exception, Module, ModuleType}
use Rattle.typing_model.specs.Demands.{AllHold}
use Rattle.typing_model.specs.Contexts.{Choice, Context, tell}
use Rattle.typing_model.specs.Parts.{Item, Seen, no_names}
use Rattle.typing_model.specs.Modules.{value_item}
use Rattle.type_nodes.specs.Readings.{Types}
use Rattle.level_unify.specs.Solutions.{Loose}
use Rattle.env_table.specs.declared.entries.Entry.{Entry}
use Rattle.row_parts.specs.Numbered.{Numbered, operands_in, filled_in, token_in}
use Rattle.typing_state.specs.declared.parts.Parts.{Parts}
use Rattle.operand_laws.specs.Formed.{row_of, IsFormed}
use Rattle.operand_laws.specs.Operands.{number_of}
use Rattle.typing_conditions.specs.Sights.{Letters}
use Rattle.typing_conditions.specs.Judging.{Judgement, judgements, FallsShort}
use Rattle.typing_steps.specs.Constants.{HasConstants}
use Rattle.typing_steps.specs.States.{is_aloud, sight}
use Rattle.typing_steps.specs.Typing.{as_declared}
use Rattle.typing_rows.specs.Noted.{AreNoted}
use Rattle.binding_rows.specs.ItemRows.{ItemDone}
use Rattle.binding_rows.specs.Outside.{AgreesOutside, InEachMet, Outside}
use Rattle.first_laws.specs.Declaring.{Grows}
use Rattle.declared_items.specs.Adding.{AddsAlike}
use Rattle.signature_typing.specs.Values.{type_specified}

-- an item `val x : t` that has a name
pub record IsValueNode (n : ℕ) (t : Tree) : Type 0 where
  pub formed : IsFormed n t
  pub row : row_of t ≡ val_row
  pub name : Tok
  pub named : token_in t 1 ≡ Some name

-- a value that has a name is at an operand
abbrev pub IsValuePart : ℕ → Part → Type 0
IsValuePart n (taken t) = ⊥
IsValuePart n (inner t) = IsValueNode n t
IsValuePart n (missing at) = ⊥

-- each of some operands is one
abbrev pub AreValues : List Numbered → Type 0
AreValues [] = Unit {0}
AreValues (o ∷ os) = IsValuePart o.number o.part × AreValues os

-- the items of a signature `sig .. end` at an operand
abbrev pub items_within : ℕ → Part → List Numbered
items_within n (taken t) = []
items_within n (inner t) = operands_in n t 1
items_within n (missing at) = []

-- a signature `sig .. end` of values that have names is at an operand
abbrev pub IsValuesSignature : ℕ → Part → Type 0
IsValuesSignature n (taken t) = ⊥
IsValuesSignature n (inner t) = (row_of t ≡ ysig_row) × AreValues (operands_in n t 1)
IsValuesSignature n (missing at) = ⊥

-- an item `module M : sig .. end` that has a name and no parameters, whose signature is one of values
pub record IsValuesModuleNode (n : ℕ) (t : Tree) : Type 0 where
  pub formed : IsFormed n t
  pub row : row_of t ≡ gmodule_row
  pub name : Tok
  pub named : token_in t 1 ≡ Some name
  pub alone : operands_in n t 5 ≡ []
  pub values : IsValuesSignature (filled_in n t 8).number (filled_in n t 8).part

-- the values in it
abbrev pub values_of : ℕ → Tree → List Numbered
values_of n t = items_within (filled_in n t 8).number (filled_in n t 8).part

-- a value as it is recorded: its node is treated, and then its type is read
abbrev pub recorded_value : (i n : ℕ) → Tree → Item
recorded_value i n t = let m = value_item (number_of i n) (yield_of t) (token_in t 1) (type_specified i n t) in record m { asks = λ c seen. tell (number_of i n) c ++ m.asks c seen }

-- all components are values
abbrev pub AllValues : Components → Type 0
AllValues Done = Unit {0}
AllValues (Component n at (Value s) cs) = AllValues cs
AllValues (Component n at (TypeName d) cs) = ⊥
AllValues (Component n at (Exception o) cs) = ⊥
AllValues (Component n at (Module s) cs) = ⊥
AllValues (Component n at (ModuleType made s) cs) = ⊥

-- A value is an item that is done, and adds one entry, which stands for the one of its component, whatever is chosen.
pub record ValueAdded (a : Parts) {G : Letters} {env : List Entry} {E : Choice → Environment} (at : Outside as_declared (sight a) G env E) (m : Item) (seen : Seen) (b : Parts) (after : List Entry) : Type 0 where
  pub done : ItemDone as_declared ⊥ E m seen no_names a b G after
  pub alike : AddsAlike E done.env G done.letters
  pub entry : Entry
  pub named : Named
  pub scope : after ≡ entry ∷ env
  pub grows : Grows at done.outside (entry ∷ []) (named ∷ [])
  pub shown : InEachMet E (λ c. m.asks c seen) (sight b) done.letters done.carried.judged (λ c. entries_in (m.components c) ≡ named ∷ [])
  pub values : (c : Context) → AllValues (m.components c)
  pub makes : (c : Context) → m.makes c ≡ []

-- A value is specified by its type: each choice that meets what is asked has this type for the type expression, or is the first not to keep a demand that was kept.
-- Where no unknown type stands in it, the value is added.
pub record ValueDone (a : Parts) {G : Letters} {env : List Entry} {E : Choice → Environment} (at : Outside as_declared (sight a) G env E) (m : Item) (written : ℕ) (seen : Seen) (b : Parts) (after : List Entry) : Type 0 where
  pub type : Typ
  pub judged : List Judgement
  pub decided : (V : Types) (c : Context) → c.env ≡ E c.chosen → Loose a.store.nodes V → AgreesOutside (sight a) G V c.chosen → AllHold c.kept (m.asks c seen) → (c.chosen.type_at written ≡ type) ⊎ FallsShort (judgements c.kept (m.asks c seen)) judged
  pub added : IsKnown type → ValueAdded a at m seen b after

-- What a call gives for a value of a signature, from where the item starts to where the next one does: where faults are reported, the definitions' own item, whatever names stand before it.
abbrev pub GivesValue : (a b : Parts) → (env after : List Entry) → (n : ℕ) → Tree → Type 0
GivesValue a b env after n t =
    (G : Letters) (E : Choice → Environment) (seen : Seen) → IsValueNode n t → is_aloud a.telling ≡ true → (at : Outside as_declared (sight a) G env E) → HasConstants a → AreNoted at.older a →
    ValueDone a at (recorded_value a.item n t) (type_specified a.item n t).node seen b after
