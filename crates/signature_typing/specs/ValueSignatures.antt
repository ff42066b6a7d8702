-- What the items of a signature give that has values alone: names, with the components that stand for them (OCaml manual, 11.10).
use Rattle.std.specs.Prelude.{◌≡◌, ℕ, true, List, [], ◌∷◌, ◌++◌, Option, Some, None}
use Rattle.token_model.specs.Kinds.{Tok}
use Rattle.tree_model.specs.Trees.{Tree}
use Rattle.signature_model.specs.Entries.{Environment, entries_in}
use Rattle.typing_model.specs.Contexts.{Choice, Context}
use Rattle.typing_model.specs.Items.{items_ask, components_of_items, made_by_items}
use Rattle.typing_model.specs.Parts.{Item, no_names}
use Rattle.type_nodes.specs.Readings.{Types}
use Rattle.env_table.specs.declared.entries.Entry.{Entry}
use Rattle.env_table.specs.declared.entries.Sig.{Sig}
use Rattle.env_table.specs.declared.entries.Template.{Template}
use Rattle.type_terms.specs.declared.types.Origin.{Origin}
use Rattle.row_parts.specs.Numbered.{Numbered}
use Rattle.typing_state.specs.declared.parts.Parts.{Parts}
use Rattle.typing_conditions.specs.Environments.{EnvAs}
use Rattle.typing_conditions.specs.Declared.{DeclaredAs, ExceptionAs}
use Rattle.typing_conditions.specs.Sights.{Letters}
use Rattle.typing_steps.specs.Constants.{HasConstants}
use Rattle.typing_steps.specs.States.{is_aloud, sight}
use Rattle.typing_steps.specs.Typing.{as_declared}
use Rattle.typing_rows.specs.Noted.{AreNoted}
use Rattle.binding_rows.specs.ItemRows.{ItemsDone}
use Rattle.binding_rows.specs.Outside.{InEachMet, Outside, OnlyBetween}
use Rattle.first_laws.specs.Declaring.{SpecifiedAs, Grows}
use Rattle.sig_template.specs.Structures.{entries_of, newest_alone, IsStructureOf}
use Rattle.sig_template.specs.Ways.{sig_of}
use Rattle.sig_template.specs.Changed.{made_of}
use Rattle.module_steps.specs.declared.scenes.Scene.{Scene}
use Rattle.declared_items.specs.Adding.{AddsAlike}
use Rattle.signature_typing.specs.ValueItems.{IsValuePart, AreValues, items_within, IsValuesSignature, IsValuesModuleNode, values_of, AllValues}
use Rattle.signature_typing.specs.Specifications.{specification_at, specifications_at, IsKnownValue, AreKnownValues, AllMet}

-- one entry was added to a scene: the newest name, which is the last component
pub record AddsNewest (old new : Scene) : Type 0 where
  pub entry : Entry
  pub env : new.env ≡ entry ∷ old.env
  pub components : entries_of new.components.items ≡ entries_of old.components.items ++ entry ∷ []
  pub makes : new.makes ≡ old.makes

-- a value adds its entry, if it has a name
abbrev pub AddsIf : Option Tok → (old new : Scene) → Type 0
AddsIf None old new = new ≡ old
AddsIf (Some t) old new = AddsNewest old new

-- Items were done, which name no type and no module; the entries `shown` stand for those of their components, among the names that were added.
pub record ValuesAdded (a : Parts) {G : Letters} {env : List Entry} {E : Choice → Environment} (at : Outside as_declared (sight a) G env E) (ms : List Item) (b : Parts) (after shown : List Entry) : Type 0 where
  pub done : ItemsDone as_declared ⊥ E ms no_names no_names a b G after
  pub alike : AddsAlike E done.env G done.letters
  pub more : List Entry
  pub added : Environment
  pub grows : Grows at done.outside more added
  pub named : Environment
  pub entries : EnvAs (SpecifiedAs b.store.nodes done.outside.roots done.outside.names) (DeclaredAs b.store.nodes done.outside.roots done.outside.names) (ExceptionAs b.store.nodes done.outside.roots done.outside.names) shown named
  pub components : InEachMet E (λ c. items_ask c no_names ms) (sight b) done.letters done.carried.judged (λ c. entries_in (components_of_items c ms) ≡ named)
  pub values : (c : Context) → AllValues (components_of_items c ms)
  pub makes : (c : Context) → made_by_items c ms ≡ []

-- What the call for an item of a signature gives where it is a value, and one typing of the definitions is known of it and of the items after it: it adds one entry, which is its component.
pub record AddsValue (a : Parts) {G : Letters} {E : Choice → Environment} (b : Parts) (old new : Scene) (at : Outside as_declared (sight a) G old.env E) (ms : List Item) : Type 0 where
  pub entry : Entry
  pub adds : ValuesAdded a at ms b new.env (entry ∷ [])
  pub components : entries_of new.components.items ≡ entries_of old.components.items ++ entry ∷ []
  pub makes : new.makes ≡ old.makes

abbrev pub GivesAdded : (a b : Parts) → (old new : Scene) → Numbered → Type 0
GivesAdded a b old new o =
    (G : Letters) (E : Choice → Environment) → IsValuePart o.number o.part → is_aloud a.telling ≡ true → (at : Outside as_declared (sight a) G old.env E) → HasConstants a → AreNoted at.older a →
    (ns : List Item) (V : Types) (c : Context) → AllMet E (sight a) G (λ x. items_ask x no_names (specification_at a.item o ++ ns)) V c → IsKnownValue c.chosen a.item o.number o.part → AddsValue a b old new at (specification_at a.item o)

-- The same of the items of a whole signature, in order, whose components are `shown`, and which make these origins, which are none.
abbrev pub GivesAllAdded : (a b : Parts) → (env : List Entry) → List Numbered → (shown : List Entry) → List Origin → Type 0
GivesAllAdded a b env os shown made =
    (G : Letters) (E : Choice → Environment) → AreValues os → is_aloud a.telling ≡ true → (at : Outside as_declared (sight a) G env E) → HasConstants a → AreNoted at.older a →
    (V : Types) (c : Context) → AllMet E (sight a) G (λ x. items_ask x no_names (specifications_at a.item os)) V c → AreKnownValues c.chosen a.item os → (after : List Entry) × ValuesAdded a at (specifications_at a.item os) b after shown × (made ≡ [])

-- the first of some items are added, and these are left
pub record AddsFirst (a : Parts) {G : Letters} {env : List Entry} {E : Choice → Environment} (at : Outside as_declared (sight a) G env E) (ch : Choice) (b : Parts) (now : Scene) (all left : List Numbered) : Type 0 where
  pub items : List Item
  pub adds : ValuesAdded a at items b now.env (entries_of now.components.items)
  pub splits : items ++ specifications_at a.item left ≡ specifications_at a.item all
  pub values : AreValues left
  pub known : AreKnownValues ch a.item left
  pub makes : now.makes.items ≡ []

-- the same, if all of them are values, from where a signature starts
abbrev pub GivesAddedFirst : (a b : Parts) → (env : List Entry) → (now : Scene) → (all left : List Numbered) → Type 0
GivesAddedFirst a b env now all left =
    (G : Letters) (E : Choice → Environment) → AreValues all → is_aloud a.telling ≡ true → (at : Outside as_declared (sight a) G env E) → HasConstants a → AreNoted at.older a →
    (V : Types) (c : Context) → AllMet E (sight a) G (λ x. items_ask x no_names (specifications_at a.item all)) V c → AreKnownValues c.chosen a.item all → AddsFirst a at c.chosen b now all left

-- A signature of values was read: its node was recorded, the values were added, and the signature of the code is the structure of the newest of each name.
pub record ValuesRead (a : Parts) (G : Letters) (env : List Entry) (E : Choice → Environment) (ms : List Item) (b : Parts) (s : Sig) : Type 0 where
  pub begun : Parts
  pub only : OnlyBetween (sight a) (sight begun)
  pub outside : Outside as_declared (sight begun) G env E
  pub after : List Entry
  pub shown : List Entry
  pub adds : ValuesAdded begun outside ms b after shown
  pub is : IsStructureOf s (newest_alone shown)

-- What a call gives for a module type that is a signature of values, where one typing of the definitions is known of these: they are added, and nothing is made.
abbrev pub GivesStructure : (a b : Parts) → (env : List Entry) → Numbered → Template → Type 0
GivesStructure a b env o t =
    (G : Letters) (E : Choice → Environment) → IsValuesSignature o.number o.part → is_aloud a.telling ≡ true → (at : Outside as_declared (sight a) G env E) → HasConstants a → AreNoted at.older a →
    (V : Types) (c : Context) → AllMet E (sight a) G (λ x. items_ask x no_names (specifications_at a.item (items_within o.number o.part))) V c → AreKnownValues c.chosen a.item (items_within o.number o.part) →
    ValuesRead a G env E (specifications_at a.item (items_within o.number o.part)) b (sig_of t) × (made_of t ≡ [])

-- The same for the module of an item that has no parameters.
abbrev pub GivesModule : (a b : Parts) → (env : List Entry) → (n : ℕ) → Tree → Sig → Type 0
GivesModule a b env n t s =
    (G : Letters) (E : Choice → Environment) → IsValuesModuleNode n t → is_aloud a.telling ≡ true → (at : Outside as_declared (sight a) G env E) → HasConstants a → AreNoted at.older a →
    (V : Types) (c : Context) → AllMet E (sight a) G (λ x. items_ask x no_names (specifications_at a.item (values_of n t))) V c → AreKnownValues c.chosen a.item (values_of n t) → ValuesRead a G env E (specifications_at a.item (values_of n t)) b s
