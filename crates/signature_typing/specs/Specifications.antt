-- What items of a signature give, in order (OCaml manual, 11.10).
use Rattle.std.specs.Prelude.{◌≡◌, ◌⊎◌, ℕ, true, false, List, [], ◌∷◌, ◌++◌}
use Rattle.tree_model.specs.Rows.{val_row, gmodule_row}
use Rattle.tree_model.specs.Extents.{extent_of}
use Rattle.tree_model.specs.Trees.{Tree, Part, taken, inner, missing}
use Rattle.signature_model.specs.Declarations.{Name}
use Rattle.signature_model.specs.Entries.{Environment}
use Rattle.signature_model.specs.Matching.{IsKnown}
use Rattle.typing_model.specs.Demands.{AllHold}
use Rattle.typing_model.specs.Contexts.{Choice, Context}
use Rattle.typing_model.specs.Items.{items_ask}
use Rattle.typing_model.specs.Parts.{Item, Seen, no_names}
use Rattle.typing_model.specs.Records.{is_among}
use Rattle.type_nodes.specs.Readings.{Types}
use Rattle.env_table.specs.declared.entries.Entry.{Entry}
use Rattle.env_table.specs.declared.entries.Kind.TheVariants as kind
use Rattle.row_parts.specs.Numbered.{Numbered, behind, node_with}
use Rattle.typing_state.specs.declared.parts.Parts.{Parts}
use Rattle.operand_laws.specs.Formed.{row_of}
use Rattle.operand_laws.specs.Operands.{child_at}
use Rattle.typing_conditions.specs.Carrying.{Asks}
use Rattle.typing_conditions.specs.Judging.{Judgement, judgements}
use Rattle.typing_conditions.specs.Sights.{Sight, Letters}
use Rattle.typing_steps.specs.Constants.{HasConstants}
use Rattle.typing_steps.specs.States.{is_aloud, sight}
use Rattle.typing_steps.specs.Typing.{as_declared}
use Rattle.typing_rows.specs.Noted.{AreNoted}
use Rattle.binding_rows.specs.ItemRows.{IsExceptionNode, ItemsDone, item_if}
use Rattle.binding_rows.specs.Outside.{Outside, EntersItems}
use Rattle.declared_items.specs.Adding.{ItemsAdded}
-- for the crate that types modules
pub use Rattle.declared_items.specs.Adding.{GivesException}
use Rattle.declared_items.specs.Written.{IsOwnTypeNode}
use Rattle.module_steps.specs.declared.scenes.Scene.{Scene}
use Rattle.module_steps.specs.Scenes.{has_name}
use Rattle.signature_typing.specs.Values.{type_specified}
use Rattle.signature_typing.specs.ValueItems.{IsValueNode, IsValuesModuleNode, values_of}

-- the item of the definitions that an operand of a signature is, if it is one
abbrev pub specification_at : ℕ → Numbered → List Item
specification_at i o = item_if (child_at i 0 o).signature_item

-- the items that operands of a signature are, in order
abbrev pub specifications_at : ℕ → List Numbered → List Item
specifications_at i [] = []
specifications_at i (o ∷ os) = specification_at i o ++ specifications_at i os

-- the items of a signature as operands, one after the other, where the first has this number
abbrev pub specified_from : ℕ → List Tree → List Numbered
specified_from n [] = []
specified_from n (t ∷ ts) = node_with n t ∷ specified_from (behind n (extent_of t).size) ts

-- an item of a signature whose conditions are carried: a value or an exception that has a name, one type of its own, or a module with a name that has a signature of values
abbrev pub IsCarriedSpecification : ℕ → Tree → Type 0
IsCarriedSpecification n t = IsValueNode n t ⊎ (IsExceptionNode n t ⊎ (IsOwnTypeNode n t ⊎ IsValuesModuleNode n t))

-- the same of what is at an operand; what is missing is no item
abbrev pub IsSpecifiedPart : ℕ → Part → Type 0
IsSpecifiedPart n (taken t) = Unit {0}
IsSpecifiedPart n (inner t) = IsCarriedSpecification n t
IsSpecifiedPart n (missing at) = Unit {0}

-- each of some operands is such an item
abbrev pub AreCarriedSpecifications : List Numbered → Type 0
AreCarriedSpecifications [] = Unit {0}
AreCarriedSpecifications (o ∷ os) = IsSpecifiedPart o.number o.part × AreCarriedSpecifications os

-- where a value is specified, no unknown type stands in the type that is chosen for it
abbrev pub IsKnownValue : Choice → (i n : ℕ) → Part → Type 0
IsKnownValue ch i n (taken t) = Unit {0}
IsKnownValue ch i n (inner t) = row_of t ≡ val_row → IsKnown (ch.type_at (type_specified i n t).node)
IsKnownValue ch i n (missing at) = Unit {0}

-- the same of several operands
abbrev pub AreKnownValues : Choice → (i : ℕ) → List Numbered → Type 0
AreKnownValues ch i [] = Unit {0}
AreKnownValues ch i (o ∷ os) = IsKnownValue ch i o.number o.part × AreKnownValues ch i os

-- where a module is specified, the same of what its signature specifies
abbrev pub AreKnownWithin : Choice → (i n : ℕ) → Part → Type 0
AreKnownWithin ch i n (taken t) = Unit {0}
AreKnownWithin ch i n (inner t) = row_of t ≡ gmodule_row → AreKnownValues ch i (values_of n t)
AreKnownWithin ch i n (missing at) = Unit {0}

-- an item of a signature specifies what is known
pub record IsKnownPart (ch : Choice) (i n : ℕ) (p : Part) : Type 0 where
  pub value : IsKnownValue ch i n p
  pub within : AreKnownWithin ch i n p

-- the same of the items of a signature
abbrev pub AreKnownAt : Choice → (i : ℕ) → List Numbered → Type 0
AreKnownAt ch i [] = Unit {0}
AreKnownAt ch i (o ∷ os) = IsKnownPart ch i o.number o.part × AreKnownAt ch i os

-- each of these judgements keeps its demand, and none is that a body closes
abbrev pub AreSure : List Judgement → Type 0
AreSure [] = Unit {0}
AreSure (j ∷ js) = (j.kept ≡ true) × (j.closing ≡ false) × AreSure js

-- One typing of the definitions from a state on: types with which a choice enters items, in a context in which what they ask is met, with every demand kept.
pub record AllMet (E : Choice → Environment) (a : Sight) (G : Letters) (asks : Asks) (V : Types) (c : Context) : Type 0 where
  pub enters : EntersItems E a G V c
  pub holds : AllHold c.kept (asks c)
  pub sure : AreSure (judgements c.kept (asks c))

-- the names of types, modules and module types that stand in a scene are these
pub record HasSeen (s : Scene) (seen : Seen) : Type 0 where
  pub types : (n : Name) → has_name s kind.TypeName n ≡ is_among n seen.types
  pub modules : (n : Name) → has_name s kind.Module n ≡ is_among n seen.modules
  pub module_types : (n : Name) → has_name s kind.ModuleType n ≡ is_among n seen.module_types

-- items are done where these names stand before them, and the scene after them has the names that then stand
pub record IsGiven (K : Type 0) (E : Choice → Environment) (ms : List Item) (seen : Seen) (a b : Parts) (G : Letters) (after : Scene) : Type 0 where
  pub names : Seen
  pub done : ItemsDone as_declared K E ms seen names a b G after.env
  pub standing : HasSeen after names

-- The same of items of a signature, which add the same names whatever is chosen.
pub record IsSpecified (E : Choice → Environment) (ms : List Item) (seen : Seen) (a b : Parts) (G : Letters) (after : Scene) : Type 0 where
  pub names : Seen
  pub added : ItemsAdded E ms seen names a b G after.env
  pub standing : HasSeen after names

-- What the call for an item of a signature gives where faults are reported, if the item is one that is carried and one typing of the definitions is known of it and of the items after it: it is done.
abbrev pub GivesSpecification : (a b : Parts) → (old new : Scene) → Numbered → Type 0
GivesSpecification a b old new o =
    (G : Letters) (E : Choice → Environment) (seen : Seen) → IsSpecifiedPart o.number o.part → is_aloud a.telling ≡ true → (at : Outside as_declared (sight a) G old.env E) → HasConstants a → AreNoted at.older a → HasSeen old seen →
    (ns : List Item) (V : Types) (c : Context) → AllMet E (sight a) G (λ x. items_ask x seen (specification_at a.item o ++ ns)) V c → IsKnownPart c.chosen a.item o.number o.part → IsSpecified E (specification_at a.item o) seen a b G new

-- The same of the items of a whole signature, in order.
abbrev pub GivesSpecifications : (a b : Parts) → (env : List Entry) → List Numbered → Type 0
GivesSpecifications a b env os =
    (G : Letters) (E : Choice → Environment) → AreCarriedSpecifications os → is_aloud a.telling ≡ true → (at : Outside as_declared (sight a) G env E) → HasConstants a → AreNoted at.older a →
    (V : Types) (c : Context) → AllMet E (sight a) G (λ x. items_ask x no_names (specifications_at a.item os)) V c → AreKnownAt c.chosen a.item os → (after : List Entry) × (names : Seen) × ItemsDone as_declared ⊥ E (specifications_at a.item os) no_names names a b G after

-- the first of some items are done, and these are left
pub record SpecifiesFirst (E : Choice → Environment) (G : Letters) (ch : Choice) (a b : Parts) (now : Scene) (all left : List Numbered) : Type 0 where
  pub items : List Item
  pub given : IsSpecified E items no_names a b G now
  pub splits : items ++ specifications_at a.item left ≡ specifications_at a.item all
  pub carried : AreCarriedSpecifications left
  pub known : AreKnownAt ch a.item left

-- the same, if all of them are carried, from where a signature starts
abbrev pub SpecifiesItemsFirst : (a b : Parts) → (env : List Entry) → (now : Scene) → (all left : List Numbered) → Type 0
SpecifiesItemsFirst a b env now all left =
    (G : Letters) (E : Choice → Environment) → AreCarriedSpecifications all → is_aloud a.telling ≡ true → (at : Outside as_declared (sight a) G env E) → HasConstants a → AreNoted at.older a →
    (V : Types) (c : Context) → AllMet E (sight a) G (λ x. items_ask x no_names (specifications_at a.item all)) V c → AreKnownAt c.chosen a.item all → SpecifiesFirst E G c.chosen a b now all left

-- What a call gives for a module of a signature of values, as that for an item: it is done, and its name stands after it.
abbrev pub GivesValuesModule : (a b : Parts) → (old new : Scene) → (n : ℕ) → Tree → Type 0
GivesValuesModule a b old new n t =
    (G : Letters) (E : Choice → Environment) (seen : Seen) → IsValuesModuleNode n t → is_aloud a.telling ≡ true → (at : Outside as_declared (sight a) G old.env E) → HasConstants a → AreNoted at.older a → HasSeen old seen →
    (ns : List Item) (V : Types) (c : Context) → AllMet E (sight a) G (λ x. items_ask x seen (specification_at a.item (node_with n t) ++ ns)) V c → AreKnownValues c.chosen a.item (values_of n t) → IsSpecified E (specification_at a.item (node_with n t)) seen a b G new
