-- The points before items, and what they bring back.
use Rattle.std.specs.Prelude.{◌≡◌, ℕ, ◌+◌, ◌<◌, ◌≤◌, Bool, true, None, Some, List, length, take, slice_get}
use Rattle.tree_model.specs.Trees.{Tree}
use Rattle.type_nodes.specs.States.{state_at, Restored}
use Rattle.level_unify.specs.Solutions.{Tightens}
use Rattle.env_table.specs.declared.entries.Entry.{Entry}
use Rattle.typed_index.specs.Seen.{seen_at, before_item}
use Rattle.typing_state.specs.declared.parts.Parts.{Parts}
use Rattle.typing_state.specs.Goes.{faults_of, Goes}
use Rattle.typing_steps.specs.States.{is_aloud}
use Rattle.module_steps.specs.declared.scenes.Scene.{Scene}
use Rattle.module_typing.specs.Items.{AreCarriedItems}
use Rattle.text_analysis.specs.declared.point.Point.{Point}
use Rattle.text_analysis.specs.Given.{operands_of, Given, NoneStands, IsAs}

-- Items are typed from a first state, in which these names are in scope, and this is the state after them. Nothing is recorded for later items. Where it is known that no item names a type, a module
-- or a module type, there is no such name; it is known of items that are carried.
pub record EndsAt (first : Parts) (env : List Entry) (items : List Tree) (at : Parts) (now : Scene) (is_plain : Bool) : Type 0 where
  pub given : Given first env items at now
  pub unrecorded : (i p : ℕ) → length items < i → seen_at at.index i p ≡ None
  pub plain : is_plain ≡ true → NoneStands now
  pub known : AreCarriedItems (operands_of items) → is_plain ≡ true

-- a point of the present state, before the item of this number
pub record IsPointOf (p : Point) (number : ℕ) (at : Parts) (now : Scene) (is_plain : Bool) : Type 0 where
  pub number_is : p.number ≡ number
  pub mark : p.mark.0 ≡ length at.store.trail
  pub faults : p.faults ≡ length (faults_of at)
  pub scope : p.env ≡ now.env
  pub plain : p.is_plain ≡ is_plain

-- A point brings back, from a later state, the one after these items.
pub record LeadsBack (first : Parts) (env : List Entry) (items : List Tree) (p : Point) (at : Parts) : Type 0 where
  pub before : Parts
  pub scene : Scene
  pub ends : EndsAt first env items before scene p.is_plain
  pub number_is : p.number ≡ length items + 1
  pub scope : p.env ≡ scene.env
  pub within : p.mark.0 ≤ length at.store.trail
  pub nodes : state_at at.store p.mark.0 ≡ before.store.nodes
  pub types : Tightens before.store.nodes at.store.nodes
  pub counted : p.faults ≤ length (faults_of at)
  pub faults : take p.faults (faults_of at) ≡ faults_of before
  pub index : (i q : ℕ) → before_item p.number (seen_at at.index) i q ≡ seen_at before.index i q
  pub constants : at.constants ≡ before.constants

-- a point is no later than another, by whose state no node's type was loosened
pub record IsSooner (p q : Point) (at : Parts) : Type 0 where
  pub mark : p.mark.0 ≤ q.mark.0
  pub faults : p.faults ≤ q.faults
  pub types : Tightens (state_at at.store p.mark.0) (state_at at.store q.mark.0)

-- these are the points before items, in order, from the first item on
pub record ArePoints (first : Parts) (env : List Entry) (items : List Tree) (ps : List Point) (at : Parts) : Type 0 where
  pub each : (k : ℕ) (p : Point) → slice_get ps k ≡ Some p → LeadsBack first env (take k items) p at
  pub ordered : (j k : ℕ) (p q : Point) → j < k → slice_get ps j ≡ Some p → slice_get ps k ≡ Some q → IsSooner p q at

-- What going back to a point changes: the nodes, the faults and what is recorded are those from then, and what is typed next is reported, at the lowest level.
pub record GoesBack (p : Point) (old new : Parts) : Type 0 where
  pub store : p.mark.0 ≤ length old.store.trail → Restored old.store new.store p.mark.0
  pub faults : faults_of new ≡ take p.faults (faults_of old)
  pub index : (i q : ℕ) → seen_at new.index i q ≡ before_item p.number (seen_at old.index) i q
  pub aloud : is_aloud new.telling ≡ true
  pub level : new.level ≡ 0
  pub constants : new.constants ≡ old.constants

-- an item of this number is begun, and typing goes on from there
pub record GoesOnFrom (old : Parts) (number : ℕ) (new : Parts) : Type 0 where
  pub begun : Parts
  pub store : begun.store ≡ old.store
  pub alike : IsAs old begun
  pub item : begun.item ≡ number
  pub goes : Goes begun new
