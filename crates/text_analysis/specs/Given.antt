-- What the items of a text give, one after the other, from the state after the prelude.
use Rattle.std.specs.Prelude.{◌≡◌, ℕ, ◌<◌, ◌≤◌, true, false, None, List, length, map}
use Rattle.tree_model.specs.Trees.{Tree}
use Rattle.signature_model.specs.Entries.{Environment}
use Rattle.typing_model.specs.Contexts.{Choice}
use Rattle.typing_model.specs.First.{IsFirst}
use Rattle.typing_model.specs.Parts.{no_names}
use Rattle.typing_model.specs.Meanings.{items_of}
use Rattle.row_parts.specs.Numbered.{Numbered, node_with}
use Rattle.level_unify.specs.Solutions.{Tightens}
use Rattle.env_table.specs.declared.entries.Entry.{Entry}
use Rattle.env_table.specs.declared.entries.Kind.{Kind}
use Rattle.typed_index.specs.Seen.{seen_at}
use Rattle.typing_state.specs.declared.parts.Parts.{Parts}
use Rattle.typing_state.specs.Goes.{faults_of, Begins}
use Rattle.typing_conditions.specs.Sights.{Letters}
use Rattle.typing_steps.specs.States.{is_aloud, sight}
use Rattle.typing_steps.specs.Typing.{as_declared}
use Rattle.typing_steps.specs.Constants.{HasConstants}
use Rattle.binding_rows.specs.Outside.{Outside}
use Rattle.typing_rows.specs.Noted.{AreNoted}
use Rattle.module_steps.specs.declared.scenes.Scene.{Scene}
use Rattle.module_steps.specs.Scenes.{has_name}
use Rattle.module_typing.specs.Items.{IsGiven, AreCarriedItems, AllKeep}
use Rattle.prelude_checks.specs.Known.{StartsFirst}

-- the items of a text as operands, each of which is numbered from 0
abbrev pub operands_of : List Tree → List Numbered
operands_of items = map (node_with 0) items

-- What the calls for the items of a text give, from the state after the prelude to the one after the last item: where all items are carried, the definitions' own items are done. The premises on
-- the first state are what is known of it once the prelude is carried.
abbrev pub Given : (first : Parts) → (env : List Entry) → (items : List Tree) → (last : Parts) → (now : Scene) → Type 0
Given first env items last now = (G : Letters) (E : Choice → Environment) → AreCarriedItems (operands_of items) → is_aloud first.telling ≡ true → (at : Outside as_declared (sight first) G env E) → HasConstants first → AreNoted at.older first → IsGiven ((at.known ≡ true) × AllKeep (operands_of items)) E (items_of items) no_names first last G now

-- no name of a type, a module or a module type is in a scene
abbrev pub NoneStands : Scene → Type 0
NoneStands s = (k : Kind) (n : List ℕ) → has_name s k n ≡ false

-- A state from which the first item of a text is typed, with these names in scope, which are those of the first environment: faults are reported, at the lowest level, and nothing is recorded for
-- the text's items.
pub record Opens (first : Parts) (env : List Entry) : Type 0 where
  pub aloud : is_aloud first.telling ≡ true
  pub level : first.level ≡ 0
  pub unrecorded : (i p : ℕ) → 0 < i → seen_at first.index i p ≡ None
  pub starts : (names : Environment) → IsFirst names → StartsFirst first env names

-- a state is as another one, as far as nodes, what is recorded, faults and constants go
pub record IsAs (a b : Parts) : Type 0 where
  pub nodes : b.store.nodes ≡ a.store.nodes
  pub index : (i p : ℕ) → seen_at b.index i p ≡ seen_at a.index i p
  pub faults : faults_of b ≡ faults_of a
  pub constants : b.constants ≡ a.constants

-- A state goes on from the one after these items: no node's type was loosened, the faults begin with those of then, and what is recorded for the items is what was recorded then.
pub record HasFront (first : Parts) (env : List Entry) (items : List Tree) (at : Parts) : Type 0 where
  pub before : Parts
  pub now : Scene
  pub given : Given first env items before now
  pub types : Tightens before.store.nodes at.store.nodes
  pub faults : Begins (faults_of before) (faults_of at)
  pub index : (i p : ℕ) → i ≤ length items → seen_at at.index i p ≡ seen_at before.index i p
