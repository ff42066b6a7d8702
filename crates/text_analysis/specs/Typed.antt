-- What is kept of the items of a text.
use Rattle.std.specs.Prelude.{◌≡◌, ◌+◌, ℕ, Bool, List, length}
use Rattle.tree_model.specs.Trees.{Tree}
use Rattle.env_table.specs.declared.entries.Entry.{Entry}
use Rattle.typing_state.specs.declared.parts.Parts.{Parts}
use Rattle.module_steps.specs.declared.scenes.Scene.{Scene}
use Rattle.text_analysis.specs.declared.point.Point.{Point}
use Rattle.text_analysis.specs.declared.typed_items.TypedItems.{TypedItems}
use Rattle.text_analysis.specs.Items.{views_of}
use Rattle.text_analysis.specs.Given.{Opens}
use Rattle.text_analysis.specs.Points.{EndsAt, ArePoints}
use Rattle.text_analysis.specs.Weak.{HasFree, AreFreeAt}
use Rattle.weak_variables.specs.Search.{lists_of}

-- the state is the one after the items, there are as many points, and variables were found for each item
pub record AreChained (first : Parts) (env : List Entry) (items : List Tree) (free : List (List ℕ)) (ps : List Point) (at : Parts) (now : Scene) (is_plain : Bool) : Type 0 where
  pub ends : EndsAt first env items at now is_plain
  pub points : ArePoints first env items ps at
  pub counted : length ps ≡ length items
  pub has_free : HasFree first env items at.store.nodes now.env free
  pub free_at : AreFreeAt first env items free ps at

-- the items are typed from a first state, each has its point, and the state is the one after the last
abbrev pub AreTyped : (first : Parts) → (env : List Entry) → TypedItems → Type 0
AreTyped first env c = AreChained first env (views_of c.items.items) (lists_of c.free.items) c.points.items c.parts c.scene c.is_plain

-- the state is the one after the items
abbrev pub EndsAfter : (first : Parts) → (env : List Entry) → TypedItems → Type 0
EndsAfter first env c = EndsAt first env (views_of c.items.items) c.parts c.scene c.is_plain × HasFree first env (views_of c.items.items) c.parts.store.nodes c.scene.env (lists_of c.free.items)

-- each item has its point, and so has the one that is begun
abbrev pub IsBegun : (first : Parts) → (env : List Entry) → TypedItems → Type 0
IsBegun first env c = ArePoints first env (views_of c.items.items) c.points.items c.parts × (length c.points.items ≡ length (views_of c.items.items) + 1) × AreFreeAt first env (views_of c.items.items) (lists_of c.free.items) c.points.items c.parts

-- the items are typed from a state after the prelude
abbrev pub IsKnown : TypedItems → Type 0
IsKnown c = (first : Parts) × (env : List Entry) × Opens first env × AreTyped first env c
