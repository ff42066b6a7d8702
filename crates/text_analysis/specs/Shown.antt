-- What a typer shows of the items that it holds.
use Rattle.std.specs.Prelude.{◌≡◌, ℕ, ◌<◌, List, length, take}
use Rattle.tree_model.specs.Trees.{Tree}
use Rattle.env_table.specs.declared.entries.Entry.{Entry}
use Rattle.typing_state.specs.declared.parts.Parts.{Parts}
use Rattle.module_steps.specs.declared.scenes.Scene.{Scene}
use Rattle.analysis_api.specs.declared.Analysis.{Analysis}
use Rattle.text_analysis.specs.declared.kept.Typer.{Typer}
use Rattle.text_analysis.specs.Items.{views_of}
use Rattle.text_analysis.specs.Given.{Opens, Given, HasFront}

-- What an analysis has is what typing these items gives, from a state after the prelude; and it goes on from what typing the first of them gives, however many.
pub record IsOfItems (items : List Tree) (x : Analysis) : Type 0 where
  pub first : Parts
  pub env : List Entry
  pub opens : Opens first env
  pub at : Parts
  pub now : Scene
  pub given : Given first env items at now
  pub fronts : (k : ℕ) → k < length items → HasFront first env (take k items) at
  pub store : x.store.now ≡ at.store
  pub index : x.index.now ≡ at.index
  pub faults : x.faults.now ≡ at.faults
  pub end : x.end.now ≡ now.env

-- the analysis has what the typer recorded, and nothing else; that is what typing its items gives
pub record Shows (t : Typer) (x : Analysis) : Type 0 where
  pub store : x.store.now ≡ t.typed.parts.store
  pub index : x.index.now ≡ t.typed.parts.index
  pub faults : x.faults.now ≡ t.typed.parts.faults
  pub end : x.end.now ≡ t.typed.scene.env
  pub weak : x.weak.now ≡ t.weak.items
  pub given : ∥ IsOfItems (views_of t.typed.items.items) x ∥₁
