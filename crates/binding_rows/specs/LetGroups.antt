-- What closing the group of a `let` is made of.
use Rattle.std.specs.Prelude.{◌≡◌, suc, true, ◌<◌, List}
use Rattle.typing_model.specs.Parts.{Binding}
use Rattle.type_nodes.specs.Nodes.{bound_level}
use Rattle.env_table.specs.declared.entries.Entry.{Entry}
use Rattle.typing_state.specs.declared.parts.Parts.{Parts}
use Rattle.typing_conditions.specs.Sights.{Sight, Letters}
use Rattle.typing_conditions.specs.Frames.{Frame}
use Rattle.typing_conditions.specs.Steps.{OnlyLevel}
use Rattle.typing_conditions.specs.Carrying.{Asks, Scope}
use Rattle.typing_conditions.specs.Surroundings.{Declared, Surrounds}
use Rattle.typing_steps.specs.States.{is_aloud, sight}
use Rattle.typing_steps.specs.Typing.{as_declared}
use Rattle.binding_rows.specs.Closing.{Limit, limit_nodes, ClosesGroup}
use Rattle.binding_rows.specs.Lets.{ToClose, bind_nodes, names_closed, limited_nodes, GroupToClose}

-- A group was typed from y to a, one level further in than x, and then closed up to d; its limits are those of the right sides that aren't generalised and of the
-- names that they bind.
pub record LetGroup (D : Declared) (F : Frame) (scope : Scope) (asks : Asks) (x y : Sight) (G : Letters) (a d : Parts) (env : List Entry) (xs : List Binding) (ys : List ToClose) (limits : List Limit) : Type 0 where
  pub at : Surrounds D F x G env scope
  pub only : OnlyLevel x y
  pub raised : y.level ≡ suc x.level
  pub free : suc F.level < bound_level
  pub nodes : limit_nodes limits ≡ limited_nodes ys
  pub close : ClosesGroup a d limits (bind_nodes (names_closed ys))
  pub group : (I : Frame) → Surrounds D I y G env scope → GroupToClose D env I scope asks y G (sight a) xs ys

-- Where faults are reported, a call types a group, whatever the frame, the names in scope and the letters around it.
abbrev pub TypesToClose : (a b : Parts) → List Entry → Asks → List Binding → List ToClose → Type 0
TypesToClose a b env asks xs ys = is_aloud a.telling ≡ true → (F : Frame) (scope : Scope) (G : Letters) → Surrounds as_declared F (sight a) G env scope → GroupToClose as_declared env F scope asks (sight a) G (sight b) xs ys
