-- What the `let` of an item is made of.
use Rattle.std.specs.Prelude.{◌≡◌, ℕ, suc, Bool, false, List, [], ◌∷◌, ◌++◌, None}
use Rattle.token_model.specs.Kinds.{Tok}
use Rattle.type_model.specs.Types.{Typ}
use Rattle.signature_model.specs.Declarations.{Name}
use Rattle.signature_model.specs.Entries.{Environment}
use Rattle.typing_model.specs.Contexts.{Choice, Bound, in_item, entries_with, generalised_in}
use Rattle.typing_model.specs.Parts.{Binding}
use Rattle.typing_model.specs.Bindings.{bindings_ask, names_of_group}
use Rattle.typing_model.specs.Items.{variables_written, names_made}
use Rattle.env_table.specs.declared.entries.Entry.{Entry}
use Rattle.typing_state.specs.declared.parts.Parts.{Parts}
use Rattle.typing_conditions.specs.Sights.{Sight, Letters}
use Rattle.typing_conditions.specs.Frames.{Frame}
use Rattle.typing_conditions.specs.Steps.{OnlyLevel}
use Rattle.typing_conditions.specs.Carrying.{Asks, Scope, HoldsWritten}
use Rattle.typing_conditions.specs.Surroundings.{Declared, Surrounds, context_of}
use Rattle.typing_steps.specs.States.{sight}
use Rattle.typing_steps.specs.Constants.{HasConstants}
use Rattle.binding_rows.specs.Closing.{Limit, limit_nodes, ClosesGroup}
use Rattle.binding_rows.specs.Lets.{ToClose, bind_nodes, names_closed, limited_nodes, held_at, GroupToClose}
use Rattle.binding_rows.specs.Outside.{Outside}

-- the scope inside an item's `let`, whose node has this number: the type variables among its tokens are its own
abbrev pub item_scope : ℕ → List Tok → (Choice → Environment) → Scope
item_scope n ts E = record { env = E; variables = in_item n; held = variables_written ts; own = λ m. false }

-- what a group asks as an item, inside it: that of any group, and that the types of its names were made before it
abbrev pub group_asks : ℕ → Bool → List Binding → Asks
group_asks n is_rec xs c = bindings_ask c is_rec xs ++ names_made n c (names_of_group xs)

-- the environment after an item: its names with their types generalised in the environment before, but for what is held
abbrev pub env_after : (Choice → Environment) → List Binding → List ToClose → Choice → Environment
env_after E xs ys ch = entries_with (generalised_in (E ch) (held_at ch xs ys)) (context_of ch) (names_of_group xs) (E ch)

-- the type of a name doesn't depend on what is chosen for type variables that are written
abbrev pub NeverWritten : Bound → Type 0
NeverWritten b = (ch : Choice) (w : ℕ → Name → Typ) → b.has_type (context_of (record ch { written = w })) ≡ b.has_type (context_of ch)

-- the same of the names of bindings
abbrev pub NoneWritten : List Bound → Type 0
NoneWritten [] = Unit {0}
NoneWritten (b ∷ bs) = NeverWritten b × NoneWritten bs

-- A group was typed from y to s, one level further in than x, where the item starts, and then closed up to d; its limits are those of the right sides that aren't generalised
-- and of the names that they bind. No type variable is written before, and those that are written are among the item's.
pub record ItemGroup (D : Declared) (n : ℕ) (ts : List Tok) (E : Choice → Environment) (asks : Asks) (x : Parts) (y : Sight) (G : Letters) (s d : Parts) (env : List Entry) (xs : List Binding) (ys : List ToClose) (limits : List Limit) : Type 0 where
  pub at : Outside D (sight x) G env E
  pub constants : HasConstants x
  pub cleared : (z : Name) → (sight x).written z ≡ None
  pub only : OnlyLevel (sight x) y
  pub raised : y.level ≡ suc x.level
  pub nodes : limit_nodes limits ≡ limited_nodes ys
  pub close : ClosesGroup s d limits (bind_nodes (names_closed ys))
  pub group : (I : Frame) → Surrounds D I y G env (item_scope n ts E) → GroupToClose D env I (item_scope n ts E) asks y G (sight s) xs ys
  pub named : HoldsWritten (item_scope n ts E) (sight d)
