-- The row of a `let` by its node, in the words of the calls that type and close its group.
use Rattle.std.specs.Prelude.{◌≡◌, ◌++◌, ℕ, List}
use Rattle.env_table.specs.declared.entries.Entry.{Entry}
use Rattle.typing_state.specs.declared.parts.Parts.{Parts}
use Rattle.binding_rows.specs.CaseScopes.{names_added}
use Rattle.binding_rows.specs.Groups.{TypedBinding}
use Rattle.binding_rows.specs.Closing.{Limit, limit_nodes, ClosesGroup, LimitsNodes, GeneralisesAll}
use Rattle.binding_rows.specs.Lets.{ToClose, bind_nodes, names_closed, limited_nodes}

-- a binding that is to be closed, as it was typed
abbrev pub typed_as : ToClose → TypedBinding
typed_as y = record { names = y.names; right = y.right }

-- a group of bindings is closed
pub record ClosesBindings (a d : Parts) (ys : List ToClose) : Type 0 where
  pub limits : List Limit
  pub nodes : limit_nodes limits ≡ limited_nodes ys
  pub close : ClosesGroup a d limits (bind_nodes (names_closed ys))

-- what the first of some bindings hold is limited, and some are left
pub record LimitsFirst (a b : Parts) (level : ℕ) (all left : List ToClose) : Type 0 where
  pub done : List ℕ
  pub limits : LimitsNodes a b level done
  pub splits : limited_nodes all ≡ done ++ limited_nodes left

-- the names of the first of some bindings are generalised and in scope, and some are left
pub record GeneralisesFirst (a b : Parts) (env within : List Entry) (all left : List ToClose) : Type 0 where
  pub done : List ℕ
  pub generalises : GeneralisesAll a b done
  pub splits : bind_nodes (names_closed all) ≡ done ++ bind_nodes (names_closed left)
  pub names : names_added (names_closed all) env ≡ names_added (names_closed left) within
