-- What makes two roots one, as far as they alone tell.
use Rattle.std.specs.Prelude.{◌≡◌, ◌≢◌, ℕ, ◌^◌, [], ◌∷◌, length, Some}
use Rattle.type_nodes.specs.Nodes.{Node, Var, Rigid, Link, Arrow, Tuple, Con, bound_level}
use Rattle.type_nodes.specs.Views.{Shows}
use Rattle.type_nodes.specs.declared.view.View.{View}
use Rattle.level_unify.specs.declared.plan.Plan.{Plan}
use Rattle.level_unify.specs.declared.plan.Plan.TheVariants.{BindLeft, BindRight, LinkParts, Clash}

-- a node that is a variable and isn't bound
abbrev pub IsFreeVar : Node → Type 0
IsFreeVar (Var level scope) = level ≢ bound_level
IsFreeVar Rigid = ⊥
IsFreeVar (Link m) = ⊥
IsFreeVar (Arrow a b) = ⊥
IsFreeVar (Tuple ms) = ⊥
IsFreeVar (Con path name ms) = ⊥

-- two composites with one head and as many parts
abbrev pub SameHead : Node → Node → Type 0
SameHead (Arrow a b) (Arrow x y) = Unit {0}
SameHead (Tuple ms) (Tuple ns) = length ms ≡ length ns
SameHead (Con path name ms) (Con other name' ns) = (path ≡ other) × (length ms ≡ length ns)
SameHead c d = ⊥

-- not a constructor that models a rigid variable
abbrev pub IsOrdinary : Node → Type 0
IsOrdinary (Var level scope) = Unit {0}
IsOrdinary Rigid = Unit {0}
IsOrdinary (Link m) = Unit {0}
IsOrdinary (Arrow a b) = Unit {0}
IsOrdinary (Tuple ms) = Unit {0}
IsOrdinary (Con path name ms) = (j : ℕ) → path ≢ 2 ^ 64 ∷ j ∷ []

-- what a plan says of the two nodes
abbrev pub Plans : Node → Node → Plan → Type 0
Plans c d BindLeft = IsFreeVar c
Plans c d BindRight = IsFreeVar d
Plans c d LinkParts = SameHead c d
Plans c d Clash = (IsFreeVar c → ⊥) × (IsFreeVar d → ⊥) × (SameHead c d → ⊥) × IsOrdinary c × IsOrdinary d

-- a view of a node with this at its root
abbrev pub Views : View → Node → Type 0
Views view c = (r : ℕ) × Shows view r (Some c)
