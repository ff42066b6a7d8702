-- A type that is joined with a new variable.
use Rattle.std.proofs.Common.{◌≡◌, ℕ, subst, Result, Ok, Err}
use Rattle.std.specs.Prelude.{OnOk}
use Rattle.type_nodes.specs.Nodes.{Var}
use Rattle.type_nodes.specs.States.{State}
use Rattle.type_nodes.specs.Changes.{Makes}
use Rattle.typing_state.specs.Types.{level_for, JoinedIfNodes}

-- a variable is made, and joined with a type
pub limited_by : {A E : Type 0} (r : Result A E) (old mid new : State) (n level l scope ty : ℕ) → l ≡ level_for level → Makes old mid n (Var l scope) → OnOk r (JoinedIfNodes mid new n ty) →
    OnOk r ((x : State) × (x' : ℕ) × Makes old x x' (Var (level_for level) scope) × JoinedIfNodes x new x' ty)
limited_by (Ok a) old mid new n level l scope ty e made j = (mid, n, subst (λ k. Makes old mid n (Var k scope)) e made, j)
limited_by (Err a) old mid new n level l scope ty e made j = tt
