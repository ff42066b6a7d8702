-- What comes of A p: its argument, with the demand that it has the declared type, and the constructor with it.
use Rattle.std.specs.Prelude.{◌≡◌, ℕ, true, List, [], ◌∷◌, ◌++◌, Option, Some, None}
use Rattle.tree_model.specs.Trees.{Place}
use Rattle.type_model.specs.Types.{Typ}
use Rattle.signature_model.specs.Declarations.{Name}
use Rattle.typing_model.specs.Demands.{equal}
use Rattle.typing_model.specs.Contexts.{Choice, ask, type_at}
use Rattle.typing_model.specs.Parts.{Written, Pattern}
use Rattle.typing_model.specs.Patterns.{papp, argument_has, applied_constructor}
use Rattle.env_table.specs.declared.entries.Entry.{Entry}
use Rattle.typing_state.specs.declared.parts.Parts.{Parts}
use Rattle.typing_conditions.specs.Sights.{Sight, Letters}
use Rattle.typing_conditions.specs.Frames.{Frame}
use Rattle.typing_conditions.specs.Meanings.{Means}
use Rattle.typing_conditions.specs.Carrying.{Asks, Scope, Carried}
use Rattle.typing_conditions.specs.Hiding.{AreDone}
use Rattle.typing_conditions.specs.Surroundings.{Surrounds}
use Rattle.typing_steps.specs.States.{is_aloud, sight}
use Rattle.typing_steps.specs.Typing.{as_declared}
use Rattle.pattern_rows.specs.Bounds.{Bind, AllBound, Adds}
use Rattle.pattern_rows.specs.Contracts.{MatchesRow}

-- A pattern was matched, which opens these letters, and something was asked of it. Its names stand for those that it binds, whatever other letters are open.
pub record PatternAsked (env : List Entry) (F : Frame) (scope : Scope) (a : Sight) (G : Letters) (b : Sight) (p : Pattern) (seen : List Name) (asked : Asks) (added : List Bind) (opens : Letters) : Type 0 where
  pub carried : Carried F scope (λ c. p.matched c seen ++ asked c) a G b (opens ++ G)
  pub done : AreDone b carried.hidden opens
  pub names : (H : Letters) → Surrounds as_declared F a H env scope → AllBound F b (opens ++ H) p.names added

-- a pattern, which opens these letters, and the demand that it has a type, where one is wanted
abbrev pub MatchesAsIf : (a b : Parts) → List Entry → Pattern → List Name → List Bind → Letters → (wanted : Option ℕ) → Type 0
MatchesAsIf a b env p seen added opens None = is_aloud a.telling ≡ true → (F : Frame) (scope : Scope) (G : Letters) → Surrounds as_declared F (sight a) G env scope → PatternAsked env F scope (sight a) G (sight b) p seen (λ c. []) added opens
MatchesAsIf a b env p seen added opens (Some wanted) = is_aloud a.telling ≡ true → (F : Frame) (scope : Scope) (G : Letters) (n k : ℕ) (t : Choice → Typ) → scope.own n ≡ true → Surrounds as_declared F (sight a) G env scope → Means F (sight a) G t wanted →
    PatternAsked env F scope (sight a) G (sight b) p seen (λ c. ask n k p.at (equal (type_at c p.node) (t c.chosen))) added opens

-- the same with the names that are added
pub record MatchesWanted (a b : Parts) (env : List Entry) (p : Pattern) (names names' : List Bind) (seen seen' : List Name) (wanted : Option ℕ) : Type 0 where
  pub added : List Bind
  pub adds : Adds names names' added seen seen' p.mentions
  pub opens : Letters
  pub typed : MatchesAsIf a b env p seen added opens wanted

-- A p, whose constructor has this path and this node
abbrev pub with_constructor : ℕ → Place → Written → (head : ℕ) → Pattern → Pattern
with_constructor n at path head p = record {
  node = n;
  at = at;
  names = p.names;
  mentions = p.mentions;
  matched = λ c seen. applied_constructor c n path head (n ∷ head ∷ []) (p.matched c seen) (argument_has n 2 p.at (type_at c p.node));
  constructor = None;
}

-- a head with its argument, whose own node isn't recorded yet, and the names that are added
pub record MatchesApplied (a b : Parts) (env : List Entry) (head p : Pattern) (names names' : List Bind) (seen seen' : List Name) (m : ℕ) : Type 0 where
  pub added : List Bind
  pub adds : Adds names names' added seen seen' p.mentions
  pub typed : (n : ℕ) (at : Place) → MatchesRow a b env (papp n at head p) seen added n m

-- the same of each head that is a constructor of this path and has this node
abbrev pub AppliesConstructor : (a b : Parts) → List Entry → (head : ℕ) → Written → Pattern → (names names' : List Bind) (seen seen' : List Name) → ℕ → Type 0
AppliesConstructor a b env head path p names names' seen seen' m = (h : Pattern) → h.node ≡ head → h.constructor ≡ Some path → MatchesApplied a b env h p names names' seen seen' m
