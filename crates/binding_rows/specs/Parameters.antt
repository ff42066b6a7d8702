-- What the functions of parameters carry.
use Rattle.std.specs.Prelude.{◌≡◌, ℕ, true, List, [], ◌∷◌, ◌++◌}
use Rattle.type_model.specs.Types.{Typ, Arrow}
use Rattle.typing_model.specs.Contexts.{Choice, Context, Bound}
use Rattle.typing_model.specs.Parts.{Pattern}
use Rattle.typing_model.specs.Patterns.{all_names}
use Rattle.typing_model.specs.Bindings.{matched_apart}
use Rattle.env_table.specs.declared.entries.Entry.{Entry}
use Rattle.typing_state.specs.declared.parts.Parts.{Parts}
use Rattle.typing_conditions.specs.Sights.{Sight, Letters}
use Rattle.typing_conditions.specs.Frames.{Frame}
use Rattle.typing_conditions.specs.Meanings.{Means, AllMean}
use Rattle.typing_conditions.specs.Carrying.{Asks, Scope, Carried, CarriedTo}
use Rattle.typing_conditions.specs.Hiding.{AreDone}
use Rattle.typing_conditions.specs.Surroundings.{Surrounds}
use Rattle.typing_steps.specs.States.{is_aloud, sight}
use Rattle.typing_steps.specs.Typing.{as_declared}
use Rattle.pattern_rows.specs.Bounds.{Bind, AllBound}
use Rattle.pattern_rows.specs.Contracts.{types_at}
use Rattle.binding_rows.specs.CaseScopes.{names_added}

-- Parameters, each a pattern with names of its own: what they ask is carried, with the letters that they open, these nodes have their types, and these names stand
-- for those that they bind.
pub record ParametersAll (F : Frame) (scope : Scope) (a : Sight) (G : Letters) (b : Sight) (ps : List Pattern) (added : List Bind) (ms : List ℕ) : Type 0 where
  pub own : Letters
  pub carried : Carried F scope (λ c. matched_apart c ps) a G b (own ++ G)
  pub done : AreDone b carried.hidden own
  pub means : AllMean F b (own ++ G) (types_at ps) ms
  pub names : AllBound F b (own ++ G) (all_names ps) added

-- the same of a call, where faults are reported
abbrev pub MatchesApart : (a b : Parts) → List Entry → List Pattern → List Bind → List ℕ → Type 0
MatchesApart a b env ps added ms = is_aloud a.telling ≡ true → (F : Frame) (scope : Scope) (G : Letters) → Surrounds as_declared F (sight a) G env scope → ParametersAll F scope (sight a) G (sight b) ps added ms

-- the same with the names in scope after them
pub record TypesParameters (a b : Parts) (env inner : List Entry) (ps : List Pattern) (ms : List ℕ) : Type 0 where
  pub added : List Bind
  pub scope : inner ≡ names_added added env
  pub typed : MatchesApart a b env ps added ms

-- the first of some parameters, and some are left
pub record ParametersFirst (F : Frame) (scope : Scope) (a : Sight) (G : Letters) (b : Sight) (all left : List Pattern) (added : List Bind) (ms : List ℕ) : Type 0 where
  pub done : Asks
  pub types : List (Choice → Typ)
  pub bounds : List Bound
  pub own : Letters
  pub carried : Carried F scope done a G b (own ++ G)
  pub rows_done : AreDone b carried.hidden own
  pub means : AllMean F b (own ++ G) types ms
  pub names : AllBound F b (own ++ G) bounds added
  pub asks : (c : Context) → matched_apart c all ≡ done c ++ matched_apart c left
  pub gives : types_at all ≡ types ++ types_at left
  pub binds : all_names all ≡ bounds ++ all_names left

-- the same of a call
abbrev pub MatchesApartFirst : (a b : Parts) → List Entry → (all left : List Pattern) → List Bind → List ℕ → Type 0
MatchesApartFirst a b env all left added ms = is_aloud a.telling ≡ true → (F : Frame) (scope : Scope) (G : Letters) → Surrounds as_declared F (sight a) G env scope → ParametersFirst F scope (sight a) G (sight b) all left added ms

-- the same with the names in scope after them, in a loop
pub record ParametersSoFar (a b : Parts) (env inner : List Entry) (all left : List Pattern) (ms : List ℕ) : Type 0 where
  pub added : List Bind
  pub scope : inner ≡ names_added added env
  pub typed : MatchesApartFirst a b env all left added ms

-- from types by a choice to a type
abbrev pub arrows_by : List (Choice → Typ) → (Choice → Typ) → Choice → Typ
arrows_by [] to ch = to ch
arrows_by (t ∷ ts) to ch = Arrow (t ch) (arrows_by ts to ch)

-- a new node is the arrow from the types of these nodes to the type of another
abbrev pub MakesArrows : (a b : Parts) → List ℕ → (to m : ℕ) → Type 0
MakesArrows a b ms to m = (F : Frame) (scope : Scope) (G : Letters) (types : List (Choice → Typ)) (t : Choice → Typ) → AllMean F (sight a) G types ms → Means F (sight a) G t to → CarriedTo F scope (λ c. []) (sight a) G (sight b) G (arrows_by types t) m
