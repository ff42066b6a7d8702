-- The sides of or-patterns, as the code has them, and what is carried of their comparison.
use Rattle.std.specs.Prelude.{◌≡◌, ℕ, true, List, [], ◌∷◌, ◌++◌, length, Option, Some, None, if◌then◌else◌}
use Rattle.tree_model.specs.Trees.{Place}
use Rattle.signature_model.specs.Declarations.{Name}
use Rattle.signature_model.specs.Components.{same_name}
use Rattle.typing_model.specs.Demands.{Demand, equal}
use Rattle.typing_model.specs.Contexts.{Context, Bound}
use Rattle.typing_model.specs.Parts.{Pattern}
use Rattle.typing_model.specs.Patterns.{ask_all, matched_each, find_bound, name_apart, sides_differ, common_names, side_beside, sides_beside}
use Rattle.env_table.specs.declared.entries.Entry.{Entry}
use Rattle.typing_state.specs.declared.parts.Parts.{Parts}
use Rattle.typing_conditions.specs.Sights.{Sight, Letters}
use Rattle.typing_conditions.specs.Frames.{Frame, Reaches}
use Rattle.typing_conditions.specs.Meanings.{Means}
use Rattle.typing_conditions.specs.Carrying.{SeesScope, Asks, Scope, Carried}
use Rattle.typing_conditions.specs.Hiding.{AreDone}
use Rattle.typing_conditions.specs.Surroundings.{Surrounds}
use Rattle.typing_steps.specs.States.{is_aloud, sight}
use Rattle.typing_steps.specs.Typing.{as_declared}
use Rattle.pattern_rows.specs.Bounds.{Bind, IsBound, AllBound}

-- a side of the code: the node of its type, and the names that it binds
pub record Side : Type 0 where
  pub node : ℕ
  pub names : List Bind

-- it stands for a pattern
pub record IsSide (F : Frame) (b : Sight) (G : Letters) (p : Pattern) (side : Side) : Type 0 where
  pub means : Means F b G (λ ch. ch.type_at p.node) side.node
  pub bound : AllBound F b G p.names side.names

-- sides stand for patterns, one by one
pub data AllSides (F : Frame) (b : Sight) (G : Letters) : List Pattern → List Side → Type 0 where
  no_side : AllSides F b G [] []
  one_more : {p : Pattern} {ps : List Pattern} {x : Side} {xs : List Side} → IsSide F b G p x → AllSides F b G ps xs → AllSides F b G (p ∷ ps) (x ∷ xs)

-- patterns beside one another, each behind the names seen before all of them, with the letters that they open
pub record SidesAll (F : Frame) (scope : Scope) (a : Sight) (G : Letters) (b : Sight) (ps : List Pattern) (seen : List Name) (sides : List Side) (opens : Letters) : Type 0 where
  pub carried : Carried F scope (λ c. matched_each c seen ps) a G b (opens ++ G)
  pub done : AreDone b carried.hidden opens
  pub all : AllSides F b (opens ++ G) ps sides

-- the same of a call
pub record MatchesSides (a b : Parts) (env : List Entry) (ps : List Pattern) (seen : List Name) (sides : List Side) : Type 0 where
  pub opens : Letters
  pub typed : is_aloud a.telling ≡ true → (F : Frame) (scope : Scope) (G : Letters) → Surrounds as_declared F (sight a) G env scope → SidesAll F scope (sight a) G (sight b) ps seen sides opens

-- the first of them, and some are left
pub record SidesFirst (F : Frame) (scope : Scope) (a : Sight) (G : Letters) (b : Sight) (ps left : List Pattern) (seen : List Name) (sides : List Side) (opens : Letters) : Type 0 where
  pub done : Asks
  pub front : List Pattern
  pub carried : Carried F scope done a G b (opens ++ G)
  pub rows_done : AreDone b carried.hidden opens
  pub all : AllSides F b (opens ++ G) front sides
  pub asks : (c : Context) → matched_each c seen ps ≡ done c ++ matched_each c seen left
  pub split : ps ≡ front ++ left

-- the same in a loop
pub record MatchesSidesFirst (a b : Parts) (env : List Entry) (ps left : List Pattern) (seen : List Name) (sides : List Side) : Type 0 where
  pub opens : Letters
  pub typed : is_aloud a.telling ≡ true → (F : Frame) (scope : Scope) (G : Letters) → Surrounds as_declared F (sight a) G env scope → SidesFirst F scope (sight a) G (sight b) ps left seen sides opens

-- demands of a row, each at its place, from the number k on: in each context there are so many
pub record AllAsked (F : Frame) (scope : Scope) (a : Sight) (G : Letters) (b : Sight) (n k : ℕ) (demands : Context → List (Place × Demand)) : Type 0 where
  pub count : ℕ
  pub counts : (c : Context) → length (demands c) ≡ count
  pub carried : Carried F scope (λ c. ask_all n k (demands c)) a G b G

-- the name among those that the code binds
abbrev pub find_bind : Name → List Bind → Option Bind
find_bind n [] = None
find_bind n (b ∷ bs) = if same_name n b.token.name then Some b else find_bind n bs

-- the first of these names that isn't among the others
abbrev pub first_apart_here : List Bind → List Bind → Option Name
first_apart_here [] others = None
first_apart_here (b ∷ bs) others = elim (find_bind b.token.name others) [ None ↦ Some b.token.name | Some o ↦ first_apart_here bs others ]

-- the first name that one of two sides has and the other hasn't
abbrev pub name_apart_here : List Bind → List Bind → Option Name
name_apart_here xs ys = elim (first_apart_here xs ys) [ None ↦ first_apart_here ys xs | Some n ↦ Some n ]

-- what is asked of one name of the first side
abbrev pub name_asks : Context → Bound → List Bound → List (Place × Demand)
name_asks c b others = elim (find_bound b.name others) [ None ↦ [] | Some o ↦ (o.place, equal (o.has_type c) (b.has_type c)) ∷ [] ]

-- the demand that no name stands on one of two sides alone
abbrev pub AsksSides : (a b : Parts) → Place → (first later : List Bind) → Type 0
AsksSides a b at first later = is_aloud a.telling ≡ true → (F : Frame) (scope : Scope) (G : Letters) (n k : ℕ) (xs ys : List Bound) → AllBound F (sight a) G xs first → AllBound F (sight a) G ys later →
    AllAsked F scope (sight a) G (sight b) n k (λ c. sides_differ at (name_apart xs ys))

-- the demand that a name of the first side has its type on the later one
abbrev pub AsksName : (a b : Parts) → List Entry → Bind → List Bind → Type 0
AsksName a b env name later = is_aloud a.telling ≡ true → (F : Frame) (scope : Scope) (G : Letters) (n k : ℕ) (x : Bound) (ys : List Bound) → scope.own n ≡ true → SeesScope F scope (sight a) G env → IsBound F (sight a) G x name → AllBound F (sight a) G ys later →
    AllAsked F scope (sight a) G (sight b) n k (λ c. name_asks c x ys)

-- the same of all names of the first side
abbrev pub AsksNames : (a b : Parts) → List Entry → (first later : List Bind) → Type 0
AsksNames a b env first later = is_aloud a.telling ≡ true → (F : Frame) (scope : Scope) (G : Letters) (n k : ℕ) (xs ys : List Bound) → scope.own n ≡ true → Reaches F (sight a) → SeesScope F scope (sight a) G env → AllBound F (sight a) G xs first → AllBound F (sight a) G ys later →
    AllAsked F scope (sight a) G (sight b) n k (λ c. common_names c xs ys)

-- the first of them were asked, and some are left
pub record NamesFirst (F : Frame) (scope : Scope) (a : Sight) (G : Letters) (b : Sight) (n k : ℕ) (xs ys : List Bound) (left : List Bind) : Type 0 where
  pub front : Context → List (Place × Demand)
  pub rest : List Bound
  pub asked : AllAsked F scope a G b n k front
  pub names : AllBound F b G rest left
  pub asks : (c : Context) → common_names c xs ys ≡ front c ++ common_names c rest ys

-- the same in a loop
abbrev pub AsksNamesFirst : (a b : Parts) → List Entry → (first left later : List Bind) → Type 0
AsksNamesFirst a b env first left later = is_aloud a.telling ≡ true → (F : Frame) (scope : Scope) (G : Letters) (n k : ℕ) (xs ys : List Bound) → scope.own n ≡ true → Reaches F (sight a) → SeesScope F scope (sight a) G env → AllBound F (sight a) G xs first → AllBound F (sight a) G ys later →
    NamesFirst F scope (sight a) G (sight b) n k xs ys left

-- what is asked of a later side beside the first
abbrev pub AsksBeside : (a b : Parts) → List Entry → (first side : Side) → Place → Type 0
AsksBeside a b env first side at = is_aloud a.telling ≡ true → (F : Frame) (scope : Scope) (G : Letters) (n k : ℕ) (p q : Pattern) → scope.own n ≡ true → SeesScope F scope (sight a) G env → IsSide F (sight a) G p first → IsSide F (sight a) G q side → q.at ≡ at → AllAsked F scope (sight a) G (sight b) n k (λ c. side_beside c p q)

-- what is asked of all later sides
abbrev pub AsksLater : (a b : Parts) → List Entry → Side → List Side → List Pattern → Type 0
AsksLater a b env first sides ps = is_aloud a.telling ≡ true → (F : Frame) (scope : Scope) (G : Letters) (n k : ℕ) (p : Pattern) → scope.own n ≡ true → SeesScope F scope (sight a) G env → IsSide F (sight a) G p first → AllSides F (sight a) G ps sides → AllAsked F scope (sight a) G (sight b) n k (λ c. sides_beside c p ps)

-- the first of them were asked, and some are left
pub record LaterFirst (F : Frame) (scope : Scope) (a : Sight) (G : Letters) (b : Sight) (n k : ℕ) (p : Pattern) (ps rest : List Pattern) (left : List Side) : Type 0 where
  pub front : Context → List (Place × Demand)
  pub asked : AllAsked F scope a G b n k front
  pub all : AllSides F b G rest left
  pub asks : (c : Context) → sides_beside c p ps ≡ front c ++ sides_beside c p rest

-- the same in a loop
abbrev pub AsksLaterFirst : (a b : Parts) → List Entry → Side → (sides left : List Side) → (ps rest : List Pattern) → Type 0
AsksLaterFirst a b env first sides left ps rest = is_aloud a.telling ≡ true → (F : Frame) (scope : Scope) (G : Letters) (n k : ℕ) (p : Pattern) → scope.own n ≡ true → SeesScope F scope (sight a) G env → IsSide F (sight a) G p first → AllSides F (sight a) G ps sides →
    LaterFirst F scope (sight a) G (sight b) n k p ps rest left
