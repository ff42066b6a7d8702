-- What the functions of a row carry, each of its own part of the row.
use Rattle.std.specs.Prelude.{◌≡◌, ℕ, ◌+◌, Bool, true, List, [], ◌∷◌, ◌++◌, map, slice_get, Option, Some, None}
use Rattle.tree_model.specs.Rows.{Row}
use Rattle.tree_model.specs.Trees.{Place}
use Rattle.type_model.specs.Types.{Typ}
use Rattle.typing_model.specs.Demands.{Condition}
use Rattle.typing_model.specs.Contexts.{Choice, Context}
use Rattle.typing_model.specs.Names.{then_by}
use Rattle.typing_model.specs.Parts.{Expression, Written}
use Rattle.typing_model.specs.BuiltIns.{bool_type}
use Rattle.typing_model.specs.Patterns.{ask_all, behind_first, built_by}
use Rattle.typing_model.specs.Expressions.{typed_all, has_type, each_has, is_some, constructor_applied}
use Rattle.env_table.specs.declared.entries.Entry.{Entry}
use Rattle.typing_state.specs.declared.parts.Parts.{Parts}
use Rattle.typing_conditions.specs.Sights.{Sight, Key, letter, Letters, IsKnownFor}
use Rattle.typing_conditions.specs.Frames.{Frame, Reaches}
use Rattle.typing_conditions.specs.Judging.{AreKept}
use Rattle.typing_conditions.specs.Meanings.{Means, AllMean}
use Rattle.typing_conditions.specs.Carrying.{Asks, Scope, Carried, CarriedTo}
use Rattle.typing_conditions.specs.Hiding.{AreOfRow, AreBelow, AreDone}
use Rattle.typing_conditions.specs.Surroundings.{Surrounds}
use Rattle.typing_steps.specs.States.{is_aloud, sight}
use Rattle.typing_steps.specs.Rows.{MakesTwo, AsksArrow, argument_asks, given_from, result_of}
use Rattle.typing_steps.specs.Typing.{as_declared, RowCarried, TypesAny, TypesRow}
use Rattle.typing_steps.specs.Building.{InEach}
use Rattle.typing_rows.specs.Asked.{behind_asks, parts_ask, has_if, head_asks, later_asks}

-- the types of expressions' nodes
abbrev pub types_at : List Expression → List (Choice → Typ)
types_at es = map (λ e ch. ch.type_at e.node) es

-- expressions, of which nothing is asked
abbrev pub TypesEach : (a b : Parts) → List Entry → List Expression → Type 0
TypesEach a b env es = is_aloud a.telling ≡ true → (F : Frame) (scope : Scope) (G : Letters) → Surrounds as_declared F (sight a) G env scope → Carried F scope (λ c. typed_all c es) (sight a) G (sight b) G

-- the first of some expressions were typed, and some are left
pub record EachFirst (F : Frame) (scope : Scope) (a : Sight) (G : Letters) (b : Sight) (all left : List Expression) : Type 0 where
  pub done : Asks
  pub carried : Carried F scope done a G b G
  pub asks : (c : Context) → typed_all c all ≡ done c ++ typed_all c left

-- the same in a loop
abbrev pub TypesFirst : (a b : Parts) → List Entry → (all left : List Expression) → Type 0
TypesFirst a b env all left = is_aloud a.telling ≡ true → (F : Frame) (scope : Scope) (G : Letters) → Surrounds as_declared F (sight a) G env scope → EachFirst F scope (sight a) G (sight b) all left

-- two new variables, for any keys
abbrev pub MakesBoth : (a b : Parts) → (m n : ℕ) → Type 0
MakesBoth a b m n = (F : Frame) (scope : Scope) (G : Letters) (first second : Key) → ((t : Typ) → IsKnownFor first t) → ((t : Typ) → IsKnownFor second t) → Reaches F (sight a) → MakesTwo F scope (sight a) G (sight b) first second m n

-- the demand that a head is an arrow
abbrev pub HeadIsArrow : (a b : Parts) → List Entry → Place → (head from to : ℕ) → Type 0
HeadIsArrow a b env at head from to = is_aloud a.telling ≡ true → (F : Frame) (scope : Scope) (G : Letters) (n k j : ℕ) (h : Choice → Typ) → scope.own n ≡ true → Surrounds as_declared F (sight a) G env scope → Means F (sight a) G h head →
    AsksArrow F scope (sight a) G (sight b) h n k j at from to

-- an expression that has a type
abbrev pub TypesAs : (a b : Parts) → List Entry → Expression → (wanted : ℕ) → Type 0
TypesAs a b env e wanted = is_aloud a.telling ≡ true → (F : Frame) (scope : Scope) (G : Letters) (n k : ℕ) (t : Choice → Typ) → scope.own n ≡ true → Surrounds as_declared F (sight a) G env scope → Means F (sight a) G t wanted →
    Carried F scope (λ c. e.typed c ++ has_type c n k e (t c.chosen)) (sight a) G (sight b) G

-- of a head's arguments all were typed; their letters belong to the row alone, with others of places before
pub record GivenAll (F : Frame) (scope : Scope) (a : Sight) (G : Letters) (b : Sight) (head : Choice → Typ) (n k j : ℕ) (at : Place) (es : List Expression) (m : ℕ) : Type 0 where
  pub own : Letters
  pub of_row : (mine : Letters) → AreBelow n j mine → AreOfRow n (own ++ mine)
  pub typed : CarriedTo F scope (λ c. given_from c n k j at (head c.chosen) es) a G b (own ++ G) (λ ch. result_of ch n j (head ch) es) m

-- the first ones were, and some are left
pub record GivenFirst (F : Frame) (scope : Scope) (a : Sight) (G : Letters) (b : Sight) (head : Choice → Typ) (n k j : ℕ) (at : Place) (all left : List Expression) (m : ℕ) : Type 0 where
  pub own : Letters
  pub k' : ℕ
  pub j' : ℕ
  pub below : (mine : Letters) → AreBelow n j mine → AreBelow n j' (own ++ mine)
  pub type : Choice → Typ
  pub done : Asks
  pub typed : CarriedTo F scope done a G b (own ++ G) type m
  pub asks : (c : Context) → given_from c n k j at (head c.chosen) all ≡ done c ++ given_from c n k' j' at (type c.chosen) left
  pub gives : (ch : Choice) → result_of ch n j (head ch) all ≡ result_of ch n j' (type ch) left

-- a head with arguments
abbrev pub TypesGiven : (a b : Parts) → List Entry → Place → List Expression → (head m : ℕ) → Type 0
TypesGiven a b env at es head m = is_aloud a.telling ≡ true → (F : Frame) (scope : Scope) (G : Letters) (n k j : ℕ) (h : Choice → Typ) → scope.own n ≡ true → Surrounds as_declared F (sight a) G env scope → Means F (sight a) G h head →
    GivenAll F scope (sight a) G (sight b) h n k j at es m

-- the same in a loop
abbrev pub TypesGivenFirst : (a b : Parts) → List Entry → Place → (all left : List Expression) → (head m : ℕ) → Type 0
TypesGivenFirst a b env at all left head m = is_aloud a.telling ≡ true → (F : Frame) (scope : Scope) (G : Letters) (n k j : ℕ) (h : Choice → Typ) → scope.own n ≡ true → Surrounds as_declared F (sight a) G env scope → Means F (sight a) G h head →
    GivenFirst F scope (sight a) G (sight b) h n k j at all left m

-- a head with one argument
abbrev pub TypesArgument : (a b : Parts) → List Entry → Place → Expression → (head to : ℕ) → Type 0
TypesArgument a b env at e head to = is_aloud a.telling ≡ true → (F : Frame) (scope : Scope) (G : Letters) (n k j : ℕ) (h : Choice → Typ) → scope.own n ≡ true → Surrounds as_declared F (sight a) G env scope → Means F (sight a) G h head →
    (from : ℕ) × CarriedTo F scope (λ c. argument_asks c n k j at (h c.chosen) e) (sight a) G (sight b) ((letter n (j + 1), to) ∷ (letter n j, from) ∷ G) (λ ch. ch.letter n (j + 1)) to

-- the parts of a row were typed: they have their nodes' types
pub record PartsAll (F : Frame) (scope : Scope) (a : Sight) (G : Letters) (b : Sight) (r : Row) (n : ℕ) (es : List Expression) (ms : List ℕ) : Type 0 where
  pub carried : Carried F scope (λ c. parts_ask r 0 c n es) a G b G
  pub means : AllMean F b G (types_at es) ms

-- the first ones were, and some are left
pub record PartsFirst (F : Frame) (scope : Scope) (a : Sight) (G : Letters) (b : Sight) (r : Row) (n i : ℕ) (all left : List Expression) (ms : List ℕ) : Type 0 where
  pub done : Asks
  pub types : List (Choice → Typ)
  pub carried : Carried F scope done a G b G
  pub means : AllMean F b G types ms
  pub asks : (c : Context) → parts_ask r 0 c n all ≡ done c ++ parts_ask r i c n left
  pub gives : types_at all ≡ types ++ types_at left

-- the parts of a row
abbrev pub TypesParts : (a b : Parts) → List Entry → Row → List Expression → List ℕ → Type 0
TypesParts a b env r es ms = is_aloud a.telling ≡ true → (F : Frame) (scope : Scope) (G : Letters) (n : ℕ) → scope.own n ≡ true → Surrounds as_declared F (sight a) G env scope → PartsAll F scope (sight a) G (sight b) r n es ms

-- the same in a loop
abbrev pub TypesPartsFirst : (a b : Parts) → List Entry → Row → (place : ℕ) → (all left : List Expression) → List ℕ → Type 0
TypesPartsFirst a b env r i all left ms = is_aloud a.telling ≡ true → (F : Frame) (scope : Scope) (G : Letters) (n : ℕ) → scope.own n ≡ true → Surrounds as_declared F (sight a) G env scope → PartsFirst F scope (sight a) G (sight b) r n i all left ms

-- one part, with what is asked of it
abbrev pub TypesPart : (a b : Parts) → List Entry → Row → (place : ℕ) → Expression → (m : ℕ) → Type 0
TypesPart a b env r i e m = is_aloud a.telling ≡ true → (F : Frame) (scope : Scope) (G : Letters) (n : ℕ) → scope.own n ≡ true → Surrounds as_declared F (sight a) G env scope →
    CarriedTo F scope (λ c. e.typed c ++ behind_asks r i c n e) (sight a) G (sight b) G (λ ch. ch.type_at e.node) m

-- what is asked of a part that was typed
abbrev pub AsksBehind : (a b : Parts) → List Entry → Row → (place : ℕ) → Expression → (m : ℕ) → Type 0
AsksBehind a b env r i e m = is_aloud a.telling ≡ true → (F : Frame) (scope : Scope) (G : Letters) (n : ℕ) → scope.own n ≡ true → Surrounds as_declared F (sight a) G env scope → Means F (sight a) G (λ ch. ch.type_at e.node) m →
    Carried F scope (λ c. behind_asks r i c n e) (sight a) G (sight b) G

-- the demand that an expression is a bool
abbrev pub AsksBool : (a b : Parts) → List Entry → Expression → (m : ℕ) → Type 0
AsksBool a b env e m = is_aloud a.telling ≡ true → (F : Frame) (scope : Scope) (G : Letters) (n : ℕ) → scope.own n ≡ true → Surrounds as_declared F (sight a) G env scope → Means F (sight a) G (λ ch. ch.type_at e.node) m →
    Carried F scope (λ c. has_type c n 0 e bool_type) (sight a) G (sight b) G

-- the demand that the part at a place has a type
abbrev pub AsksAt : (a b : Parts) → List Entry → List Expression → List ℕ → (place wanted : ℕ) → Type 0
AsksAt a b env es ms place wanted = is_aloud a.telling ≡ true → (F : Frame) (scope : Scope) (G : Letters) (n k : ℕ) (t : Choice → Typ) → scope.own n ≡ true → Surrounds as_declared F (sight a) G env scope → AllMean F (sight a) G (types_at es) ms → Means F (sight a) G t wanted →
    Carried F scope (λ c. has_if c n k (slice_get es place) (t c.chosen)) (sight a) G (sight b) G

-- the demand that each part after the first has a type
abbrev pub AsksLater : (a b : Parts) → List Entry → List Expression → List ℕ → (wanted : ℕ) → Type 0
AsksLater a b env es ms wanted = is_aloud a.telling ≡ true → (F : Frame) (scope : Scope) (G : Letters) (n : ℕ) (t : Choice → Typ) → scope.own n ≡ true → Surrounds as_declared F (sight a) G env scope → AllMean F (sight a) G (types_at es) ms → Means F (sight a) G t wanted →
    Carried F scope (λ c. ask_all n 0 (each_has c (t c.chosen) (behind_first es))) (sight a) G (sight b) G

-- the first of them were asked, and some are left
pub record LaterFirst (F : Frame) (scope : Scope) (a : Sight) (G : Letters) (b : Sight) (n : ℕ) (t : Choice → Typ) (all left : List Expression) : Type 0 where
  pub done : Asks
  pub k : ℕ
  pub carried : Carried F scope done a G b G
  pub asks : (c : Context) → ask_all n 0 (each_has c (t c.chosen) all) ≡ done c ++ ask_all n k (each_has c (t c.chosen) left)

-- the same in a loop
abbrev pub AsksLaterFirst : (a b : Parts) → List Entry → List Expression → List ℕ → (wanted : ℕ) → (all left : List Expression) → Type 0
AsksLaterFirst a b env es ms wanted all left = is_aloud a.telling ≡ true → (F : Frame) (scope : Scope) (G : Letters) (n : ℕ) (t : Choice → Typ) → scope.own n ≡ true → Surrounds as_declared F (sight a) G env scope → AllMean F (sight a) G (types_at es) ms →
    Means F (sight a) G t wanted → LaterFirst F scope (sight a) G (sight b) n t all left

-- the end of a row whose parts are typed
abbrev pub EndsRow : (a b : Parts) → List Entry → (Context → ℕ → List Condition) → List Expression → List ℕ → (m : ℕ) → Type 0
EndsRow a b env asks es ms m = is_aloud a.telling ≡ true → (F : Frame) (scope : Scope) (G : Letters) (n : ℕ) → scope.own n ≡ true → Surrounds as_declared F (sight a) G env scope → AllMean F (sight a) G (types_at es) ms →
    RowCarried F scope (λ c. asks c n) (sight a) G (sight b) n m

-- an expression, which has the type that may be wanted
abbrev pub TypesAsIf : (a b : Parts) → List Entry → Expression → (wanted : Option ℕ) → Type 0
TypesAsIf a b env e None = TypesEach a b env (e ∷ [])
TypesAsIf a b env e (Some wanted) = TypesAs a b env e wanted

-- What a constructor and its first argument ask is carried, the constructor's node is recorded, and in each context the definitions find it where it is known.
pub record HeadCarried (F : Frame) (scope : Scope) (a : Sight) (G : Letters) (b : Sight) (n head : ℕ) (p : Written) (known : Bool) (e : Expression) (m : ℕ) : Type 0 where
  pub own : Letters
  pub typed : CarriedTo F scope (λ c. head_asks c n p head e) a G b (own ++ G) (λ ch. ch.type_at head) m
  pub done : AreDone b typed.carried.hidden own
  pub found : InEach F scope a G (λ c. AreKept c.kept typed.carried.judged → is_some (then_by p.last (built_by c n p)) ≡ known)

-- a constructor with its first argument
abbrev pub TypesHead : (a b : Parts) → List Entry → (n head : ℕ) → Written → (known : Bool) → Expression → (m : ℕ) → Type 0
TypesHead a b env n head p known e m = is_aloud a.telling ≡ true → (F : Frame) (scope : Scope) (G : Letters) → scope.own n ≡ true → Surrounds as_declared F (sight a) G env scope → HeadCarried F scope (sight a) G (sight b) n head p known e m

-- the arguments of a constructor after the first one
abbrev pub TypesLater : (a b : Parts) → List Entry → (known : Bool) → Place → List Expression → (head m : ℕ) → Type 0
TypesLater a b env known at es head m = is_aloud a.telling ≡ true → (F : Frame) (scope : Scope) (G : Letters) (n : ℕ) (h : Choice → Typ) → scope.own n ≡ true → Surrounds as_declared F (sight a) G env scope → Means F (sight a) G h head →
    RowCarried F scope (λ c. later_asks known c n at (h c.chosen) es) (sight a) G (sight b) n m

-- the type of the whole where the constructor isn't known: with one argument the constructor's, with more any
abbrev pub EndsUnknown : (a b : Parts) → (later : List Expression) → (head m : ℕ) → Type 0
EndsUnknown a b [] head m = (b ≡ a) × (m ≡ head)
EndsUnknown a b (e ∷ es) head m = TypesAny a b m

-- a constructor with its arguments, of which there is at least one
abbrev pub TypesConstructed : (a b : Parts) → List Entry → (n : ℕ) → Written → (head : Expression) → List Expression → (m : ℕ) → Type 0
TypesConstructed a b env n p head [] m = Unit {0}
TypesConstructed a b env n p head (e ∷ es) m = TypesRow a b env (λ c. constructor_applied c n p head (e ∷ es)) n m
