-- What the functions of bindings in order carry, without `rec` and with it.
use Rattle.std.specs.Prelude.{◌≡◌, ℕ, Bool, true, List, [], ◌∷◌, ◌++◌, Option, Some, None}
use Rattle.type_model.specs.Types.{Typ}
use Rattle.signature_model.specs.Declarations.{Name}
use Rattle.typing_model.specs.Demands.{Condition, equal}
use Rattle.typing_model.specs.Contexts.{Choice, Context, ask, type_at, tell}
use Rattle.typing_model.specs.Parts.{Pattern, Binding}
use Rattle.typing_model.specs.Bindings.{right_side, pattern_has, bound_in_turn, patterns_first, bindings_ask}
use Rattle.env_table.specs.declared.entries.Entry.{Entry}
use Rattle.typing_state.specs.declared.parts.Parts.{Parts}
use Rattle.typing_conditions.specs.Sights.{Sight, Letters}
use Rattle.typing_conditions.specs.Frames.{Frame}
use Rattle.typing_conditions.specs.Meanings.{Means}
use Rattle.typing_conditions.specs.Carrying.{SeesScope, Asks, Scope, Carried}
use Rattle.typing_conditions.specs.Hiding.{AreDone}
use Rattle.typing_conditions.specs.Surroundings.{Surrounds}
use Rattle.typing_steps.specs.States.{is_aloud, sight}
use Rattle.typing_steps.specs.Typing.{as_declared}
use Rattle.pattern_rows.specs.Bounds.{Bind, AllBound}
use Rattle.binding_rows.specs.Rights.{whole_by}

-- a binding as the code has typed it: the names that it binds, and the node of its right side
pub record TypedBinding : Type 0 where
  pub names : List Bind
  pub right : ℕ

-- it stands for one of the definitions
pub record IsTyped (F : Frame) (b : Sight) (G : Letters) (x : Binding) (y : TypedBinding) : Type 0 where
  pub names : AllBound F b G x.pattern.names y.names
  pub right : Means F b G (λ ch. ch.type_at x.body.node) y.right

-- typed bindings stand for others, one by one and in order
pub data AllTyped (F : Frame) (b : Sight) (G : Letters) : List Binding → List TypedBinding → Type 0 where
  none_typed : AllTyped F b G [] []
  one_typed : {x : Binding} {xs : List Binding} {y : TypedBinding} {ys : List TypedBinding} → IsTyped F b G x y → AllTyped F b G xs ys → AllTyped F b G (x ∷ xs) (y ∷ ys)

-- the names of typed bindings
abbrev pub names_typed : List TypedBinding → List Bind
names_typed [] = []
names_typed (y ∷ ys) = y.names ++ names_typed ys

-- a binding whose pattern is typed: the node of the pattern's type, and its names
pub record OpenedBinding : Type 0 where
  pub node : ℕ
  pub names : List Bind

-- it stands for one of the definitions
pub record IsOpened (F : Frame) (b : Sight) (G : Letters) (x : Binding) (y : OpenedBinding) : Type 0 where
  pub means : Means F b G (λ ch. ch.type_at x.pattern.node) y.node
  pub names : AllBound F b G x.pattern.names y.names

-- opened bindings stand for others, one by one and in order
pub data AllOpened (F : Frame) (b : Sight) (G : Letters) : List Binding → List OpenedBinding → Type 0 where
  none_opened : AllOpened F b G [] []
  one_opened : {x : Binding} {xs : List Binding} {y : OpenedBinding} {ys : List OpenedBinding} → IsOpened F b G x y → AllOpened F b G xs ys → AllOpened F b G (x ∷ xs) (y ∷ ys)

-- the names of opened bindings
abbrev pub names_opened : List OpenedBinding → List Bind
names_opened [] = []
names_opened (y ∷ ys) = y.names ++ names_opened ys

-- the pattern of a binding has the type of the whole, by the choice
abbrev pub whole_asks : Choice → Binding → List Condition
whole_asks ch x = ask x.node 1 x.pattern.at (equal (ch.type_at x.pattern.node) (whole_by x ch))

-- the demand that a pattern has a type, for a binding of any number; the nodes are those of both types
abbrev pub AsksWhole : (a b : Parts) → List Entry → Pattern → (found whole : ℕ) → Type 0
AsksWhole a b env p found whole = is_aloud a.telling ≡ true → (F : Frame) (scope : Scope) (G : Letters) (n : ℕ) (t : Choice → Typ) → scope.own n ≡ true → SeesScope F scope (sight a) G env → Means F (sight a) G (λ ch. ch.type_at p.node) found → Means F (sight a) G t whole →
    Carried F scope (λ c. ask n 1 p.at (equal (type_at c p.node) (t c.chosen))) (sight a) G (sight b) G

-- a binding is typed, with letters of its own, where this is asked
pub record BindingCarried (F : Frame) (scope : Scope) (asks : Asks) (a : Sight) (G : Letters) (b : Sight) (x : Binding) (y : TypedBinding) : Type 0 where
  pub own : Letters
  pub carried : Carried F scope asks a G b (own ++ G)
  pub done : AreDone b carried.hidden own
  pub typed : IsTyped F b (own ++ G) x y

-- bindings are typed, with letters of their own, where this is asked
pub record BindingsCarried (F : Frame) (scope : Scope) (asks : Asks) (a : Sight) (G : Letters) (b : Sight) (xs : List Binding) (ys : List TypedBinding) : Type 0 where
  pub own : Letters
  pub carried : Carried F scope asks a G b (own ++ G)
  pub done : AreDone b carried.hidden own
  pub typed : AllTyped F b (own ++ G) xs ys

-- the same of a call, where faults are reported
abbrev pub TypesBindings : (a b : Parts) → List Entry → Asks → List Binding → List TypedBinding → Type 0
TypesBindings a b env asks xs ys = is_aloud a.telling ≡ true → (F : Frame) (scope : Scope) (G : Letters) → Surrounds as_declared F (sight a) G env scope → BindingsCarried F scope asks (sight a) G (sight b) xs ys

-- what a binding without `rec` asks behind the names seen
abbrev pub turn_asks : Context → List Name → Binding → List Condition
turn_asks c seen x = tell x.node c ++ right_side c x ++ x.pattern.matched c seen ++ pattern_has c x

-- a binding without `rec`
abbrev pub TypesTurn : (a b : Parts) → List Entry → (seen : List Name) → Binding → TypedBinding → Type 0
TypesTurn a b env seen x y = is_aloud a.telling ≡ true → (F : Frame) (scope : Scope) (G : Letters) → Surrounds as_declared F (sight a) G env scope → BindingCarried F scope (λ c. turn_asks c seen x) (sight a) G (sight b) x y

-- what is added where there is a binding: it is typed, and stands behind those from before
pub record TurnAdded (a b : Parts) (env : List Entry) (seen seen' : List Name) (ys ys' : List TypedBinding) (x : Binding) : Type 0 where
  pub one : TypedBinding
  pub adds : ys' ≡ ys ++ one ∷ []
  pub sees : seen' ≡ seen ++ x.pattern.mentions
  pub typed : TypesTurn a b env seen x one

-- an operand that may be no binding: then nothing is done
pub record NoneAdded {A : Type 0} (a b : Parts) (seen seen' : List Name) (ys ys' : List A) : Type 0 where
  pub adds : ys' ≡ ys
  pub sees : seen' ≡ seen
  pub still : b ≡ a

-- an operand without `rec`
abbrev pub TypesTurnIf : (a b : Parts) → List Entry → (seen seen' : List Name) → (ys ys' : List TypedBinding) → Option Binding → Type 0
TypesTurnIf a b env seen seen' ys ys' None = NoneAdded a b seen seen' ys ys'
TypesTurnIf a b env seen seen' ys ys' (Some x) = TurnAdded a b env seen seen' ys ys' x

-- the first of some bindings without `rec` are typed, and some are left; `now` are the names seen so far
pub record TurnsFirst (F : Frame) (scope : Scope) (a : Sight) (G : Letters) (b : Sight) (all left : List Binding) (now : List Name) (ys : List TypedBinding) : Type 0 where
  pub done : Asks
  pub first : List Binding
  pub own : Letters
  pub carried : Carried F scope done a G b (own ++ G)
  pub rows_done : AreDone b carried.hidden own
  pub typed : AllTyped F b (own ++ G) first ys
  pub asks : (c : Context) → bound_in_turn c [] all ≡ done c ++ bound_in_turn c now left
  pub splits : all ≡ first ++ left

-- the same in a loop
abbrev pub TypesTurnsFirst : (a b : Parts) → List Entry → (all left : List Binding) → (now : List Name) → List TypedBinding → Type 0
TypesTurnsFirst a b env all left now ys = is_aloud a.telling ≡ true → (F : Frame) (scope : Scope) (G : Letters) → Surrounds as_declared F (sight a) G env scope → TurnsFirst F scope (sight a) G (sight b) all left now ys

-- the pattern of a binding with `rec`, behind the names seen: what it asks is carried, with the letters that it opens
pub record OpenedCarried (F : Frame) (scope : Scope) (a : Sight) (G : Letters) (b : Sight) (seen : List Name) (x : Binding) (y : OpenedBinding) : Type 0 where
  pub own : Letters
  pub carried : Carried F scope (λ c. tell x.node c ++ x.pattern.matched c seen) a G b (own ++ G)
  pub done : AreDone b carried.hidden own
  pub opened : IsOpened F b (own ++ G) x y

-- the same of a call
abbrev pub OpensBinding : (a b : Parts) → List Entry → (seen : List Name) → Binding → OpenedBinding → Type 0
OpensBinding a b env seen x y = is_aloud a.telling ≡ true → (F : Frame) (scope : Scope) (G : Letters) → Surrounds as_declared F (sight a) G env scope → OpenedCarried F scope (sight a) G (sight b) seen x y

-- what is added where there is a binding: its pattern is typed, and it stands behind those from before
pub record OpenAdded (a b : Parts) (env : List Entry) (seen seen' : List Name) (ys ys' : List OpenedBinding) (x : Binding) : Type 0 where
  pub one : OpenedBinding
  pub adds : ys' ≡ ys ++ one ∷ []
  pub sees : seen' ≡ seen ++ x.pattern.mentions
  pub opened : OpensBinding a b env seen x one

-- an operand with `rec`, which may be no binding
abbrev pub OpensIf : (a b : Parts) → List Entry → (seen seen' : List Name) → (ys ys' : List OpenedBinding) → Option Binding → Type 0
OpensIf a b env seen seen' ys ys' None = NoneAdded a b seen seen' ys ys'
OpensIf a b env seen seen' ys ys' (Some x) = OpenAdded a b env seen seen' ys ys' x

-- the patterns of bindings: what they ask is carried, with the letters that they open
pub record OpenedAll (F : Frame) (scope : Scope) (a : Sight) (G : Letters) (b : Sight) (xs : List Binding) (ys : List OpenedBinding) : Type 0 where
  pub own : Letters
  pub carried : Carried F scope (λ c. patterns_first c [] xs) a G b (own ++ G)
  pub done : AreDone b carried.hidden own
  pub opened : AllOpened F b (own ++ G) xs ys

-- the same of a call
abbrev pub OpensAll : (a b : Parts) → List Entry → List Binding → List OpenedBinding → Type 0
OpensAll a b env xs ys = is_aloud a.telling ≡ true → (F : Frame) (scope : Scope) (G : Letters) → Surrounds as_declared F (sight a) G env scope → OpenedAll F scope (sight a) G (sight b) xs ys

-- the first patterns are typed, and some are left; `now` are the names seen so far
pub record OpenedFirst (F : Frame) (scope : Scope) (a : Sight) (G : Letters) (b : Sight) (all left : List Binding) (now : List Name) (ys : List OpenedBinding) : Type 0 where
  pub done : Asks
  pub first : List Binding
  pub own : Letters
  pub carried : Carried F scope done a G b (own ++ G)
  pub rows_done : AreDone b carried.hidden own
  pub opened : AllOpened F b (own ++ G) first ys
  pub asks : (c : Context) → patterns_first c [] all ≡ done c ++ patterns_first c now left
  pub splits : all ≡ first ++ left

-- the same in a loop
abbrev pub OpensFirst : (a b : Parts) → List Entry → (all left : List Binding) → (now : List Name) → List OpenedBinding → Type 0
OpensFirst a b env all left now ys = is_aloud a.telling ≡ true → (F : Frame) (scope : Scope) (G : Letters) → Surrounds as_declared F (sight a) G env scope → OpenedFirst F scope (sight a) G (sight b) all left now ys

-- what a binding with `rec` asks among the names of the group, once its pattern is typed
abbrev pub conclusion_asks : Context → Binding → List Condition
conclusion_asks c x = right_side c x ++ whole_asks c.chosen x

-- the same of bindings in order
abbrev pub conclusions_ask : Context → List Binding → List Condition
conclusions_ask c [] = []
conclusions_ask c (x ∷ xs) = conclusion_asks c x ++ conclusions_ask c xs

-- the demands of each of these bindings are made in a scope
abbrev pub AreOwn : Scope → List Binding → Type 0
AreOwn scope [] = Unit {0}
AreOwn scope (x ∷ xs) = (scope.own x.node ≡ true) × AreOwn scope xs

-- the right side of a binding whose pattern is typed, among the names of the group
abbrev pub ConcludesBinding : (a b : Parts) → List Entry → Binding → OpenedBinding → TypedBinding → Type 0
ConcludesBinding a b env x o y = is_aloud a.telling ≡ true → (F : Frame) (scope : Scope) (G : Letters) → scope.own x.node ≡ true → Surrounds as_declared F (sight a) G env scope → IsOpened F (sight a) G x o →
    BindingCarried F scope (λ c. conclusion_asks c x) (sight a) G (sight b) x y

-- the same of bindings in order
abbrev pub ConcludesAll : (a b : Parts) → List Entry → List Binding → List OpenedBinding → List TypedBinding → Type 0
ConcludesAll a b env xs os ys = is_aloud a.telling ≡ true → (F : Frame) (scope : Scope) (G : Letters) → AreOwn scope xs → Surrounds as_declared F (sight a) G env scope → AllOpened F (sight a) G xs os →
    BindingsCarried F scope (λ c. conclusions_ask c xs) (sight a) G (sight b) xs ys

-- the first right sides are typed, and some are left, whose patterns are these
pub record ConcludedFirst (F : Frame) (scope : Scope) (a : Sight) (G : Letters) (b : Sight) (all left : List Binding) (os : List OpenedBinding) (ys : List TypedBinding) : Type 0 where
  pub done : Asks
  pub first : List Binding
  pub own : Letters
  pub carried : Carried F scope done a G b (own ++ G)
  pub rows_done : AreDone b carried.hidden own
  pub opened : AllOpened F b (own ++ G) left os
  pub typed : AllTyped F b (own ++ G) first ys
  pub asks : (c : Context) → conclusions_ask c all ≡ done c ++ conclusions_ask c left
  pub splits : all ≡ first ++ left

-- the same in a loop; `opened` are all patterns, and `os` those that are left
abbrev pub ConcludesFirst : (a b : Parts) → List Entry → (all left : List Binding) → (opened os : List OpenedBinding) → List TypedBinding → Type 0
ConcludesFirst a b env all left opened os ys = is_aloud a.telling ≡ true → (F : Frame) (scope : Scope) (G : Letters) → AreOwn scope all → Surrounds as_declared F (sight a) G env scope → AllOpened F (sight a) G all opened →
    ConcludedFirst F scope (sight a) G (sight b) all left os ys

-- a call after which nothing is asked
abbrev pub AsksNothing : (a b : Parts) → Type 0
AsksNothing a b = (F : Frame) (scope : Scope) (G : Letters) → Carried F scope (λ c. []) (sight a) G (sight b) G

-- a group of bindings, with or without `rec`: what it asks is carried, and these are its bindings as the code has typed them
abbrev pub TypesGroup : (a b : Parts) → List Entry → (is_rec : Bool) → List Binding → List TypedBinding → Type 0
TypesGroup a b env is_rec xs ys = TypesBindings a b env (λ c. bindings_ask c is_rec xs) xs ys
