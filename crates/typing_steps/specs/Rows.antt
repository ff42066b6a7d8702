-- What the calls of an application's row carry, and those of a row whose parts are typed in order.
use Rattle.std.specs.Prelude.{◌≡◌, ℕ, ◌+◌, List, [], ◌∷◌, ◌++◌, map}
use Rattle.tree_model.specs.Trees.{Place}
use Rattle.type_model.specs.Types.{Typ, Arrow}
use Rattle.typing_model.specs.Demands.{Condition, equal}
use Rattle.typing_model.specs.Contexts.{Choice, Context, ask}
use Rattle.typing_model.specs.Contexts as contexts
use Rattle.typing_model.specs.Parts.{Expression, Form, a_constructor, a_path, a_float, a_false, a_field, no_expression, other}
use Rattle.typing_model.specs.Expressions.{has_type, typed_all}
use Rattle.typing_conditions.specs.Sights.{Sight, Key, letter, value_of, Letters}
use Rattle.typing_conditions.specs.Frames.{Frame}
use Rattle.typing_conditions.specs.Meanings.{Means, AllMean, types_by}
use Rattle.typing_conditions.specs.Carrying.{Asks, Scope, Carried}
use Rattle.typing_conditions.specs.Hiding.{AreBelow}

-- two new variables stand for two keys
pub record MakesTwo (F : Frame) (scope : Scope) (a : Sight) (G : Letters) (b : Sight) (first second : Key) (m n : ℕ) : Type 0 where
  pub carried : Carried F scope (λ c. []) a G b ((second, n) ∷ (first, m) ∷ G)
  pub first_is : Means F b ((second, n) ∷ (first, m) ∷ G) (λ ch. value_of ch first) m
  pub second_is : Means F b ((second, n) ∷ (first, m) ∷ G) (λ ch. value_of ch second) n

-- A head's type is asked to be an arrow between two letters of the node n, for which there are nodes then; it is the node's demand k.
pub record AsksArrow (F : Frame) (scope : Scope) (a : Sight) (G : Letters) (b : Sight) (head : Choice → Typ) (n k j : ℕ) (at : Place) (from to : ℕ) : Type 0 where
  pub carried : Carried F scope (λ c. ask n k at (equal (head c.chosen) (Arrow (contexts.letter c n j) (contexts.letter c n (j + 1))))) a G b ((letter n (j + 1), to) ∷ (letter n j, from) ∷ G)
  pub from_is : Means F b ((letter n (j + 1), to) ∷ (letter n j, from) ∷ G) (λ ch. ch.letter n j) from
  pub to_is : Means F b ((letter n (j + 1), to) ∷ (letter n j, from) ∷ G) (λ ch. ch.letter n (j + 1)) to

-- what is asked of a head with one argument
abbrev pub argument_asks : Context → ℕ → ℕ → ℕ → Place → Typ → Expression → List Condition
argument_asks c n k j at head e = ask n k at (equal head (Arrow (contexts.letter c n j) (contexts.letter c n (j + 1)))) ++ e.typed c ++ has_type c n (k + 1) e (contexts.letter c n j)

-- what is asked of a head with arguments
abbrev pub given_from : Context → ℕ → ℕ → ℕ → Place → Typ → List Expression → List Condition
given_from c n k j at head [] = []
given_from c n k j at head (e ∷ es) = argument_asks c n k j at head e ++ given_from c n (k + 2) (j + 2) at (contexts.letter c n (j + 1)) es

-- the type of the whole
abbrev pub result_of : Choice → ℕ → ℕ → Typ → List Expression → Typ
result_of ch n j head [] = head
result_of ch n j head (e ∷ es) = result_of ch n (j + 2) (ch.letter n (j + 1)) es

-- Of a head with arguments the first ones are typed, and some are left: the next demand is k', and the next letter j'; the node m has the type so far.
pub record TypesSome (F : Frame) (scope : Scope) (a : Sight) (G : Letters) (b : Sight) (head : Choice → Typ) (n : ℕ) (at : Place) (all left : List Expression) (m : ℕ) : Type 0 where
  pub own : Letters
  pub k' : ℕ
  pub j' : ℕ
  pub below : AreBelow n j' own
  pub type : Choice → Typ
  pub done : Asks
  pub carried : Carried F scope done a G b (own ++ G)
  pub means : Means F b (own ++ G) type m
  pub asks : (c : Context) → given_from c n 0 0 at (head c.chosen) all ≡ done c ++ given_from c n k' j' at (type c.chosen) left
  pub gives : (ch : Choice) → result_of ch n 0 (head ch) all ≡ result_of ch n j' (type ch) left

-- a form that isn't a constructor, so that its application is one argument after the other
abbrev pub IsNoConstructor : Form → Type 0
IsNoConstructor (a_constructor p) = ⊥
IsNoConstructor (a_path p) = Unit {0}
IsNoConstructor a_float = Unit {0}
IsNoConstructor a_false = Unit {0}
IsNoConstructor (a_field p l) = Unit {0}
IsNoConstructor no_expression = Unit {0}
IsNoConstructor other = Unit {0}

-- Of some parts the first ones are typed, in order, and some are left; the nodes ms have the types of those that are typed.
pub record TypesParts (F : Frame) (scope : Scope) (a : Sight) (G : Letters) (b : Sight) (all left : List Expression) (ms : List ℕ) : Type 0 where
  pub done : Asks
  pub types : List (Choice → Typ)
  pub carried : Carried F scope done a G b G
  pub means : AllMean F b G types ms
  pub asks : (c : Context) → typed_all c all ≡ done c ++ typed_all c left
  pub gives : (ch : Choice) → map (λ (e : Expression). ch.type_at e.node) all ≡ types_by ch types ++ map (λ (e : Expression). ch.type_at e.node) left
