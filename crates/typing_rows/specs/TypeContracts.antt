-- What functions that read type expressions of an item carry.
use Rattle.std.specs.Prelude.{◌≡◌, ℕ, true, List, [], ◌∷◌, ◌++◌, map}
use Rattle.type_model.specs.Types.{Typ}
use Rattle.typing_model.specs.Contexts.{Choice, Context}
use Rattle.typing_model.specs.Parts.{TypeExpression}
use Rattle.typing_model.specs.TypeExpressions.{read_all, nodes_of}
use Rattle.env_table.specs.declared.entries.Entry.{Entry}
use Rattle.typing_state.specs.declared.parts.Parts.{Parts}
use Rattle.typing_conditions.specs.Sights.{Sight, own, Letters}
use Rattle.typing_conditions.specs.Frames.{Frame}
use Rattle.typing_conditions.specs.Meanings.{Means, AllMean}
use Rattle.typing_conditions.specs.Carrying.{Asks, Scope, Carried}
use Rattle.typing_conditions.specs.Hiding.{AreDone, Owns}
use Rattle.typing_conditions.specs.Surroundings.{Surrounds}
use Rattle.typing_steps.specs.States.{is_aloud, sight}
use Rattle.typing_steps.specs.Typing.{as_declared}

-- Conditions of a type expression whose node n isn't noted yet are carried, and then the choice has for it the type of m: as no type is recorded for n, the two are a letter;
-- there are further letters of its row. `owns`: they are without doubt once the node is noted, where this is `sure`.
pub record RowReadIf (sure : Type 0) (F : Frame) (scope : Scope) (asks : Asks) (a : Sight) (G : Letters) (b : Sight) (n m : ℕ) : Type 0 where
  pub letters : Letters
  pub carried : Carried F scope asks a G b ((own n, m) ∷ letters ++ G)
  pub means : Means F b ((own n, m) ∷ letters ++ G) (λ ch. ch.type_at n) m
  pub owns : sure → Owns n m b carried.hidden ((own n, m) ∷ letters)

-- that is where all of names is known
abbrev pub RowRead : Frame → Scope → Asks → Sight → Letters → Sight → (n m : ℕ) → Type 0
RowRead F scope asks a G b n m = RowReadIf (F.known ≡ true) F scope asks a G b n m

-- where faults are reported, a call carries these conditions of a type expression whose node n is noted later, whatever the frame, the names in scope and the letters around it
abbrev pub ReadsRow : (a b : Parts) → List Entry → Asks → (n m : ℕ) → Type 0
ReadsRow a b env asks n m = is_aloud a.telling ≡ true → (F : Frame) (scope : Scope) (G : Letters) → Surrounds as_declared F (sight a) G env scope → RowRead F scope asks (sight a) G (sight b) n m

-- The same once the node is noted: the letter is one of a row that is done, and the others are closed.
pub record ReadAs (F : Frame) (scope : Scope) (asks : Asks) (a : Sight) (G : Letters) (b : Sight) (n m : ℕ) : Type 0 where
  pub carried : Carried F scope asks a G b ((own n, m) ∷ G)
  pub means : Means F b ((own n, m) ∷ G) (λ ch. ch.type_at n) m
  pub done : AreDone b carried.hidden ((own n, m) ∷ [])

-- where faults are reported, a call carries these conditions of a type expression with the node n
abbrev pub ReadsTo : (a b : Parts) → List Entry → Asks → (n m : ℕ) → Type 0
ReadsTo a b env asks n m = is_aloud a.telling ≡ true → (F : Frame) (scope : Scope) (G : Letters) → Surrounds as_declared F (sight a) G env scope → ReadAs F scope asks (sight a) G (sight b) n m

-- the types that a choice has for nodes
abbrev pub types_at : List ℕ → List (Choice → Typ)
types_at ns = map (λ (n : ℕ) (ch : Choice). ch.type_at n) ns

-- conditions of several type expressions are carried, and then their nodes have types, for which there are letters
pub record AllRead (F : Frame) (scope : Scope) (asks : Asks) (a : Sight) (G : Letters) (b : Sight) (ns ms : List ℕ) : Type 0 where
  pub letters : Letters
  pub carried : Carried F scope asks a G b (letters ++ G)
  pub done : AreDone b carried.hidden letters
  pub means : AllMean F b (letters ++ G) (types_at ns) ms

-- where faults are reported, a call carries the conditions of several type expressions
abbrev pub ReadsAll : (a b : Parts) → List Entry → Asks → (ns ms : List ℕ) → Type 0
ReadsAll a b env asks ns ms = is_aloud a.telling ≡ true → (F : Frame) (scope : Scope) (G : Letters) → Surrounds as_declared F (sight a) G env scope → AllRead F scope asks (sight a) G (sight b) ns ms

-- the first ones were read, and some are left
pub record FirstRead (F : Frame) (scope : Scope) (a : Sight) (G : Letters) (b : Sight) (all left : List TypeExpression) (ms : List ℕ) : Type 0 where
  pub done : Asks
  pub nodes : List ℕ
  pub read : AllRead F scope done a G b nodes ms
  pub asks : (c : Context) → read_all c all ≡ done c ++ read_all c left
  pub gives : nodes_of all ≡ nodes ++ nodes_of left

-- the same in a loop
abbrev pub ReadsFirst : (a b : Parts) → List Entry → (all left : List TypeExpression) → List ℕ → Type 0
ReadsFirst a b env all left ms = is_aloud a.telling ≡ true → (F : Frame) (scope : Scope) (G : Letters) → Surrounds as_declared F (sight a) G env scope → FirstRead F scope (sight a) G (sight b) all left ms

-- the end of a type expression with the node n, once the parts with the nodes ns are read and have the types of ms
abbrev pub EndsRead : (a b : Parts) → List Entry → Asks → (ns ms : List ℕ) → (n m : ℕ) → Type 0
EndsRead a b env asks ns ms n m = is_aloud a.telling ≡ true → (F : Frame) (scope : Scope) (G : Letters) → Surrounds as_declared F (sight a) G env scope → AllMean F (sight a) G (types_at ns) ms →
    RowRead F scope asks (sight a) G (sight b) n m
