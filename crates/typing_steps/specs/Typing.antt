-- The contracts of functions that type: whatever surrounds a call, it carries what the definitions ask of its part.
use Rattle.std.specs.Prelude.{◌≡◌, ℕ, true, List, [], ◌∷◌, ◌++◌, Option, Some, None}
use Rattle.tree_model.specs.Trees.{Place}
use Rattle.type_model.specs.Types.{Typ}
use Rattle.typing_model.specs.Demands.{Site, Condition, demand, equal}
use Rattle.typing_model.specs.Contexts.{Choice, Context}
use Rattle.typing_model.specs.Parts.{Written}
use Rattle.row_parts.specs.Numbered as parts
use Rattle.type_terms.specs.declared.types.NodeRef.{NodeRef}
use Rattle.env_table.specs.declared.entries.Entry.{Entry}
use Rattle.typing_state.specs.declared.parts.Parts.{Parts}
use Rattle.typing_conditions.specs.Declared.{DeclaredAs, ExceptionAs}
use Rattle.typing_conditions.specs.Sights.{Sight, Key, value_of, Letters, IsKnownFor}
use Rattle.typing_conditions.specs.Frames.{Frame, Reaches}
use Rattle.typing_conditions.specs.Meanings.{Means}
use Rattle.typing_conditions.specs.Carrying.{Asks, Scope, SeesScope, Carried, CarriedTo, EndsAs}
use Rattle.typing_conditions.specs.Hiding.{Owns}
use Rattle.typing_conditions.specs.Surroundings.{Declared, Surrounds}
use Rattle.typing_steps.specs.States.{is_aloud, sight}

-- how declarations and exceptions of the code stand for those of the definitions: by what their roots stand for
abbrev pub as_declared : Declared
as_declared = record { declaration = DeclaredAs; exception = ExceptionAs }

-- Where faults are reported, a call carries these conditions, and its node then has this type; whatever the frame, the names in scope and the letters around it.
abbrev pub TypesTo : (a b : Parts) → List Entry → Asks → (Choice → Typ) → ℕ → Type 0
TypesTo a b env asks type m = is_aloud a.telling ≡ true → (F : Frame) (scope : Scope) (G : Letters) → Surrounds as_declared F (sight a) G env scope → CarriedTo F scope asks (sight a) G (sight b) G type m

-- The same of a call that makes a type of its own, which stands for what is chosen for any key: its conditions are on what is chosen.
abbrev pub TypesOwn : (a b : Parts) → List Entry → (Context → Typ → List Condition) → ℕ → Type 0
TypesOwn a b env asks m = is_aloud a.telling ≡ true → (F : Frame) (scope : Scope) (G : Letters) (key : Key) → ((t : Typ) → IsKnownFor key t) → Surrounds as_declared F (sight a) G env scope →
    CarriedTo F scope (λ c. asks c (value_of c.chosen key)) (sight a) G (sight b) ((key, m) ∷ G) (λ ch. value_of ch key) m

-- A type of its own, of which nothing is asked, and for which no name is looked up.
abbrev pub TypesAny : (a b : Parts) → ℕ → Type 0
TypesAny a b m = (F : Frame) (scope : Scope) (G : Letters) (key : Key) → ((t : Typ) → IsKnownFor key t) → Reaches F (sight a) →
    CarriedTo F scope (λ c. []) (sight a) G (sight b) ((key, m) ∷ G) (λ ch. value_of ch key) m

-- A row whose type isn't recorded yet for its node n: `first` of what it asks is carried, with letters of its own, and then a node has its type;
-- `ends` is what it asks of n at its end, which is met where that type is recorded. `owns`: where all of names is known, its letters are without doubt once the node is noted.
pub record RowCarried (F : Frame) (scope : Scope) (asks : Asks) (a : Sight) (G : Letters) (b : Sight) (n m : ℕ) : Type 0 where
  pub own : Letters
  pub type : Choice → Typ
  pub first : Asks
  pub ends : Asks
  pub all : (c : Context) → first c ++ ends c ≡ asks c
  pub typed : CarriedTo F scope first a G b (own ++ G) type m
  pub owns : F.known ≡ true → Owns n m b typed.carried.hidden own
  pub end : EndsAs n type ends

-- Where faults are reported, a call carries a row with these conditions so far, where the demands of its node are made.
abbrev pub TypesRow : (a b : Parts) → List Entry → Asks → (n m : ℕ) → Type 0
TypesRow a b env asks n m = is_aloud a.telling ≡ true → (F : Frame) (scope : Scope) (G : Letters) → scope.own n ≡ true → Surrounds as_declared F (sight a) G env scope → RowCarried F scope asks (sight a) G (sight b) n m

-- The demand, at a place and of any site, that one node's type is another's; where it is reported, types are named by the names in scope, which stand for those of the site's node.
abbrev pub AsksEqual : (a b : Parts) → List Entry → Place → (found wanted : ℕ) → Type 0
AsksEqual a b env at found wanted = is_aloud a.telling ≡ true → (F : Frame) (scope : Scope) (G : Letters) (s : Site) (is want : Choice → Typ) → scope.own s.node ≡ true → SeesScope F scope (sight a) G env → Means F (sight a) G is found → Means F (sight a) G want wanted →
    Carried F scope (λ c. demand s at (equal (is c.chosen) (want c.chosen)) ∷ []) (sight a) G (sight b) G

-- the same where a type is wanted; else all stays as it is
abbrev pub AsksEqualIf : (a b : Parts) → List Entry → Place → ℕ → Option NodeRef → Type 0
AsksEqualIf a b env at found None = b ≡ a
AsksEqualIf a b env at found (Some wanted) = AsksEqual a b env at found wanted.0

-- a path of the code as the definitions take it
abbrev pub path_as : parts.Written → Written
path_as p = record { qualifiers = p.qualifiers; last = p.last }
