-- What the functions of right sides carry.
use Rattle.std.specs.Prelude.{◌≡◌, ℕ, true, List, [], ◌++◌, Option, Some, None}
use Rattle.type_model.specs.Types.{Typ}
use Rattle.typing_model.specs.Demands.{Condition, equal}
use Rattle.typing_model.specs.Contexts.{Choice, Context, ask, with_names}
use Rattle.typing_model.specs.Parts.{Expression, Pattern, TypeExpression, Binding}
use Rattle.typing_model.specs.Patterns.{all_names}
use Rattle.typing_model.specs.Bindings.{matched_apart, read_annotation}
use Rattle.env_table.specs.declared.entries.Entry.{Entry}
use Rattle.typing_state.specs.declared.parts.Parts.{Parts}
use Rattle.typing_conditions.specs.Sights.{Sight, Letters}
use Rattle.typing_conditions.specs.Frames.{Frame}
use Rattle.typing_conditions.specs.Meanings.{Means, AllMean}
use Rattle.typing_conditions.specs.Carrying.{SeesScope, Asks, Scope, Carried, CarriedTo}
use Rattle.typing_conditions.specs.Hiding.{AreDone}
use Rattle.typing_conditions.specs.Surroundings.{Surrounds}
use Rattle.typing_steps.specs.States.{is_aloud, sight}
use Rattle.typing_steps.specs.Typing.{as_declared}
use Rattle.pattern_rows.specs.Contracts.{types_at}
use Rattle.binding_rows.specs.Cases.{MeansIf}
use Rattle.binding_rows.specs.Parameters.{arrows_by}

-- the written type by the choice, where there is one
abbrev pub written_by : Option TypeExpression → Option (Choice → Typ)
written_by None = None
written_by (Some w) = Some (λ ch. ch.type_at w.node)

-- the type of a right side by the choice: the written one where there is one
abbrev pub right_by : Option TypeExpression → Expression → Choice → Typ
right_by None e = λ ch. ch.type_at e.node
right_by (Some w) e = λ ch. ch.type_at w.node

-- the type of a binding by the choice: from its parameters to the type of its right side
abbrev pub whole_by : Binding → Choice → Typ
whole_by x = arrows_by (types_at x.parameters) (right_by x.annotation x.body)

-- a body has the written type, where there is one; n is the number of the binding
abbrev pub has_written : Choice → (n : ℕ) → Expression → Option TypeExpression → List Condition
has_written ch n e None = []
has_written ch n e (Some w) = ask n 0 e.at (equal (ch.type_at e.node) (ch.type_at w.node))

-- what a right side asks, by its parts
abbrev pub right_parts_ask : Context → (n : ℕ) → List Pattern → Option TypeExpression → Expression → List Condition
right_parts_ask c n ps o e = matched_apart c ps ++ read_annotation c o ++ e.typed (with_names c (all_names ps)) ++ has_written c.chosen n e o

-- a written type, where there is one: what it asks is carried, and a node has it, for which there is a letter
pub record AnnotationRead (F : Frame) (scope : Scope) (a : Sight) (G : Letters) (b : Sight) (o : Option TypeExpression) (m : Option ℕ) : Type 0 where
  pub own : Letters
  pub carried : Carried F scope (λ c. read_annotation c o) a G b (own ++ G)
  pub done : AreDone b carried.hidden own
  pub means : MeansIf F b (own ++ G) (written_by o) m

-- the same of a call, where faults are reported
abbrev pub ReadsAnnotation : (a b : Parts) → List Entry → Option TypeExpression → Option ℕ → Type 0
ReadsAnnotation a b env o m = is_aloud a.telling ≡ true → (F : Frame) (scope : Scope) (G : Letters) → Surrounds as_declared F (sight a) G env scope → AnnotationRead F scope (sight a) G (sight b) o m

-- the type of a binding once its body is typed, which has the written type: what is asked is carried, and a node has the type of the binding.
-- `written` is the node of the written type, `ms` are those of the parameters, and `right` is that of the body.
abbrev pub MakesWhole : (a b : Parts) → List Entry → Expression → (written : Option ℕ) → (ms : List ℕ) → (right m : ℕ) → Type 0
MakesWhole a b env e written ms right m = is_aloud a.telling ≡ true → (F : Frame) (scope : Scope) (G : Letters) (n : ℕ) (o : Option TypeExpression) (types : List (Choice → Typ)) → scope.own n ≡ true → SeesScope F scope (sight a) G env → MeansIf F (sight a) G (written_by o) written →
    AllMean F (sight a) G types ms → Means F (sight a) G (λ ch. ch.type_at e.node) right → CarriedTo F scope (λ c. has_written c.chosen n e o) (sight a) G (sight b) G (arrows_by types (right_by o e)) m

-- a body, which has the written type: what is asked is carried, a node has the type of the body, and another that of the binding
pub record BodyTyped (F : Frame) (scope : Scope) (a : Sight) (G : Letters) (b : Sight) (n : ℕ) (o : Option TypeExpression) (types : List (Choice → Typ)) (e : Expression) (right m : ℕ) : Type 0 where
  pub typed : CarriedTo F scope (λ c. e.typed c ++ has_written c.chosen n e o) a G b G (arrows_by types (right_by o e)) m
  pub right_means : Means F b G (λ ch. ch.type_at e.node) right

-- the same of a call among the names of the parameters
abbrev pub TypesRightBody : (a b : Parts) → List Entry → Expression → (written : Option ℕ) → (ms : List ℕ) → (right m : ℕ) → Type 0
TypesRightBody a b env e written ms right m = is_aloud a.telling ≡ true → (F : Frame) (scope : Scope) (G : Letters) (n : ℕ) (o : Option TypeExpression) (types : List (Choice → Typ)) → scope.own n ≡ true → Surrounds as_declared F (sight a) G env scope →
    MeansIf F (sight a) G (written_by o) written → AllMean F (sight a) G types ms → BodyTyped F scope (sight a) G (sight b) n o types e right m

-- a right side by its parts: what it asks is carried, with letters of its own, a node has the type of the body, and another that of the binding
pub record RightCarried (F : Frame) (scope : Scope) (asks : Asks) (a : Sight) (G : Letters) (b : Sight) (ps : List Pattern) (o : Option TypeExpression) (e : Expression) (right m : ℕ) : Type 0 where
  pub own : Letters
  pub typed : CarriedTo F scope asks a G b (own ++ G) (arrows_by (types_at ps) (right_by o e)) m
  pub done : AreDone b typed.carried.hidden own
  pub right_means : Means F b (own ++ G) (λ ch. ch.type_at e.node) right

-- the same of a call, for a binding of any number
abbrev pub TypesRightParts : (a b : Parts) → List Entry → List Pattern → Option TypeExpression → Expression → (right m : ℕ) → Type 0
TypesRightParts a b env ps o e right m = is_aloud a.telling ≡ true → (F : Frame) (scope : Scope) (G : Letters) (n : ℕ) → scope.own n ≡ true → Surrounds as_declared F (sight a) G env scope →
    RightCarried F scope (λ c. right_parts_ask c n ps o e) (sight a) G (sight b) ps o e right m

-- the right side of a binding, which asks this
abbrev pub TypesRight : (a b : Parts) → List Entry → Asks → Binding → (right m : ℕ) → Type 0
TypesRight a b env asks x right m = is_aloud a.telling ≡ true → (F : Frame) (scope : Scope) (G : Letters) → scope.own x.node ≡ true → Surrounds as_declared F (sight a) G env scope →
    RightCarried F scope asks (sight a) G (sight b) x.parameters x.annotation x.body right m
