-- What the functions of a record expression carry: { l = e; l = e }, the same with a first part that is no label, and { e with l = e }.
use Rattle.std.specs.Prelude.{◌≡◌, ℕ, true, false, List, [], ◌∷◌, ◌++◌, Option, Some, None, option_map, All, IfSome}
use Rattle.tree_model.specs.Rows.{erecord_row}
use Rattle.tree_model.specs.Trees.{Place, Tree, Part, taken, inner, missing}
use Rattle.signature_model.specs.Declarations.{Name}
use Rattle.row_parts.specs.Numbered.{Numbered, first_in, filled_in, operands_in}
use Rattle.typing_model.specs.Demands.{test, no_label, Condition}
use Rattle.typing_model.specs.Contexts.{Context, ask}
use Rattle.typing_model.specs.Parts.{Written, Form, a_path, no_expression, Expression}
use Rattle.typing_model.specs.Expressions.{record_asks, update_asks, typed_all}
use Rattle.env_table.specs.declared.entries.Entry.{Entry}
use Rattle.typing_state.specs.declared.parts.Parts.{Parts}
use Rattle.typing_state.specs.Goes.{Goes}
use Rattle.typing_conditions.specs.Sights.{Letters}
use Rattle.typing_conditions.specs.Frames.{Frame}
use Rattle.typing_conditions.specs.Carrying.{Asks, Scope, Carried}
use Rattle.typing_steps.specs.States.{is_aloud, sight}
use Rattle.typing_steps.specs.Typing.{TypesTo, TypesAny, TypesRow, AsksEqual}
use Rattle.operand_laws.specs.Formed.{row_of, IsFormed}
use Rattle.operand_laws.specs.Operands.{expression_of}
use Rattle.typing_rows.specs.CarriedRows.{IsCarried}
use Rattle.record_steps.specs.Recording.{TypesRecord, TypesNoRecord, AsksNothing}
use Rattle.record_rows.specs.Fields.{RecordHere}
use Rattle.record_rows.specs.Values.{Carries}
use Rattle.record_rows.specs.Completing.{Completes}
use Rattle.record_rows.specs.ValueOperands.{labelled_field, value_fields_of, IsCarriedValue}

-- what the record type of labels carries, by what is known of it
abbrev pub TypesHere : RecordHere → (a b : Parts) → List Entry → List Written → Type 0
TypesHere None a b env ps = TypesNoRecord a b env ps
TypesHere (Some r) a b env ps = TypesRecord a b env ps r.0 r.1

-- the type of a record: its own where it is known, and else any
abbrev pub GivesRecord : RecordHere → (a b : Parts) → ℕ → Type 0
GivesRecord None a b m = TypesAny a b m
GivesRecord (Some r) a b m = (m ≡ r.1) × (b ≡ a)

-- a node is of the record's type, where that is known; else all stays
abbrev pub HasRecord : RecordHere → (a b : Parts) → List Entry → Place → ℕ → Type 0
HasRecord None a b env at w = b ≡ a
HasRecord (Some r) a b env at w = AsksEqual a b env at w r.1

-- that a first part is no label is reported
abbrev pub RefusesPart : (a b : Parts) → Place → Type 0
RefusesPart a b at = is_aloud a.telling ≡ true → (F : Frame) (scope : Scope) (G : Letters) (n : ℕ) → Carried F scope (λ c. ask n 0 at (test no_label false)) (sight a) G (sight b) G

-- the values that may be there
abbrev pub values_of : Option Expression → List Expression
values_of value = elim value [ None ↦ [] | Some e ↦ e ∷ [] ]

-- that a first part is no label is reported; where it is missing nothing is asked
abbrev pub RefusesIf : Part → (a b : Parts) → Place → Type 0
RefusesIf (taken t) a b at = AsksNothing a b
RefusesIf (inner t) a b at = RefusesPart a b at
RefusesIf (missing p) a b at = AsksNothing a b

-- what a first part that is no label asks, by whether it is there
abbrev pub loose_part : Part → ℕ → Expression → Context → List Condition
loose_part (taken t) n e c = e.typed c
loose_part (inner t) n e c = ask n 0 e.at (test no_label false) ++ e.typed c
loose_part (missing p) n e c = e.typed c

-- The record type of labels, after what is asked before they are looked for.
pub record FindsRecord (a d : Parts) (env : List Entry) (here : RecordHere) (before : ℕ → Asks) (ps : List Written) : Type 0 where
  pub mid : Parts
  pub first : (n : ℕ) → Carries a mid env (before n)
  pub goes : Goes a mid
  pub typed : TypesHere here mid d env ps
  pub goes_typed : Goes mid d

-- The part of a record that is updated, and the record type of the labels, which the part has.
pub record FindsUpdated (a d : Parts) (env : List Entry) (here : RecordHere) (whole : Expression) (ps : List Written) : Type 0 where
  pub begun : Parts
  pub mid : Parts
  pub found : Parts
  pub node : ℕ
  pub noted : AsksNothing a begun
  pub goes : Goes a begun
  pub first : TypesTo begun mid env whole.typed (λ ch. ch.type_at whole.node) node
  pub goes_first : Goes begun mid
  pub typed : TypesHere here mid found env ps
  pub goes_typed : Goes mid found
  pub has : HasRecord here found d env whole.at node
  pub goes_has : Goes found d

-- The end of a record that is made: that all labels are written, and its type.
pub record EndsRecord (a d : Parts) (here : RecordHere) (labels : List Name) (at : Place) (m : ℕ) : Type 0 where
  pub mid : Parts
  pub complete : Completes a mid here labels at
  pub type : GivesRecord here mid d m

-- a record that is made, by its first label and the operands that are its other fields
abbrev pub TypesMade : (a d : Parts) → List Entry → Place → (number : ℕ) → Written → Option Numbered → List Numbered → ℕ → Type 0
TypesMade a d env at number l value os m = (n : ℕ) → TypesRow a d env (λ c. record_asks c n at [] [] (labelled_field a.item number l value ∷ value_fields_of a.item os)) n m

-- the same with a first part that is no label
abbrev pub TypesLoose : (a d : Parts) → List Entry → Place → (first : Numbered) → Option Numbered → List Numbered → ℕ → Type 0
TypesLoose a d env at first value os m =
    (n : ℕ) → TypesRow a d env (λ c. record_asks c n at (loose_part first.part n (expression_of a.item first) c) (typed_all c (values_of (option_map (expression_of a.item) value))) (value_fields_of a.item os)) n m

-- a record that is updated
abbrev pub TypesUpdated : (a d : Parts) → List Entry → (first : Numbered) → List Numbered → ℕ → Type 0
TypesUpdated a d env first os m = (n : ℕ) → TypesRow a d env (λ c. update_asks c n (expression_of a.item first) (value_fields_of a.item os)) n m

-- a form that is no label's, and no missing part's
abbrev pub IsLoose : Form → Type 0
IsLoose (a_path p) = ⊥
IsLoose no_expression = ⊥
IsLoose _ = Unit {0}

-- the form of a part that is there is such a one, and that of a missing one is a missing part's
abbrev pub IsLooseAt : Part → Form → Type 0
IsLooseAt (taken t) f = f ≡ no_expression
IsLooseAt (inner t) f = IsLoose f
IsLooseAt (missing p) f = f ≡ no_expression

-- a record expression whose parts have conditions that are carried
pub record IsRecordNode (number : ℕ) (t : Tree) : Type 0 where
  pub formed : IsFormed number t
  pub row : row_of t ≡ erecord_row
  pub first : IsCarried (filled_in number t 1)
  pub value : IfSome (first_in number t 3) IsCarried
  pub fields : All IsCarriedValue (operands_in number t 5)
