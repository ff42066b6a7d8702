-- What the fields of a record expression carry, one after the other.
use Rattle.std.specs.Prelude.{◌≡◌, ℕ, true, List, [], ◌++◌, Option, Some, None}
use Rattle.type_model.specs.Types.{Typ}
use Rattle.signature_model.specs.Declarations as rules
use Rattle.signature_model.specs.Declarations.{Name}
use Rattle.typing_model.specs.Demands.{Condition}
use Rattle.typing_model.specs.Contexts.{Choice, Context}
use Rattle.typing_model.specs.Parts.{Field}
use Rattle.typing_model.specs.Records.{name_in}
use Rattle.typing_model.specs.Expressions.{has_type, pun_asks, fields_ask, names_of_labels}
use Rattle.env_table.specs.declared.entries.Entry.{Entry}
use Rattle.typing_state.specs.declared.parts.Parts.{Parts}
use Rattle.typing_state.specs.Goes.{Goes}
use Rattle.typing_conditions.specs.Sights.{Sight, Letters}
use Rattle.typing_conditions.specs.Frames.{Frame}
use Rattle.typing_conditions.specs.Carrying.{Asks, Scope, Carried}
use Rattle.typing_conditions.specs.Surroundings.{Surrounds}
use Rattle.typing_conditions.specs.Hiding.{AreDone}
use Rattle.typing_steps.specs.States.{is_aloud, sight}
use Rattle.typing_steps.specs.Typing.{as_declared}
use Rattle.typing_steps.specs.Building.{HasIfThere}
use Rattle.record_steps.specs.Recording.{AsksNothing, HasScope}
use Rattle.record_rows.specs.Fields.{RecordHere, KnownAs, BeginsField, chosen_in}

-- what a field's value asks: an expression, or the name of its label; it has the field's type, where there is one
abbrev pub value_asked : Context → Field → Option Typ → List Condition
value_asked c f t = elim f.value [ None ↦ pun_asks c f t | Some e ↦ e.typed c ++ elim t [ None ↦ [] | Some t ↦ has_type c f.node 2 e t ] ]

-- the value of a field is typed, with letters of its own; the names in scope are recorded for its node by then
pub record ValueTyped (F : Frame) (scope : Scope) (a : Sight) (G : Letters) (b : Sight) (env : List Entry) (f : Field) (t : Option (Choice → Typ)) : Type 0 where
  pub letters : Letters
  pub carried : Carried F scope (λ c. value_asked c f (chosen_in c t)) a G b (letters ++ G)
  pub done : AreDone b carried.hidden letters
  pub scoped : HasScope b f.node env

-- the same of a call, whatever type the field has
abbrev pub TypesValue : (a b : Parts) → List Entry → Field → Option ℕ → Type 0
TypesValue a b env f ty = is_aloud a.telling ≡ true → (F : Frame) (scope : Scope) (G : Letters) (t : Option (Choice → Typ)) → scope.own f.node ≡ true → Surrounds as_declared F (sight a) G env scope → HasIfThere F (sight a) G t ty → ValueTyped F scope (sight a) G (sight b) env f t

-- fields are typed, after labels that were written before
pub record FieldsTyped (F : Frame) (scope : Scope) (a : Sight) (G : Letters) (b : Sight) (n : ℕ) (found : Option rules.Declaration) (labels : List Name) (fs : List Field) : Type 0 where
  pub letters : Letters
  pub carried : Carried F scope (λ c. fields_ask c n found fs labels) a G b (letters ++ G)
  pub done : F.known ≡ true → AreDone b carried.hidden letters

-- the same of a call, where faults are reported
abbrev pub TypesFields : (a b : Parts) → List Entry → RecordHere → List Name → List Field → Type 0
TypesFields a b env here labels fs = is_aloud a.telling ≡ true → (F : Frame) (scope : Scope) (G : Letters) (n : ℕ) (found : Option rules.Declaration) → Surrounds as_declared F (sight a) G env scope → KnownAs F (sight a) G n here found →
    FieldsTyped F scope (sight a) G (sight b) n found labels fs

-- the first of some fields are typed, and some are left; `labels` are those written before all of them, and `now` those written so far
pub record ValuesFirst (F : Frame) (scope : Scope) (a : Sight) (G : Letters) (b : Sight) (n : ℕ) (found : Option rules.Declaration) (labels : List Name) (all left : List Field) (now : List Name) : Type 0 where
  pub letters : Letters
  pub done : Asks
  pub carried : Carried F scope done a G b (letters ++ G)
  pub rows_done : F.known ≡ true → AreDone b carried.hidden letters
  pub asks : (c : Context) → fields_ask c n found all labels ≡ done c ++ fields_ask c n found left now

-- the same in a loop
abbrev pub TypesValuesFirst : (a b : Parts) → List Entry → RecordHere → List Name → (all left : List Field) → List Name → Type 0
TypesValuesFirst a b env here labels all left now = is_aloud a.telling ≡ true → (F : Frame) (scope : Scope) (G : Letters) (n : ℕ) (found : Option rules.Declaration) → Surrounds as_declared F (sight a) G env scope → KnownAs F (sight a) G n here found →
    ValuesFirst F scope (sight a) G (sight b) n found labels all left now

-- the same of a call with the labels that are written after it
pub record FieldsWritten (a b : Parts) (env : List Entry) (here : RecordHere) (fs : List Field) (labels labels' : List Name) : Type 0 where
  pub typed : TypesFields a b env here labels fs
  pub written : labels' ≡ labels ++ names_of_labels fs

-- and in a loop
pub record FieldsWrittenFirst (a b : Parts) (env : List Entry) (here : RecordHere) (all left : List Field) (labels now : List Name) : Type 0 where
  pub typed : TypesValuesFirst a b env here labels all left now
  pub written : labels ++ names_of_labels all ≡ now ++ names_of_labels left

-- What a field does: its beginning, the record of its node, and its value; its label is one of those written then.
pub record TypesLabelled (a d : Parts) (env : List Entry) (here : RecordHere) (f : Field) (labels labels' : List Name) : Type 0 where
  pub mid : Parts
  pub told : Parts
  pub type : Option ℕ
  pub begins : BeginsField here a mid labels f.label type
  pub noted : AsksNothing mid told
  pub value : TypesValue told d env f type
  pub goes_mid : Goes a mid
  pub goes_told : Goes mid told
  pub labelled : labels' ≡ labels ++ name_in f.label

-- Where faults are reported, a call carries these conditions, whatever surrounds it, and leaves no letters open.
abbrev pub Carries : (a b : Parts) → List Entry → Asks → Type 0
Carries a b env asks = is_aloud a.telling ≡ true → (F : Frame) (scope : Scope) (G : Letters) → Surrounds as_declared F (sight a) G env scope → Carried F scope asks (sight a) G (sight b) G
