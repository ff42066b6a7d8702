-- What functions on the labels of a declaration settle of what the definitions ask.
use Rattle.std.specs.Prelude.{◌≡◌, ℕ, true, List, [], ◌++◌, All, map, Some, option_map}
use Rattle.syntax_tree.specs.View.{tok_of}
use Rattle.row_parts.specs.Numbered.{operand_view}
use Rattle.type_model.specs.Types.{Typ}
use Rattle.signature_model.specs.Declarations.{Name}
use Rattle.typing_model.specs.Contexts.{Choice}
use Rattle.typing_model.specs.Demands.{Condition}
use Rattle.typing_model.specs.Parts.{LabelPart, labels}
use Rattle.typing_model.specs.Declarations.{labels_read, labels_new, shape_asks}
use Rattle.env_table.specs.declared.entries.Entry.{Entry}
use Rattle.typing_state.specs.declared.parts.Parts.{Parts}
use Rattle.typing_conditions.specs.Sights.{Report, Sight}
use Rattle.typing_conditions.specs.Judging.{Judgement}
use Rattle.typing_steps.specs.States.{is_aloud, sight}
use Rattle.operand_laws.specs.Operands.{number_of, type_of}
use Rattle.typing_rows.specs.Operands.{IsTypeOperand}
use Rattle.decl_groups.specs.declared.groups.LabelPart.{LabelPart as CodePart}
use Rattle.typing_rows.specs.Settled.{Fixes, AreFixed, Before, Around, Settled}

-- a label of the code in an item, as the definitions take it
abbrev pub label_as : ℕ → CodePart → LabelPart
label_as i p = record { node = number_of i p.number; is_mutable = p.is_mutable; name = option_map (λ t. tok_of t.now) p.name; body = type_of i (operand_view p.body) }

-- labels of the code
abbrev pub labels_as : ℕ → List CodePart → List LabelPart
labels_as i ps = map (label_as i) ps

-- the type behind a label is an operand whose tree is well formed
abbrev pub HasBody : CodePart → Type 0
HasBody p = IsTypeOperand (operand_view p.body)

-- the type of a label, by what is chosen
abbrev pub body_at : Choice → LabelPart → Typ
body_at ch l = ch.type_at l.body.node

-- the types of the first labels are settled, and some are left
pub record FirstLabels (B : Before) (all left : List LabelPart) (a b : Sight) : Type 0 where
  pub done : List LabelPart
  pub judged : List Judgement
  pub told : List Report
  pub fixes : Fixes
  pub types : List Typ
  pub reports : b.reports ≡ a.reports ++ told
  pub settled : Settled B (λ c. labels_read c done) judged told fixes
  pub gives : (ch : Choice) → AreFixed fixes ch → map (body_at ch) done ≡ types
  pub split : all ≡ done ++ left

-- that the names of the first labels are new is judged, and some are left
pub record FirstLabelNames (B : Before) (all left : List LabelPart) (seen : List Name) (a b : Sight) : Type 0 where
  pub done : List Condition
  pub judged : List Judgement
  pub told : List Report
  pub reports : b.reports ≡ a.reports ++ told
  pub settled : Settled B (λ c. done) judged told []
  pub split : labels_new [] all ≡ done ++ labels_new seen left

-- the names of labels are new, or that is reported
pub record LabelNamesSettled (B : Before) (ls : List LabelPart) (a b : Sight) : Type 0 where
  pub judged : List Judgement
  pub told : List Report
  pub reports : b.reports ≡ a.reports ++ told
  pub settled : Settled B (λ c. labels_new [] ls) judged told []

-- what is asked of labels is settled: their types, and then that their names are new; each has one type
pub record LabelsSettled (B : Before) (ls : List LabelPart) (a b : Sight) : Type 0 where
  pub judged : List Judgement
  pub told : List Report
  pub fixes : Fixes
  pub types : List Typ
  pub reports : b.reports ≡ a.reports ++ told
  pub settled : Settled B (λ c. shape_asks c (Some (labels ls))) judged told fixes
  pub gives : (ch : Choice) → AreFixed fixes ch → map (body_at ch) ls ≡ types

-- where faults are reported, a call judges the names of labels
abbrev pub SettlesLabelNames : (a b : Parts) → List LabelPart → Type 0
SettlesLabelNames a b ls = is_aloud a.telling ≡ true → (B : Before) → LabelNamesSettled B ls (sight a) (sight b)

-- and settles all that is asked of labels
abbrev pub SettlesLabels : (a b : Parts) → List Entry → List Name → List CodePart → Type 0
SettlesLabels a b env names ps = All HasBody ps → is_aloud a.telling ≡ true → (B : Before) → Around env names B → LabelsSettled B (labels_as a.item ps) (sight a) (sight b)
