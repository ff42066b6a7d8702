-- What is made of a label that is read: its name, its root, and whether it is mutable.
use Rattle.std.specs.Prelude.{◌≡◌, ℕ, true, List, [], ◌∷◌, ◌++◌, All, Option, Some, None, option_map}
use Rattle.text_terms.specs.Bytes.{str_bytes}
use Rattle.type_model.specs.Types.{Typ}
use Rattle.type_model.specs.Types.{Typ as type}
use Rattle.signature_model.specs.Declarations.{Name}
use Rattle.typing_model.specs.Contexts.{tell}
use Rattle.typing_model.specs.Parts.{LabelPart}
use Rattle.env_table.specs.declared.entries.Entry.{Entry}
use Rattle.env_table.specs.declared.entries.Label.{Label}
use Rattle.env_table.specs.declared.entries.Shape.{Shape}
use Rattle.env_table.specs.declared.entries.Shape.TheVariants as shape
use Rattle.typing_state.specs.declared.parts.Parts.{Parts}
use Rattle.typing_conditions.specs.Carrying.{Asks}
use Rattle.typing_conditions.specs.Frames.{Frame}
use Rattle.typing_steps.specs.States.{is_aloud, sight}
use Rattle.typing_rows.specs.Settled.{Before, Around, SettledTo}
use Rattle.declared_rows.specs.Assignments.{Assignment, Assigned, Denotes, AssignedTo}
use Rattle.declared_rows.specs.Contracts.{Inside, AreNoted}
use Rattle.decl_groups.specs.declared.groups.LabelPart.{LabelPart as CodePart}
use Rattle.decl_typing.specs.Labels.{label_as, labels_as, HasBody, FirstLabels, LabelsSettled}

-- the conditions of a field's type are settled, and a node denotes the type from the record to the field
pub record FieldDenoted (B : Before) (asks : Asks) (F : Frame) (arity : ℕ) (a b : Parts) (A : Assignment) (owner : Typ) (n m : ℕ) : Type 0 where
  pub settled : SettledTo B asks (sight a) (sight b) n
  pub numbers : List ℕ
  pub to : AssignedTo F arity numbers (sight a) (sight b) A m (type.Arrow owner settled.type)
  pub noted : AreNoted numbers b

-- Where faults are reported, a call's node m denotes the type from a record, which e denotes, to the field whose type is read.
abbrev pub DenotesField : (a b : Parts) → List Entry → List Name → (ps : List ℕ) → Asks → (owner : Typ) → (n e m : ℕ) → Type 0
DenotesField a b env names ps asks owner n e m = is_aloud a.telling ≡ true → (B : Before) → Around env names B → (F : Frame) (arity : ℕ) (U : List ℕ) (A : Assignment) → Inside F arity U a A B.named env ps → AreNoted U a → Denotes A e owner → FieldDenoted B asks F arity a b A owner n m

-- a label is made of this part, with this root
pub record AsLabel (p : CodePart) (r : ℕ) (l : Label) : Type 0 where
  pub named : option_map (λ t. str_bytes t.now.name) p.name ≡ Some (str_bytes l.name)
  pub root : l.root.0 ≡ r
  pub mutable : l.is_mutable ≡ p.is_mutable

-- none is made of one without a name
abbrev pub LabelIf : CodePart → ℕ → Option Label → Type 0
LabelIf p r None = p.name ≡ None
LabelIf p r (Some l) = AsLabel p r l

-- A call reads a label: its root denotes the type from the record to the field.
pub record ReadsLabel (a b : Parts) (env : List Entry) (names : List Name) (ps : List ℕ) (p : CodePart) (owner : Typ) (e : ℕ) (l : Option Label) : Type 0 where
  pub root : ℕ
  pub read : HasBody p → DenotesField a b env names ps (λ c. tell (label_as a.item p).node c ++ (label_as a.item p).body.read c) owner (label_as a.item p).body.node e root
  pub made : LabelIf p root l

-- Labels are made of parts whose fields have these types, by an assignment: one of each with a name, in order, whose root denotes the type from the record to the field.
pub data AreLabels (A : Assignment) (owner : Typ) : List CodePart → List Typ → List Label → Type 0 where
  no_labels : AreLabels A owner [] [] []
  one_label : {p : CodePart} {ps : List CodePart} {t : Typ} {ts : List Typ} {l : Label} {ls : List Label} (r : ℕ) → AsLabel p r l → Denotes A r (type.Arrow owner t) → AreLabels A owner ps ts ls → AreLabels A owner (p ∷ ps) (t ∷ ts) (l ∷ ls)
  nameless_label : {p : CodePart} {ps : List CodePart} {t : Typ} {ts : List Typ} {ls : List Label} → p.name ≡ None → AreLabels A owner ps ts ls → AreLabels A owner (p ∷ ps) (t ∷ ts) ls

-- the first labels are read, and some are left
pub record FirstFields (B : Before) (F : Frame) (arity : ℕ) (a b : Parts) (A : Assignment) (owner : Typ) (all left : List LabelPart) (ps : List CodePart) (ls : List Label) : Type 0 where
  pub settled : FirstLabels B all left (sight a) (sight b)
  pub numbers : List ℕ
  pub on : Assigned F arity numbers (sight a) (sight b) A
  pub made : AreLabels on.after owner ps settled.types ls
  pub noted : AreNoted numbers b

-- the same of all labels of a declaration, whose names are judged then
pub record AllFields (B : Before) (F : Frame) (arity : ℕ) (a b : Parts) (A : Assignment) (owner : Typ) (all : List LabelPart) (ps : List CodePart) (ls : List Label) : Type 0 where
  pub settled : LabelsSettled B all (sight a) (sight b)
  pub numbers : List ℕ
  pub on : Assigned F arity numbers (sight a) (sight b) A
  pub made : AreLabels on.after owner ps settled.types ls
  pub noted : AreNoted numbers b

-- the labels of a shape, where it has some
abbrev pub shape_labels : Shape → List Label
shape_labels (shape.Labels ls) = ls.items
shape_labels _ = []

-- Where faults are reported, a call reads the labels of a declaration: their roots denote their types.
abbrev pub ReadsLabels : (a b : Parts) → List Entry → List Name → (ps : List ℕ) → List CodePart → (owner : Typ) → (e : ℕ) → List Label → Type 0
ReadsLabels a b env names ps parts owner e ls = All HasBody parts → is_aloud a.telling ≡ true → (B : Before) → Around env names B → (F : Frame) (arity : ℕ) (U : List ℕ) (A : Assignment) → Inside F arity U a A B.named env ps → AreNoted U a → Denotes A e owner →
    AllFields B F arity a b A owner (labels_as a.item parts) parts ls

-- the same in a loop
abbrev pub ReadsFirstLabels : (a b : Parts) → List Entry → List Name → (ps : List ℕ) → (all left done : List CodePart) → (owner : Typ) → (e : ℕ) → List Label → Type 0
ReadsFirstLabels a b env names ps all left done owner e ls = All HasBody all → is_aloud a.telling ≡ true → (B : Before) → Around env names B → (F : Frame) (arity : ℕ) (U : List ℕ) (A : Assignment) → Inside F arity U a A B.named env ps → AreNoted U a → Denotes A e owner →
    FirstFields B F arity a b A owner (labels_as a.item all) (labels_as a.item left) done ls
