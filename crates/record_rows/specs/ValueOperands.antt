-- Operands that are fields of record expressions.
use Rattle.std.specs.Prelude.{◌≡◌, ℕ, List, [], ◌++◌, filter_map, Option, Some, None, option_map, All, IfSome}
use Rattle.token_model.specs.Kinds.{Tok}
use Rattle.tree_model.specs.Rows.{ffield_row}
use Rattle.tree_model.specs.Trees.{Part, Tree, taken, inner, missing}
use Rattle.signature_model.specs.Declarations.{Name}
use Rattle.row_parts.specs.Numbered.{Numbered, first_in, path_in}
use Rattle.typing_model.specs.Parts.{Written, Field, place_of}
use Rattle.typing_model.specs.Records.{name_in}
use Rattle.typing_model.specs.Expressions.{value_asks}
use Rattle.type_terms.specs.declared.types.NodeRef.{NodeRef}
use Rattle.env_table.specs.declared.entries.Entry.{Entry}
use Rattle.typing_state.specs.declared.parts.Parts.{Parts}
use Rattle.typing_state.specs.Goes.{Goes}
use Rattle.typing_steps.specs.Typing.{TypesOwn, AsksEqualIf, path_as}
use Rattle.operand_laws.specs.Formed.{row_of, IsFormed}
use Rattle.operand_laws.specs.Operands.{number_of, child_at, expression_of}
use Rattle.typing_rows.specs.CarriedRows.{IsCarried}
use Rattle.typing_rows.specs.Contracts.{TypesAsIf}
use Rattle.record_steps.specs.Recording.{NotesScope, NotesNode}
use Rattle.record_rows.specs.Fields.{RecordHere, BeginsField}

-- an operand of an item as a field of an expression, where it is one
abbrev pub value_field_of : ℕ → Numbered → Option Field
value_field_of i o = (child_at i 5 o).field

-- operands of an item as fields; a missing one is none
abbrev pub value_fields_of : ℕ → List Numbered → List Field
value_fields_of i os = filter_map (λ o. value_field_of i o) os

-- a field of this number in an item, by its label and its value
abbrev pub labelled_field : ℕ → ℕ → Written → Option Numbered → Field
labelled_field i n l o = record { node = number_of i n; label = l; value = option_map (expression_of i) o }

-- a field that is well formed
pub record IsFormedField (number : ℕ) (t : Tree) : Type 0 where
  pub formed : IsFormed number t
  pub row : row_of t ≡ ffield_row

-- such a field, or one that is missing
abbrev pub IsFormedFieldPart : ℕ → Part → Type 0
IsFormedFieldPart n (taken t) = Unit {0}
IsFormedFieldPart n (inner t) = IsFormedField n t
IsFormedFieldPart n (missing at) = Unit {0}

-- operands that are such fields
abbrev pub AreFormedFields : List Numbered → Type 0
AreFormedFields os = All (λ o. IsFormedFieldPart o.number o.part) os

-- a field whose value, where it has one of its own, has conditions that are carried
pub record IsValueNode (number : ℕ) (t : Tree) : Type 0 where
  pub formed : IsFormed number t
  pub row : row_of t ≡ ffield_row
  pub value : IfSome (first_in number t 3) IsCarried

-- such a field, or one that is missing
abbrev pub IsCarriedValuePart : ℕ → Part → Type 0
IsCarriedValuePart n (taken t) = Unit {0}
IsCarriedValuePart n (inner t) = IsValueNode n t
IsCarriedValuePart n (missing at) = Unit {0}

-- an operand that is one
abbrev pub IsCarriedValue : Numbered → Type 0
IsCarriedValue o = IsCarriedValuePart o.number o.part

-- What a field of the node k does that has no value of its own, by the token of its label: it takes the value of that name, which has the field's type, and then its node is noted.
pub record PunsLabel (a d : Parts) (env : List Entry) (k : ℕ) (t : Tok) (wanted : Option NodeRef) : Type 0 where
  pub used : Parts
  pub asked : Parts
  pub node : ℕ
  pub typed : TypesOwn a used env (λ c type. value_asks c k 1 (record { qualifiers = []; last = Some t }) type) node
  pub goes : Goes a used
  pub equal : AsksEqualIf used asked env (place_of t) node wanted
  pub noted : NotesNode asked d k env

-- the same of a label whose token may be missing, where nothing is asked and the node is noted
abbrev pub PunsValue : Option Tok → (a d : Parts) → List Entry → ℕ → Option NodeRef → Type 0
PunsValue None a d env k wanted = NotesScope a d k env
PunsValue (Some t) a d env k wanted = PunsLabel a d env k t wanted

-- What a field of the node k with a value of its own does: its beginning, the record of its node, and its value; its label is one of those written then.
pub record GivesValue (a d : Parts) (env : List Entry) (here : RecordHere) (k : ℕ) (l : Written) (o : Numbered) (labels labels' : List Name) : Type 0 where
  pub mid : Parts
  pub told : Parts
  pub type : Option ℕ
  pub begins : BeginsField here a mid labels l type
  pub noted : NotesScope mid told k env
  pub value : IsCarried o → TypesAsIf told d env (expression_of told.item o) type
  pub goes_mid : Goes a mid
  pub goes_told : Goes mid told
  pub labelled : labels' ≡ labels ++ name_in l

-- What a field of the node k without a value of its own does: its beginning, and the value of its label's name; its label is one of those written then.
pub record GivesPun (a d : Parts) (env : List Entry) (here : RecordHere) (k : ℕ) (l : Written) (labels labels' : List Name) : Type 0 where
  pub mid : Parts
  pub wanted : Option NodeRef
  pub begins : BeginsField here a mid labels l (option_map (λ (w : NodeRef). w.0) wanted)
  pub puns : PunsValue l.last mid d env k wanted
  pub goes : Goes a mid
  pub labelled : labels' ≡ labels ++ name_in l

-- a field of this number with this label, by its value
abbrev pub TypesFieldBy : (o : Option Numbered) → (a d : Parts) → List Entry → RecordHere → (number : ℕ) → Written → (labels labels' : List Name) → Type 0
TypesFieldBy None a d env here n l labels labels' = GivesPun a d env here (number_of a.item n) l labels labels'
TypesFieldBy (Some o) a d env here n l labels labels' = GivesValue a d env here (number_of a.item n) l o labels labels'

-- the same of what is at an operand; where it is missing all is as before
abbrev pub TypesFieldPart : (a d : Parts) → List Entry → RecordHere → ℕ → Part → (labels labels' : List Name) → Type 0
TypesFieldPart a d env here n (taken t) labels labels' = (d ≡ a) × (labels' ≡ labels)
TypesFieldPart a d env here n (missing at) labels labels' = (d ≡ a) × (labels' ≡ labels)
TypesFieldPart a d env here n (inner t) labels labels' = TypesFieldBy (first_in n t 3) a d env here n (path_as (path_in t 0 1)) labels labels'
