-- Operands that are fields of record patterns.
use Rattle.std.specs.Prelude.{◌≡◌, ℕ, List, [], ◌++◌, map, filter_map, Option, Some, None, IfSome}
use Rattle.tree_model.specs.Rows.{qfield_row}
use Rattle.tree_model.specs.Trees.{Place, Part, Tree, taken, inner, missing}
use Rattle.signature_model.specs.Declarations.{Name}
use Rattle.row_parts.specs.Numbered as operands
use Rattle.row_parts.specs.Numbered.{Numbered, first_in, path_in}
use Rattle.typing_model.specs.Parts.{Written, FieldPattern}
use Rattle.typing_model.specs.Records.{name_in}
use Rattle.typing_model.specs.Patterns.{precord}
use Rattle.env_table.specs.declared.entries.Entry.{Entry}
use Rattle.typing_state.specs.declared.parts.Parts.{Parts}
use Rattle.typing_state.specs.Goes.{Goes}
use Rattle.typing_steps.specs.Typing.{path_as}
use Rattle.operand_laws.specs.Formed.{row_of, IsFormed}
use Rattle.operand_laws.specs.Operands.{child_at, number_of, pattern_of}
use Rattle.pattern_rows.specs.Applied.{MatchesWanted}
use Rattle.pattern_rows.specs.Bounds.{Bind, Adds}
use Rattle.pattern_rows.specs.CarriedPatterns.{IsCarriedPattern}
use Rattle.pattern_rows.specs.Contracts.{MatchesRow}
use Rattle.record_steps.specs.Recording.{NotesScope}
use Rattle.record_rows.specs.Fields.{RecordHere, BeginsField, Puns, mentions_of_fields}

-- an operand of an item as a field of a pattern, where it is one
abbrev pub field_of : ℕ → Numbered → Option FieldPattern
field_of i o = (child_at i 1 o).field_pattern

-- operands of an item as fields; a missing one is none
abbrev pub fields_of : ℕ → List Numbered → List FieldPattern
fields_of i os = filter_map (λ o. field_of i o) os

-- the path that is written at an operand as its label
abbrev pub label_at : Part → operands.Written
label_at (taken t) = record { qualifiers = []; last = None }
label_at (inner t) = path_in t 0 1
label_at (missing at) = record { qualifiers = []; last = None }

-- the labels of operands, as the definitions take them
abbrev pub labels_at : List Numbered → List Written
labels_at os = map path_as (map (λ o. label_at o.part) os)

-- a field whose pattern, where it has one of its own, has conditions that are carried
pub record IsFieldNode (number : ℕ) (t : Tree) : Type 0 where
  pub formed : IsFormed number t
  pub row : row_of t ≡ qfield_row
  pub pattern : IfSome (first_in number t 3) IsCarriedPattern

-- such a field, or one that is missing
abbrev pub IsCarriedFieldPart : ℕ → Part → Type 0
IsCarriedFieldPart n (taken t) = Unit {0}
IsCarriedFieldPart n (inner t) = IsFieldNode n t
IsCarriedFieldPart n (missing at) = Unit {0}

-- an operand that is one
abbrev pub IsCarriedField : Numbered → Type 0
IsCarriedField o = IsCarriedFieldPart o.number o.part

-- What a field of the node k with a pattern of its own does: its beginning, the record of its node, and its pattern; its label is one of those written then.
pub record MatchesWritten (a d : Parts) (env : List Entry) (k : ℕ) (here : RecordHere) (l : Written) (o : Numbered) (names names' : List Bind) (seen seen' labels labels' : List Name) : Type 0 where
  pub mid : Parts
  pub told : Parts
  pub type : Option ℕ
  pub begins : BeginsField here a mid labels l type
  pub noted : NotesScope mid told k env
  pub wanted : IsCarriedPattern o → MatchesWanted told d env (pattern_of told.item o) names names' seen seen' type
  pub goes_mid : Goes a mid
  pub goes_told : Goes mid told
  pub labelled : labels' ≡ labels ++ name_in l

-- What a field without a pattern of its own does, whose node is k: its beginning, and the name of its label; its label is one of those written then.
pub record PunsWritten (a d : Parts) (env : List Entry) (k : ℕ) (here : RecordHere) (l : Written) (names names' : List Bind) (seen seen' labels labels' : List Name) : Type 0 where
  pub mid : Parts
  pub type : Option ℕ
  pub begins : BeginsField here a mid labels l type
  pub puns : Puns l.last mid d env k type names names' seen seen'
  pub goes : Goes a mid
  pub labelled : labels' ≡ labels ++ name_in l

-- a field of this number with this label, by its pattern
abbrev pub MatchesFieldBy : (o : Option Numbered) → (a d : Parts) → List Entry → RecordHere → (number : ℕ) → Written → (names names' : List Bind) (seen seen' labels labels' : List Name) → Type 0
MatchesFieldBy None a d env here n l names names' seen seen' labels labels' = PunsWritten a d env (number_of a.item n) here l names names' seen seen' labels labels'
MatchesFieldBy (Some o) a d env here n l names names' seen seen' labels labels' = MatchesWritten a d env (number_of a.item n) here l o names names' seen seen' labels labels'

-- the same of what is at an operand; where it is missing all is as before
abbrev pub MatchesFieldPart : (a d : Parts) → List Entry → RecordHere → ℕ → Part → (names names' : List Bind) (seen seen' labels labels' : List Name) → Type 0
MatchesFieldPart a d env here n (taken t) names names' seen seen' labels labels' = (d ≡ a) × (names' ≡ names) × (seen' ≡ seen) × (labels' ≡ labels)
MatchesFieldPart a d env here n (missing at) names names' seen seen' labels labels' = (d ≡ a) × (names' ≡ names) × (seen' ≡ seen) × (labels' ≡ labels)
MatchesFieldPart a d env here n (inner t) names names' seen seen' labels labels' = MatchesFieldBy (first_in n t 3) a d env here n (path_as (path_in t 0 1)) names names' seen seen' labels labels'

-- What comes of a record pattern with some fields, whose own node isn't recorded yet, and the names that are added.
pub record MatchesRecord (a d : Parts) (env : List Entry) (fs : List FieldPattern) (names names' : List Bind) (seen seen' : List Name) (m : ℕ) : Type 0 where
  pub added : List Bind
  pub adds : Adds names names' added seen seen' (mentions_of_fields fs)
  pub typed : (n : ℕ) (at : Place) → MatchesRow a d env (precord n at fs) seen added n m
