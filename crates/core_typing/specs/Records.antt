-- What the functions of record expressions carry, over the pieces of a record.
use Rattle.std.specs.Prelude.{ℕ, List, map, Option, Some, None, option_map, All}
use Rattle.std.specs.Option.{IfSome}
use Rattle.token_model.specs.Kinds.{Tok}
use Rattle.syntax_tree.specs.View.{place_of}
use Rattle.row_parts.specs.Numbered.{Numbered, Written, operand_view}
use Rattle.env_table.specs.declared.entries.Entry.{Entry}
use Rattle.typing_state.specs.declared.parts.Parts.{Parts}
use Rattle.typing_state.specs.Goes.{Goes}
use Rattle.typing_steps.specs.Typing.{path_as}
use Rattle.operand_laws.specs.Operands.{expression_of}
use Rattle.typing_rows.specs.CarriedRows.{IsCarried}
use Rattle.typing_rows.specs.Contracts.{TypesAsIf}
use Rattle.record_steps.specs.Recording.{NotesScope}
use Rattle.record_rows.specs.ValueOperands.{IsCarriedValue}
use Rattle.record_rows.specs.RecordExpressions.{TypesMade, TypesLoose, TypesUpdated}
use Rattle.expression_steps.specs.declared.fields.Pieces.{Pieces}
use Rattle.value_forms.specs.Heads.{label_at}

-- the pieces of a record whose conditions are carried
pub record AreCarriedPieces (p : Pieces) : Type 0 where
  pub first : IsCarried (operand_view p.first)
  pub value : IfSome (option_map operand_view p.value) IsCarried
  pub fields : All IsCarriedValue (map operand_view p.fields.items)

-- what a record that is made carries, by the label that its first part is
abbrev pub TypesMadeOr : Option Written → (a d : Parts) → List Entry → Pieces → ℕ → Type 0
TypesMadeOr None a d env p m = TypesLoose a d env (place_of p.span) (operand_view p.first) (option_map operand_view p.value) (map operand_view p.fields.items) m
TypesMadeOr (Some l) a d env p m = TypesMade a d env (place_of p.span) p.first.number (path_as l) (option_map operand_view p.value) (map operand_view p.fields.items) m

-- what a record carries, by the word `with`
abbrev pub TypesPieces : Option Tok → (a d : Parts) → List Entry → Pieces → ℕ → Type 0
TypesPieces None a d env p m = TypesMadeOr (label_at (operand_view p.first).part) a d env p m
TypesPieces (Some w) a d env p m = TypesUpdated a d env (operand_view p.first) (map operand_view p.fields.items) m

-- A field's node k is recorded, and its value has this type, where there is one.
pub record RecordsValue (a d : Parts) (env : List Entry) (k : ℕ) (o : Numbered) (ty : Option ℕ) : Type 0 where
  pub told : Parts
  pub noted : NotesScope a told k env
  pub goes : Goes a told
  pub value : IsCarried o → TypesAsIf told d env (expression_of told.item o) ty
