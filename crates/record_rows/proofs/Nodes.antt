-- A record pattern by the calls of its function: its missing fields, the record type, the fields, and the record of its node.
use Rattle.std.proofs.Common.{◌∙◌, ℕ, List, Some, None, sym, ap, subst}
use Rattle.std.specs.Prelude.{All}
use Rattle.tree_model.specs.Rows.{precord_row}
use Rattle.tree_model.specs.Trees.{Tree}
use Rattle.signature_model.specs.Declarations.{Name}
use Rattle.row_parts.specs.Numbered.{Numbered, operands_in}
use Rattle.typing_model.specs.Parts.{Pattern}
use Rattle.typing_model.specs.Patterns.{precord}
use Rattle.type_terms.specs.declared.types.NodeRef.{NodeRef}
use Rattle.env_table.specs.declared.entries.Declaration.{Declaration}
use Rattle.env_table.specs.declared.entries.Entry.{Entry}
use Rattle.typing_state.specs.declared.parts.Parts.{Parts}
use Rattle.typing_state.specs.Goes.{Goes, OnlyIndex}
use Rattle.typing_state.specs.Notes.{NotedNameless}
use Rattle.typing_conditions.proofs.Carried.{carried_trans, done_last, owns_last}
use Rattle.typing_conditions.proofs.Surrounding.{surrounds_on}
use Rattle.typing_steps.specs.States.{is_aloud}
use Rattle.typing_steps.specs.Typing.{TypesAny}
use Rattle.typing_steps.specs.Warning.{OnlyNotes}
use Rattle.typing_steps.proofs.Still.{none_idle, carried_idle, notes_unseen, notes_untold}
use Rattle.operand_laws.specs.Operands.{number_of}
use Rattle.pattern_rows.specs.Bounds.{Bind}
use Rattle.pattern_rows.specs.CarriedPatterns.{MatchesNodeOf}
use Rattle.pattern_rows.specs.Contracts.{MatchesRow, row_pattern}
use Rattle.pattern_rows.proofs.Matching.{row_matches, adds_as}
use Rattle.record_steps.specs.Recording.{TypesRecord, TypesNoRecord, AsksNothing}
use Rattle.record_rows.specs.Fields.{FieldsInOrder}
use Rattle.record_rows.specs.Operands.{fields_of, labels_at, IsCarriedField, MatchesRecord}
use Rattle.record_rows.proofs.Going.{record_fields}
use Rattle.record_rows.proofs.Operands.{record_term, fields_ask}
use Rattle.record_rows.proofs.Rows.{known_row, unknown_row}

-- what records missing operands asks nothing
pub notes_ask : (a b : Parts) → OnlyNotes a b → AsksNothing a b
notes_ask a b notes F scope G = carried_idle none_idle (notes_unseen a b notes) (notes_untold a b notes)

-- a row after a call that asks nothing
row_after : (a b d : Parts) (env : List Entry) (p : Pattern) (seen : List Name) (added : List Bind) (n m : ℕ) → AsksNothing a b → Goes a b → MatchesRow b d env p seen added n m → MatchesRow a d env p seen added n m
row_after a b d env p seen added n m nothing goes row = record {
  opens = row.opens;
  typed = λ aloud F scope G its names.
      let none = nothing F scope G in
      let x = row.typed (ap is_aloud goes.telling ∙ aloud) F scope G its (surrounds_on none.stays names) in
      record {
        row = record { own = x.row.own; type = x.row.type; first = x.row.first; ends = x.row.ends; all = x.row.all; typed = record { carried = carried_trans none x.row.typed.carried; means = x.row.typed.means }; owns = λ all_known. owns_last none x.row.typed.carried (x.row.owns all_known); end = x.row.end };
        done = done_last none x.row.typed.carried x.done;
        among = x.among;
        names = x.names;
      };
}

-- a record whose type is known, over operands
pub known_record : (a b e d : Parts) (env : List Entry) (i : ℕ) (os : List Numbered) (names names' : List Bind) (seen seen' : List Name) (decl : Declaration) (m : ℕ) → OnlyNotes a b → Goes a b → TypesRecord b e env (labels_at os) decl m → Goes b e →
    All IsCarriedField os → FieldsInOrder e d env (Some (decl, m)) (fields_of i os) names names' seen seen' → MatchesRecord a d env (fields_of i os) names names' seen seen' m
known_record a b e d env i os names names' seen seen' decl m notes goes typed goes' carried fields = record {
  added = fields.added;
  adds = fields.adds;
  typed = λ n at. row_after a b d env (precord n at (fields_of i os)) seen fields.added n m (notes_ask a b notes) goes (known_row b e d env n at (fields_of i os) (labels_at os) seen fields.added decl m (fields_ask i os carried) typed goes' fields.typed);
}

-- one whose type isn't known
pub unknown_record : (a b e v d : Parts) (env : List Entry) (i : ℕ) (os : List Numbered) (names names' : List Bind) (seen seen' : List Name) (m : ℕ) → OnlyNotes a b → Goes a b → TypesNoRecord b e env (labels_at os) → Goes b e → TypesAny e v m → Goes e v →
    All IsCarriedField os → FieldsInOrder v d env None (fields_of i os) names names' seen seen' → MatchesRecord a d env (fields_of i os) names names' seen seen' m
unknown_record a b e v d env i os names names' seen seen' m notes goes typed goes' any goes'' carried fields = record {
  added = fields.added;
  adds = fields.adds;
  typed = λ n at. row_after a b d env (precord n at (fields_of i os)) seen fields.added n m (notes_ask a b notes) goes (unknown_row b e v d env n at (fields_of i os) (labels_at os) seen fields.added m (fields_ask i os carried) typed goes' any goes'' fields.typed);
}

-- A record pattern whose node is recorded with its type.
pub record_matches : (a d e : Parts) (env : List Entry) (number : ℕ) (t : Tree) (ty : NodeRef) (names names' : List Bind) (seen seen' : List Name) → (All IsCarriedField (operands_in number t 1) → MatchesRecord a d env (fields_of a.item (operands_in number t 1)) names names' seen seen' ty.0) →
    Goes a d → NotedNameless d e number env (Some ty) → OnlyIndex d e → MatchesNodeOf precord_row a e env number t names names' seen seen' ty.0
record_matches a d e env number t ty names names' seen seen' matched goes noted rest row place carried =
    let x = matched (record_fields number place t row carried) in
    let term = record_term a.item number place t carried.formed row in
    row_matches a d e env number place t ty names names' x.added seen seen' (subst (λ p. MatchesRow a d env p seen x.added (number_of a.item number) ty.0) (sym term) (x.typed (number_of a.item number) place))
    (adds_as (precord (number_of a.item number) place (fields_of a.item (operands_in number t 1))) (row_pattern a.item number place t) term x.adds) goes noted rest
