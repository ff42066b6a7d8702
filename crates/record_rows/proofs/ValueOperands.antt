-- The operands of a record expression are its fields, in order; those that are missing ask nothing.
use Rattle.std.proofs.Common.{◌≡◌, ◌∙◌, ℕ, List, [], ◌∷◌, Option, Some, None, option_map, refl, sym, ap, subst}
use Rattle.std.specs.Prelude.{All, IfSome}
use Rattle.std.specs.List.{cons_option}
use Rattle.std.proofs.lemmas.List.Elements.{All-head, All-tail}
use Rattle.token_model.specs.Kinds.{Tok}
use Rattle.tree_model.specs.Rows.{ffield_row}
use Rattle.tree_model.specs.Slots.{is_operand}
use Rattle.tree_model.specs.Trees.{Place, Part, Tree, node, taken, inner, missing}
use Rattle.signature_model.specs.Declarations.{Name}
use Rattle.row_parts.specs.Numbered.{Numbered, numbered, first_in, path_in}
use Rattle.typing_model.specs.Meanings as meanings
use Rattle.typing_model.specs.Parts.{Written, Field}
use Rattle.typing_model.specs.Expressions as expressions
use Rattle.type_terms.specs.declared.types.NodeRef.{NodeRef}
use Rattle.env_table.specs.declared.entries.Entry.{Entry}
use Rattle.typing_state.specs.declared.parts.Parts.{Parts}
use Rattle.typing_state.specs.Goes.{Goes}
use Rattle.typing_state.proofs.Going.{goes_refl}
use Rattle.typing_conditions.proofs.Carried.{carried_refl}
use Rattle.typing_conditions.proofs.Hiding.{done_none}
use Rattle.typing_steps.specs.Typing.{path_as}
use Rattle.operand_laws.specs.Formed.{row_of, IsFormed}
use Rattle.operand_laws.specs.Operands.{number_of, parts_of, expression_of}
use Rattle.operand_laws.proofs.Sorts.{first_expression_stands}
use Rattle.operand_laws.proofs.Tokens.{path_stands}
use Rattle.typing_rows.specs.CarriedRows.{IsCarried}
use Rattle.typing_rows.specs.Contracts.{TypesAsIf}
use Rattle.record_rows.specs.Fields.{RecordHere}
use Rattle.record_rows.specs.Operands.{labels_at}
use Rattle.record_rows.specs.Values.{TypesValue, TypesLabelled, FieldsWrittenFirst}
use Rattle.typing_steps.specs.States.{is_aloud}
use Rattle.record_rows.specs.ValueOperands.{labelled_field, value_field_of, value_fields_of, IsCarriedValuePart, IsCarriedValue, IsFormedFieldPart, AreFormedFields, PunsValue, TypesFieldBy, TypesFieldPart}
use Rattle.record_rows.proofs.Operands.{AreLabels, no_labels, one_label, left_out, labels_ask}
use Rattle.record_rows.proofs.Rows.{AskAlike}
use Rattle.record_rows.proofs.Values.{given_value, punned_value, written_more}

-- the value of a field that has none of its own
pub pun_value : (a d : Parts) (env : List Entry) (k : ℕ) (qs : List Tok) (last : Option Tok) (wanted : Option NodeRef) → PunsValue last a d env k wanted →
    TypesValue a d env (record { node = k; label = record { qualifiers = qs; last = last }; value = None }) (option_map (λ (w : NodeRef). w.0) wanted)
pun_value a d env k qs None wanted nothing = λ aloud F scope G t its names has. record { letters = []; carried = nothing.asks F scope G; done = done_none; scoped = nothing.scope aloud }
pun_value a d env k qs (Some t) wanted x = punned_value a x.used x.asked d env k qs t x.node wanted x.typed x.goes x.equal x.noted

-- What comes of it.
pub field_comes : (o : Option Numbered) (a d : Parts) (env : List Entry) (here : RecordHere) (n : ℕ) (l : Written) (labels labels' : List Name) → IfSome o IsCarried → TypesFieldBy o a d env here n l labels labels' → TypesLabelled a d env here (labelled_field a.item n l o) labels labels'
field_comes None a d env here n l labels labels' carried x = record {
  mid = x.mid;
  told = x.mid;
  type = option_map (λ (w : NodeRef). w.0) x.wanted;
  begins = x.begins;
  noted = λ F scope G. carried_refl;
  value = pun_value x.mid d env (number_of a.item n) l.qualifiers l.last x.wanted x.puns;
  goes_mid = x.goes;
  goes_told = goes_refl x.mid;
  labelled = x.labelled;
}
field_comes (Some o) a d env here n l labels labels' carried x = record {
  mid = x.mid;
  told = x.told;
  type = x.type;
  begins = x.begins;
  noted = x.noted.asks;
  value = let item : x.told.item ≡ a.item = x.goes_told.item ∙ x.goes_mid.item in
      given_value x.told d env (number_of a.item n) l (expression_of a.item o) x.type (λ loud. x.noted.scope (sym (ap is_aloud x.goes_told.telling) ∙ loud)) (subst (λ i. TypesAsIf x.told d env (expression_of i o) x.type) item (x.value carried));
  goes_mid = x.goes_mid;
  goes_told = x.goes_told;
  labelled = x.labelled;
}

-- a field of a node, by its parts
pub value_field_there : (i n : ℕ) (at : Place) (t : Tree) → IsFormed n t → row_of t ≡ ffield_row → value_field_of i (numbered n at (inner t)) ≡ Some (labelled_field i n (path_as (path_in t 0 1)) (first_in n t 3))
unfolding is_operand
value_field_there i n at t formed row =
    by_row t ∙ ap (λ q. meanings.field_of q (number_of i n) (parts_of i n t)) row ∙
    (λ k. Some (record { node = number_of i n; label = path_stands i n t 0 1 k; value = first_expression_stands i n t 3 formed (ap (λ q. is_operand q 3) row) k }))
  where
    by_row : (t : Tree) → value_field_of i (numbered n at (inner t)) ≡ meanings.field_of (row_of t) (number_of i n) (parts_of i n t)
    by_row (node r x ps) = refl

-- the labels of operands that are such fields are those of the fields
pub formed_labels : (i : ℕ) (os : List Numbered) → AreFormedFields os → AreLabels (labels_at os) (expressions.labels_of (value_fields_of i os))
formed_labels i [] all = no_labels
formed_labels i (o ∷ os) all = by o.part (All-head (λ o. IsFormedFieldPart o.number o.part) o os all) (formed_labels i os (All-tail (λ o. IsFormedFieldPart o.number o.part) o os all))
  where
    by : (p : Part) → IsFormedFieldPart o.number p → AreLabels (labels_at os) (expressions.labels_of (value_fields_of i os)) →
        AreLabels (labels_at (numbered o.number o.at p ∷ os)) (expressions.labels_of (value_fields_of i (numbered o.number o.at p ∷ os)))
    by (taken t) h later = left_out refl later
    by (missing at) h later = left_out refl later
    by (inner t) h later =
        subst (λ x. AreLabels (labels_at (numbered o.number o.at (inner t) ∷ os)) (expressions.labels_of (cons_option x (value_fields_of i os)))) (sym (value_field_there i o.number o.at t h.formed h.row)) (one_label later)

-- fields whose values are carried are well formed
formed_part : (n : ℕ) (p : Part) → IsCarriedValuePart n p → IsFormedFieldPart n p
formed_part n (taken t) h = tt
formed_part n (inner t) h = record { formed = h.formed; row = h.row }
formed_part n (missing at) h = tt

pub carried_formed : (os : List Numbered) → All IsCarriedValue os → AreFormedFields os
carried_formed os all k d lt = formed_part _ _ (all k d lt)

-- so they ask the same
pub value_labels_ask : (i : ℕ) (os : List Numbered) → All IsCarriedValue os → AskAlike (labels_at os) (expressions.labels_of (value_fields_of i os))
value_labels_ask i os all = labels_ask (formed_labels i os (carried_formed os all))

-- also after a first label
pub first_labels_ask : (i : ℕ) (l : Written) (os : List Numbered) → All IsCarriedValue os → AskAlike (l ∷ labels_at os) (l ∷ expressions.labels_of (value_fields_of i os))
first_labels_ask i l os all = labels_ask (one_label (formed_labels i os (carried_formed os all)))

-- One operand more in a loop.
pub value_operand_more : (a b d : Parts) (env : List Entry) (here : RecordHere) (all : List Field) (o : Numbered) (os : List Numbered) (labels now later : List Name) → Goes a b → IsCarriedValue o → FieldsWrittenFirst a b env here all (value_fields_of a.item (o ∷ os)) labels now →
    TypesFieldPart b d env here o.number o.part now later → FieldsWrittenFirst a d env here all (value_fields_of a.item os) labels later
value_operand_more a b d env here all o os labels now later goes carried first one = by o.part carried first one
  where
    still : (d ≡ b) × (later ≡ now) → FieldsWrittenFirst a b env here all (value_fields_of a.item os) labels now → FieldsWrittenFirst a d env here all (value_fields_of a.item os) labels later
    still (p, q) h = subst (λ z. FieldsWrittenFirst a z env here all (value_fields_of a.item os) labels later) (sym p) (subst (λ ls. FieldsWrittenFirst a b env here all (value_fields_of a.item os) labels ls) (sym q) h)

    by : (p : Part) → IsCarriedValue (numbered o.number o.at p) → FieldsWrittenFirst a b env here all (value_fields_of a.item (numbered o.number o.at p ∷ os)) labels now → TypesFieldPart b d env here o.number p now later →
        FieldsWrittenFirst a d env here all (value_fields_of a.item os) labels later
    by (taken t) h x y = still y x
    by (missing at) h x y = still y x
    by (inner t) h x y =
        let label = path_as (path_in t 0 1) in
        let field = labelled_field a.item o.number label (first_in o.number t 3) in
        let one = field_comes (first_in o.number t 3) b d env here o.number label now later h.value y in
        let split : value_fields_of a.item (numbered o.number o.at (inner t) ∷ os) ≡ field ∷ value_fields_of a.item os = ap (λ x. cons_option x (value_fields_of a.item os)) (value_field_there a.item o.number o.at t h.formed h.row) in
        written_more a b d env here all (value_fields_of a.item (numbered o.number o.at (inner t) ∷ os)) (value_fields_of a.item os) field labels now later split goes x
        (subst (λ i. TypesLabelled b d env here (labelled_field i o.number label (first_in o.number t 3)) now later) goes.item one)
