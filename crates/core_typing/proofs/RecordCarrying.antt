-- Record expressions as the code types them, field by field.
use Rattle.std.proofs.Common.{◌≡◌, ◌∙◌, ◌++◌, ◌+◌, ◌<◌, ℕ, List, [], ◌∷◌, length, map, drop, Option, Some, None, option_map, refl, sym, ap, subst}
use Rattle.std.specs.Prelude.{All, Result, Ok, Err, OnOk, slice_index_or}
use Rattle.std.specs.Option.{IfSome}
use Rattle.std.proofs.lemmas.List.{map-append}
use denote.Ref.{Bor}
use Rattle.token_model.specs.Kinds.{Tok}
use Rattle.tree_model.specs.Extents.{extent_of}
use Rattle.tree_model.specs.Rows.{Row, erecord_row}
use Rattle.tree_model.specs.Trees.{Place, Tree}
use Rattle.signature_model.specs.Declarations.{Name}
use Rattle.syntax_tree.specs.View.{node_view, place_of}
use Rattle.syntax_tree.specs.declared.tree.Node.{Node, out-Node}
use Rattle.syntax_tree.specs.declared.tree.Token.{Token}
use Rattle.row_parts.specs.declared.slots.Operand.{Operand}
use Rattle.row_parts.specs.Numbered as operands
use Rattle.row_parts.specs.Numbered.{Numbered, operand_view, part_of, token_in, path_in, first_in, filled_in, operands_in}
use Rattle.typing_model.specs.Parts.{Written, a_path}
use Rattle.typing_model.specs.Records.{name_in}
use Rattle.type_terms.specs.declared.types.NodeRef.{NodeRef}
use Rattle.env_table.specs.declared.entries.Entry.{Entry}
use Rattle.typing_state.specs.declared.parts.Parts.{Parts}
use Rattle.typing_state.specs.Goes.{Goes}
use Rattle.typing_state.proofs.Going.{goes_trans}
use Rattle.typing_steps.specs.Typing.{TypesTo, TypesRow, AsksEqualIf, path_as}
use Rattle.typing_steps.specs.Warning.{OnlyNotes}
use Rattle.use_typing.specs.declared.record_types.RecordType.{RecordType}
use Rattle.use_typing.specs.declared.record_types.RecordType.TheVariants as record_type
use Rattle.use_typing.specs.Labels.{label_if, toks_of}
use Rattle.use_typing.specs.Records as of_code
use Rattle.use_typing.specs.Records.{TypesRecordType, node_of}
use Rattle.use_typing.specs.Paths.{labels_of}
use Rattle.use_typing.proofs.Reading.{drop_read}
use Rattle.operand_laws.specs.Formed as formed
use Rattle.operand_laws.specs.Operands.{number_of, expression_of}
use Rattle.operand_laws.proofs.Standing.{expression_of_stands}
use Rattle.typing_rows.specs.Asked.{row_expression}
use Rattle.typing_rows.specs.CarriedRows.{IsCarried}
use Rattle.typing_rows.specs.Contracts.{TypesEach}
use Rattle.record_rows.specs.Fields.{RecordHere, BeginsField}
use Rattle.record_rows.specs.Operands.{labels_at}
use Rattle.record_rows.specs.Values.{FieldsWritten, FieldsWrittenFirst}
use Rattle.record_steps.specs.Recording.{NotesScope}
use Rattle.record_rows.specs.ValueOperands.{value_fields_of, IsCarriedValue, PunsValue, TypesFieldBy, TypesFieldPart}
use Rattle.record_rows.specs.RecordExpressions.{TypesHere, HasRecord, GivesRecord, RefusesIf, values_of, loose_part, FindsRecord, FindsUpdated, EndsRecord, TypesMade, TypesLoose, TypesUpdated, IsLooseAt, IsRecordNode}
use Rattle.record_rows.proofs.Nodes.{notes_ask}
use Rattle.record_rows.proofs.RecordNodes.{made_fields, made_record, loose_finds, value_none, value_some, loose_record, updated_record, node_made, node_loose, node_updated}
use Rattle.record_rows.proofs.ValueOperands.{value_operand_more}
use Rattle.expression_steps.specs.declared.forms.RowForm.TheVariants as form
use Rattle.expression_steps.specs.declared.fields.Pieces.{Pieces}
use Rattle.value_forms.specs.Heads.{row_at, label_at}
use Rattle.value_forms.proofs.Nodes.{rows_same, place_of_node}
use Rattle.value_forms.proofs.LabelForms.{label_is}
use Rattle.expression_steps.specs.Forms.{form_of}
use Rattle.expression_steps.specs.Records.{here_of, names_written}
use Rattle.core_typing.specs.Records.{AreCarriedPieces, RecordsValue, TypesMadeOr, TypesPieces}
use Rattle.binding_steps.proofs.ParameterLaws.{read_one}
use Rattle.core_typing.proofs.LabelLaws.{operand_loose}

record_form : (r : Row) → form_of r ≡ form.Record → r ≡ erecord_row
record_form erecord_row e = refl
record_form _ e = absurd (cc)

-- a record by the form of its row
pub by_record : (t : Tree) → form_of (row_at t) ≡ form.Record → formed.row_of t ≡ erecord_row
by_record t e = rows_same t ∙ record_form (row_at t) e

-- the beginning of a field, by what is known of its record
begins_here : (found : RecordType) (a b : Parts) (labels : List Name) (p : Written) (ty : Option ℕ) → of_code.BeginsField found a b labels p ty → BeginsField (here_of found) a b labels p ty
begins_here (record_type.Known d m) a b labels p ty h = h
begins_here record_type.Open a b labels p ty h = h

-- the names of labels, with one that may be missing
labels_more : (old new : List (Bor Token)) (qs : List Tok) (last : Option Tok) → toks_of new ≡ toks_of old ++ label_if last → names_written new ≡ names_written old ++ name_in (record { qualifiers = qs; last = last })
labels_more old new qs None e = ap (map (λ (t : Tok). t.name)) e ∙ map-append (λ (t : Tok). t.name) (toks_of old) []
labels_more old new qs (Some t) e = ap (map (λ (t : Tok). t.name)) e ∙ map-append (λ (t : Tok). t.name) (toks_of old) (t ∷ [])

-- a field with a value of its own
pub field_given : {A E : Type 0} (r : Result A E) (a mid d : Parts) (env : List Entry) (found : RecordType) (number : ℕ) (l : operands.Written) (given : Option Operand) (o : Operand) (wanted : Option NodeRef) (old new : List (Bor Token)) → given ≡ Some o →
    of_code.BeginsField found a mid (names_written old) (path_as l) (option_map (λ (n : NodeRef). n.0) wanted) → Goes a mid → toks_of new ≡ toks_of old ++ label_if l.last → OnOk r (RecordsValue mid d env (number_of mid.item number) (operand_view o) (option_map (λ (n : NodeRef). n.0) wanted)) →
    OnOk r (TypesFieldBy (option_map operand_view given) a d env (here_of found) number (path_as l) (names_written old) (names_written new))
field_given (Err e) a mid d env found number l given o wanted old new there begins goes labelled h = tt
field_given (Ok x) a mid d env found number l given o wanted old new there begins goes labelled h =
    subst (λ v. TypesFieldBy (option_map operand_view v) a d env (here_of found) number (path_as l) (names_written old) (names_written new)) (sym there) (record {
      mid = mid;
      told = h.told;
      type = option_map (λ (n : NodeRef). n.0) wanted;
      begins = begins_here found a mid (names_written old) (path_as l) (option_map (λ (n : NodeRef). n.0) wanted) begins;
      noted = subst (λ i. NotesScope mid h.told (number_of i number) env) goes.item h.noted;
      value = h.value;
      goes_mid = goes;
      goes_told = h.goes;
      labelled = labels_more old new l.qualifiers l.last labelled;
    })

-- a field without one
pub field_punned : {A E : Type 0} (r : Result A E) (a mid d : Parts) (env : List Entry) (found : RecordType) (number : ℕ) (l : operands.Written) (given : Option Operand) (wanted : Option NodeRef) (old new : List (Bor Token)) → given ≡ None →
    of_code.BeginsField found a mid (names_written old) (path_as l) (option_map (λ (n : NodeRef). n.0) wanted) → Goes a mid → toks_of new ≡ toks_of old ++ label_if l.last → OnOk r (PunsValue l.last mid d env (number_of mid.item number) wanted) →
    OnOk r (TypesFieldBy (option_map operand_view given) a d env (here_of found) number (path_as l) (names_written old) (names_written new))
field_punned (Err e) a mid d env found number l given wanted old new none begins goes labelled h = tt
field_punned (Ok x) a mid d env found number l given wanted old new none begins goes labelled h =
    subst (λ v. TypesFieldBy (option_map operand_view v) a d env (here_of found) number (path_as l) (names_written old) (names_written new)) (sym none) (record {
      mid = mid;
      wanted = wanted;
      begins = begins_here found a mid (names_written old) (path_as l) (option_map (λ (n : NodeRef). n.0) wanted) begins;
      puns = subst (λ i. PunsValue l.last mid d env (number_of i number) wanted) goes.item h;
      goes = goes;
      labelled = labels_more old new l.qualifiers l.last labelled;
    })

-- a field that is missing
pub field_absent : (a : Parts) (env : List Entry) (here : RecordHere) (o : Operand) (labels : List Name) → o.node ≡ None → TypesFieldPart a a env here o.number (operand_view o).part labels labels
field_absent a env here o labels none = subst (λ x. TypesFieldPart a a env here o.number (part_of x o.span) labels labels) (sym none) (refl, refl)

-- one that is there, by its label and its value
pub field_by : {A E : Type 0} (r : Result A E) (a d : Parts) (env : List Entry) (here : RecordHere) (o : Operand) (nd : Bor Node) (l : operands.Written) (value : Option Operand) (labels labels' : List Name) → o.node ≡ Some nd → l ≡ path_in (node_view nd.now) 0 1 →
    option_map operand_view value ≡ first_in o.number (node_view nd.now) 3 → OnOk r (TypesFieldBy (option_map operand_view value) a d env here o.number (path_as l) labels labels') → OnOk r (TypesFieldPart a d env here o.number (operand_view o).part labels labels')
field_by (Err e) a d env here o nd l value labels labels' some label given h = tt
field_by (Ok x) a d env here o nd l value labels labels' some label given h =
    subst (λ m. TypesFieldPart a d env here o.number (part_of m o.span) labels labels') (sym some)
    (subst (λ p. TypesFieldBy (first_in o.number (node_view nd.now) 3) a d env here o.number (path_as p) labels labels') label (subst (λ v. TypesFieldBy v a d env here o.number (path_as l) labels labels') given h))

-- one field more
pub value_step : (a b d : Parts) (env : List Entry) (found now : RecordHere) (all : List Operand) (i : ℕ) (x : Operand) (labels before after : List Name) → i < length all → x ≡ slice_index_or all i x → Goes a b → now ≡ found →
    (All IsCarriedValue (map operand_view all) → FieldsWrittenFirst a b env found (value_fields_of a.item (map operand_view all)) (value_fields_of a.item (map operand_view (drop i all))) labels before) → TypesFieldPart b d env now x.number (operand_view x).part before after →
    All IsCarriedValue (map operand_view all) → FieldsWrittenFirst a d env found (value_fields_of a.item (map operand_view all)) (value_fields_of a.item (map operand_view (drop (i + 1) all))) labels after
value_step a b d env found now all i x labels before after lt is goes same first one carried =
    value_operand_more a b d env found (value_fields_of a.item (map operand_view all)) (operand_view x) (map operand_view (drop (i + 1) all)) labels before after goes (read_one IsCarriedValue all i x lt is carried)
    (subst (λ os. FieldsWrittenFirst a b env found (value_fields_of a.item (map operand_view all)) (value_fields_of a.item (map operand_view os)) labels before) (drop_read all i x lt is) (first carried))
    (subst (λ h. TypesFieldPart b d env h x.number (operand_view x).part before after) same one)

-- { l = e }
pub made_done : (a e f d v : Parts) (env : List Entry) (h h0 h1 h2 : RecordHere) (at : Place) (number : ℕ) (l : Written) (value : Option Numbered) (os : List Numbered) (ls0 ls1 ls2 : List Name) (m : ℕ) → h0 ≡ h → h1 ≡ h0 → h2 ≡ h1 → ls0 ≡ [] → FindsRecord a e env h (λ n c. []) (l ∷ labels_at os) →
    TypesFieldBy value e f env h0 number l ls0 ls1 → Goes e f → (All IsCarriedValue os → FieldsWritten f d env h1 (value_fields_of f.item os) ls1 ls2) → Goes f d → EndsRecord d v h2 ls2 at m → IfSome value IsCarried → All IsCarriedValue os → TypesMade a v env at number l value os m
made_done a e f d v env h h0 h1 h2 at number l value os ls0 ls1 ls2 m is0 is1 is2 none finds first goes rest goes' ends given carried =
    let second : h1 ≡ h = is1 ∙ is0 in
    let third : h2 ≡ h = is2 ∙ second in
    let first_here : TypesFieldBy value e f env h number l [] ls1 = subst (λ ls. TypesFieldBy value e f env h number l ls ls1) none (subst (λ k. TypesFieldBy value e f env k number l ls0 ls1) is0 first) in
    let rest_here : FieldsWritten f d env h (value_fields_of f.item os) ls1 ls2 = subst (λ k. FieldsWritten f d env k (value_fields_of f.item os) ls1 ls2) second (rest carried) in
    made_record a e d v env h at number l value os ls2 m carried finds (made_fields e f d env h number l value os [] ls1 ls2 given first_here goes rest_here) (goes_trans e f d goes goes') (subst (λ k. EndsRecord d v k ls2 at m) third ends)

-- the same with a first part that is no label
pub loose_done : (a e f d v : Parts) (env : List Entry) (h h0 h1 : RecordHere) (at : Place) (first : Numbered) (value : Option Numbered) (os : List Numbered) (ls0 ls1 : List Name) (m : ℕ) → h0 ≡ h → h1 ≡ h0 → ls0 ≡ [] →
    FindsRecord a e env h (λ n c. loose_part first.part n (expression_of a.item first) c) (labels_at os) → TypesEach e f env (values_of (option_map (expression_of e.item) value)) → Goes e f → (All IsCarriedValue os → FieldsWritten f d env h0 (value_fields_of f.item os) ls0 ls1) → Goes f d →
    EndsRecord d v h1 ls1 at m → All IsCarriedValue os → TypesLoose a v env at first value os m
loose_done a e f d v env h h0 h1 at first value os ls0 ls1 m is0 is1 none finds typed goes fields goes' ends carried =
    loose_record a e f d v env h at first value os ls1 m carried finds typed goes
    (subst (λ ls. FieldsWritten f d env h (value_fields_of f.item os) ls ls1) none (subst (λ k. FieldsWritten f d env k (value_fields_of f.item os) ls0 ls1) is0 (fields carried))) goes'
    (subst (λ k. EndsRecord d v k ls1 at m) (is1 ∙ is0) ends)

-- { e with l = e }
pub updated_done : (a f d v : Parts) (env : List Entry) (h h0 h1 : RecordHere) (first : Numbered) (os : List Numbered) (ls0 ls1 : List Name) (m : ℕ) → h0 ≡ h → h1 ≡ h0 → ls0 ≡ [] → FindsUpdated a f env h (expression_of a.item first) (labels_at os) →
    (All IsCarriedValue os → FieldsWritten f d env h0 (value_fields_of f.item os) ls0 ls1) → GivesRecord h1 d v m → All IsCarriedValue os → TypesUpdated a v env first os m
updated_done a f d v env h h0 h1 first os ls0 ls1 m is0 is1 none finds fields gives carried =
    updated_record a f d v env h first os ls1 m carried finds
    (subst (λ ls. FieldsWritten f d env h (value_fields_of f.item os) ls ls1) none (subst (λ k. FieldsWritten f d env k (value_fields_of f.item os) ls0 ls1) is0 (fields carried)))
    (subst (λ k. GivesRecord k d v m) (is1 ∙ is0) gives)

-- what labels carry, by what is known of their record
types_here : (found : RecordType) (a b : Parts) (env : List Entry) (os : List Numbered) → TypesRecordType found a b env (map path_as (labels_of os)) → TypesHere (here_of found) a b env (labels_at os)
types_here (record_type.Known d m) a b env os h = h
types_here record_type.Open a b env os h = h

-- a first part that is no label, and the record type of the labels behind it
pub behind_done : (a b f e : Parts) (env : List Entry) (found : RecordType) (first : Operand) (w : ℕ) (os : List Numbered) → RefusesIf (operand_view first).part a b (place_of first.span) → Goes a b →
    TypesTo b f env (λ c. (expression_of b.item (operand_view first)).typed c) (λ ch. ch.type_at (expression_of b.item (operand_view first)).node) w → Goes b f → TypesRecordType found f e env (map path_as (labels_of os)) → Goes f e →
    FindsRecord a e env (here_of found) (λ n c. loose_part (operand_view first).part n (expression_of a.item (operand_view first)) c) (labels_at os)
behind_done a b f e env found first w os refused goes typed goes' labels goes'' =
    loose_finds a b f e env (here_of found) (operand_view first) w (labels_at os) refused goes typed goes' (types_here found f e env os labels) goes''

-- the part of a record that is updated has its type, where that is known
has_record : (found : RecordType) (a b : Parts) (env : List Entry) (at : Place) (w : ℕ) → AsksEqualIf a b env at w (node_of found) → HasRecord (here_of found) a b env at w
has_record (record_type.Known d m) a b env at w h = h
has_record record_type.Open a b env at w h = h

-- the part of a record that is updated, and the record type of the labels
pub part_done : (a b f e d : Parts) (env : List Entry) (found : RecordType) (wanted : Option NodeRef) (first : Operand) (w : ℕ) (os : List Numbered) → OnlyNotes a b → Goes a b →
    TypesTo b f env (λ c. (expression_of b.item (operand_view first)).typed c) (λ ch. ch.type_at (expression_of b.item (operand_view first)).node) w → Goes b f → TypesRecordType found f e env (map path_as (labels_of os)) → Goes f e → wanted ≡ node_of found →
    AsksEqualIf e d env (place_of first.span) w wanted → Goes e d → FindsUpdated a d env (here_of found) (expression_of a.item (operand_view first)) (labels_at os)
part_done a b f e d env found wanted first w os notes goes typed goes' labels goes'' same asked goes''' = record {
  begun = b;
  mid = f;
  found = e;
  node = w;
  noted = notes_ask a b notes;
  goes = goes;
  first = subst (λ i. TypesTo b f env (λ c. (expression_of i (operand_view first)).typed c) (λ ch. ch.type_at (expression_of i (operand_view first)).node) w) goes.item typed;
  goes_first = goes';
  typed = types_here found f e env os labels;
  goes_typed = goes'';
  has = subst (λ at. HasRecord (here_of found) e d env at w) (sym (expression_of_stands a.item (operand_view first)).where_it_is) (has_record found e d env (place_of first.span) w (subst (AsksEqualIf e d env (place_of first.span) w) same asked));
  goes_has = goes''';
}

-- the value behind a first part that is no label
pub value_typed : (a b : Parts) (env : List Entry) (o : Operand) (w : ℕ) → (IsCarried (operand_view o) → TypesTo a b env (λ c. (expression_of a.item (operand_view o)).typed c) (λ ch. ch.type_at (expression_of a.item (operand_view o)).node) w) →
    IsCarried (operand_view o) → TypesEach a b env (values_of (Some (expression_of a.item (operand_view o))))
value_typed a b env o w typed carried = value_some a b env (operand_view o) w (typed carried)

-- one that isn't there
pub value_absent : (a : Parts) (env : List Entry) → TypesEach a a env (values_of None)
value_absent a env = value_none a env

-- a record by the code's pieces
pub record_done : (a d : Parts) (env : List Entry) (n : ℕ) (nd : Node) (p : Pieces) (w : Option Tok) (m : ℕ) → place_of p.span ≡ place_of (out-Node nd).span → operand_view p.first ≡ filled_in n (node_view nd) 1 → option_map operand_view p.value ≡ first_in n (node_view nd) 3 →
    map operand_view p.fields.items ≡ operands_in n (node_view nd) 5 → w ≡ token_in (node_view nd) 4 → (AreCarriedPieces p → TypesPieces w a d env p m) → IsRecordNode n (node_view nd) →
    TypesRow a d env (λ c. (row_expression a.item n (extent_of (node_view nd)).span (node_view nd)).typed c) (number_of a.item n) m
record_done a d env n nd p w m span first value fields word typed h = by w refl (typed pieces)
  where
    t : Tree
    t = node_view nd

    at : Place
    at = (extent_of (node_view nd)).span

    here : place_of p.span ≡ at
    here = span ∙ sym (place_of_node nd)

    pieces : AreCarriedPieces p
    pieces = record { first = subst IsCarried (sym first) h.first; value = subst (λ o. IfSome o IsCarried) (sym value) h.value; fields = subst (All IsCarriedValue) (sym fields) h.fields }

    made : (l : Option operands.Written) → label_at (operand_view p.first).part ≡ l → w ≡ None → TypesMadeOr l a d env p m → TypesRow a d env (λ c. (row_expression a.item n at t).typed c) (number_of a.item n) m
    made (Some l) is none x =
        node_made a d env n at t (path_as l) m h (sym word ∙ none) (subst (λ o. (expression_of a.item o).form ≡ a_path (path_as l)) first (label_is a.item (operand_view p.first) l is))
        (λ k. subst (λ q. TypesMade a d env q (filled_in n t 1).number (path_as l) (first_in n t 3) (operands_in n t 5) m) here
        (subst (λ os. TypesMade a d env (place_of p.span) (filled_in n t 1).number (path_as l) (first_in n t 3) os m) fields
        (subst (λ v. TypesMade a d env (place_of p.span) (filled_in n t 1).number (path_as l) v (map operand_view p.fields.items) m) value
        (subst (λ o. TypesMade a d env (place_of p.span) o.number (path_as l) (option_map operand_view p.value) (map operand_view p.fields.items) m) first x))) k)
    made None is none x =
        node_loose a d env n at t m h (sym word ∙ none) (subst (λ o. IsLooseAt o.part (expression_of a.item o).form) first (operand_loose a.item (operand_view p.first) is pieces.first.rows))
        (λ k. subst (λ q. TypesLoose a d env q (filled_in n t 1) (first_in n t 3) (operands_in n t 5) m) here
        (subst (λ os. TypesLoose a d env (place_of p.span) (filled_in n t 1) (first_in n t 3) os m) fields
        (subst (λ v. TypesLoose a d env (place_of p.span) (filled_in n t 1) v (map operand_view p.fields.items) m) value
        (subst (λ o. TypesLoose a d env (place_of p.span) o (option_map operand_view p.value) (map operand_view p.fields.items) m) first x))) k)

    by : (o : Option Tok) → w ≡ o → TypesPieces w a d env p m → TypesRow a d env (λ c. (row_expression a.item n at t).typed c) (number_of a.item n) m
    by None is x = made (label_at (operand_view p.first).part) refl is (subst (λ o. TypesPieces o a d env p m) is x)
    by (Some s) is x =
        node_updated a d env n at t s m h (sym word ∙ is)
        (λ k. subst (λ os. TypesUpdated a d env (filled_in n t 1) os m) fields (subst (λ o. TypesUpdated a d env o (map operand_view p.fields.items) m) first (subst (λ o. TypesPieces o a d env p m) is x)) k)

-- what holds anyway holds of a result
pub on_any : {A E : Type 0} (r : Result A E) (P : Type 0) → P → OnOk r P
on_any (Ok x) P p = p
on_any (Err e) P p = tt
