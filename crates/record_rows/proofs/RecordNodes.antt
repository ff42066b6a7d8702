-- A record expression by the calls of its functions.
use Rattle.std.proofs.Common.{◌≡◌, ◌∙◌, ◌++◌, ℕ, false, List, [], ◌∷◌, Option, Some, None, option_map, refl, sym, ap, subst, append-nil, if◌then◌else◌}
use Rattle.std.specs.Prelude.{All, IfSome}
use Rattle.text_terms.specs.declared.Span.{Span}
use Rattle.syntax_tree.specs.View as view
use Rattle.token_model.specs.Kinds.{Tok}
use Rattle.tree_model.specs.Rows.{erecord_row}
use Rattle.tree_model.specs.Slots.{is_operand}
use Rattle.tree_model.specs.Trees.{Place, Tree, Part, taken, inner, missing}
use Rattle.signature_model.specs.Declarations.{Name}
use Rattle.row_parts.specs.Numbered.{Numbered, first_in, filled_in, operands_in, token_in}
use Rattle.typing_model.specs.Demands.{site, test, no_label}
use Rattle.typing_model.specs.Demands as complaint
use Rattle.typing_model.specs.Contexts.{Context, ask}
use Rattle.typing_model.specs.Parts as parts
use Rattle.typing_model.specs.Parts.{Written, Form, a_constructor, a_path, a_float, a_false, a_field, no_expression, other, Expression, Field}
use Rattle.typing_model.specs.Expressions as expressions
use Rattle.typing_model.specs.Expressions.{expression_row, record_expression, update_expression, record_asks, update_asks, typed_all, before_labels, loose_value, first_field, names_of_labels, fields_in, is_some}
use Rattle.env_table.specs.declared.entries.Entry.{Entry}
use Rattle.env_table.specs.declared.faults.FaultKind.TheVariants as fault
use Rattle.typing_state.specs.declared.parts.Parts.{Parts}
use Rattle.typing_state.specs.Goes.{faults_of, Goes, OnlyFaults, Told}
use Rattle.typing_state.proofs.Going.{goes_refl, goes_trans}
use Rattle.typing_state.specs.Messages.{no_label_text}
use Rattle.typing_conditions.specs.Carrying.{Asks}
use Rattle.typing_conditions.proofs.Carried.{carried_refl, carried_trans, carried_as}
use Rattle.typing_conditions.proofs.Surrounding.{surrounds_on}
use Rattle.typing_steps.specs.States.{is_aloud}
use Rattle.typing_steps.specs.Typing.{TypesTo, TypesRow}
use Rattle.typing_steps.specs.Warning.{OnlyNotes}
use Rattle.typing_steps.proofs.Testing.{complaint_told}
use Rattle.operand_laws.specs.Formed.{row_of, is_needed, IsFormed}
use Rattle.operand_laws.specs.Operands.{number_of, parts_of, expression_of}
use Rattle.operand_laws.proofs.Sorts.{chosen_stand}
use Rattle.operand_laws.proofs.Standing.{expression_of_stands}
use Rattle.operand_laws.proofs.Tokens.{token_stands}
use Rattle.typing_rows.specs.Asked.{row_expression}
use Rattle.typing_rows.specs.CarriedRows.{IsCarried}
use Rattle.typing_rows.specs.Contracts.{TypesEach}
use Rattle.typing_rows.proofs.Terms.{one, perhaps, as_row}
use Rattle.record_rows.specs.Fields.{RecordHere}
use Rattle.record_rows.specs.Operands.{labels_at}
use Rattle.record_rows.specs.Values.{TypesFields, FieldsWritten, Carries}
use Rattle.record_rows.specs.Completing.{Completes}
use Rattle.record_rows.specs.ValueOperands.{labelled_field, value_fields_of, IsCarriedValue, TypesFieldBy}
use Rattle.record_rows.specs.RecordExpressions.{TypesHere, GivesRecord, RefusesPart, RefusesIf, values_of, loose_part, FindsRecord, FindsUpdated, EndsRecord, TypesMade, TypesLoose, TypesUpdated, IsLooseAt, IsRecordNode}
use Rattle.record_rows.proofs.Nodes.{notes_ask}
use Rattle.record_rows.proofs.Rows.{AskAlike}
use Rattle.record_rows.proofs.RecordExpressions.{known_made_row, unknown_made_row, known_updated_row, unknown_updated_row, row_behind}
use Rattle.record_rows.proofs.ValueOperands.{field_comes, value_labels_ask, first_labels_ask}
use Rattle.record_rows.proofs.Values.{written_then}

-- a record that is made, by what is known of its type
made_row : (here : RecordHere) (a e f d g v : Parts) (env : List Entry) (n : ℕ) (at : Place) (fs : List Field) (ps : List Written) (before : ℕ → Asks) (loose : Asks) (m : ℕ) → AskAlike ps (expressions.labels_of fs) → FindsRecord a e env here before ps → Carries e f env loose → Goes e f →
    TypesFields f d env here [] fs → Goes f d → Completes d g here (names_of_labels fs) at → GivesRecord here g v m → TypesRow a v env (λ c. record_asks c n at (before n c) (loose c) fs) n m
made_row None a e f d g v env n at fs ps before loose m alike finds more goes fields goes_f complete any =
    unknown_made_row a finds.mid e f d g v env n at fs ps (before n) loose m alike (finds.first n) finds.goes finds.typed finds.goes_typed more goes fields goes_f complete any
made_row (Some (decl, w)) a e f d g v env n at fs ps before loose m alike finds more goes fields goes_f complete (is, same) =
    subst (λ z. TypesRow a z env (λ c. record_asks c n at (before n c) (loose c) fs) n m) (sym same) (subst (λ k. TypesRow a g env (λ c. record_asks c n at (before n c) (loose c) fs) n k) (sym is)
    (known_made_row a finds.mid e f d g env n at fs ps (before n) loose decl w alike (finds.first n) finds.goes finds.typed finds.goes_typed more goes fields goes_f complete))

-- the record type of a record that is made, after the fields that are missing
pub made_finds : (a b e : Parts) (env : List Entry) (here : RecordHere) (ps : List Written) → OnlyNotes a b → Goes a b → TypesHere here b e env ps → Goes b e → FindsRecord a e env here (λ n c. []) ps
made_finds a b e env here ps notes goes typed goes_b = record { mid = b; first = λ n aloud F scope G names. notes_ask a b notes F scope G; goes = goes; typed = typed; goes_typed = goes_b }

-- its first field, and the others
pub made_fields : (e f d : Parts) (env : List Entry) (here : RecordHere) (number : ℕ) (l : Written) (value : Option Numbered) (os : List Numbered) (labels now later : List Name) → IfSome value IsCarried → TypesFieldBy value e f env here number l labels now → Goes e f →
    FieldsWritten f d env here (value_fields_of f.item os) now later → FieldsWritten e d env here (labelled_field e.item number l value ∷ value_fields_of e.item os) labels later
made_fields e f d env here number l value os labels now later carried first goes all =
    written_then e f d env here (labelled_field e.item number l value) (value_fields_of e.item os) labels now later (field_comes value e f env here number l labels now carried first) goes
    (subst (λ i. FieldsWritten f d env here (value_fields_of i os) now later) goes.item all)

-- A record that is made, over operands.
pub made_record : (a e d v : Parts) (env : List Entry) (here : RecordHere) (at : Place) (number : ℕ) (l : Written) (value : Option Numbered) (os : List Numbered) (labels : List Name) (m : ℕ) → All IsCarriedValue os → FindsRecord a e env here (λ n c. []) (l ∷ labels_at os) →
    FieldsWritten e d env here (labelled_field e.item number l value ∷ value_fields_of e.item os) [] labels → Goes e d → EndsRecord d v here labels at m → TypesMade a v env at number l value os m
made_record a e d v env here at number l value os labels m carried finds fields goes ends n =
    let fs : ℕ → List Field = λ i. labelled_field i number l value ∷ value_fields_of i os in
    let item : e.item ≡ a.item = finds.goes_typed.item ∙ finds.goes.item in
    subst (λ i. TypesRow a v env (λ c. record_asks c n at [] [] (fs i)) n m) item
    (made_row here a e e d ends.mid v env n at (fs e.item) (l ∷ labels_at os) (λ n c. []) (λ c. []) m (first_labels_ask e.item l os carried) finds (λ aloud F scope G names. carried_refl) (goes_refl e) fields.typed goes
    (subst (λ ls. Completes d ends.mid here ls at) fields.written ends.complete) ends.type)

-- that a first part is no label is reported
pub part_refused : (a b : Parts) (span : Span) → Told a.telling (faults_of a) (faults_of b) span fault.Label no_label_text → OnlyFaults a b → RefusesPart a b (view.place_of span)
part_refused a b span told rest = λ aloud F scope G n. (complaint_told a b {F = F} {scope = scope} {G = G} complaint.no_label (site n 0) aloud told rest).carried

-- also before the fields that are missing
pub refused_then : (a b d : Parts) (at : Place) → RefusesPart a b at → OnlyNotes b d → RefusesPart a d at
refused_then a b d at refused notes = λ aloud F scope G n. carried_as (λ c. append-nil (ask n 0 at (test no_label false))) (carried_trans (refused aloud F scope G n) (notes_ask b d notes F scope G))

-- what a first part asks, which is reported where it is there and asks nothing where it is missing, and what it asks as an expression
part_asked : (p : Part) (a b f : Parts) (env : List Entry) (e : Expression) (n : ℕ) → RefusesIf p a b e.at → Carries b f env (λ c. e.typed c) → is_aloud a.telling ≡ is_aloud b.telling → Carries a f env (loose_part p n e)
part_asked (taken t) a b f env e n asked typed same aloud F scope G names =
    let first = asked F scope G in carried_trans first (typed (sym same ∙ aloud) F scope G (surrounds_on first.stays names))
part_asked (inner t) a b f env e n asked typed same aloud F scope G names =
    let first = asked aloud F scope G n in carried_trans first (typed (sym same ∙ aloud) F scope G (surrounds_on first.stays names))
part_asked (missing q) a b f env e n asked typed same aloud F scope G names =
    let first = asked F scope G in carried_trans first (typed (sym same ∙ aloud) F scope G (surrounds_on first.stays names))

-- the record type of a record with a first part that is no label
pub loose_finds : (a b f e : Parts) (env : List Entry) (here : RecordHere) (o : Numbered) (w : ℕ) (ps : List Written) → RefusesIf o.part a b o.at → Goes a b → TypesTo b f env (λ c. (expression_of b.item o).typed c) (λ ch. ch.type_at (expression_of b.item o).node) w → Goes b f → TypesHere here f e env ps →
    Goes f e → FindsRecord a e env here (λ n c. loose_part o.part n (expression_of a.item o) c) ps
loose_finds a b f e env here o w ps refused goes typed goes_b found goes_f = record {
  mid = f;
  first = λ n. subst (λ i. Carries a f env (loose_part o.part n (expression_of i o))) goes.item (before n);
  goes = goes_trans a b f goes goes_b;
  typed = found;
  goes_typed = goes_f;
}
  where
    before : (n : ℕ) → Carries a f env (loose_part o.part n (expression_of b.item o))
    before n =
        part_asked o.part a b f env (expression_of b.item o) n (subst (RefusesIf o.part a b) (sym (expression_of_stands b.item o).where_it_is) refused)
        (λ aloud F scope G names. (typed aloud F scope G names).carried) (sym (ap is_aloud goes.telling))

-- a value that isn't there
pub value_none : (a : Parts) (env : List Entry) → TypesEach a a env (values_of None)
value_none a env = λ aloud F scope G names. carried_refl

-- a value that is
pub value_some : (a b : Parts) (env : List Entry) (o : Numbered) (w : ℕ) → TypesTo a b env (λ c. (expression_of a.item o).typed c) (λ ch. ch.type_at (expression_of a.item o).node) w → TypesEach a b env (values_of (Some (expression_of a.item o)))
value_some a b env o w typed = λ aloud F scope G names. carried_as (λ c. sym (append-nil ((expression_of a.item o).typed c))) (typed aloud F scope G names).carried

-- A record with a first part that is no label, over operands.
pub loose_record : (a e f d v : Parts) (env : List Entry) (here : RecordHere) (at : Place) (first : Numbered) (value : Option Numbered) (os : List Numbered) (labels : List Name) (m : ℕ) → All IsCarriedValue os →
    FindsRecord a e env here (λ n c. loose_part first.part n (expression_of a.item first) c) (labels_at os) → TypesEach e f env (values_of (option_map (expression_of e.item) value)) → Goes e f → FieldsWritten f d env here (value_fields_of f.item os) [] labels → Goes f d →
    EndsRecord d v here labels at m → TypesLoose a v env at first value os m
loose_record a e f d v env here at first value os labels m carried finds typed goes fields goes_f ends n =
    let item : e.item ≡ a.item = finds.goes_typed.item ∙ finds.goes.item in
    let item_f : f.item ≡ a.item = goes.item ∙ item in
    let here_fields : FieldsWritten f d env here (value_fields_of a.item os) [] labels = subst (λ i. FieldsWritten f d env here (value_fields_of i os) [] labels) item_f fields in
    made_row here a e f d ends.mid v env n at (value_fields_of a.item os) (labels_at os) (λ n c. loose_part first.part n (expression_of a.item first) c) (λ c. typed_all c (values_of (option_map (expression_of a.item) value))) m (value_labels_ask a.item os carried) finds
    (subst (λ i. TypesEach e f env (values_of (option_map (expression_of i) value))) item typed) goes here_fields.typed goes_f (subst (λ ls. Completes d ends.mid here ls at) here_fields.written ends.complete) ends.type

-- A record that is updated, over operands.
pub updated_record : (a f d v : Parts) (env : List Entry) (here : RecordHere) (first : Numbered) (os : List Numbered) (labels : List Name) (m : ℕ) → All IsCarriedValue os → FindsUpdated a f env here (expression_of a.item first) (labels_at os) →
    FieldsWritten f d env here (value_fields_of f.item os) [] labels → GivesRecord here d v m → TypesUpdated a v env first os m
updated_record a f d v env None first os labels m carried finds fields any n =
    let item : f.item ≡ a.item = finds.goes_has.item ∙ finds.goes_typed.item ∙ finds.goes_first.item ∙ finds.goes.item in
    let here_fields = subst (λ i. TypesFields f d env None [] (value_fields_of i os)) item fields.typed in
    row_behind a finds.begun v env (λ c. update_asks c n (expression_of a.item first) (value_fields_of a.item os)) n m finds.noted finds.goes
    (unknown_updated_row finds.begun finds.mid finds.found d v env n (expression_of a.item first) finds.node (value_fields_of a.item os) (labels_at os) m (value_labels_ask a.item os carried) finds.first finds.goes_first finds.typed finds.goes_typed
    (subst (λ z. TypesFields z d env None [] (value_fields_of a.item os)) finds.has here_fields) any)
updated_record a f d v env (Some (decl, w)) first os labels m carried finds fields (is, same) n =
    let item : f.item ≡ a.item = finds.goes_has.item ∙ finds.goes_typed.item ∙ finds.goes_first.item ∙ finds.goes.item in
    let here_fields = subst (λ i. TypesFields f d env (Some (decl, w)) [] (value_fields_of i os)) item fields.typed in
    let asks = λ (c : Context). update_asks c n (expression_of a.item first) (value_fields_of a.item os) in
    row_behind a finds.begun v env asks n m finds.noted finds.goes
    (subst (λ z. TypesRow finds.begun z env asks n m) (sym same) (subst (λ k. TypesRow finds.begun d env asks n k) (sym is)
    (known_updated_row finds.begun finds.mid finds.found f d env n (expression_of a.item first) finds.node (value_fields_of a.item os) (labels_at os) decl w (value_labels_ask a.item os carried) finds.first finds.goes_first finds.typed finds.goes_typed finds.has finds.goes_has here_fields)))

-- a record expression without the word `with`, over its operands
pub record_term : (i n : ℕ) (at : Place) (t : Tree) → IsFormed n t → row_of t ≡ erecord_row → token_in t 4 ≡ None →
    row_expression i n at t ≡ record_expression (number_of i n) at (expression_of i (filled_in n t 1)) (option_map (expression_of i) (first_in n t 3)) (value_fields_of i (operands_in n t 5))
unfolding expression_row is_operand is_needed
record_term i n at t formed row none =
    as_row i n t formed at erecord_row row ∙
    ap (λ o. if is_some o then update_expression (number_of i n) at (parts.expression_in 1 (parts_of i n t)) (fields_in 5 (parts_of i n t)) else record_expression (number_of i n) at (parts.expression_in 1 (parts_of i n t)) (parts.first_of (parts.expressions_in 3 (parts_of i n t))) (fields_in 5 (parts_of i n t)))
    (token_stands i n t 4 ∙ none) ∙
    (let e = one i n t formed erecord_row 1 row refl refl in
    let v = perhaps i n t formed erecord_row 3 row refl in
    let fs = chosen_stand (λ c. c.field) i n t 5 formed (ap (λ q. is_operand q 5) row) in
    (λ k. record_expression (number_of i n) at (e k) (v k) (fs k)))

-- one with it
pub update_term : (i n : ℕ) (at : Place) (t : Tree) (w : Tok) → IsFormed n t → row_of t ≡ erecord_row → token_in t 4 ≡ Some w → row_expression i n at t ≡ update_expression (number_of i n) at (expression_of i (filled_in n t 1)) (value_fields_of i (operands_in n t 5))
unfolding expression_row is_operand is_needed
update_term i n at t w formed row some =
    as_row i n t formed at erecord_row row ∙
    ap (λ o. if is_some o then update_expression (number_of i n) at (parts.expression_in 1 (parts_of i n t)) (fields_in 5 (parts_of i n t)) else record_expression (number_of i n) at (parts.expression_in 1 (parts_of i n t)) (parts.first_of (parts.expressions_in 3 (parts_of i n t))) (fields_in 5 (parts_of i n t)))
    (token_stands i n t 4 ∙ some) ∙
    (let e = one i n t formed erecord_row 1 row refl refl in
    let fs = chosen_stand (λ c. c.field) i n t 5 formed (ap (λ q. is_operand q 5) row) in
    (λ k. update_expression (number_of i n) at (e k) (fs k)))

-- A record expression whose first part is a label.
pub node_made : (a d : Parts) (env : List Entry) (number : ℕ) (at : Place) (t : Tree) (l : Written) (m : ℕ) → IsRecordNode number t → token_in t 4 ≡ None → (expression_of a.item (filled_in number t 1)).form ≡ a_path l →
    TypesMade a d env at (filled_in number t 1).number l (first_in number t 3) (operands_in number t 5) m → TypesRow a d env (λ c. (row_expression a.item number at t).typed c) (number_of a.item number) m
node_made a d env number at t l m h none form typed =
    let i = a.item in
    let n = number_of i number in
    let e = expression_of i (filled_in number t 1) in
    let value = option_map (expression_of i) (first_in number t 3) in
    let fs = value_fields_of i (operands_in number t 5) in
    let node : e.node ≡ number_of i (filled_in number t 1).number = (expression_of_stands i (filled_in number t 1)).number in
    let asked : (c : Context) → record_asks c n at [] [] (labelled_field i (filled_in number t 1).number l (first_in number t 3) ∷ fs) ≡ (row_expression i number at t).typed c =
    λ c. sym (ap (λ (x : Expression). x.typed c) (record_term i number at t h.formed h.row none) ∙ ap (λ f. record_asks c n at (before_labels c n e f) (loose_value c f value) (first_field f e.node value ++ fs)) form ∙
    ap (λ k. record_asks c n at [] [] (record { node = k; label = l; value = value } ∷ fs)) node) in
    subst (λ asks. TypesRow a d env asks n m) (λ k c. asked c k) (typed n)

-- what a first part that is there and no label asks
there_asks : (c : Context) (t : Tree) (n k : ℕ) (at : Place) (e : Expression) (value : Option Expression) (fs : List Field) (f : Form) → IsLooseAt (inner t) f →
    record_asks c n at (before_labels c n e f) (loose_value c f value) (first_field f k value ++ fs) ≡ record_asks c n at (loose_part (inner t) n e c) (typed_all c (values_of value)) fs
there_asks c t n k at e value fs (a_constructor p) h = refl
there_asks c t n k at e value fs (a_path p) h = absurd h
there_asks c t n k at e value fs a_float h = refl
there_asks c t n k at e value fs a_false h = refl
there_asks c t n k at e value fs (a_field p l) h = refl
there_asks c t n k at e value fs no_expression h = absurd h
there_asks c t n k at e value fs other h = refl

-- what a first part asks that is no label, or missing
loose_asks : (p : Part) (c : Context) (n k : ℕ) (at : Place) (e : Expression) (value : Option Expression) (fs : List Field) (f : Form) → IsLooseAt p f →
    record_asks c n at (before_labels c n e f) (loose_value c f value) (first_field f k value ++ fs) ≡ record_asks c n at (loose_part p n e c) (typed_all c (values_of value)) fs
loose_asks (taken t) c n k at e value fs f h = ap (λ f. record_asks c n at (before_labels c n e f) (loose_value c f value) (first_field f k value ++ fs)) h
loose_asks (inner t) c n k at e value fs f h = there_asks c t n k at e value fs f h
loose_asks (missing q) c n k at e value fs f h = ap (λ f. record_asks c n at (before_labels c n e f) (loose_value c f value) (first_field f k value ++ fs)) h

-- A record expression whose first part is no label, or missing.
pub node_loose : (a d : Parts) (env : List Entry) (number : ℕ) (at : Place) (t : Tree) (m : ℕ) → IsRecordNode number t → token_in t 4 ≡ None → IsLooseAt (filled_in number t 1).part (expression_of a.item (filled_in number t 1)).form →
    TypesLoose a d env at (filled_in number t 1) (first_in number t 3) (operands_in number t 5) m → TypesRow a d env (λ c. (row_expression a.item number at t).typed c) (number_of a.item number) m
node_loose a d env number at t m h none form typed =
    let i = a.item in
    let n = number_of i number in
    let e = expression_of i (filled_in number t 1) in
    let value = option_map (expression_of i) (first_in number t 3) in
    let fs = value_fields_of i (operands_in number t 5) in
    let asked : (c : Context) → record_asks c n at (loose_part (filled_in number t 1).part n e c) (typed_all c (values_of value)) fs ≡ (row_expression i number at t).typed c =
    λ c. sym (ap (λ (x : Expression). x.typed c) (record_term i number at t h.formed h.row none) ∙ loose_asks (filled_in number t 1).part c n e.node at e value fs e.form form) in
    subst (λ asks. TypesRow a d env asks n m) (λ k c. asked c k) (typed n)

-- A record expression with the word `with`.
pub node_updated : (a d : Parts) (env : List Entry) (number : ℕ) (at : Place) (t : Tree) (w : Tok) (m : ℕ) → IsRecordNode number t → token_in t 4 ≡ Some w → TypesUpdated a d env (filled_in number t 1) (operands_in number t 5) m →
    TypesRow a d env (λ c. (row_expression a.item number at t).typed c) (number_of a.item number) m
node_updated a d env number at t w m h some typed =
    let i = a.item in
    let n = number_of i number in
    let asked : (c : Context) → update_asks c n (expression_of i (filled_in number t 1)) (value_fields_of i (operands_in number t 5)) ≡ (row_expression i number at t).typed c =
    λ c. sym (ap (λ (x : Expression). x.typed c) (update_term i number at t w h.formed h.row some)) in
    subst (λ asks. TypesRow a d env asks n m) (λ k c. asked c k) (typed n)
