-- The end of a row whose parts are typed in order, as the code reads the parts: by their places, and by how many there are.
use Rattle.std.proofs.Common.{◌≡◌, ◌∙◌, ◌+◌, ◌-◌, ◌<◌, ◌≤◌, ◌==◌, ℕ, zero, suc, Bool, true, false, not, List, [], ◌∷◌, map, length, drop, Option, Some, None, refl, sym, ap, subst, arith}
use Rattle.std.specs.Prelude.{codes, slice_get, slice_index_or, if◌then◌else◌, Result, Ok, Err, OnOk}
use Rattle.std.specs.Str.{bytes_eq}
use Rattle.std.proofs.lemmas.Bool.{eqb-true}
use Rattle.std.proofs.lemmas.List.{drop_more}
use Rattle.std.proofs.lemmas.Option.{slice_get-get_or}
use Rattle.tree_model.specs.Rows.{Row, name_row, epath_row, econst_row, hole_row, elist_row, field_row, econs_row, eif_row, eassert_row, ewhile_row, ebegin_row, etuple_row, eseq_row}
use Rattle.tree_model.specs.Trees.{Place, Tree, Forest, inner, node}
use Rattle.syntax_tree.specs.declared.rows.RowName.{RowName}
use Rattle.syntax_tree.specs.declared.rows.RowName.TheVariants as name
use Rattle.syntax_tree.specs.declared.tree.Node.{Node, out-Node}
use Rattle.syntax_tree.specs.declared.tree.Token.{Token}
use Rattle.syntax_tree.specs.declared.kinds.TokenKind.TheVariants as kind
use Rattle.text_terms.specs.Bytes.{str_bytes}
use Rattle.text_terms.specs.declared.RcStr.{RcStr}
use Rattle.use_typing.specs.declared.constants.Sign.{Sign}
use Rattle.use_typing.specs.Constants.{is_negated}
use Rattle.expression_steps.specs.Operators.{operator_name, operator_negates, IsOperator}
use Rattle.syntax_tree.specs.Names.{row_of}
use Rattle.syntax_tree.specs.View.{node_view, tok_of}
use Rattle.row_parts.specs.declared.slots.Operand.{Operand}
use Rattle.row_parts.specs.Numbered.{Written, numbered, operand_view, path_in, path_view, token_view}
use Rattle.operand_laws.specs.Operands.{path_of}
use Rattle.type_terms.specs.declared.types.NodeRef.{NodeRef}
use Rattle.type_nodes.specs.Nodes.{Con, IsNode}
use Rattle.type_nodes.specs.Changes.{Makes}
use Rattle.type_nodes.specs.Views.{numbers}
use Rattle.typing_model.specs.Contexts.{Context}
use Rattle.typing_model.specs.Demands.{Condition}
use Rattle.typing_model.specs.Parts.{Expression, last_of}
use Rattle.typing_model.specs.Patterns.{behind_first}
use Rattle.env_table.specs.declared.entries.Entry.{Entry}
use Rattle.typing_state.specs.declared.parts.Parts.{Parts}
use Rattle.typing_state.specs.Goes.{Goes, OnlyStore, OnlyFaults, Told, faults_of, Silent}
use Rattle.typing_state.specs.Messages.{not_mutable_text}
use Rattle.typing_state.specs.Types.{list_path}
use Rattle.pattern_names.specs.PatternNames.{later}
use Rattle.typing_conditions.specs.Sights.{Sight, Letters}
use Rattle.typing_conditions.specs.Frames.{Frame}
use Rattle.typing_conditions.specs.Meanings.{Means, AllMean, none_mean, one_means}
use Rattle.typing_conditions.proofs.Carried.{carried_refl}
use Rattle.typing_conditions.specs.Carrying.{Scope}
use Rattle.typing_conditions.specs.Surroundings.{Surrounds}
use Rattle.typing_steps.specs.States.{is_aloud, sight}
use Rattle.typing_steps.specs.Typing.{as_declared, RowCarried, TypesAny, path_as}
use Rattle.use_typing.specs.declared.uses.LabelUse.{LabelUse}
use Rattle.typing_rows.proofs.Fielded.{ends_field, ends_field_unknown}
use Rattle.typing_rows.proofs.Setting.{asks_settable, settable_none, ends_settable, ends_settable_unknown}
use Rattle.operand_laws.specs.Formed as formed
use Rattle.use_typing.specs.Uses.{GivenOrNew, TypesLabelIf}
use Rattle.typing_rows.specs.CarriedRows.{IsCarriedRow, IsTreeOfCarriedRows, IsCarried}
use Rattle.typing_rows.specs.Asked.{expressions_of, IsPlainRow, IsOrderedRow, end_of, field_ends, ordered_end, last_asks, assert_ends}
use Rattle.typing_rows.specs.Contracts.{types_at, AsksAt, AsksLater, AsksLaterFirst, EndsRow, EndsUnknown}
use Rattle.typing_rows.specs.Fields.{AsksSettable, EndsSettable}
use Rattle.typing_steps.specs.Demands.{TestedAs}
use Rattle.env_table.specs.declared.faults.FaultKind.TheVariants as fault
use denote.Ref.{Bor}
use Rattle.row_parts.specs.declared.paths.WrittenPath.{WrittenPath}
use Rattle.typing_rows.proofs.Ending.{reads_at, none_at, later_none, later_more, later_all, ends_still, ends_unit, ends_any, row_of_type, ends_cons, ends_then, ends_else, ends_list, ends_list_none}
use Rattle.expression_steps.specs.declared.forms.RowForm.TheVariants as form
use Rattle.value_forms.specs.Heads.{row_at, constructor_in, is_false_at}
use Rattle.value_forms.proofs.Nodes.{row_of_node, row_named, rows_same, parts_count}
use Rattle.value_forms.proofs.FalseLaws.{false_at}
use Rattle.expression_steps.specs.Forms.{Value, anything, form_of, value_in}
use Rattle.expression_steps.specs.Leaves.{TellsValue}
use Rattle.expression_steps.proofs.CarryingLaws.{number_here, number_missing}

-- the end of a field
pub field_end : (nd : Node) (a b : Parts) (env : List Entry) (es : List Expression) (ms : List ℕ) (m : ℕ) → (out-Node nd).row ≡ name.Field → EndsRow a b env (field_ends (path_of (path_in (node_view nd) 2 3)) es) es ms m → EndsRow a b env (ordered_end (row_at (node_view nd)) (node_view nd) es) es ms m
unfolding row_of
field_end nd a b env es ms m e ends = subst (λ r. EndsRow a b env (ordered_end r (node_view nd) es) es ms m) (sym (row_named nd name.Field e)) ends

-- what the end of a field is, by the label that is found
pub field_found : (a b d : Parts) (env : List Entry) (os : List Operand) (ms : List ℕ) (w p : Written) (found : Option LabelUse) (u : LabelUse) → w ≡ p → found ≡ Some u → TypesLabelIf found a b env (path_as w) → Goes a b →
    AsksAt b d env (expressions_of b.item (map operand_view os)) ms 0 u.record.0 → EndsRow a d env (field_ends (path_of p) (expressions_of a.item (map operand_view os))) (expressions_of a.item (map operand_view os)) ms u.field.0
field_found a b d env os ms w p found u same is typed goes asked =
    ends_field a b d env (expressions_of a.item (map operand_view os)) ms (path_of p) u.record.0 u.field.0 u.is_mutable
    (subst (λ o. TypesLabelIf o a b env (path_as p)) is (subst (λ q. TypesLabelIf found a b env (path_as q)) same typed)) goes (subst (λ j. AsksAt b d env (expressions_of j (map operand_view os)) ms 0 u.record.0) goes.item asked)

pub field_lost : (a b d : Parts) (env : List Entry) (es : List Expression) (ms : List ℕ) (w p : Written) (found : Option LabelUse) (m : ℕ) → w ≡ p → found ≡ None → TypesLabelIf found a b env (path_as w) → Goes a b → TypesAny b d m → EndsRow a d env (field_ends (path_of p) es) es ms m
field_lost a b d env es ms w p found m same is typed goes any =
    ends_field_unknown a b d env es ms (path_of p) m (subst (λ o. TypesLabelIf o a b env (path_as p)) is (subst (λ q. TypesLabelIf found a b env (path_as q)) same typed)) goes any

-- the end of a field that is set, by the label that is found
pub settable_found : (a b d f : Parts) (env : List Entry) (os : List Operand) (ms : List ℕ) (w p : Written) (found : Option LabelUse) (u : LabelUse) → w ≡ p → found ≡ Some u → TypesLabelIf found a b env (path_as w) → Goes a b →
    AsksAt b d env (expressions_of b.item (map operand_view os)) ms 0 u.record.0 → Goes b d → AsksSettable d f (path_as w) u.is_mutable → EndsSettable a f env (path_of p) (expressions_of a.item (map operand_view os)) ms u.field.0
settable_found a b d f env os ms w p found u same is typed goes asked goes' tested =
    ends_settable a b d f env (expressions_of a.item (map operand_view os)) ms (path_of p) u.record.0 u.field.0 u.is_mutable
    (subst (λ o. TypesLabelIf o a b env (path_as p)) is (subst (λ q. TypesLabelIf found a b env (path_as q)) same typed)) goes (subst (λ j. AsksAt b d env (expressions_of j (map operand_view os)) ms 0 u.record.0) goes.item asked) goes'
    (subst (λ q. AsksSettable d f (path_as q) u.is_mutable) same tested)

pub settable_lost : (a b d : Parts) (env : List Entry) (es : List Expression) (ms : List ℕ) (w p : Written) (found : Option LabelUse) (m : ℕ) → w ≡ p → found ≡ None → TypesLabelIf found a b env (path_as w) → Goes a b → TypesAny b d m → EndsSettable a d env (path_of p) es ms m
settable_lost a b d env es ms w p found m same is typed goes any =
    ends_settable_unknown a b d env es ms (path_of p) m (subst (λ o. TypesLabelIf o a b env (path_as p)) is (subst (λ q. TypesLabelIf found a b env (path_as q)) same typed)) goes any

-- the demand that a label is mutable: where it is missing
pub settable_missing : (a : Parts) (p : WrittenPath) (mutable : Bool) → p.last ≡ None → AsksSettable a a (path_as (path_view p)) mutable
settable_missing a p mutable none = subst (λ o. AsksSettable a a (record { qualifiers = (path_view p).qualifiers; last = token_view o }) mutable) (sym none) (settable_none a (path_view p).qualifiers mutable)

-- where it is mutable
pub settable_held : (a : Parts) (p : WrittenPath) (t : Bor Token) (mutable : Bool) → p.last ≡ Some t → mutable ≡ true → AsksSettable a a (path_as (path_view p)) mutable
settable_held a p t mutable there is =
    subst (λ o. AsksSettable a a (record { qualifiers = (path_view p).qualifiers; last = token_view o }) mutable) (sym there)
    (asks_settable a a t.now.span (path_view p).qualifiers (tok_of t.now) mutable refl (subst (λ v. TestedAs v a a t.now.span fault.Mutable (not_mutable_text (tok_of t.now).name)) (sym is) refl))

-- where it isn't, and that is reported
pub settable_told : {A E : Type 0} (r : Result A E) (a b : Parts) (p : WrittenPath) (t : Bor Token) (mutable : Bool) {x : List ℕ} → x ≡ str_bytes t.now.name → p.last ≡ Some t → mutable ≡ false → OnOk r (Told a.telling (faults_of a) (faults_of b) t.now.span fault.Mutable (not_mutable_text x)) → OnlyFaults a b →
    OnOk r (AsksSettable a b (path_as (path_view p)) mutable)
settable_told (Err e) a b p t mutable named there is told rest = tt
settable_told (Ok x) a b p t mutable named there is told rest =
    subst (λ o. AsksSettable a b (record { qualifiers = (path_view p).qualifiers; last = token_view o }) mutable) (sym there)
    (asks_settable a b t.now.span (path_view p).qualifiers (tok_of t.now) mutable refl (subst (λ v. TestedAs v a b t.now.span fault.Mutable (not_mutable_text (tok_of t.now).name)) (sym is) (subst (λ n. Told a.telling (faults_of a) (faults_of b) t.now.span fault.Mutable (not_mutable_text n)) named told, rest)))

-- the end of any other row
other_end : (r : RowName) (t : Tree) (a b : Parts) (env : List Entry) (es : List Expression) (ms : List ℕ) (m : ℕ) → (r ≡ name.Field → ⊥) → IsOrderedRow (row_of r) → (IsPlainRow (row_of r) → EndsRow a b env (end_of (row_of r) es) es ms m) → EndsRow a b env (ordered_end (row_of r) t es) es ms m
unfolding row_of
other_end name.Field t a b env es ms m apart ordered ends = absurd (apart refl)
other_end name.Ebegin t a b env es ms m apart ordered ends = ends tt
other_end name.Elist t a b env es ms m apart ordered ends = ends tt
other_end name.Econs t a b env es ms m apart ordered ends = ends tt
other_end name.Etuple t a b env es ms m apart ordered ends = ends tt
other_end name.Eseq t a b env es ms m apart ordered ends = ends tt
other_end name.Eif t a b env es ms m apart ordered ends = ends tt
other_end name.Eassert t a b env es ms m apart ordered ends = ends tt
other_end name.Ewhile t a b env es ms m apart ordered ends = ends tt
other_end _ t a b env es ms m apart ordered ends = absurd ordered

pub plain_end : (nd : Node) (a b : Parts) (env : List Entry) (es : List Expression) (ms : List ℕ) (m : ℕ) → ((out-Node nd).row ≡ name.Field → ⊥) → IsOrderedRow (row_at (node_view nd)) → (IsPlainRow (row_of (out-Node nd).row) → EndsRow a b env (end_of (row_of (out-Node nd).row) es) es ms m) →
    EndsRow a b env (ordered_end (row_at (node_view nd)) (node_view nd) es) es ms m
plain_end nd a b env es ms m apart ordered ends =
    subst (λ r. EndsRow a b env (ordered_end r (node_view nd) es) es ms m) (sym (row_of_node nd)) (other_end (out-Node nd).row (node_view nd) a b env es ms m apart (subst IsOrderedRow (row_of_node nd) ordered) ends)

-- leaves by their names
pub leaf_name : (nd : Node) → (out-Node nd).row ≡ name.Name → formed.row_of (node_view nd) ≡ name_row
unfolding row_of
leaf_name nd e = rows_same (node_view nd) ∙ row_named nd name.Name e

pub leaf_path : (nd : Node) → (out-Node nd).row ≡ name.Epath → row_at (node_view nd) ≡ epath_row
unfolding row_of
leaf_path nd e = row_named nd name.Epath e

pub leaf_constant : (nd : Node) → (out-Node nd).row ≡ name.Econst → formed.row_of (node_view nd) ≡ econst_row
unfolding row_of
leaf_constant nd e = rows_same (node_view nd) ∙ row_named nd name.Econst e

hole_by : (r : RowName) (t : Tree) (ps : Forest) → IsCarriedRow (row_of r) t ps → form_of (row_of r) ≡ form.Leaf → constructor_in (row_of r) t ≡ None → (r ≡ name.Name → ⊥) → (r ≡ name.Epath → ⊥) → (r ≡ name.Econst → ⊥) → row_of r ≡ hole_row
unfolding row_of
hole_by name.Name t ps h is none a b c = absurd (a refl)
hole_by name.Epath t ps h is none a b c = absurd (b refl)
hole_by name.Econst t ps h is none a b c = absurd (c refl)
hole_by name.Econ t ps h is none a b c = absurd (cc)
hole_by name.Hole t ps h is none a b c = refl
hole_by name.Field t ps h is none a b c = absurd (cc)
hole_by name.Eparen t ps h is none a b c = absurd (cc)
hole_by name.Ebegin t ps h is none a b c = absurd (cc)
hole_by name.Elist t ps h is none a b c = absurd (cc)
hole_by name.Prefix t ps h is none a b c = absurd (cc)
hole_by name.Eapp t ps h is none a b c = absurd (cc)
hole_by name.Eassert t ps h is none a b c = absurd (cc)
hole_by name.Ewhile t ps h is none a b c = absurd (cc)
hole_by name.Efor t ps h is none a b c = absurd (cc)
hole_by name.Eset t ps h is none a b c = absurd (cc)
hole_by name.Eneg t ps h is none a b c = absurd (cc)
hole_by name.Infix t ps h is none a b c = absurd (cc)
hole_by name.Econs t ps h is none a b c = absurd (cc)
hole_by name.Etuple t ps h is none a b c = absurd (cc)
hole_by name.Eif t ps h is none a b c = absurd (cc)
hole_by name.Eseq t ps h is none a b c = absurd (cc)
hole_by name.Ematch t ps h is none a b c = absurd (cc)
hole_by name.Etry t ps h is none a b c = absurd (cc)
hole_by name.Efun t ps h is none a b c = absurd (cc)
hole_by name.Efunction t ps h is none a b c = absurd (cc)
hole_by name.Elet t ps h is none a b c = absurd (cc)
hole_by name.Erecord t ps h is none a b c = absurd (cc)
hole_by _ t ps h is none a b c = absurd h

carried_there : (t : Tree) → IsTreeOfCarriedRows t → (ps : Forest) × IsCarriedRow (row_at t) t ps
carried_there (node r x ps) h = (ps, h.0)

-- a carried leaf that is none of the others is a hole
pub leaf_hole : (nd : Node) (n : ℕ) (at : Place) → IsCarried (numbered n at (inner (node_view nd))) → form_of (row_at (node_view nd)) ≡ form.Leaf → constructor_in (row_at (node_view nd)) (node_view nd) ≡ None → ((out-Node nd).row ≡ name.Name → ⊥) → ((out-Node nd).row ≡ name.Epath → ⊥) → ((out-Node nd).row ≡ name.Econst → ⊥) → formed.row_of (node_view nd) ≡ hole_row
leaf_hole nd n at carried is none a b c =
    let (ps, h) = carried_there (node_view nd) carried.rows in
    rows_same (node_view nd) ∙ row_of_node nd ∙ hole_by (out-Node nd).row (node_view nd) ps (subst (λ r. IsCarriedRow r (node_view nd) ps) (row_of_node nd) h) (ap form_of (sym (row_of_node nd)) ∙ is) (subst (λ r. constructor_in r (node_view nd) ≡ None) (row_of_node nd) none) a b c

-- the element at a place, and what is left there
pub record HeadAt {A : Type 0} (xs : List A) (k : ℕ) : Type 0 where
  pub head : A
  pub split : drop k xs ≡ head ∷ drop (k + 1) xs
  pub here : slice_get xs k ≡ Some head

pub head_at : {A : Type 0} (xs : List A) (k : ℕ) → k < length xs → HeadAt xs k
head_at [] k lt = absurd (omega arith)
head_at (x ∷ xs) k lt = record { head = slice_index_or (x ∷ xs) k x; split = drop_more (x ∷ xs) k x lt; here = slice_get-get_or (x ∷ xs) k x lt }

drop_one : {A : Type 0} (xs : List A) → drop 1 xs ≡ behind_first xs
drop_one [] = refl
drop_one (x ∷ xs) = refl

-- no later part is asked yet
pub later_first : (a : Parts) (env : List Entry) (es : List Expression) (ms : List ℕ) (wanted : ℕ) → AsksLaterFirst a a env es ms wanted (behind_first es) (drop 1 es)
later_first a env es ms wanted = later_none a env es ms wanted (drop 1 es) (drop_one es)

-- one later part more, by its place
pub later_step : (a b d : Parts) (env : List Entry) (os : List Operand) (ms : List ℕ) (k wanted : ℕ) → k < length os → Goes a b →
    AsksLaterFirst a b env (expressions_of a.item (map operand_view os)) ms wanted (behind_first (expressions_of a.item (map operand_view os))) (drop k (expressions_of a.item (map operand_view os))) →
    AsksAt b d env (expressions_of b.item (map operand_view os)) ms k wanted →
    AsksLaterFirst a d env (expressions_of a.item (map operand_view os)) ms wanted (behind_first (expressions_of a.item (map operand_view os))) (drop (k + 1) (expressions_of a.item (map operand_view os)))
later_step a b d env os ms k wanted lt goes first one =
    let es = expressions_of a.item (map operand_view os) in
    let h = head_at es k (subst (λ n. k < n) (sym (parts_count a.item os)) lt) in
    later_more a b d env es ms k wanted (behind_first es) (drop k es) (drop (k + 1) es) h.head h.split h.here goes first
    (subst (λ i. AsksAt b d env (expressions_of i (map operand_view os)) ms k wanted) goes.item one)

dropped : {A : Type 0} (xs : List A) (k : ℕ) → length xs ≤ k → drop k xs ≡ []
dropped [] zero le = refl
dropped [] (suc k) le = refl
dropped (x ∷ xs) zero le = absurd (omega arith)
dropped (x ∷ xs) (suc k) le = dropped xs k (omega arith)

-- all later parts are
pub later_done : (a b : Parts) (env : List Entry) (os : List Operand) (ms : List ℕ) (k wanted : ℕ) → length os ≤ k →
    AsksLaterFirst a b env (expressions_of a.item (map operand_view os)) ms wanted (behind_first (expressions_of a.item (map operand_view os))) (drop k (expressions_of a.item (map operand_view os))) →
    AsksLater a b env (expressions_of a.item (map operand_view os)) ms wanted
later_done a b env os ms k wanted le first =
    let es = expressions_of a.item (map operand_view os) in
    later_all a b env es ms wanted (drop k es) (dropped es k (subst (λ n. n ≤ k) (sym (parts_count a.item os)) le)) first

-- what is said of a list of parts where there is none, holds where there is no node
pub ends_empty : (a b : Parts) (env : List Entry) (end : List Expression → Context → ℕ → List Condition) (es : List Expression) (ms : List ℕ) (m : ℕ) → slice_get ms 0 ≡ None → EndsRow a b env (end []) [] ms m → EndsRow a b env (end es) es ms m
ends_empty a b env end es ms m none ends = λ aloud F scope G n its s all. by es F scope G n aloud its s all (none_at es ms 0 all none)
  where
    by : (es : List Expression) (F : Frame) (scope : Scope) (G : Letters) (n : ℕ) → is_aloud a.telling ≡ true → scope.own n ≡ true → Surrounds as_declared F (sight a) G env scope → AllMean F (sight a) G (types_at es) ms → slice_get es 0 ≡ None → RowCarried F scope (λ c. end es c n) (sight a) G (sight b) n m
    by [] F scope G n aloud its s all e = ends aloud F scope G n its s all
    by (x ∷ es) F scope G n aloud its s all e = absurd (cc)

-- where there is a node there is a part
pub ends_there : (a b : Parts) (env : List Entry) (end : Context → ℕ → List Condition) (es : List Expression) (ms : List ℕ) (i k m : ℕ) → slice_get ms i ≡ Some k → slice_get es i ≡ None → EndsRow a b env end es ms m
ends_there a b env end es ms i k m there none = λ aloud F scope G n its s all.
    let r = reads_at es ms i k all there in
    absurd (no_part r.part r.here)
  where
    no_part : (x : Expression) → slice_get es i ≡ Some x → ⊥
    no_part x e = let f = sym none ∙ e in cc

-- [ e; e ]
pub list_ends : (a b d e : Parts) (env : List Entry) (es : List Expression) (ms : List NodeRef) (o : Option NodeRef) (element : NodeRef) (m : ℕ) → o ≡ slice_get ms 0 → GivenOrNew o a b element → (o ≡ None → TypesAny a b element.0) → Goes a b → Goes b d →
    AsksLater b d env es (numbers ms) element.0 → (IsNode d.store.nodes element.0 → Makes d.store e.store m (Con list_path (codes "list") (element.0 ∷ []))) → OnlyStore d e → EndsRow a e env (end_of elist_row es) es (numbers ms) m
list_ends a b d e env es ms None element m first given any goes next later made rest = ends_list_none a b d e env es (numbers ms) element.0 m (number_missing ms 0 (sym first)) (any refl) goes later made rest
list_ends a b d e env es ms (Some ty) element m first given any goes next later made rest = by es (subst (λ p. AsksLater p d env es (numbers ms) element.0) given.1 later)
  where
    here : slice_get (numbers ms) 0 ≡ Some element.0
    here = number_here ms 0 element (sym first ∙ ap Some (sym given.0))

    by : (es : List Expression) → AsksLater a d env es (numbers ms) element.0 → EndsRow a e env (end_of elist_row es) es (numbers ms) m
    by [] later = ends_there a e env (end_of elist_row []) [] (numbers ms) 0 element.0 m here refl
    by (x ∷ xs) later = ends_list a d e env x xs (numbers ms) element.0 m here (subst (λ p. Goes p d) given.1 next) later made rest

-- e :: e
pub cons_ends : (a b d : Parts) (env : List Entry) (es : List Expression) (ms : List ℕ) (left m : ℕ) → slice_get ms 0 ≡ Some left → (IsNode a.store.nodes left → Makes a.store b.store m (Con list_path (codes "list") (left ∷ []))) → OnlyStore a b → AsksAt b d env es ms 1 m →
    EndsRow a d env (end_of econs_row es) es ms m
cons_ends a b d env [] ms left m here made rest asked = ends_there a d env (end_of econs_row []) [] ms 0 left m here refl
cons_ends a b d env (x ∷ xs) ms left m here made rest asked = ends_cons a b d env x xs ms left m here made rest asked

-- the same without parts
pub cons_empty : (a b : Parts) (env : List Entry) (es : List Expression) (ms : List ℕ) (m : ℕ) → slice_get ms 0 ≡ None → TypesAny a b m → EndsRow a b env (end_of econs_row es) es ms m
cons_empty a b env es ms m none any = ends_empty a b env (end_of econs_row) es ms m none (ends_any a b env (end_of econs_row []) [] ms m any (λ c n. refl))

-- if e then e else e
pub else_ends : (a b : Parts) (env : List Entry) (es : List Expression) (ms : List ℕ) (branch : ℕ) → 2 < length es → slice_get ms 1 ≡ Some branch → AsksAt a b env es ms 2 branch → EndsRow a b env (end_of eif_row es) es ms branch
else_ends a b env [] ms branch more here asked = absurd (omega arith)
else_ends a b env (e ∷ []) ms branch more here asked = absurd (omega arith)
else_ends a b env (e ∷ f ∷ []) ms branch more here asked = absurd (omega arith)
else_ends a b env (e ∷ f ∷ g ∷ gs) ms branch more here asked = ends_else a b env e f g gs ms branch here asked

-- if e then e
pub then_ends : (a b : Parts) (env : List Entry) (es : List Expression) (ms : List ℕ) (branch : ℕ) → length es ≤ 2 → slice_get ms 1 ≡ Some branch → AsksAt a b env es ms 1 a.constants.unit.0 → EndsRow a b env (end_of eif_row es) es ms a.constants.unit.0
then_ends a b env [] ms branch less here asked = ends_there a b env (end_of eif_row []) [] ms 1 branch a.constants.unit.0 here refl
then_ends a b env (e ∷ []) ms branch less here asked = ends_there a b env (end_of eif_row (e ∷ [])) (e ∷ []) ms 1 branch a.constants.unit.0 here refl
then_ends a b env (e ∷ f ∷ []) ms branch less here asked = ends_then a b env e f ms asked
then_ends a b env (e ∷ f ∷ g ∷ gs) ms branch less here asked = absurd (omega arith)

-- `if` without its branch
pub if_empty : (a b : Parts) (env : List Entry) (es : List Expression) (ms : List ℕ) (m : ℕ) → slice_get ms 1 ≡ None → TypesAny a b m → EndsRow a b env (end_of eif_row es) es ms m
if_empty a b env es ms m none any = λ aloud F scope G n its s all. by es F scope G n aloud its s all (none_at es ms 1 all none)
  where
    by : (es : List Expression) (F : Frame) (scope : Scope) (G : Letters) (n : ℕ) → is_aloud a.telling ≡ true → scope.own n ≡ true → Surrounds as_declared F (sight a) G env scope → AllMean F (sight a) G (types_at es) ms → slice_get es 1 ≡ None → RowCarried F scope (λ c. end_of eif_row es c n) (sight a) G (sight b) n m
    by [] F scope G n aloud its s all e = ends_any a b env (end_of eif_row []) [] ms m any (λ c n. refl) aloud F scope G n its s all
    by (x ∷ []) F scope G n aloud its s all e = ends_any a b env (end_of eif_row (x ∷ [])) (x ∷ []) ms m any (λ c n. refl) aloud F scope G n its s all
    by (x ∷ y ∷ es) F scope G n aloud its s all e = absurd (cc)

-- what holds anyway holds of a result
pub on_any : {A E : Type 0} (r : Result A E) (Q : Type 0) → Q → OnOk r Q
on_any (Ok x) Q h = h
on_any (Err e) Q h = tt

-- no other row is typed in order here
pub others_apart : (r : RowName) → IsPlainRow (row_of r) → (r ≡ name.Ebegin → ⊥) → (r ≡ name.Elist → ⊥) → (r ≡ name.Econs → ⊥) → (r ≡ name.Etuple → ⊥) → (r ≡ name.Eseq → ⊥) → (r ≡ name.Eif → ⊥) → (r ≡ name.Eassert → ⊥) → (r ≡ name.Ewhile → ⊥) → ⊥
unfolding row_of
others_apart name.Ebegin p a b c d e f g h = a refl
others_apart name.Elist p a b c d e f g h = b refl
others_apart name.Econs p a b c d e f g h = c refl
others_apart name.Etuple p a b c d e f g h = d refl
others_apart name.Eseq p a b c d e f g h = e refl
others_apart name.Eif p a b c d e f g h = f refl
others_apart name.Eassert p a b c d e f g h = g refl
others_apart name.Ewhile p a b c d e f g h = h refl
others_apart _ p a b c d e f g h = p

-- rows that are, by their names
pub is_begin : row_of name.Ebegin ≡ ebegin_row
unfolding row_of
is_begin = refl

pub is_field : row_of name.Field ≡ field_row
unfolding row_of
is_field = refl

pub is_list : row_of name.Elist ≡ elist_row
unfolding row_of
is_list = refl

pub is_cons : row_of name.Econs ≡ econs_row
unfolding row_of
is_cons = refl

pub is_tuple : row_of name.Etuple ≡ etuple_row
unfolding row_of
is_tuple = refl

pub is_seq : row_of name.Eseq ≡ eseq_row
unfolding row_of
is_seq = refl

pub is_if : row_of name.Eif ≡ eif_row
unfolding row_of
is_if = refl

pub is_assert : row_of name.Eassert ≡ eassert_row
unfolding row_of
is_assert = refl

pub is_while : row_of name.Ewhile ≡ ewhile_row
unfolding row_of
is_while = refl

-- the end of a row by its name
pub as_named : (r k : RowName) (q : Row) (a b : Parts) (env : List Entry) (es : List Expression) (ms : List ℕ) (m : ℕ) → r ≡ k → row_of k ≡ q → EndsRow a b env (end_of q es) es ms m → EndsRow a b env (end_of (row_of r) es) es ms m
as_named r k q a b env es ms m e f h = subst (λ x. EndsRow a b env (end_of x es) es ms m) (sym (ap row_of e ∙ f)) h

-- begin e end
pub begin_ends : (a : Parts) (env : List Entry) (es : List Expression) (ms : List ℕ) (m : ℕ) → slice_get ms 0 ≡ Some m → EndsRow a a env (end_of ebegin_row es) es ms m
begin_ends a env [] ms m here = ends_there a a env (end_of ebegin_row []) [] ms 0 m m here refl
begin_ends a env (x ∷ xs) ms m here = ends_still a env (end_of ebegin_row (x ∷ xs)) (x ∷ xs) ms 0 m x refl here (λ c n. refl)

-- begin end
pub begin_empty : (a : Parts) (env : List Entry) (es : List Expression) (ms : List ℕ) → slice_get ms 0 ≡ None → EndsRow a a env (end_of ebegin_row es) es ms a.constants.unit.0
begin_empty a env es ms none = ends_empty a a env (end_of ebegin_row) es ms a.constants.unit.0 none (ends_unit a env (end_of ebegin_row []) [] ms (λ c n. refl))

-- the last part
pub record LastReads (F : Frame) (a : Sight) (G : Letters) (es : List Expression) (m : ℕ) : Type 0 where
  pub part : Expression
  pub here : last_of es ≡ Some part
  pub means : Means F a G (λ ch. ch.type_at part.node) m

pub last_reads : {F : Frame} {a : Sight} {G : Letters} (es : List Expression) (ms : List ℕ) (m : ℕ) → AllMean F a G (types_at es) ms → last_of ms ≡ Some m → LastReads F a G es m
last_reads [] [] m none_mean e = absurd (cc)
last_reads {F = F} {a = a} {G = G} [] (k ∷ ms) m all e = elim all [ ]
last_reads {F = F} {a = a} {G = G} (x ∷ es) [] m all e = elim all [ ]
last_reads {F} {a} {G} (x ∷ []) (k ∷ []) m (one_means h hs) e = let s : k ≡ m = cc in record { part = x; here = refl; means = subst (Means F a G (λ ch. ch.type_at x.node)) s h }
last_reads {F = F} {a = a} {G = G} (x ∷ []) (k ∷ j ∷ ms) m (one_means h hs) e = elim hs [ ]
last_reads {F = F} {a = a} {G = G} (x ∷ y ∷ es) (k ∷ []) m (one_means h hs) e = elim hs [ ]
last_reads (x ∷ y ∷ es) (k ∷ j ∷ ms) m (one_means h hs) e = let r = last_reads (y ∷ es) (j ∷ ms) m hs e in record { part = r.part; here = r.here; means = r.means }

-- e; e
pub seq_last : (a : Parts) (env : List Entry) (es : List Expression) (ms : List ℕ) (m : ℕ) → last_of ms ≡ Some m → EndsRow a a env (end_of eseq_row es) es ms m
seq_last a env es ms m last = λ aloud F scope G n its s all.
    let r = last_reads es ms m all last in
    row_of_type (λ c. []) (λ ch. ch.type_at r.part.node) carried_refl r.means (λ c. ap (last_asks c n) (sym r.here))

no_first : (ms : List NodeRef) → last_of ms ≡ None → slice_get (numbers ms) 0 ≡ None
no_first [] e = refl
no_first (x ∷ []) e = absurd (cc)
no_first (x ∷ y ∷ ms) e = absurd (some_last y ms e)
  where
    some_last : (y : NodeRef) (ms : List NodeRef) → last_of (y ∷ ms) ≡ None → ⊥
    some_last y [] e = cc
    some_last y (z ∷ ms) e = some_last z ms e

last_number : (ms : List NodeRef) (m : NodeRef) → last_of ms ≡ Some m → last_of (numbers ms) ≡ Some m.0
last_number [] m e = absurd (cc)
last_number (x ∷ []) m e = let s : x ≡ m = cc in ap (λ y. Some y.0) s
last_number (x ∷ y ∷ ms) m e = last_number (y ∷ ms) m e

-- the type of the last part, or any type where there is none
pub seq_ends : (a b : Parts) (env : List Entry) (es : List Expression) (ms : List NodeRef) (o : Option NodeRef) (m : NodeRef) → o ≡ last_of ms → GivenOrNew o a b m → (o ≡ None → TypesAny a b m.0) → EndsRow a b env (end_of eseq_row es) es (numbers ms) m.0
seq_ends a b env es ms None m last given any = ends_empty a b env (end_of eseq_row) es (numbers ms) m.0 (no_first ms (sym last)) (ends_any a b env (end_of eseq_row []) [] (numbers ms) m.0 (any refl) (λ c n. refl))
seq_ends a b env es ms (Some ty) m last given any = subst (λ p. EndsRow a p env (end_of eseq_row es) es (numbers ms) m.0) (sym given.1) (seq_last a env es (numbers ms) m.0 (last_number ms m (sym last ∙ ap Some (sym given.0))))

-- assert false
pub false_ends : (a b : Parts) (env : List Entry) (i : ℕ) (os : List Operand) (x : Operand) (ms : List ℕ) (m : ℕ) → slice_get os 0 ≡ Some x → is_false_at (operand_view x).part ≡ true → TypesAny a b m → EndsRow a b env (end_of eassert_row (expressions_of i (map operand_view os))) (expressions_of i (map operand_view os)) ms m
false_ends a b env i [] x ms m here is any = absurd (cc)
false_ends a b env i (o ∷ os) x ms m here is any =
    let s : o ≡ x = cc in
    ends_any a b env (end_of eassert_row (expressions_of i (map operand_view (o ∷ os)))) (expressions_of i (map operand_view (o ∷ os))) ms m any
    (λ c n. ap (λ w. assert_ends w c n) (sym (false_at i (operand_view o) ∙ ap (λ y. is_false_at (operand_view y).part) s ∙ is)))

-- assert e
pub assert_ends_unit : (a : Parts) (env : List Entry) (i : ℕ) (os : List Operand) (ms : List ℕ) → ((x : Operand) → slice_get os 0 ≡ Some x → is_false_at (operand_view x).part ≡ false) → EndsRow a a env (end_of eassert_row (expressions_of i (map operand_view os))) (expressions_of i (map operand_view os)) ms a.constants.unit.0
assert_ends_unit a env i [] ms apart = ends_unit a env (end_of eassert_row []) [] ms (λ c n. refl)
assert_ends_unit a env i (o ∷ os) ms apart =
    ends_unit a env (end_of eassert_row (expressions_of i (map operand_view (o ∷ os)))) (expressions_of i (map operand_view (o ∷ os))) ms
    (λ c n. ap (λ w. assert_ends w c n) (sym (false_at i (operand_view o) ∙ apart o refl)))

-- the operator that the code makes of a token
pub operator_is : (r : RowName) (t : Token) (p : RcStr × Sign) (x : RcStr) (s : Sign) → p ≡ (x, s) → str_bytes x ≡ operator_name (row_of r) (str_bytes t.name) → is_negated s ≡ operator_negates (row_of r) (str_bytes t.name) →
    IsOperator (row_of r) (tok_of t) (record { named = record { kind = kind.OpName; span = t.span; reach = t.reach; col = t.col; name = p.0 }; sign = p.1 })
operator_is r t p x s e named negated = subst (λ q. IsOperator (row_of r) (tok_of t) (record { named = record { kind = kind.OpName; span = t.span; reach = t.reach; col = t.col; name = q.0 }; sign = q.1 })) (sym e)
    (record { start = refl; end = refl; name = named; negates = negated })

pub minus_name : (r : RowName) (x : List ℕ) (b : Bool) → r ≡ name.Eneg → bytes_eq x (codes "-.") ≡ b → operator_name (row_of r) x ≡ (if b then codes "~-." else codes "~-")
unfolding row_of
minus_name r x b e h = ap (λ k. operator_name (row_of k) x) e ∙ ap (λ w. if w then codes "~-." else codes "~-") h

pub minus_negates : (r : RowName) (x : List ℕ) (b : Bool) → r ≡ name.Eneg → bytes_eq x (codes "-.") ≡ b → operator_negates (row_of r) x ≡ not b
unfolding row_of
minus_negates r x b e h = ap (λ k. operator_negates (row_of k) x) e ∙ ap not h

pub other_name : (r : RowName) (x : List ℕ) → (r ≡ name.Eneg → ⊥) → operator_name (row_of r) x ≡ x
unfolding row_of
other_name name.Eneg x h = absurd (h refl)
other_name _ x h = refl

pub other_negates : (r : RowName) (x : List ℕ) → (r ≡ name.Eneg → ⊥) → operator_negates (row_of r) x ≡ false
unfolding row_of
other_negates name.Eneg x h = absurd (h refl)
other_negates _ x h = refl

-- what follows of a result
pub on_more : {A E : Type 0} (r : Result A E) (P Q : Type 0) → (P → Q) → OnOk r P → OnOk r Q
on_more (Ok x) P Q f h = f h
on_more (Err e) P Q f h = tt

-- the first of some parts isn't the word `false`
pub one_apart : (os : List Operand) (y : Operand) → slice_get os 0 ≡ Some y → is_false_at (operand_view y).part ≡ false → (x : Operand) → slice_get os 0 ≡ Some x → is_false_at (operand_view x).part ≡ false
one_apart [] y e h x f = absurd (cc)
one_apart (o ∷ os) y e h x f = let s : o ≡ y = cc in let r : o ≡ x = cc in ap (λ z. is_false_at (operand_view z).part) (sym r ∙ s) ∙ h

pub none_apart : (os : List Operand) → slice_get os 0 ≡ None → (x : Operand) → slice_get os 0 ≡ Some x → is_false_at (operand_view x).part ≡ false
none_apart [] e x f = absurd (cc)
none_apart (o ∷ os) e x f = absurd (cc)

-- while e do e done
pub while_ends : (r : RowName) (a : Parts) (env : List Entry) (es : List Expression) (ms : List ℕ) → r ≡ name.Ewhile → EndsRow a a env (end_of (row_of r) es) es ms a.constants.unit.0
while_ends r a env es ms e = as_named r name.Ewhile ewhile_row a a env es ms a.constants.unit.0 e is_while (ends_unit a env (end_of ewhile_row es) es ms (λ c n. refl))

at_end : (x : NodeRef) (xs : List NodeRef) → slice_get (x ∷ xs) (length xs) ≡ last_of (x ∷ xs)
at_end x [] = refl
at_end x (y ∷ ys) = at_end y ys

-- the last of a list by its place
pub last_at : (ms : List NodeRef) → slice_get ms (length ms - 1) ≡ last_of ms
last_at [] = refl
last_at (x ∷ xs) =
    let before : length (x ∷ xs) - 1 ≡ length xs = omega arith in
    ap (λ k. slice_get (x ∷ xs) k) before ∙ at_end x xs

-- a leaf that is no name and no constant is anything
value_by : (r : RowName) (t : Tree) → (r ≡ name.Name → ⊥) → (r ≡ name.Epath → ⊥) → (r ≡ name.Econst → ⊥) → value_in (row_of r) t ≡ anything
unfolding row_of
value_by name.Name t a b c = absurd (a refl)
value_by name.Epath t a b c = absurd (b refl)
value_by name.Econst t a b c = absurd (c refl)
value_by _ t a b c = refl

pub any_value : (nd : Node) → ((out-Node nd).row ≡ name.Name → ⊥) → ((out-Node nd).row ≡ name.Epath → ⊥) → ((out-Node nd).row ≡ name.Econst → ⊥) → value_in (row_at (node_view nd)) (node_view nd) ≡ anything
any_value nd a b c = ap (λ r. value_in r (node_view nd)) (row_of_node nd) ∙ value_by (out-Node nd).row (node_view nd) a b c

-- and tells nothing
pub value_tells : {A E : Type 0} (r : Result A E) (v : Value) (negated : Bool) (a b : Parts) (env : List Entry) → v ≡ anything → Silent a b → OnOk r (TellsValue v negated a b env)
value_tells (Ok x) v negated a b env e h = subst (λ w. TellsValue w negated a b env) (sym e) h
value_tells (Err x) v negated a b env e h = tt

-- a constructor that isn't known, with its one argument
pub unknown_alone : (a : Parts) (i : ℕ) (os : List Operand) (head : ℕ) → (length os == 0) ≡ true → EndsUnknown a a (expressions_of i (map operand_view os)) head head
unknown_alone a i [] head none = (refl, refl)
unknown_alone a i (o ∷ os) head none = let zero_many : length (o ∷ os) ≡ 0 = eqb-true (length (o ∷ os)) 0 none in absurd (omega arith)

-- with more
pub unknown_more : (a b : Parts) (i : ℕ) (os : List Operand) (head m : ℕ) → (length os == 0) ≡ false → TypesAny a b m → EndsUnknown a b (expressions_of i (map operand_view os)) head m
unknown_more a b i [] head m more any = absurd (cc)
unknown_more a b i (o ∷ os) head m more any = any
