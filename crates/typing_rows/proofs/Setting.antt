-- A field that is set, from what its label, its part and the right side carry.
use Rattle.std.proofs.Common.{◌≡◌, ◌∙◌, ◌++◌, ℕ, Bool, true, false, List, [], ◌∷◌, Option, Some, None, option_map, refl, sym, ap, subst, append-nil, append_assoc, if◌then◌else◌}
use Rattle.std.specs.Prelude.{slice_get}
use Rattle.token_model.specs.Kinds.{Tok}
use Rattle.tree_model.specs.Rows.{field_row, eset_row}
use Rattle.tree_model.specs.Slots.{is_operand}
use Rattle.tree_model.specs.Trees.{Place, Tree, inner}
use Rattle.type_model.specs.Types.{Typ}
use Rattle.text_terms.specs.declared.Span.{Span}
use Rattle.syntax_tree.specs.View as view
use Rattle.row_parts.specs.Numbered.{numbered, all_operands, filled_in, path_in}
use Rattle.signature_model.specs.Declarations.{Declaration, Label}
use Rattle.typing_model.specs.Demands.{site, test, not_mutable}
use Rattle.typing_model.specs.Contexts.{Context, is_kept, ask, type_at, tell_typed}
use Rattle.typing_model.specs.BuiltIns.{unit_type}
use Rattle.typing_model.specs.Parts.{Expression, Written, place_of}
use Rattle.typing_model.specs.Meanings.{recorded_expression}
use Rattle.typing_model.specs.Expressions.{expression_row, has_type, is_of, label_found, ask_mutable, set_expression}
use Rattle.env_table.specs.declared.entries.Entry.{Entry}
use Rattle.env_table.specs.declared.faults.FaultKind.TheVariants as fault
use Rattle.typing_state.specs.declared.parts.Parts.{Parts}
use Rattle.typing_state.specs.Messages.{not_mutable_text}
use Rattle.typing_state.specs.Goes.{Goes}
use Rattle.typing_conditions.specs.Sights.{own, number_in}
use Rattle.typing_conditions.specs.Steps.{Records}
use Rattle.typing_conditions.specs.Carrying.{Carried}
use Rattle.typing_conditions.proofs.Answering.{to_as}
use Rattle.typing_conditions.proofs.Carried.{carried_refl, carried_trans, carried_as}
use Rattle.typing_conditions.proofs.Meaning.{means_on, means_more, all_mean_on}
use Rattle.typing_conditions.proofs.Nodes.{same_made}
use Rattle.typing_conditions.proofs.Recording.{ends_own}
use Rattle.typing_conditions.proofs.Hiding.{owns_also, owns_node, owns_row}
use Rattle.typing_conditions.proofs.Branching.{carried_after}
use Rattle.typing_conditions.proofs.Surrounding.{surrounds_on, surrounds_sees}
use Rattle.typing_steps.specs.States.{is_aloud, sight}
use Rattle.typing_steps.specs.Demands.{TestedAs}
use Rattle.typing_steps.specs.Typing.{TypesTo, TypesRow, TypesAny}
use Rattle.typing_steps.specs.Building.{used_by, label_asks, label_in_scope, IsLabelOf, TypesLabel, TypesNoLabel}
use Rattle.typing_steps.proofs.Testing.{test_asked}
use Rattle.typing_steps.proofs.Rows.{row_carried}
use Rattle.operand_laws.specs.Formed.{row_of, is_needed, IsFormed}
use Rattle.operand_laws.specs.Operands.{number_of, path_of, expression_of}
use Rattle.operand_laws.proofs.Standing.{expression_of_stands}
use Rattle.operand_laws.proofs.Sorts.{expression_by_row}
use Rattle.typing_rows.specs.Asked.{row_expression, expressions_of, parts_ask, has_if, label_ends, field_ends}
use Rattle.typing_rows.specs.Contracts.{TypesAs, TypesParts, AsksAt}
use Rattle.typing_rows.specs.Fields.{settable_asks, mutable_by, mutable_asks, AsksSettable, EndsSettable, TypesSettable}
use Rattle.typing_rows.proofs.Ending.{row_of_type, row_after}
use Rattle.typing_rows.proofs.Terms.{one, as_row, field_term, ordered_term}
use Rattle.typing_rows.proofs.Fielded.{found_ends}
use Rattle.typing_conditions.specs.Carrying.{at_node}
use Rattle.typing_conditions.proofs.Surrounding.{surrounds_at, own_node}

-- the demand that a label is mutable, kept or reported at the label
pub asks_settable : (a b : Parts) (span : Span) (qs : List Tok) (t : Tok) (mutable : Bool) → view.place_of span ≡ place_of t → TestedAs mutable a b span fault.Mutable (not_mutable_text t.name) → AsksSettable a b (record { qualifiers = qs; last = Some t }) mutable
asks_settable a b span qs t mutable place tested = λ aloud F scope G n.
    subst (λ p. Carried F scope (λ c. ask n 0 p (test (not_mutable t.name) mutable)) (sight a) G (sight b) G) place (test_asked a b {F = F} {scope = scope} {G = G} (not_mutable t.name) (site n 0) mutable aloud tested).carried

-- where the label is missing, nothing is asked
pub settable_none : (a : Parts) (qs : List Tok) (mutable : Bool) → AsksSettable a a (record { qualifiers = qs; last = None }) mutable
settable_none a qs mutable = λ aloud F scope G n. carried_refl

-- where a label is found, `mutable` is asked of it
mutable_found : (c : Context) (n m : ℕ) (p : Written) (owner body : Typ) {mutable : Bool} → is_kept c m 0 ≡ true → IsLabelOf owner body mutable (label_in_scope c.env p) → mutable_asks c n m p ≡ settable_asks n p mutable
mutable_found c n m p owner body {mutable} kept h =
    ap (λ v. mutable_by n p.last (if v then option_map (λ (r : Declaration × Label). r.1) (label_found c p) else None)) kept ∙ ap (λ o. mutable_by n p.last (option_map (λ (r : Declaration × Label). r.1) o)) h.is ∙ by p.last
  where
    by : (o : Option Tok) → mutable_by n o (Some h.label) ≡ settable_asks n (record { qualifiers = p.qualifiers; last = o }) mutable
    by None = refl
    by (Some t) = ap (λ b. ask n 0 (place_of t) (test (not_mutable t.name) b)) h.settable

-- where none is, it isn't
mutable_none : (c : Context) (n m : ℕ) (p : Written) → (if is_kept c m 0 then label_in_scope c.env p else None) ≡ None → mutable_asks c n m p ≡ []
mutable_none c n m p none = ap (mutable_by n p.last) (by (is_kept c m 0) (label_in_scope c.env p) none)
  where
    by : (k : Bool) (o : Option (Declaration × Label)) → (if k then o else None) ≡ None → (if k then option_map (λ (r : Declaration × Label). r.1) o else None) ≡ None
    by true o e = ap (option_map (λ (r : Declaration × Label). r.1)) e
    by false o e = refl

-- e . l, where the label is found: the part is the record, the whole is the field, and the label is to be mutable
pub ends_settable : (a b d f : Parts) (env : List Entry) (es : List Expression) (ms : List ℕ) (p : Written) (record_node field : ℕ) (mutable : Bool) → TypesLabel a b env p record_node field mutable → Goes a b → AsksAt b d env es ms 0 record_node → Goes b d →
    AsksSettable d f p mutable → EndsSettable a f env p es ms field
ends_settable a b d f env es ms p record_node field mutable label goes asked goes' tested = λ aloud F scope G n m its names all.
    let k = label aloud F scope G m m names in
    let loud : is_aloud b.telling ≡ true = ap is_aloud goes.telling ∙ aloud in
    let q = asked loud F scope (k.letters ++ G) m 1 (used_by m k.owner) its (surrounds_on k.carried.stays names) (all_mean_on k.carried.stays all) k.of_record in
    let have = means_on q.stays k.of_field in
    let r = tested (ap is_aloud goes'.telling ∙ loud) F scope ((own m, field) ∷ (k.letters ++ G)) n in
    let made = same_made {scope = scope} (own m) (λ t. tt) have in
    let z = carried_trans (carried_trans q made) r in
    let behind = carried_after {further = λ c. label_ends c m es (if is_kept c m 0 then label_in_scope c.env p else None) ++ mutable_asks c n m p} k.carried (λ V c loose under agrees named kept.
    (let is = k.finds V c loose under agrees named in let here = k.kept c kept in
    ap (λ xs. xs ++ mutable_asks c n m p) (ap (label_ends c m es) (ap (λ v. if v then label_in_scope c.env p else None) here) ∙ found_ends c m es (label_in_scope c.env p) k.owner k.body is) ∙
    ap (λ xs. (has_if c m 1 (slice_get es 0) (used_by m k.owner c.chosen) ++ is_of c m (used_by m k.body c.chosen)) ++ xs) (mutable_found c n m p k.owner k.body here is))) z in
    let have' = means_on r.stays (means_on made.stays have) in
    record {
      own = (own m, field) ∷ k.letters;
      type = λ ch. ch.type_at m;
      first = λ c. field_ends p es c m ++ mutable_asks c n m p;
      ends = λ c. [];
      all = λ c. append-nil (field_ends p es c m ++ mutable_asks c n m p);
      typed = record {
        carried = carried_as (λ c. sym (append_assoc (label_asks c m p) (label_ends c m es (if is_kept c m 0 then label_in_scope c.env p else None)) (mutable_asks c n m p))) behind;
        means = record { open_node = have'.open_node; is = λ V ch loose g. g.given.0.is };
      };
      owns = λ is_known. owns_also (own m) refl refl (owns_row k.of_row);
      end = ends_own m;
    }

-- where it isn't found, the whole is of any type
pub ends_settable_unknown : (a b d : Parts) (env : List Entry) (es : List Expression) (ms : List ℕ) (p : Written) (ty : ℕ) → TypesNoLabel a b env p → Goes a b → TypesAny b d ty → EndsSettable a d env p es ms ty
ends_settable_unknown a b d env es ms p ty label goes any = λ aloud F scope G n m its names all.
    let k = label aloud F scope G m names in
    let v = any F scope G (own m) (λ t. tt) (k.carried.stays.reaches names.reached) in
    let behind = carried_after {further = λ c. label_ends c m es (if is_kept c m 0 then label_in_scope c.env p else None) ++ mutable_asks c n m p} k.carried (λ V c loose under agrees named kept.
    (let none = k.none V c loose under agrees named kept in
    ap (λ o. label_ends c m es o ++ mutable_asks c n m p) none ∙ mutable_none c n m p none)) v.carried in
    record {
      own = (own m, ty) ∷ [];
      type = λ ch. ch.type_at m;
      first = λ c. field_ends p es c m ++ mutable_asks c n m p;
      ends = λ c. [];
      all = λ c. append-nil (field_ends p es c m ++ mutable_asks c n m p);
      typed = record {
        carried = carried_as (λ c. sym (append_assoc (label_asks c m p) (label_ends c m es (if is_kept c m 0 then label_in_scope c.env p else None)) (mutable_asks c n m p))) behind;
        means = v.means;
      };
      owns = λ is_known. owns_node (own m) refl refl;
      end = ends_own m;
    }

-- what a field asks that is set, once it is recorded
recorded_settable : (i n k : ℕ) (at : Place) (t : Tree) → IsFormed n t → row_of t ≡ field_row → (c : Context) → let es = expressions_of i (all_operands n t) in let p = path_of (path_in t 2 3) in let e = expression_of i (numbered n at (inner t)) in
    tell_typed (number_of i n) c ++ (parts_ask field_row 0 c (number_of i n) es ++ (field_ends p es c (number_of i n) ++ mutable_asks c k (number_of i n) p)) ≡ e.typed c ++ ask_mutable c k e.form
recorded_settable i n k at t formed row c =
    let es = expressions_of i (all_operands n t) in
    let p = path_of (path_in t 2 3) in
    let m = number_of i n in
    let asks = mutable_asks c k m p in
    ap (λ xs. tell_typed m c ++ xs) (sym (append_assoc (parts_ask field_row 0 c m es) (field_ends p es c m) asks)) ∙ sym (append_assoc (tell_typed m c) (parts_ask field_row 0 c m es ++ field_ends p es c m) asks) ∙
    ap (λ xs. (tell_typed m c ++ xs) ++ asks) (ordered_term i n at t field_row formed row tt c ∙ ap (λ e. e.typed c) (field_term i n at t formed row)) ∙
    ap (λ e. (recorded_expression m e).typed c ++ ask_mutable c k (recorded_expression m e).form) (sym (field_term i n at t formed row)) ∙ ap (λ e. e.typed c ++ ask_mutable c k e.form) (sym (expression_by_row i n at t))

-- A field that is set: its part, its end, and its record.
pub field_settable : (a b d f : Parts) (env : List Entry) (n : ℕ) (at : Place) (t : Tree) (ms : List ℕ) (ty : ℕ) → IsFormed n t → row_of t ≡ field_row → TypesParts a b env field_row (expressions_of a.item (all_operands n t)) ms → Goes a b →
    EndsSettable b d env (path_of (path_in t 2 3)) (expressions_of b.item (all_operands n t)) ms ty → Goes b d → (is_aloud d.telling ≡ true → Records (sight d) (sight f) n ty env) → TypesSettable a f env (expression_of a.item (numbered n at (inner t))) ty
field_settable a b d f env n at t ms ty formed row parts goes ends goes' records = λ aloud F scope G k s.
    let i = a.item in
    let m = number_of i n in
    let loud : is_aloud b.telling ≡ true = ap is_aloud goes.telling ∙ aloud in
    let p = parts aloud F (at_node m scope) G m (own_node m) (surrounds_at m s) in
    let end = (subst (λ j. EndsSettable b d env (path_of (path_in t 2 3)) (expressions_of j (all_operands n t)) ms ty) goes.item ends) loud F (at_node m scope) G k m (own_node m) (surrounds_on p.carried.stays (surrounds_at m s)) p.means in
    let whole = row_carried (ap (λ j. number_in j n) (goes'.item ∙ goes.item)) (row_after p.carried end) (records (ap is_aloud goes'.telling ∙ loud)) (surrounds_sees s) in
    to_as (λ c. recorded_settable i n k at t formed row c) (λ ch. ap ch.type_at (sym (expression_of_stands i (numbered n at (inner t))).number)) whole

-- what is no field asks nothing of a label
pub part_settable : (a b : Parts) (env : List Entry) (e : Expression) (m : ℕ) → ((c : Context) (n : ℕ) → ask_mutable c n e.form ≡ []) → TypesTo a b env (λ c. e.typed c) (λ ch. ch.type_at e.node) m → TypesSettable a b env e m
part_settable a b env e m none typed = λ aloud F scope G n s. to_as (λ c. sym (append-nil (e.typed c)) ∙ ap (λ xs. e.typed c ++ xs) (sym (none c n))) (λ ch. refl) (typed aloud F scope G s)

-- e . l <- e
pub set_term : (i n : ℕ) (at : Place) (t : Tree) → IsFormed n t → row_of t ≡ eset_row → row_expression i n at t ≡ set_expression (number_of i n) at (expression_of i (filled_in n t 0)) (expression_of i (filled_in n t 2))
unfolding expression_row is_operand is_needed
set_term i n at t formed row =
    as_row i n t formed at eset_row row ∙ (λ k. set_expression (number_of i n) at (one i n t formed eset_row 0 row refl refl k) (one i n t formed eset_row 2 row refl refl k))

-- The row of a field that is set: the field, and the right part, which has its type.
pub set_typed : (a b d : Parts) (env : List Entry) (n : ℕ) (at : Place) (t : Tree) (ty : ℕ) → IsFormed n t → row_of t ≡ eset_row → TypesSettable a b env (expression_of a.item (filled_in n t 0)) ty → Goes a b →
    TypesAs b d env (expression_of b.item (filled_in n t 2)) ty → TypesRow a d env (λ c. (row_expression a.item n at t).typed c) (number_of a.item n) d.constants.unit.0
set_typed a b d env n at t ty formed row typed goes right = λ aloud F scope G its s.
    let i = a.item in
    let m = number_of i n in
    let e = expression_of i (filled_in n t 0) in
    let f = expression_of i (filled_in n t 2) in
    let x = typed aloud F scope G m s in
    let y = (subst (λ j. TypesAs b d env (expression_of j (filled_in n t 2)) ty) goes.item right) (ap is_aloud goes.telling ∙ aloud) F scope G m 1 (λ ch. ch.type_at e.node) its (surrounds_on x.carried.stays s) x.means in
    let z = carried_trans x.carried y in
    row_of_type (λ c. (e.typed c ++ ask_mutable c m e.form) ++ (f.typed c ++ has_type c m 1 f (type_at c e.node))) (λ ch. unit_type) z (means_more (surrounds_on z.stays s).fixed.unit)
    (λ c. ap (λ xs. xs ++ is_of c m unit_type) (sym (append_assoc (e.typed c ++ ask_mutable c m e.form) (f.typed c) (has_type c m 1 f (type_at c e.node)))) ∙ ap (λ x. x.typed c) (sym (set_term i n at t formed row)))
