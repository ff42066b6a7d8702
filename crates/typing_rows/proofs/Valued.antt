-- Whether an expression is non-expansive, by its operands.
use Rattle.std.proofs.Common.{◌≡◌, ◌∙◌, ◌++◌, ◌&&◌, ◌==◌, ℕ, Bool, true, false, List, [], ◌∷◌, length, Option, Some, None, option_map, option_to_list, refl, sym, ap, subst, append-nil}
use Rattle.std.specs.Prelude.{All}
use Rattle.std.proofs.lemmas.List.Elements.{All-nil, All-cons, All-head, All-append}
use Rattle.token_model.specs.Kinds.{Tok, Kind, upper}
use Rattle.tree_model.specs.Rows.{Row, name_row, econ_row, epath_row, econst_row, hole_row, eparen_row, ebegin_row, elist_row, prefix_row, field_row, eapp_row, eassert_row, ewhile_row, efor_row, eneg_row, infix_row, econs_row, etuple_row, eset_row, eif_row, eseq_row, elet_row, ematch_row, etry_row, efun_row, efunction_row, erecord_row}
use Rattle.tree_model.specs.Slots.{is_operand}
use Rattle.tree_model.specs.Trees.{Place, Tree, Forest, node, inner}
use Rattle.row_parts.specs.Numbered.{Numbered, numbered, operands_in, all_operands, first_in, first_of, filled_in, path_in}
use Rattle.typing_model.specs.Contexts.{Context}
use Rattle.typing_model.specs.Parts as parts
use Rattle.typing_model.specs.Parts.{Expression, Form, Written, expression_in, types_in}
use Rattle.typing_model.specs.Expressions.{expression_row, all_values, is_built_value, is_false, path_expression, parenthesised, begun, cons_expression, if_expression, assert_expression}
use Rattle.typing_steps.specs.Rows.{IsNoConstructor}
use Rattle.operand_laws.specs.Formed.{row_of, is_needed, may_repeat, IsFormed}
use Rattle.operand_laws.specs.Operands.{number_of, parts_of, path_of, expression_of}
use Rattle.typing_rows.specs.Asked.{row_expression, expressions_of}
use Rattle.typing_rows.specs.CarriedRows.{an_expression, sort_in, IsCarriedRow, IsTreeOfCarriedRows, IsCarried}
use Rattle.typing_rows.specs.Valued.{value_operands, are_values}
use Rattle.typing_rows.proofs.Going.{operands_carried, all_carried}
use Rattle.typing_rows.proofs.Terms.{one, several, perhaps, alone, one_at_most, all_of, as_row, both_lists, one_in, two_operands, name_term, path_term, constant_term, hole_term, field_term, application_term}
use Rattle.typing_rows.proofs.Constructed.{constructor_term}

and_true : (b : Bool) → (b && true) ≡ b
and_true true = refl
and_true false = refl

-- one expression alone
one_value : (c : Context) (e : Expression) → all_values c (e ∷ []) ≡ e.is_value c
one_value c e = and_true (e.is_value c)

-- a path is one always
path_kind : (n : ℕ) (at : Place) (q : List Tok) (start end col : ℕ) (name : List ℕ) (k : Kind) (c : Context) →
    (path_expression n at (record { qualifiers = q; last = Some (record { kind = k; start = start; end = end; col = col; name = name }) })).is_value c ≡ true
path_kind n at q start end col name upper c = refl
path_kind n at q start end col name _ c = refl

path_value : (n : ℕ) (at : Place) (p : Written) (c : Context) → (path_expression n at p).is_value c ≡ true
path_value n at p c = by p.last
  where
    by : (o : Option Tok) → (path_expression n at (record { qualifiers = p.qualifiers; last = o })).is_value c ≡ true
    by None = refl
    by (Some t) = path_kind n at p.qualifiers t.start t.end t.col t.name t.kind c

paren_value : (n : ℕ) (at : Place) (e : Expression) (o : Option parts.TypeExpression) (c : Context) → (parenthesised n at e o).is_value c ≡ e.is_value c
paren_value n at e None c = refl
paren_value n at e (Some t) c = refl

begun_value : (i n : ℕ) (at : Place) (c : Context) (o : Option Numbered) → (begun n at (option_map (expression_of i) o)).is_value c ≡ all_values c (expressions_of i (option_to_list o))
begun_value i n at c None = refl
begun_value i n at c (Some o) = sym (one_value c (expression_of i o))

if_value : (i n : ℕ) (at : Place) (c : Context) (e f : Expression) (o : Option Numbered) → (if_expression n at e f (option_map (expression_of i) o)).is_value c ≡ all_values c (f ∷ expressions_of i (option_to_list o))
if_value i n at c e f None = sym (and_true (f.is_value c))
if_value i n at c e f (Some o) = sym (ap (λ b. f.is_value c && b) (one_value c (expression_of i o)))

-- a row of which its operands alone decide whether it is non-expansive
pub record IsPlainRow (r : Row) : Type 0 where
  pub application : r ≡ eapp_row → ⊥
  pub assertion : r ≡ eassert_row → ⊥
  pub matching : r ≡ ematch_row → ⊥
  pub binding : r ≡ elet_row → ⊥
  pub recording : r ≡ erecord_row → ⊥

-- whether a node is non-expansive, by the operands that decide it
pub value_term : (i n : ℕ) (at : Place) (t : Tree) (ps : Forest) (r : Row) → IsFormed n t → row_of t ≡ r → IsCarriedRow r t ps → IsPlainRow r → (c : Context) → (row_expression i n at t).is_value c ≡ are_values c i (value_operands r n t)
unfolding expression_row is_operand is_needed may_repeat
value_term i n at t ps name_row formed row carried plain c = ap (λ e. e.is_value c) (name_term i n at t row)
value_term i n at t ps econ_row formed row carried plain c = ap (λ e. e.is_value c) (constructor_term i n at t row)
value_term i n at t ps epath_row formed row carried plain c = ap (λ e. e.is_value c) (path_term i n at t row) ∙ path_value (number_of i n) at (path_of (path_in t 0 1)) c
value_term i n at t ps econst_row formed row carried plain c = ap (λ e. e.is_value c) (constant_term i n at t row)
value_term i n at t ps hole_row formed row carried plain c = ap (λ e. e.is_value c) (hole_term i n at t row)
value_term i n at t ps eparen_row formed row carried plain c =
    ap (λ e. e.is_value c) (as_row i n t formed at eparen_row row) ∙ paren_value (number_of i n) at (expression_in 1 (parts_of i n t)) (parts.first_of (types_in 3 (parts_of i n t))) c ∙
    ap (λ e. e.is_value c) (one i n t formed eparen_row 1 row refl refl) ∙ sym (one_value c (expression_of i (filled_in n t 1))) ∙ ap (λ os. all_values c (expressions_of i os)) (sym (alone i n t formed eparen_row 1 row refl refl refl))
value_term i n at t ps ebegin_row formed row carried plain c =
    ap (λ e. e.is_value c) (as_row i n t formed at ebegin_row row) ∙ ap (λ o. (begun (number_of i n) at o).is_value c) (perhaps i n t formed ebegin_row 1 row refl) ∙
    begun_value i (number_of i n) at c (first_in n t 1) ∙ ap (λ os. all_values c (expressions_of i os)) (sym (one_at_most i n t formed ebegin_row 1 row refl))
value_term i n at t ps elist_row formed row carried plain c =
    ap (λ e. e.is_value c) (as_row i n t formed at elist_row row) ∙ ap (all_values c) (several i n t formed elist_row 1 row refl)
value_term i n at t ps field_row formed row carried plain c =
    ap (λ e. e.is_value c) (field_term i n at t formed row) ∙ sym (one_value c (expression_of i (filled_in n t 0))) ∙ ap (λ os. all_values c (expressions_of i os)) (sym (one_in n t field_row 0 formed row refl refl refl refl))
value_term i n at t ps econs_row formed row carried plain c =
    ap (λ e. e.is_value c) (as_row i n t formed at econs_row row) ∙
    (λ k. (cons_expression (number_of i n) at (one i n t formed econs_row 0 row refl refl k) (one i n t formed econs_row 2 row refl refl k)).is_value c) ∙
    ap (λ b. (expression_of i (filled_in n t 0)).is_value c && b) (sym (one_value c (expression_of i (filled_in n t 2)))) ∙
    ap (λ os. all_values c (expressions_of i os)) (sym (two_operands n t econs_row 0 2 formed row refl refl refl refl refl refl refl))
value_term i n at t ps etuple_row formed row carried plain c =
    ap (λ e. e.is_value c) (as_row i n t formed at etuple_row row) ∙
    (λ k. all_values c (several i n t formed etuple_row 0 row refl k ++ several i n t formed etuple_row 2 row refl k)) ∙
    ap (all_values c) (sym (ap (expressions_of i) (all_of i n t formed etuple_row row) ∙ both_lists i (operands_in n t 0) (operands_in n t 2 ++ []) ∙ ap (λ os. expressions_of i (operands_in n t 0) ++ expressions_of i os) (append-nil (operands_in n t 2))))
value_term i n at t ps eif_row formed row carried plain c =
    let second = filled_in n t 3 in
    ap (λ e. e.is_value c) (as_row i n t formed at eif_row row) ∙
    (λ k. (if_expression (number_of i n) at (expression_in 1 (parts_of i n t)) (one i n t formed eif_row 3 row refl refl k) (perhaps i n t formed eif_row 5 row refl k)).is_value c) ∙
    if_value i (number_of i n) at c (expression_in 1 (parts_of i n t)) (expression_of i second) (first_in n t 5) ∙
    ap (λ os. all_values c (expressions_of i (os ++ option_to_list (first_in n t 5)))) (sym (alone i n t formed eif_row 3 row refl refl refl))
value_term i n at t ps prefix_row formed row carried plain c = ap (λ e. e.is_value c) (as_row i n t formed at prefix_row row)
value_term i n at t ps infix_row formed row carried plain c = ap (λ e. e.is_value c) (as_row i n t formed at infix_row row)
value_term i n at t ps eneg_row formed row carried plain c = ap (λ e. e.is_value c) (as_row i n t formed at eneg_row row)
value_term i n at t ps ewhile_row formed row carried plain c = ap (λ e. e.is_value c) (as_row i n t formed at ewhile_row row)
value_term i n at t ps efor_row formed row carried plain c = ap (λ e. e.is_value c) (as_row i n t formed at efor_row row)
value_term i n at t ps eset_row formed row carried plain c = ap (λ e. e.is_value c) (as_row i n t formed at eset_row row)
value_term i n at t ps etry_row formed row carried plain c = ap (λ e. e.is_value c) (as_row i n t formed at etry_row row)
value_term i n at t ps efun_row formed row carried plain c = ap (λ e. e.is_value c) (as_row i n t formed at efun_row row)
value_term i n at t ps efunction_row formed row carried plain c = ap (λ e. e.is_value c) (as_row i n t formed at efunction_row row)
value_term i n at t ps eseq_row formed row carried plain c = ap (λ e. e.is_value c) (as_row i n t formed at eseq_row row)
value_term i n at t ps eapp_row formed row carried plain c = absurd (plain.application refl)
value_term i n at t ps eassert_row formed row carried plain c = absurd (plain.assertion refl)
value_term i n at t ps ematch_row formed row carried plain c = absurd (plain.matching refl)
value_term i n at t ps elet_row formed row carried plain c = absurd (plain.binding refl)
value_term i n at t ps erecord_row formed row carried plain c = absurd (plain.recording refl)
value_term i n at t ps _ formed row carried plain c = absurd carried

-- `assert`: over the word `false`
pub assert_value : (i n : ℕ) (at : Place) (t : Tree) → IsFormed n t → row_of t ≡ eassert_row → (c : Context) → (row_expression i n at t).is_value c ≡ is_false (expression_of i (filled_in n t 1)).form
unfolding expression_row is_operand is_needed
assert_value i n at t formed row c =
    ap (λ e. e.is_value c) (as_row i n t formed at eassert_row row) ∙ ap (λ e. (assert_expression (number_of i n) at e).is_value c) (one i n t formed eassert_row 1 row refl refl)

-- an application: of a constructor, with one argument
pub application_value : (i n : ℕ) (at : Place) (t : Tree) → IsFormed n t → row_of t ≡ eapp_row → (c : Context) → (row_expression i n at t).is_value c ≡ is_built_value c (expressions_of i (operands_in n t 1)) (expression_of i (filled_in n t 0)).form
application_value i n at t formed row c = ap (λ e. e.is_value c) (application_term i n at t formed row)

-- a head that is no constructor
pub built_by_none : (c : Context) (es : List Expression) (f : Form) → IsNoConstructor f → is_built_value c es f ≡ false
built_by_none c es (parts.a_constructor p) no_one = absurd no_one
built_by_none c es (parts.a_path p) no_one = refl
built_by_none c es parts.a_float no_one = refl
built_by_none c es parts.a_false no_one = refl
built_by_none c es (parts.a_field p l) no_one = refl
built_by_none c es parts.no_expression no_one = refl
built_by_none c es parts.other no_one = refl

-- not one argument
pub built_of_more : (c : Context) (es : List Expression) (f : Form) → (length es == 1) ≡ false → is_built_value c es f ≡ false
built_of_more c es (parts.a_constructor p) more = ap (λ b. b && all_values c es) more
built_of_more c es (parts.a_path p) more = refl
built_of_more c es parts.a_float more = refl
built_of_more c es parts.a_false more = refl
built_of_more c es (parts.a_field p l) more = refl
built_of_more c es parts.no_expression more = refl
built_of_more c es parts.other more = refl

-- a constructor with one argument
pub built_of_one : (c : Context) (es : List Expression) (f : Form) (p : Written) → f ≡ parts.a_constructor p → (length es == 1) ≡ true → is_built_value c es f ≡ all_values c es
built_of_one c es f p is one = ap (is_built_value c es) is ∙ ap (λ b. b && all_values c es) one

-- the row of a node that is made of carried rows is one of them
pub carried_row : (t : Tree) → IsTreeOfCarriedRows t → (ps : Forest) × IsCarriedRow (row_of t) t ps
carried_row (node r x ps) h = (ps, h.0)

-- the first of some operands, if there is one
first_carried : (os : List Numbered) → All IsCarried os → All IsCarried (option_to_list (first_of os))
first_carried [] all = all
first_carried (o ∷ os) all = All-cons IsCarried o [] (All-head IsCarried o os all) (All-nil IsCarried)

some_same : (xs os : List Numbered) → Some xs ≡ Some os → xs ≡ os
some_same xs os e = cc

-- the operands that decide are carried
pub values_carried : (n : ℕ) (at : Place) (t : Tree) (os : List Numbered) → IsCarried (numbered n at (inner t)) → value_operands (row_of t) n t ≡ Some os → All IsCarried os
values_carried n at t os carried is = by (row_of t) refl is
  where
    slot : (s : ℕ) → sort_in (row_of t) s ≡ an_expression → Some (operands_in n t s) ≡ Some os → All IsCarried os
    slot s sort e = subst (All IsCarried) (some_same (operands_in n t s) os e) (operands_carried n at t s sort carried)

    all : ((s : ℕ) → sort_in (row_of t) s ≡ an_expression) → Some (all_operands n t) ≡ Some os → All IsCarried os
    all sorts e = subst (All IsCarried) (some_same (all_operands n t) os e) (all_carried n at t sorts carried)

    none : (let xs : List Numbered = [] in Some xs) ≡ Some os → All IsCarried os
    none e = subst (All IsCarried) (some_same [] os e) (All-nil IsCarried)

    by : (r : Row) → row_of t ≡ r → value_operands r n t ≡ Some os → All IsCarried os
    by eparen_row row e = slot 1 (ap (λ r. sort_in r 1) row) e
    by ebegin_row row e = slot 1 (ap (λ r. sort_in r 1) row) e
    by elist_row row e = slot 1 (ap (λ r. sort_in r 1) row) e
    by field_row row e = all (λ s. ap (λ r. sort_in r s) row) e
    by econs_row row e = all (λ s. ap (λ r. sort_in r s) row) e
    by etuple_row row e = all (λ s. ap (λ r. sort_in r s) row) e
    by eif_row row e =
        subst (All IsCarried) (some_same (operands_in n t 3 ++ option_to_list (first_in n t 5)) os e)
        (All-append IsCarried (operands_in n t 3) (option_to_list (first_in n t 5)) (operands_carried n at t 3 (ap (λ r. sort_in r 3) row) carried) (first_carried (operands_in n t 5) (operands_carried n at t 5 (ap (λ r. sort_in r 5) row) carried)))
    by name_row row e = none e
    by econ_row row e = none e
    by epath_row row e = none e
    by econst_row row e = none e
    by hole_row row e = none e
    by efun_row row e = none e
    by efunction_row row e = none e
    by _ row e = absurd (cc)
