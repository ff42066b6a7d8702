-- The rows that carry, as the definitions take them, over the operands of the code.
use Rattle.std.proofs.Common.{◌≡◌, ◌∙◌, ◌++◌, ◌==◌, ◌&&◌, not, ℕ, ◌+◌, Bool, true, false, arith, List, [], ◌∷◌, Option, Some, None, option_map, option_to_list, refl, sym, ap, append_assoc, append-nil, if◌then◌else◌}
use Rattle.std.specs.List.{flat_map}
use Rattle.std.proofs.lemmas.Bool.{eqb-true}
use Rattle.tree_model.specs.Rows.{Row, name_row, epath_row, econst_row, hole_row, eparen_row, ebegin_row, elist_row, prefix_row, field_row, eapp_row, eassert_row, ewhile_row, eneg_row, infix_row, econs_row, etuple_row, eif_row, eseq_row}
use Rattle.tree_model.specs.Slots.{is_operand, operand_slots}
use Rattle.tree_model.specs.Trees.{Place, Tree}
use Rattle.row_parts.specs.Numbered.{Numbered, operands_in, all_operands, first_in, filled_in, token_in, path_in}
use Rattle.token_model.specs.Kinds.{Tok}
use Rattle.signature_model.specs.Declarations.{Declaration, Label, type_of}
use Rattle.signature_model.specs.Entries.{label_kind}
use Rattle.typing_model.specs.Demands.{Condition, label_word}
use Rattle.typing_model.specs.Contexts.{Context, type_at, is_kept}
use Rattle.typing_model.specs.Names.{ask_bound, used_at}
use Rattle.typing_model.specs.BuiltIns.{unit_type, bool_type, list_type}
use Rattle.typing_model.specs.Patterns.{ask_all, behind_first}
use Rattle.typing_model.specs.Parts as parts
use Rattle.typing_model.specs.Parts.{Expression, expressions_in, expression_in, types_in, last_of, Form}
use Rattle.typing_model.specs.Expressions.{expression_row, typed_all, has_type, is_of, first_type, each_has, application, name_expression, path_expression, field_expression, field_asks, label_found, constant_expression, hole_expression, parenthesised, begun, list_expression, cons_expression, tuple_expression, if_expression, sequence_expression, while_expression, assert_expression, assert_asks, infix_expression, prefix_expression, minus_expression, is_false}
use Rattle.operand_laws.specs.Formed.{row_of, is_needed, may_repeat, IsFormed}
use Rattle.operand_laws.specs.Operands.{number_of, parts_of, path_of, expression_of}
use Rattle.operand_laws.proofs.Sorts.{expression_stands, expressions_stand, first_expression_stands, first_type_stands}
use Rattle.operand_laws.proofs.SlotBySlot.{all_in_order, at_most_one, exactly_one}
use Rattle.operand_laws.proofs.Tokens.{token_stands, path_stands}
use Rattle.typing_rows.specs.Asked.{IsPlainRow, IsOrderedRow, row_expression, expressions_of, parts_ask, bool_if, wants_bool, end_asks, last_asks, assert_ends, label_ends, field_ends, ordered_end}

-- one expression in a slot that is needed
module _ (i n : ℕ) (t : Tree) (formed : IsFormed n t) where
  pub one : (r : Row) (s : ℕ) → row_of t ≡ r → is_operand r s ≡ true → is_needed r s ≡ true → expression_in s (parts_of i n t) ≡ expression_of i (filled_in n t s)
  one r s row takes needs = expression_stands i n t s formed (ap (λ q. is_operand q s) row ∙ takes) (ap (λ q. is_needed q s) row ∙ needs)

  pub several : (r : Row) (s : ℕ) → row_of t ≡ r → is_operand r s ≡ true → expressions_in s (parts_of i n t) ≡ expressions_of i (operands_in n t s)
  several r s row takes = expressions_stand i n t s formed (ap (λ q. is_operand q s) row ∙ takes)

  pub perhaps : (r : Row) (s : ℕ) → row_of t ≡ r → is_operand r s ≡ true → parts.first_of (expressions_in s (parts_of i n t)) ≡ option_map (expression_of i) (first_in n t s)
  perhaps r s row takes = first_expression_stands i n t s formed (ap (λ q. is_operand q s) row ∙ takes)

  pub alone : (r : Row) (s : ℕ) → row_of t ≡ r → is_operand r s ≡ true → is_needed r s ≡ true → may_repeat r s ≡ false → operands_in n t s ≡ filled_in n t s ∷ []
  alone r s row takes needs once = exactly_one n t s formed (ap (λ q. is_operand q s) row ∙ takes) (ap (λ q. is_needed q s) row ∙ needs) (ap (λ q. may_repeat q s) row ∙ once)

  pub one_at_most : (r : Row) (s : ℕ) → row_of t ≡ r → may_repeat r s ≡ false → operands_in n t s ≡ option_to_list (first_in n t s)
  one_at_most r s row once = at_most_one n t s formed (ap (λ q. may_repeat q s) row ∙ once)

  pub all_of : (r : Row) → row_of t ≡ r → all_operands n t ≡ flat_map (operands_in n t) (operand_slots r)
  all_of r row = all_in_order n t formed ∙ ap (λ q. flat_map (operands_in n t) (operand_slots q)) row

  -- a row in the place of the node's
  pub as_row : (at : Place) (r : Row) → row_of t ≡ r → row_expression i n at t ≡ expression_row r (number_of i n) at (parts_of i n t)
  as_row at r row = ap (λ q. expression_row q (number_of i n) at (parts_of i n t)) row

-- x
pub name_term : (i n : ℕ) (at : Place) (t : Tree) → row_of t ≡ name_row → row_expression i n at t ≡ name_expression (number_of i n) at (path_of (path_in t 9 0))
unfolding expression_row
name_term i n at t row = ap (λ q. expression_row q (number_of i n) at (parts_of i n t)) row ∙ ap (λ p. name_expression (number_of i n) at p) (path_stands i n t 9 0)

-- M.x, where its last token names no constructor
pub path_term : (i n : ℕ) (at : Place) (t : Tree) → row_of t ≡ epath_row → row_expression i n at t ≡ path_expression (number_of i n) at (path_of (path_in t 0 1))
unfolding expression_row
path_term i n at t row = ap (λ q. expression_row q (number_of i n) at (parts_of i n t)) row ∙ ap (λ p. path_expression (number_of i n) at p) (path_stands i n t 0 1)

-- e . l
pub field_term : (i n : ℕ) (at : Place) (t : Tree) → IsFormed n t → row_of t ≡ field_row → row_expression i n at t ≡ field_expression (number_of i n) at (expression_of i (filled_in n t 0)) (path_of (path_in t 2 3))
unfolding expression_row is_operand is_needed
field_term i n at t formed row =
    as_row i n t formed at field_row row ∙ ap (λ e. field_expression (number_of i n) at e (parts.path_in 2 3 (parts_of i n t))) (one i n t formed field_row 0 row refl refl) ∙
    ap (λ p. field_expression (number_of i n) at (expression_of i (filled_in n t 0)) p) (path_stands i n t 2 3)

-- 1, "a", true
pub constant_term : (i n : ℕ) (at : Place) (t : Tree) → row_of t ≡ econst_row → row_expression i n at t ≡ constant_expression (number_of i n) at (token_in t 0)
unfolding expression_row
constant_term i n at t row = ap (λ q. expression_row q (number_of i n) at (parts_of i n t)) row ∙ ap (λ p. constant_expression (number_of i n) at p) (token_stands i n t 0)

-- _
pub hole_term : (i n : ℕ) (at : Place) (t : Tree) → row_of t ≡ hole_row → row_expression i n at t ≡ hole_expression (number_of i n) at
unfolding expression_row
hole_term i n at t row = ap (λ q. expression_row q (number_of i n) at (parts_of i n t)) row

-- e e e
pub application_term : (i n : ℕ) (at : Place) (t : Tree) → IsFormed n t → row_of t ≡ eapp_row → row_expression i n at t ≡ application (number_of i n) at (expression_of i (filled_in n t 0)) (expressions_of i (operands_in n t 1))
unfolding expression_row is_operand is_needed
application_term i n at t formed row =
    as_row i n t formed at eapp_row row ∙ ap (λ e. application (number_of i n) at e (expressions_in 1 (parts_of i n t))) (one i n t formed eapp_row 0 row refl refl) ∙
    ap (λ es. application (number_of i n) at (expression_of i (filled_in n t 0)) es) (several i n t formed eapp_row 1 row refl)

-- ( e )
pub paren_term : (i n : ℕ) (at : Place) (t : Tree) → IsFormed n t → row_of t ≡ eparen_row → first_in n t 3 ≡ None → row_expression i n at t ≡ parenthesised (number_of i n) at (expression_of i (filled_in n t 1)) None
unfolding expression_row is_operand is_needed
paren_term i n at t formed row none =
    as_row i n t formed at eparen_row row ∙ ap (λ e. parenthesised (number_of i n) at e (parts.first_of (types_in 3 (parts_of i n t)))) (one i n t formed eparen_row 1 row refl refl) ∙
    ap (λ o. parenthesised (number_of i n) at (expression_of i (filled_in n t 1)) o) (first_type_stands i n t 3 formed (ap (λ q. is_operand q 3) row) ∙ ap (option_map _) none)

-- ! e
pub prefix_term : (i n : ℕ) (at : Place) (t : Tree) → IsFormed n t → row_of t ≡ prefix_row → row_expression i n at t ≡ prefix_expression (number_of i n) at (token_in t 0) (expression_of i (filled_in n t 1))
unfolding expression_row is_operand is_needed
prefix_term i n at t formed row =
    as_row i n t formed at prefix_row row ∙ ap (λ o. prefix_expression (number_of i n) at o (expression_in 1 (parts_of i n t))) (token_stands i n t 0) ∙
    ap (λ e. prefix_expression (number_of i n) at (token_in t 0) e) (one i n t formed prefix_row 1 row refl refl)

-- e + e
pub infix_term : (i n : ℕ) (at : Place) (t : Tree) → IsFormed n t → row_of t ≡ infix_row →
    row_expression i n at t ≡ infix_expression (number_of i n) at (token_in t 1) (expression_of i (filled_in n t 0)) (expression_of i (filled_in n t 2))
unfolding expression_row is_operand is_needed
infix_term i n at t formed row =
    as_row i n t formed at infix_row row ∙ ap (λ o. infix_expression (number_of i n) at o (expression_in 0 (parts_of i n t)) (expression_in 2 (parts_of i n t))) (token_stands i n t 1) ∙
    ap (λ e. infix_expression (number_of i n) at (token_in t 1) e (expression_in 2 (parts_of i n t))) (one i n t formed infix_row 0 row refl refl) ∙
    ap (λ e. infix_expression (number_of i n) at (token_in t 1) (expression_of i (filled_in n t 0)) e) (one i n t formed infix_row 2 row refl refl)

-- - e
pub minus_term : (i n : ℕ) (at : Place) (t : Tree) → IsFormed n t → row_of t ≡ eneg_row → row_expression i n at t ≡ minus_expression (number_of i n) at (token_in t 0) (expression_of i (filled_in n t 1))
unfolding expression_row is_operand is_needed
minus_term i n at t formed row =
    as_row i n t formed at eneg_row row ∙ ap (λ o. minus_expression (number_of i n) at o (expression_in 1 (parts_of i n t))) (token_stands i n t 0) ∙
    ap (λ e. minus_expression (number_of i n) at (token_in t 0) e) (one i n t formed eneg_row 1 row refl refl)

-- the operands of the one slot of a row, which is needed
pub one_in : (n : ℕ) (t : Tree) (r : Row) (s : ℕ) → IsFormed n t → row_of t ≡ r → operand_slots r ≡ s ∷ [] → is_needed r s ≡ true → may_repeat r s ≡ false → is_operand r s ≡ true → all_operands n t ≡ filled_in n t s ∷ []
one_in n t r s formed row slots needs once takes =
    all_of 0 n t formed r row ∙ ap (flat_map (operands_in n t)) slots ∙ ap (λ os. os ++ []) (alone 0 n t formed r s row takes needs once)

-- the operands of a prefix and of a minus
pub one_operand : (n : ℕ) (t : Tree) (r : Row) → IsFormed n t → row_of t ≡ r → operand_slots r ≡ 1 ∷ [] → is_needed r 1 ≡ true → may_repeat r 1 ≡ false → is_operand r 1 ≡ true → all_operands n t ≡ filled_in n t 1 ∷ []
one_operand n t r formed row slots needs once takes = one_in n t r 1 formed row slots needs once takes

-- the operands of two slots that are needed
pub two_operands : (n : ℕ) (t : Tree) (r : Row) (p q : ℕ) → IsFormed n t → row_of t ≡ r → operand_slots r ≡ p ∷ q ∷ [] → is_needed r p ≡ true → is_needed r q ≡ true → may_repeat r p ≡ false → may_repeat r q ≡ false → is_operand r p ≡ true → is_operand r q ≡ true →
    all_operands n t ≡ filled_in n t p ∷ filled_in n t q ∷ []
two_operands n t r p q formed row slots needs needs' once once' takes takes' =
    all_of 0 n t formed r row ∙ ap (flat_map (operands_in n t)) slots ∙ ap (λ os. os ++ (operands_in n t q ++ [])) (alone 0 n t formed r p row takes needs once) ∙
    ap (λ os. filled_in n t p ∷ (os ++ [])) (alone 0 n t formed r q row takes' needs' once')

-- a list of lists of operands as expressions
pub both_lists : (i : ℕ) (xs ys : List Numbered) → expressions_of i (xs ++ ys) ≡ expressions_of i xs ++ expressions_of i ys
both_lists i [] ys = refl
both_lists i (x ∷ xs) ys = ap (λ es. expression_of i x ∷ es) (both_lists i xs ys)

no_and : (b : Bool) → (b && false) ≡ false
no_and true = refl
no_and false = refl

next_place : (k : ℕ) → (k + 1 == 0) ≡ false
next_place k = by (k + 1 == 0) refl
  where
    by : (b : Bool) → (k + 1 == 0) ≡ b → b ≡ false
    by true e = let same : k + 1 ≡ 0 = eqb-true (k + 1) 0 e in absurd (omega arith)
    by false e = refl

-- nothing is asked of parts as soon as they are typed where the row wants no bool
silent_parts : (r : Row) (k : ℕ) (c : Context) (n : ℕ) (es : List Expression) → ((b : Bool) → wants_bool r b ≡ false) → parts_ask r k c n es ≡ typed_all c es
silent_parts r k c n [] none = refl
silent_parts r k c n (e ∷ es) none =
    let quiet : (k == 0 && wants_bool r (is_false e.form)) ≡ false = ap (λ b. k == 0 && b) (none (is_false e.form)) ∙ no_and (k == 0) in
    ap (λ b. (e.typed c ++ bool_if b c n e) ++ parts_ask r (k + 1) c n es) quiet ∙ ap (λ xs. xs ++ parts_ask r (k + 1) c n es) (append-nil (e.typed c)) ∙ ap (λ xs. e.typed c ++ xs) (silent_parts r (k + 1) c n es none)

-- nor of those after the first
later_parts : (r : Row) (k : ℕ) (c : Context) (n : ℕ) (es : List Expression) → (k == 0) ≡ false → parts_ask r k c n es ≡ typed_all c es
later_parts r k c n [] later = refl
later_parts r k c n (e ∷ es) later =
    ap (λ b. (e.typed c ++ bool_if (b && wants_bool r (is_false e.form)) c n e) ++ parts_ask r (k + 1) c n es) later ∙ ap (λ xs. xs ++ parts_ask r (k + 1) c n es) (append-nil (e.typed c)) ∙
    ap (λ xs. e.typed c ++ xs) (later_parts r (k + 1) c n es (next_place k))

-- begin e end
begin_plain : (i n : ℕ) (at : Place) (c : Context) (o : Option Numbered) →
    parts_ask ebegin_row 0 c n (expressions_of i (option_to_list o ++ [])) ++ end_asks ebegin_row c n (expressions_of i (option_to_list o ++ [])) ≡ (begun n at (option_map (expression_of i) o)).typed c
begin_plain i n at c None = refl
begin_plain i n at c (Some o) = let e = expression_of i o in ap (λ xs. xs ++ is_of c n (type_at c e.node)) (silent_parts ebegin_row 0 c n (e ∷ []) (λ b. refl) ∙ append-nil (e.typed c))

-- [ e; e ]
list_plain : (n : ℕ) (at : Place) (c : Context) (es : List Expression) → parts_ask elist_row 0 c n es ++ end_asks elist_row c n es ≡ (list_expression n at es).typed c
list_plain n at c es =
    ap (λ xs. xs ++ end_asks elist_row c n es) (silent_parts elist_row 0 c n es (λ b. refl)) ∙
    sym (append_assoc (typed_all c es) (ask_all n 0 (each_has c (first_type c n es) (behind_first es))) (is_of c n (list_type (first_type c n es))))

-- e, e
tuple_plain : (n : ℕ) (at : Place) (c : Context) (es : List Expression) → parts_ask etuple_row 0 c n es ++ end_asks etuple_row c n es ≡ (tuple_expression n at es).typed c
tuple_plain n at c es = ap (λ xs. xs ++ end_asks etuple_row c n es) (silent_parts etuple_row 0 c n es (λ b. refl))

-- e; e
sequence_plain : (n : ℕ) (at : Place) (c : Context) (es : List Expression) → parts_ask eseq_row 0 c n es ++ end_asks eseq_row c n es ≡ (sequence_expression n at es).typed c
sequence_plain n at c es = ap (λ xs. xs ++ last_asks c n (last_of es)) (silent_parts eseq_row 0 c n es (λ b. refl)) ∙ ap (λ xs. typed_all c es ++ xs) (by (last_of es))
  where
    by : (o : Option Expression) → last_asks c n o ≡ elim o [ None ↦ [] | Some e ↦ is_of c n (type_at c e.node) ]
    by None = refl
    by (Some e) = refl

-- e :: e
cons_plain : (n : ℕ) (at : Place) (c : Context) (e f : Expression) → parts_ask econs_row 0 c n (e ∷ f ∷ []) ++ end_asks econs_row c n (e ∷ f ∷ []) ≡ (cons_expression n at e f).typed c
cons_plain n at c e f =
    ap (λ xs. xs ++ end_asks econs_row c n (e ∷ f ∷ [])) (silent_parts econs_row 0 c n (e ∷ f ∷ []) (λ b. refl) ∙ ap (λ xs. e.typed c ++ xs) (append-nil (f.typed c))) ∙
    sym (append_assoc (e.typed c ++ f.typed c) (has_type c n 0 f (list_type (type_at c e.node))) (is_of c n (list_type (type_at c e.node))))

-- while e do e done
while_plain : (n : ℕ) (at : Place) (c : Context) (e f : Expression) → parts_ask ewhile_row 0 c n (e ∷ f ∷ []) ++ end_asks ewhile_row c n (e ∷ f ∷ []) ≡ (while_expression n at e f).typed c
while_plain n at c e f = ap (λ xs. ((e.typed c ++ has_type c n 0 e bool_type) ++ xs) ++ is_of c n unit_type) (later_parts ewhile_row 1 c n (f ∷ []) refl ∙ append-nil (f.typed c))

-- if e then e, if e then e else e
if_plain : (i n : ℕ) (at : Place) (c : Context) (e f : Expression) (o : Option Numbered) →
    parts_ask eif_row 0 c n (e ∷ f ∷ expressions_of i (option_to_list o ++ [])) ++ end_asks eif_row c n (e ∷ f ∷ expressions_of i (option_to_list o ++ [])) ≡ (if_expression n at e f (option_map (expression_of i) o)).typed c
if_plain i n at c e f None =
    let front = e.typed c ++ has_type c n 0 e bool_type in
    ap (λ xs. (front ++ xs) ++ (has_type c n 1 f unit_type ++ is_of c n unit_type)) (later_parts eif_row 1 c n (f ∷ []) refl ∙ append-nil (f.typed c)) ∙ sym (append_assoc (front ++ f.typed c) (has_type c n 1 f unit_type) (is_of c n unit_type))
if_plain i n at c e f (Some o) =
    let g = expression_of i o in
    let front = e.typed c ++ has_type c n 0 e bool_type in
    ap (λ xs. (front ++ xs) ++ (has_type c n 1 g (type_at c f.node) ++ is_of c n (type_at c f.node))) (later_parts eif_row 1 c n (f ∷ g ∷ []) refl ∙ ap (λ xs. f.typed c ++ xs) (append-nil (g.typed c))) ∙
    ap (λ xs. xs ++ (has_type c n 1 g (type_at c f.node) ++ is_of c n (type_at c f.node))) (sym (append_assoc front (f.typed c) (g.typed c))) ∙
    sym (append_assoc ((front ++ f.typed c) ++ g.typed c) (has_type c n 1 g (type_at c f.node)) (is_of c n (type_at c f.node)))

-- assert e
assert_plain : (n : ℕ) (at : Place) (c : Context) (e : Expression) → parts_ask eassert_row 0 c n (e ∷ []) ++ end_asks eassert_row c n (e ∷ []) ≡ (assert_expression n at e).typed c
assert_plain n at c e = by e.form
  where
    asked : ((e.typed c ++ has_type c n 0 e bool_type) ++ []) ++ is_of c n unit_type ≡ (e.typed c ++ has_type c n 0 e bool_type) ++ is_of c n unit_type
    asked = ap (λ xs. xs ++ is_of c n unit_type) (append-nil (e.typed c ++ has_type c n 0 e bool_type))

    by : (f : Form) → ((e.typed c ++ bool_if (not (is_false f)) c n e) ++ []) ++ assert_ends (is_false f) c n ≡ assert_asks c n e f
    by parts.a_false = append-nil ((e.typed c ++ []) ++ []) ∙ append-nil (e.typed c ++ []) ∙ append-nil (e.typed c)
    by (parts.a_constructor p) = asked
    by (parts.a_path p) = asked
    by parts.a_float = asked
    by (parts.a_field p l) = asked
    by parts.no_expression = asked
    by parts.other = asked

-- the parts of a plain row in order, and what is asked after them
abbrev plain_asks : ℕ → ℕ → Tree → Row → Context → List Condition
plain_asks i n t r c = parts_ask r 0 c (number_of i n) (expressions_of i (all_operands n t)) ++ end_asks r c (number_of i n) (expressions_of i (all_operands n t))

-- A plain row asks its parts in order, and then its end.
pub plain_term : (i n : ℕ) (at : Place) (t : Tree) (r : Row) → IsFormed n t → row_of t ≡ r → IsPlainRow r → (c : Context) → plain_asks i n t r c ≡ (row_expression i n at t).typed c
unfolding expression_row is_operand is_needed may_repeat
plain_term i n at t ebegin_row formed row plain c =
    ap (λ os. parts_ask ebegin_row 0 c (number_of i n) (expressions_of i os) ++ end_asks ebegin_row c (number_of i n) (expressions_of i os)) (all_of i n t formed ebegin_row row ∙ ap (λ os. os ++ []) (one_at_most i n t formed ebegin_row 1 row refl)) ∙
    begin_plain i (number_of i n) at c (first_in n t 1) ∙ ap (λ o. (begun (number_of i n) at o).typed c) (sym (perhaps i n t formed ebegin_row 1 row refl)) ∙ ap (λ e. e.typed c) (sym (as_row i n t formed at ebegin_row row))
plain_term i n at t elist_row formed row plain c =
    list_plain (number_of i n) at c (expressions_of i (all_operands n t)) ∙ ap (λ os. (list_expression (number_of i n) at (expressions_of i os)).typed c) (all_of i n t formed elist_row row ∙ append-nil (operands_in n t 1)) ∙
    ap (λ es. (list_expression (number_of i n) at es).typed c) (sym (several i n t formed elist_row 1 row refl)) ∙ ap (λ e. e.typed c) (sym (as_row i n t formed at elist_row row))
plain_term i n at t etuple_row formed row plain c =
    tuple_plain (number_of i n) at c (expressions_of i (all_operands n t)) ∙
    ap (λ es. (tuple_expression (number_of i n) at es).typed c) (ap (expressions_of i) (all_of i n t formed etuple_row row) ∙ both_lists i (operands_in n t 0) (operands_in n t 2 ++ []) ∙ ap (λ os. expressions_of i (operands_in n t 0) ++ expressions_of i os) (append-nil (operands_in n t 2))) ∙
    (λ k. (tuple_expression (number_of i n) at (sym (several i n t formed etuple_row 0 row refl) k ++ sym (several i n t formed etuple_row 2 row refl) k)).typed c) ∙ ap (λ e. e.typed c) (sym (as_row i n t formed at etuple_row row))
plain_term i n at t eseq_row formed row plain c =
    sequence_plain (number_of i n) at c (expressions_of i (all_operands n t)) ∙
    ap (λ es. (sequence_expression (number_of i n) at es).typed c) (ap (expressions_of i) (all_of i n t formed eseq_row row) ∙ both_lists i (operands_in n t 0) (operands_in n t 2 ++ []) ∙ ap (λ os. expressions_of i (operands_in n t 0) ++ expressions_of i os) (append-nil (operands_in n t 2))) ∙
    (λ k. (sequence_expression (number_of i n) at (sym (several i n t formed eseq_row 0 row refl) k ++ sym (several i n t formed eseq_row 2 row refl) k)).typed c) ∙ ap (λ e. e.typed c) (sym (as_row i n t formed at eseq_row row))
plain_term i n at t econs_row formed row plain c =
    ap (λ os. parts_ask econs_row 0 c (number_of i n) (expressions_of i os) ++ end_asks econs_row c (number_of i n) (expressions_of i os)) (two_operands n t econs_row 0 2 formed row refl refl refl refl refl refl refl) ∙
    cons_plain (number_of i n) at c (expression_of i (filled_in n t 0)) (expression_of i (filled_in n t 2)) ∙
    (λ k. (cons_expression (number_of i n) at (sym (one i n t formed econs_row 0 row refl refl) k) (sym (one i n t formed econs_row 2 row refl refl) k)).typed c) ∙ ap (λ e. e.typed c) (sym (as_row i n t formed at econs_row row))
plain_term i n at t ewhile_row formed row plain c =
    ap (λ os. parts_ask ewhile_row 0 c (number_of i n) (expressions_of i os) ++ end_asks ewhile_row c (number_of i n) (expressions_of i os)) (two_operands n t ewhile_row 1 3 formed row refl refl refl refl refl refl refl) ∙
    while_plain (number_of i n) at c (expression_of i (filled_in n t 1)) (expression_of i (filled_in n t 3)) ∙
    (λ k. (while_expression (number_of i n) at (sym (one i n t formed ewhile_row 1 row refl refl) k) (sym (one i n t formed ewhile_row 3 row refl refl) k)).typed c) ∙ ap (λ e. e.typed c) (sym (as_row i n t formed at ewhile_row row))
plain_term i n at t eassert_row formed row plain c =
    ap (λ os. parts_ask eassert_row 0 c (number_of i n) (expressions_of i os) ++ end_asks eassert_row c (number_of i n) (expressions_of i os)) (one_operand n t eassert_row formed row refl refl refl refl) ∙
    assert_plain (number_of i n) at c (expression_of i (filled_in n t 1)) ∙ ap (λ e. (assert_expression (number_of i n) at e).typed c) (sym (one i n t formed eassert_row 1 row refl refl)) ∙ ap (λ e. e.typed c) (sym (as_row i n t formed at eassert_row row))
plain_term i n at t eif_row formed row plain c =
    let first = filled_in n t 1 in
    let second = filled_in n t 3 in
    ap (λ os. parts_ask eif_row 0 c (number_of i n) (expressions_of i os) ++ end_asks eif_row c (number_of i n) (expressions_of i os))
    (all_of i n t formed eif_row row ∙ ap (λ os. os ++ (operands_in n t 3 ++ (operands_in n t 5 ++ []))) (alone i n t formed eif_row 1 row refl refl refl) ∙ ap (λ os. first ∷ (os ++ (operands_in n t 5 ++ []))) (alone i n t formed eif_row 3 row refl refl refl) ∙
    ap (λ os. first ∷ second ∷ (os ++ [])) (one_at_most i n t formed eif_row 5 row refl)) ∙
    if_plain i (number_of i n) at c (expression_of i first) (expression_of i second) (first_in n t 5) ∙
    (λ k. (if_expression (number_of i n) at (sym (one i n t formed eif_row 1 row refl refl) k) (sym (one i n t formed eif_row 3 row refl refl) k) (sym (perhaps i n t formed eif_row 5 row refl) k)).typed c) ∙ ap (λ e. e.typed c) (sym (as_row i n t formed at eif_row row))
plain_term i n at t _ formed row plain c = absurd plain

-- e . l, by its label
field_plain : (n : ℕ) (at : Place) (c : Context) (e : Expression) (qs : List Tok) (last : Option Tok) → let p : parts.Written = record { qualifiers = qs; last = last } in
    parts_ask field_row 0 c n (e ∷ []) ++ field_ends p (e ∷ []) c n ≡ (field_expression n at e p).typed c
field_plain n at c e qs last = ap (λ xs. xs ++ field_ends (record { qualifiers = qs; last = last }) (e ∷ []) c n) (silent_parts field_row 0 c n (e ∷ []) (λ b. refl) ∙ append-nil (e.typed c)) ∙ by last
  where
    found : (xs : List Condition) (o : Option (Declaration × Label)) → e.typed c ++ (xs ++ label_ends c n (e ∷ []) o) ≡
        (e.typed c ++ xs) ++ elim o [ None ↦ [] | Some (d, l) ↦ has_type c n 1 e (used_at c n (type_of d)) ++ is_of c n (used_at c n l.body) ]
    found xs None = sym (append_assoc (e.typed c) xs [])
    found xs (Some (d, l)) = sym (append_assoc (e.typed c) xs (has_type c n 1 e (used_at c n (type_of d)) ++ is_of c n (used_at c n l.body)))

    none : (k : Bool) → e.typed c ++ label_ends c n (e ∷ []) (if k then None else None) ≡ e.typed c
    none true = append-nil (e.typed c)
    none false = append-nil (e.typed c)

    by : (o : Option Tok) → let p : parts.Written = record { qualifiers = qs; last = o } in e.typed c ++ field_ends p (e ∷ []) c n ≡ field_asks c n e p
    by None = none (is_kept c n 0)
    by (Some t) = let p : parts.Written = record { qualifiers = qs; last = Some t } in found (ask_bound c n 0 label_kind label_word p t) (if is_kept c n 0 then label_found c p else None)

-- A row whose parts are typed in order asks these, and then its end.
pub ordered_term : (i n : ℕ) (at : Place) (t : Tree) (r : Row) → IsFormed n t → row_of t ≡ r → IsOrderedRow r → (c : Context) →
    parts_ask r 0 c (number_of i n) (expressions_of i (all_operands n t)) ++ ordered_end r t (expressions_of i (all_operands n t)) c (number_of i n) ≡ (row_expression i n at t).typed c
unfolding is_operand is_needed may_repeat
ordered_term i n at t field_row formed row ordered c =
    let p = path_of (path_in t 2 3) in
    ap (λ os. parts_ask field_row 0 c (number_of i n) (expressions_of i os) ++ field_ends p (expressions_of i os) c (number_of i n)) (one_in n t field_row 0 formed row refl refl refl refl) ∙
    field_plain (number_of i n) at c (expression_of i (filled_in n t 0)) p.qualifiers p.last ∙ ap (λ e. e.typed c) (sym (field_term i n at t formed row))
ordered_term i n at t ebegin_row formed row ordered c = plain_term i n at t ebegin_row formed row tt c
ordered_term i n at t elist_row formed row ordered c = plain_term i n at t elist_row formed row tt c
ordered_term i n at t etuple_row formed row ordered c = plain_term i n at t etuple_row formed row tt c
ordered_term i n at t eseq_row formed row ordered c = plain_term i n at t eseq_row formed row tt c
ordered_term i n at t econs_row formed row ordered c = plain_term i n at t econs_row formed row tt c
ordered_term i n at t ewhile_row formed row ordered c = plain_term i n at t ewhile_row formed row tt c
ordered_term i n at t eassert_row formed row ordered c = plain_term i n at t eassert_row formed row tt c
ordered_term i n at t eif_row formed row ordered c = plain_term i n at t eif_row formed row tt c
ordered_term i n at t _ formed row ordered c = absurd ordered
