-- Which rows the forms of the code are, and what its tokens decide.
use Rattle.std.proofs.Common.{◌≡◌, ◌∙◌, ◌++◌, ◌+◌, ◌||◌, ℕ, Bool, true, false, zero, suc, ◌<◌, ◌≤◌, length, drop, arith, List, [], ◌∷◌, map, Option, Some, None, option_map, refl, sym, ap, subst, if◌then◌else◌}
use Rattle.std.specs.Prelude.{All, codes, slice_get, slice_index_or, Result, Ok, Err, IfOk}
use Rattle.std.proofs.lemmas.List.Elements.{All-head, All-tail}
use Rattle.std.specs.Str.{bytes_eq}
use Rattle.std.proofs.lemmas.Slice.Eq.{bytes_eq-Decides}
use Rattle.token_model.specs.Kinds.{Tok, Kind, upper, lower, float, false_word}
use Rattle.tree_model.specs.Rows.{Row, elet_row, erecord_row, econ_row, epath_row, econst_row, eparen_row, prefix_row, field_row, eapp_row, eneg_row, infix_row, eassert_row, ewhile_row, efor_row, ebegin_row, elist_row, econs_row, etuple_row, eset_row, eif_row, eseq_row, ematch_row, etry_row, efun_row, efunction_row, name_row, hole_row}
use Rattle.tree_model.specs.Trees.{Place, Tree, Forest, Part, taken, inner, missing, node}
use Rattle.row_parts.specs.Numbered.{Numbered, Written, numbered, operand_view, token_in, filled_in, all_operands, operands_in, first_in}
use Rattle.typing_model.specs.Contexts.{Context, tell_typed}
use Rattle.typing_model.specs.BuiltIns.{float_type, constant_by}
use Rattle.typing_model.specs.Parts as parts
use Rattle.typing_model.specs.Parts.{Expression, Child}
use Rattle.typing_model.specs.Expressions.{expression_row, is_of, literal_form, under_sign, name_of, operator_applied, constant_expression, typed_all, path_expression, name_form, parenthesised, begun, if_expression, update_expression, record_expression, fields_in, is_some}
use Rattle.type_terms.specs.declared.types.NodeRef.{NodeRef}
use Rattle.type_nodes.specs.Views.{numbers}
use Rattle.row_parts.specs.declared.slots.Operand.{Operand}
use Rattle.use_typing.proofs.Reading.{drop_read}
use Rattle.typing_state.specs.Goes.{Goes}
use Rattle.env_table.specs.declared.entries.Entry.{Entry}
use Rattle.typing_state.specs.declared.parts.Parts.{Parts}
use Rattle.syntax_tree.specs.View.{place_of, tok_of}
use Rattle.typing_steps.specs.Typing.{TypesRow, TypesTo, TypesAny, AsksEqual, AsksEqualIf}
use Rattle.operand_laws.specs.Formed.{row_of}
use Rattle.operand_laws.specs.Operands.{number_of, parts_of, path_of, expression_of}
use Rattle.operand_laws.proofs.Tokens.{token_stands}
use Rattle.operand_laws.proofs.Standing.{expression_of_stands}
use Rattle.typing_rows.specs.CarriedRows.{an_expression, sort_in, is_sign, IsCarriedRow, IsTreeOfCarriedRows, IsOfCarriedRows, IsCarried}
use Rattle.typing_rows.specs.Asked.{under_minus, row_expression, expressions_of, signed_expressions, IsOrderedRow, ordered_end, applied_asks, operated_asks}
use Rattle.typing_rows.proofs.Going.{ordered_sorts, filled_carried, operands_carried, all_carried}
use Rattle.typing_rows.proofs.Typed.{IsUsual, IsNoFloat, application_typed, paren_typed, ordered_typed, unoperated_typed, float_typed, operated_as, prefix_typed, infix_typed, minus_typed, minus_operand}
use Rattle.typing_rows.specs.Contracts.{TypesFirst, TypesGivenFirst, TypesArgument, TypesPartsFirst, TypesPart, TypesAs, TypesParts, TypesEach, EndsRow, TypesGiven, TypesAsIf, TypesHead, TypesLater, EndsUnknown, TypesConstructed}
use Rattle.typing_rows.proofs.Given.{each_more, given_more, types_as}
use Rattle.typing_rows.proofs.Applied.{head_typed, later_known, later_unknown, types_as_if, constructed_typed, construction_typed}
use Rattle.typing_steps.specs.Building.{TypesConstructor}
use Rattle.use_typing.specs.declared.uses.Construction.{Construction}
use Rattle.expression_steps.specs.declared.heads.Head.{Head}
use Rattle.typing_rows.proofs.Ordered.{parts_more, numbers_more}
use Rattle.typing_rows.proofs.Ending.{row_as}
use Rattle.typing_conditions.specs.Steps.{Records}
use Rattle.typing_steps.specs.States.{is_aloud, sight}
use Rattle.use_typing.specs.Constants.{is_negated}
use Rattle.typing_rows.proofs.Annotated.{annotated_typed}
use Rattle.typing_rows.proofs.Placed.{first_operand}
use Rattle.type_expressions.specs.Written.{IsAsWritten, AsksWritten}
use Rattle.expression_steps.specs.declared.operators.Operator.{Operator}
use Rattle.expression_steps.specs.declared.forms.RowForm.{RowForm}
use Rattle.expression_steps.specs.declared.forms.RowForm.TheVariants as form
use Rattle.value_forms.specs.Heads.{row_at, constructor_at}
use Rattle.value_forms.proofs.Nodes.{rows_same}
use Rattle.value_forms.proofs.ConstructorLaws.{operand_no, operand_is}
use Rattle.expression_steps.specs.Forms.{form_of}
use Rattle.expression_steps.specs.Heads.{is_float_kind, is_float_token, is_float_in, is_float_at}
use Rattle.expression_steps.specs.Operators.{IsSignOf, sign_in, IsOperation, operator_name, operator_negates, IsOperator}

-- the row of a node that is made of carried rows is one
pub row_there : (t : Tree) → IsTreeOfCarriedRows t → (ps : Forest) × IsCarriedRow (row_at t) t ps
row_there (node r x ps) h = (ps, h.0)

application_form : (r : Row) → form_of r ≡ form.Application → r ≡ eapp_row
application_form eapp_row e = refl
application_form _ e = absurd (cc)

minus_form : (r : Row) → form_of r ≡ form.Minus → r ≡ eneg_row
minus_form eneg_row e = refl
minus_form _ e = absurd (cc)

paren_form : (r : Row) → form_of r ≡ form.Parenthesised → r ≡ eparen_row
paren_form eparen_row e = refl
paren_form _ e = absurd (cc)

set_form : (r : Row) → form_of r ≡ form.Set → r ≡ eset_row
set_form eset_row e = refl
set_form _ e = absurd (cc)

loop_form : (r : Row) → form_of r ≡ form.Loop → r ≡ efor_row
loop_form efor_row e = refl
loop_form _ e = absurd (cc)

operation_form : (r : Row) (b : Bool) → form_of r ≡ form.Operation → IsOperation r b
operation_form prefix_row b e = tt
operation_form infix_row b e = tt
operation_form _ b e = absurd (cc)

ordered_form : (r : Row) (t : Tree) (ps : Forest) → IsCarriedRow r t ps → form_of r ≡ form.Plain → IsOrderedRow r
ordered_form ebegin_row t ps h e = tt
ordered_form elist_row t ps h e = tt
ordered_form field_row t ps h e = tt
ordered_form eassert_row t ps h e = tt
ordered_form ewhile_row t ps h e = tt
ordered_form econs_row t ps h e = tt
ordered_form etuple_row t ps h e = tt
ordered_form eif_row t ps h e = tt
ordered_form eseq_row t ps h e = tt
ordered_form name_row t ps h e = absurd (cc)
ordered_form econ_row t ps h e = absurd (cc)
ordered_form epath_row t ps h e = absurd (cc)
ordered_form econst_row t ps h e = absurd (cc)
ordered_form hole_row t ps h e = absurd (cc)
ordered_form eparen_row t ps h e = absurd (cc)
ordered_form prefix_row t ps h e = absurd (cc)
ordered_form eapp_row t ps h e = absurd (cc)
ordered_form eneg_row t ps h e = absurd (cc)
ordered_form infix_row t ps h e = absurd (cc)
ordered_form eset_row t ps h e = absurd (cc)
ordered_form efor_row t ps h e = absurd (cc)
ordered_form ematch_row t ps h e = absurd (cc)
ordered_form etry_row t ps h e = absurd (cc)
ordered_form efun_row t ps h e = absurd (cc)
ordered_form efunction_row t ps h e = absurd (cc)
ordered_form elet_row t ps h e = absurd (cc)
ordered_form erecord_row t ps h e = absurd (cc)
ordered_form _ t ps h e = absurd h

-- the row of an application, a minus, parentheses, a field that is set, a loop, an operation, and a plain row
pub is_application : (t : Tree) (f : RowForm) → f ≡ form.Application → f ≡ form_of (row_at t) → row_of t ≡ eapp_row
is_application t f e is = rows_same t ∙ application_form (row_at t) (sym is ∙ e)

pub by_application : (t : Tree) → form_of (row_at t) ≡ form.Application → row_of t ≡ eapp_row
by_application t e = rows_same t ∙ application_form (row_at t) e

pub by_minus : (t : Tree) → form_of (row_at t) ≡ form.Minus → row_of t ≡ eneg_row
by_minus t e = rows_same t ∙ minus_form (row_at t) e

pub by_paren : (t : Tree) → form_of (row_at t) ≡ form.Parenthesised → row_of t ≡ eparen_row
by_paren t e = rows_same t ∙ paren_form (row_at t) e

pub by_set : (t : Tree) → form_of (row_at t) ≡ form.Set → row_of t ≡ eset_row
by_set t e = rows_same t ∙ set_form (row_at t) e

pub by_loop : (t : Tree) → form_of (row_at t) ≡ form.Loop → row_of t ≡ efor_row
by_loop t e = rows_same t ∙ loop_form (row_at t) e

-- the parts of an operator's row are expressions
operation_sorts : (r : Row) (b : Bool) → IsOperation r b → (s : ℕ) → sort_in r s ≡ an_expression
operation_sorts prefix_row b h s = refl
operation_sorts infix_row b h s = refl
operation_sorts eneg_row b h s = refl
operation_sorts _ b h s = absurd h

pub by_operation : (t : Tree) (b : Bool) → form_of (row_at t) ≡ form.Operation → IsOperation (row_at t) b
by_operation t b e = operation_form (row_at t) b e

pub by_ordered : (n : ℕ) (at : Place) (t : Tree) → IsCarried (numbered n at (inner t)) → form_of (row_at t) ≡ form.Plain → IsOrderedRow (row_at t)
by_ordered n at t h e = let (ps, c) = row_there t h.rows in ordered_form (row_at t) t ps c e

sign_carried : (r : Row) (t : Tree) (ps : Forest) → r ≡ eneg_row → IsCarriedRow r t ps → is_sign (token_in t 0) ≡ true
sign_carried eneg_row t ps e h = h
sign_carried _ t ps e h = absurd (cc)

pub sign_there : (t : Tree) → IsTreeOfCarriedRows t → row_at t ≡ eneg_row → is_sign (token_in t 0) ≡ true
sign_there t h row = let (ps, c) = row_there t h in sign_carried (row_at t) t ps row c

-- a numeral with a point
record IsFloat (n : ℕ) (e : Expression) : Type 0 where
  form : e.form ≡ parts.a_float
  asks : (c : Context) → e.negated c ≡ is_of c n float_type

float_token : (n : ℕ) (at : Place) (start end col : ℕ) (name : List ℕ) (k : Kind) → is_float_kind k ≡ true → IsFloat n (constant_expression n at (Some (record { kind = k; start = start; end = end; col = col; name = name })))
unfolding constant_by
float_token n at start end col name float h = record { form = refl; asks = λ c. refl }
float_token n at start end col name _ h = absurd (cc)

float_constant : (n : ℕ) (at : Place) (o : Option Tok) → is_float_token o ≡ true → IsFloat n (constant_expression n at o)
float_constant n at None h = absurd (cc)
float_constant n at (Some t) h = float_token n at t.start t.end t.col t.name t.kind h

row_float : (r : Row) (n : ℕ) (at : Place) (cs : List Child) (t : Tree) → parts.token_in 0 cs ≡ token_in t 0 → is_float_in r t ≡ true → IsFloat n (expression_row r n at cs)
unfolding expression_row
row_float econst_row n at cs t e h = float_constant n at (parts.token_in 0 cs) (ap is_float_token e ∙ h)
row_float _ n at cs t e h = absurd (cc)

-- an operand that is a numeral with a point
pub record FloatThere (i : ℕ) (o : Numbered) : Type 0 where
  pub form : (expression_of i o).form ≡ parts.a_float
  pub asks : (c : Context) → (expression_of i o).negated c ≡ tell_typed (number_of i o.number) c ++ is_of c (number_of i o.number) float_type

pub float_there : (i : ℕ) (o : Numbered) → is_float_at o.part ≡ true → FloatThere i o
float_there i o h = by o.number o.at o.part h
  where
    by : (n : ℕ) (at : Place) (p : Part) → is_float_at p ≡ true → FloatThere i (numbered n at p)
    by n at (taken t) h = absurd (cc)
    by n at (missing q) h = absurd (cc)
    by n at (inner (node r x ps)) h =
        let f = row_float r (number_of i n) at (parts_of i n (node r x ps)) (node r x ps) (token_stands i n (node r x ps) 0) h in
        record { form = f.form; asks = λ c. ap (λ cs. tell_typed (number_of i n) c ++ cs) (f.asks c) }

-- a form that isn't that of a numeral with a point
path_no_float : (n : ℕ) (at : Place) (q : List Tok) (start end col : ℕ) (name : List ℕ) (k : Kind) → IsNoFloat (path_expression n at (record { qualifiers = q; last = Some (record { kind = k; start = start; end = end; col = col; name = name }) })).form
path_no_float n at q start end col name upper = tt
path_no_float n at q start end col name lower = tt
path_no_float n at q start end col name _ = tt

paths_no_float : (n : ℕ) (at : Place) (p : parts.Written) → IsNoFloat (path_expression n at p).form
paths_no_float n at p = by p.last
  where
    by : (o : Option Tok) → IsNoFloat (path_expression n at (record { qualifiers = p.qualifiers; last = o })).form
    by None = tt
    by (Some t) = path_no_float n at p.qualifiers t.start t.end t.col t.name t.kind

name_no_float : (q : List Tok) (start end col : ℕ) (name : List ℕ) (k : Kind) → IsNoFloat (name_form (record { qualifiers = q; last = Some (record { kind = k; start = start; end = end; col = col; name = name }) }))
name_no_float q start end col name lower = tt
name_no_float q start end col name _ = tt

names_no_float : (p : parts.Written) → IsNoFloat (name_form p)
names_no_float p = by p.last
  where
    by : (o : Option Tok) → IsNoFloat (name_form (record { qualifiers = p.qualifiers; last = o }))
    by None = tt
    by (Some t) = name_no_float p.qualifiers t.start t.end t.col t.name t.kind

no_float_token : (start end col : ℕ) (name : List ℕ) (k : Kind) → is_float_kind k ≡ false → IsNoFloat (literal_form (Some (record { kind = k; start = start; end = end; col = col; name = name })))
no_float_token start end col name float h = absurd (cc)
no_float_token start end col name false_word h = tt
no_float_token start end col name _ h = tt

no_float_literal : (o : Option Tok) → is_float_token o ≡ false → IsNoFloat (literal_form o)
no_float_literal None h = tt
no_float_literal (Some t) h = no_float_token t.start t.end t.col t.name t.kind h

paren_no_float : (n : ℕ) (at : Place) (e : Expression) (o : Option parts.TypeExpression) → IsNoFloat (parenthesised n at e o).form
paren_no_float n at e None = tt
paren_no_float n at e (Some t) = tt

begun_no_float : (n : ℕ) (at : Place) (o : Option Expression) → IsNoFloat (begun n at o).form
begun_no_float n at None = tt
begun_no_float n at (Some e) = tt

if_no_float : (n : ℕ) (at : Place) (e f : Expression) (o : Option Expression) → IsNoFloat (if_expression n at e f o).form
if_no_float n at e f None = tt
if_no_float n at e f (Some g) = tt

either_no_float : (b : Bool) (x y : Expression) → IsNoFloat x.form → IsNoFloat y.form → IsNoFloat (if b then x else y).form
either_no_float true x y p q = p
either_no_float false x y p q = q

row_no_float : (r : Row) (n : ℕ) (at : Place) (cs : List Child) (t : Tree) (ps : Forest) → IsCarriedRow r t ps → parts.token_in 0 cs ≡ token_in t 0 → is_float_in r t ≡ false → IsNoFloat (expression_row r n at cs).form
unfolding expression_row
row_no_float name_row n at cs t ps c e h = names_no_float (parts.path_in 9 0 cs)
row_no_float epath_row n at cs t ps c e h = paths_no_float n at (parts.path_in 0 1 cs)
row_no_float econst_row n at cs t ps c e h = no_float_literal (parts.token_in 0 cs) (ap is_float_token e ∙ h)
row_no_float eparen_row n at cs t ps c e h = paren_no_float n at (parts.expression_in 1 cs) (parts.first_of (parts.types_in 3 cs))
row_no_float ebegin_row n at cs t ps c e h = begun_no_float n at (parts.first_of (parts.expressions_in 1 cs))
row_no_float eif_row n at cs t ps c e h = if_no_float n at (parts.expression_in 1 cs) (parts.expression_in 3 cs) (parts.first_of (parts.expressions_in 5 cs))
row_no_float erecord_row n at cs t ps c e h =
    either_no_float (is_some (parts.token_in 4 cs)) (update_expression n at (parts.expression_in 1 cs) (fields_in 5 cs)) (record_expression n at (parts.expression_in 1 cs) (parts.first_of (parts.expressions_in 3 cs)) (fields_in 5 cs)) tt tt
row_no_float _ n at cs t ps c e h = tt

-- an operand that is none
pub no_float : (i : ℕ) (o : Numbered) → IsOfCarriedRows o.part → is_float_at o.part ≡ false → IsNoFloat (expression_of i o).form
no_float i o c h = by o.number o.at o.part c h
  where
    by : (n : ℕ) (at : Place) (p : Part) → IsOfCarriedRows p → is_float_at p ≡ false → IsNoFloat (expression_of i (numbered n at p)).form
    by n at (taken t) c h = tt
    by n at (missing q) c h = tt
    by n at (inner (node r x ps)) c h = row_no_float r (number_of i n) at (parts_of i n (node r x ps)) (node r x ps) ps c.0 (token_stands i n (node r x ps) 0) h

-- the value that a sign is, over an argument alone
record SignIs (x : List ℕ) : Type 0 where
  name : operator_name eneg_row x ≡ codes "~" ++ x
  negates : operator_negates eneg_row x ≡ bytes_eq x (codes "-")

sign_is : (x : List ℕ) → (bytes_eq x (codes "-") || bytes_eq x (codes "-.")) ≡ true → SignIs x
sign_is x h = by (bytes_eq x (codes "-")) refl h
  where
    by : (b : Bool) → bytes_eq x (codes "-") ≡ b → (b || bytes_eq x (codes "-.")) ≡ true → SignIs x
    by true e h = subst SignIs (sym ((bytes_eq-Decides x (codes "-")).0 e)) (record { name = refl; negates = refl })
    by false e h = subst SignIs (sym ((bytes_eq-Decides x (codes "-.")).0 h)) (record { name = refl; negates = refl })

under_same : (b : Bool) (e : Expression) → under_minus b e ≡ (if b then record e { typed = e.negated } else e)
under_same true e = refl
under_same false e = refl

-- An operator with its arguments is the row's own term.
pub operator_some : (a d : Parts) (env : List Entry) (i n : ℕ) (at : Place) (t : Tree) (o : Operator) (tok : Tok) (r : Row) (m : ℕ) → row_of t ≡ r → IsOperation r (is_float_at (filled_in n t 1).part) → sign_in r t ≡ Some tok → IsOperator r tok o → IsCarried (numbered n at (inner t)) →
    TypesRow a d env (operated_asks (number_of i n) (tok_of o.named) (signed_expressions (is_negated o.sign) i (all_operands n t))) (number_of i n) m → TypesRow a d env (λ c. (row_expression i n at t).typed c) (number_of i n) m
operator_some a d env i n at t o tok prefix_row m row is there op carried typed =
    prefix_typed a d env i n at t m carried.formed row (λ aloud F scope G its s.
    row_as (λ c. ap (λ b. operated_asks (number_of i n) (tok_of o.named) (signed_expressions b i (all_operands n t)) c) op.negates ∙ operated_as c (number_of i n) tok (tok_of o.named) tok.name (expressions_of i (all_operands n t)) op.start op.end op.name ∙
    ap (λ x. operator_applied c (number_of i n) x (name_of x) (expressions_of i (all_operands n t))) (sym there)) (typed aloud F scope G its s))
operator_some a d env i n at t o tok infix_row m row is there op carried typed =
    infix_typed a d env i n at t m carried.formed row (λ aloud F scope G its s.
    row_as (λ c. ap (λ b. operated_asks (number_of i n) (tok_of o.named) (signed_expressions b i (all_operands n t)) c) op.negates ∙ operated_as c (number_of i n) tok (tok_of o.named) tok.name (expressions_of i (all_operands n t)) op.start op.end op.name ∙
    ap (λ x. operator_applied c (number_of i n) x (name_of x) (expressions_of i (all_operands n t))) (sym there)) (typed aloud F scope G its s))
operator_some a d env i n at t o tok eneg_row m row is there op carried typed =
    let e = expression_of i (filled_in n t 1) in
    let sign = sign_is tok.name (ap is_sign (sym there) ∙ sign_there t carried.rows (sym (rows_same t) ∙ row)) in
    minus_typed a d env i n at t m carried.formed row (no_float i (filled_in n t 1) (filled_carried n at t 1 (ap (λ r. sort_in r 1) row) carried).rows is) (λ aloud F scope G its s.
    row_as (λ c. ap (λ b. operated_asks (number_of i n) (tok_of o.named) (signed_expressions b i (all_operands n t)) c) (op.negates ∙ sign.negates) ∙
    ap (λ os. operated_asks (number_of i n) (tok_of o.named) (signed_expressions (bytes_eq tok.name (codes "-")) i os) c) (minus_operand n t carried.formed row) ∙
    ap (λ x. operated_asks (number_of i n) (tok_of o.named) (x ∷ []) c) (under_same (bytes_eq tok.name (codes "-")) e) ∙
    operated_as c (number_of i n) tok (tok_of o.named) (codes "~" ++ tok.name) (under_sign (Some tok) e ∷ []) op.start op.end (op.name ∙ sign.name) ∙
    ap (λ x. operator_applied c (number_of i n) x (codes "~" ++ name_of x) (under_sign x e ∷ [])) (sym there)) (typed aloud F scope G its s))
operator_some a d env i n at t o tok _ m row is there op carried typed = absurd is

under_sign_none : (e : Expression) → under_sign None e ≡ e
under_sign_none e = refl

-- Where the operator is missing its arguments alone are typed.
pub operator_none : (a d : Parts) (env : List Entry) (i n : ℕ) (at : Place) (t : Tree) (r : Row) (m : ℕ) → row_of t ≡ r → IsOperation r (is_float_at (filled_in n t 1).part) → sign_in r t ≡ None → IsCarried (numbered n at (inner t)) →
    TypesRow a d env (λ c. typed_all c (expressions_of i (all_operands n t))) (number_of i n) m → TypesRow a d env (λ c. (row_expression i n at t).typed c) (number_of i n) m
operator_none a d env i n at t prefix_row m row is none carried typed =
    prefix_typed a d env i n at t m carried.formed row (λ aloud F scope G its s. row_as (λ c. ap (λ x. operator_applied c (number_of i n) x (name_of x) (expressions_of i (all_operands n t))) (sym none)) (typed aloud F scope G its s))
operator_none a d env i n at t infix_row m row is none carried typed =
    infix_typed a d env i n at t m carried.formed row (λ aloud F scope G its s. row_as (λ c. ap (λ x. operator_applied c (number_of i n) x (name_of x) (expressions_of i (all_operands n t))) (sym none)) (typed aloud F scope G its s))
operator_none a d env i n at t eneg_row m row is none carried typed =
    let e = expression_of i (filled_in n t 1) in
    minus_typed a d env i n at t m carried.formed row (no_float i (filled_in n t 1) (filled_carried n at t 1 (ap (λ r. sort_in r 1) row) carried).rows is) (λ aloud F scope G its s.
    row_as (λ c. ap (λ os. typed_all c (expressions_of i os)) (minus_operand n t carried.formed row) ∙ ap (λ x. operator_applied c (number_of i n) x (codes "~" ++ name_of x) (under_sign x e ∷ [])) (sym none)) (typed aloud F scope G its s))
operator_none a d env i n at t _ m row is none carried typed = absurd is

-- an operand that is read from a list of carried ones
pub read_carried : (os : List Operand) (k : ℕ) (x : Operand) → k < length os → x ≡ slice_index_or os k x → All IsCarried (map operand_view os) → IsCarried (operand_view x)
read_carried [] k x lt e all = absurd (omega arith)
read_carried (o ∷ os) zero x lt e all = subst (λ z. IsCarried (operand_view z)) (sym e) (All-head IsCarried (operand_view o) (map operand_view os) all)
read_carried (o ∷ os) (suc k) x lt e all = read_carried os k x (omega arith) e (All-tail IsCarried (operand_view o) (map operand_view os) all)

-- one expression more of those of which nothing is asked
pub each_step : (a b d : Parts) (env : List Entry) (os : List Operand) (k : ℕ) (x : Operand) (m : ℕ) → k < length os → x ≡ slice_index_or os k x → Goes a b →
    (All IsCarried (map operand_view os) → TypesFirst a b env (expressions_of a.item (map operand_view os)) (expressions_of a.item (map operand_view (drop k os)))) →
    (IsCarried (operand_view x) → TypesTo b d env (λ c. (expression_of b.item (operand_view x)).typed c) (λ ch. ch.type_at (expression_of b.item (operand_view x)).node) m) →
    All IsCarried (map operand_view os) → TypesFirst a d env (expressions_of a.item (map operand_view os)) (expressions_of a.item (map operand_view (drop (k + 1) os)))
each_step a b d env os k x m lt e goes first typed all =
    let view : List Operand → List Expression = λ qs. expressions_of a.item (map operand_view qs) in
    each_more a b d env (view os) (view (drop k os)) (view (drop (k + 1) os)) (expression_of a.item (operand_view x)) m (ap view (drop_read os k x lt e)) goes (first all)
    (subst (λ j. TypesTo b d env (λ c. (expression_of j (operand_view x)).typed c) (λ ch. ch.type_at (expression_of j (operand_view x)).node) m) goes.item (typed (read_carried os k x lt e all)))

-- one argument more of a head
pub given_step : (a b d : Parts) (env : List Entry) (at : Place) (negated : Bool) (os : List Operand) (k : ℕ) (x : Operand) (head m to : ℕ) → k < length os → x ≡ slice_index_or os k x → Goes a b →
    (All IsCarried (map operand_view os) → TypesGivenFirst a b env at (signed_expressions negated a.item (map operand_view os)) (signed_expressions negated a.item (map operand_view (drop k os))) head m) →
    (IsCarried (operand_view x) → TypesArgument b d env at (under_minus negated (expression_of b.item (operand_view x))) m to) →
    All IsCarried (map operand_view os) → TypesGivenFirst a d env at (signed_expressions negated a.item (map operand_view os)) (signed_expressions negated a.item (map operand_view (drop (k + 1) os))) head to
given_step a b d env at negated os k x head m to lt e goes first typed all =
    let view : List Operand → List Expression = λ qs. signed_expressions negated a.item (map operand_view qs) in
    given_more a b d env at (view os) (view (drop k os)) (view (drop (k + 1) os)) (under_minus negated (expression_of a.item (operand_view x))) head m to (ap view (drop_read os k x lt e)) goes (first all)
    (subst (λ j. TypesArgument b d env at (under_minus negated (expression_of j (operand_view x))) m to) goes.item (typed (read_carried os k x lt e all)))

-- one part more of a row
pub parts_step : (a b d : Parts) (env : List Entry) (r : Row) (os : List Operand) (k j : ℕ) (x : Operand) (ms more : List NodeRef) (m : NodeRef) → k < length os → x ≡ slice_index_or os k x → j ≡ k → more ≡ ms ++ m ∷ [] → Goes a b →
    (All IsCarried (map operand_view os) → TypesPartsFirst a b env r k (expressions_of a.item (map operand_view os)) (expressions_of a.item (map operand_view (drop k os))) (numbers ms)) →
    (IsCarried (operand_view x) → TypesPart b d env r j (expression_of b.item (operand_view x)) m.0) →
    All IsCarried (map operand_view os) → TypesPartsFirst a d env r (k + 1) (expressions_of a.item (map operand_view os)) (expressions_of a.item (map operand_view (drop (k + 1) os))) (numbers more)
parts_step a b d env r os k j x ms more m lt e place longer goes first typed all =
    let view : List Operand → List Expression = λ qs. expressions_of a.item (map operand_view qs) in
    parts_more a b d env r k j (view os) (view (drop k os)) (view (drop (k + 1) os)) (expression_of a.item (operand_view x)) (numbers ms) (numbers more) m.0 (ap view (drop_read os k x lt e)) place (numbers_more ms more m longer) goes (first all)
    (subst (λ i. TypesPart b d env r j (expression_of i (operand_view x)) m.0) goes.item (typed (read_carried os k x lt e all)))

-- an argument, which may be directly under a minus, has a type
pub argument_typed : (a b d : Parts) (env : List Entry) (negated : Bool) (i : ℕ) (o : Numbered) (found wanted : ℕ) → TypesTo a b env (λ c. (under_minus negated (expression_of i o)).typed c) (λ ch. ch.type_at (expression_of i o).node) found → Goes a b → AsksEqual b d env o.at found wanted →
    TypesAs a d env (under_minus negated (expression_of i o)) wanted
argument_typed a b d env true i o found wanted typed goes asked = types_as a b d env (under_minus true (expression_of i o)) o.at found wanted (expression_of_stands i o).where_it_is typed goes asked
argument_typed a b d env false i o found wanted typed goes asked = types_as a b d env (expression_of i o) o.at found wanted (expression_of_stands i o).where_it_is typed goes asked

usual_row : (r : Row) (t : Tree) (ps : Forest) → IsCarriedRow r t ps → (form_of r ≡ form.Leaf → ⊥) → IsUsual r
usual_row econst_row t ps c h = absurd (h refl)
usual_row _ t ps c h = tt

-- a row that is no leaf asks the same under a minus
pub usual_there : (n : ℕ) (at : Place) (t : Tree) → IsCarried (numbered n at (inner t)) → (form_of (row_at t) ≡ form.Leaf → ⊥) → IsUsual (row_of t)
usual_there n at t h no_leaf = let (ps, c) = row_there t h.rows in subst IsUsual (sym (rows_same t)) (usual_row (row_at t) t ps c no_leaf)

-- parentheses, with a type written after the part or without
pub paren_row : (a b d : Parts) (env : List Entry) (n : ℕ) (at : Place) (t : Tree) (part : Operand) (given : Option Operand) (found ty u : NodeRef) → IsCarried (numbered n at (inner t)) → form_of (row_at t) ≡ form.Parenthesised →
    operand_view part ≡ filled_in n t 1 → option_map operand_view given ≡ first_in n t 3 →
    (IsCarried (operand_view part) → TypesTo a b env (λ c. (expression_of a.item (operand_view part)).typed c) (λ ch. ch.type_at (expression_of a.item (operand_view part)).node) found.0) → Goes a b →
    IsAsWritten (option_map operand_view given) part.span found b d env ty → AsksWritten b d env (option_map operand_view given) (place_of part.span) found.0 ty.0 → u ≡ ty → TypesRow a d env (λ c. (row_expression a.item n at t).typed c) (number_of a.item n) u.0
paren_row a b d env n at t part given found ty u carried is here there typed goes written asked same = by (option_map operand_view given) there written asked
  where
    row : row_of t ≡ eparen_row
    row = by_paren t is

    first : TypesTo a b env (λ c. (expression_of a.item (filled_in n t 1)).typed c) (λ ch. ch.type_at (expression_of a.item (filled_in n t 1)).node) found.0
    first = subst (λ o. TypesTo a b env (λ c. (expression_of a.item o).typed c) (λ ch. ch.type_at (expression_of a.item o).node) found.0) here (typed (subst IsCarried (sym here) (filled_carried n at t 1 (ap (λ r. sort_in r 1) row) carried)))

    place : (expression_of a.item (filled_in n t 1)).at ≡ place_of part.span
    place = ap (λ o. (expression_of a.item o).at) (sym here) ∙ (expression_of_stands a.item (operand_view part)).where_it_is

    by : (o : Option Numbered) → o ≡ first_in n t 3 → IsAsWritten o part.span found b d env ty → AsksWritten b d env o (place_of part.span) found.0 ty.0 → TypesRow a d env (λ c. (row_expression a.item n at t).typed c) (number_of a.item n) u.0
    by None none w asks = paren_typed a d env a.item n at t u.0 carried.formed row (sym none)
        (subst (λ p. TypesTo a p env (λ c. (expression_of a.item (filled_in n t 1)).typed c) (λ ch. ch.type_at (expression_of a.item (filled_in n t 1)).node) u.0) (sym w.1)
        (subst (λ x. TypesTo a b env (λ c. (expression_of a.item (filled_in n t 1)).typed c) (λ ch. ch.type_at (expression_of a.item (filled_in n t 1)).node) x.0) (sym (same ∙ w.0)) first))
    by (Some o) some w asks = subst (λ x. TypesRow a d env (λ c. (row_expression a.item n at t).typed c) (number_of a.item n) x.0) (sym same)
        (annotated_typed a b d env n at (place_of part.span) t o found.0 ty.0 carried.formed row (sym some) first goes place (asks (first_operand n t 3 o carried.formed (sym some))))

-- a row whose parts are typed in order
pub plain_row : (a b d : Parts) (env : List Entry) (n : ℕ) (at : Place) (t : Tree) (r : Row) (os : List Operand) (ms : List ℕ) (m : ℕ) → IsCarried (numbered n at (inner t)) → form_of (row_at t) ≡ form.Plain → row_at t ≡ r → map operand_view os ≡ all_operands n t →
    (All IsCarried (map operand_view os) → TypesParts a b env r (expressions_of a.item (map operand_view os)) ms) → Goes a b →
    (IsOrderedRow (row_at t) → EndsRow b d env (ordered_end (row_at t) t (expressions_of b.item (map operand_view os))) (expressions_of b.item (map operand_view os)) ms m) → TypesRow a d env (λ c. (row_expression a.item n at t).typed c) (number_of a.item n) m
plain_row a b d env n at t r os ms m carried is row given typed goes ends =
    let ordered = by_ordered n at t carried is in
    let same = rows_same t in
    let parts = typed (subst (All IsCarried) (sym given) (all_carried n at t (ordered_sorts (row_of t) (subst IsOrderedRow (sym same) ordered)) carried)) in
    ordered_typed a b d env n at t ms m carried.formed (subst IsOrderedRow (sym same) ordered) (subst (λ q. TypesParts a b env q (expressions_of a.item (all_operands n t)) ms) (sym (same ∙ row)) (subst (λ qs. TypesParts a b env r (expressions_of a.item qs) ms) given parts)) goes
    (subst (λ q. EndsRow b d env (ordered_end q t (expressions_of b.item (all_operands n t))) (expressions_of b.item (all_operands n t)) ms m) (sym same) (subst (λ qs. EndsRow b d env (ordered_end (row_at t) t (expressions_of b.item qs)) (expressions_of b.item qs) ms m) given (ends ordered)))

-- an operator that is there, with its arguments
pub operation_row : (a d : Parts) (env : List Entry) (n : ℕ) (at : Place) (t : Tree) (os : List Operand) (o : Operator) (m : ℕ) → IsCarried (numbered n at (inner t)) → IsOperation (row_at t) (is_float_at (filled_in n t 1).part) → IsSignOf (row_at t) (sign_in (row_at t) t) o → map operand_view os ≡ all_operands n t →
    (All IsCarried (map operand_view os) → (k : ℕ) → TypesRow a d env (operated_asks k (tok_of o.named) (signed_expressions (is_negated o.sign) a.item (map operand_view os))) k m) → TypesRow a d env (λ c. (row_expression a.item n at t).typed c) (number_of a.item n) m
operation_row a d env n at t os o m carried is sign given typed = by (sign_in (row_at t) t) refl sign
  where
    by : (tok : Option Tok) → sign_in (row_at t) t ≡ tok → IsSignOf (row_at t) tok o → TypesRow a d env (λ c. (row_expression a.item n at t).typed c) (number_of a.item n) m
    by None e h = absurd h
    by (Some tok) e h =
        operator_some a d env a.item n at t o tok (row_at t) m (rows_same t) is e h carried
        (subst (λ qs. TypesRow a d env (operated_asks (number_of a.item n) (tok_of o.named) (signed_expressions (is_negated o.sign) a.item qs)) (number_of a.item n) m) given
        (typed (subst (All IsCarried) (sym given) (all_carried n at t (λ s. ap (λ r. sort_in r s) (rows_same t) ∙ operation_sorts (row_at t) (is_float_at (filled_in n t 1).part) is s) carried)) (number_of a.item n)))

-- one that is missing
pub operation_missing : (a b d : Parts) (env : List Entry) (n : ℕ) (at : Place) (t : Tree) (os : List Operand) (m : ℕ) → IsCarried (numbered n at (inner t)) → IsOperation (row_at t) (is_float_at (filled_in n t 1).part) → sign_in (row_at t) t ≡ None → map operand_view os ≡ all_operands n t →
    (All IsCarried (map operand_view os) → TypesEach a b env (expressions_of a.item (map operand_view os))) → Goes a b → TypesAny b d m → TypesRow a d env (λ c. (row_expression a.item n at t).typed c) (number_of a.item n) m
operation_missing a b d env n at t os m carried is none given typed goes any =
    operator_none a d env a.item n at t (row_at t) m (rows_same t) is none carried
    (unoperated_typed a b d env (expressions_of a.item (all_operands n t)) (number_of a.item n) m (subst (λ qs. TypesEach a b env (expressions_of a.item qs)) given (typed (subst (All IsCarried) (sym given) (all_carried n at t (λ s. ap (λ r. sort_in r s) (rows_same t) ∙ operation_sorts (row_at t) (is_float_at (filled_in n t 1).part) is s) carried)))) goes any)

-- a minus over a numeral with a point
pub minus_float : (a d : Parts) (env : List Entry) (n : ℕ) (at : Place) (t : Tree) (part : Operand) (u : NodeRef) → IsCarried (numbered n at (inner t)) → form_of (row_at t) ≡ form.Minus → operand_view part ≡ filled_in n t 1 → is_float_at (operand_view part).part ≡ true →
    (is_aloud a.telling ≡ true → Records (sight a) (sight d) part.number a.constants.float.0 env) → u ≡ a.constants.float → TypesRow a d env (λ c. (row_expression a.item n at t).typed c) (number_of a.item n) u.0
minus_float a d env n at t part u carried is here point records same =
    let there = float_there a.item (filled_in n t 1) (ap (λ o. is_float_at o.part) (sym here) ∙ point) in
    subst (λ x. TypesRow a d env (λ c. (row_expression a.item n at t).typed c) (number_of a.item n) x.0) (sym same)
    (float_typed a d env a.item n part.number at t carried.formed (by_minus t is) there.form (ap (λ o. number_of a.item o.number) here) there.asks records)

-- over anything else it is an operator
pub minus_operation : (n : ℕ) (t : Tree) (part : Operand) → form_of (row_at t) ≡ form.Minus → operand_view part ≡ filled_in n t 1 → is_float_at (operand_view part).part ≡ false → IsOperation (row_at t) (is_float_at (filled_in n t 1).part)
minus_operation n t part is here apart = subst (λ r. IsOperation r (is_float_at (filled_in n t 1).part)) (sym (minus_form (row_at t) is)) (ap (λ o. is_float_at o.part) (sym here) ∙ apart)

-- an application whose head is no constructor
pub application_row : (a d : Parts) (env : List Entry) (n : ℕ) (at : Place) (t : Tree) (head : Operand) (os : List Operand) (m : ℕ) → IsCarried (numbered n at (inner t)) → form_of (row_at t) ≡ form.Application → operand_view head ≡ filled_in n t 0 → map operand_view os ≡ operands_in n t 1 →
    constructor_at (operand_view head).part ≡ None → (IsCarried (operand_view head) → All IsCarried (map operand_view os) → (k : ℕ) → TypesRow a d env (applied_asks k (expression_of a.item (operand_view head)) (expressions_of a.item (map operand_view os))) k m) →
    TypesRow a d env (λ c. (row_expression a.item n at t).typed c) (number_of a.item n) m
application_row a d env n at t head os m carried is here given none typed =
    let first = filled_carried n at t 0 (ap (λ r. sort_in r 0) (by_application t is)) carried in
    let row = typed (subst IsCarried (sym here) first) (subst (All IsCarried) (sym given) (operands_carried n at t 1 (ap (λ r. sort_in r 1) (by_application t is)) carried)) (number_of a.item n) in
    application_typed a d env a.item n at t m carried.formed (by_application t is) (operand_no a.item (filled_in n t 0) (ap (λ o. constructor_at o.part) (sym here) ∙ none))
    (subst (λ qs. TypesRow a d env (applied_asks (number_of a.item n) (expression_of a.item (filled_in n t 0)) (expressions_of a.item qs)) (number_of a.item n) m) given
    (subst (λ o. TypesRow a d env (applied_asks (number_of a.item n) (expression_of a.item o) (expressions_of a.item (map operand_view os))) (number_of a.item n) m) here row))

-- one whose head is a constructor
pub construction_row : (a d : Parts) (env : List Entry) (n : ℕ) (at : Place) (t : Tree) (head : Operand) (p : Written) (os : List Operand) (m : ℕ) → IsCarried (numbered n at (inner t)) → form_of (row_at t) ≡ form.Application → operand_view head ≡ filled_in n t 0 →
    map operand_view os ≡ operands_in n t 1 → constructor_at (operand_view head).part ≡ Some p →
    (All IsCarried (map operand_view os) → (k : ℕ) → TypesConstructed a d env k (path_of p) (expression_of a.item (operand_view head)) (expressions_of a.item (map operand_view os)) m) → TypesRow a d env (λ c. (row_expression a.item n at t).typed c) (number_of a.item n) m
construction_row a d env n at t head p os m carried is here given named typed =
    let row = typed (subst (All IsCarried) (sym given) (operands_carried n at t 1 (ap (λ r. sort_in r 1) (by_application t is)) carried)) (number_of a.item n) in
    construction_typed a d env a.item n at t (path_of p) m carried.formed (by_application t is) (operand_is a.item (filled_in n t 0) p (ap (λ o. constructor_at o.part) (sym here) ∙ named))
    (subst (λ qs. TypesConstructed a d env (number_of a.item n) (path_of p) (expression_of a.item (filled_in n t 0)) (expressions_of a.item qs) m) given
    (subst (λ o. TypesConstructed a d env (number_of a.item n) (path_of p) (expression_of a.item o) (expressions_of a.item (map operand_view os)) m) here row))

-- the first of some carried operands, and the others
pub first_carried : (x : Operand) (os all : List Operand) → all ≡ x ∷ os → All IsCarried (map operand_view all) → IsCarried (operand_view x)
first_carried x os all split h = All-head IsCarried (operand_view x) (map operand_view os) (subst (λ ys. All IsCarried (map operand_view ys)) split h)

pub later_carried : (x : Operand) (os all : List Operand) → all ≡ x ∷ os → All IsCarried (map operand_view all) → All IsCarried (map operand_view os)
later_carried x os all split h = All-tail IsCarried (operand_view x) (map operand_view os) (subst (λ ys. All IsCarried (map operand_view ys)) split h)

-- a constructor with its first argument, which is recorded
pub head_row : (a b d f : Parts) (env : List Entry) (n number : ℕ) (p : parts.Written) (x : Operand) (found : Construction) (h : Head) → TypesConstructor a b env p 1 found.known found.built.0 (option_map (λ (m : NodeRef). m.0) found.argument) → Goes a b →
    TypesAsIf b d env (expression_of b.item (operand_view x)) (option_map (λ (m : NodeRef). m.0) found.argument) → Goes b d → (is_aloud d.telling ≡ true → Records (sight d) (sight f) number h.ty.0 env) → (h.ty ≡ found.built) × (h.known ≡ found.known) →
    TypesHead a f env n (number_of a.item number) p h.known (expression_of a.item (operand_view x)) h.ty.0
head_row a b d f env n number p x found h built goes argued goes' records same =
    let e = expression_of a.item (operand_view x) in
    let k = number_of a.item number in
    let argument : Option ℕ = option_map (λ (m : NodeRef). m.0) found.argument in
    subst (λ v. TypesHead a f env n k p v e h.ty.0) (sym same.1)
    (subst (λ m. TypesHead a f env n k p found.known e m.0) (sym same.0)
    (head_typed a b d f env n k number p.qualifiers p.last found.known e found.built.0 argument built goes (subst (λ i. TypesAsIf b d env (expression_of i (operand_view x)) argument) goes.item argued) goes'
    (ap (λ i. number_of i number) (goes'.item ∙ goes.item)) (subst (λ m. is_aloud d.telling ≡ true → Records (sight d) (sight f) number m.0 env) same.0 records)))

-- the arguments after the first one, where the constructor is known
pub known_later : (a b : Parts) (env : List Entry) (at : Place) (es : List Expression) (head : Head) (ty u : NodeRef) → head.known ≡ true → u ≡ ty → TypesGiven a b env at es head.ty.0 ty.0 → TypesLater a b env head.known at es head.ty.0 u.0
known_later a b env at es head ty u known same given =
    subst (λ k. TypesLater a b env k at es head.ty.0 u.0) (sym known) (subst (λ m. TypesLater a b env true at es head.ty.0 m.0) (sym same) (later_known a b env at es head.ty.0 ty.0 given))

-- where it isn't
pub unknown_later : (a b d : Parts) (env : List Entry) (at : Place) (os : List Numbered) (head : Head) (u : NodeRef) → head.known ≡ false → TypesEach a b env (expressions_of a.item os) → Goes a b → EndsUnknown b d (expressions_of b.item os) head.ty.0 u.0 →
    TypesLater a d env head.known at (expressions_of a.item os) head.ty.0 u.0
unknown_later a b d env at os head u known each goes ends =
    subst (λ k. TypesLater a d env k at (expressions_of a.item os) head.ty.0 u.0) (sym known)
    (later_unknown a b d env at (expressions_of a.item os) head.ty.0 u.0 each goes (subst (λ i. EndsUnknown b d (expressions_of i os) head.ty.0 u.0) goes.item ends))

-- an expression that has the type that may be wanted
pub typed_as_if : (a b d : Parts) (env : List Entry) (o : Numbered) (found : ℕ) (wanted : Option NodeRef) → TypesTo a b env (λ c. (expression_of a.item o).typed c) (λ ch. ch.type_at (expression_of a.item o).node) found → Goes a b → AsksEqualIf b d env o.at found wanted →
    TypesAsIf a d env (expression_of a.item o) (option_map (λ (w : NodeRef). w.0) wanted)
typed_as_if a b d env o found wanted typed goes asked = types_as_if a b d env (expression_of a.item o) o.at found wanted (expression_of_stands a.item o).where_it_is typed goes asked

-- a constructor with its arguments, of which there is at least one
pub constructed_row : (a b d : Parts) (env : List Entry) (n : ℕ) (p : parts.Written) (head : Numbered) (x : Operand) (os all : List Operand) (known : Bool) (ty m : ℕ) → all ≡ x ∷ os →
    TypesHead a b env n (number_of a.item head.number) p known (expression_of a.item (operand_view x)) ty → Goes a b → TypesLater b d env known head.at (expressions_of b.item (map operand_view os)) ty m →
    TypesConstructed a d env n p (expression_of a.item head) (expressions_of a.item (map operand_view all)) m
constructed_row a b d env n p head x os all known ty m split typed goes later =
    let at = expression_of_stands a.item head in
    subst (λ ys. TypesConstructed a d env n p (expression_of a.item head) (expressions_of a.item (map operand_view ys)) m) (sym split)
    (constructed_typed a b d env n p (expression_of a.item head) (expression_of a.item (operand_view x)) (expressions_of a.item (map operand_view os)) head.at known ty m at.where_it_is
    (subst (λ k. TypesHead a b env n k p known (expression_of a.item (operand_view x)) ty) (sym at.number) typed) goes
    (subst (λ i. TypesLater b d env known head.at (expressions_of i (map operand_view os)) ty m) goes.item later))

-- what is there isn't missing
pub some_none : {A : Type 0} (x : A) → Some x ≡ None → ⊥
some_none x e = cc

-- the operand at a place is an expression there
pub part_here : (i : ℕ) (os : List Operand) (k : ℕ) (x : Operand) → slice_get os k ≡ Some x → slice_get (expressions_of i (map operand_view os)) k ≡ Some (expression_of i (operand_view x))
part_here i [] k x e = absurd (cc)
part_here i (o ∷ os) zero x e = let s : o ≡ x = cc in ap (λ y. Some (expression_of i (operand_view y))) s
part_here i (o ∷ os) (suc k) x e = part_here i os k x e

-- where there is none, there is no expression
pub part_missing : (i : ℕ) (os : List Operand) (k : ℕ) → slice_get os k ≡ None → slice_get (expressions_of i (map operand_view os)) k ≡ None
part_missing i [] k e = refl
part_missing i (o ∷ os) zero e = absurd (cc)
part_missing i (o ∷ os) (suc k) e = part_missing i os k e

-- the node at a place by its number
pub number_here : (ms : List NodeRef) (k : ℕ) (m : NodeRef) → slice_get ms k ≡ Some m → slice_get (numbers ms) k ≡ Some m.0
number_here [] k m e = absurd (cc)
number_here (n ∷ ms) zero m e = let s : n ≡ m = cc in ap (λ y. Some y.0) s
number_here (n ∷ ms) (suc k) m e = number_here ms k m e

-- where there is none, there is no number
pub number_missing : (ms : List NodeRef) (k : ℕ) → slice_get ms k ≡ None → slice_get (numbers ms) k ≡ None
number_missing [] k e = refl
number_missing (n ∷ ms) zero e = absurd (cc)
number_missing (n ∷ ms) (suc k) e = number_missing ms k e

-- nothing is past the end of a list
pub past_end : {A : Type 0} (xs : List A) (k : ℕ) → length xs ≤ k → slice_get xs k ≡ None
past_end [] k le = refl
past_end (x ∷ xs) zero le = absurd (omega arith)
past_end (x ∷ xs) (suc k) le = past_end xs k (omega arith)

-- what holds of every value holds of a result's
pub if_any : {A E : Type 0} (r : Result A E) (Q : A → Type 0) → ((x : A) → Q x) → IfOk r Q
if_any (Ok x) Q f = f x
if_any (Err e) Q f = tt

-- a form of rows with parts
abbrev pub IsNoLeaf : RowForm → Type 0
IsNoLeaf form.Leaf = ⊥
IsNoLeaf _ = Unit {0}

pub usual_by : (n : ℕ) (at : Place) (t : Tree) (f : RowForm) → IsCarried (numbered n at (inner t)) → form_of (row_at t) ≡ f → IsNoLeaf f → IsUsual (row_of t)
usual_by n at t f carried is apart = usual_there n at t carried (λ leaf. subst IsNoLeaf (sym is ∙ leaf) apart)

-- two facts of a result
pub both_ok : {A E : Type 0} (r : Result A E) (P Q : A → Type 0) → IfOk r P → IfOk r Q → IfOk r (λ x. P x × Q x)
both_ok (Ok x) P Q p q = (p, q)
both_ok (Err e) P Q p q = tt
