-- Whole rows from what their functions carry.
use Rattle.std.proofs.Common.{◌≡◌, ◌∙◌, ◌++◌, ℕ, Bool, true, false, List, [], ◌∷◌, Option, Some, None, refl, sym, ap, subst, append-nil, if◌then◌else◌, arith}
use Rattle.std.specs.Prelude.{codes}
use Rattle.token_model.specs.Kinds.{Tok, Kind, upper}
use Rattle.tree_model.specs.Rows.{Row, name_row, epath_row, econst_row, hole_row, eparen_row, ebegin_row, erecord_row, prefix_row, eapp_row, eneg_row, infix_row, eif_row}
use Rattle.tree_model.specs.Slots.{is_operand}
use Rattle.tree_model.specs.Trees.{Place, Tree}
use Rattle.row_parts.specs.Numbered.{operands_in, all_operands, first_in, filled_in, token_in, path_in}
use Rattle.typing_model.specs.Contexts.{Context, type_at, tell_typed}
use Rattle.typing_model.specs.BuiltIns.{float_type, constant}
use Rattle.typing_model.specs.Parts as parts
use Rattle.typing_model.specs.Parts.{Expression, Form, Child, Written, path_in as child_path, types_in, expressions_in, token_in as child_token}
use Rattle.typing_model.specs.Expressions.{expression_row, value_asks, typed_all, is_of, name_expression, path_expression, constant_expression, hole_expression, application_asks, operator_applied, name_of, under_sign, minus_asks, parenthesised, begun, if_expression, update_expression, record_expression, fields_in, is_some}
use Rattle.env_table.specs.declared.entries.Entry.{Entry}
use Rattle.typing_state.specs.declared.parts.Parts.{Parts}
use Rattle.typing_state.specs.Goes.{Goes}
use Rattle.typing_conditions.specs.Sights.{number_in}
use Rattle.typing_conditions.specs.Sights as key
use Rattle.typing_conditions.specs.Steps.{Records}
use Rattle.typing_conditions.proofs.Carried.{carried_refl}
use Rattle.typing_conditions.proofs.Meaning.{means_on, means_more}
use Rattle.typing_conditions.proofs.Surrounding.{surrounds_on, surrounds_sees}
use Rattle.typing_conditions.proofs.Hiding.{below_none, below_more}
use Rattle.typing_steps.specs.States.{is_aloud, sight}
use Rattle.typing_steps.specs.Rows.{IsNoConstructor}
use Rattle.typing_steps.specs.Typing.{TypesTo, TypesOwn, TypesAny, TypesRow, RowCarried}
use Rattle.typing_steps.proofs.Rows.{row_carried, row_own, row_any}
use Rattle.operand_laws.specs.Formed.{row_of, is_needed, may_repeat, IsFormed}
use Rattle.operand_laws.specs.Operands.{number_of, parts_of, path_of, expression_of}
use Rattle.typing_rows.specs.CarriedRows.{is_upper, names_constructor}
use Rattle.typing_rows.specs.Asked.{under_minus, row_expression, expressions_of, IsOrderedRow, ordered_end, applied_asks, operated_asks}
use Rattle.typing_rows.specs.Contracts.{TypesEach, TypesGiven, TypesParts, EndsRow}
use Rattle.typing_rows.proofs.Given.{applied_row}
use Rattle.typing_rows.proofs.Ending.{row_of_type, row_as, row_after, plain_typed}
use Rattle.typing_rows.proofs.Terms.{name_term, path_term, constant_term, hole_term, application_term, paren_term, prefix_term, infix_term, minus_term, one_operand, two_operands, ordered_term}
use Rattle.typing_conditions.specs.Carrying.{at_node}

-- an expression that asks the same under a minus
pub under_as : (negated : Bool) (e x : Expression) (c : Context) → e ≡ x → x.negated c ≡ x.typed c → x.typed c ≡ (under_minus negated e).typed c
under_as true e x c is same = sym same ∙ ap (λ y. y.negated c) (sym is)
under_as false e x c is same = ap (λ y. y.typed c) (sym is)

-- x
pub named_row : (a b : Parts) (env : List Entry) (i n : ℕ) (at : Place) (t : Tree) (negated : Bool) (m : ℕ) → row_of t ≡ name_row → TypesOwn a b env (λ c u. value_asks c (number_of i n) 0 (path_of (path_in t 9 0)) u) m →
    TypesRow a b env (λ c. (under_minus negated (row_expression i n at t)).typed c) (number_of i n) m
named_row a b env i n at t negated m row typed = λ aloud F scope G its s.
    row_as (λ c. under_as negated (row_expression i n at t) (name_expression (number_of i n) at (path_of (path_in t 9 0))) c (name_term i n at t row) refl) (row_own a b {env = env} (λ c u. value_asks c (number_of i n) 0 (path_of (path_in t 9 0)) u) (number_of i n) typed aloud F scope G its s)

-- what a path asks that names no constructor
record AsksValue (n : ℕ) (p : Written) (e : Expression) (c : Context) : Type 0 where
  typed : value_asks c n 0 p (type_at c n) ≡ e.typed c
  same : e.negated c ≡ e.typed c

by_kind : (n : ℕ) (at : Place) (q : List Tok) (start end col : ℕ) (name : List ℕ) (k : Kind) (c : Context) → is_upper k ≡ false →
    let p : Written = record { qualifiers = q; last = Some (record { kind = k; start = start; end = end; col = col; name = name }) } in AsksValue n p (path_expression n at p) c
by_kind n at q start end col name upper c h = absurd (cc)
by_kind n at q start end col name _ c h = record { typed = refl; same = refl }

asks_value : (n : ℕ) (at : Place) (p : Written) (c : Context) → names_constructor p.last ≡ false → AsksValue n p (path_expression n at p) c
asks_value n at p c h = by p.last h
  where
    by : (o : Option Tok) → names_constructor o ≡ false → let w : Written = record { qualifiers = p.qualifiers; last = o } in AsksValue n w (path_expression n at w) c
    by None h = record { typed = refl; same = refl }
    by (Some t) h = by_kind n at p.qualifiers t.start t.end t.col t.name t.kind c h

-- M.x
pub path_row : (a b : Parts) (env : List Entry) (i n : ℕ) (at : Place) (t : Tree) (negated : Bool) (m : ℕ) → row_of t ≡ epath_row → names_constructor (token_in t 1) ≡ false → TypesOwn a b env (λ c u. value_asks c (number_of i n) 0 (path_of (path_in t 0 1)) u) m →
    TypesRow a b env (λ c. (under_minus negated (row_expression i n at t)).typed c) (number_of i n) m
path_row a b env i n at t negated m row plain typed = λ aloud F scope G its s.
    let asks = λ (c : Context). asks_value (number_of i n) at (path_of (path_in t 0 1)) c plain in
    row_as (λ c. (asks c).typed ∙ under_as negated (row_expression i n at t) (path_expression (number_of i n) at (path_of (path_in t 0 1))) c (path_term i n at t row) (asks c).same) (row_own a b {env = env} (λ c u. value_asks c (number_of i n) 0 (path_of (path_in t 0 1)) u) (number_of i n) typed aloud F scope G its s)

constant_under : (negated : Bool) (n : ℕ) (at : Place) (o : Option Tok) (c : Context) → constant negated n o c ≡ (under_minus negated (constant_expression n at o)).typed c
constant_under true n at o c = refl
constant_under false n at o c = refl

-- 1, "a", true
pub constant_row : (a b : Parts) (env : List Entry) (i n : ℕ) (at : Place) (t : Tree) (negated : Bool) (m : ℕ) → row_of t ≡ econst_row → TypesRow a b env (constant negated (number_of i n) (token_in t 0)) (number_of i n) m →
    TypesRow a b env (λ c. (under_minus negated (row_expression i n at t)).typed c) (number_of i n) m
constant_row a b env i n at t negated m row typed = λ aloud F scope G its s.
    row_as (λ c. constant_under negated (number_of i n) at (token_in t 0) c ∙ ap (λ e. (under_minus negated e).typed c) (sym (constant_term i n at t row))) (typed aloud F scope G its s)

-- _
pub hole_any : (a b : Parts) (env : List Entry) (i n : ℕ) (at : Place) (t : Tree) (negated : Bool) (m : ℕ) → row_of t ≡ hole_row → TypesAny a b m → TypesRow a b env (λ c. (under_minus negated (row_expression i n at t)).typed c) (number_of i n) m
hole_any a b env i n at t negated m row typed = λ aloud F scope G its s.
    row_as (λ c. under_as negated (row_expression i n at t) (hole_expression (number_of i n) at) c (hole_term i n at t row) refl) (row_any a b {env = env} (number_of i n) typed aloud F scope G its s)

-- a head that is no constructor, with its arguments
pub applied_typed : (a b d : Parts) (env : List Entry) (head : Expression) (es : ℕ → List Expression) (at : Place) (ty to n : ℕ) → head.at ≡ at → TypesTo a b env (λ c. head.typed c) (λ ch. ch.type_at head.node) ty → Goes a b → TypesGiven b d env at (es b.item) ty to →
    TypesRow a d env (applied_asks n head (es a.item)) n to
applied_typed a b d env head es at ty to n place typed goes given = λ aloud F scope G its s.
    let x = typed aloud F scope G s in
    let here : TypesGiven b d env head.at (es a.item) ty to = subst (λ p. TypesGiven b d env p (es a.item) ty to) (sym place) (subst (λ j. TypesGiven b d env at (es j) ty to) goes.item given) in
    applied_row [] (below_none n 0) x (here (ap is_aloud goes.telling ∙ aloud) F scope G n 0 0 (λ ch. ch.type_at head.node) its (surrounds_on x.carried.stays s) x.means)

-- an operator, with its arguments
pub operated_typed : (a b d : Parts) (env : List Entry) (t : Tok) (es : ℕ → List Expression) (ty to n : ℕ) → TypesOwn a b env (λ c u. value_asks c n 0 (record { qualifiers = []; last = Some t }) u) ty → Goes a b → TypesGiven b d env (parts.place_of t) (es b.item) ty to →
    TypesRow a d env (operated_asks n t (es a.item)) n to
operated_typed a b d env t es ty to n typed goes given = λ aloud F scope G its s.
    let x = typed aloud F scope G (key.letter n 0) (λ u. tt) s in
    let here : TypesGiven b d env (parts.place_of t) (es a.item) ty to = subst (λ j. TypesGiven b d env (parts.place_of t) (es j) ty to) goes.item given in
    applied_row ((key.letter n 0, ty) ∷ []) (below_more 0 1 ty (omega arith) (omega arith) (below_none n 0)) x (here (ap is_aloud goes.telling ∙ aloud) F scope ((key.letter n 0, ty) ∷ G) n 1 1 (λ ch. ch.letter n 0) its (surrounds_on x.carried.stays s) x.means)

-- a row that asks the same under a minus
abbrev pub IsUsual : Row → Type 0
IsUsual econst_row = ⊥
IsUsual _ = Unit {0}

path_usual : (n : ℕ) (at : Place) (q : List Tok) (start end col : ℕ) (name : List ℕ) (k : Kind) (c : Context) →
    let p = path_expression n at (record { qualifiers = q; last = Some (record { kind = k; start = start; end = end; col = col; name = name }) }) in p.negated c ≡ p.typed c
path_usual n at q start end col name upper c = refl
path_usual n at q start end col name _ c = refl

paths_usual : (n : ℕ) (at : Place) (p : Written) (c : Context) → (path_expression n at p).negated c ≡ (path_expression n at p).typed c
paths_usual n at p c = by p.last
  where
    by : (o : Option Tok) → let e = path_expression n at (record { qualifiers = p.qualifiers; last = o }) in e.negated c ≡ e.typed c
    by None = refl
    by (Some t) = path_usual n at p.qualifiers t.start t.end t.col t.name t.kind c

paren_usual : (n : ℕ) (at : Place) (e : Expression) (o : Option parts.TypeExpression) (c : Context) → (parenthesised n at e o).negated c ≡ (parenthesised n at e o).typed c
paren_usual n at e None c = refl
paren_usual n at e (Some t) c = refl

begun_usual : (n : ℕ) (at : Place) (o : Option Expression) (c : Context) → (begun n at o).negated c ≡ (begun n at o).typed c
begun_usual n at None c = refl
begun_usual n at (Some e) c = refl

if_usual : (n : ℕ) (at : Place) (e f : Expression) (o : Option Expression) (c : Context) → (if_expression n at e f o).negated c ≡ (if_expression n at e f o).typed c
if_usual n at e f None c = refl
if_usual n at e f (Some g) c = refl

either_usual : (b : Bool) (x y : Expression) (c : Context) → x.negated c ≡ x.typed c → y.negated c ≡ y.typed c → (if b then x else y).negated c ≡ (if b then x else y).typed c
either_usual true x y c p q = p
either_usual false x y c p q = q

row_usual : (r : Row) (n : ℕ) (at : Place) (cs : List Child) (c : Context) → IsUsual r → (expression_row r n at cs).negated c ≡ (expression_row r n at cs).typed c
unfolding expression_row
row_usual epath_row n at cs c h = paths_usual n at (child_path 0 1 cs) c
row_usual eparen_row n at cs c h = paren_usual n at (parts.expression_in 1 cs) (parts.first_of (types_in 3 cs)) c
row_usual ebegin_row n at cs c h = begun_usual n at (parts.first_of (expressions_in 1 cs)) c
row_usual eif_row n at cs c h = if_usual n at (parts.expression_in 1 cs) (parts.expression_in 3 cs) (parts.first_of (expressions_in 5 cs)) c
row_usual econst_row n at cs c h = absurd h
row_usual erecord_row n at cs c h =
    either_usual (is_some (child_token 4 cs)) (update_expression n at (parts.expression_in 1 cs) (fields_in 5 cs)) (record_expression n at (parts.expression_in 1 cs) (parts.first_of (expressions_in 3 cs)) (fields_in 5 cs)) c refl refl
row_usual _ n at cs c h = refl

-- A row that asks the same under a minus, whatever is in front of it.
pub signed_row : (a b : Parts) (env : List Entry) (i n : ℕ) (at : Place) (t : Tree) (negated : Bool) (m : ℕ) → IsUsual (row_of t) → TypesRow a b env (λ c. (row_expression i n at t).typed c) (number_of i n) m → TypesRow a b env (λ c. (under_minus negated (row_expression i n at t)).typed c) (number_of i n) m
signed_row a b env i n at t true m usual typed = λ aloud F scope G its s. row_as (λ c. sym (row_usual (row_of t) (number_of i n) at (parts_of i n t) c usual)) (typed aloud F scope G its s)
signed_row a b env i n at t false m usual typed = typed

-- an application whose head is no constructor asks the head and then the arguments
application_asked : (c : Context) (n : ℕ) (head : Expression) (es : List Expression) (f : Form) → IsNoConstructor f → applied_asks n head es c ≡ application_asks c n head es f
application_asked c n head es (parts.a_constructor p) no_one = absurd no_one
application_asked c n head es (parts.a_path p) no_one = refl
application_asked c n head es parts.a_float no_one = refl
application_asked c n head es parts.a_false no_one = refl
application_asked c n head es (parts.a_field p l) no_one = refl
application_asked c n head es parts.no_expression no_one = refl
application_asked c n head es parts.other no_one = refl

-- e e e
pub application_typed : (a d : Parts) (env : List Entry) (i n : ℕ) (at : Place) (t : Tree) (m : ℕ) → IsFormed n t → row_of t ≡ eapp_row → IsNoConstructor (expression_of i (filled_in n t 0)).form →
    TypesRow a d env (applied_asks (number_of i n) (expression_of i (filled_in n t 0)) (expressions_of i (operands_in n t 1))) (number_of i n) m → TypesRow a d env (λ c. (row_expression i n at t).typed c) (number_of i n) m
application_typed a d env i n at t m formed row plain typed = λ aloud F scope G its s.
    let head = expression_of i (filled_in n t 0) in
    row_as (λ c. application_asked c (number_of i n) head (expressions_of i (operands_in n t 1)) head.form plain ∙ ap (λ e. e.typed c) (sym (application_term i n at t formed row))) (typed aloud F scope G its s)

-- ( e )
pub paren_typed : (a b : Parts) (env : List Entry) (i n : ℕ) (at : Place) (t : Tree) (m : ℕ) → IsFormed n t → row_of t ≡ eparen_row → first_in n t 3 ≡ None → TypesTo a b env (λ c. (expression_of i (filled_in n t 1)).typed c) (λ ch. ch.type_at (expression_of i (filled_in n t 1)).node) m →
    TypesRow a b env (λ c. (row_expression i n at t).typed c) (number_of i n) m
paren_typed a b env i n at t m formed row none typed = λ aloud F scope G its s.
    let e = expression_of i (filled_in n t 1) in
    let x = typed aloud F scope G s in
    row_of_type (λ c. e.typed c) (λ ch. ch.type_at e.node) x.carried x.means (λ c. ap (λ y. y.typed c) (sym (paren_term i n at t formed row none)))

-- a row whose parts are typed in order
pub ordered_typed : (a b d : Parts) (env : List Entry) (n : ℕ) (at : Place) (t : Tree) (ms : List ℕ) (m : ℕ) → IsFormed n t → IsOrderedRow (row_of t) → TypesParts a b env (row_of t) (expressions_of a.item (all_operands n t)) ms → Goes a b →
    EndsRow b d env (ordered_end (row_of t) t (expressions_of b.item (all_operands n t))) (expressions_of b.item (all_operands n t)) ms m → TypesRow a d env (λ c. (row_expression a.item n at t).typed c) (number_of a.item n) m
ordered_typed a b d env n at t ms m formed ordered parts goes ends =
    plain_typed a b d env (row_of t) (ordered_end (row_of t) t (expressions_of a.item (all_operands n t))) (expressions_of a.item (all_operands n t)) ms m (number_of a.item n) (λ c. (row_expression a.item n at t).typed c)
    (λ c. ordered_term a.item n at t (row_of t) formed refl ordered c) parts goes
    (subst (λ j. EndsRow b d env (ordered_end (row_of t) t (expressions_of j (all_operands n t))) (expressions_of j (all_operands n t)) ms m) goes.item ends)

-- the arguments of an operator alone, where it is missing
pub unoperated_typed : (a b d : Parts) (env : List Entry) (es : List Expression) (n m : ℕ) → TypesEach a b env es → Goes a b → TypesAny b d m → TypesRow a d env (λ c. typed_all c es) n m
unoperated_typed a b d env es n m each goes any = λ aloud F scope G its s.
    let x = each aloud F scope G s in
    row_as (λ c. append-nil (typed_all c es)) (row_after x (row_any b d {env = env} n any (ap is_aloud goes.telling ∙ aloud) F scope G its (surrounds_on x.stays s)))

-- an operator under another kind of token asks the same
pub operated_as : (c : Context) (n : ℕ) (t u : Tok) (name : List ℕ) (es : List Expression) → u.start ≡ t.start → u.end ≡ t.end → u.name ≡ name → operated_asks n u es c ≡ operator_applied c n (Some t) name es
operated_as c n t u name es start end named = (λ k. operated_asks n (record { kind = t.kind; start = start k; end = end k; col = t.col; name = named k }) es c)

-- ! e, with its operator or without
pub prefix_typed : (a d : Parts) (env : List Entry) (i n : ℕ) (at : Place) (t : Tree) (m : ℕ) → IsFormed n t → row_of t ≡ prefix_row →
    TypesRow a d env (λ c. operator_applied c (number_of i n) (token_in t 0) (name_of (token_in t 0)) (expressions_of i (all_operands n t))) (number_of i n) m → TypesRow a d env (λ c. (row_expression i n at t).typed c) (number_of i n) m
unfolding is_operand is_needed may_repeat
prefix_typed a d env i n at t m formed row typed = λ aloud F scope G its s.
    row_as (λ c. ap (λ os. operator_applied c (number_of i n) (token_in t 0) (name_of (token_in t 0)) (expressions_of i os)) (one_operand n t prefix_row formed row refl refl refl refl) ∙ ap (λ y. y.typed c) (sym (prefix_term i n at t formed row)))
    (typed aloud F scope G its s)

-- e + e, with its operator or without
pub infix_typed : (a d : Parts) (env : List Entry) (i n : ℕ) (at : Place) (t : Tree) (m : ℕ) → IsFormed n t → row_of t ≡ infix_row →
    TypesRow a d env (λ c. operator_applied c (number_of i n) (token_in t 1) (name_of (token_in t 1)) (expressions_of i (all_operands n t))) (number_of i n) m → TypesRow a d env (λ c. (row_expression i n at t).typed c) (number_of i n) m
unfolding is_operand is_needed may_repeat
infix_typed a d env i n at t m formed row typed = λ aloud F scope G its s.
    row_as (λ c. ap (λ os. operator_applied c (number_of i n) (token_in t 1) (name_of (token_in t 1)) (expressions_of i os)) (two_operands n t infix_row 0 2 formed row refl refl refl refl refl refl refl) ∙ ap (λ y. y.typed c) (sym (infix_term i n at t formed row)))
    (typed aloud F scope G its s)

-- a form that isn't a numeral's with a point
abbrev pub IsNoFloat : Form → Type 0
IsNoFloat parts.a_float = ⊥
IsNoFloat _ = Unit {0}

minus_asked : (c : Context) (n : ℕ) (t : Option Tok) (e : Expression) (f : Form) → IsNoFloat f → operator_applied c n t (codes "~" ++ name_of t) (under_sign t e ∷ []) ≡ minus_asks c n t e f
minus_asked c n t e (parts.a_constructor p) no_one = refl
minus_asked c n t e (parts.a_path p) no_one = refl
minus_asked c n t e parts.a_float no_one = absurd no_one
minus_asked c n t e parts.a_false no_one = refl
minus_asked c n t e (parts.a_field p l) no_one = refl
minus_asked c n t e parts.no_expression no_one = refl
minus_asked c n t e parts.other no_one = refl

-- - e, over what is no numeral with a point
pub minus_typed : (a d : Parts) (env : List Entry) (i n : ℕ) (at : Place) (t : Tree) (m : ℕ) → IsFormed n t → row_of t ≡ eneg_row → IsNoFloat (expression_of i (filled_in n t 1)).form →
    TypesRow a d env (λ c. operator_applied c (number_of i n) (token_in t 0) (codes "~" ++ name_of (token_in t 0)) (under_sign (token_in t 0) (expression_of i (filled_in n t 1)) ∷ [])) (number_of i n) m →
    TypesRow a d env (λ c. (row_expression i n at t).typed c) (number_of i n) m
minus_typed a d env i n at t m formed row plain typed = λ aloud F scope G its s.
    let e = expression_of i (filled_in n t 1) in
    row_as (λ c. minus_asked c (number_of i n) (token_in t 0) e e.form plain ∙ ap (λ y. y.typed c) (sym (minus_term i n at t formed row))) (typed aloud F scope G its s)

-- the one operand of a minus
pub minus_operand : (n : ℕ) (t : Tree) → IsFormed n t → row_of t ≡ eneg_row → all_operands n t ≡ filled_in n t 1 ∷ []
unfolding is_operand is_needed may_repeat
minus_operand n t formed row = one_operand n t eneg_row formed row refl refl refl refl

float_asked : (c : Context) (n : ℕ) (t : Option Tok) (e : Expression) (f : Form) → f ≡ parts.a_float → e.negated c ++ is_of c n float_type ≡ minus_asks c n t e f
float_asked c n t e f is = ap (minus_asks c n t e) (sym is)

-- - 1.5: the numeral is recorded, and the whole is a float
pub float_typed : (a b : Parts) (env : List Entry) (i n number : ℕ) (at : Place) (t : Tree) → IsFormed n t → row_of t ≡ eneg_row → (expression_of i (filled_in n t 1)).form ≡ parts.a_float → number_in a.item number ≡ number_of i (filled_in n t 1).number →
    ((c : Context) → (expression_of i (filled_in n t 1)).negated c ≡ tell_typed (number_of i (filled_in n t 1).number) c ++ is_of c (number_of i (filled_in n t 1).number) float_type) →
    (is_aloud a.telling ≡ true → Records (sight a) (sight b) number a.constants.float.0 env) → TypesRow a b env (λ c. (row_expression i n at t).typed c) (number_of i n) a.constants.float.0
float_typed a b env i n number at t formed row form place asks records = λ aloud F scope G its s.
    let e = expression_of i (filled_in n t 1) in
    let k = number_of i (filled_in n t 1).number in
    let inner_row : RowCarried F (at_node k scope) (λ c. is_of c k float_type) (sight a) G (sight a) k a.constants.float.0 = row_of_type (λ c. []) (λ ch. float_type) carried_refl (means_more s.fixed.float) (λ c. refl) in
    let x = row_carried place inner_row (records aloud) (surrounds_sees s) in
    row_of_type (λ c. tell_typed k c ++ is_of c k float_type) (λ ch. float_type) x.carried (means_on x.carried.stays (means_more s.fixed.float))
    (λ c. ap (λ xs. xs ++ is_of c (number_of i n) float_type) (sym (asks c)) ∙ float_asked c (number_of i n) (token_in t 0) e e.form form ∙ ap (λ y. y.typed c) (sym (minus_term i n at t formed row)))
