-- Cases, functions and parameters as the code types them.
use Rattle.std.proofs.Common.{◌≡◌, ◌∙◌, ◌+◌, ◌<◌, ℕ, List, length, map, drop, Option, Some, None, option_map, refl, sym, ap, subst}
use Rattle.std.specs.Prelude.{All, slice_index_or, unwrap_or}
use Rattle.std.specs.Option.{IfSome}
use Rattle.tree_model.specs.Rows.{Row, ematch_row, etry_row, efun_row, efunction_row}
use Rattle.tree_model.specs.Trees.{Place, Tree}
use Rattle.row_parts.specs.declared.slots.Operand.{Operand}
use Rattle.row_parts.specs.Numbered.{Numbered, operand_view, operands_in, first_in, filled_in}
use Rattle.typing_model.specs.Parts.{Case, Expression}
use Rattle.type_terms.specs.declared.types.NodeRef.{NodeRef}
use Rattle.type_nodes.specs.Nodes.{Arrow, IsNode}
use Rattle.type_nodes.specs.Changes.{Makes}
use Rattle.env_table.specs.declared.entries.Entry.{Entry}
use Rattle.typing_state.specs.declared.parts.Parts.{Parts}
use Rattle.typing_state.specs.Goes.{Goes, OnlyStore}
use Rattle.typing_state.specs.Types.{MakesVar, any_scope}
use Rattle.typing_steps.specs.Typing.{TypesTo, TypesAny, TypesRow, AsksEqualIf}
use Rattle.typing_steps.specs.Warning.{OnlyWarnings}
use Rattle.typing_steps.proofs.Rows.{var_any}
use Rattle.use_typing.specs.Uses.{GivenOrNew}
use Rattle.use_typing.proofs.Reading.{drop_read}
use Rattle.operand_laws.specs.Formed as formed
use Rattle.operand_laws.specs.Operands.{number_of, expression_of}
use Rattle.typing_rows.specs.CarriedRows.{IsCarried}
use Rattle.typing_rows.specs.Asked.{row_expression}
use Rattle.typing_rows.specs.Contracts.{TypesAsIf}
use Rattle.pattern_rows.specs.CarriedPatterns.{IsCarriedPattern}
use Rattle.pattern_rows.specs.Contracts.{patterns_of}
use Rattle.binding_rows.specs.Cases.{case_of, case_by, case_over, cases_of, TypesCaseIf, TypesCasePartsTo, TypesBody, TypesEachCase, TypesCases, TypesCasesFirst, GivenOrAny}
use Rattle.binding_rows.specs.Parameters.{MakesArrows, TypesParameters}
use Rattle.binding_rows.specs.CaseCarried.{IsCase, IsCaseNode, IsMatchRow, IsMatchOrTry, IsFunctionNode, IsFunNode}
use Rattle.binding_rows.proofs.Cases.{body_first, body_later}
use Rattle.binding_rows.proofs.Ordered.{cases_further, cases_typed}
use Rattle.binding_rows.proofs.Matches.{match_typed, try_typed, function_typed, match_term, try_term, function_term}
use Rattle.binding_rows.proofs.Parameters.{fun_typed, fun_term}
use Rattle.expression_steps.specs.declared.forms.RowForm.TheVariants as form
use Rattle.value_forms.specs.Heads.{row_at}
use Rattle.value_forms.proofs.Nodes.{rows_same}
use Rattle.expression_steps.specs.Forms.{form_of}
use Rattle.binding_steps.specs.Sides.{sides_by}
use Rattle.binding_steps.proofs.ParameterLaws.{read_one}

-- the number of a node, where there is one
abbrev pub node_if : Option NodeRef → Option ℕ
node_if o = option_map (λ (w : NodeRef). w.0) o

match_form : (r : Row) → form_of r ≡ form.Match → IsMatchRow r
match_form ematch_row e = tt
match_form etry_row e = tt
match_form _ e = absurd (cc)

function_form : (r : Row) → form_of r ≡ form.Cases → r ≡ efunction_row
function_form efunction_row e = refl
function_form _ e = absurd (cc)

fun_form : (r : Row) → form_of r ≡ form.Function → r ≡ efun_row
fun_form efun_row e = refl
fun_form _ e = absurd (cc)

-- `match` and `try` by the form of their row
pub by_match : (t : Tree) → form_of (row_at t) ≡ form.Match → IsMatchRow (formed.row_of t)
by_match t e = subst IsMatchRow (sym (rows_same t)) (match_form (row_at t) e)

-- `function`
pub by_function : (t : Tree) → form_of (row_at t) ≡ form.Cases → formed.row_of t ≡ efunction_row
by_function t e = rows_same t ∙ function_form (row_at t) e

-- `fun`
pub by_fun : (t : Tree) → form_of (row_at t) ≡ form.Function → formed.row_of t ≡ efun_row
by_fun t e = rows_same t ∙ fun_form (row_at t) e

-- one case more
pub case_step : (a b d : Parts) (env : List Entry) (os : List Operand) (k : ℕ) (x : Operand) (matched : ℕ) (known bodies now : Option ℕ) → k < length os → x ≡ slice_index_or os k x → Goes a b →
    (All IsCase (map operand_view os) → TypesCasesFirst a b env (cases_of a.item (map operand_view os)) (cases_of a.item (map operand_view (drop k os))) matched known bodies) →
    (IsCase (operand_view x) → TypesCaseIf b d env (case_of b.item (operand_view x)) matched bodies now) →
    All IsCase (map operand_view os) → TypesCasesFirst a d env (cases_of a.item (map operand_view os)) (cases_of a.item (map operand_view (drop (k + 1) os))) matched known now
case_step a b d env os k x matched known bodies now lt e goes first typed all =
    let view : List Operand → List Case = λ qs. cases_of a.item (map operand_view qs) in
    cases_further a b d env (view os) (view (drop k os)) (view (drop (k + 1) os)) (case_of a.item (operand_view x)) matched known bodies now (ap view (drop_read os k x lt e)) goes (first all)
    (subst (λ i. TypesCaseIf b d env (case_of i (operand_view x)) matched bodies now) goes.item (typed (read_one IsCase os k x lt e all)))

-- the row of a match or of a `try`
pub match_row : (a b d : Parts) (env : List Entry) (n : ℕ) (at : Place) (t : Tree) (subject : Operand) (sides : NodeRef × Option NodeRef) (ty m : NodeRef) → IsMatchOrTry n t → operand_view subject ≡ filled_in n t 1 →
    (IsCarried (operand_view subject) → TypesTo a b env (λ c. (expression_of a.item (operand_view subject)).typed c) (λ ch. ch.type_at (expression_of a.item (operand_view subject)).node) ty.0) → Goes a b → sides ≡ sides_by (formed.row_of t) b.constants.exn ty →
    (All IsCase (operands_in n t 4) → TypesCases b d env (cases_of b.item (operands_in n t 4)) sides.0.0 (option_map (λ (w : NodeRef). w.0) sides.1) m.0) → TypesRow a d env (λ c. (row_expression a.item n at t).typed c) (number_of a.item n) m.0
match_row a b d env n at t subject sides ty m node here typed goes known cases = by (formed.row_of t) refl node.row known
  where
    first : TypesTo a b env (λ c. (expression_of a.item (filled_in n t 1)).typed c) (λ ch. ch.type_at (expression_of a.item (filled_in n t 1)).node) ty.0
    first = subst (λ o. TypesTo a b env (λ c. (expression_of a.item o).typed c) (λ ch. ch.type_at (expression_of a.item o).node) ty.0) here (typed (subst IsCarried (sym here) node.subject))

    each : (q : NodeRef × Option NodeRef) → sides ≡ q → TypesCases b d env (cases_of a.item (operands_in n t 4)) q.0.0 (option_map (λ (w : NodeRef). w.0) q.1) m.0
    each q is = subst (λ q. TypesCases b d env (cases_of a.item (operands_in n t 4)) q.0.0 (option_map (λ (w : NodeRef). w.0) q.1) m.0) is
        (subst (λ i. TypesCases b d env (cases_of i (operands_in n t 4)) sides.0.0 (option_map (λ (w : NodeRef). w.0) sides.1) m.0) goes.item (cases node.cases))

    by : (r : Row) → formed.row_of t ≡ r → IsMatchRow r → sides ≡ sides_by r b.constants.exn ty → TypesRow a d env (λ c. (row_expression a.item n at t).typed c) (number_of a.item n) m.0
    by ematch_row row h is = subst (λ e. TypesRow a d env (λ c. e.typed c) (number_of a.item n) m.0) (sym (match_term a.item n at t node.formed row))
        (match_typed a b d env (number_of a.item n) at (expression_of a.item (filled_in n t 1)) (cases_of a.item (operands_in n t 4)) ty.0 m.0 first goes (each (ty, None) is))
    by etry_row row h is = subst (λ e. TypesRow a d env (λ c. e.typed c) (number_of a.item n) m.0) (sym (try_term a.item n at t node.formed row))
        (try_typed a b d env (number_of a.item n) at (expression_of a.item (filled_in n t 1)) (cases_of a.item (operands_in n t 4)) ty.0 m.0 first goes (each (b.constants.exn, Some ty) is))
    by _ row h is = absurd h

-- the row of a function over cases
pub function_row : (a b d f : Parts) (env : List Entry) (n : ℕ) (at : Place) (t : Tree) (from to m u : NodeRef) → IsFunctionNode n t → MakesVar a b from.0 any_scope → OnlyStore a b → Goes a b →
    (All IsCase (operands_in n t 4) → TypesCases b d env (cases_of b.item (operands_in n t 4)) from.0 None to.0) → (IsNode d.store.nodes from.0 → IsNode d.store.nodes to.0 → Makes d.store f.store m.0 (Arrow from.0 to.0)) → OnlyStore d f → u ≡ m →
    TypesRow a f env (λ c. (row_expression a.item n at t).typed c) (number_of a.item n) u.0
function_row a b d f env n at t from to m u node made only goes cases arrow rest same =
    subst (λ (x : NodeRef). TypesRow a f env (λ c. (row_expression a.item n at t).typed c) (number_of a.item n) x.0) (sym same)
    (subst (λ e. TypesRow a f env (λ c. e.typed c) (number_of a.item n) m.0) (sym (function_term a.item n at t node.formed node.row))
    (function_typed a b d f env (number_of a.item n) at (cases_of a.item (operands_in n t 4)) from.0 to.0 m.0 (var_any a b made only) goes
    (subst (λ i. TypesCases b d env (cases_of i (operands_in n t 4)) from.0 None to.0) goes.item (cases node.cases)) arrow rest))

-- the row of a function over parameters
pub fun_row : (a b d f : Parts) (env inside : List Entry) (n : ℕ) (at : Place) (t : Tree) (os : List Numbered) (body : Operand) (ms : List ℕ) (to m u : NodeRef) → IsFunNode n t → os ≡ operands_in n t 1 → operand_view body ≡ filled_in n t 3 →
    (All IsCarriedPattern os → TypesParameters a b env inside (patterns_of a.item os) ms) → Goes a b →
    (IsCarried (operand_view body) → TypesTo b d inside (λ c. (expression_of b.item (operand_view body)).typed c) (λ ch. ch.type_at (expression_of b.item (operand_view body)).node) to.0) → MakesArrows d f ms to.0 m.0 → u ≡ m →
    TypesRow a f env (λ c. (row_expression a.item n at t).typed c) (number_of a.item n) u.0
fun_row a b d f env inside n at t os body ms to m u node given here typed goes inner made same =
    subst (λ (x : NodeRef). TypesRow a f env (λ c. (row_expression a.item n at t).typed c) (number_of a.item n) x.0) (sym same)
    (subst (λ e. TypesRow a f env (λ c. e.typed c) (number_of a.item n) m.0) (sym (fun_term a.item n at t node.formed node.row))
    (fun_typed a b d f env inside (number_of a.item n) at (patterns_of a.item (operands_in n t 1)) (expression_of a.item (filled_in n t 3)) ms to.0 m.0
    (subst (λ qs. TypesParameters a b env inside (patterns_of a.item qs) ms) given (typed (subst (All IsCarriedPattern) (sym given) node.parameters))) goes
    (subst (λ i. TypesTo b d inside (λ c. (expression_of i (filled_in n t 3)).typed c) (λ ch. ch.type_at (expression_of i (filled_in n t 3)).node) to.0) goes.item
    (subst (λ o. TypesTo b d inside (λ c. (expression_of b.item o).typed c) (λ ch. ch.type_at (expression_of b.item o).node) to.0) here (inner (subst IsCarried (sym here) node.body)))) made))

-- the type of the bodies where there is one, and else a new variable
given_or_any : (bodies : Option NodeRef) (a b : Parts) (m : NodeRef) → GivenOrNew bodies a b m → (bodies ≡ None → TypesAny a b m.0) → GivenOrAny bodies a b m
given_or_any None a b m given any = any refl
given_or_any (Some w) a b m given any = given

-- the cases of a row, with their warnings and the type of their bodies
pub cases_row : (a b d e : Parts) (env : List Entry) (os all : List Numbered) (matched : ℕ) (known : Option ℕ) (bodies : Option NodeRef) (m : NodeRef) → os ≡ all → (All IsCase os → TypesEachCase a b env (cases_of a.item os) matched known (node_if bodies)) → OnlyWarnings b d →
    GivenOrNew bodies d e m → (bodies ≡ None → TypesAny d e m.0) → All IsCase all → TypesCases a e env (cases_of a.item all) matched known m.0
cases_row a b d e env os all matched known bodies m same typed warned given any carried =
    cases_typed a b d e env (cases_of a.item all) matched known bodies m (subst (λ qs. TypesEachCase a b env (cases_of a.item qs) matched known (node_if bodies)) same (typed (subst (All IsCase) (sym same) carried))) warned (given_or_any bodies d e m given any)

-- a case by its node
pub case_node : (a d : Parts) (env : List Entry) (n : ℕ) (t : Tree) (pattern : Numbered) (guard : Option Numbered) (body : Numbered) (matched : ℕ) (bodies now : Option ℕ) → pattern ≡ filled_in n t 0 → guard ≡ first_in n t 2 → body ≡ filled_in n t 4 →
    (IsCarriedPattern pattern → IfSome guard IsCarried → IsCarried body → TypesCasePartsTo a d env (case_by a.item n pattern guard body) matched bodies now) → IsCaseNode n t → TypesCasePartsTo a d env (case_over a.item n t) matched bodies now
case_node a d env n t pattern guard body matched bodies now p g b typed node =
    subst (λ x. TypesCasePartsTo a d env x matched bodies now) (λ k. case_by a.item n (p k) (g k) (b k))
    (typed (subst IsCarriedPattern (sym p) node.pattern) (subst (λ o. IfSome o IsCarried) (sym g) node.guard) (subst IsCarried (sym b) node.body))

-- a body, which has the type of the bodies, where that is known
pub body_by : (a b : Parts) (env : List Entry) (o : Numbered) (bodies : Option NodeRef) (ty m : NodeRef) → m ≡ unwrap_or bodies ty →
    (bodies ≡ None → IsCarried o → TypesTo a b env (λ c. (expression_of a.item o).typed c) (λ ch. ch.type_at (expression_of a.item o).node) ty.0) → (IsCarried o → TypesAsIf a b env (expression_of a.item o) (node_if bodies)) →
    IsCarried o → TypesBody a b env (expression_of a.item o) (node_if bodies) m.0
body_by a b env o None ty m is first later carried = subst (λ (x : NodeRef). TypesBody a b env (expression_of a.item o) None x.0) (sym is) (body_first a b env (expression_of a.item o) ty.0 (first refl carried))
body_by a b env o (Some w) ty m is first later carried = subst (λ (x : NodeRef). TypesBody a b env (expression_of a.item o) (Some w.0) x.0) (sym is) (body_later a b env (expression_of a.item o) w.0 (later carried))

-- an expression of which nothing is asked
pub typed_unasked : (a b d : Parts) (env : List Entry) (e : Expression) (at : Place) (found : ℕ) (wanted : Option NodeRef) → wanted ≡ None → TypesTo a b env (λ c. e.typed c) (λ ch. ch.type_at e.node) found → AsksEqualIf b d env at found wanted →
    TypesTo a d env (λ c. e.typed c) (λ ch. ch.type_at e.node) found
typed_unasked a b d env e at found wanted none typed asked = subst (λ q. TypesTo a q env (λ c. e.typed c) (λ ch. ch.type_at e.node) found) (sym (subst (AsksEqualIf b d env at found) none asked)) typed
