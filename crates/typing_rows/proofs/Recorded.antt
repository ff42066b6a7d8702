-- A row, once its type is recorded, is a typed expression.
use Rattle.std.proofs.Common.{◌≡◌, ◌∙◌, ◌++◌, ℕ, Bool, true, false, List, [], Some, None, refl, sym, ap, subst}
use denote.Ref.{Bor}
use Rattle.tree_model.specs.Trees.{Place, Tree, inner, missing}
use Rattle.syntax_tree.specs.View.{place_of, node_view}
use Rattle.syntax_tree.specs.declared.tree.Node.{Node}
use Rattle.row_parts.specs.declared.slots.Operand.{Operand}
use Rattle.row_parts.specs.Numbered.{numbered, operand_view, part_of}
use Rattle.typing_model.specs.Contexts.{Context, tell_typed}
use Rattle.typing_model.specs.Parts.{Expression}
use Rattle.typing_model.specs.Meanings.{recorded_expression}
use Rattle.type_terms.specs.declared.types.NodeRef.{NodeRef}
use Rattle.env_table.specs.declared.entries.Entry.{Entry}
use Rattle.env_table.specs.declared.seen.Seen.{Seen}
use Rattle.typing_state.specs.declared.parts.Parts.{Parts}
use Rattle.typing_state.specs.Goes.{Goes, OnlyStore, OnlyIndex}
use Rattle.typing_state.specs.Notes.{Noted, NotedNameless}
use Rattle.typing_state.specs.Types.{MakesVar, any_scope}
use Rattle.typing_conditions.specs.Sights.{number_in}
use Rattle.typing_conditions.proofs.Answering.{to_as}
use Rattle.typing_conditions.specs.Carrying.{SeesScope, at_node}
use Rattle.typing_conditions.proofs.Surrounding.{surrounds_sees, surrounds_at, own_node}
use Rattle.typing_steps.specs.States.{is_aloud, sight}
use Rattle.typing_steps.specs.Typing.{TypesTo, TypesRow}
use Rattle.typing_steps.proofs.Rows.{row_carried, row_any, var_any}
use Rattle.typing_steps.proofs.Recording.{type_noted, nameless_noted}
use Rattle.operand_laws.specs.Operands.{number_of, expression_of}
use Rattle.operand_laws.proofs.Standing.{expression_of_stands}
use Rattle.operand_laws.proofs.Sorts.{expression_by_row}
use Rattle.typing_rows.specs.CarriedRows.{IsCarried}
use Rattle.typing_rows.specs.Asked.{under_minus, row_expression}

-- what an expression asks directly under a minus, once it is recorded
under_recorded : (negated : Bool) (n : ℕ) (e : Expression) (c : Context) → tell_typed n c ++ (under_minus negated e).typed c ≡ (under_minus negated (recorded_expression n e)).typed c
under_recorded true n e c = refl
under_recorded false n e c = refl

-- a node and its number are those of its operand
row_here : (negated : Bool) (i n : ℕ) (at : Place) (t : Tree) (c : Context) → tell_typed (number_of i n) c ++ (under_minus negated (row_expression i n at t)).typed c ≡ (under_minus negated (expression_of i (numbered n at (inner t)))).typed c
row_here negated i n at t c = under_recorded negated (number_of i n) (row_expression i n at t) c ∙ ap (λ e. (under_minus negated e).typed c) (sym (expression_by_row i n at t))

-- An expression that is there: its row, and the record of its type.
pub row_typed : (a b d : Parts) (o : Operand) (nd : Bor Node) (negated : Bool) (env : List Entry) (ty : NodeRef) (seen : Seen) → o.node ≡ Some nd → seen.ty ≡ Some ty → seen.env ≡ env →
    ((place : Place) → IsCarried (numbered o.number place (inner (node_view nd.now))) → TypesRow a b env (λ c. (under_minus negated (row_expression a.item o.number place (node_view nd.now))).typed c) (number_of a.item o.number) ty.0) →
    Goes a b → Noted b.telling b d o.number seen → OnlyIndex b d → IsCarried (operand_view o) →
    TypesTo a d env (λ c. (under_minus negated (expression_of a.item (operand_view o))).typed c) (λ ch. ch.type_at (expression_of a.item (operand_view o)).node) ty.0
row_typed a b d o nd negated env ty seen there is among typed goes noted rest carried = λ aloud F scope G s.
    let here : IsCarried (numbered o.number (place_of o.span) (inner (node_view nd.now))) = subst (λ m. IsCarried (numbered o.number (place_of o.span) (part_of m o.span))) there carried in
    let loud : is_aloud b.telling ≡ true = ap is_aloud goes.telling ∙ aloud in
    let row = typed (place_of o.span) here aloud F (at_node (number_of a.item o.number) scope) G (own_node (number_of a.item o.number)) (surrounds_at (number_of a.item o.number) s) in
    let whole = row_carried (ap (λ i. number_in i o.number) goes.item) row (type_noted b d o.number ty seen is loud noted rest) (subst (SeesScope F scope (sight a) G) (sym among) (surrounds_sees s)) in
    let same : numbered o.number (place_of o.span) (inner (node_view nd.now)) ≡ operand_view o = ap (λ m. numbered o.number (place_of o.span) (part_of m o.span)) (sym there) in
    to_as (λ c. row_here negated a.item o.number (place_of o.span) (node_view nd.now) c ∙ ap (λ x. (under_minus negated (expression_of a.item x)).typed c) same) (λ ch. ap ch.type_at (sym (expression_of_stands a.item (operand_view o)).number)) whole

missing_asks : (negated : Bool) (i n : ℕ) (at place : Place) (c : Context) → tell_typed (number_of i n) c ++ [] ≡ (under_minus negated (expression_of i (numbered n at (missing place)))).typed c
missing_asks true i n at place c = refl
missing_asks false i n at place c = refl

-- An expression that is missing: any type, which is recorded.
pub missing_typed : (a b d : Parts) (o : Operand) (negated : Bool) (env : List Entry) (ty : NodeRef) → o.node ≡ None → MakesVar a b ty.0 any_scope → OnlyStore a b → Goes a b → NotedNameless b d o.number env (Some ty) → OnlyIndex b d →
    TypesTo a d env (λ c. (under_minus negated (expression_of a.item (operand_view o))).typed c) (λ ch. ch.type_at (expression_of a.item (operand_view o)).node) ty.0
missing_typed a b d o negated env ty none made rest goes noted only = λ aloud F scope G s.
    let n = number_of a.item o.number in
    let loud : is_aloud b.telling ≡ true = ap is_aloud goes.telling ∙ aloud in
    let row = row_any a b {env = env} n (var_any a b made rest) aloud F (at_node n scope) G (own_node n) (surrounds_at n s) in
    let whole = row_carried (ap (λ i. number_in i o.number) goes.item) row (nameless_noted b d o.number env ty loud noted only) (surrounds_sees s) in
    let same : numbered o.number (place_of o.span) (missing (place_of o.span)) ≡ operand_view o = ap (λ m. numbered o.number (place_of o.span) (part_of m o.span)) (sym none) in
    to_as (λ c. missing_asks negated a.item o.number (place_of o.span) (place_of o.span) c ∙ ap (λ x. (under_minus negated (expression_of a.item x)).typed c) same) (λ ch. ap ch.type_at (sym (expression_of_stands a.item (operand_view o)).number)) whole
