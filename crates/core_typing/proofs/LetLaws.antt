-- Groups of bindings as the code types them, binding by binding.
use Rattle.std.proofs.Common.{inl, ◌≡◌, ◌∙◌, ◌+◌, ◌-◌, ◌^◌, ◌<◌, arith, ℕ, List, [], ◌∷◌, length, map, refl, sym, ap, subst}
use Rattle.std.specs.Prelude.{Result, Ok, Err, OnOk, IfOk}
use Rattle.tree_model.specs.Rows.{Row, elet_row}
use Rattle.tree_model.specs.Trees.{Place, Tree}
use Rattle.signature_model.specs.Declarations.{Name}
use Rattle.syntax_tree.specs.View.{node_view}
use Rattle.row_parts.specs.declared.slots.Operand.{Operand}
use Rattle.row_parts.specs.Numbered.{operand_view, filled_in}
use Rattle.type_terms.specs.declared.types.NodeRef.{NodeRef}
use Rattle.type_nodes.specs.Nodes.{bound_level}
use Rattle.env_table.specs.declared.entries.Entry.{Entry}
use Rattle.typing_state.specs.declared.parts.Parts.{Parts}
use Rattle.typing_state.specs.Goes.{Goes}
use Rattle.typing_state.proofs.Going.{goes_trans}
use Rattle.typing_steps.specs.Warning.{OnlyNotes}
use Rattle.typing_steps.proofs.Still.{notes_unseen, notes_untold}
use Rattle.operand_laws.specs.Formed as formed
use Rattle.operand_laws.specs.Operands.{number_of, expression_of, pattern_of}
use Rattle.typing_steps.specs.Typing.{TypesTo, TypesRow}
use Rattle.typing_rows.specs.CarriedRows.{IsCarried}
use Rattle.typing_rows.specs.Asked.{row_expression}
use Rattle.pattern_rows.specs.CarriedPatterns.{IsCarriedPattern}
use Rattle.pattern_rows.specs.Contracts.{Matches}
use Rattle.pattern_typing.specs.Matching.{binds_of}
use Rattle.expression_steps.specs.declared.forms.RowForm.TheVariants as form
use Rattle.value_forms.specs.Heads.{row_at}
use Rattle.value_forms.proofs.Nodes.{rows_same}
use Rattle.expression_steps.specs.Forms.{form_of, bound_pattern}
use Rattle.binding_rows.specs.Groups.{TypedBinding, AsksNothing}
use Rattle.binding_rows.specs.CaseScopes.{names_added}
use Rattle.binding_rows.specs.Operands.{AsksWholeOf, RecordsRightNode, TypesRightNode, TypesTurnNode, ConcludesNode, TypesGroupNode}
use Rattle.binding_rows.specs.Decided.{IsLetNode, JudgesNode, JudgesGroup}
use Rattle.binding_rows.proofs.Groups.{nothing_reported}
use Rattle.binding_rows.proofs.Operands.{turn_of_node, conclusion_of_node}
use Rattle.binding_rows.specs.Lets.{ToClose, bind_nodes, names_closed}
use Rattle.binding_rows.specs.LetNodes.{ClosesBindings}
use Rattle.binding_rows.proofs.LetNodes.{same_typed, let_row_of_node}
use Rattle.binding_steps.specs.declared.groups.Binding.{Binding}
use Rattle.binding_steps.specs.declared.groups.Opened.{Opened}
use Rattle.binding_steps.specs.declared.groups.RightSide.{RightSide}
use Rattle.binding_steps.specs.declared.groups.Bound.{Bound}
use Rattle.binding_rows.specs.Scopes.{InsideNodes}
use Rattle.binding_rows.specs.ItemRows.{TypesItem}
use Rattle.core_typing.specs.Bindings.{Concludes}
use Rattle.binding_steps.specs.Bindings.{typed_of, closing_of, generals, opened_of}

let_form : (r : Row) → form_of r ≡ form.Let → r ≡ elet_row
let_form elet_row e = refl
let_form _ e = absurd (cc)

-- `let` by the form of its row
pub by_let : (t : Tree) → form_of (row_at t) ≡ form.Let → formed.row_of t ≡ elet_row
by_let t e = rows_same t ∙ let_form (row_at t) e

-- of missing bindings nothing is asked
pub missing_asks : (a b : Parts) → OnlyNotes a b → AsksNothing a b
missing_asks a b h = nothing_reported a b (notes_unseen a b h) (notes_untold a b h)

-- a binding as it is typed once it is concluded
concluded_as : (a b : Parts) (within env : List Entry) (o : Opened) (side : RightSide) (bound : Bound) → Concludes a b within env o side bound → (let y : TypedBinding = record { names = binds_of o.matched.names.items; right = side.right.0 } in y) ≡ typed_of bound
concluded_as a b within env o side bound h = (λ i. record { names = binds_of (sym h.matched i).names.items; right = (sym h.right i).0 })

-- a binding without `rec`
pub turn_concluded : (a b d e : Parts) (env : List Entry) (x : Binding) (o : Opened) (side : RightSide) (bound : Bound) (seen then : List Name) → RecordsRightNode a b env x.number (node_view x.node.now) side.right.0 side.whole.0 → Goes a b →
    (IsCarriedPattern (bound_pattern x.number (node_view x.node.now)) → Matches b d env (pattern_of b.item (bound_pattern x.number (node_view x.node.now))) [] (binds_of o.matched.names.items) seen then o.matched.ty.0) → Goes b d → o.binding ≡ x →
    Concludes d e env env o side bound → TypesTurnNode a e env x.number (node_view x.node.now) seen then (typed_of bound)
turn_concluded a b d e env x o side bound seen then typed goes matched goes' same h =
    subst (TypesTurnNode a e env x.number (node_view x.node.now) seen then) (concluded_as d e env env o side bound h)
    (turn_of_node a b d e env x.number (node_view x.node.now) seen then (binds_of o.matched.names.items) side.right.0 side.whole.0 o.matched.ty.0 typed goes matched goes'
    (subst (λ (y : Binding). AsksWholeOf d e env (bound_pattern y.number (node_view y.node.now)) o.matched.ty.0 side.whole.0) same h.asked))

-- its verdict
pub turn_judged : (d e : Parts) (within env : List Entry) (x : Binding) (o : Opened) (side : RightSide) (bound : Bound) → o.binding ≡ x → Concludes d e within env o side bound → JudgesNode env x.number (node_view x.node.now) bound.generalises
turn_judged d e within env x o side bound same h = subst (λ (y : Binding). JudgesNode env y.number (node_view y.node.now) bound.generalises) same h.judged

-- a binding with `rec`, whose pattern is typed
pub conclusion_done : (a b d : Parts) (env outside : List Entry) (o : Opened) (side : RightSide) (bound : Bound) → TypesRightNode a b env o.binding.number (node_view o.binding.node.now) side.right.0 side.whole.0 → Goes a b → Concludes b d env outside o side bound →
    ConcludesNode a d env o.binding.number (node_view o.binding.node.now) (opened_of o) (typed_of bound)
conclusion_done a b d env outside o side bound typed goes h =
    subst (ConcludesNode a d env o.binding.number (node_view o.binding.node.now) (opened_of o)) (concluded_as b d env outside o side bound h)
    (conclusion_of_node a b d env o.binding.number (node_view o.binding.node.now) (opened_of o) side.right.0 side.whole.0 typed goes h.asked)

-- nothing is left of a list without elements
pub no_more : {A : Type 0} (xs : List A) → length xs ≡ 0 → xs ≡ []
no_more [] e = refl
no_more (x ∷ xs) e = absurd (omega (arith, e))

same_general : (bs : List Bound) → generals bs ≡ map (λ (y : ToClose). y.general) (map closing_of bs)
same_general [] = refl
same_general (b ∷ bs) = ap (λ vs. b.generalises ∷ vs) (same_general bs)

-- The row of a `let`: its group is typed one level further in and closed, and its body is typed among the names.
pub let_done : (x y a d f : Parts) (env within : List Entry) (n : ℕ) (at : Place) (t : Tree) (bs : List Bound) (body : Operand) (ty u : NodeRef) → IsLetNode n t → (y ≡ record x { level = x.level + 1 }) × (x.level + 1 < 2 ^ 32 - 1) →
    TypesGroupNode y a env n t (map typed_of bs) → JudgesGroup env n t (generals bs) → Goes y a → ClosesBindings a d (map closing_of bs) → Goes a d → within ≡ names_added (names_closed (map closing_of bs)) env → operand_view body ≡ filled_in n t 5 →
    (IsCarried (operand_view body) → TypesTo d f within (λ c. (expression_of d.item (operand_view body)).typed c) (λ ch. ch.type_at (expression_of d.item (operand_view body)).node) ty.0) → u ≡ ty →
    TypesRow x f env (λ c. (row_expression x.item n at t).typed c) (number_of x.item n) u.0
let_done x y a d f env within n at t bs body ty u node raised typed judged goes closes goes' brought here inside same =
    subst (λ (k : NodeRef). TypesRow x f env (λ c. (row_expression x.item n at t).typed c) (number_of x.item n) k.0) (sym same)
    (let_row_of_node x y a d f env within n at t (map closing_of bs) ty.0 node.formed node.row node.bindings node.body raised.0 raised.1
    (subst (TypesGroupNode y a env n t) (same_typed typed_of closing_of (λ b. refl) bs) typed) (subst (JudgesGroup env n t) (same_general bs) judged) goes closes goes' brought
    (subst (λ o. IsCarried o → TypesTo d f within (λ c. (expression_of d.item o).typed c) (λ ch. ch.type_at (expression_of d.item o).node) ty.0) here inside))

-- what holds after a call and what holds of its answer together
pub held_both : {A E P : Type 0} (r : Result A E) (Q R : A → Type 0) → (P → (x : A) → Q x → R x) → OnOk r P → IfOk r Q → IfOk r R
held_both (Ok x) Q R f p q = f p x q
held_both (Err e) Q R f p q = tt

-- The `let` of an item: its group is typed one level further in, its names' types are limited, and it is closed.
pub item_let : (x y a m d : Parts) (env after : List Entry) (n : ℕ) (t : Tree) (bs : List Bound) → y ≡ record x { level = x.level + 1 } → Goes x y → TypesGroupNode y a env n t (map typed_of bs) → JudgesGroup env n t (generals bs) → Goes y a →
    InsideNodes a m bound_level (number_of x.item n) (bind_nodes (names_closed (map closing_of bs))) → Goes a m → ClosesBindings m d (map closing_of bs) → Goes m d → after ≡ names_added (names_closed (map closing_of bs)) env → TypesItem x d env after n t
item_let x y a m d env after n t bs raised goes typed judged goes' inside goes'' closes goes''' scope = record {
  begun = y;
  raised = raised;
  done = a;
  scoped = m;
  bindings = map closing_of bs;
  typed = subst (TypesGroupNode y a env n t) (same_typed typed_of closing_of (λ b. refl) bs) typed;
  judged = subst (JudgesGroup env n t) (same_general bs) judged;
  scopes = inl inside;
  closes = closes;
  scope = scope;
  goes = goes_trans x m d (goes_trans x a m (goes_trans x y a goes goes') goes'') goes''';
}
