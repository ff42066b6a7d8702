-- The end of a node of a type expression in a declaration, by its row.
use Rattle.std.proofs.Common.{◌≡◌, ℕ, List, [], ◌∷◌, refl, sym, ap, subst}
use Rattle.std.specs.Prelude.{Option, Some}
use Rattle.token_model.specs.Kinds.{Tok}
use Rattle.tree_model.specs.Rows.{Row, tvar_row, tcon_row, tparen_row, tapp_row, ttuple_row, tarrow_row}
use Rattle.tree_model.specs.Slots.{is_operand}
use Rattle.tree_model.specs.Trees.{Place, Tree}
use Rattle.syntax_tree.specs.declared.rows.RowName.{RowName}
use Rattle.syntax_tree.specs.declared.rows.RowName.TheVariants as name
use Rattle.syntax_tree.specs.Names as names
use Rattle.syntax_tree.specs.View.{node_view, place_of}
use Rattle.syntax_tree.specs.declared.tree.Node.{Node, out-Node}
use Rattle.row_parts.specs.Numbered.{Numbered, operands_in, all_operands, filled_in, first_of, token_in, path_in}
use Rattle.signature_model.specs.Declarations.{Name}
use Rattle.typing_model.specs.Contexts.{Context, unresolved}
use Rattle.typing_model.specs.TypeExpressions.{nodes_of, in_parentheses}
use Rattle.env_table.specs.declared.entries.Entry.{Entry}
use Rattle.typing_state.specs.declared.parts.Parts.{Parts}
use Rattle.typing_steps.specs.States.{sight}
use Rattle.operand_laws.specs.Formed.{row_of, is_needed}
use Rattle.operand_laws.specs.Operands.{number_of, type_of, path_of}
use Rattle.operand_laws.proofs.There.{filled_first}
use Rattle.typing_rows.specs.Rows.{types_read, front_nodes, end_asks}
use Rattle.typing_rows.specs.Operands.{HasNoConstructor}
use Rattle.typing_rows.proofs.TypeTerms.{IsNoType, arrow_sides}
use Rattle.typing_rows.proofs.Ended.{view_row, view_place}
use Rattle.typing_rows.specs.DeclaredContracts.{SettlesEnd}
use Rattle.typing_rows.specs.DeclaredOperands.{SettlesRow, SettlesVariable, SettlesName, SettlesParentheses, SettlesPlainRow}
use Rattle.typing_rows.proofs.DeclaredOrdered.{to_here, unresolved_to}
use Rattle.typing_rows.proofs.DeclaredComposed.{ends_tuple, ends_arrow, ends_alone}

-- a row in the place of the node's
ends_as : (a b : Parts) (env : List Entry) (ps : List Name) (t : Tree) (r : Row) (number : ℕ) (at : Place) (ms : List ℕ) → row_of t ≡ r → SettlesEnd a b env ps (λ c. end_asks r a.item number at t c) (front_nodes r a.item number t) ms (number_of a.item number) →
    SettlesEnd a b env ps (λ c. end_asks (row_of t) a.item number at t c) (front_nodes (row_of t) a.item number t) ms (number_of a.item number)
ends_as a b env ps t r number at ms row h = subst (λ q. SettlesEnd a b env ps (λ c. end_asks q a.item number at t c) (front_nodes q a.item number t) ms (number_of a.item number)) (sym row) h

-- 'a
pub var_ends : (a b : Parts) (ps : List Name) (t : Tree) (o : Option Tok) (ms : List ℕ) → row_of t ≡ tvar_row → o ≡ token_in t 0 → SettlesVariable a b ps o → SettlesPlainRow a b ps t ms
var_ends a b ps t o ms row there read plain env number at formed placed =
    ends_as a b env ps t tvar_row number at ms row (ends_alone a b env ps (λ c. end_asks tvar_row a.item number at t c) [] ms (number_of a.item number) ((subst (SettlesVariable a b ps) there read) env (number_of a.item number) at))

-- ( t ), ( t, t ): a well formed node has a type expression there, which may be missing
pub paren_ends : (a b : Parts) (ps : List Name) (nd : Node) (ms : List ℕ) → row_of (node_view nd) ≡ tparen_row → SettlesParentheses a b ps (place_of (out-Node nd).span) ms → SettlesPlainRow a b ps (node_view nd) ms
unfolding is_operand is_needed
paren_ends a b ps nd ms row ends plain env number at formed placed = ends_as a b env ps t tparen_row number at ms row (by (operands_in number t 1) first)
  where
    t : Tree
    t = node_view nd

    first : first_of (operands_in number t 1) ≡ Some (filled_in number t 1)
    first = filled_first number t 1 formed (ap (λ r. is_operand r 1) row) (ap (λ r. is_needed r 1) row)

    by : (os : List Numbered) → first_of os ≡ Some (filled_in number t 1) → SettlesEnd a b env ps (λ c. in_parentheses c (number_of a.item number) at (types_read a.item os)) (nodes_of (types_read a.item os)) ms (number_of a.item number)
    by [] e = absurd (cc)
    by (o ∷ os) e = (subst (λ p. SettlesParentheses a b ps p ms) (sym (view_place nd at placed)) ends) env (number_of a.item number) (type_of a.item o) (types_read a.item os)

-- t * t
pub tuple_ends : (a b : Parts) (ps : List Name) (t : Tree) (ms : List ℕ) → row_of t ≡ ttuple_row → (sight b).reports ≡ (sight a).reports → SettlesPlainRow a b ps t ms
tuple_ends a b ps t ms row kept plain env number at formed placed =
    ends_as a b env ps t ttuple_row number at ms row (ends_tuple a b env ps (nodes_of (types_read a.item (all_operands number t))) ms (number_of a.item number) kept)

-- t -> t
pub arrow_ends : (a b : Parts) (ps : List Name) (t : Tree) (ms : List ℕ) → row_of t ≡ tarrow_row → (sight b).reports ≡ (sight a).reports → SettlesPlainRow a b ps t ms
arrow_ends a b ps t ms row kept plain env number at formed placed =
    ends_as a b env ps t tarrow_row number at ms row (subst (λ os. SettlesEnd a b env ps (λ c. end_asks tarrow_row a.item number at t c) (nodes_of (types_read a.item os)) ms (number_of a.item number)) (sym (arrow_sides number t formed row))
    (ends_arrow a b env ps (type_of a.item (filled_in number t 0)).node (type_of a.item (filled_in number t 2)).node ms (number_of a.item number) kept))

pub no_end : (r : Row) (i n : ℕ) (at : Place) (t : Tree) (c : Context) → IsNoType r → unresolved c (number_of i n) ≡ end_asks r i n at t c
no_end tvar_row i n at t c h = absurd h
no_end tcon_row i n at t c h = absurd h
no_end tparen_row i n at t c h = absurd h
no_end tapp_row i n at t c h = absurd h
no_end ttuple_row i n at t c h = absurd h
no_end tarrow_row i n at t c h = absurd h
no_end _ i n at t c h = refl

-- the row of the code is none of type expressions
pub no_type : (r : RowName) → (r ≡ name.Tvar → ⊥) → (r ≡ name.Tparen → ⊥) → (r ≡ name.Ttuple → ⊥) → (r ≡ name.Tarrow → ⊥) → HasNoConstructor (names.row_of r) → IsNoType (names.row_of r)
unfolding names.row_of
no_type name.Tvar v p t a h = absurd (v refl)
no_type name.Tparen v p t a h = absurd (p refl)
no_type name.Ttuple v p t a h = absurd (t refl)
no_type name.Tarrow v p t a h = absurd (a refl)
no_type name.Tcon v p t a h = absurd h
no_type name.Tapp v p t a h = absurd h
no_type _ v p t a h = tt

-- another row, which is no type expression
pub other_ends : (a b : Parts) (ps : List Name) (nd : Node) (ms : List ℕ) → ((out-Node nd).row ≡ name.Tvar → ⊥) → ((out-Node nd).row ≡ name.Tparen → ⊥) → ((out-Node nd).row ≡ name.Ttuple → ⊥) → ((out-Node nd).row ≡ name.Tarrow → ⊥) → (sight b).reports ≡ (sight a).reports →
    SettlesPlainRow a b ps (node_view nd) ms
other_ends a b ps nd ms v p t x kept plain env number at formed placed = λ aloud B around ts gives many.
    let row = view_row nd (out-Node nd).row refl in
    let none = subst IsNoType (sym row) (no_type (out-Node nd).row v p t x (subst HasNoConstructor row plain)) in
    to_here (λ c h. no_end (row_of (node_view nd)) a.item number at (node_view nd) c none) (unresolved_to ps (number_of a.item number) around.1 kept)

pub no_constructor : (r : RowName) → (r ≡ name.Tcon → ⊥) → (r ≡ name.Tapp → ⊥) → HasNoConstructor (names.row_of r)
unfolding names.row_of
no_constructor name.Tcon c a = absurd (c refl)
no_constructor name.Tapp c a = absurd (a refl)
no_constructor _ c a = tt

-- a node without a constructor
pub plain_ends : (a b : Parts) (env : List Entry) (ps : List Name) (nd : Node) (ms : List ℕ) → ((out-Node nd).row ≡ name.Tcon → ⊥) → ((out-Node nd).row ≡ name.Tapp → ⊥) → SettlesPlainRow a b ps (node_view nd) ms → SettlesRow a b env ps (node_view nd) ms
plain_ends a b env ps nd ms c x ends number at formed placed =
    ends (subst HasNoConstructor (sym (view_row nd (out-Node nd).row refl)) (no_constructor (out-Node nd).row c x)) env number at formed placed

-- t
pub con_ends : (a b : Parts) (env : List Entry) (ps : List Name) (t : Tree) (ms : List ℕ) → row_of t ≡ tcon_row → SettlesName a b env ps (path_of (path_in t 0 1)) ms → SettlesRow a b env ps t ms
con_ends a b env ps t ms row ends number at formed placed = ends_as a b env ps t tcon_row number at ms row (ends [] (number_of a.item number))

-- t u, (t, t) u
pub app_ends : (a b : Parts) (env : List Entry) (ps : List Name) (t : Tree) (ms : List ℕ) → row_of t ≡ tapp_row → SettlesName a b env ps (path_of (path_in t 1 2)) ms → SettlesRow a b env ps t ms
app_ends a b env ps t ms row ends number at formed placed = ends_as a b env ps t tapp_row number at ms row (ends (type_of a.item (filled_in number t 0)).grouped (number_of a.item number))
