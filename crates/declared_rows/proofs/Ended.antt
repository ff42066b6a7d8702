-- The end of a node of a type expression in a declaration, by its row: what it denotes.
use Rattle.std.proofs.Common.{◌≡◌, ℕ, List, [], ◌∷◌, refl, sym, ap, subst}
use Rattle.std.specs.Prelude.{Option, Some, All}
use Rattle.token_model.specs.Kinds.{Tok}
use Rattle.tree_model.specs.Rows.{Row, tvar_row, tcon_row, tparen_row, tapp_row, ttuple_row, tarrow_row}
use Rattle.tree_model.specs.Slots.{is_operand}
use Rattle.tree_model.specs.Trees.{Place, Tree}
use Rattle.syntax_tree.specs.declared.rows.RowName.TheVariants as name
use Rattle.syntax_tree.specs.View.{node_view, place_of}
use Rattle.syntax_tree.specs.declared.tree.Node.{Node, out-Node}
use Rattle.row_parts.specs.Numbered.{Numbered, operands_in, all_operands, filled_in, first_of, token_in, path_in}
use Rattle.signature_model.specs.Declarations.{Name}
use Rattle.typing_model.specs.TypeExpressions.{nodes_of, in_parentheses}
use Rattle.type_nodes.specs.Nodes.{IsNode, Tuple}
use Rattle.type_nodes.specs.Changes.{Makes}
use Rattle.env_table.specs.declared.entries.Entry.{Entry}
use Rattle.typing_state.specs.declared.parts.Parts.{Parts}
use Rattle.typing_state.specs.Goes.{OnlyStore}
use Rattle.operand_laws.specs.Formed.{row_of, is_needed}
use Rattle.operand_laws.specs.Operands.{number_of, type_of, path_of}
use Rattle.operand_laws.proofs.There.{filled_first}
use Rattle.typing_rows.specs.Rows.{types_read, front_nodes, end_asks}
use Rattle.typing_rows.specs.Operands.{HasNoConstructor}
use Rattle.typing_rows.proofs.TypeTerms.{IsNoType, arrow_sides}
use Rattle.typing_rows.proofs.Ended.{view_row, view_place}
use Rattle.declared_rows.specs.Contracts.{DenotesEnd, MakesUnknown}
use Rattle.declared_rows.specs.Operands.{DenotesEnds, DenotesVariable, DenotesName, DenotesParentheses, DenotesPlain, MakesArrow}
use Rattle.declared_rows.proofs.Judged.{unknown_denoted}
use Rattle.declared_rows.proofs.Ends.{alone_ends, tuple_end, arrow_end}
use Rattle.typing_rows.proofs.DeclaredEnded.{no_constructor, no_end, no_type}

-- a row in the place of the node's
ends_as : (a b : Parts) (env : List Entry) (ns : List Name) (ps : List ℕ) (t : Tree) (r : Row) (number : ℕ) (at : Place) (ms : List ℕ) (m : ℕ) → row_of t ≡ r → DenotesEnd a b env ns ps (λ c. end_asks r a.item number at t c) (front_nodes r a.item number t) ms (number_of a.item number) m →
    DenotesEnd a b env ns ps (λ c. end_asks (row_of t) a.item number at t c) (front_nodes (row_of t) a.item number t) ms (number_of a.item number) m
ends_as a b env ns ps t r number at ms m row h = subst (λ q. DenotesEnd a b env ns ps (λ c. end_asks q a.item number at t c) (front_nodes q a.item number t) ms (number_of a.item number) m) (sym row) h

-- 'a
pub var_ends : (a b : Parts) (ns : List Name) (ps : List ℕ) (t : Tree) (o : Option Tok) (ms : List ℕ) (m : ℕ) → row_of t ≡ tvar_row → o ≡ token_in t 0 → DenotesVariable a b ns ps o m → DenotesPlain a b ns ps t ms m
var_ends a b ns ps t o ms m row there read plain env number at formed placed =
    ends_as a b env ns ps t tvar_row number at ms m row (alone_ends a b env ns ps (λ c. end_asks tvar_row a.item number at t c) [] ms (number_of a.item number) m ((subst (λ x. DenotesVariable a b ns ps x m) there read) env (number_of a.item number) at))

-- ( t ), ( t, t ): a well formed node has a type expression there, which may be missing
pub paren_ends : (a b : Parts) (ns : List Name) (ps : List ℕ) (nd : Node) (ms : List ℕ) (m : ℕ) → row_of (node_view nd) ≡ tparen_row → DenotesParentheses a b ns ps (place_of (out-Node nd).span) ms m → DenotesPlain a b ns ps (node_view nd) ms m
unfolding is_operand is_needed
paren_ends a b ns ps nd ms m row ends plain env number at formed placed = ends_as a b env ns ps t tparen_row number at ms m row (by (operands_in number t 1) first)
  where
    t : Tree
    t = node_view nd

    first : first_of (operands_in number t 1) ≡ Some (filled_in number t 1)
    first = filled_first number t 1 formed (ap (λ r. is_operand r 1) row) (ap (λ r. is_needed r 1) row)

    by : (os : List Numbered) → first_of os ≡ Some (filled_in number t 1) → DenotesEnd a b env ns ps (λ c. in_parentheses c (number_of a.item number) at (types_read a.item os)) (nodes_of (types_read a.item os)) ms (number_of a.item number) m
    by [] e = absurd (cc)
    by (o ∷ os) e = (subst (λ p. DenotesParentheses a b ns ps p ms m) (sym (view_place nd at placed)) ends) env (number_of a.item number) (type_of a.item o) (types_read a.item os)

-- t * t
pub tuple_ends : (a b : Parts) (ns : List Name) (ps : List ℕ) (t : Tree) (ms : List ℕ) (m : ℕ) → row_of t ≡ ttuple_row → (All (IsNode a.store.nodes) ms → Makes a.store b.store m (Tuple ms)) → OnlyStore a b → DenotesPlain a b ns ps t ms m
tuple_ends a b ns ps t ms m row made rest plain env number at formed placed =
    ends_as a b env ns ps t ttuple_row number at ms m row (tuple_end a b env ns ps (nodes_of (types_read a.item (all_operands number t))) ms (number_of a.item number) m made rest)

-- t -> t
pub arrow_ends : (a b : Parts) (ns : List Name) (ps : List ℕ) (t : Tree) (ms : List ℕ) (m : ℕ) → row_of t ≡ tarrow_row → MakesArrow a b ms m → DenotesPlain a b ns ps t ms m
arrow_ends a b ns ps t ms m row made plain env number at formed placed =
    ends_as a b env ns ps t tarrow_row number at ms m row (subst (λ os. DenotesEnd a b env ns ps (λ c. end_asks tarrow_row a.item number at t c) (nodes_of (types_read a.item os)) ms (number_of a.item number) m) (sym (arrow_sides number t formed row))
    (arrow_end a b env ns ps (type_of a.item (filled_in number t 0)).node (type_of a.item (filled_in number t 2)).node ms (number_of a.item number) m made))

-- another row, which is no type expression
pub other_ends : (a b : Parts) (ns : List Name) (ps : List ℕ) (nd : Node) (ms : List ℕ) (m : ℕ) → ((out-Node nd).row ≡ name.Tvar → ⊥) → ((out-Node nd).row ≡ name.Tparen → ⊥) → ((out-Node nd).row ≡ name.Ttuple → ⊥) → ((out-Node nd).row ≡ name.Tarrow → ⊥) → MakesUnknown a b m →
    DenotesPlain a b ns ps (node_view nd) ms m
other_ends a b ns ps nd ms m v p t x made plain env number at formed placed = λ aloud B around ts gives many F arity U A inside all.
    let row = view_row nd (out-Node nd).row refl in
    let none = subst IsNoType (sym row) (no_type (out-Node nd).row v p t x (subst HasNoConstructor row plain)) in
    unknown_denoted a b _ (number_of a.item number) m (λ c h. no_end (row_of (node_view nd)) a.item number at (node_view nd) c none) ns around.1 inside.assigns made

-- a node without a constructor
pub plain_ends : (a b : Parts) (env : List Entry) (ns : List Name) (ps : List ℕ) (nd : Node) (ms : List ℕ) (m : ℕ) → ((out-Node nd).row ≡ name.Tcon → ⊥) → ((out-Node nd).row ≡ name.Tapp → ⊥) → DenotesPlain a b ns ps (node_view nd) ms m → DenotesEnds a b env ns ps (node_view nd) ms m
plain_ends a b env ns ps nd ms m c x ends number at formed placed =
    ends (subst HasNoConstructor (sym (view_row nd (out-Node nd).row refl)) (no_constructor (out-Node nd).row c x)) env number at formed placed

-- t
pub con_ends : (a b : Parts) (env : List Entry) (ns : List Name) (ps : List ℕ) (t : Tree) (ms : List ℕ) (m : ℕ) → row_of t ≡ tcon_row → DenotesName a b env ns ps (path_of (path_in t 0 1)) ms m → DenotesEnds a b env ns ps t ms m
con_ends a b env ns ps t ms m row ends number at formed placed = ends_as a b env ns ps t tcon_row number at ms m row (ends [] (number_of a.item number))

-- t u, (t, t) u
pub app_ends : (a b : Parts) (env : List Entry) (ns : List Name) (ps : List ℕ) (t : Tree) (ms : List ℕ) (m : ℕ) → row_of t ≡ tapp_row → DenotesName a b env ns ps (path_of (path_in t 1 2)) ms m → DenotesEnds a b env ns ps t ms m
app_ends a b env ns ps t ms m row ends number at formed placed = ends_as a b env ns ps t tapp_row number at ms m row (ends (type_of a.item (filled_in number t 0)).grouped (number_of a.item number))
