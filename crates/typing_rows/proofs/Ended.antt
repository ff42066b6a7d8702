-- The end of a node of a type expression, by its row.
use Rattle.std.proofs.Common.{◌≡◌, ◌∙◌, ℕ, List, [], ◌∷◌, refl, sym, ap, subst}
use Rattle.std.specs.Prelude.{All, Option}
use Rattle.token_model.specs.Kinds.{Tok}
use Rattle.tree_model.specs.Rows.{Row, tvar_row, tcon_row, tparen_row, tapp_row, ttuple_row, tarrow_row}
use Rattle.tree_model.specs.Trees.{Place, Tree, inner}
use Rattle.syntax_tree.specs.declared.rows.RowName.{RowName}
use Rattle.syntax_tree.specs.declared.rows.RowName.TheVariants as name
use Rattle.syntax_tree.specs.Names as names
use Rattle.syntax_tree.specs.View.{node_view, place_of}
use Rattle.syntax_tree.proofs.Views.{node_view_parts}
use Rattle.syntax_tree.specs.declared.tree.Node.{Node, out-Node}
use Rattle.row_parts.specs.Numbered.{operands_in, all_operands, filled_in, token_in, path_in}
use Rattle.typing_model.specs.Contexts.{Context, unresolved}
use Rattle.typing_model.specs.TypeExpressions.{nodes_of}
use Rattle.type_nodes.specs.Nodes.{Tuple, IsNode}
use Rattle.type_nodes.specs.Changes.{Makes}
use Rattle.env_table.specs.declared.entries.Entry.{Entry}
use Rattle.typing_state.specs.declared.parts.Parts.{Parts}
use Rattle.typing_state.specs.Goes.{OnlyStore}
use Rattle.typing_state.specs.Types.{MakesVar, any_scope}
use Rattle.typing_conditions.specs.Sights.{Letters}
use Rattle.typing_conditions.specs.Frames.{Frame}
use Rattle.typing_conditions.specs.Meanings.{AllMean, none_mean, one_means}
use Rattle.typing_steps.specs.States.{sight}
use Rattle.operand_laws.specs.Formed.{row_of}
use Rattle.operand_laws.specs.Operands.{number_of, type_of, path_of}
use Rattle.typing_rows.specs.TypeContracts.{types_at, EndsRead}
use Rattle.typing_rows.specs.Rows.{types_read, front_nodes, end_asks}
use Rattle.typing_rows.specs.Operands.{IsPartPlaced, EndsRow, ReadsVariable, EndsName, EndsParentheses, MakesArrowOver, HasNoConstructor, EndsPlainRow}
use Rattle.typing_rows.proofs.TypeTerms.{IsNoType, arrow_sides}
use Rattle.typing_rows.proofs.Reading.{read_as}
use Rattle.typing_rows.proofs.Composed.{ends_tuple, ends_arrow, ends_other, ends_alone}

-- the row of a node of the code
pub view_row : (nd : Node) (r : RowName) → (out-Node nd).row ≡ r → row_of (node_view nd) ≡ names.row_of r
view_row nd r e = ap row_of (node_view_parts nd) ∙ ap names.row_of e

-- and its place
pub view_place : (nd : Node) (at : Place) → IsPartPlaced at (inner (node_view nd)) → at ≡ place_of (out-Node nd).span
view_place nd at h = subst (λ t. IsPartPlaced at (inner t)) (node_view_parts nd) h

-- a row in the place of the node's
ends_as : (a b : Parts) (env : List Entry) (t : Tree) (r : Row) (number : ℕ) (at : Place) (ms : List ℕ) (m : ℕ) → row_of t ≡ r → EndsRead a b env (λ c. end_asks r a.item number at t c) (front_nodes r a.item number t) ms (number_of a.item number) m →
    EndsRead a b env (λ c. end_asks (row_of t) a.item number at t c) (front_nodes (row_of t) a.item number t) ms (number_of a.item number) m
ends_as a b env t r number at ms m row h = subst (λ q. EndsRead a b env (λ c. end_asks q a.item number at t c) (front_nodes q a.item number t) ms (number_of a.item number) m) (sym row) h

-- 'a
pub var_ends : (a b : Parts) (t : Tree) (o : Option Tok) (ms : List ℕ) (m : ℕ) → row_of t ≡ tvar_row → o ≡ token_in t 0 → ReadsVariable a b o m → EndsPlainRow a b t ms m
var_ends a b t o ms m row there read plain env number at formed placed =
    ends_as a b env t tvar_row number at ms m row (ends_alone a b env (λ c. end_asks tvar_row a.item number at t c) [] ms (number_of a.item number) m ((subst (λ x. ReadsVariable a b x m) there read) env (number_of a.item number) at))

-- ( t ), ( t, t )
pub paren_ends : (a b : Parts) (nd : Node) (ms : List ℕ) (m : ℕ) → row_of (node_view nd) ≡ tparen_row → EndsParentheses a b (place_of (out-Node nd).span) ms m → EndsPlainRow a b (node_view nd) ms m
paren_ends a b nd ms m row ends plain env number at formed placed =
    ends_as a b env (node_view nd) tparen_row number at ms m row ((subst (λ p. EndsParentheses a b p ms m) (sym (view_place nd at placed)) ends) env (number_of a.item number) (types_read a.item (operands_in number (node_view nd) 1)))

-- t * t
pub tuple_ends : (a b : Parts) (t : Tree) (ms : List ℕ) (m : ℕ) → row_of t ≡ ttuple_row → (All (IsNode a.store.nodes) ms → Makes a.store b.store m (Tuple ms)) → OnlyStore a b → EndsPlainRow a b t ms m
tuple_ends a b t ms m row made rest plain env number at formed placed =
    ends_as a b env t ttuple_row number at ms m row (ends_tuple a b env (nodes_of (types_read a.item (all_operands number t))) ms (number_of a.item number) m made rest)

-- t -> t
pub arrow_ends : (a b : Parts) (t : Tree) (ms : List ℕ) (m : ℕ) → row_of t ≡ tarrow_row → MakesArrowOver a b ms m → EndsPlainRow a b t ms m
arrow_ends a b t ms m row made plain env number at formed placed =
    ends_as a b env t tarrow_row number at ms m row (subst (λ os. EndsRead a b env (λ c. end_asks tarrow_row a.item number at t c) (nodes_of (types_read a.item os)) ms (number_of a.item number) m) (sym (arrow_sides number t formed row)) (by ms made))
  where
    left : ℕ
    left = (type_of a.item (filled_in number t 0)).node

    right : ℕ
    right = (type_of a.item (filled_in number t 2)).node

    by : (ms : List ℕ) → MakesArrowOver a b ms m → EndsRead a b env (λ c. end_asks tarrow_row a.item number at t c) (left ∷ right ∷ []) ms (number_of a.item number) m
    by [] h = λ aloud F scope G s all. elim all [ ]
    by (x ∷ []) h = λ aloud F scope G s all. absurd (few all)
      where
        few : {F : Frame} {G : Letters} → AllMean F (sight a) G (types_at (left ∷ right ∷ [])) (x ∷ []) → ⊥
        few {F = F} {G = G} (one_means p ps) = elim ps [ ]
    by (x ∷ y ∷ []) h = ends_arrow a b env left right x y (number_of a.item number) m h.0 h.1
    by (x ∷ y ∷ z ∷ zs) h = λ aloud F scope G s all. absurd (many all)
      where
        many : {F : Frame} {G : Letters} → AllMean F (sight a) G (types_at (left ∷ right ∷ [])) (x ∷ y ∷ z ∷ zs) → ⊥
        many {F = F} {G = G} (one_means p (one_means q qs)) = elim qs [ ]

no_end : (r : Row) (i n : ℕ) (at : Place) (t : Tree) (c : Context) → IsNoType r → unresolved c (number_of i n) ≡ end_asks r i n at t c
no_end tvar_row i n at t c h = absurd h
no_end tcon_row i n at t c h = absurd h
no_end tparen_row i n at t c h = absurd h
no_end tapp_row i n at t c h = absurd h
no_end ttuple_row i n at t c h = absurd h
no_end tarrow_row i n at t c h = absurd h
no_end _ i n at t c h = refl

-- the row of the code is none of type expressions
no_type : (r : RowName) → (r ≡ name.Tvar → ⊥) → (r ≡ name.Tparen → ⊥) → (r ≡ name.Ttuple → ⊥) → (r ≡ name.Tarrow → ⊥) → HasNoConstructor (names.row_of r) → IsNoType (names.row_of r)
unfolding names.row_of
no_type name.Tvar v p t a h = absurd (v refl)
no_type name.Tparen v p t a h = absurd (p refl)
no_type name.Ttuple v p t a h = absurd (t refl)
no_type name.Tarrow v p t a h = absurd (a refl)
no_type name.Tcon v p t a h = absurd h
no_type name.Tapp v p t a h = absurd h
no_type _ v p t a h = tt

-- another row, which is no type expression
pub other_ends : (a b : Parts) (nd : Node) (ms : List ℕ) (m : ℕ) → ((out-Node nd).row ≡ name.Tvar → ⊥) → ((out-Node nd).row ≡ name.Tparen → ⊥) → ((out-Node nd).row ≡ name.Ttuple → ⊥) → ((out-Node nd).row ≡ name.Tarrow → ⊥) → MakesVar a b m any_scope → OnlyStore a b →
    EndsPlainRow a b (node_view nd) ms m
other_ends a b nd ms m v p t x made rest plain env number at formed placed = λ aloud F scope G s all.
    let row = view_row nd (out-Node nd).row refl in
    let none = subst IsNoType (sym row) (no_type (out-Node nd).row v p t x (subst HasNoConstructor row plain)) in
    let y = ends_other a b env [] [] (number_of a.item number) m made rest aloud F scope G s none_mean in
    read_as (λ c. no_end (row_of (node_view nd)) a.item number at (node_view nd) c none) y

no_constructor : (r : RowName) → (r ≡ name.Tcon → ⊥) → (r ≡ name.Tapp → ⊥) → HasNoConstructor (names.row_of r)
unfolding names.row_of
no_constructor name.Tcon c a = absurd (c refl)
no_constructor name.Tapp c a = absurd (a refl)
no_constructor _ c a = tt

-- a node without a constructor
pub plain_ends : (a b : Parts) (env : List Entry) (nd : Node) (ms : List ℕ) (m : ℕ) → ((out-Node nd).row ≡ name.Tcon → ⊥) → ((out-Node nd).row ≡ name.Tapp → ⊥) → EndsPlainRow a b (node_view nd) ms m → EndsRow a b env (node_view nd) ms m
plain_ends a b env nd ms m c x ends number at formed placed =
    ends (subst HasNoConstructor (sym (view_row nd (out-Node nd).row refl)) (no_constructor (out-Node nd).row c x)) env number at formed placed

-- t
pub con_ends : (a b : Parts) (env : List Entry) (t : Tree) (ms : List ℕ) (m : ℕ) → row_of t ≡ tcon_row → EndsName a b env (path_of (path_in t 0 1)) ms m → EndsRow a b env t ms m
con_ends a b env t ms m row ends number at formed placed = ends_as a b env t tcon_row number at ms m row (ends [] (number_of a.item number))

-- t u, (t, t) u
pub app_ends : (a b : Parts) (env : List Entry) (t : Tree) (ms : List ℕ) (m : ℕ) → row_of t ≡ tapp_row → EndsName a b env (path_of (path_in t 1 2)) ms m → EndsRow a b env t ms m
app_ends a b env t ms m row ends number at formed placed = ends_as a b env t tapp_row number at ms m row (ends (type_of a.item (filled_in number t 0)).grouped (number_of a.item number))
