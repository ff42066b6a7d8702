-- The rows of type expressions, as the definitions take them, over the operands of the code.
use Rattle.std.proofs.Common.{◌≡◌, ◌∙◌, ◌++◌, ℕ, true, List, [], ◌∷◌, refl, sym, ap, append-nil}
use Rattle.std.specs.List.{flat_map}
use Rattle.tree_model.specs.Rows.{Row, tvar_row, tcon_row, tparen_row, tapp_row, ttuple_row, tarrow_row}
use Rattle.tree_model.specs.Slots.{is_operand, operand_slots}
use Rattle.tree_model.specs.Trees.{Place, Tree, inner}
use Rattle.row_parts.specs.Numbered.{Numbered, numbered, operands_in, all_operands, filled_in, token_in, path_in}
use Rattle.typing_model.specs.Contexts.{Context, tell}
use Rattle.typing_model.specs.Parts as parts
use Rattle.typing_model.specs.Parts.{Child, types_in, type_in}
use Rattle.typing_model.specs.TypeExpressions.{type_row, read_all, tvar, tcon, tparen, tapp, ttuple, tarrow}
use Rattle.operand_laws.specs.Formed.{row_of, is_needed, may_repeat, IsFormed}
use Rattle.operand_laws.specs.Operands.{number_of, parts_of, type_of, path_of}
use Rattle.operand_laws.proofs.Sorts.{types_stand, type_stands, type_by_row}
use Rattle.operand_laws.proofs.SlotBySlot.{all_in_order}
use Rattle.operand_laws.proofs.Tokens.{token_stands, path_stands}
use Rattle.typing_rows.proofs.Terms.{two_operands}
use Rattle.typing_rows.specs.Rows.{row_type, types_read, front_asks, end_asks}

-- a row in the place of the node's
as_row : (i n : ℕ) (at : Place) (t : Tree) (r : Row) → row_of t ≡ r → row_type i n at t ≡ type_row r (number_of i n) at (parts_of i n t)
as_row i n at t r row = ap (λ q. type_row q (number_of i n) at (parts_of i n t)) row

-- a list of lists of operands as type expressions
both_lists : (i : ℕ) (xs ys : List Numbered) → types_read i (xs ++ ys) ≡ types_read i xs ++ types_read i ys
both_lists i [] ys = refl
both_lists i (x ∷ xs) ys = ap (λ ts. type_of i x ∷ ts) (both_lists i xs ys)

-- operands of a node that is well formed
module _ (i n : ℕ) (t : Tree) (formed : IsFormed n t) where
  one : (r : Row) (s : ℕ) → row_of t ≡ r → is_operand r s ≡ true → is_needed r s ≡ true → type_in s (parts_of i n t) ≡ type_of i (filled_in n t s)
  one r s row takes needs = type_stands i n t s formed (ap (λ q. is_operand q s) row ∙ takes) (ap (λ q. is_needed q s) row ∙ needs)

  several : (r : Row) (s : ℕ) → row_of t ≡ r → is_operand r s ≡ true → types_in s (parts_of i n t) ≡ types_read i (operands_in n t s)
  several r s row takes = types_stand i n t s formed (ap (λ q. is_operand q s) row ∙ takes)

  all_of : (r : Row) → row_of t ≡ r → all_operands n t ≡ flat_map (operands_in n t) (operand_slots r)
  all_of r row = all_in_order n t formed ∙ ap (λ q. flat_map (operands_in n t) (operand_slots q)) row

-- the two sides of an arrow
pub arrow_sides : (n : ℕ) (t : Tree) → IsFormed n t → row_of t ≡ tarrow_row → all_operands n t ≡ filled_in n t 0 ∷ filled_in n t 2 ∷ []
unfolding is_operand is_needed may_repeat
arrow_sides n t formed row = two_operands n t tarrow_row 0 2 formed row refl refl refl refl refl refl refl

-- 'a
var_term : (i n : ℕ) (at : Place) (t : Tree) → row_of t ≡ tvar_row → row_type i n at t ≡ tvar (number_of i n) at (token_in t 0)
unfolding type_row
var_term i n at t row = as_row i n at t tvar_row row ∙ ap (λ o. tvar (number_of i n) at o) (token_stands i n t 0)

-- t
con_term : (i n : ℕ) (at : Place) (t : Tree) → row_of t ≡ tcon_row → row_type i n at t ≡ tcon (number_of i n) at (path_of (path_in t 0 1))
unfolding type_row
con_term i n at t row = as_row i n at t tcon_row row ∙ ap (λ p. tcon (number_of i n) at p) (path_stands i n t 0 1)

-- ( t ), ( t, t )
pub paren_term : (i n : ℕ) (at : Place) (t : Tree) → IsFormed n t → row_of t ≡ tparen_row → row_type i n at t ≡ tparen (number_of i n) at (types_read i (operands_in n t 1))
unfolding type_row is_operand
paren_term i n at t formed row = as_row i n at t tparen_row row ∙ ap (λ ts. tparen (number_of i n) at ts) (several i n t formed tparen_row 1 row refl)

-- t u, (t, t) u
app_term : (i n : ℕ) (at : Place) (t : Tree) → IsFormed n t → row_of t ≡ tapp_row → row_type i n at t ≡ tapp (number_of i n) at (type_of i (filled_in n t 0)) (path_of (path_in t 1 2))
unfolding type_row is_operand is_needed
app_term i n at t formed row =
    as_row i n at t tapp_row row ∙ ap (λ l. tapp (number_of i n) at l (parts.path_in 1 2 (parts_of i n t))) (one i n t formed tapp_row 0 row refl refl) ∙
    ap (λ p. tapp (number_of i n) at (type_of i (filled_in n t 0)) p) (path_stands i n t 1 2)

-- t * t
tuple_term : (i n : ℕ) (at : Place) (t : Tree) → IsFormed n t → row_of t ≡ ttuple_row → row_type i n at t ≡ ttuple (number_of i n) at (types_read i (all_operands n t))
unfolding type_row is_operand
tuple_term i n at t formed row =
    as_row i n at t ttuple_row row ∙ (λ k. ttuple (number_of i n) at (several i n t formed ttuple_row 0 row refl k ++ several i n t formed ttuple_row 2 row refl k)) ∙
    ap (λ ts. ttuple (number_of i n) at ts)
    (ap (λ os. types_read i (operands_in n t 0) ++ types_read i os) (sym (append-nil (operands_in n t 2))) ∙ sym (both_lists i (operands_in n t 0) (operands_in n t 2 ++ [])) ∙ ap (types_read i) (sym (all_of i n t formed ttuple_row row)))

-- t -> t
arrow_term : (i n : ℕ) (at : Place) (t : Tree) → IsFormed n t → row_of t ≡ tarrow_row → row_type i n at t ≡ tarrow (number_of i n) at (type_of i (filled_in n t 0)) (type_of i (filled_in n t 2))
unfolding type_row is_operand is_needed
arrow_term i n at t formed row =
    as_row i n at t tarrow_row row ∙ ap (λ x. tarrow (number_of i n) at x (type_in 2 (parts_of i n t))) (one i n t formed tarrow_row 0 row refl refl) ∙
    ap (λ x. tarrow (number_of i n) at (type_of i (filled_in n t 0)) x) (one i n t formed tarrow_row 2 row refl refl)

-- what an arrow asks, over its two sides
arrow_asks : (i n : ℕ) (at : Place) (t : Tree) (c : Context) → IsFormed n t → row_of t ≡ tarrow_row → front_asks tarrow_row i n t c ++ end_asks tarrow_row i n at t c ≡ (tarrow (number_of i n) at (type_of i (filled_in n t 0)) (type_of i (filled_in n t 2))).read c
arrow_asks i n at t c formed row =
    let x = type_of i (filled_in n t 0) in
    let y = type_of i (filled_in n t 2) in
    let e = end_asks tarrow_row i n at t c in
    ap (λ os. read_all c (types_read i os) ++ e) (arrow_sides n t formed row) ∙ ap (λ cs. (x.read c ++ cs) ++ e) (append-nil (y.read c))

-- a row that is no type expression's
abbrev pub IsNoType : Row → Type 0
IsNoType tvar_row = ⊥
IsNoType tcon_row = ⊥
IsNoType tparen_row = ⊥
IsNoType tapp_row = ⊥
IsNoType ttuple_row = ⊥
IsNoType tarrow_row = ⊥
IsNoType _ = Unit {0}

-- one of the rows of type expressions, or another one
pub data TypeRow (r : Row) : Type 0 where
  a_variable : r ≡ tvar_row → TypeRow r
  a_constructor : r ≡ tcon_row → TypeRow r
  in_parentheses : r ≡ tparen_row → TypeRow r
  an_application : r ≡ tapp_row → TypeRow r
  a_tuple : r ≡ ttuple_row → TypeRow r
  an_arrow : r ≡ tarrow_row → TypeRow r
  another : IsNoType r → TypeRow r

-- which one a row is
pub type_row_is : (r : Row) → TypeRow r
type_row_is tvar_row = a_variable refl
type_row_is tcon_row = a_constructor refl
type_row_is tparen_row = in_parentheses refl
type_row_is tapp_row = an_application refl
type_row_is ttuple_row = a_tuple refl
type_row_is tarrow_row = an_arrow refl
type_row_is _ = another tt

no_row : (r : Row) (i n : ℕ) (at : Place) (t : Tree) (c : Context) (cs : List Child) → IsNoType r → front_asks r i n t c ++ end_asks r i n at t c ≡ (type_row r (number_of i n) at cs).read c
unfolding type_row
no_row tvar_row i n at t c cs h = absurd h
no_row tcon_row i n at t c cs h = absurd h
no_row tparen_row i n at t c cs h = absurd h
no_row tapp_row i n at t c cs h = absurd h
no_row ttuple_row i n at t c cs h = absurd h
no_row tarrow_row i n at t c cs h = absurd h
no_row _ i n at t c cs h = refl

-- What a row asks for its parts and at its end is what the definitions ask.
pub row_term : (i n : ℕ) (at : Place) (t : Tree) → IsFormed n t → (c : Context) → front_asks (row_of t) i n t c ++ end_asks (row_of t) i n at t c ≡ (row_type i n at t).read c
row_term i n at t formed c = by (type_row_is (row_of t))
  where
    with_row : (r : Row) → row_of t ≡ r → front_asks (row_of t) i n t c ++ end_asks (row_of t) i n at t c ≡ front_asks r i n t c ++ end_asks r i n at t c
    with_row r row = ap (λ q. front_asks q i n t c ++ end_asks q i n at t c) row

    by : TypeRow (row_of t) → front_asks (row_of t) i n t c ++ end_asks (row_of t) i n at t c ≡ (row_type i n at t).read c
    by (a_variable row) = with_row tvar_row row ∙ ap (λ x. x.read c) (sym (var_term i n at t row))
    by (a_constructor row) = with_row tcon_row row ∙ ap (λ x. x.read c) (sym (con_term i n at t row))
    by (in_parentheses row) = with_row tparen_row row ∙ ap (λ x. x.read c) (sym (paren_term i n at t formed row))
    by (an_application row) = with_row tapp_row row ∙ ap (λ x. x.read c) (sym (app_term i n at t formed row))
    by (a_tuple row) = with_row ttuple_row row ∙ ap (λ x. x.read c) (sym (tuple_term i n at t formed row))
    by (an_arrow row) = with_row tarrow_row row ∙ arrow_asks i n at t c formed row ∙ ap (λ x. x.read c) (sym (arrow_term i n at t formed row))
    by (another h) = no_row (row_of t) i n at t c (parts_of i n t) h

-- a node as a type expression, by its row
pub node_term : (i n : ℕ) (at : Place) (t : Tree) → IsFormed n t → (c : Context) → tell (number_of i n) c ++ (front_asks (row_of t) i n t c ++ end_asks (row_of t) i n at t c) ≡ (type_of i (numbered n at (inner t))).read c
node_term i n at t formed c = ap (λ cs. tell (number_of i n) c ++ cs) (row_term i n at t formed c) ∙ ap (λ x. x.read c) (sym (type_by_row i n at t))
