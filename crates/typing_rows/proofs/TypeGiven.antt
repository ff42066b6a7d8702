-- What stands in front of a constructor: several type expressions in parentheses, or one.
use Rattle.std.proofs.Common.{◌≡◌, ◌∙◌, ◌++◌, ℕ, List, [], ◌∷◌, refl, sym, ap, append-nil}
use Rattle.tree_model.specs.Rows.{Row, tvar_row, tparen_row}
use Rattle.tree_model.specs.Trees.{Place, Tree, inner}
use Rattle.token_model.specs.Kinds.{Tok}
use Rattle.std.specs.Prelude.{Option, Some, None}
use Rattle.row_parts.specs.Numbered.{Numbered, numbered, operands_in}
use Rattle.typing_model.specs.Contexts.{Context, tell}
use Rattle.typing_model.specs.Parts as parts
use Rattle.typing_model.specs.Parts.{TypeExpression, Child}
use Rattle.typing_model.specs.TypeExpressions.{type_row, tvar, tparen, read_all, nodes_of}
use Rattle.operand_laws.specs.Formed.{row_of, IsFormed}
use Rattle.operand_laws.specs.Operands.{number_of, parts_of, type_of}
use Rattle.operand_laws.proofs.Sorts.{type_by_row}
use Rattle.typing_rows.specs.Rows.{row_type, types_read}
use Rattle.typing_rows.proofs.TypeTerms.{paren_term}

-- a type expression that is given as itself alone
pub record IsAlone (t : TypeExpression) : Type 0 where
  pub grouped : t.grouped ≡ t.node ∷ []
  pub read : (c : Context) → t.grouped_read c ≡ t.read c

-- a type variable that may be missing
var_alone : (n : ℕ) (at : Place) (o : Option Tok) → IsAlone (tvar n at o)
var_alone n at None = record { grouped = refl; read = λ c. refl }
var_alone n at (Some t) = record { grouped = refl; read = λ c. refl }

-- at most one type in parentheses
paren_alone : (n : ℕ) (at : Place) (ts : List TypeExpression) → ((t u : TypeExpression) (us : List TypeExpression) → ts ≡ t ∷ u ∷ us → ⊥) → IsAlone (tparen n at ts)
paren_alone n at [] few = record { grouped = refl; read = λ c. refl }
paren_alone n at (t ∷ []) few = record { grouped = refl; read = λ c. refl }
paren_alone n at (t ∷ u ∷ us) few = absurd (few t u us refl)

row_alone : (r : Row) (n : ℕ) (at : Place) (cs : List Child) → (r ≡ tparen_row → ⊥) → IsAlone (type_row r n at cs)
unfolding type_row
row_alone tvar_row n at cs other = var_alone n at (parts.token_in 0 cs)
row_alone tparen_row n at cs other = absurd (other refl)
row_alone _ n at cs other = record { grouped = refl; read = λ c. refl }

-- a node that isn't in parentheses
pub node_alone : (i n : ℕ) (at : Place) (t : Tree) → (row_of t ≡ tparen_row → ⊥) → IsAlone (row_type i n at t)
node_alone i n at t other = row_alone (row_of t) (number_of i n) at (parts_of i n t) other

-- several type expressions in parentheses are given one by one
pub several_given : (i n : ℕ) (at : Place) (t : Tree) (x y : Numbered) (os : List Numbered) → IsFormed n t → row_of t ≡ tparen_row → operands_in n t 1 ≡ x ∷ y ∷ os →
    ((type_of i (numbered n at (inner t))).grouped ≡ nodes_of (types_read i (x ∷ y ∷ os))) × ((c : Context) → (type_of i (numbered n at (inner t))).grouped_read c ≡ tell (number_of i n) c ++ read_all c (types_read i (x ∷ y ∷ os)))
several_given i n at t x y os formed row several =
    let here = type_by_row i n at t in
    let term = paren_term i n at t formed row ∙ ap (λ zs. tparen (number_of i n) at (types_read i zs)) several in (
      ap (λ e. e.grouped) here ∙ ap (λ e. e.grouped) term,
      λ c. ap (λ e. e.grouped_read c) here ∙ ap (λ e. tell (number_of i n) c ++ e.grouped_read c) term ∙ ap (λ cs. tell (number_of i n) c ++ cs) (append-nil (read_all c (types_read i (x ∷ y ∷ os)))),
    )

-- another type expression is given as itself
pub alone_given : (i n : ℕ) (at : Place) (t : Tree) → IsAlone (row_type i n at t) → IsAlone (type_of i (numbered n at (inner t)))
alone_given i n at t h =
    let here = type_by_row i n at t in
    record {
      grouped = ap (λ e. e.grouped) here ∙ h.grouped ∙ sym (ap (λ e. e.node ∷ []) here);
      read = λ c. ap (λ e. e.grouped_read c) here ∙ ap (λ cs. tell (number_of i n) c ++ cs) (h.read c) ∙ sym (ap (λ e. e.read c) here);
    }

-- so it is in parentheses with at most one type
pub few_alone : (i n : ℕ) (at : Place) (t : Tree) → IsFormed n t → row_of t ≡ tparen_row → ((x y : Numbered) (os : List Numbered) → operands_in n t 1 ≡ x ∷ y ∷ os → ⊥) → IsAlone (row_type i n at t)
few_alone i n at t formed row few = subst_alone (sym (paren_term i n at t formed row)) (paren_alone (number_of i n) at (types_read i (operands_in n t 1)) (by (operands_in n t 1) few))
  where
    subst_alone : {x y : TypeExpression} → x ≡ y → IsAlone x → IsAlone y
    subst_alone e h = record { grouped = ap (λ z. z.grouped) (sym e) ∙ h.grouped ∙ ap (λ z. z.node ∷ []) e; read = λ c. ap (λ z. z.grouped_read c) (sym e) ∙ h.read c ∙ ap (λ z. z.read c) e }

    by : (os : List Numbered) → ((x y : Numbered) (us : List Numbered) → os ≡ x ∷ y ∷ us → ⊥) → (t u : TypeExpression) (us : List TypeExpression) → types_read i os ≡ t ∷ u ∷ us → ⊥
    by [] h t u us e = cc
    by (x ∷ []) h t u us e = cc
    by (x ∷ y ∷ os) h t u us e = h x y os refl
