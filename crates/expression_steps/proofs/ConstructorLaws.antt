-- Which leaves are constructors, in the code and in the definitions.
use Rattle.std.proofs.Common.{◌≡◌, ℕ, Bool, false, List, Some, None, refl, sym, subst}
use Rattle.tree_model.specs.Rows.{Row, econ_row, epath_row}
use Rattle.tree_model.specs.Trees.{Place, Tree, node}
use Rattle.row_parts.specs.Numbered.{Written, token_in, path_in}
use Rattle.typing_model.specs.Patterns.{constructor_alone}
use Rattle.env_table.specs.declared.entries.Entry.{Entry}
use Rattle.typing_state.specs.declared.parts.Parts.{Parts}
use Rattle.typing_steps.specs.Typing.{TypesRow}
use Rattle.operand_laws.specs.Operands.{number_of, path_of}
use Rattle.typing_rows.specs.CarriedRows.{names_constructor}
use Rattle.typing_rows.specs.Asked.{under_minus, row_expression}
use Rattle.typing_rows.proofs.Constructed.{constructor_row, constructor_path_row}
use Rattle.value_forms.specs.Heads.{row_at, constructor_in}
use Rattle.value_forms.proofs.ConstructorLaws.{one_written, path_unnamed, path_named}

-- what isn't there is no path to a constructor
pub no_upper : (t : Tree) → row_at t ≡ epath_row → constructor_in (row_at t) t ≡ None → names_constructor (token_in t 1) ≡ false
no_upper t row none = path_unnamed (path_in t 0 1) (subst (λ r. constructor_in r t ≡ None) row none)

-- a constructor alone: A, M.A
pub leaf_constructor : (a b : Parts) (env : List Entry) (i n : ℕ) (at : Place) (t : Tree) (negated : Bool) (m : ℕ) (p : Written) → constructor_in (row_at t) t ≡ Some p → TypesRow a b env (λ c. constructor_alone c (number_of i n) (path_of p)) (number_of i n) m →
    TypesRow a b env (λ c. (under_minus negated (row_expression i n at t)).typed c) (number_of i n) m
leaf_constructor a b env i n at (node r x ps) negated m p is typed = by r refl is
  where
    by : (q : Row) → r ≡ q → constructor_in q (node r x ps) ≡ Some p → TypesRow a b env (λ c. (under_minus negated (row_expression i n at (node r x ps))).typed c) (number_of i n) m
    by econ_row row e =
        constructor_row a b env i n at (node r x ps) negated m row
        (subst (λ w. TypesRow a b env (λ c. constructor_alone c (number_of i n) (path_of w)) (number_of i n) m) (sym (one_written (path_in (node r x ps) 9 0) p e)) typed)
    by epath_row row e =
        let named = path_named (path_in (node r x ps) 0 1) p e in
        constructor_path_row a b env i n at (node r x ps) negated m row named.0 (subst (λ w. TypesRow a b env (λ c. constructor_alone c (number_of i n) (path_of w)) (number_of i n) m) (sym named.1) typed)
    by _ row e = absurd (cc)
