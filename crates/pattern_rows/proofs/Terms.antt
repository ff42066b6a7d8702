-- The rows of patterns, as the definitions take them, over the operands of the code.
use Rattle.std.proofs.Common.{◌≡◌, ◌∙◌, ◌++◌, ℕ, true, false, List, [], ◌∷◌, Some, None, option_map, refl, sym, ap, append-nil}
use Rattle.std.specs.List.{flat_map}
use Rattle.tree_model.specs.Rows.{Row, pname_row, pany_row, pconst_row, pneg_row, pcon_row, pparen_row, plist_row, precord_row, papp_row, pcons_row, ptuple_row, por_row, pas_row}
use Rattle.tree_model.specs.Slots.{is_operand, operand_slots}
use Rattle.tree_model.specs.Trees.{Place, Tree}
use Rattle.row_parts.specs.Numbered.{Numbered, operands_in, all_operands, first_in, filled_in, token_in, path_in}
use Rattle.typing_model.specs.Parts as parts
use Rattle.typing_model.specs.Parts.{Child, patterns_in, pattern_in, types_in, no_pattern_at}
use Rattle.typing_model.specs.Patterns.{pattern_row, over, pname, pconst, pneg, pcon, papp, pparen, plist, pcons, ptuple, por, pas}
use Rattle.operand_laws.specs.Formed.{row_of, is_needed, may_repeat, IsFormed}
use Rattle.operand_laws.specs.Operands.{number_of, parts_of, pattern_of, type_of, path_of}
use Rattle.operand_laws.proofs.Sorts.{pattern_stands, patterns_stand, first_type_stands}
use Rattle.operand_laws.proofs.SlotBySlot.{all_in_order, exactly_one}
use Rattle.operand_laws.proofs.Tokens.{token_stands, path_stands}
use Rattle.pattern_rows.specs.Contracts.{row_pattern, patterns_of}

-- a row in the place of the node's
as_row : (i n : ℕ) (at : Place) (t : Tree) (r : Row) → row_of t ≡ r → row_pattern i n at t ≡ pattern_row r (number_of i n) at (parts_of i n t)
as_row i n at t r row = ap (λ q. pattern_row q (number_of i n) at (parts_of i n t)) row

-- operands of a node that is well formed
module _ (i n : ℕ) (t : Tree) (formed : IsFormed n t) where
  one : (r : Row) (s : ℕ) → row_of t ≡ r → is_operand r s ≡ true → is_needed r s ≡ true → pattern_in s (parts_of i n t) ≡ pattern_of i (filled_in n t s)
  one r s row takes needs = pattern_stands i n t s formed (ap (λ q. is_operand q s) row ∙ takes) (ap (λ q. is_needed q s) row ∙ needs)

  several : (r : Row) (s : ℕ) → row_of t ≡ r → is_operand r s ≡ true → patterns_in s (parts_of i n t) ≡ patterns_of i (operands_in n t s)
  several r s row takes = patterns_stand i n t s formed (ap (λ q. is_operand q s) row ∙ takes)

  all_of : (r : Row) → row_of t ≡ r → all_operands n t ≡ flat_map (operands_in n t) (operand_slots r)
  all_of r row = all_in_order n t formed ∙ ap (λ q. flat_map (operands_in n t) (operand_slots q)) row

-- a list of lists of operands as patterns
both_lists : (i : ℕ) (xs ys : List Numbered) → patterns_of i (xs ++ ys) ≡ patterns_of i xs ++ patterns_of i ys
both_lists i [] ys = refl
both_lists i (x ∷ xs) ys = ap (λ ps. pattern_of i x ∷ ps) (both_lists i xs ys)

-- the operands of a row with one slot, which is needed
pub one_operand : (n : ℕ) (t : Tree) (r : Row) (s : ℕ) → IsFormed n t → row_of t ≡ r → operand_slots r ≡ s ∷ [] → is_needed r s ≡ true → may_repeat r s ≡ false → is_operand r s ≡ true → all_operands n t ≡ filled_in n t s ∷ []
one_operand n t r s formed row slots needs once takes =
    all_of 0 n t formed r row ∙ ap (flat_map (operands_in n t)) slots ∙
    ap (λ os. os ++ []) (exactly_one n t s formed (ap (λ q. is_operand q s) row ∙ takes) (ap (λ q. is_needed q s) row ∙ needs) (ap (λ q. may_repeat q s) row ∙ once))

-- x
pub name_term : (i n : ℕ) (at : Place) (t : Tree) → row_of t ≡ pname_row → row_pattern i n at t ≡ pname (number_of i n) at (token_in t 0)
unfolding pattern_row
name_term i n at t row = as_row i n at t pname_row row ∙ ap (λ o. pname (number_of i n) at o) (token_stands i n t 0)

-- _
pub any_term : (i n : ℕ) (at : Place) (t : Tree) → row_of t ≡ pany_row → row_pattern i n at t ≡ over (number_of i n) at [] (λ c. [])
unfolding pattern_row
any_term i n at t row = as_row i n at t pany_row row

-- 1, "a", true
pub constant_term : (i n : ℕ) (at : Place) (t : Tree) → row_of t ≡ pconst_row → row_pattern i n at t ≡ pconst (number_of i n) at (token_in t 0)
unfolding pattern_row
constant_term i n at t row = as_row i n at t pconst_row row ∙ ap (λ o. pconst (number_of i n) at o) (token_stands i n t 0)

-- - 1
pub minus_term : (i n : ℕ) (at : Place) (t : Tree) → row_of t ≡ pneg_row → row_pattern i n at t ≡ pneg (number_of i n) at (token_in t 1)
unfolding pattern_row
minus_term i n at t row = as_row i n at t pneg_row row ∙ ap (λ o. pneg (number_of i n) at o) (token_stands i n t 1)

-- A
pub con_term : (i n : ℕ) (at : Place) (t : Tree) → row_of t ≡ pcon_row → row_pattern i n at t ≡ pcon (number_of i n) at (path_of (path_in t 0 1))
unfolding pattern_row
con_term i n at t row = as_row i n at t pcon_row row ∙ ap (λ p. pcon (number_of i n) at p) (path_stands i n t 0 1)

-- ( p ), where no type is written
pub paren_term : (i n : ℕ) (at : Place) (t : Tree) → IsFormed n t → row_of t ≡ pparen_row → first_in n t 3 ≡ None → row_pattern i n at t ≡ pparen (number_of i n) at (pattern_of i (filled_in n t 1)) None
unfolding pattern_row is_operand is_needed
paren_term i n at t formed row none =
    as_row i n at t pparen_row row ∙ ap (λ p. pparen (number_of i n) at p (parts.first_of (types_in 3 (parts_of i n t)))) (one i n t formed pparen_row 1 row refl refl) ∙
    ap (λ o. pparen (number_of i n) at (pattern_of i (filled_in n t 1)) o) (first_type_stands i n t 3 formed (ap (λ q. is_operand q 3) row) ∙ ap (option_map _) none)

-- ( p : t )
pub written_term : (i n : ℕ) (at : Place) (t : Tree) (o : Numbered) → IsFormed n t → row_of t ≡ pparen_row → first_in n t 3 ≡ Some o → row_pattern i n at t ≡ pparen (number_of i n) at (pattern_of i (filled_in n t 1)) (Some (type_of i o))
unfolding pattern_row is_operand is_needed
written_term i n at t o formed row some =
    as_row i n at t pparen_row row ∙ ap (λ p. pparen (number_of i n) at p (parts.first_of (types_in 3 (parts_of i n t)))) (one i n t formed pparen_row 1 row refl refl) ∙
    ap (λ x. pparen (number_of i n) at (pattern_of i (filled_in n t 1)) x) (first_type_stands i n t 3 formed (ap (λ q. is_operand q 3) row) ∙ ap (option_map (type_of i)) some)

-- [ p; p ]
pub list_term : (i n : ℕ) (at : Place) (t : Tree) → IsFormed n t → row_of t ≡ plist_row → row_pattern i n at t ≡ plist (number_of i n) at (patterns_of i (operands_in n t 1))
unfolding pattern_row is_operand
list_term i n at t formed row = as_row i n at t plist_row row ∙ ap (λ ps. plist (number_of i n) at ps) (several i n t formed plist_row 1 row refl)

-- A p
pub applied_term : (i n : ℕ) (at : Place) (t : Tree) → IsFormed n t → row_of t ≡ papp_row → row_pattern i n at t ≡ papp (number_of i n) at (pattern_of i (filled_in n t 0)) (pattern_of i (filled_in n t 1))
unfolding pattern_row is_operand is_needed
applied_term i n at t formed row =
    as_row i n at t papp_row row ∙ ap (λ p. papp (number_of i n) at p (pattern_in 1 (parts_of i n t))) (one i n t formed papp_row 0 row refl refl) ∙
    ap (λ p. papp (number_of i n) at (pattern_of i (filled_in n t 0)) p) (one i n t formed papp_row 1 row refl refl)

-- p :: p
pub cons_term : (i n : ℕ) (at : Place) (t : Tree) → IsFormed n t → row_of t ≡ pcons_row → row_pattern i n at t ≡ pcons (number_of i n) at (pattern_of i (filled_in n t 0)) (pattern_of i (filled_in n t 2))
unfolding pattern_row is_operand is_needed
cons_term i n at t formed row =
    as_row i n at t pcons_row row ∙ ap (λ p. pcons (number_of i n) at p (pattern_in 2 (parts_of i n t))) (one i n t formed pcons_row 0 row refl refl) ∙
    ap (λ p. pcons (number_of i n) at (pattern_of i (filled_in n t 0)) p) (one i n t formed pcons_row 2 row refl refl)

-- p, p
pub tuple_term : (i n : ℕ) (at : Place) (t : Tree) → IsFormed n t → row_of t ≡ ptuple_row → row_pattern i n at t ≡ ptuple (number_of i n) at (patterns_of i (all_operands n t))
unfolding pattern_row is_operand
tuple_term i n at t formed row =
    as_row i n at t ptuple_row row ∙ (λ k. ptuple (number_of i n) at (several i n t formed ptuple_row 0 row refl k ++ several i n t formed ptuple_row 2 row refl k)) ∙
    ap (λ ps. ptuple (number_of i n) at ps)
    (ap (λ os. patterns_of i (operands_in n t 0) ++ patterns_of i os) (sym (append-nil (operands_in n t 2))) ∙ sym (both_lists i (operands_in n t 0) (operands_in n t 2 ++ [])) ∙ ap (patterns_of i) (sym (all_of i n t formed ptuple_row row)))

-- p | p
pub or_term : (i n : ℕ) (at : Place) (t : Tree) → IsFormed n t → row_of t ≡ por_row → row_pattern i n at t ≡ por (number_of i n) at (pattern_of i (filled_in n t 0)) (patterns_of i (operands_in n t 2))
unfolding pattern_row is_operand is_needed
or_term i n at t formed row =
    as_row i n at t por_row row ∙ ap (λ p. por (number_of i n) at p (patterns_in 2 (parts_of i n t))) (one i n t formed por_row 0 row refl refl) ∙
    ap (λ ps. por (number_of i n) at (pattern_of i (filled_in n t 0)) ps) (several i n t formed por_row 2 row refl)

-- p as x
pub as_term : (i n : ℕ) (at : Place) (t : Tree) → IsFormed n t → row_of t ≡ pas_row → row_pattern i n at t ≡ pas (number_of i n) at (pattern_of i (filled_in n t 0)) (token_in t 2)
unfolding pattern_row is_operand is_needed
as_term i n at t formed row =
    as_row i n at t pas_row row ∙ ap (λ p. pas (number_of i n) at p (parts.token_in 2 (parts_of i n t))) (one i n t formed pas_row 0 row refl refl) ∙
    ap (λ o. pas (number_of i n) at (pattern_of i (filled_in n t 0)) o) (token_stands i n t 2)

-- a row that is no pattern's
abbrev pub IsNoPattern : Row → Type 0
IsNoPattern pname_row = ⊥
IsNoPattern pany_row = ⊥
IsNoPattern pconst_row = ⊥
IsNoPattern pneg_row = ⊥
IsNoPattern pcon_row = ⊥
IsNoPattern pparen_row = ⊥
IsNoPattern plist_row = ⊥
IsNoPattern precord_row = ⊥
IsNoPattern papp_row = ⊥
IsNoPattern pcons_row = ⊥
IsNoPattern ptuple_row = ⊥
IsNoPattern por_row = ⊥
IsNoPattern pas_row = ⊥
IsNoPattern _ = Unit {0}

no_row : (r : Row) (n : ℕ) (at : Place) (cs : List Child) → IsNoPattern r → pattern_row r n at cs ≡ no_pattern_at n at
unfolding pattern_row
no_row pname_row n at cs h = absurd h
no_row pany_row n at cs h = absurd h
no_row pconst_row n at cs h = absurd h
no_row pneg_row n at cs h = absurd h
no_row pcon_row n at cs h = absurd h
no_row pparen_row n at cs h = absurd h
no_row plist_row n at cs h = absurd h
no_row precord_row n at cs h = absurd h
no_row papp_row n at cs h = absurd h
no_row pcons_row n at cs h = absurd h
no_row ptuple_row n at cs h = absurd h
no_row por_row n at cs h = absurd h
no_row pas_row n at cs h = absurd h
no_row _ n at cs h = refl

-- such a row
pub no_term : (i n : ℕ) (at : Place) (t : Tree) → IsNoPattern (row_of t) → row_pattern i n at t ≡ no_pattern_at (number_of i n) at
no_term i n at t h = no_row (row_of t) (number_of i n) at (parts_of i n t) h
