-- What is asked of the parts of a row and after them, in the order in which the code types them.
use Rattle.std.specs.Prelude.{ℕ, ◌+◌, ◌==◌, ◌&&◌, Bool, true, false, not, List, [], ◌∷◌, ◌++◌, map, Option, Some, None, slice_get, if◌then◌else◌}
use Rattle.token_model.specs.Kinds.{Tok}
use Rattle.tree_model.specs.Rows.{Row, ebegin_row, elist_row, field_row, eassert_row, ewhile_row, econs_row, etuple_row, eif_row, eseq_row}
use Rattle.tree_model.specs.Trees.{Place, Tree}
use Rattle.type_model.specs.Types.{Typ, Tuple, types_of}
use Rattle.typing_model.specs.Demands.{Condition}
use Rattle.signature_model.specs.Declarations.{Declaration, Label, type_of}
use Rattle.typing_model.specs.Contexts.{Context, type_at, letter, is_kept}
use Rattle.typing_model.specs.Names.{used_at}
use Rattle.typing_model.specs.Parts.{Expression, Written, last_of, place_of}
use Rattle.typing_model.specs.BuiltIns.{unit_type, bool_type, list_type}
use Rattle.typing_model.specs.Patterns.{ask_all, behind_first, applied_constructor, argument_has}
use Rattle.typing_model.specs.Expressions.{expression_row, typed_all, has_type, is_of, first_type, each_has, node_types, is_false, applied_from, value_asks}
use Rattle.row_parts.specs.Numbered.{Numbered, path_in}
use Rattle.operand_laws.specs.Formed.{row_of}
use Rattle.operand_laws.specs.Operands.{number_of, parts_of, path_of, expression_of}
use Rattle.typing_steps.specs.Building.{label_asks, label_in_scope}

-- an expression directly under a minus asks something else
abbrev pub under_minus : Bool → Expression → Expression
under_minus true e = record e { typed = e.negated }
under_minus false e = e

-- a node of an item, as an expression at a place, without what is recorded of it
abbrev pub row_expression : ℕ → ℕ → Place → Tree → Expression
row_expression i n at t = expression_row (row_of t) (number_of i n) at (parts_of i n t)

-- operands of an item as expressions
abbrev pub expressions_of : ℕ → List Numbered → List Expression
expressions_of i os = map (λ o. expression_of i o) os

-- the same directly under a minus
abbrev pub signed_expressions : Bool → ℕ → List Numbered → List Expression
signed_expressions negated i os = map (λ o. under_minus negated (expression_of i o)) os

-- the rows whose parts are typed in order, and whose end depends on these alone
abbrev pub IsPlainRow : Row → Type 0
IsPlainRow ebegin_row = Unit {0}
IsPlainRow elist_row = Unit {0}
IsPlainRow eassert_row = Unit {0}
IsPlainRow ewhile_row = Unit {0}
IsPlainRow econs_row = Unit {0}
IsPlainRow etuple_row = Unit {0}
IsPlainRow eif_row = Unit {0}
IsPlainRow eseq_row = Unit {0}
IsPlainRow _ = ⊥

-- the same with those whose end depends on a path of their own too
abbrev pub IsOrderedRow : Row → Type 0
IsOrderedRow field_row = Unit {0}
IsOrderedRow r = IsPlainRow r

-- whether the first part of a row is a bool; after `assert` the word `false` needn't be
abbrev pub wants_bool : Row → Bool → Bool
wants_bool eif_row b = true
wants_bool ewhile_row b = true
wants_bool eassert_row b = not b
wants_bool _ b = false

-- the demand that an expression is a bool, where it is made
abbrev pub bool_if : Bool → Context → ℕ → Expression → List Condition
bool_if true c n e = has_type c n 0 e bool_type
bool_if false c n e = []

-- what is asked of a part of a row as soon as it is typed, by its place among the parts
abbrev pub behind_asks : Row → (place : ℕ) → Context → ℕ → Expression → List Condition
behind_asks r i c n e = bool_if (i == 0 && wants_bool r (is_false e.form)) c n e

-- the parts of a row from a place on, each with what is asked of it as soon as it is typed
abbrev pub parts_ask : Row → (place : ℕ) → Context → ℕ → List Expression → List Condition
parts_ask r i c n [] = []
parts_ask r i c n (e ∷ es) = (e.typed c ++ behind_asks r i c n e) ++ parts_ask r (i + 1) c n es

-- a part that may not be there has a type
abbrev pub has_if : Context → ℕ → ℕ → Option Expression → Typ → List Condition
has_if c n k None t = []
has_if c n k (Some e) t = has_type c n k e t

-- `if` with its branches, once they are typed
abbrev pub branches_ask : Context → ℕ → List Expression → List Condition
branches_ask c n [] = []
branches_ask c n (e ∷ []) = []
branches_ask c n (e ∷ f ∷ []) = has_type c n 1 f unit_type ++ is_of c n unit_type
branches_ask c n (e ∷ f ∷ g ∷ gs) = has_type c n 1 g (type_at c f.node) ++ is_of c n (type_at c f.node)

-- `::` with its parts, once they are typed
abbrev pub cons_asks : Context → ℕ → List Expression → List Condition
cons_asks c n [] = []
cons_asks c n (e ∷ es) = has_if c n 0 (slice_get es 0) (list_type (type_at c e.node)) ++ is_of c n (list_type (type_at c e.node))

-- `[ .. ]` with its parts, once they are typed
abbrev pub list_asks : Context → ℕ → List Expression → List Condition
list_asks c n es = ask_all n 0 (each_has c (first_type c n es) (behind_first es)) ++ is_of c n (list_type (first_type c n es))

-- `begin .. end` with its part
abbrev pub begin_asks : Context → ℕ → List Expression → List Condition
begin_asks c n [] = is_of c n unit_type
begin_asks c n (e ∷ es) = is_of c n (type_at c e.node)

-- the type of the last part, if there is one
abbrev pub last_asks : Context → ℕ → Option Expression → List Condition
last_asks c n None = []
last_asks c n (Some e) = is_of c n (type_at c e.node)

-- `assert`: over `false` any type
abbrev pub assert_ends : Bool → Context → ℕ → List Condition
assert_ends true c n = []
assert_ends false c n = is_of c n unit_type

-- the same by its part
abbrev pub assert_end_asks : Context → ℕ → List Expression → List Condition
assert_end_asks c n [] = is_of c n unit_type
assert_end_asks c n (e ∷ es) = assert_ends (is_false e.form) c n

-- what is asked after all parts of a row
abbrev pub end_asks : Row → Context → ℕ → List Expression → List Condition
end_asks ebegin_row c n es = begin_asks c n es
end_asks elist_row c n es = list_asks c n es
end_asks econs_row c n es = cons_asks c n es
end_asks etuple_row c n es = is_of c n (Tuple (types_of (node_types c es)))
end_asks eseq_row c n es = last_asks c n (last_of es)
end_asks eif_row c n es = branches_ask c n es
end_asks eassert_row c n es = assert_end_asks c n es
end_asks ewhile_row c n es = is_of c n unit_type
end_asks _ c n es = []

-- the same by the row
abbrev pub end_of : Row → List Expression → Context → ℕ → List Condition
end_of r es c n = end_asks r c n es

-- `e . l` with its part, by the label that is found
abbrev pub label_ends : Context → ℕ → List Expression → Option (Declaration × Label) → List Condition
label_ends c n es None = []
label_ends c n es (Some (d, l)) = has_if c n 1 (slice_get es 0) (used_at c n (type_of d)) ++ is_of c n (used_at c n l.body)

-- `e . l` with its part: the label, and what it asks
abbrev pub field_ends : Written → List Expression → Context → ℕ → List Condition
field_ends p es c n = label_asks c n p ++ label_ends c n es (if is_kept c n 0 then label_in_scope c.env p else None)

-- what is asked after all parts of a row that are typed in order
abbrev pub ordered_end : Row → Tree → List Expression → Context → ℕ → List Condition
ordered_end field_row t es = field_ends (path_of (path_in t 2 3)) es
ordered_end r t es = end_of r es

-- a constructor with its first argument; its node is `head`
abbrev pub head_asks : Context → ℕ → Written → (head : ℕ) → Expression → List Condition
head_asks c n p head e = applied_constructor c n p head (head ∷ []) (e.typed c) (argument_has n 2 e.at (type_at c e.node))

-- the arguments after the first one of a constructor of this type, by whether it is known
abbrev pub later_asks : (known : Bool) → Context → ℕ → Place → Typ → List Expression → List Condition
later_asks true c n at t es = applied_from c n 3 0 at t es
later_asks false c n at t [] = is_of c n t
later_asks false c n at t (e ∷ es) = typed_all c (e ∷ es)

-- a head that is no constructor, and its arguments
abbrev pub applied_asks : ℕ → Expression → List Expression → Context → List Condition
applied_asks n head es c = head.typed c ++ applied_from c n 0 0 head.at (type_at c head.node) es

-- an operator as the name of a value, and its arguments; its own type is the letter 0
abbrev pub operated_asks : ℕ → Tok → List Expression → Context → List Condition
operated_asks n t es c = value_asks c n 0 (record { qualifiers = []; last = Some t }) (letter c n 0) ++ applied_from c n 1 1 (place_of t) (letter c n 0) es
