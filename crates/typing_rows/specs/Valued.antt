-- Whether an expression is non-expansive, by the operands of the code: which operands decide it.
use Rattle.std.specs.Prelude.{ℕ, Bool, true, false, not, List, [], ◌++◌, filter_map, Option, Some, None, if◌then◌else◌}
use Rattle.std.specs.List.{list_all}
use Rattle.std.specs.Option.{option_to_list}
use Rattle.tree_model.specs.Rows.{Row, name_row, econ_row, epath_row, econst_row, hole_row, eparen_row, ebegin_row, elist_row, field_row, econs_row, etuple_row, eif_row, efun_row, efunction_row}
use Rattle.tree_model.specs.Trees.{Tree, Part, taken, inner, missing}
use Rattle.row_parts.specs.Numbered.{Numbered, operands_in, all_operands, first_in, filled_in}
use Rattle.typing_model.specs.Contexts.{Context}
use Rattle.typing_model.specs.Expressions.{all_values, is_some}
use Rattle.typing_rows.specs.Asked.{expressions_of}

-- the operands of a node that have to be non-expansive for it to be; None where it never is, or where more decides
abbrev pub value_operands : Row → ℕ → Tree → Option (List Numbered)
value_operands name_row n t = Some []
value_operands econ_row n t = Some []
value_operands epath_row n t = Some []
value_operands econst_row n t = Some []
value_operands hole_row n t = Some []
value_operands efun_row n t = Some []
value_operands efunction_row n t = Some []
value_operands eparen_row n t = Some (operands_in n t 1)
value_operands ebegin_row n t = Some (operands_in n t 1)
value_operands elist_row n t = Some (operands_in n t 1)
value_operands field_row n t = Some (all_operands n t)
value_operands econs_row n t = Some (all_operands n t)
value_operands etuple_row n t = Some (all_operands n t)
value_operands eif_row n t = Some (operands_in n t 3 ++ option_to_list (first_in n t 5))
value_operands _ n t = None

-- whether these are, as expressions of an item
abbrev pub are_values : Context → ℕ → Option (List Numbered) → Bool
are_values c i None = false
are_values c i (Some os) = all_values c (expressions_of i os)

-- the body of a case, where there is one
abbrev pub body_in : ℕ → Part → Option Numbered
body_in n (taken t) = None
body_in n (inner t) = Some (filled_in n t 4)
body_in n (missing at) = None

-- the bodies of the cases that are there
abbrev pub bodies_of : List Numbered → List Numbered
bodies_of os = filter_map (λ o. body_in o.number o.part) os

-- whether a case has no guard
abbrev pub is_unguarded : ℕ → Part → Bool
is_unguarded n (taken t) = true
is_unguarded n (inner t) = not (is_some (first_in n t 2))
is_unguarded n (missing at) = true

-- whether no case has one
abbrev pub are_unguarded : List Numbered → Bool
are_unguarded os = list_all (λ o. is_unguarded o.number o.part) os

-- the right side of a binding that is there and has no parameters
abbrev pub right_in : ℕ → Part → Option Numbered
right_in n (taken t) = None
right_in n (inner t) = if is_some (first_in n t 1) then None else Some (filled_in n t 5)
right_in n (missing at) = None

-- the right sides of such bindings
abbrev pub rights_of : List Numbered → List Numbered
rights_of os = filter_map (λ o. right_in o.number o.part) os
