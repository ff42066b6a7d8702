-- The labels and the values by which a record is non-expansive.
use Rattle.std.specs.Prelude.{ℕ, List, [], ◌∷◌, ◌++◌, Option, Some, None}
use Rattle.std.specs.Option.{option_to_list}
use Rattle.token_model.specs.Kinds.{Tok}
use Rattle.tree_model.specs.Trees.{Tree}
use Rattle.row_parts.specs.Numbered.{Numbered, Written, operands_in, first_in, filled_in, token_in}
use Rattle.use_typing.specs.Paths.{labels_of}
use Rattle.record_rows.specs.NonExpansive.{field_values}
use Rattle.value_forms.specs.Heads.{label_at}

-- the label that the first part of a record is; none before the word `with`
abbrev pub label_before : Option Tok → Numbered → Option Written
label_before (Some w) o = None
label_before None o = label_at o.part

-- the value of the first label, where there is one and a value after it
abbrev pub label_values : ℕ → Tree → Option Written → List Numbered
label_values n t None = []
label_values n t (Some p) = option_to_list (first_in n t 3)

-- the first part of a record before `with`, or else the value of its first label
abbrev pub first_values : ℕ → Tree → Option Tok → Option Written → List Numbered
first_values n t (Some w) l = filled_in n t 1 ∷ []
first_values n t None l = label_values n t l

-- the labels of a record: its first one, and those of its fields
abbrev pub record_labels : ℕ → Tree → List Written
record_labels n t = option_to_list (label_before (token_in t 4) (filled_in n t 1)) ++ labels_of (operands_in n t 5)

-- its values: the first ones, and those of its fields
abbrev pub record_values : ℕ → Tree → List Numbered
record_values n t = first_values n t (token_in t 4) (label_before (token_in t 4) (filled_in n t 1)) ++ field_values (operands_in n t 5)
