-- What else a part of an expression is: a numeral with a point, or a field.
use Rattle.std.specs.Prelude.{Bool, true, false, Option, Some, None}
use Rattle.token_model.specs.Kinds.{Tok, Kind, float}
use Rattle.tree_model.specs.Trees.{Tree, Part, taken, inner, missing}
use Rattle.tree_model.specs.Rows.{Row, econst_row, field_row}
use Rattle.row_parts.specs.Numbered.{token_in}
use Rattle.value_forms.specs.Heads.{row_at}

-- the kind of a numeral with a point
abbrev pub is_float_kind : Kind → Bool
is_float_kind float = true
is_float_kind _ = false

-- whether a token is a numeral with a point
abbrev pub is_float_token : Option Tok → Bool
is_float_token None = false
is_float_token (Some t) = is_float_kind t.kind

-- a numeral with a point
abbrev pub is_float_in : Row → Tree → Bool
is_float_in econst_row t = is_float_token (token_in t 0)
is_float_in _ t = false

-- whether a part is a numeral with a point
abbrev pub is_float_at : Part → Bool
is_float_at (taken t) = false
is_float_at (inner t) = is_float_in (row_at t) t
is_float_at (missing at) = false

-- the row of e . l
abbrev pub is_field_row : Row → Bool
is_field_row field_row = true
is_field_row _ = false

-- whether a part is e . l
abbrev pub is_field_at : Part → Bool
is_field_at (taken t) = false
is_field_at (inner t) = is_field_row (row_at t)
is_field_at (missing at) = false
