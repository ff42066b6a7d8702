-- What a part of an expression is: its row, a constructor alone, a label, and the word `false`.
use Rattle.std.specs.Prelude.{Bool, true, false, Option, Some, None}
use Rattle.token_model.specs.Kinds.{Tok, Kind, lower, upper, false_word}
use Rattle.tree_model.specs.Trees.{Tree, Part, node, taken, inner, missing}
use Rattle.tree_model.specs.Rows.{Row, name_row, econ_row, epath_row, econst_row}
use Rattle.row_parts.specs.Numbered.{Written, token_in, path_in}

-- the row of a node
abbrev pub row_at : Tree → Row
row_at (node r x ps) = r

-- a path where its last token is of the one kind
abbrev pub if_upper : Written → Kind → Option Written
if_upper p upper = Some p
if_upper p _ = None

-- the same of the other
abbrev pub if_lower : Written → Kind → Option Written
if_lower p lower = Some p
if_lower p _ = None

-- a path to a constructor
abbrev pub upper_path : Written → Option Written
upper_path p = elim p.last [ None ↦ None | Some t ↦ if_upper p t.kind ]

-- a path to a value or a label
abbrev pub lower_path : Written → Option Written
lower_path p = elim p.last [ None ↦ None | Some t ↦ if_lower p t.kind ]

-- A, M.A
abbrev pub constructor_in : Row → Tree → Option Written
constructor_in econ_row t = Some (path_in t 9 0)
constructor_in epath_row t = upper_path (path_in t 0 1)
constructor_in _ t = None

-- l, M.l
abbrev pub label_in : Row → Tree → Option Written
label_in name_row t = lower_path (path_in t 9 0)
label_in epath_row t = lower_path (path_in t 0 1)
label_in _ t = None

-- the path of a part that is a constructor alone
abbrev pub constructor_at : Part → Option Written
constructor_at (taken t) = None
constructor_at (inner t) = constructor_in (row_at t) t
constructor_at (missing at) = None

-- the path of a part that is a label
abbrev pub label_at : Part → Option Written
label_at (taken t) = None
label_at (inner t) = label_in (row_at t) t
label_at (missing at) = None

-- the kind of the word `false`
abbrev pub is_false_kind : Kind → Bool
is_false_kind false_word = true
is_false_kind _ = false

-- whether a token is the word `false`
abbrev pub is_false_token : Option Tok → Bool
is_false_token None = false
is_false_token (Some t) = is_false_kind t.kind

-- the word `false`, as a constant
abbrev pub is_false_in : Row → Tree → Bool
is_false_in econst_row t = is_false_token (token_in t 0)
is_false_in _ t = false

-- whether a part is it
abbrev pub is_false_at : Part → Bool
is_false_at (taken t) = false
is_false_at (inner t) = is_false_in (row_at t) t
is_false_at (missing at) = false
