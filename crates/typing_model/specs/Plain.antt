-- Texts without modules.
use Rattle.std.specs.Prelude.{Bool, true, false, ◌&&◌, List, [], ◌∷◌}
use Rattle.tree_model.specs.Trees.{Tree, node}
use Rattle.tree_model.specs.Rows.{Row, let_row, type_row, exception_row, break_row}

-- whether an item of this row is a binding, a declaration of types or an exception, or `;;`
abbrev pub is_plain_row : Row → Bool
is_plain_row let_row = true
is_plain_row type_row = true
is_plain_row exception_row = true
is_plain_row break_row = true
is_plain_row _ = false

-- whether an item is one of these
abbrev pub is_plain_item : Tree → Bool
is_plain_item (node r x ps) = is_plain_row r

-- whether all items of a text are
abbrev pub has_no_modules : List Tree → Bool
has_no_modules [] = true
has_no_modules (t ∷ ts) = is_plain_item t && has_no_modules ts

-- whether an item of this row is a binding or `;;`
abbrev pub is_let_row : Row → Bool
is_let_row let_row = true
is_let_row break_row = true
is_let_row _ = false

-- whether an item is one of these
abbrev pub is_let_item : Tree → Bool
is_let_item (node r x ps) = is_let_row r

-- whether all items of a text are
abbrev pub has_lets_alone : List Tree → Bool
has_lets_alone [] = true
has_lets_alone (t ∷ ts) = is_let_item t && has_lets_alone ts

-- whether an item of this row is a binding, an exception or `;;`
abbrev pub is_value_row : Row → Bool
is_value_row let_row = true
is_value_row exception_row = true
is_value_row break_row = true
is_value_row _ = false

-- whether an item is one of these
abbrev pub is_value_item : Tree → Bool
is_value_item (node r x ps) = is_value_row r

-- whether all items of a text are
abbrev pub has_values_alone : List Tree → Bool
has_values_alone [] = true
has_values_alone (t ∷ ts) = is_value_item t && has_values_alone ts
