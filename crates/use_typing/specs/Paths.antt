-- The paths at operands, and the labels of fields.
use Rattle.std.specs.Prelude.{List, [], map, None}
use Rattle.tree_model.specs.Trees.{Part, taken, inner, missing}
use Rattle.row_parts.specs.Numbered.{Numbered, Written, path_in}

-- the path at an operand that is a constructor or a field
abbrev pub path_at : Part → Written
path_at (taken t) = record { qualifiers = []; last = None }
path_at (inner t) = path_in t 0 1
path_at (missing at) = record { qualifiers = []; last = None }

-- the labels of fields
abbrev pub labels_of : List Numbered → List Written
labels_of fs = map (λ f. path_at f.part) fs
