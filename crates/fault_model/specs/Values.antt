-- Exceptions that have a name and take no argument.
use Rattle.std.specs.Prelude.{ℕ, ◌==◌, ◌&&◌, ◌||◌, not, Bool, true, false, List, [], ◌∷◌, if◌then◌else◌}
use Rattle.tree_model.specs.Rows.{exception_row}
use Rattle.tree_model.specs.Trees.{Tree, Forest, Part, node, no_parts, part, taken, inner, missing}

-- whether anything stands in a slot
abbrev pub stands_in : ℕ → Forest → Bool
stands_in s no_parts = false
stands_in s (part q p ps) = q == s || stands_in s ps

-- whether a token stands in a slot
abbrev pub has_token : ℕ → Forest → Bool
has_token s no_parts = false
has_token s (part q (taken t) ps) = q == s || has_token s ps
has_token s (part q p ps) = has_token s ps

-- whether a constructor has a name and takes no argument
abbrev pub is_bare : Part → Bool
is_bare (taken t) = false
is_bare (inner (node r x ps)) = has_token 0 ps && not (stands_in 2 ps)
is_bare (missing at) = false

-- whether the constructor of an exception is there and is such
abbrev pub has_bare : Forest → Bool
has_bare no_parts = false
has_bare (part q p ps) = if q == 1 then is_bare p else has_bare ps

-- whether an item is such an exception, or none
abbrev pub is_bare_item : Tree → Bool
is_bare_item (node exception_row x ps) = has_bare ps
is_bare_item (node r x ps) = true

-- whether all items of a text are
abbrev pub are_bare : List Tree → Bool
are_bare [] = true
are_bare (t ∷ ts) = is_bare_item t && are_bare ts
