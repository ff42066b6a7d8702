-- Where the cases of a match are.
use Rattle.std.specs.Prelude.{List, [], ◌∷◌, ◌++◌}
use Rattle.tree_model.specs.Trees.{Place, Part, taken, inner, missing}
use Rattle.row_parts.specs.Numbered.{Numbered}

-- where a part is, if it is there
abbrev pub place_there : Place → Part → List Place
place_there at (taken t) = []
place_there at (inner t) = at ∷ []
place_there at (missing q) = []

-- where those of some operands are that are there
abbrev pub places_there : List Numbered → List Place
places_there [] = []
places_there (o ∷ os) = place_there o.at o.part ++ places_there os
