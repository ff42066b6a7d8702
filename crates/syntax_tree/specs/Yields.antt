-- The tokens of a whole text's tree.
use Rattle.std.specs.Prelude.{List, [], ◌∷◌, ◌++◌}
use Rattle.token_model.specs.Kinds.{Tok}
use Rattle.tree_model.specs.Trees.{Place, place, Tree, yield_of}

-- where a token stands
abbrev pub place_of_tok : Tok → Place
place_of_tok t = place t.start t.end

-- the taken tokens of items, in order
abbrev pub yields_of : List Tree → List Tok
yields_of [] = []
yields_of (t ∷ ts) = yield_of t ++ yields_of ts
