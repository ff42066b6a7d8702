-- Where tokens are.
use Rattle.std.specs.Prelude.{◌-◌}
use Rattle.token_model.specs.Kinds.{Tok}
use Rattle.tree_model.specs.Trees.{Place, place}

-- where a token is
abbrev pub place_of_tok : Tok → Place
place_of_tok t = place t.start t.end

-- where the name of a qualifier is, which ends with a point
abbrev pub place_without_point : Tok → Place
place_without_point t = place t.start (t.end - 1)
