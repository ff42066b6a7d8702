-- A trail as the list of its writes.
use Rattle.std.specs.Prelude.{◌<◌, List, length, vec_capacity}
use Rattle.undo_trail.specs.declared.Trail.{Trail}

-- the writes, oldest first
abbrev pub writes_of : {W : Type 0} → Trail W → List W
writes_of t = t.writes.items

-- there is room for one more write
abbrev pub HasRoom : {W : Type 0} → Trail W → Type 0
HasRoom t = length t.writes.items < vec_capacity t.writes
