-- What the ends in memory tell.
use Rattle.std.specs.Prelude.{ℕ, List, drop}
use Rattle.session_loop.specs.declared.list_ends.ListSource.{ListSource}
use Rattle.session_loop.specs.declared.list_ends.ListSink.{ListSink}

-- the bytes that the source in memory has still to give
abbrev pub bytes_left : ListSource → List ℕ
bytes_left s = drop s.at s.bytes.items

-- the bytes that the sink in memory has taken
abbrev pub bytes_put : ListSink → List ℕ
bytes_put s = s.bytes.items
