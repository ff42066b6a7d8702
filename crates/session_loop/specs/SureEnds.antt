-- What the sure source tells.
use Rattle.std.specs.Prelude.{ℕ, List, drop}
use Rattle.session_loop.specs.declared.sure_ends.SureSource.{SureSource}

-- the bytes that the sure source has still to give
abbrev pub sure_left : SureSource → List ℕ
sure_left s = drop s.at s.bytes.items
