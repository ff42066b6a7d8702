-- The bytes that have come and are no whole message yet.
use Rattle.std.specs.Prelude.{◌≡◌, ◌⊎◌, ℕ, ◌+◌, ◌<◌, List, [], ◌++◌, length}
use Rattle.lsp_model.specs.Frames.{frame, more, over}
use Rattle.lsp_loop.specs.declared.incoming.Incoming.{Incoming}

-- After the last message are these bytes: they are kept, or they begin with a body that is passed over, so many of whose bytes are still to come or to be dropped, and those after the dropped ones are kept.
abbrev pub Waits : ℕ → List ℕ → List ℕ → Type 0
Waits skipped kept rest =
    ((skipped ≡ 0) × (kept ≡ rest))
    ⊎ ((head : ℕ) × (count : ℕ) × (gone : List ℕ) × (0 < skipped) × (frame rest ≡ over head count) × (rest ≡ gone ++ kept) × (length gone + skipped ≡ head + count))

-- no message ends in the kept bytes
abbrev pub IsIdle : ℕ → List ℕ → Type 0
IsIdle skipped kept = (kept ≡ []) ⊎ ((skipped ≡ 0) × (frame kept ≡ more))

-- what is kept between two chunks of the input
pub record Keeps (i : Incoming) (rest : List ℕ) : Type 0 where
  pub waits : Waits i.skipped i.bytes.items rest
  pub idle : IsIdle i.skipped i.bytes.items

-- the bytes end inside a message
abbrev pub IsUnfinished : List ℕ → Type 0
IsUnfinished rest = (frame rest ≡ more) ⊎ ((head : ℕ) × (count : ℕ) × (frame rest ≡ over head count) × (length rest < head + count))
