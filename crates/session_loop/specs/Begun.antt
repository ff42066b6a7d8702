-- The kept part of a line that has begun.
use Rattle.std.specs.Prelude.{◌≡◌, ℕ, List, take}
use Rattle.service_model.specs.Runs.{is_blank_line}
use Rattle.session_loop.specs.declared.begun.Begun.{Begun}

-- one byte more than a line may have, which tells that it is too long
abbrev pub kept_limit : ℕ
kept_limit = 8388609

-- a front of the line is kept, and whether all of it is blank
pub record Holds (b : Begun) (line : List ℕ) : Type 0 where
  pub bytes : b.bytes.items ≡ take kept_limit line
  pub blank : b.blank ≡ is_blank_line line
