-- What comes of one read.
use Rattle.std.specs.Prelude.{◌≡◌, ℕ, List, [], ◌++◌, length, Option}
use Rattle.std.specs.Io.KnownBytes.{Consumes, IsAtEnd}
use Rattle.session_loop.specs.declared.turns.Turn.{Turn}
use Rattle.session_loop.specs.declared.turns.Turn.TheVariants.{Took, End, ReadFault, WriteFault}

-- Bytes that were taken have P, and at the end, or where the read failed, there are none. Where a write failed, it was behind a front of them that has Q.
abbrev pub Goes : Turn → Option (List ℕ) → Option (List ℕ) → (List ℕ → Type 0) → (List ℕ → Type 0) → Type 0
Goes (Took n) left now P Q = (bytes : List ℕ) × (length bytes ≡ n) × Consumes left now bytes × P bytes
Goes End left now P Q = Consumes left now [] × IsAtEnd now × P []
Goes ReadFault left now P Q = Consumes left now [] × P []
Goes WriteFault left now P Q = (front : List ℕ) × (back : List ℕ) × Consumes left now (front ++ back) × Q front
