-- What may be completed: names of modules, each with its point, and the beginning of a name, which may be empty.
use Rattle.std.specs.Prelude.{ℕ, List, [], ◌∷◌, Bool, true, false, ◌&&◌, ◌||◌, nat_le, nat_eq, if◌then◌else◌}

-- whether a byte is in a range, both ends included
abbrev pub within : ℕ → ℕ → ℕ → Bool
within low high b = nat_le low b && nat_le b high

-- a letter from A to Z
abbrev pub is_capital : ℕ → Bool
is_capital b = within 65 90 b

-- a letter from a to z, or `_`
abbrev pub is_small : ℕ → Bool
is_small b = within 97 122 b || nat_eq b 95

-- a name goes on with a letter, a digit, `_` or `'`
abbrev pub goes_on : ℕ → Bool
goes_on b = is_capital b || is_small b || within 48 57 b || nat_eq b 39

-- what was read
pub data Read : Type 0 where
  at_start : Read  -- nothing yet, or a point
  in_module : Read  -- what may be the name of a module
  in_name : Read  -- what is none
  other : Read  -- no such prefix

-- what the first byte of a name is read as
abbrev pub read_first : ℕ → Read
read_first b = if is_capital b then in_module else if is_small b then in_name else other

-- what one byte more makes of what was read
abbrev pub read_next : Read → ℕ → Read
read_next at_start b = read_first b
read_next in_module b = if nat_eq b 46 then at_start else if goes_on b then in_module else other
read_next in_name b = if goes_on b then in_name else other
read_next other b = other

-- what all these bytes make of what was read
abbrev pub read_all : Read → List ℕ → Read
read_all r [] = r
read_all r (b ∷ bs) = read_all (read_next r b) bs

-- whether what was read is a prefix of this form
abbrev pub is_some_read : Read → Bool
is_some_read other = false
is_some_read _ = true

-- a prefix of this form
unfoldable pub is_name_prefix : List ℕ → Bool
is_name_prefix bs = is_some_read (read_all at_start bs)
