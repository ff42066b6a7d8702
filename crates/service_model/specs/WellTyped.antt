-- Plain texts in which no type is wrong.
use Rattle.std.specs.Prelude.{List, Bool, true, false, not, ◌&&◌, ◌||◌, nat_le, length, is_some}
use Rattle.std.specs.List.{list_all}
use Rattle.token_model.specs.Kinds.{Kind, int, Tok}
use Rattle.plain_model.specs.Plain.{plain_text}

-- whether a token of this kind is an integer numeral
unfoldable pub is_int : Kind → Bool
is_int int = true
is_int _ = false

-- a numeral of so few bytes that its number is in the range of integers, or another token
abbrev pub is_short : Tok → Bool
is_short t = not (is_int t.kind) || nat_le (length t.name) 17

-- a plain text with such numerals
unfoldable pub is_well_typed : List Tok → Bool
is_well_typed tokens = is_some (plain_text tokens) && list_all is_short tokens
