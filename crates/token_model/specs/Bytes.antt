-- Sorts of bytes. (OCaml manual, "Lexical conventions": Blanks, Identifiers, Integer literals, Prefix and infix symbols.)
use Rattle.std.specs.Prelude.{ℕ, ◌==◌, ◌&&◌, ◌||◌, List, [], ◌∷◌, Bool, false, nat_le, if◌then◌else◌}

-- space, tab, line feed, carriage return and form feed
abbrev pub is_blank : ℕ → Bool
is_blank b = b == 32 || b == 9 || b == 10 || b == 13 || b == 12

-- a decimal digit
abbrev pub is_digit : ℕ → Bool
is_digit b = nat_le 48 b && nat_le b 57

-- a lower-case letter or `_`
abbrev pub is_lower : ℕ → Bool
is_lower b = nat_le 97 b && nat_le b 122 || b == 95

-- a capital letter
abbrev pub is_upper : ℕ → Bool
is_upper b = nat_le 65 b && nat_le b 90

-- an identifier begins with a letter or `_`
abbrev pub begins_name : ℕ → Bool
begins_name b = is_lower b || is_upper b

-- an identifier goes on with letters, digits, `_` and `'`
abbrev pub goes_on : ℕ → Bool
goes_on b = is_lower b || is_upper b || is_digit b || b == 39

-- digits go on with digits and `_`
abbrev pub is_decimal : ℕ → Bool
is_decimal b = is_digit b || b == 95

-- a digit of the base 16
abbrev pub is_hexadecimal : ℕ → Bool
is_hexadecimal b = is_digit b || nat_le 97 b && nat_le b 102 || nat_le 65 b && nat_le b 70

-- a digit of the base 8
abbrev pub is_octal : ℕ → Bool
is_octal b = nat_le 48 b && nat_le b 55

-- a digit of the base 2
abbrev pub is_binary : ℕ → Bool
is_binary b = nat_le 48 b && nat_le b 49

-- a digit of the base that a letter names: x for 16, o for 8, b for 2
abbrev pub is_digit_of : ℕ → ℕ → Bool
is_digit_of letter b = if letter == 120 || letter == 88 then is_hexadecimal b else (if letter == 111 || letter == 79 then is_octal b else (if letter == 98 || letter == 66 then is_binary b else false))

-- the signs that an operator may begin with
abbrev pub begins_operator : ℕ → Bool
begins_operator b = b == 33 || b == 36 || b == 37 || b == 38 || b == 42 || b == 43 || b == 45 || b == 47 || b == 60 || b == 61 || b == 62 || b == 63 || b == 64 || b == 94 || b == 124 || b == 126

-- an operator goes on with these and with `.` and `:`
abbrev pub is_sign : ℕ → Bool
is_sign b = begins_operator b || b == 46 || b == 58

-- a byte that isn't the first of its character
abbrev pub continues : ℕ → Bool
continues b = nat_le 128 b && nat_le b 191

-- whether the first byte is of a sort
abbrev pub begins : (ℕ → Bool) → List ℕ → Bool
begins test [] = false
begins test (b ∷ bs) = test b
