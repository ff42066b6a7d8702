-- The built-in types, and the types and ranges of constants (OCaml manual, 11.2 and 11.5; "The core library" for the built-in types).
use Rattle.std.specs.Prelude.{ℕ, ◌+◌, ◌-◌, ◌*◌, ◌^◌, Bool, true, false, ◌==◌, ◌||◌, nat_le, nat_lt, List, [], ◌∷◌, ◌++◌, codes, Option, Some, None, if◌then◌else◌}
use Rattle.token_model.specs.Kinds.{Tok, Kind, int, float, char, str, unit, nil, true_word, false_word}
use Rattle.type_model.specs.Types.{Path, Typ, Con, Nil, Cons}
use Rattle.signature_model.specs.Declarations.{Name, Own, Opaque, built_in}
use Rattle.signature_model.specs.Entries.{Entry, entry, a_type, Environment}
use Rattle.typing_model.specs.Demands.{Condition, same, test, too_large}
use Rattle.typing_model.specs.Contexts.{Context, type_at, letter, ask}
use Rattle.typing_model.specs.Parts.{place_of}

-- the origin of the built-in type of a number
abbrev pub built_in_origin : ℕ → Path
built_in_origin k = (2 ^ 64 - 1 - k) ∷ []

-- the built-in type of a number, without arguments
abbrev pub built_in_type : ℕ → Typ
built_in_type k = Con (built_in_origin k) Nil

-- int
abbrev pub int_type : Typ
int_type = built_in_type 0

-- char
abbrev pub char_type : Typ
char_type = built_in_type 1

-- string
abbrev pub string_type : Typ
string_type = built_in_type 2

-- float
abbrev pub float_type : Typ
float_type = built_in_type 3

-- unit
abbrev pub unit_type : Typ
unit_type = built_in_type 4

-- bool
abbrev pub bool_type : Typ
bool_type = built_in_type 5

-- exn
abbrev pub exn_type : Typ
exn_type = built_in_type 6

-- t list
abbrev pub list_type : Typ → Typ
list_type t = Con (built_in_origin 7) (Cons t Nil)

-- the entry of a built-in type; its constructors have none
abbrev pub built_in_entry : ℕ → ℕ → Name → Entry
built_in_entry k arity n = entry n (built_in k) (a_type (record { arity = arity; definition = Own (built_in_origin k); shape = Opaque }))

-- the environment of the built-in types alone, the last one first
abbrev pub built_in_names : Environment
built_in_names =
    built_in_entry 7 1 (codes "list") ∷ built_in_entry 6 0 (codes "exn") ∷ built_in_entry 5 0 (codes "bool") ∷ built_in_entry 4 0 (codes "unit") ∷
    built_in_entry 3 0 (codes "float") ∷ built_in_entry 2 0 (codes "string") ∷ built_in_entry 1 0 (codes "char") ∷ built_in_entry 0 0 (codes "int") ∷ []

-- the value of a digit; letters are digits from 10 on
abbrev pub digit_of : ℕ → ℕ
digit_of b = if nat_lt b 58 then b - 48 else if nat_lt b 91 then b - 55 else b - 87

-- the value of digits in a base behind a value; underscores count for nothing
abbrev pub value_behind : ℕ → ℕ → List ℕ → ℕ
value_behind base n [] = n
value_behind base n (b ∷ bs) = if b == 95 then value_behind base n bs else value_behind base (n * base + digit_of b) bs

-- the base that the second byte of a numeral names, if it does
abbrev pub base_of : ℕ → Option ℕ
base_of b = if b == 120 || b == 88 then Some 16 else if b == 111 || b == 79 then Some 8 else if b == 98 || b == 66 then Some 2 else None

-- whether a decimal numeral is at most 2^62 - 1, or 2^62 directly under a minus
abbrev pub decimal_in_range : Bool → List ℕ → Bool
decimal_in_range true bs = nat_le (value_behind 10 0 bs) (2 ^ 62)
decimal_in_range false bs = nat_lt (value_behind 10 0 bs) (2 ^ 62)

-- whether a numeral is small enough for its base: one of another base than ten is at most 2^63 - 1
abbrev pub in_range : Bool → List ℕ → Bool
in_range negated [] = true
in_range negated (a ∷ []) = true
in_range negated (a ∷ b ∷ bs) = elim (if a == 48 then base_of b else None) [ None ↦ decimal_in_range negated (a ∷ b ∷ bs) | Some base ↦ nat_lt (value_behind base 0 bs) (2 ^ 63) ]

-- what a constant asks at a node: `range` of an integer, and its own type; the empty list is a list of any type
unfoldable pub constant_by : Bool → Kind → ℕ → Tok → Context → List Condition
constant_by negated int n t c = ask n 0 (place_of t) (test too_large (in_range negated t.name)) ++ same (type_at c n) int_type ∷ []
constant_by negated float n t c = same (type_at c n) float_type ∷ []
constant_by negated char n t c = same (type_at c n) char_type ∷ []
constant_by negated str n t c = same (type_at c n) string_type ∷ []
constant_by negated unit n t c = same (type_at c n) unit_type ∷ []
constant_by negated true_word n t c = same (type_at c n) bool_type ∷ []
constant_by negated false_word n t c = same (type_at c n) bool_type ∷ []
constant_by negated nil n t c = same (type_at c n) (list_type (letter c n 0)) ∷ []
constant_by negated _ n t c = []

-- what a constant asks; a missing one asks nothing
abbrev pub constant : Bool → ℕ → Option Tok → Context → List Condition
constant negated n None c = []
constant negated n (Some t) c = constant_by negated t.kind n t c
