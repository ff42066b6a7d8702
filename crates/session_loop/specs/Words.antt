-- The words of the command line, and what they ask for.
use Rattle.std.specs.Prelude.{◌≡◌, ◌⊎◌, ◌≤◌, ℕ, List, [], ◌∷◌, ◌++◌, map, string_bytes, decimal, String, Bool, true, false, Option, Some, None, Result, Ok, Err, option_and_then, codes, pos, if◌then◌else◌}
use Rattle.std.specs.Str.Parse.{digits_value, without_leading_plus}
use Rattle.std.specs.declared.alloc.Global.{Global}
use Rattle.clap.specs.Words.{App, Kinds, Rule, fault_of, matches_of, new_app, new_rule, one_of, with_rule}
use Rattle.clap.specs.ValueTests.{is_unsigned_in}
use Rattle.clap.specs.declared.builder.action.ArgAction.TheVariants.{Set}
use Rattle.clap.specs.declared.builder.value_parser.ValueParser.TheVariants as value
use Rattle.session_loop.specs.declared.words.Task.{Task}
use Rattle.session_loop.specs.declared.words.Task.TheVariants.{Session, Made}
use Rattle.session_loop.specs.declared.words.WordsFault.{WordsFault}
use Rattle.session_loop.specs.declared.words.WordsFault.TheVariants.{Refused, NoMemory}

-- the words as texts
abbrev pub texts : List (String Global) → List (List ℕ)
texts words = map string_bytes words

-- the name of the program, which stands in front of the words
abbrev pub program_name : List ℕ
program_name = codes "ocaml_service"

-- the one argument: `--make` with a number from 1 to 20,000
abbrev pub make_argument : Rule
make_argument = record (new_rule (codes "make")) { long = Some (codes "make"); action = Some Set; parser = Some (value.Signed (pos 1) (pos 20000)) }

-- the command that reads the words
abbrev pub make_command : App
make_command = with_rule (new_app program_name) make_argument

-- there is a kind of error
abbrev pub is_some_kind : Kinds → Bool
is_some_kind [] = false
is_some_kind (k ∷ ks) = true

-- clap refuses the words, for another cause than memory
unfoldable pub are_refused : List (List ℕ) → Bool
are_refused words = is_some_kind (fault_of make_command (program_name ∷ words))

-- the number that a value is read as
abbrev pub number_in : List ℕ → Option ℕ
number_in text = if is_unsigned_in 0 4294967295 text then Some (digits_value 10 (without_leading_plus text)) else None

-- how many items the words ask for, where they ask for a made run
unfoldable pub items_asked : List (List ℕ) → Option ℕ
items_asked words = option_and_then number_in (one_of (codes "make") (matches_of make_command (program_name ∷ words)))

-- how many items a task has, where it is a made run
abbrev pub asked_by : Task → Option ℕ
asked_by Session = None
asked_by (Made n) = Some n

-- what was read of the words is what they ask for, or they are refused, or memory is short
abbrev pub Asks : List (List ℕ) → Result Task WordsFault → Type 0
Asks words (Ok t) = (are_refused words ≡ false) × (asked_by t ≡ items_asked words)
Asks words (Err Refused) = are_refused words ≡ true
Asks words (Err NoMemory) = Unit {0}

-- no words, or `--make` with a number from 1 to 20,000, as a second word or behind an equals sign
abbrev pub AlwaysAccepted : List (List ℕ) → Type 0
AlwaysAccepted words = (words ≡ []) ⊎ ((n : ℕ) × (1 ≤ n) × (n ≤ 20000) × ((words ≡ codes "--make" ∷ decimal n ∷ []) ⊎ (words ≡ (codes "--make=" ++ decimal n) ∷ [])))
