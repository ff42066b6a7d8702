-- The made text, and what a made run tells of it.
use Rattle.std.specs.Prelude.{◌≡◌, ℕ, zero, suc, ◌+◌, ◌-◌, ◌%◌, List, [], ◌∷◌, ◌++◌, length, codes, decimal, Bool, true, false}
use Rattle.token_model.specs.Kinds.{Tok}
use Rattle.token_model.specs.Tokens.{Lex}
use Rattle.query_model.specs.Faults.{TyperFault}
use Rattle.service_model.specs.Structure.{items_in, faults_in}
use Rattle.service_model.specs.WellTyped.{is_well_typed}

-- ---- the text

-- a constant
abbrev pub value_item : ℕ → List ℕ
value_item i = codes "let v" ++ decimal i ++ codes " = " ++ decimal i

-- a function that adds the constant before it
abbrev pub function_item : ℕ → List ℕ
function_item i = codes "let f" ++ decimal i ++ codes " x = x + v" ++ decimal (i - 1)

-- a type with two constructors
abbrev pub type_item : ℕ → List ℕ
type_item i = codes "type t" ++ decimal i ++ codes " = A" ++ decimal i ++ codes " | B" ++ decimal i ++ codes " of int"

-- a match on the type t, which calls the function f
abbrev pub match_item : ℕ → ℕ → ℕ → List ℕ
match_item i t f = codes "let g" ++ decimal i ++ codes " y = match y with A" ++ decimal t ++ codes " -> 0 | B" ++ decimal t ++ codes " n -> f" ++ decimal f ++ codes " n"

-- a module whose component is that match of a constructor
abbrev pub module_item : ℕ → List ℕ
module_item i = codes "module M" ++ decimal i ++ codes " = struct let w = g" ++ decimal (i - 1) ++ codes " A" ++ decimal (i - 2) ++ codes " end"

-- an item by the remainder of its number by 5
abbrev pub item_by : ℕ → ℕ → List ℕ
item_by zero i = value_item i
item_by (suc zero) i = function_item i
item_by (suc (suc zero)) i = type_item i
item_by (suc (suc (suc zero))) i = match_item i (i - 1) (i - 2)
item_by (suc (suc (suc (suc r)))) i = module_item i

-- the item of a number, which counts from 0
unfoldable pub made_item : ℕ → List ℕ
made_item i = item_by (i % 5) i

-- the text of the first n items, one a line
abbrev pub made_text : ℕ → List ℕ
made_text zero = []
made_text (suc n) = made_text n ++ made_item n ++ 10 ∷ []

-- it with one more line behind it
abbrev pub last_text : ℕ → List ℕ
last_text n = made_text n ++ codes "let last = 1\n"

-- ---- what is found of a text

-- so many faults: those of the parser and those of the typer, which stay open; of a text that is well typed so the parser's alone
abbrev pub HasFaultsBy : Bool → List Tok → ℕ → Type 0
HasFaultsBy true tokens n = n ≡ length (faults_in tokens)
HasFaultsBy false tokens n = (typed : List TyperFault) × (n ≡ length (faults_in tokens) + length typed)

-- a text has so many items and so many faults
abbrev pub SizesAre : List ℕ → ℕ → ℕ → Type 0
SizesAre text items faults = (tokens : List Tok) × Lex text tokens × (items ≡ length (items_in tokens)) × HasFaultsBy (is_well_typed tokens) tokens faults

-- ---- the summary

-- how many bytes, faults and items a text has, and how many items were typed for the last query of it
pub record Summary : Type 0 where
  pub bytes : ℕ
  pub faults : ℕ
  pub items : ℕ
  pub typed : ℕ

-- the line that tells them
unfoldable pub summary_line : Summary → List ℕ
summary_line s = codes "{\"bytes\":" ++ decimal s.bytes ++ codes ",\"faults\":" ++ decimal s.faults ++ codes ",\"items\":" ++ decimal s.items ++ codes ",\"typed\":" ++ decimal s.typed ++ codes "}\n"

-- its bytes, items and faults are those of the last text of a made run of n items
pub record IsSummary (n : ℕ) (s : Summary) : Type 0 where
  pub bytes : s.bytes ≡ length (last_text n)
  pub sizes : SizesAre (last_text n) s.items s.faults
