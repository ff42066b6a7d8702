-- Items that declare one type of their own.
use Rattle.std.specs.Prelude.{ℕ, List, [], ◌∷◌, ◌++◌}
use Rattle.tree_model.specs.Trees.{Tree}
use Rattle.typing_model.specs.Contexts.{tell}
use Rattle.typing_model.specs.Declarations.{declaration_row}
use Rattle.typing_model.specs.Items.{type_item}
use Rattle.typing_model.specs.Parts.{DeclarationPart, Item}
use Rattle.operand_laws.specs.Operands.{number_of, parts_of}

-- a group of types as it is recorded, by its node n: its node is treated, and then its declarations are asked
abbrev pub recorded_types : ℕ → List DeclarationPart → Item
recorded_types n ds = let m = type_item n ds in record m { asks = λ c seen. tell n c ++ m.asks c seen }

-- the same of one declaration with the number k, whose node is t
abbrev pub recorded_type : (i n k : ℕ) → Tree → Item
recorded_type i n k t = recorded_types (number_of i n) (declaration_row (number_of i k) (parts_of i k t) ∷ [])
