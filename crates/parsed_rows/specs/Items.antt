-- What the items of a program are.
use Rattle.std.specs.Prelude.{◌≡◌, ◌⊎◌, ℕ, ◌<◌, ◌^◌, Option, Some, None}
use Rattle.tree_model.specs.Rows.{Row, type_row, exception_row, module_row, modtype_row, open_row, include_row}
use Rattle.tree_model.specs.Trees.{Tree, Part, taken, inner, missing, size_of}
use Rattle.row_parts.specs.Numbered.{Numbered, first_in, token_in}
use Rattle.operand_laws.specs.Formed.{row_of}
use Rattle.binding_rows.specs.ItemRows.{IsCarriedItem}

-- the rows of items that are no `let`, no `;;` and no exception
abbrev pub IsOtherItemRow : Row → Type 0
IsOtherItemRow type_row = Unit {0}
IsOtherItemRow module_row = Unit {0}
IsOtherItemRow modtype_row = Unit {0}
IsOtherItemRow open_row = Unit {0}
IsOtherItemRow include_row = Unit {0}
IsOtherItemRow _ = ⊥

-- a constructor that is missing, or has no name
abbrev pub IsNamelessPart : Part → Type 0
IsNamelessPart (taken t) = Unit {0}
IsNamelessPart (inner t) = token_in t 0 ≡ None
IsNamelessPart (missing at) = Unit {0}

-- the same of an operand that may be left out
abbrev pub IsNameless : Option Numbered → Type 0
IsNameless None = Unit {0}
IsNameless (Some o) = IsNamelessPart o.part

-- an item of another kind: one of those rows, or an exception whose constructor is missing or has no name
abbrev pub IsOtherItem : ℕ → Tree → Type 0
IsOtherItem n t = IsOtherItemRow (row_of t) ⊎ ((row_of t ≡ exception_row) × IsNameless (first_in n t 1))

-- an item by its number and its node: one whose conditions are carried, or one of another kind
abbrev pub IsParsedItem : ℕ → Tree → Type 0
IsParsedItem n t = IsCarriedItem n t ⊎ IsOtherItem n t

-- the same of what is at an operand; what is missing is no item
abbrev pub IsParsedPart : ℕ → Part → Type 0
IsParsedPart n (taken t) = Unit {0}
IsParsedPart n (inner t) = IsParsedItem n t
IsParsedPart n (missing at) = Unit {0}

-- the same of an operand
abbrev pub IsParsedOperand : Numbered → Type 0
IsParsedOperand o = IsParsedPart o.number o.part

-- an item of fewer than 2^32 nodes and missing operands, as each has that the code holds
abbrev pub IsSmall : Tree → Type 0
IsSmall t = size_of t < 2 ^ 32
