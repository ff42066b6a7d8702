-- Which cases, and which rows over cases or parameters, have parts whose conditions are carried.
use Rattle.std.specs.Prelude.{◌≡◌, ℕ, All}
use Rattle.std.specs.Option.{IfSome}
use Rattle.tree_model.specs.Rows.{Row, case_row, ematch_row, etry_row, efun_row, efunction_row}
use Rattle.tree_model.specs.Trees.{Tree, Part, taken, inner, missing}
use Rattle.row_parts.specs.Numbered.{Numbered, operands_in, first_in, filled_in}
use Rattle.operand_laws.specs.Formed.{row_of, IsFormed}
use Rattle.typing_rows.specs.CarriedRows.{IsCarried}
use Rattle.pattern_rows.specs.CarriedPatterns.{IsCarriedPattern}

-- a case, by its number and its node
pub record IsCaseNode (n : ℕ) (t : Tree) : Type 0 where
  pub formed : IsFormed n t
  pub row : row_of t ≡ case_row
  pub pattern : IsCarriedPattern (filled_in n t 0)
  pub guard : IfSome (first_in n t 2) IsCarried
  pub body : IsCarried (filled_in n t 4)

-- a part that is one, or is missing
abbrev pub IsCasePart : ℕ → Part → Type 0
IsCasePart n (taken t) = Unit {0}
IsCasePart n (inner t) = IsCaseNode n t
IsCasePart n (missing at) = Unit {0}

-- an operand that is one
abbrev pub IsCase : Numbered → Type 0
IsCase o = IsCasePart o.number o.part

-- the rows of `match` and `try`
abbrev pub IsMatchRow : Row → Type 0
IsMatchRow ematch_row = Unit {0}
IsMatchRow etry_row = Unit {0}
IsMatchRow _ = ⊥

-- match e with p -> e, try e with p -> e
pub record IsMatchOrTry (n : ℕ) (t : Tree) : Type 0 where
  pub formed : IsFormed n t
  pub row : IsMatchRow (row_of t)
  pub subject : IsCarried (filled_in n t 1)
  pub cases : All IsCase (operands_in n t 4)

-- function p -> e
pub record IsFunctionNode (n : ℕ) (t : Tree) : Type 0 where
  pub formed : IsFormed n t
  pub row : row_of t ≡ efunction_row
  pub cases : All IsCase (operands_in n t 4)

-- fun p p -> e
pub record IsFunNode (n : ℕ) (t : Tree) : Type 0 where
  pub formed : IsFormed n t
  pub row : row_of t ≡ efun_row
  pub parameters : All IsCarriedPattern (operands_in n t 1)
  pub body : IsCarried (filled_in n t 3)
