-- When the rows in the slots of a declaration are those that the grammar has there.
use Rattle.std.specs.Prelude.{◌≡◌, ℕ, ◌<◌, ◌^◌, List, [], ◌∷◌, All, length, Option, Some, None, option_map}
use Rattle.token_model.specs.Kinds.{Tok}
use Rattle.tree_model.specs.Rows.{Row, type_row, decl_row, head_row, alias_row, variant_row, record_row, con_row, label_row}
use Rattle.tree_model.specs.Trees.{Tree, Part, node, taken, inner, missing}
use Rattle.row_parts.specs.Numbered.{Numbered, operands_in, first_in, filled_in}
use Rattle.operand_laws.specs.Formed.{row_of, IsFormed}
use Rattle.operand_laws.specs.Operands.{number_of, type_of}
use Rattle.typing_model.specs.Parts.{ConstructorPart, LabelPart}
use Rattle.decl_groups.specs.Written.{Constructor, Label, parameters_in, name_in}

-- a part is no node, or one of this row
abbrev pub IsOfRow : Row → Part → Type 0
IsOfRow q (taken t) = Unit {0}
IsOfRow q (inner t) = row_of t ≡ q
IsOfRow q (missing at) = Unit {0}

-- all nodes among operands are of this row
abbrev pub AreOfRow : Row → List Numbered → Type 0
AreOfRow q os = All (λ (o : Numbered). IsOfRow q o.part) os

-- the parts of a node that tells something of values are constructors, or labels, by its row; an alias is another type
abbrev pub TellsOwn : Row → ℕ → Tree → Type 0
TellsOwn alias_row n t = ⊥
TellsOwn variant_row n t = AreOfRow con_row (operands_in n t 1)
TellsOwn record_row n t = AreOfRow label_row (operands_in n t 1)
TellsOwn _ n t = Unit {0}

-- the same of a part, and of a right side, which may be left out
abbrev pub IsOwnPart : ℕ → Part → Type 0
IsOwnPart n (taken t) = Unit {0}
IsOwnPart n (inner (node r x ps)) = TellsOwn r n (node r x ps)
IsOwnPart n (missing at) = Unit {0}

abbrev pub IsOwnSide : Option Numbered → Type 0
IsOwnSide None = Unit {0}
IsOwnSide (Some o) = IsOwnPart o.number o.part

-- a declaration that has a name and is a type of its own, with fewer than 2 ^ 32 parameters
pub record IsOwnNode (n : ℕ) (t : Tree) : Type 0 where
  pub formed : IsFormed n t
  pub row : row_of t ≡ decl_row
  pub head : IsOfRow head_row (filled_in n t 0).part
  pub right : IsOwnSide (first_in n t 2)
  pub few : length (parameters_in (filled_in n t 0).part) < 2 ^ 32
  pub name : Tok
  pub named : name_in (filled_in n t 0).part ≡ Some name

-- an item `type d` of one declaration, which is a type of its own
pub record IsOwnTypeNode (n : ℕ) (t : Tree) : Type 0 where
  pub formed : IsFormed n t
  pub row : row_of t ≡ type_row
  pub operand : Numbered
  pub only : operands_in n t 2 ≡ operand ∷ []
  pub declaration : Tree
  pub part : operand.part ≡ inner declaration
  pub is : IsOwnNode operand.number declaration

-- a constructor, and a label, that is written in the item i, as the definitions take it
abbrev pub constructor_written : ℕ → Constructor → ConstructorPart
constructor_written i k = record { node = number_of i k.number; name = k.name; argument = option_map (type_of i) k.argument }

abbrev pub label_written : ℕ → Label → LabelPart
label_written i l = record { node = number_of i l.number; is_mutable = l.is_mutable; name = l.name; body = type_of i l.body }
