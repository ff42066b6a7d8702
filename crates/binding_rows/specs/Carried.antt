-- Which bindings have parts whose conditions are carried.
use Rattle.std.specs.Prelude.{◌≡◌, ℕ, List, [], ◌∷◌, ◌++◌, All}
use Rattle.tree_model.specs.Rows.{binding_row}
use Rattle.tree_model.specs.Trees.{Tree, Part, taken, inner, missing}
use Rattle.row_parts.specs.Numbered.{Numbered, operands_in, filled_in}
use Rattle.operand_laws.specs.Formed.{row_of, IsFormed}
use Rattle.typing_rows.specs.CarriedRows.{IsCarried}
use Rattle.pattern_rows.specs.CarriedPatterns.{IsCarriedPattern}

-- a binding, by its number and its node
pub record IsBindingNode (n : ℕ) (t : Tree) : Type 0 where
  pub formed : IsFormed n t
  pub row : row_of t ≡ binding_row
  pub pattern : IsCarriedPattern (filled_in n t 0)
  pub parameters : All IsCarriedPattern (operands_in n t 1)
  pub body : IsCarried (filled_in n t 5)

-- a part that is one, or is missing
abbrev pub IsBindingPart : ℕ → Part → Type 0
IsBindingPart n (taken t) = Unit {0}
IsBindingPart n (inner t) = IsBindingNode n t
IsBindingPart n (missing at) = Unit {0}

-- an operand that is one
abbrev pub IsBinding : Numbered → Type 0
IsBinding o = IsBindingPart o.number o.part

-- a node with its number
pub record NumberedNode : Type 0 where
  pub number : ℕ
  pub tree : Tree

-- such a node that is a binding
abbrev pub IsNumberedBinding : NumberedNode → Type 0
IsNumberedBinding x = IsBindingNode x.number x.tree

-- the node of a part that is one
abbrev pub node_there : ℕ → Part → List NumberedNode
node_there n (taken t) = []
node_there n (inner t) = record { number = n; tree = t } ∷ []
node_there n (missing at) = []

-- the nodes of operands that are there
abbrev pub nodes_there : List Numbered → List NumberedNode
nodes_there [] = []
nodes_there (o ∷ os) = node_there o.number o.part ++ nodes_there os
