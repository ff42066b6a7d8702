-- Declarations as they are written, by the plain trees of their nodes.
use Rattle.std.specs.Prelude.{ℕ, Bool, List, [], ◌∷◌, map, Option, Some, None, option_map}
use Rattle.std.specs.Option.{is_some}
use Rattle.token_model.specs.Kinds.{Tok}
use Rattle.tree_model.specs.Rows.{Row, alias_row, variant_row, record_row}
use Rattle.tree_model.specs.Trees.{Tree, Part, node, taken, inner, missing}
use Rattle.row_parts.specs.Numbered.{Numbered, operands_in, first_in, filled_in, token_in, tokens_in, operand_view, token_view}
use Rattle.syntax_tree.specs.View.{tok_of}
use Rattle.decl_groups.specs.declared.groups.ConstructorPart.{ConstructorPart}
use Rattle.decl_groups.specs.declared.groups.DeclarationPart.{DeclarationPart}
use Rattle.decl_groups.specs.declared.groups.LabelPart.{LabelPart}
use Rattle.decl_groups.specs.declared.groups.Right.{Right as CodeRight}
use Rattle.decl_groups.specs.declared.groups.Right.TheVariants as code_right
use Rattle.decl_groups.specs.declared.groups.Told.{Told as CodeTold}
use Rattle.decl_groups.specs.declared.groups.Told.TheVariants as code_told

-- A, A of t
pub record Constructor : Type 0 where
  pub number : ℕ
  pub name : Option Tok
  pub argument : Option Numbered

-- l : t, mutable l : t
pub record Label : Type 0 where
  pub number : ℕ
  pub is_mutable : Bool
  pub name : Option Tok
  pub body : Numbered

-- what a declaration tells of its values
pub data Told : Type 0 where
  constructors : List Constructor → Told
  labels : List Label → Told

-- a right side: none, another type, another type with what is told, or what is told alone, by the numbers of their rows
pub data Right : Type 0 where
  abstract : Right
  abbreviation : ℕ → Numbered → Right
  reexport : ℕ → Numbered → ℕ → Told → Right
  own : ℕ → Told → Right

-- ('a, 'b) t = .., by its number and that of its head
pub record Declaration : Type 0 where
  pub number : ℕ
  pub head : ℕ
  pub parameters : List Tok
  pub name : Option Tok
  pub right : Right

-- a constructor of a node with this number
abbrev pub constructor_in : ℕ → Tree → Constructor
constructor_in n t = record { number = n; name = token_in t 0; argument = first_in n t 2 }

-- a label of a node with this number
abbrev pub label_in : ℕ → Tree → Label
label_in n t = record { number = n; is_mutable = is_some (token_in t 0); name = token_in t 1; body = filled_in n t 3 }

-- what a part is in front of others, where it is a node
abbrev pub node_first : {A : Type 0} → (ℕ → Tree → A) → ℕ → Part → List A → List A
node_first f n (taken t) xs = xs
node_first f n (inner t) xs = f n t ∷ xs
node_first f n (missing at) xs = xs

-- what the nodes among operands are
abbrev pub nodes_as : {A : Type 0} → (ℕ → Tree → A) → List Numbered → List A
nodes_as f [] = []
nodes_as f (o ∷ os) = node_first f o.number o.part (nodes_as f os)

-- what a row tells of values; another row tells nothing
abbrev pub told_of : Row → ℕ → Tree → Option Told
told_of variant_row n t = Some (constructors (nodes_as constructor_in (operands_in n t 1)))
told_of record_row n t = Some (labels (nodes_as label_in (operands_in n t 1)))
told_of _ n t = None

-- what a node tells of values
abbrev pub told_at : ℕ → Tree → Option Told
told_at n (node r x ps) = told_of r n (node r x ps)

-- what a part tells of values
abbrev pub told_part : ℕ → Part → Option Told
told_part n (taken t) = None
told_part n (inner t) = told_at n t
told_part n (missing at) = None

-- an alias with what is told of it, or without
abbrev pub alias_with : ℕ → Numbered → ℕ → Option Told → Right
alias_with n ty m None = abbreviation n ty
alias_with n ty m (Some k) = reexport n ty m k

-- an alias by what is in its slot for what it tells
abbrev pub alias_by : ℕ → Numbered → Option Numbered → Right
alias_by n ty None = abbreviation n ty
alias_by n ty (Some o) = alias_with n ty o.number (told_part o.number o.part)

-- the right side of the row of an alias
abbrev pub alias_in : ℕ → Tree → Right
alias_in n t = alias_by n (filled_in n t 0) (first_in n t 2)

-- the right side of another row
abbrev pub own_by : ℕ → Option Told → Right
own_by n None = abstract
own_by n (Some k) = own n k

-- a right side by its row
abbrev pub right_row : Row → ℕ → Tree → Right
right_row alias_row n t = alias_in n t
right_row r n t = own_by n (told_of r n t)

-- the right side that a part is; one that is missing tells nothing
abbrev pub right_part : ℕ → Part → Right
right_part n (taken t) = abstract
right_part n (inner (node r x ps)) = right_row r n (node r x ps)
right_part n (missing at) = abstract

-- the right side in a slot, which may be empty
abbrev pub right_of : Option Numbered → Right
right_of None = abstract
right_of (Some o) = right_part o.number o.part

-- the parameters in a head, which may be missing
abbrev pub parameters_in : Part → List Tok
parameters_in (taken t) = []
parameters_in (inner t) = tokens_in t 1
parameters_in (missing at) = []

-- the name in a head
abbrev pub name_in : Part → Option Tok
name_in (taken t) = None
name_in (inner t) = token_in t 4
name_in (missing at) = None

-- the declaration of a node with this number
abbrev pub declaration_in : ℕ → Tree → Declaration
declaration_in n t = record { number = n; head = (filled_in n t 0).number; parameters = parameters_in (filled_in n t 0).part; name = name_in (filled_in n t 0).part; right = right_of (first_in n t 2) }

-- the declarations of an item of the row `type` with this number
abbrev pub declarations_in : ℕ → Tree → List Declaration
declarations_in n t = nodes_as declaration_in (operands_in n t 2)

-- a constructor of the code
abbrev pub constructor_view : ConstructorPart → Constructor
constructor_view p = record { number = p.number; name = token_view p.name; argument = option_map operand_view p.argument }

-- a label of the code
abbrev pub label_view : LabelPart → Label
label_view p = record { number = p.number; is_mutable = p.is_mutable; name = token_view p.name; body = operand_view p.body }

-- what is told, of the code
abbrev pub told_view : CodeTold → Told
told_view (code_told.Constructors ps) = constructors (map constructor_view ps.items)
told_view (code_told.Labels ps) = labels (map label_view ps.items)

-- a right side of the code
abbrev pub right_view : CodeRight → Right
right_view code_right.Abstract = abstract
right_view (code_right.Abbreviation n ty) = abbreviation n (operand_view ty)
right_view (code_right.Reexport n ty m k) = reexport n (operand_view ty) m (told_view k)
right_view (code_right.Own n k) = own n (told_view k)

-- a declaration of the code
abbrev pub declaration_view : DeclarationPart → Declaration
declaration_view d = record { number = d.number; head = d.head; parameters = map (λ t. tok_of t.now) d.parameters.items; name = token_view d.name; right = right_view d.right }
