-- The names that patterns bind, row by row, the sides of or-patterns, and which heads of patterns are constructors.
use Rattle.std.specs.Prelude.{ℕ, List, [], ◌∷◌, ◌++◌, Option, Some, None, if◌then◌else◌}
use Rattle.std.specs.Str.{bytes_eq}
use Rattle.token_model.specs.Kinds.{Tok}
use Rattle.tree_model.specs.Trees.{Place, Tree, Part, node, taken, inner, missing}
use Rattle.tree_model.specs.Rows.{Row, pname_row, pcon_row, pparen_row, plist_row, precord_row, papp_row, pcons_row, ptuple_row, por_row, pas_row}
use Rattle.row_parts.specs.Numbered.{Numbered, Written, behind, in_slot, in_slots, all_operands, first_of, token_in, path_in, missing_at_end}
use Rattle.row_parts.specs.Folds.{Rule, operands_by, operand_by, tree_by}

-- the names that an operand binds as a pattern, and as a field of a record pattern
pub record PatternNames : Type 0 where
  pub names : List Tok
  pub field_names : List Tok

-- the names in order
abbrev pub names_of : List PatternNames → List Tok
names_of [] = []
names_of (p ∷ ps) = p.names ++ names_of ps

-- those of fields
abbrev pub names_of_fields : List PatternNames → List Tok
names_of_fields [] = []
names_of_fields (p ∷ ps) = p.field_names ++ names_of_fields ps

-- all but the first
abbrev pub later : {A : Type 0} → List A → List A
later [] = []
later (x ∷ xs) = xs

-- a name that may be missing
abbrev pub name_of : Option Tok → List Tok
name_of None = []
name_of (Some t) = t ∷ []

-- the name among others
abbrev pub find_name : List ℕ → List Tok → Option Tok
find_name n [] = None
find_name n (t ∷ ts) = if bytes_eq t.name n then Some t else find_name n ts

-- a side of an or-pattern: where it stands, and the names that it binds
pub record Side : Type 0 where
  pub at : Place
  pub names : List Tok

-- the sides that these operands are, by the names that they bind
abbrev pub sides_of : List Numbered → List PatternNames → List Side
sides_of [] ps = []
sides_of (o ∷ os) [] = []
sides_of (o ∷ os) (p ∷ ps) = record { at = o.at; names = p.names } ∷ sides_of os ps

-- the names of the first
abbrev pub names_of_first : List Side → List Tok
names_of_first [] = []
names_of_first (first ∷ rest) = first.names

-- the names that a field binds
abbrev pub names_in_field : Tree → Option PatternNames → List Tok
names_in_field t None = name_of (token_in t 1)
names_in_field t (Some p) = p.names

-- a missing pattern, or a missing field
abbrev pub no_pattern : ℕ → Place → PatternNames
no_pattern n at = record { names = []; field_names = [] }

-- the first of some patterns; where there is none it is missing at the end of their node
abbrev pub pattern_or_missing : ℕ → Tree → List PatternNames → PatternNames
pattern_or_missing n t [] = no_pattern n (missing_at_end n t).at
pattern_or_missing n t (p ∷ ps) = p

-- the row of a node
abbrev pub row_at : Tree → Row
row_at (node r x ps) = r

-- A, M.A
abbrev pub constructor_in : Row → Tree → Option Written
constructor_in pcon_row t = Some (path_in t 0 1)
constructor_in _ t = None

-- the path of a part that is a constructor alone
abbrev pub constructor_at : Part → Option Written
constructor_at (taken t) = None
constructor_at (inner t) = constructor_in (row_at t) t
constructor_at (missing at) = None

-- the names that a row binds, in order
abbrev pub names_of_row : Row → ℕ → Tree → List (ℕ × PatternNames) → List Tok
names_of_row pname_row n t ps = name_of (token_in t 0)
names_of_row pparen_row n t ps = names_of (in_slot 1 ps)
names_of_row plist_row n t ps = names_of (in_slot 1 ps)
names_of_row precord_row n t ps = names_of_fields (in_slot 1 ps)
names_of_row papp_row n t ps = (pattern_or_missing n t (in_slot 1 ps)).names
names_of_row pcons_row n t ps = names_of (in_slots ps)
names_of_row ptuple_row n t ps = names_of (in_slots ps)
names_of_row por_row n t ps = names_of_first (sides_of (all_operands n t) (in_slots ps))
names_of_row pas_row n t ps = names_of (in_slots ps) ++ name_of (token_in t 2)
names_of_row _ n t ps = []

-- a row, by what its parts bind
abbrev pub pattern_row : ℕ → Tree → List (ℕ × PatternNames) → PatternNames
pattern_row n (node r x ps) parts = record {
  names = names_of_row r n (node r x ps) parts;
  field_names = names_in_field (node r x ps) (first_of (in_slot 3 parts));
}

-- the rule of patterns
abbrev pub pattern_rule : Rule PatternNames
pattern_rule = record { row = pattern_row; none = no_pattern }

-- the parts of a pattern with this number
unfoldable pub parts_of_pattern : ℕ → Tree → List (ℕ × PatternNames)
parts_of_pattern n (node r x ps) = operands_by pattern_rule (behind n 1) r ps

-- the names that a pattern with this number binds as one of a row
abbrev pub bound_as : Row → ℕ → Tree → List Tok
bound_as r n t = names_of_row r n t (parts_of_pattern n t)

-- the names that a tree with this number binds
unfoldable pub names_of_tree : ℕ → Tree → List Tok
names_of_tree n t = (tree_by pattern_rule n t).names

-- the names that a pattern binds, be it there or missing
unfoldable pub pattern_names : Numbered → List Tok
pattern_names o = (operand_by pattern_rule o).names

-- an operand as a side of an or-pattern
abbrev pub side_at : Numbered → Side
side_at o = record { at = o.at; names = pattern_names o }

-- the names that a field of a record pattern binds
unfoldable pub field_pattern_names : Numbered → List Tok
field_pattern_names o = (operand_by pattern_rule o).field_names

-- the names that some bind, in order
abbrev pub names_in : (Numbered → List Tok) → List Numbered → List Tok
names_in f [] = []
names_in f (o ∷ os) = f o ++ names_in f os
