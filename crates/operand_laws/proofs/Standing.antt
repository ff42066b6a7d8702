-- An operand's expression, pattern and type expression have its number and its place, whatever the row is.
use Rattle.std.proofs.Common.{◌≡◌, ◌+◌, ℕ, Bool, true, false, List, Option, Some, None, refl, if◌then◌else◌}
use Rattle.token_model.specs.Kinds.{Tok, Kind, upper}
use Rattle.tree_model.specs.Trees.{Place, Part, taken, inner, missing, node}
use Rattle.tree_model.specs.Rows.{Row, pname_row, pparen_row, papp_row, pas_row, tvar_row, epath_row, eparen_row, ebegin_row, erecord_row, eif_row}
use Rattle.row_parts.specs.Numbered.{Numbered}
use Rattle.typing_model.specs.Parts.{Written, Expression, Pattern, TypeExpression, Child, path_in, token_in, expression_in, expressions_in, pattern_in, types_in, first_of}
use Rattle.typing_model.specs.Meanings.{children_of}
use Rattle.typing_model.specs.Expressions.{expression_row, path_expression, parenthesised, begun, if_expression, update_expression, record_expression, fields_in, is_some}
use Rattle.typing_model.specs.Patterns.{pattern_row, pname, pparen, papp, pas}
use Rattle.typing_model.specs.TypeExpressions as types
use Rattle.typing_model.specs.TypeExpressions.{tvar}
use Rattle.operand_laws.specs.Operands.{number_of, part_expression, part_pattern, part_type, expression_of, pattern_of, type_of}

-- this node and this place are those of a number and a place
pub record StandsAt (node : ℕ) (place : Place) (n : ℕ) (at : Place) : Type 0 where
  pub number : node ≡ n
  pub where_it_is : place ≡ at

-- a number and a place are themselves
itself : (n : ℕ) (at : Place) → StandsAt n at n at
itself n at = record { number = refl; where_it_is = refl }

-- a path to a value or a constructor
kind_stands : (n : ℕ) (at : Place) (q : List Tok) (start end col : ℕ) (name : List ℕ) (k : Kind) →
    let e = path_expression n at (record { qualifiers = q; last = Some (record { kind = k; start = start; end = end; col = col; name = name }) }) in StandsAt e.node e.at n at
kind_stands n at q start end col name upper = itself n at
kind_stands n at q start end col name _ = itself n at

-- the same with a last token that may be missing
path_stands : (n : ℕ) (at : Place) (p : Written) → let e = path_expression n at p in StandsAt e.node e.at n at
path_stands n at p = by p.last
  where
    by : (o : Option Tok) → let e = path_expression n at (record { qualifiers = p.qualifiers; last = o }) in StandsAt e.node e.at n at
    by None = itself n at
    by (Some t) = kind_stands n at p.qualifiers t.start t.end t.col t.name t.kind

-- an expression in parentheses, with or without a type
paren_stands : (n : ℕ) (at : Place) (e : Expression) (o : Option TypeExpression) → StandsAt (parenthesised n at e o).node (parenthesised n at e o).at n at
paren_stands n at e None = itself n at
paren_stands n at e (Some t) = itself n at

-- begin and end, with or without an expression
begun_stands : (n : ℕ) (at : Place) (o : Option Expression) → StandsAt (begun n at o).node (begun n at o).at n at
begun_stands n at None = itself n at
begun_stands n at (Some e) = itself n at

-- a condition, with or without a second branch
if_stands : (n : ℕ) (at : Place) (e f : Expression) (o : Option Expression) → StandsAt (if_expression n at e f o).node (if_expression n at e f o).at n at
if_stands n at e f None = itself n at
if_stands n at e f (Some g) = itself n at

-- one of two expressions
either_stands : (b : Bool) (n : ℕ) (at : Place) (x y : Expression) → StandsAt x.node x.at n at → StandsAt y.node y.at n at → StandsAt (if b then x else y).node (if b then x else y).at n at
either_stands true n at x y p q = p
either_stands false n at x y p q = q

-- an expression by its row
pub expression_row_stands : (r : Row) (n : ℕ) (at : Place) (cs : List Child) → StandsAt (expression_row r n at cs).node (expression_row r n at cs).at n at
unfolding expression_row
expression_row_stands epath_row n at cs = path_stands n at (path_in 0 1 cs)
expression_row_stands eparen_row n at cs = paren_stands n at (expression_in 1 cs) (first_of (types_in 3 cs))
expression_row_stands ebegin_row n at cs = begun_stands n at (first_of (expressions_in 1 cs))
expression_row_stands erecord_row n at cs =
    either_stands (is_some (token_in 4 cs)) n at (update_expression n at (expression_in 1 cs) (fields_in 5 cs)) (record_expression n at (expression_in 1 cs) (first_of (expressions_in 3 cs)) (fields_in 5 cs)) (itself n at) (itself n at)
expression_row_stands eif_row n at cs = if_stands n at (expression_in 1 cs) (expression_in 3 cs) (first_of (expressions_in 5 cs))
expression_row_stands _ n at cs = itself n at

-- a name that may be missing
name_stands : (n : ℕ) (at : Place) (o : Option Tok) → StandsAt (pname n at o).node (pname n at o).at n at
name_stands n at None = itself n at
name_stands n at (Some t) = itself n at

-- a pattern in parentheses, with or without a type
pattern_paren_stands : (n : ℕ) (at : Place) (p : Pattern) (o : Option TypeExpression) → StandsAt (pparen n at p o).node (pparen n at p o).at n at
pattern_paren_stands n at p None = itself n at
pattern_paren_stands n at p (Some t) = itself n at

-- a constructor with its pattern
constructor_stands : (n : ℕ) (at : Place) (head p : Pattern) → StandsAt (papp n at head p).node (papp n at head p).at n at
constructor_stands n at head p = by head.constructor
  where
    by : (o : Option Written) → let q = papp n at (record head { constructor = o }) p in StandsAt q.node q.at n at
    by None = itself n at
    by (Some path) = itself n at

-- a pattern with a name that may be missing
as_stands : (n : ℕ) (at : Place) (p : Pattern) (o : Option Tok) → StandsAt (pas n at p o).node (pas n at p o).at n at
as_stands n at p None = itself n at
as_stands n at p (Some t) = itself n at

-- a pattern by its row
pub pattern_row_stands : (r : Row) (n : ℕ) (at : Place) (cs : List Child) → StandsAt (pattern_row r n at cs).node (pattern_row r n at cs).at n at
unfolding pattern_row
pattern_row_stands pname_row n at cs = name_stands n at (token_in 0 cs)
pattern_row_stands pparen_row n at cs = pattern_paren_stands n at (pattern_in 1 cs) (first_of (types_in 3 cs))
pattern_row_stands papp_row n at cs = constructor_stands n at (pattern_in 0 cs) (pattern_in 1 cs)
pattern_row_stands pas_row n at cs = as_stands n at (pattern_in 0 cs) (token_in 2 cs)
pattern_row_stands _ n at cs = itself n at

-- a type variable that may be missing
variable_stands : (n : ℕ) (at : Place) (o : Option Tok) → StandsAt (tvar n at o).node (tvar n at o).at n at
variable_stands n at None = itself n at
variable_stands n at (Some t) = itself n at

-- a type expression by its row
pub type_row_stands : (r : Row) (n : ℕ) (at : Place) (cs : List Child) → StandsAt (types.type_row r n at cs).node (types.type_row r n at cs).at n at
unfolding types.type_row
type_row_stands tvar_row n at cs = variable_stands n at (token_in 0 cs)
type_row_stands _ n at cs = itself n at

-- what is at a place, as an expression
part_expression_stands : (n : ℕ) (at : Place) (p : Part) → StandsAt (part_expression n at p).node (part_expression n at p).at n at
part_expression_stands n at (taken t) = itself n at
part_expression_stands n at (inner (node r x ps)) = let h = expression_row_stands r n at (children_of (n + 1) r ps) in record { number = h.number; where_it_is = h.where_it_is }
part_expression_stands n at (missing p) = itself n at

-- the same as a pattern
part_pattern_stands : (n : ℕ) (at : Place) (p : Part) → StandsAt (part_pattern n at p).node (part_pattern n at p).at n at
part_pattern_stands n at (taken t) = itself n at
part_pattern_stands n at (inner (node r x ps)) = let h = pattern_row_stands r n at (children_of (n + 1) r ps) in record { number = h.number; where_it_is = h.where_it_is }
part_pattern_stands n at (missing p) = itself n at

-- the same as a type expression
part_type_stands : (n : ℕ) (at : Place) (p : Part) → StandsAt (part_type n at p).node (part_type n at p).at n at
part_type_stands n at (taken t) = itself n at
part_type_stands n at (inner (node r x ps)) = let h = type_row_stands r n at (children_of (n + 1) r ps) in record { number = h.number; where_it_is = h.where_it_is }
part_type_stands n at (missing p) = itself n at

-- the expression of an operand has its number and its place
pub expression_of_stands : (i : ℕ) (o : Numbered) → StandsAt (expression_of i o).node (expression_of i o).at (number_of i o.number) o.at
expression_of_stands i o = part_expression_stands (number_of i o.number) o.at o.part

-- so does its pattern
pub pattern_of_stands : (i : ℕ) (o : Numbered) → StandsAt (pattern_of i o).node (pattern_of i o).at (number_of i o.number) o.at
pattern_of_stands i o = part_pattern_stands (number_of i o.number) o.at o.part

-- and its type expression
pub type_of_stands : (i : ℕ) (o : Numbered) → StandsAt (type_of i o).node (type_of i o).at (number_of i o.number) o.at
type_of_stands i o = part_type_stands (number_of i o.number) o.at o.part
